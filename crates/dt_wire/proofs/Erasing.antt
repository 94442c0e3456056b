-- what readers leave behind, whatever they read
use Rattle.std.proofs.Common.{◌≡◌, ℕ, zero, suc, ◌+◌, ◌*◌, ◌-◌, ◌<◌, ◌≤◌, [], ◌∷◌, List, length, ◌==◌, ◌&&◌, nat_le, nat_lt, Bool, true, false, is_some, if◌then◌else◌, Option, Some, None, Result, Ok, Err, refl, sym, ap, ◌∙◌, arith, slice_get}
use Rattle.dt_form.specs.declared.envelope.Combiner.{Combiner}
use Rattle.dt_form.specs.declared.envelope.Combiner.TheVariants as tag
use Rattle.dt_form.specs.declared.form.Dist.TheVariants.{Block, Cyclic, Whole}
use Rattle.dt_form.specs.declared.form.FormOf.{FormOf}
use Rattle.dt_type.specs.declared.datatype.Seen.{Seen}
use Rattle.dt_type.specs.Form.{result_of}
use Rattle.dt_wire.specs.Reading.{Bytes, Reader, bind, on_ok, ◌>>=◌, give, read_as, item_at, map_at, pair_at, list_at, byte_in, number_at, int_at, address_at, counted_at, int_block_at, addr_block_at, part_at, sub_dim_at, dist_dim_at, darg_at, dist_in, orders, kinds, zero_in, where_true, is_byte, parts_at, behind, tag_in, one_at, form_at, magic_at, text_at}
use Rattle.dt_wire.specs.Skipping.{Skip, erased, over, times, skip_within, skip_byte, skip, skip_items, skip_list, skip_dist_dim, skip_sub_dims, skip_dist_dims, skip_disps, skip_part, skip_zeros, skip_parts, skip_layer, skip_magic}

-- the same is left
abbrev pub Same : Skip → Skip → Type 0
Same f g = (bytes : Bytes) → f bytes ≡ g bytes

abbrev pub left_by : {A : Type 0} → Reader A → Skip
left_by r bytes = erased (r bytes)

abbrev pub and_then : Skip → Skip → Skip
and_then f g bytes = over (f bytes) g

over_same : (e : Result Bytes Bytes) (f g : Skip) → Same f g → over e f ≡ over e g
over_same (Ok rest) f g same = same rest
over_same (Err left) f g same = refl

over_over : (e : Result Bytes Bytes) (f g : Skip) → over (over e f) g ≡ over e (and_then f g)
over_over (Ok rest) f g = refl
over_over (Err left) f g = refl

then_same : (f f' g g' : Skip) → Same f f' → Same g g' → Same (and_then f g) (and_then f' g')
then_same f f' g g' first next bytes = ap (λ e. over e g) (first bytes) ∙ over_same (f' bytes) g g' next

times_same : (f g : Skip) → Same f g → (n : ℕ) → Same (times f n) (times g n)
times_same f g same zero bytes = refl
times_same f g same (suc n) bytes = then_same f g (times f n) (times g n) same (times_same f g same n) bytes

-- so many times, and then so many
times_more : (f : Skip) (a b : ℕ) → Same (and_then (times f a) (times f b)) (times f (a + b))
times_more f zero b bytes = let same : b ≡ zero + b = omega arith in ap (λ (k : ℕ). times f k bytes) same
times_more f (suc a) b bytes =
    let same : suc (a + b) ≡ suc a + b = omega arith in
    over_over (f bytes) (times f a) (times f b)
    ∙ (over_same (f bytes) (and_then (times f a) (times f b)) (times f (a + b)) (times_more f a b) ∙ ap (λ (k : ℕ). times f k bytes) same)

times_times : (f : Skip) (size n : ℕ) → Same (times (times f size) n) (times f (n * size))
times_times f size zero bytes = let none : zero ≡ zero * size = omega arith in ap (λ (k : ℕ). times f k bytes) none
times_times f size (suc n) bytes =
    let same : size + n * size ≡ suc n * size = omega arith in
    over_same (times f size bytes) (times (times f size) n) (times f (n * size)) (times_times f size n)
    ∙ (times_more f size (n * size) bytes ∙ ap (λ (k : ℕ). times f k bytes) same)

-- one time of so many
pub times_next : (f : Skip) (n i : ℕ) (bytes rest : Bytes) → i < n → f bytes ≡ Ok rest → times f (n - i) bytes ≡ times f (n - (i + 1)) rest
times_next f n i bytes rest less e =
    let more : n - i ≡ suc (n - (i + 1)) = omega (arith, less) in
    ap (λ (k : ℕ). times f k bytes) more ∙ ap (λ r. over r (times f (n - (i + 1)))) e

pub times_stop : (f : Skip) (n i : ℕ) (bytes left : Bytes) → i < n → f bytes ≡ Err left → times f (n - i) bytes ≡ Err left
times_stop f n i bytes left less e =
    let more : n - i ≡ suc (n - (i + 1)) = omega (arith, less) in
    ap (λ (k : ℕ). times f k bytes) more ∙ ap (λ r. over r (times f (n - (i + 1)))) e

pub times_end : (f : Skip) (n i : ℕ) (bytes : Bytes) → n ≤ i → times f (n - i) bytes ≡ Ok bytes
times_end f n i bytes less = let none : n - i ≡ 0 = omega (arith, less) in ap (λ (k : ℕ). times f k bytes) none

-- what was read doesn't matter
erased_give : {A B : Type 0} (e : Result (A × Bytes) Bytes) (g : A → B) → erased (on_ok e (λ x. give (g x))) ≡ erased e
erased_give (Ok x) g = refl
erased_give (Err left) g = refl

left_map : {A B : Type 0} (g : A → B) (r : Reader A) → Same (left_by (map_at g r)) (left_by r)
unfolding map_at bind
left_map g r bytes = erased_give (r bytes) g

erased_both : {A B C : Type 0} (e : Result (A × Bytes) Bytes) (s : Reader B) (h : A → B → C) → erased (on_ok e (λ x. s >>= λ y. give (h x y))) ≡ over (erased e) (left_by s)
unfolding bind
erased_both (Ok x) s h = erased_give (s x.1) (h x.0)
erased_both (Err left) s h = refl

left_pair : {A B : Type 0} (r : Reader A) (s : Reader B) → Same (left_by (pair_at r s)) (and_then (left_by r) (left_by s))
unfolding pair_at bind
left_pair r s bytes = erased_both (r bytes) s (λ x y. (x, y))

pub left_list : {A : Type 0} (r : Reader A) (n : ℕ) → Same (left_by (list_at r n)) (times (left_by r) n)
unfolding bind
left_list r zero bytes = refl
left_list r (suc n) bytes = erased_both (r bytes) (list_at r n) (λ x xs. x ∷ xs) ∙ over_same (erased (r bytes)) (left_by (list_at r n)) (times (left_by r) n) (left_list r n)

-- a reader that leaves what is passed over so
abbrev pub Passes : {A : Type 0} → Reader A → Skip → Type 0
Passes r f = Same (left_by r) f

pass_map : {A B : Type 0} (g : A → B) (r : Reader A) (f : Skip) → Passes r f → Passes (map_at g r) f
pass_map g r f h bytes = left_map g r bytes ∙ h bytes

pass_pair : {A B : Type 0} (r : Reader A) (s : Reader B) (f g : Skip) → Passes r f → Passes s g → Passes (pair_at r s) (and_then f g)
pass_pair r s f g first next bytes = left_pair r s bytes ∙ then_same (left_by r) f (left_by s) g first next bytes

pass_list : {A : Type 0} (r : Reader A) (f : Skip) (n : ℕ) → Passes r f → Passes (list_at r n) (times f n)
pass_list r f n h bytes = left_list r n bytes ∙ times_same (left_by r) f h n bytes

pass_counted_in : {A : Type 0} (r : Reader A) (f : Skip) → Passes r f → (e : Result (ℕ × Bytes) Bytes) → erased (on_ok e (λ n. list_at r n)) ≡ skip_items f e
pass_counted_in r f h (Ok x) = pass_list r f x.0 h x.1
pass_counted_in r f h (Err left) = refl

pass_counted : {A : Type 0} (r : Reader A) (f : Skip) → Passes r f → Passes (counted_at r) (skip_list f)
unfolding counted_at skip_list bind
pass_counted r f h bytes = pass_counted_in r f h (number_at bytes)

-- so many bytes
skip_more : (a b : ℕ) → Same (and_then (skip a) (skip b)) (skip (a + b))
unfolding skip
skip_more a b = times_more skip_byte a b

pub skip_times : (size n : ℕ) → Same (times (skip size) n) (skip (n * size))
unfolding skip
skip_times size n = times_times skip_byte size n

merged : (a b : ℕ) (f : Skip) → Same (and_then (skip a) (and_then (skip b) f)) (and_then (skip (a + b)) f)
merged a b f bytes = sym (over_over (skip a bytes) (skip b) f) ∙ ap (λ e. over e f) (skip_more a b bytes)

pass_int : Passes int_at (skip 4)
unfolding int_at skip
pass_int = pass_map _ (list_at (item_at byte_in) 4) (times skip_byte 4) (left_list (item_at byte_in) 4)

pass_address : Passes address_at (skip 8)
unfolding address_at skip
pass_address = pass_map _ (list_at (item_at byte_in) 8) (times skip_byte 8) (left_list (item_at byte_in) 8)

pass_two : {A B : Type 0} (r : Reader A) (s : Reader B) (a b : ℕ) → Passes r (skip a) → Passes s (skip b) → Passes (pair_at r s) (skip (a + b))
pass_two r s a b first next bytes = pass_pair r s (skip a) (skip b) first next bytes ∙ skip_more a b bytes

pass_int_block : Passes int_block_at (skip 8)
unfolding int_block_at
pass_int_block = pass_map _ (pair_at int_at int_at) (skip 8) (pass_two int_at int_at 4 4 pass_int pass_int)

pass_addr_block : Passes addr_block_at (skip 12)
unfolding addr_block_at
pass_addr_block = pass_map _ (pair_at int_at address_at) (skip 12) (pass_two int_at address_at 4 8 pass_int pass_address)

pass_sub_dim : Passes sub_dim_at (skip 12)
unfolding sub_dim_at
pass_sub_dim = pass_map _ (pair_at int_at (pair_at int_at int_at)) (skip 12) (pass_two int_at (pair_at int_at int_at) 4 8 pass_int (pass_two int_at int_at 4 4 pass_int pass_int))

pass_darg : Passes darg_at (skip 4)
unfolding darg_at
pass_darg = pass_map _ int_at (skip 4) pass_int

-- a byte that stands for something
some_left : {A : Type 0} (o : Option A) (here rest : Bytes) → erased (read_as o here rest) ≡ (if is_some o then Ok rest else Err here)
some_left None here rest = refl
some_left (Some x) here rest = refl

abbrev StandsWithin : {A : Type 0} → (ℕ → Option A) → ℕ → ℕ → Type 0
StandsWithin spelled least most = (b : ℕ) → is_some (spelled b) ≡ (nat_le least b && nat_le b most)

pass_item : {A : Type 0} (spelled : ℕ → Option A) (least most : ℕ) → StandsWithin spelled least most → Passes (item_at spelled) (skip_within least most)
pass_item spelled least most h [] = refl
pass_item spelled least most h (b ∷ bytes) = some_left (spelled b) (b ∷ bytes) bytes ∙ ap (λ t. if t then Ok bytes else Err (b ∷ bytes)) (h b)

some_below : {A : Type 0} (xs : List A) (b : ℕ) → is_some (slice_get xs b) ≡ nat_lt b (length xs)
some_below [] b = grind arith
some_below (x ∷ xs) zero = grind arith
some_below (x ∷ xs) (suc b) = some_below xs b ∙ grind arith

some_true : {A : Type 0} (t : Bool) (x : A) → is_some (where_true t x) ≡ t
some_true true x = refl
some_true false x = refl

kind_within : StandsWithin (slice_get kinds) 0 22
kind_within b = some_below kinds b ∙ grind arith

order_within : StandsWithin (slice_get orders) 0 1
order_within b = some_below orders b ∙ grind arith

dist_within : StandsWithin dist_in 1 3
dist_within zero = refl
dist_within (suc b) = some_below (Block ∷ Cyclic ∷ Whole ∷ []) b ∙ grind arith

zero_within : StandsWithin zero_in 0 0
zero_within b = some_true (b == 0) b ∙ grind arith

byte_within : (x : ℕ) → StandsWithin (is_byte x) x x
byte_within x b = some_true (b == x) b ∙ grind arith

pass_dist_dim : Passes dist_dim_at skip_dist_dim
unfolding dist_dim_at skip_dist_dim
pass_dist_dim =
    pass_map _ (pair_at int_at (pair_at (item_at dist_in) (pair_at darg_at int_at))) (and_then (skip 4) (and_then (skip_within 1 3) (skip 8)))
    (pass_pair int_at (pair_at (item_at dist_in) (pair_at darg_at int_at)) (skip 4) (and_then (skip_within 1 3) (skip 8)) pass_int
    (pass_pair (item_at dist_in) (pair_at darg_at int_at) (skip_within 1 3) (skip 8) (pass_item dist_in 1 3 dist_within) (pass_two darg_at int_at 4 4 pass_darg pass_int)))

pub pass_zeros : Passes (list_at (item_at zero_in) 4) skip_zeros
unfolding skip_zeros
pass_zeros = pass_list (item_at zero_in) (skip_within 0 0) 4 (pass_item zero_in 0 0 zero_within)

-- arguments in front of an old type
module _ {A : Type 0} (old : Reader A) (f : Skip) (passes : Passes old f) where
  before : {B : Type 0} (r : Reader B) (g : Skip) → Passes r g → Passes (pair_at r old) (and_then g f)
  before r g h = pass_pair r old g f h passes

  and_before : {B C : Type 0} (r : Reader B) (s : Reader C) (g h : Skip) → Passes r g → Passes s (and_then h f) → Passes (pair_at r s) (and_then (and_then g h) f)
  and_before r s g h first next bytes = pass_pair r s g (and_then h f) first next bytes ∙ sym (over_over (g bytes) h f)

  more_before : {B C : Type 0} (r : Reader B) (s : Reader C) (a b : ℕ) → Passes r (skip a) → Passes s (and_then (skip b) f) → Passes (pair_at r s) (and_then (skip (a + b)) f)
  more_before r s a b first next bytes = and_before r s (skip a) (skip b) first next bytes ∙ ap (λ e. over e f) (skip_more a b bytes)

  pass_part : Passes (pair_at int_at (pair_at address_at old)) (skip_part f)
  unfolding skip_part
  pass_part = more_before int_at (pair_at address_at old) 4 8 pass_int (before address_at (skip 8) pass_address)

-- the bytes behind a tag
module _ (below : Reader (FormOf Seen)) where
  abbrev old_at : Reader Seen
  old_at = map_at result_of below

  abbrev gone : Skip
  gone = left_by below

  old : Passes old_at gone
  old = left_map result_of below

  abbrev Past : ℕ → Combiner → Type 0
  Past levels c = Passes (behind levels old_at c) (skip_layer levels gone c)

  past_contiguous : (levels : ℕ) → Past levels tag.Contiguous
  past_contiguous levels = pass_map _ (pair_at int_at old_at) (and_then (skip 4) gone) (before old_at gone old int_at (skip 4) pass_int)

  past_vector : (levels : ℕ) → Past levels tag.Vector
  past_vector levels =
      pass_map _ (pair_at int_at (pair_at int_at (pair_at int_at old_at))) (and_then (skip 12) gone)
      (more_before old_at gone old int_at (pair_at int_at (pair_at int_at old_at)) 4 8 pass_int
      (more_before old_at gone old int_at (pair_at int_at old_at) 4 4 pass_int (before old_at gone old int_at (skip 4) pass_int)))

  past_hvector : (levels : ℕ) → Past levels tag.Hvector
  past_hvector levels =
      pass_map _ (pair_at int_at (pair_at int_at (pair_at address_at old_at))) (and_then (skip 16) gone)
      (more_before old_at gone old int_at (pair_at int_at (pair_at address_at old_at)) 4 12 pass_int
      (more_before old_at gone old int_at (pair_at address_at old_at) 4 8 pass_int (before old_at gone old address_at (skip 8) pass_address)))

  past_resized : (levels : ℕ) → Past levels tag.Resized
  past_resized levels =
      pass_map _ (pair_at address_at (pair_at address_at old_at)) (and_then (skip 16) gone)
      (more_before old_at gone old address_at (pair_at address_at old_at) 8 8 pass_address (before old_at gone old address_at (skip 8) pass_address))

  list_before : {A : Type 0} (r : Reader A) (f : Skip) → Passes r f → Passes (pair_at (counted_at r) old_at) (and_then (skip_list f) gone)
  list_before r f h = before old_at gone old (counted_at r) (skip_list f) (pass_counted r f h)

  past_indexed : (levels : ℕ) → Past levels tag.Indexed
  past_indexed levels = pass_map _ (pair_at (counted_at int_block_at) old_at) (and_then (skip_list (skip 8)) gone) (list_before int_block_at (skip 8) pass_int_block)

  past_hindexed : (levels : ℕ) → Past levels tag.Hindexed
  past_hindexed levels = pass_map _ (pair_at (counted_at addr_block_at) old_at) (and_then (skip_list (skip 12)) gone) (list_before addr_block_at (skip 12) pass_addr_block)

  past_disps : {A : Type 0} (r : Reader A) (size : ℕ) → Passes r (skip size) → Passes (pair_at int_at (pair_at (counted_at r) old_at)) (and_then (skip_disps size) gone)
  unfolding skip_disps
  past_disps r size h = and_before old_at gone old int_at (pair_at (counted_at r) old_at) (skip 4) (skip_list (skip size)) pass_int (list_before r (skip size) h)

  past_indexed_block : (levels : ℕ) → Past levels tag.IndexedBlock
  past_indexed_block levels = pass_map _ (pair_at int_at (pair_at (counted_at int_at) old_at)) (and_then (skip_disps 4) gone) (past_disps int_at 4 pass_int)

  past_hindexed_block : (levels : ℕ) → Past levels tag.HindexedBlock
  past_hindexed_block levels = pass_map _ (pair_at int_at (pair_at (counted_at address_at) old_at)) (and_then (skip_disps 8) gone) (past_disps address_at 8 pass_address)

  past_parts : (levels : ℕ) → Passes (parts_at levels old_at) (skip_parts levels gone)
  unfolding part_at skip_parts
  past_parts zero = pass_map _ (list_at (item_at zero_in) 4) skip_zeros pass_zeros
  past_parts (suc levels) =
      pass_counted (part_at old_at) (skip_part gone) (pass_map _ (pair_at int_at (pair_at address_at old_at)) (skip_part gone) (pass_part old_at gone old))

  past_struct : (levels : ℕ) → Past levels tag.Struct
  past_struct levels = pass_map _ (parts_at levels old_at) (skip_parts levels gone) (past_parts levels)

  past_subarray : (levels : ℕ) → Past levels tag.Subarray
  unfolding skip_sub_dims
  past_subarray levels =
      pass_map _ (pair_at (item_at (slice_get orders)) (pair_at (counted_at sub_dim_at) old_at)) (and_then (and_then (skip_within 0 1) (skip_list (skip 12))) gone)
      (and_before old_at gone old (item_at (slice_get orders)) (pair_at (counted_at sub_dim_at) old_at) (skip_within 0 1) (skip_list (skip 12)) (pass_item (slice_get orders) 0 1 order_within) (list_before sub_dim_at (skip 12) pass_sub_dim))

  abbrev ordered : Skip
  ordered = and_then (skip_within 0 1) (skip_list skip_dist_dim)

  past_darray : (levels : ℕ) → Past levels tag.Darray
  unfolding skip_dist_dims
  past_darray levels bytes =
      pass_map _ (pair_at int_at (pair_at int_at (pair_at (item_at (slice_get orders)) (pair_at (counted_at dist_dim_at) old_at)))) (and_then (and_then (skip 4) (and_then (skip 4) ordered)) gone)
      (and_before old_at gone old int_at (pair_at int_at (pair_at (item_at (slice_get orders)) (pair_at (counted_at dist_dim_at) old_at))) (skip 4) (and_then (skip 4) ordered) pass_int
      (and_before old_at gone old int_at (pair_at (item_at (slice_get orders)) (pair_at (counted_at dist_dim_at) old_at)) (skip 4) ordered pass_int
      (and_before old_at gone old (item_at (slice_get orders)) (pair_at (counted_at dist_dim_at) old_at) (skip_within 0 1) (skip_list skip_dist_dim) (pass_item (slice_get orders) 0 1 order_within) (list_before dist_dim_at skip_dist_dim pass_dist_dim)))) bytes
      ∙ ap (λ e. over e gone) (merged 4 4 ordered bytes)

  past_layer : (levels : ℕ) (c : Combiner) → Past levels c
  past_layer levels tag.Named = pass_map _ (item_at (slice_get kinds)) (skip_within 0 22) (pass_item (slice_get kinds) 0 22 kind_within)
  past_layer levels tag.Dup = pass_map _ old_at gone old
  past_layer levels tag.Contiguous = past_contiguous levels
  past_layer levels tag.Vector = past_vector levels
  past_layer levels tag.Hvector = past_hvector levels
  past_layer levels tag.Indexed = past_indexed levels
  past_layer levels tag.Hindexed = past_hindexed levels
  past_layer levels tag.IndexedBlock = past_indexed_block levels
  past_layer levels tag.HindexedBlock = past_hindexed_block levels
  past_layer levels tag.Struct = past_struct levels
  past_layer levels tag.Subarray = past_subarray levels
  past_layer levels tag.Darray = past_darray levels
  past_layer levels tag.Resized = past_resized levels

-- the four bytes, and a form behind them
left_bind : {A B : Type 0} (e : Result (A × Bytes) Bytes) (k : A → Reader B) (g : Skip) → ((x : A) → Passes (k x) g) → erased (on_ok e k) ≡ over (erased e) g
left_bind (Ok x) k g h = h x.0 x.1
left_bind (Err left) k g h = refl

pass_bind : {A B : Type 0} (r : Reader A) (k : A → Reader B) (f g : Skip) → Passes r f → ((x : A) → Passes (k x) g) → Passes (bind r k) (and_then f g)
unfolding bind
pass_bind r k f g first next bytes = left_bind (r bytes) k g next ∙ ap (λ e. over e g) (first bytes)

pass_one : (x : ℕ) → Passes (item_at (is_byte x)) (skip_within x x)
pass_one x = pass_item (is_byte x) x x (byte_within x)

pub pass_magic : Passes magic_at skip_magic
unfolding magic_at skip_magic
pass_magic =
    pass_bind (item_at (is_byte 100)) _ (skip_within 100 100) (and_then (skip_within 116 116) (and_then (skip_within 119 119) (skip_within 49 49))) (pass_one 100) (λ d.
    pass_bind (item_at (is_byte 116)) _ (skip_within 116 116) (and_then (skip_within 119 119) (skip_within 49 49)) (pass_one 116) (λ t.
    pass_bind (item_at (is_byte 119)) _ (skip_within 119 119) (skip_within 49 49) (pass_one 119) (λ w. pass_one 49)))

pub pass_text : Passes text_at (and_then skip_magic (left_by (form_at 64)))
unfolding text_at
pass_text = pass_bind magic_at (λ first. form_at 64) skip_magic (left_by (form_at 64)) pass_magic (λ first bytes. refl)

-- a form, by its tag
pub past_tag : (levels : ℕ) (c : Combiner) (bytes rest : Bytes) → item_at (tag_in levels) bytes ≡ Ok (c, rest) → erased (form_at (suc levels) bytes) ≡ skip_layer levels (left_by (form_at levels)) c rest
unfolding form_at one_at bind
past_tag levels c bytes rest e = ap (λ v. erased (on_ok v (behind levels (map_at result_of (form_at levels))))) e ∙ past_layer (form_at levels) levels c rest

pub no_tag : (levels : ℕ) (bytes left : Bytes) → item_at (tag_in levels) bytes ≡ Err left → erased (form_at (suc levels) bytes) ≡ Err left
unfolding form_at one_at bind
no_tag levels bytes left e = ap (λ v. erased (on_ok v (behind levels (map_at result_of (form_at levels))))) e
