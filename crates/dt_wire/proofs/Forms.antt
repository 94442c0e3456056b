-- forms are read as they are spelled
use Rattle.std.proofs.Common.{◌≡◌, ◌≢◌, ℕ, zero, suc, ◌+◌, ◌≤◌, ◌==◌, true, ℤ, pos, negsuc, [], ◌∷◌, ◌++◌, List, flat_map, map, length, replicate, slice_get, Option, Some, None, Ok, refl, sym, ap, subst, ◌∙◌, append_assoc, arith}
use Rattle.std.proofs.lemmas.Int.{fits_signed_from_abs}
use Rattle.std.specs.List.{AllByRecursion}
use mir.Syntax.{w32}
use Rattle.dt_kinds.specs.declared.kind.Kind.{Kind}
use Rattle.dt_kinds.specs.declared.kind.Kind.TheVariants as kind
use Rattle.dt_form.specs.declared.envelope.Combiner.{Combiner}
use Rattle.dt_form.specs.declared.envelope.Combiner.TheVariants as tag
use Rattle.dt_form.specs.declared.form.Dist.{Dist}
use Rattle.dt_form.specs.declared.form.Dist.TheVariants.{Block, Cyclic, Whole}
use Rattle.dt_form.specs.declared.form.DistDim.{DistDim}
use Rattle.dt_form.specs.declared.form.FormOf.{FormOf}
use Rattle.dt_form.specs.declared.form.FormOf.TheVariants.{Named, Dup, Contiguous, Vector, Hvector, Indexed, Hindexed, IndexedBlock, HindexedBlock, Struct, Subarray, Darray, Resized}
use Rattle.dt_form.specs.declared.form.Order.{Order}
use Rattle.dt_form.specs.declared.form.Order.TheVariants.{C, Fortran}
use Rattle.dt_form.specs.declared.form.PartOf.{PartOf}
use Rattle.dt_type.specs.declared.datatype.Seen.{Seen, out-roll-Seen}
use Rattle.dt_type.specs.Datatype.{Layer, form_of}
use Rattle.dt_type.specs.Form.{result_of}
use Rattle.dt_wire.specs.Reading.{Bytes, Reader, read_as, item_at, map_at, pair_at, list_at, kinds, combiners, orders, dist_in, with_room, tag_of, tag_in, darg_of, int_at, address_at, counted_at, darg_at, int_block_at, addr_block_at, part_at, sub_dim_at, dist_dim_at, zero_in, parts_at, behind, one_at, form_at}
use Rattle.dt_wire.specs.Spelling.{int, address, number_of, kind_byte, order_byte, dist_byte, darg, int_block, addr_block, part, sub_dim, dist_dim, spelling}
use Rattle.dt_wire.specs.Wire.{IsInt, IsAddress, IsDarg, IsDistDim, IsForm}
use Rattle.dt_wire.proofs.Readers.{Good, bind_ok, bind_good, item_good}
use Rattle.dt_wire.proofs.Spells.{Spells, Written, item_spells, map_good, map_again, both, FitBoth, pair_spells, AreAll, list_good, list_again}
use Rattle.dt_wire.proofs.Numbers.{one, passed, int_spells, address_spells, counted, AreCounted, counted_spells}

-- lists by number
abbrev Numbered : {A : Type 0} → (A → ℕ) → ℕ → List A → Type 0
Numbered f i [] = Unit {0}
Numbered f i (x ∷ xs) = (f x ≡ i) × Numbered f (suc i) xs

numbered_is : {A : Type 0} (f : A → ℕ) (i : ℕ) (xs : List A) (b : ℕ) (x : A) → Numbered f i xs → slice_get xs b ≡ Some x → b + i ≡ f x
numbered_is f i [] b x n e = cc
numbered_is f i (y ∷ ys) zero x n e = let same : y ≡ x = cc in let h : i ≡ f x = sym n.0 ∙ ap f same in omega (arith, h)
numbered_is f i (y ∷ ys) (suc b) x n e = let h = numbered_is f (suc i) ys b x n.1 e in omega (arith, h)

number_is : {A : Type 0} (f : A → ℕ) (xs : List A) (b : ℕ) (x : A) → Numbered f 0 xs → slice_get xs b ≡ Some x → b ≡ f x
number_is f xs b x n e = let h = numbered_is f 0 xs b x n e in omega (arith, h)

kind_again : (k : Kind) → slice_get kinds (kind_byte k) ≡ Some k
kind_again kind.Byte = refl
kind_again kind.Char = refl
kind_again kind.SignedChar = refl
kind_again kind.UnsignedChar = refl
kind_again kind.Short = refl
kind_again kind.UnsignedShort = refl
kind_again kind.Int = refl
kind_again kind.Unsigned = refl
kind_again kind.Long = refl
kind_again kind.UnsignedLong = refl
kind_again kind.LongLong = refl
kind_again kind.UnsignedLongLong = refl
kind_again kind.Int8 = refl
kind_again kind.Int16 = refl
kind_again kind.Int32 = refl
kind_again kind.Int64 = refl
kind_again kind.Uint8 = refl
kind_again kind.Uint16 = refl
kind_again kind.Uint32 = refl
kind_again kind.Uint64 = refl
kind_again kind.Aint = refl
kind_again kind.Count = refl
kind_again kind.Offset = refl

abbrev Any : {A : Type 0} → A → Type 0
Any x = Unit {0}

kinds_numbered : Numbered kind_byte 0 kinds
kinds_numbered = (refl, (refl, (refl, (refl, (refl, (refl, (refl, (refl, (refl, (refl, (refl, (refl, (refl, (refl, (refl, (refl, (refl, (refl, (refl, (refl, (refl, (refl, (refl, tt)))))))))))))))))))))))

kind_spells : Spells (λ k. kind_byte k ∷ []) Any (item_at (slice_get kinds))
kind_spells = item_spells kind_byte (slice_get kinds) kind.Byte refl (λ b k e. number_is kind_byte kinds b k kinds_numbered e) kind_again

order_again : (o : Order) → slice_get orders (order_byte o) ≡ Some o
order_again C = refl
order_again Fortran = refl

order_spells : Spells (λ o. order_byte o ∷ []) Any (item_at (slice_get orders))
order_spells = item_spells order_byte (slice_get orders) C refl (λ b o e. number_is order_byte orders b o (refl, (refl, tt)) e) order_again

dist_again : (d : Dist) → dist_in (dist_byte d) ≡ Some d
dist_again Block = refl
dist_again Cyclic = refl
dist_again Whole = refl

dist_is : (b : ℕ) (d : Dist) → dist_in b ≡ Some d → b ≡ dist_byte d
dist_is zero d e = cc
dist_is (suc b) d e = let h = numbered_is dist_byte 1 (Block ∷ Cyclic ∷ Whole ∷ []) b d (refl, (refl, (refl, tt))) e in omega (arith, h)

dist_spells : Spells (λ d. dist_byte d ∷ []) Any (item_at dist_in)
dist_spells = item_spells dist_byte dist_in Block refl dist_is dist_again

-- a value that a writer takes
abbrev pick : {A : Type 0} → (A → Bytes) → A → A
pick write x = x

-- the same value, seen otherwise
iso_spells : {A B : Type 0} (w : A → Bytes) (v : B → Bytes) (F : A → Type 0) (G : B → Type 0) (g : A → B) (back : B → A) (r : Reader A) → Spells w F r
    → ((x : A) → F x → (w x ≡ v (g x)) × G (g x)) → ((y : B) → G y → (g (back y) ≡ y) × F (back y) × (v y ≡ w (back y))) → Spells v G (map_at g r)
iso_spells w v F G g back r spells on off = record {
  good = map_good (Written w F) (Written v G) g r spells.good (λ x u p. let h = on x p.1 in (p.0 ∙ h.0, h.1));
  again = λ y rest fits.
      let h = off y fits in
      ap (λ (t : Bytes). map_at g r (t ++ rest)) h.2 ∙ (map_again g r (w (back y) ++ rest) rest (back y) (spells.again (back y) rest h.1) ∙ ap (λ z. Ok (z, rest)) h.0);
}

third : (a b c : Bytes) → a ++ (b ++ c) ≡ (a ++ b) ++ c
third a b c = sym (append_assoc a b c)

fourth : (a b c d : Bytes) → a ++ (b ++ (c ++ d)) ≡ ((a ++ b) ++ c) ++ d
fourth a b c d = third a b (c ++ d) ∙ third (a ++ b) c d

-- a block length that may be missing
none_fits : IsInt (negsuc 0)
none_fits = fits_signed_from_abs w32 (negsuc 0) (omega arith)

darg_on : (x : ℤ) → IsInt x → (int x ≡ darg (darg_of x)) × IsDarg (darg_of x)
darg_on (negsuc zero) fits = (refl, tt)
darg_on (negsuc (suc n)) fits = (refl, (fits, λ e. cc))
darg_on (pos n) fits = (refl, (fits, λ e. cc))

abbrev darg_back : Option ℤ → ℤ
darg_back None = negsuc 0
darg_back (Some x) = x

given : (x : ℤ) → x ≢ negsuc 0 → darg_of x ≡ Some x
given (negsuc zero) e = absurd (e refl)
given (negsuc (suc n)) e = refl
given (pos n) e = refl

darg_off : (y : Option ℤ) → IsDarg y → (darg_of (darg_back y) ≡ y) × IsInt (darg_back y) × (darg y ≡ int (darg_back y))
darg_off None fits = (refl, none_fits, refl)
darg_off (Some x) fits = (given x fits.1, fits.0, refl)

darg_spells : Spells darg IsDarg darg_at
unfolding darg_at
darg_spells = iso_spells int darg IsInt IsDarg darg_of darg_back int_at int_spells darg_on darg_off

-- blocks and dimensions
int_block_spells : Spells int_block (λ b. IsInt b.len × IsInt b.disp) int_block_at
unfolding int_block_at int_block
int_block_spells =
    iso_spells (both int int) int_block (FitBoth IsInt IsInt) (λ b. IsInt b.len × IsInt b.disp) (λ x. record { len = x.0; disp = x.1 }) (λ b. (b.len, b.disp)) (pair_at int_at int_at)
    (pair_spells int int IsInt IsInt int_at int_at int_spells int_spells) (λ x fits. (refl, fits)) (λ b fits. (refl, fits, refl))

addr_block_spells : Spells addr_block (λ b. IsInt b.len × IsAddress b.disp) addr_block_at
unfolding addr_block_at addr_block
addr_block_spells =
    iso_spells (both int address) addr_block (FitBoth IsInt IsAddress) (λ b. IsInt b.len × IsAddress b.disp) (λ x. record { len = x.0; disp = x.1 }) (λ b. (b.len, b.disp)) (pair_at int_at address_at)
    (pair_spells int address IsInt IsAddress int_at address_at int_spells address_spells) (λ x fits. (refl, fits)) (λ b fits. (refl, fits, refl))

sub_dim_spells : Spells sub_dim (λ d. IsInt d.size × IsInt d.sub × IsInt d.start) sub_dim_at
unfolding sub_dim_at sub_dim
sub_dim_spells =
    iso_spells (both int (both int int)) sub_dim (FitBoth IsInt (FitBoth IsInt IsInt)) (λ d. IsInt d.size × IsInt d.sub × IsInt d.start) (λ x. record { size = x.0; sub = x.1.0; start = x.1.1 }) (λ d. (d.size, (d.sub, d.start)))
    (pair_at int_at (pair_at int_at int_at))
    (pair_spells int (both int int) IsInt (FitBoth IsInt IsInt) int_at (pair_at int_at int_at) int_spells (pair_spells int int IsInt IsInt int_at int_at int_spells int_spells))
    (λ x fits. (third (int x.0) (int x.1.0) (int x.1.1), (fits.0, fits.1.0, fits.1.1))) (λ d fits. (refl, (fits.0, (fits.1, fits.2)), sym (third (int d.size) (int d.sub) (int d.start))))

dist_dim_spells : Spells dist_dim IsDistDim dist_dim_at
unfolding dist_dim_at dist_dim
dist_dim_spells =
    iso_spells (both int (both (λ d. dist_byte d ∷ []) (both darg int))) dist_dim (FitBoth IsInt (FitBoth Any (FitBoth IsDarg IsInt))) IsDistDim
    (λ x. record { gsize = x.0; dist = x.1.0; darg = x.1.1.0; psize = x.1.1.1 }) (λ d. (d.gsize, (d.dist, (d.darg, d.psize))))
    (pair_at int_at (pair_at (item_at dist_in) (pair_at darg_at int_at)))
    (pair_spells int (both (λ d. dist_byte d ∷ []) (both darg int)) IsInt (FitBoth Any (FitBoth IsDarg IsInt)) int_at (pair_at (item_at dist_in) (pair_at darg_at int_at)) int_spells
    (pair_spells (λ d. dist_byte d ∷ []) (both darg int) Any (FitBoth IsDarg IsInt) (item_at dist_in) (pair_at darg_at int_at) dist_spells
    (pair_spells darg int IsDarg IsInt darg_at int_at darg_spells int_spells)))
    (λ x fits. (third (int x.0) (dist_byte x.1.0 ∷ darg x.1.1.0) (int x.1.1.1), (fits.0, fits.1.1.0, fits.1.1.1)))
    (λ d fits. (refl, (fits.0, (tt, (fits.1, fits.2))), sym (third (int d.gsize) (dist_byte d.dist ∷ darg d.darg) (int d.psize))))

-- an old type, by its form
form_back : (f : FormOf Seen) → form_of (result_of f) ≡ f
form_back f = ap (λ (l : Layer). l.form) (out-roll-Seen _)

abbrev IsOld : ℕ → Seen → Type 0
IsOld levels old = (old ≡ result_of (form_of old)) × IsForm levels (form_of old)

abbrev old_text : ℕ → Seen → Bytes
old_text levels old = spelling levels (form_of old)

abbrev old_at : ℕ → Reader Seen
old_at levels = map_at result_of (form_at levels)

old_spells : (levels : ℕ) → Spells (spelling levels) (IsForm levels) (form_at levels) → Spells (old_text levels) (IsOld levels) (old_at levels)
old_spells levels spells =
    iso_spells (spelling levels) (old_text levels) (IsForm levels) (IsOld levels) result_of form_of (form_at levels) spells
    (λ f fits. (ap (spelling levels) (sym (form_back f)), (ap result_of (sym (form_back f)), subst (IsForm levels) (sym (form_back f)) fits)))
    (λ t fits. (sym fits.0, fits.1, refl))

-- parts
abbrev IsPart : ℕ → PartOf Seen → Type 0
IsPart levels p = IsInt p.len × IsAddress p.disp × IsOld levels p.old

abbrev part_text : ℕ → PartOf Seen → Bytes
part_text levels p = part (old_text levels) p

part_spells : (levels : ℕ) → Spells (old_text levels) (IsOld levels) (old_at levels) → Spells (part_text levels) (IsPart levels) (part_at (old_at levels))
unfolding part_at
part_spells levels spells =
    iso_spells (both int (both address (old_text levels))) (part_text levels) (FitBoth IsInt (FitBoth IsAddress (IsOld levels))) (IsPart levels)
    (λ x. record { len = x.0; disp = x.1.0; old = x.1.1 }) (λ p. (p.len, (p.disp, p.old)))
    (pair_at int_at (pair_at address_at (old_at levels)))
    (pair_spells int (both address (old_text levels)) IsInt (FitBoth IsAddress (IsOld levels)) int_at (pair_at address_at (old_at levels)) int_spells
    (pair_spells address (old_text levels) IsAddress (IsOld levels) address_at (old_at levels) address_spells spells))
    (λ x fits. (third (int x.0) (address x.1.0) (old_text levels x.1.1), (fits.0, fits.1.0, fits.1.1)))
    (λ p fits. (refl, (fits.0, (fits.1, fits.2)), sym (third (int p.len) (address p.disp) (old_text levels p.old))))

-- no parts where no level is left
abbrev IsZero : ℕ → Type 0
IsZero z = z ≡ 0

zero_is : (z : ℕ) → (z == 0) ≡ true → z ≡ 0
zero_is z e = grind (arith, e)

zero_spells : Spells one IsZero (item_at zero_in)
zero_spells = record {
  good = item_good (Written one IsZero) zero_in 0 0 refl (λ b y e. let h = passed (b == 0) b y e in (ap one h.1, sym h.1 ∙ zero_is b h.0));
  again = λ y rest fits. ap (λ z. item_at zero_in (z ∷ rest)) fits ∙ ap (λ (z : ℕ). Ok (z, rest)) (sym fits);
}

all_zero : (n : ℕ) (zs : List ℕ) → AllByRecursion IsZero zs → length zs ≡ n → flat_map one zs ≡ replicate n 0
all_zero zero [] h e = refl
all_zero zero (z ∷ zs) h e = absurd (omega (arith, e))
all_zero (suc n) [] h e = absurd (omega (arith, e))
all_zero (suc n) (z ∷ zs) h e =
    ap (λ y. y ∷ flat_map one zs) h.0 ∙ ap (λ (ys : Bytes). 0 ∷ ys) (all_zero n zs h.1 (omega (arith, e)))

abbrev parts_text : ℕ → List (PartOf Seen) → Bytes
parts_text levels parts = counted (part_text levels) parts

abbrev AreParts : ℕ → List (PartOf Seen) → Type 0
AreParts levels parts = AreCounted (IsPart levels) parts

none_again : (parts : List (PartOf Seen)) (rest : Bytes) → AreParts 0 parts → parts_at 0 (old_at 0) (parts_text 0 parts ++ rest) ≡ Ok (parts, rest)
unfolding number_of
none_again [] rest fits =
    map_again (λ zeros. []) (list_at (item_at zero_in) 4) (0 ∷ 0 ∷ 0 ∷ 0 ∷ rest) rest (0 ∷ 0 ∷ 0 ∷ 0 ∷ [])
    (list_again one IsZero (item_at zero_in) zero_spells (0 ∷ 0 ∷ 0 ∷ 0 ∷ []) rest (refl, (refl, (refl, (refl, tt)))))
none_again (p ∷ parts) rest fits = absurd (fits.1.0.2.1)

none_spells : Spells (parts_text 0) (AreParts 0) (parts_at 0 (old_at 0))
unfolding number_of
none_spells = record {
  good = map_good (AreAll one IsZero 4) (Written (parts_text 0) (AreParts 0)) (λ zeros. []) (list_at (item_at zero_in) 4) (list_good one IsZero (item_at zero_in) zero_spells 4)
      (λ zs u p. (p.bytes ∙ all_zero 4 zs p.fit p.count, (omega arith, tt)));
  again = none_again;
}

parts_spells : (levels : ℕ) → (1 ≤ levels → Spells (old_text levels) (IsOld levels) (old_at levels)) → Spells (parts_text levels) (AreParts levels) (parts_at levels (old_at levels))
parts_spells zero spells = none_spells
parts_spells (suc levels) spells = counted_spells (part_text (suc levels)) (IsPart (suc levels)) (part_at (old_at (suc levels))) (part_spells (suc levels) (spells (omega arith)))

-- tags
abbrev tag_byte : Combiner → ℕ
tag_byte tag.Named = 0
tag_byte tag.Dup = 1
tag_byte tag.Contiguous = 2
tag_byte tag.Vector = 3
tag_byte tag.Hvector = 4
tag_byte tag.Indexed = 5
tag_byte tag.Hindexed = 6
tag_byte tag.IndexedBlock = 7
tag_byte tag.HindexedBlock = 8
tag_byte tag.Struct = 9
tag_byte tag.Subarray = 10
tag_byte tag.Darray = 11
tag_byte tag.Resized = 12

tags_numbered : Numbered tag_byte 0 combiners
tags_numbered = (refl, (refl, (refl, (refl, (refl, (refl, (refl, (refl, (refl, (refl, (refl, (refl, (refl, tt)))))))))))))

-- whether a form with this tag can stand where so many levels are left below it
abbrev HasRoom : ℕ → Combiner → Type 0
HasRoom levels tag.Named = Unit {0}
HasRoom levels tag.Struct = Unit {0}
HasRoom levels c = 1 ≤ levels

room_is : (levels : ℕ) (c d : Combiner) → with_room levels c ≡ Some d → (c ≡ d) × HasRoom levels c
room_is (suc levels) tag.Named d e = (cc, tt)
room_is (suc levels) tag.Struct d e = (cc, tt)
room_is (suc levels) tag.Dup d e = (cc, omega arith)
room_is (suc levels) tag.Contiguous d e = (cc, omega arith)
room_is (suc levels) tag.Vector d e = (cc, omega arith)
room_is (suc levels) tag.Hvector d e = (cc, omega arith)
room_is (suc levels) tag.Indexed d e = (cc, omega arith)
room_is (suc levels) tag.Hindexed d e = (cc, omega arith)
room_is (suc levels) tag.IndexedBlock d e = (cc, omega arith)
room_is (suc levels) tag.HindexedBlock d e = (cc, omega arith)
room_is (suc levels) tag.Subarray d e = (cc, omega arith)
room_is (suc levels) tag.Darray d e = (cc, omega arith)
room_is (suc levels) tag.Resized d e = (cc, omega arith)
room_is zero tag.Named d e = (cc, tt)
room_is zero tag.Struct d e = (cc, tt)
room_is zero tag.Dup d e = cc
room_is zero tag.Contiguous d e = cc
room_is zero tag.Vector d e = cc
room_is zero tag.Hvector d e = cc
room_is zero tag.Indexed d e = cc
room_is zero tag.Hindexed d e = cc
room_is zero tag.IndexedBlock d e = cc
room_is zero tag.HindexedBlock d e = cc
room_is zero tag.Subarray d e = cc
room_is zero tag.Darray d e = cc
room_is zero tag.Resized d e = cc

tag_is : (levels : ℕ) (o : Option Combiner) (d : Combiner) → tag_of levels o ≡ Some d → (o ≡ Some d) × HasRoom levels d
tag_is levels None d e = cc
tag_is levels (Some c) d e = let h = room_is levels c d e in (ap Some h.0, subst (HasRoom levels) h.0 h.1)

abbrev IsTag : ℕ → Combiner → Bytes → Type 0
IsTag levels c u = (u ≡ tag_byte c ∷ []) × HasRoom levels c

named_first : (levels : ℕ) → tag_in levels 0 ≡ Some tag.Named
unfolding tag_in
named_first zero = refl
named_first (suc levels) = refl

struct_room : (levels : ℕ) → tag_in levels 9 ≡ Some tag.Struct
unfolding tag_in
struct_room zero = refl
struct_room (suc levels) = refl

tag_good : (levels : ℕ) → Good (IsTag levels) (item_at (tag_in levels))
unfolding tag_in
tag_good levels = item_good (IsTag levels) (tag_in levels) 0 tag.Named (named_first levels)
    (λ b c e. let h = tag_is levels (slice_get combiners b) c e in (ap one (number_is tag_byte combiners b c tags_numbered h.0), h.1))

-- forms
abbrev IsLayer : ℕ → FormOf Seen → Type 0
IsLayer levels f = IsForm (suc levels) f

abbrev Is : ℕ → FormOf Seen → Bytes → Type 0
Is levels f u = Written (spelling (suc levels)) (IsLayer levels) f u

darray_text : (size rank : ℤ) (order : Order) (dims : List DistDim) (t : Bytes) →
    int size ++ (int rank ++ ((order_byte order ∷ []) ++ (counted dist_dim dims ++ t))) ≡ (((int size ++ int rank) ++ order_byte order ∷ number_of dims) ++ flat_map dist_dim dims) ++ t
darray_text size rank order dims t =
    third (int size) (int rank) (order_byte order ∷ (counted dist_dim dims ++ t))
    ∙ (third (int size ++ int rank) (order_byte order ∷ counted dist_dim dims) t
    ∙ ap (λ (v : Bytes). v ++ t) (third (int size ++ int rank) (order_byte order ∷ number_of dims) (flat_map dist_dim dims)))

-- the parts of a struct, by their arguments and their old types
parts_have : (levels : ℕ) (parts : List (PartOf Seen)) → AllByRecursion (IsPart levels) parts →
    AllByRecursion (λ p. IsInt p.len × IsAddress p.disp) parts × AllByRecursion (IsOld levels) (map (λ p. p.old) parts)
parts_have levels [] h = (tt, tt)
parts_have levels (p ∷ parts) h = let more = parts_have levels parts h.1 in (((h.0.0, h.0.1), more.0), (h.0.2, more.1))

parts_are : (levels : ℕ) (parts : List (PartOf Seen)) → AllByRecursion (λ (p : PartOf Seen). IsInt p.len × IsAddress p.disp) parts → AllByRecursion (IsOld levels) (map (λ p. p.old) parts) →
    AllByRecursion (IsPart levels) parts
parts_are levels [] a b = tt
parts_are levels (p ∷ parts) a b = ((a.0.0, a.0.1, b.0), parts_are levels parts a.1 b.1)

some_level : (levels : ℕ) (old : Seen) → IsOld levels old → 1 ≤ levels
some_level zero old fits = absurd fits.1
some_level (suc levels) old fits = omega arith

-- a tag and the bytes behind it
behind_tag : (levels : ℕ) (c : Combiner) (more rest : Bytes) (f : FormOf Seen) → tag_in levels (tag_byte c) ≡ Some c → behind levels (old_at levels) c more ≡ Ok (f, rest) →
    form_at (suc levels) (tag_byte c ∷ more) ≡ Ok (f, rest)
unfolding form_at one_at
behind_tag levels c more rest f is e =
    bind_ok (item_at (tag_in levels)) (λ d. behind levels (old_at levels) d) (tag_byte c ∷ more) more c (ap (λ o. read_as o (tag_byte c ∷ more) more) is) ∙ e

has_room : (levels : ℕ) (c : Combiner) → 1 ≤ levels → with_room levels c ≡ Some c
has_room zero c some = absurd (omega arith)
has_room (suc levels) c some = refl

tag_again : (levels : ℕ) (c : Combiner) → slice_get combiners (tag_byte c) ≡ Some c → with_room levels c ≡ Some c → tag_in levels (tag_byte c) ≡ Some c
unfolding tag_in
tag_again levels c is room = ap (tag_of levels) is ∙ room

module _ (levels : ℕ) (spells : 1 ≤ levels → Spells (old_text levels) (IsOld levels) (old_at levels)) where
  dup_on : (some : 1 ≤ levels) → Good (λ f v. Is levels f (1 ∷ v)) (behind levels (old_at levels) tag.Dup)
  unfolding number_of
  dup_on some =
      map_good (Written (old_text levels) (IsOld levels)) (λ f v. Is levels f (1 ∷ v)) (λ x. Dup x) (old_at levels) (spells some).good
      (λ x u p. let fits = p.1 in (ap (λ (v : Bytes). 1 ∷ v) (p.0 ∙ (refl)), (tt, omega arith, (fits, tt))))

  contiguous_on : (some : 1 ≤ levels) → Good (λ f v. Is levels f (2 ∷ v)) (behind levels (old_at levels) tag.Contiguous)
  unfolding number_of
  contiguous_on some =
      map_good (Written (both int (old_text levels)) (FitBoth IsInt (IsOld levels))) (λ f v. Is levels f (2 ∷ v)) (λ x. Contiguous x.0 x.1) (pair_at int_at (old_at levels)) (pair_spells int (old_text levels) IsInt (IsOld levels) int_at (old_at levels) int_spells (spells some)).good
      (λ x u p. let fits = p.1 in (ap (λ (v : Bytes). 2 ∷ v) (p.0 ∙ (refl)), (fits.0, omega arith, (fits.1, tt))))

  vector_on : (some : 1 ≤ levels) → Good (λ f v. Is levels f (3 ∷ v)) (behind levels (old_at levels) tag.Vector)
  unfolding number_of
  vector_on some =
      map_good (Written (both int (both int (both int (old_text levels)))) (FitBoth IsInt (FitBoth IsInt (FitBoth IsInt (IsOld levels))))) (λ f v. Is levels f (3 ∷ v)) (λ x. Vector x.0 x.1.0 x.1.1.0 x.1.1.1) (pair_at int_at (pair_at int_at (pair_at int_at (old_at levels)))) (pair_spells int (both int (both int (old_text levels))) IsInt (FitBoth IsInt (FitBoth IsInt (IsOld levels))) int_at (pair_at int_at (pair_at int_at (old_at levels))) int_spells (pair_spells int (both int (old_text levels)) IsInt (FitBoth IsInt (IsOld levels)) int_at (pair_at int_at (old_at levels)) int_spells (pair_spells int (old_text levels) IsInt (IsOld levels) int_at (old_at levels) int_spells (spells some)))).good
      (λ x u p. let fits = p.1 in (ap (λ (v : Bytes). 3 ∷ v) (p.0 ∙ (fourth (int x.0) (int x.1.0) (int x.1.1.0) (old_text levels x.1.1.1))), ((fits.0, fits.1.0, fits.1.1.0), omega arith, (fits.1.1.1, tt))))

  hvector_on : (some : 1 ≤ levels) → Good (λ f v. Is levels f (4 ∷ v)) (behind levels (old_at levels) tag.Hvector)
  unfolding number_of
  hvector_on some =
      map_good (Written (both int (both int (both address (old_text levels)))) (FitBoth IsInt (FitBoth IsInt (FitBoth IsAddress (IsOld levels))))) (λ f v. Is levels f (4 ∷ v)) (λ x. Hvector x.0 x.1.0 x.1.1.0 x.1.1.1) (pair_at int_at (pair_at int_at (pair_at address_at (old_at levels)))) (pair_spells int (both int (both address (old_text levels))) IsInt (FitBoth IsInt (FitBoth IsAddress (IsOld levels))) int_at (pair_at int_at (pair_at address_at (old_at levels))) int_spells (pair_spells int (both address (old_text levels)) IsInt (FitBoth IsAddress (IsOld levels)) int_at (pair_at address_at (old_at levels)) int_spells (pair_spells address (old_text levels) IsAddress (IsOld levels) address_at (old_at levels) address_spells (spells some)))).good
      (λ x u p. let fits = p.1 in (ap (λ (v : Bytes). 4 ∷ v) (p.0 ∙ (fourth (int x.0) (int x.1.0) (address x.1.1.0) (old_text levels x.1.1.1))), ((fits.0, fits.1.0, fits.1.1.0), omega arith, (fits.1.1.1, tt))))

  indexed_on : (some : 1 ≤ levels) → Good (λ f v. Is levels f (5 ∷ v)) (behind levels (old_at levels) tag.Indexed)
  unfolding number_of
  indexed_on some =
      map_good (Written (both (counted int_block) (old_text levels)) (FitBoth (AreCounted (λ b. IsInt b.len × IsInt b.disp)) (IsOld levels))) (λ f v. Is levels f (5 ∷ v)) (λ x. Indexed x.0 x.1) (pair_at (counted_at int_block_at) (old_at levels)) (pair_spells (counted int_block) (old_text levels) (AreCounted (λ b. IsInt b.len × IsInt b.disp)) (IsOld levels) (counted_at int_block_at) (old_at levels) (counted_spells int_block (λ b. IsInt b.len × IsInt b.disp) int_block_at int_block_spells) (spells some)).good
      (λ x u p. let fits = p.1 in (ap (λ (v : Bytes). 5 ∷ v) (p.0 ∙ (refl)), (fits.0.1, fits.0.0, (fits.1, tt))))

  hindexed_on : (some : 1 ≤ levels) → Good (λ f v. Is levels f (6 ∷ v)) (behind levels (old_at levels) tag.Hindexed)
  unfolding number_of
  hindexed_on some =
      map_good (Written (both (counted addr_block) (old_text levels)) (FitBoth (AreCounted (λ b. IsInt b.len × IsAddress b.disp)) (IsOld levels))) (λ f v. Is levels f (6 ∷ v)) (λ x. Hindexed x.0 x.1) (pair_at (counted_at addr_block_at) (old_at levels)) (pair_spells (counted addr_block) (old_text levels) (AreCounted (λ b. IsInt b.len × IsAddress b.disp)) (IsOld levels) (counted_at addr_block_at) (old_at levels) (counted_spells addr_block (λ b. IsInt b.len × IsAddress b.disp) addr_block_at addr_block_spells) (spells some)).good
      (λ x u p. let fits = p.1 in (ap (λ (v : Bytes). 6 ∷ v) (p.0 ∙ (refl)), (fits.0.1, fits.0.0, (fits.1, tt))))

  indexedblock_on : (some : 1 ≤ levels) → Good (λ f v. Is levels f (7 ∷ v)) (behind levels (old_at levels) tag.IndexedBlock)
  unfolding number_of
  indexedblock_on some =
      map_good (Written (both int (both (counted int) (old_text levels))) (FitBoth IsInt (FitBoth (AreCounted IsInt) (IsOld levels)))) (λ f v. Is levels f (7 ∷ v)) (λ x. IndexedBlock x.0 x.1.0 x.1.1) (pair_at int_at (pair_at (counted_at int_at) (old_at levels))) (pair_spells int (both (counted int) (old_text levels)) IsInt (FitBoth (AreCounted IsInt) (IsOld levels)) int_at (pair_at (counted_at int_at) (old_at levels)) int_spells (pair_spells (counted int) (old_text levels) (AreCounted IsInt) (IsOld levels) (counted_at int_at) (old_at levels) (counted_spells int IsInt int_at int_spells) (spells some))).good
      (λ x u p. let fits = p.1 in (ap (λ (v : Bytes). 7 ∷ v) (p.0 ∙ (third (int x.0) (counted int x.1.0) (old_text levels x.1.1) ∙ ap (λ (v : Bytes). v ++ old_text levels x.1.1) (third (int x.0) (number_of x.1.0) (flat_map int x.1.0)))), ((fits.0, fits.1.0.1), fits.1.0.0, (fits.1.1, tt))))

  hindexedblock_on : (some : 1 ≤ levels) → Good (λ f v. Is levels f (8 ∷ v)) (behind levels (old_at levels) tag.HindexedBlock)
  unfolding number_of
  hindexedblock_on some =
      map_good (Written (both int (both (counted address) (old_text levels))) (FitBoth IsInt (FitBoth (AreCounted IsAddress) (IsOld levels)))) (λ f v. Is levels f (8 ∷ v)) (λ x. HindexedBlock x.0 x.1.0 x.1.1) (pair_at int_at (pair_at (counted_at address_at) (old_at levels))) (pair_spells int (both (counted address) (old_text levels)) IsInt (FitBoth (AreCounted IsAddress) (IsOld levels)) int_at (pair_at (counted_at address_at) (old_at levels)) int_spells (pair_spells (counted address) (old_text levels) (AreCounted IsAddress) (IsOld levels) (counted_at address_at) (old_at levels) (counted_spells address IsAddress address_at address_spells) (spells some))).good
      (λ x u p. let fits = p.1 in (ap (λ (v : Bytes). 8 ∷ v) (p.0 ∙ (third (int x.0) (counted address x.1.0) (old_text levels x.1.1) ∙ ap (λ (v : Bytes). v ++ old_text levels x.1.1) (third (int x.0) (number_of x.1.0) (flat_map address x.1.0)))), ((fits.0, fits.1.0.1), fits.1.0.0, (fits.1.1, tt))))

  subarray_on : (some : 1 ≤ levels) → Good (λ f v. Is levels f (10 ∷ v)) (behind levels (old_at levels) tag.Subarray)
  unfolding number_of
  subarray_on some =
      map_good (Written (both (λ o. order_byte o ∷ []) (both (counted sub_dim) (old_text levels))) (FitBoth Any (FitBoth (AreCounted (λ d. IsInt d.size × IsInt d.sub × IsInt d.start)) (IsOld levels)))) (λ f v. Is levels f (10 ∷ v)) (λ x. Subarray x.1.0 x.0 x.1.1) (pair_at (item_at (slice_get orders)) (pair_at (counted_at sub_dim_at) (old_at levels))) (pair_spells (λ o. order_byte o ∷ []) (both (counted sub_dim) (old_text levels)) Any (FitBoth (AreCounted (λ d. IsInt d.size × IsInt d.sub × IsInt d.start)) (IsOld levels)) (item_at (slice_get orders)) (pair_at (counted_at sub_dim_at) (old_at levels)) order_spells (pair_spells (counted sub_dim) (old_text levels) (AreCounted (λ d. IsInt d.size × IsInt d.sub × IsInt d.start)) (IsOld levels) (counted_at sub_dim_at) (old_at levels) (counted_spells sub_dim (λ d. IsInt d.size × IsInt d.sub × IsInt d.start) sub_dim_at sub_dim_spells) (spells some))).good
      (λ x u p. let fits = p.1 in (ap (λ (v : Bytes). 10 ∷ v) (p.0 ∙ (refl)), (fits.1.0.1, fits.1.0.0, (fits.1.1, tt))))

  darray_on : (some : 1 ≤ levels) → Good (λ f v. Is levels f (11 ∷ v)) (behind levels (old_at levels) tag.Darray)
  unfolding number_of
  darray_on some =
      map_good (Written (both int (both int (both (λ o. order_byte o ∷ []) (both (counted dist_dim) (old_text levels))))) (FitBoth IsInt (FitBoth IsInt (FitBoth Any (FitBoth (AreCounted IsDistDim) (IsOld levels)))))) (λ f v. Is levels f (11 ∷ v)) (λ x. Darray x.0 x.1.0 x.1.1.1.0 x.1.1.0 x.1.1.1.1) (pair_at int_at (pair_at int_at (pair_at (item_at (slice_get orders)) (pair_at (counted_at dist_dim_at) (old_at levels))))) (pair_spells int (both int (both (λ o. order_byte o ∷ []) (both (counted dist_dim) (old_text levels)))) IsInt (FitBoth IsInt (FitBoth Any (FitBoth (AreCounted IsDistDim) (IsOld levels)))) int_at (pair_at int_at (pair_at (item_at (slice_get orders)) (pair_at (counted_at dist_dim_at) (old_at levels)))) int_spells (pair_spells int (both (λ o. order_byte o ∷ []) (both (counted dist_dim) (old_text levels))) IsInt (FitBoth Any (FitBoth (AreCounted IsDistDim) (IsOld levels))) int_at (pair_at (item_at (slice_get orders)) (pair_at (counted_at dist_dim_at) (old_at levels))) int_spells (pair_spells (λ o. order_byte o ∷ []) (both (counted dist_dim) (old_text levels)) Any (FitBoth (AreCounted IsDistDim) (IsOld levels)) (item_at (slice_get orders)) (pair_at (counted_at dist_dim_at) (old_at levels)) order_spells (pair_spells (counted dist_dim) (old_text levels) (AreCounted IsDistDim) (IsOld levels) (counted_at dist_dim_at) (old_at levels) (counted_spells dist_dim IsDistDim dist_dim_at dist_dim_spells) (spells some))))).good
      (λ x u p. let fits = p.1 in (ap (λ (v : Bytes). 11 ∷ v) (p.0 ∙ (darray_text x.0 x.1.0 x.1.1.0 x.1.1.1.0 (old_text levels x.1.1.1.1))), ((fits.0, fits.1.0, fits.1.1.1.0.1), fits.1.1.1.0.0, (fits.1.1.1.1, tt))))

  resized_on : (some : 1 ≤ levels) → Good (λ f v. Is levels f (12 ∷ v)) (behind levels (old_at levels) tag.Resized)
  unfolding number_of
  resized_on some =
      map_good (Written (both address (both address (old_text levels))) (FitBoth IsAddress (FitBoth IsAddress (IsOld levels)))) (λ f v. Is levels f (12 ∷ v)) (λ x. Resized x.0 x.1.0 x.1.1) (pair_at address_at (pair_at address_at (old_at levels))) (pair_spells address (both address (old_text levels)) IsAddress (FitBoth IsAddress (IsOld levels)) address_at (pair_at address_at (old_at levels)) address_spells (pair_spells address (old_text levels) IsAddress (IsOld levels) address_at (old_at levels) address_spells (spells some))).good
      (λ x u p. let fits = p.1 in (ap (λ (v : Bytes). 12 ∷ v) (p.0 ∙ (third (address x.0) (address x.1.0) (old_text levels x.1.1))), ((fits.0, fits.1.0), omega arith, (fits.1.1, tt))))

  named_on : Good (λ f v. Is levels f (0 ∷ v)) (behind levels (old_at levels) tag.Named)
  named_on =
      map_good (Written (λ k. kind_byte k ∷ []) Any) (λ f v. Is levels f (0 ∷ v)) (λ k. Named k) (item_at (slice_get kinds)) kind_spells.good
      (λ k u p. (ap (λ (v : Bytes). 0 ∷ v) p.0, (tt, omega arith, tt)))

  struct_on : Good (λ f v. Is levels f (9 ∷ v)) (behind levels (old_at levels) tag.Struct)
  struct_on =
      map_good (Written (parts_text levels) (AreParts levels)) (λ f v. Is levels f (9 ∷ v)) (λ parts. Struct parts) (parts_at levels (old_at levels)) (parts_spells levels spells).good
      (λ parts u p. let h = parts_have levels parts p.1.1 in (ap (λ (v : Bytes). 9 ∷ v) p.0, (h.0, p.1.0, h.1)))

  behind_good : (c : Combiner) → HasRoom levels c → Good (λ f v. Is levels f (tag_byte c ∷ v)) (behind levels (old_at levels) c)
  behind_good tag.Named room = named_on
  behind_good tag.Struct room = struct_on
  behind_good tag.Dup room = dup_on room
  behind_good tag.Contiguous room = contiguous_on room
  behind_good tag.Vector room = vector_on room
  behind_good tag.Hvector room = hvector_on room
  behind_good tag.Indexed room = indexed_on room
  behind_good tag.Hindexed room = hindexed_on room
  behind_good tag.IndexedBlock room = indexedblock_on room
  behind_good tag.HindexedBlock room = hindexedblock_on room
  behind_good tag.Subarray room = subarray_on room
  behind_good tag.Darray room = darray_on room
  behind_good tag.Resized room = resized_on room

  one_good : Good (Is levels) (form_at (suc levels))
  unfolding form_at one_at
  one_good =
      bind_good (IsTag levels) (Is levels) (item_at (tag_in levels)) (λ c. behind levels (old_at levels) c) (tag_good levels) (λ c u a.
      subst (λ (ws : Bytes). Good (λ f v. Is levels f (ws ++ v)) (behind levels (old_at levels) c)) (sym a.0) (behind_good c a.1))

  one_again : (f : FormOf Seen) (rest : Bytes) → IsLayer levels f → form_at (suc levels) (spelling (suc levels) f ++ rest) ≡ Ok (f, rest)
  unfolding number_of
  one_again (Named k) rest fits =
      behind_tag levels tag.Named (kind_byte k ∷ rest) rest (Named k) (named_first levels)
      (map_again (λ k. Named k) (item_at (slice_get kinds)) (kind_byte k ∷ rest) rest k (kind_spells.again k rest tt))
  one_again (Struct parts) rest fits =
      behind_tag levels tag.Struct (parts_text levels parts ++ rest) rest (Struct parts) (struct_room levels)
      (map_again (λ ps. Struct ps) (parts_at levels (old_at levels)) (parts_text levels parts ++ rest) rest parts
      ((parts_spells levels spells).again parts rest (fits.1, parts_are levels parts fits.0 fits.2)))
  one_again (Dup old) rest fits =
      let some = some_level levels old fits.2.0 in
      let x : _ = pick (old_text levels) old in
      behind_tag levels tag.Dup ((old_text levels) x ++ rest) rest (Dup old) (tag_again levels tag.Dup refl (has_room levels tag.Dup some))
      (map_again (λ x. Dup x) (old_at levels) ((old_text levels) x ++ rest) rest x ((spells some).again x rest fits.2.0))
  one_again (Contiguous count old) rest fits =
      let some = some_level levels old fits.2.0 in
      let x : _ = pick (both int (old_text levels)) (count, old) in
      behind_tag levels tag.Contiguous ((both int (old_text levels)) x ++ rest) rest (Contiguous count old) (tag_again levels tag.Contiguous refl (has_room levels tag.Contiguous some))
      (map_again (λ x. Contiguous x.0 x.1) (pair_at int_at (old_at levels)) ((both int (old_text levels)) x ++ rest) rest x ((pair_spells int (old_text levels) IsInt (IsOld levels) int_at (old_at levels) int_spells (spells some)).again x rest (fits.0, fits.2.0)))
  one_again (Vector count block stride old) rest fits =
      let some = some_level levels old fits.2.0 in
      let x : _ = pick (both int (both int (both int (old_text levels)))) (count, (block, (stride, old))) in
      ap (λ (v : Bytes). form_at (suc levels) (3 ∷ (v ++ rest))) (sym (fourth (int x.0) (int x.1.0) (int x.1.1.0) (old_text levels x.1.1.1)))
      ∙ behind_tag levels tag.Vector ((both int (both int (both int (old_text levels)))) x ++ rest) rest (Vector count block stride old) (tag_again levels tag.Vector refl (has_room levels tag.Vector some))
      (map_again (λ x. Vector x.0 x.1.0 x.1.1.0 x.1.1.1) (pair_at int_at (pair_at int_at (pair_at int_at (old_at levels)))) ((both int (both int (both int (old_text levels)))) x ++ rest) rest x ((pair_spells int (both int (both int (old_text levels))) IsInt (FitBoth IsInt (FitBoth IsInt (IsOld levels))) int_at (pair_at int_at (pair_at int_at (old_at levels))) int_spells (pair_spells int (both int (old_text levels)) IsInt (FitBoth IsInt (IsOld levels)) int_at (pair_at int_at (old_at levels)) int_spells (pair_spells int (old_text levels) IsInt (IsOld levels) int_at (old_at levels) int_spells (spells some)))).again x rest (fits.0.0, (fits.0.1, (fits.0.2, fits.2.0)))))
  one_again (Hvector count block stride old) rest fits =
      let some = some_level levels old fits.2.0 in
      let x : _ = pick (both int (both int (both address (old_text levels)))) (count, (block, (stride, old))) in
      ap (λ (v : Bytes). form_at (suc levels) (4 ∷ (v ++ rest))) (sym (fourth (int x.0) (int x.1.0) (address x.1.1.0) (old_text levels x.1.1.1)))
      ∙ behind_tag levels tag.Hvector ((both int (both int (both address (old_text levels)))) x ++ rest) rest (Hvector count block stride old) (tag_again levels tag.Hvector refl (has_room levels tag.Hvector some))
      (map_again (λ x. Hvector x.0 x.1.0 x.1.1.0 x.1.1.1) (pair_at int_at (pair_at int_at (pair_at address_at (old_at levels)))) ((both int (both int (both address (old_text levels)))) x ++ rest) rest x ((pair_spells int (both int (both address (old_text levels))) IsInt (FitBoth IsInt (FitBoth IsAddress (IsOld levels))) int_at (pair_at int_at (pair_at address_at (old_at levels))) int_spells (pair_spells int (both address (old_text levels)) IsInt (FitBoth IsAddress (IsOld levels)) int_at (pair_at address_at (old_at levels)) int_spells (pair_spells address (old_text levels) IsAddress (IsOld levels) address_at (old_at levels) address_spells (spells some)))).again x rest (fits.0.0, (fits.0.1, (fits.0.2, fits.2.0)))))
  one_again (Indexed blocks old) rest fits =
      let some = some_level levels old fits.2.0 in
      let x : _ = pick (both (counted int_block) (old_text levels)) (blocks, old) in
      behind_tag levels tag.Indexed ((both (counted int_block) (old_text levels)) x ++ rest) rest (Indexed blocks old) (tag_again levels tag.Indexed refl (has_room levels tag.Indexed some))
      (map_again (λ x. Indexed x.0 x.1) (pair_at (counted_at int_block_at) (old_at levels)) ((both (counted int_block) (old_text levels)) x ++ rest) rest x ((pair_spells (counted int_block) (old_text levels) (AreCounted (λ b. IsInt b.len × IsInt b.disp)) (IsOld levels) (counted_at int_block_at) (old_at levels) (counted_spells int_block (λ b. IsInt b.len × IsInt b.disp) int_block_at int_block_spells) (spells some)).again x rest ((fits.1, fits.0), fits.2.0)))
  one_again (Hindexed blocks old) rest fits =
      let some = some_level levels old fits.2.0 in
      let x : _ = pick (both (counted addr_block) (old_text levels)) (blocks, old) in
      behind_tag levels tag.Hindexed ((both (counted addr_block) (old_text levels)) x ++ rest) rest (Hindexed blocks old) (tag_again levels tag.Hindexed refl (has_room levels tag.Hindexed some))
      (map_again (λ x. Hindexed x.0 x.1) (pair_at (counted_at addr_block_at) (old_at levels)) ((both (counted addr_block) (old_text levels)) x ++ rest) rest x ((pair_spells (counted addr_block) (old_text levels) (AreCounted (λ b. IsInt b.len × IsAddress b.disp)) (IsOld levels) (counted_at addr_block_at) (old_at levels) (counted_spells addr_block (λ b. IsInt b.len × IsAddress b.disp) addr_block_at addr_block_spells) (spells some)).again x rest ((fits.1, fits.0), fits.2.0)))
  one_again (IndexedBlock block disps old) rest fits =
      let some = some_level levels old fits.2.0 in
      let x : _ = pick (both int (both (counted int) (old_text levels))) (block, (disps, old)) in
      ap (λ (v : Bytes). form_at (suc levels) (7 ∷ (v ++ rest))) (sym (third (int x.0) (counted int x.1.0) (old_text levels x.1.1) ∙ ap (λ (v : Bytes). v ++ old_text levels x.1.1) (third (int x.0) (number_of x.1.0) (flat_map int x.1.0))))
      ∙ behind_tag levels tag.IndexedBlock ((both int (both (counted int) (old_text levels))) x ++ rest) rest (IndexedBlock block disps old) (tag_again levels tag.IndexedBlock refl (has_room levels tag.IndexedBlock some))
      (map_again (λ x. IndexedBlock x.0 x.1.0 x.1.1) (pair_at int_at (pair_at (counted_at int_at) (old_at levels))) ((both int (both (counted int) (old_text levels))) x ++ rest) rest x ((pair_spells int (both (counted int) (old_text levels)) IsInt (FitBoth (AreCounted IsInt) (IsOld levels)) int_at (pair_at (counted_at int_at) (old_at levels)) int_spells (pair_spells (counted int) (old_text levels) (AreCounted IsInt) (IsOld levels) (counted_at int_at) (old_at levels) (counted_spells int IsInt int_at int_spells) (spells some))).again x rest (fits.0.0, ((fits.1, fits.0.1), fits.2.0))))
  one_again (HindexedBlock block disps old) rest fits =
      let some = some_level levels old fits.2.0 in
      let x : _ = pick (both int (both (counted address) (old_text levels))) (block, (disps, old)) in
      ap (λ (v : Bytes). form_at (suc levels) (8 ∷ (v ++ rest))) (sym (third (int x.0) (counted address x.1.0) (old_text levels x.1.1) ∙ ap (λ (v : Bytes). v ++ old_text levels x.1.1) (third (int x.0) (number_of x.1.0) (flat_map address x.1.0))))
      ∙ behind_tag levels tag.HindexedBlock ((both int (both (counted address) (old_text levels))) x ++ rest) rest (HindexedBlock block disps old) (tag_again levels tag.HindexedBlock refl (has_room levels tag.HindexedBlock some))
      (map_again (λ x. HindexedBlock x.0 x.1.0 x.1.1) (pair_at int_at (pair_at (counted_at address_at) (old_at levels))) ((both int (both (counted address) (old_text levels))) x ++ rest) rest x ((pair_spells int (both (counted address) (old_text levels)) IsInt (FitBoth (AreCounted IsAddress) (IsOld levels)) int_at (pair_at (counted_at address_at) (old_at levels)) int_spells (pair_spells (counted address) (old_text levels) (AreCounted IsAddress) (IsOld levels) (counted_at address_at) (old_at levels) (counted_spells address IsAddress address_at address_spells) (spells some))).again x rest (fits.0.0, ((fits.1, fits.0.1), fits.2.0))))
  one_again (Subarray dims order old) rest fits =
      let some = some_level levels old fits.2.0 in
      let x : _ = pick (both (λ o. order_byte o ∷ []) (both (counted sub_dim) (old_text levels))) (order, (dims, old)) in
      behind_tag levels tag.Subarray ((both (λ o. order_byte o ∷ []) (both (counted sub_dim) (old_text levels))) x ++ rest) rest (Subarray dims order old) (tag_again levels tag.Subarray refl (has_room levels tag.Subarray some))
      (map_again (λ x. Subarray x.1.0 x.0 x.1.1) (pair_at (item_at (slice_get orders)) (pair_at (counted_at sub_dim_at) (old_at levels))) ((both (λ o. order_byte o ∷ []) (both (counted sub_dim) (old_text levels))) x ++ rest) rest x ((pair_spells (λ o. order_byte o ∷ []) (both (counted sub_dim) (old_text levels)) Any (FitBoth (AreCounted (λ d. IsInt d.size × IsInt d.sub × IsInt d.start)) (IsOld levels)) (item_at (slice_get orders)) (pair_at (counted_at sub_dim_at) (old_at levels)) order_spells (pair_spells (counted sub_dim) (old_text levels) (AreCounted (λ d. IsInt d.size × IsInt d.sub × IsInt d.start)) (IsOld levels) (counted_at sub_dim_at) (old_at levels) (counted_spells sub_dim (λ d. IsInt d.size × IsInt d.sub × IsInt d.start) sub_dim_at sub_dim_spells) (spells some))).again x rest (tt, ((fits.1, fits.0), fits.2.0))))
  one_again (Darray size rank dims order old) rest fits =
      let some = some_level levels old fits.2.0 in
      let x : _ = pick (both int (both int (both (λ o. order_byte o ∷ []) (both (counted dist_dim) (old_text levels))))) (size, (rank, (order, (dims, old)))) in
      ap (λ (v : Bytes). form_at (suc levels) (11 ∷ (v ++ rest))) (sym (darray_text x.0 x.1.0 x.1.1.0 x.1.1.1.0 (old_text levels x.1.1.1.1)))
      ∙ behind_tag levels tag.Darray ((both int (both int (both (λ o. order_byte o ∷ []) (both (counted dist_dim) (old_text levels))))) x ++ rest) rest (Darray size rank dims order old) (tag_again levels tag.Darray refl (has_room levels tag.Darray some))
      (map_again (λ x. Darray x.0 x.1.0 x.1.1.1.0 x.1.1.0 x.1.1.1.1) (pair_at int_at (pair_at int_at (pair_at (item_at (slice_get orders)) (pair_at (counted_at dist_dim_at) (old_at levels))))) ((both int (both int (both (λ o. order_byte o ∷ []) (both (counted dist_dim) (old_text levels))))) x ++ rest) rest x ((pair_spells int (both int (both (λ o. order_byte o ∷ []) (both (counted dist_dim) (old_text levels)))) IsInt (FitBoth IsInt (FitBoth Any (FitBoth (AreCounted IsDistDim) (IsOld levels)))) int_at (pair_at int_at (pair_at (item_at (slice_get orders)) (pair_at (counted_at dist_dim_at) (old_at levels)))) int_spells (pair_spells int (both (λ o. order_byte o ∷ []) (both (counted dist_dim) (old_text levels))) IsInt (FitBoth Any (FitBoth (AreCounted IsDistDim) (IsOld levels))) int_at (pair_at (item_at (slice_get orders)) (pair_at (counted_at dist_dim_at) (old_at levels))) int_spells (pair_spells (λ o. order_byte o ∷ []) (both (counted dist_dim) (old_text levels)) Any (FitBoth (AreCounted IsDistDim) (IsOld levels)) (item_at (slice_get orders)) (pair_at (counted_at dist_dim_at) (old_at levels)) order_spells (pair_spells (counted dist_dim) (old_text levels) (AreCounted IsDistDim) (IsOld levels) (counted_at dist_dim_at) (old_at levels) (counted_spells dist_dim IsDistDim dist_dim_at dist_dim_spells) (spells some))))).again x rest (fits.0.0, (fits.0.1, (tt, ((fits.1, fits.0.2), fits.2.0))))))
  one_again (Resized lb extent old) rest fits =
      let some = some_level levels old fits.2.0 in
      let x : _ = pick (both address (both address (old_text levels))) (lb, (extent, old)) in
      ap (λ (v : Bytes). form_at (suc levels) (12 ∷ (v ++ rest))) (sym (third (address x.0) (address x.1.0) (old_text levels x.1.1)))
      ∙ behind_tag levels tag.Resized ((both address (both address (old_text levels))) x ++ rest) rest (Resized lb extent old) (tag_again levels tag.Resized refl (has_room levels tag.Resized some))
      (map_again (λ x. Resized x.0 x.1.0 x.1.1) (pair_at address_at (pair_at address_at (old_at levels))) ((both address (both address (old_text levels))) x ++ rest) rest x ((pair_spells address (both address (old_text levels)) IsAddress (FitBoth IsAddress (IsOld levels)) address_at (pair_at address_at (old_at levels)) address_spells (pair_spells address (old_text levels) IsAddress (IsOld levels) address_at (old_at levels) address_spells (spells some))).again x rest (fits.0.0, (fits.0.1, fits.2.0))))

pub form_spells : (levels : ℕ) → Spells (spelling (suc levels)) (IsForm (suc levels)) (form_at (suc levels))
form_spells zero = record { good = one_good zero (λ some. absurd (omega arith)); again = one_again zero (λ some. absurd (omega arith)) }
form_spells (suc levels) =
    let spells : 1 ≤ suc levels → Spells (old_text (suc levels)) (IsOld (suc levels)) (old_at (suc levels)) = λ some. old_spells (suc levels) (form_spells levels) in
    record { good = one_good (suc levels) spells; again = one_again (suc levels) spells }
