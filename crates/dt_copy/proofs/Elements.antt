-- Elements copied byte for byte.
use Rattle.std.proofs.Common.{◌≡◌, ℕ, ◌+◌, ◌-◌, ◌≤◌, true, pos, List, [], ◌∷◌, ◌++◌, take, drop, length, get_or, replicate, refl, sym, ap, ◌∙◌, arith, length-append, length-drop}
use Rattle.std.specs.Prelude.{nat_abs}
use Rattle.std.specs.List.{flat_map}
use Rattle.std.proofs.lemmas.Bool.{and_parts}
use Rattle.std.proofs.lemmas.Int.{ints}
use Rattle.std.proofs.lemmas.List.{length-take-le, length-replicate, take_at, drop_at}
use Rattle.std.proofs.lemmas.List.Sums.{sum_by-cons}
use Rattle.dt_kinds.specs.declared.kind.Kind.TheVariants.{Byte}
use Rattle.dt_kinds.specs.declared.kind.Rep.TheVariants.{Native}
use Rattle.dt_kinds.specs.Kind.{native_size, packed_size}
use Rattle.dt_map.specs.declared.entry.Entry.{Entry}
use Rattle.dt_map.specs.Elements.{are_inside, lies_inside}
use Rattle.dt_map.specs.Packed.{bytes_at, packed, total}
use Rattle.dt_map.specs.Setting.{written, set_each}
use Rattle.dt_rows.specs.Rows.{adjacent}
use Rattle.dt_rows.proofs.InsideRows.{bounds_of_inside}
use Rattle.dt_rows.proofs.SettingRows.{drop_none}
use Rattle.dt_copy.specs.Copied.{copied, signature}
use Rattle.dt_copy.specs.Laws.{CopiedIsSet}
use Rattle.dt_copy.specs.Side.{bytes_of, kinds_of}
use Rattle.dt_copy.proofs.Bytes.{copied_append, copied_front, length-written, length-adjacent, bytes_from, span_copied}

-- how many bytes elements have
module _ {A : Type 0} (g : Entry → List A) (sized : (e : Entry) → length (g e) ≡ native_size e.kind) where
  pub length-all : (es : List Entry) → length (flat_map g es) ≡ total Native es
  length-all [] = refl
  length-all (e ∷ es) =
      let rest = length-all es in
      let here = sized e in
      omega (arith, rest, here, length-append (g e) (flat_map g es), sum_by-cons (λ (f : Entry). packed_size Native f.kind) e es)

pub bytes_sized : (e : Entry) → length (adjacent Byte (native_size e.kind) e.disp) ≡ native_size e.kind
bytes_sized e = length-adjacent Byte (native_size e.kind) e.disp

pub kinds_sized : (e : Entry) → length (replicate (native_size e.kind) e.kind) ≡ native_size e.kind
kinds_sized e = length-replicate (native_size e.kind) e.kind

pub length-bytes_of : (es : List Entry) → length (bytes_of es) ≡ total Native es
length-bytes_of = length-all (λ e. adjacent Byte (native_size e.kind) e.disp) bytes_sized

pub length-kinds_of : (es : List Entry) → length (kinds_of es) ≡ total Native es
length-kinds_of = length-all (λ e. replicate (native_size e.kind) e.kind) kinds_sized

-- the first of two lists that begin alike
pub same_parts : {A : Type 0} (x y : A) (xs ys : List A) → x ∷ xs ≡ y ∷ ys → (x ≡ y) × (xs ≡ ys)
same_parts x y xs ys same = (ap (λ zs. get_or zs 0 x) same, ap (drop 1) same)

-- the signature of the first elements of the target is that of the source
abbrev pub AreAlike : List Entry → List Entry → Type 0
AreAlike es fs = signature es ≡ take (length es) (signature fs)

-- then the source has no more bytes
pub no_more_bytes : (es fs : List Entry) → AreAlike es fs → total Native es ≤ total Native fs
no_more_bytes [] fs alike = omega arith
no_more_bytes (e ∷ es) [] alike = (let long = ap length alike in absurd (omega (arith, long)))
no_more_bytes (e ∷ es) (f ∷ fs) alike =
    let parts = same_parts e.kind f.kind (signature es) (take (length es) (signature fs)) alike in
    let same = ap native_size parts.0 in
    let rest = no_more_bytes es fs parts.1 in
    let size : Entry → ℕ = λ g. packed_size Native g.kind in
    omega (arith, rest, same, sum_by-cons size e es, sum_by-cons size f fs)

pub record Lies (len : ℕ) (e : Entry) : Type 0 where
  pub starts : e.disp ≡ pos (nat_abs e.disp)
  pub ends : nat_abs e.disp + native_size e.kind ≤ len

lies : (len : ℕ) (e : Entry) → lies_inside len e ≡ true → Lies len e
lies len e inside =
    let bounds = bounds_of_inside len e inside in
    record { starts = omega (arith, ints, bounds.0); ends = omega (arith, ints, bounds.0, bounds.1) }

pub inside_parts : (len : ℕ) (e : Entry) (es : List Entry) → are_inside len (e ∷ es) ≡ true → Lies len e × (are_inside len es ≡ true)
inside_parts len e es inside =
    let parts = and_parts (lies_inside len e) (are_inside len es) inside in
    (lies len e parts.0, parts.1)

pub length-bytes_at : (s : List ℕ) (e : Entry) → Lies (length s) e → length (bytes_at s e) ≡ native_size e.kind
length-bytes_at s e here =
    let room = here.ends in
    length-take-le (native_size e.kind) (drop (nat_abs e.disp) s) (omega (arith, room, length-drop (nat_abs e.disp) s))

-- copying elements is copying their bytes
pub copied_bytes : (es fs : List Entry) (s t : List ℕ) → AreAlike es fs → are_inside (length s) es ≡ true → are_inside (length t) fs ≡ true
    → copied (bytes_of es) (bytes_of fs) s t ≡ copied es fs s t
copied_bytes [] fs s t alike from to = refl
copied_bytes (e ∷ es) [] s t alike from to = (let long = ap length alike in absurd (omega (arith, long)))
copied_bytes (e ∷ es) (f ∷ fs) s t alike from to =
    let parts = same_parts e.kind f.kind (signature es) (take (length es) (signature fs)) alike in
    let read = inside_parts (length s) e es from in
    let put = inside_parts (length t) f fs to in
    let k = native_size e.kind in
    let same : k ≡ native_size f.kind = ap native_size parts.0 in
    let a = nat_abs e.disp in
    let b = nat_abs f.disp in
    let bytes = bytes_at s e in
    let long = length-bytes_at s e read.0 in
    let starts = read.0.ends in
    let ends = put.0.ends in
    let one = bytes_from k e.disp in
    let other = bytes_from (native_size f.kind) f.disp in
    let first : length one ≡ k = length-adjacent Byte k e.disp in
    let second : length other ≡ k = length-adjacent Byte (native_size f.kind) f.disp ∙ sym same in
    let here : copied one (other ++ bytes_of fs) s t ≡ written t b bytes =
    sym (copied_front one (other ++ bytes_of fs) s t)
    ∙ ap (λ n. copied one (take n (other ++ bytes_of fs)) s t) first
    ∙ ap (λ gs. copied one gs s t) (take_at other (bytes_of fs) k second)
    ∙ ap (λ x. copied (bytes_from k x) other s t) read.0.starts
    ∙ ap (λ x. copied (bytes_from k (pos a)) (bytes_from (native_size f.kind) x) s t) put.0.starts
    ∙ ap (λ n. copied (bytes_from k (pos a)) (bytes_from n (pos b)) s t) (sym same)
    ∙ span_copied k a b s t starts (omega (arith, ends, same)) in
    let kept = length-written t b bytes (omega (arith, long, ends, same)) in
    copied_append one (bytes_of es) (other ++ bytes_of fs) s t
    ∙ ap (λ n. copied (bytes_of es) (drop n (other ++ bytes_of fs)) s (copied one (other ++ bytes_of fs) s t)) first
    ∙ ap (λ gs. copied (bytes_of es) gs s (copied one (other ++ bytes_of fs) s t)) (drop_at other (bytes_of fs) k second)
    ∙ ap (copied (bytes_of es) (bytes_of fs) s) here
    ∙ copied_bytes es fs s (written t b bytes) parts.1 read.1 (ap (λ n. are_inside n fs) kept ∙ put.1)

-- copying elements sets those of the target to the packed bytes
pub copied_sets : (es fs : List Entry) (s t : List ℕ) → AreAlike es fs → are_inside (length s) es ≡ true
    → copied es fs s t ≡ set_each Native (take (length es) fs) t (packed Native es s)
copied_sets [] fs s t alike from = refl
copied_sets (e ∷ es) [] s t alike from = (let long = ap length alike in absurd (omega (arith, long)))
copied_sets (e ∷ es) (f ∷ fs) s t alike from =
    let parts = same_parts e.kind f.kind (signature es) (take (length es) (signature fs)) alike in
    let read = inside_parts (length s) e es from in
    let bytes = bytes_at s e in
    let rest = packed Native es s in
    let long : length bytes ≡ native_size f.kind = length-bytes_at s e read.0 ∙ ap native_size parts.0 in
    let b = nat_abs f.disp in
    copied_sets es fs s (written t b bytes) parts.1 read.1
    ∙ ap (λ p. set_each Native (take (length es) fs) (written t b p) rest) (sym (take_at bytes rest (native_size f.kind) long))
    ∙ ap (set_each Native (take (length es) fs) (written t b (take (native_size f.kind) (bytes ++ rest)))) (sym (drop_at bytes rest (native_size f.kind) long))

pub copied_is_set : CopiedIsSet
copied_is_set c source target from to can =
    copied_sets c.source c.target source target can.alike (ap (λ n. are_inside n c.source) from ∙ can.enough.settable.inside.source)
    ∙ ap (λ fs. set_each Native (take (length c.source) fs) target (packed Native c.source source)) (sym (drop_none c.target))
    ∙ ap (λ n. set_each Native (take n (drop 0 c.target)) target (packed Native c.source source)) (let all : length c.source ≡ length c.source - 0 = omega arith in all)
