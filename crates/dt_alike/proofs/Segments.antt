-- segments of a list, and what is alike in front and behind
use Rattle.std.proofs.Common.{◌≡◌, ℕ, suc, ◌≤◌, ◌<◌, ℤ, ◌+ℤ◌, ◌-ℤ◌, List, ◌∷◌, length, take, drop, get_or, ap, ◌∙◌, true, arith}
use Rattle.std.proofs.Math.Seq.{drop-cons}
use Rattle.std.proofs.lemmas.Int.{ints}
use Rattle.std.proofs.lemmas.List.{take-take}
use Rattle.dt_kinds.specs.declared.kind.Kind.{Kind}
use Rattle.dt_map.specs.declared.entry.Entry.{Entry}
use Rattle.dt_map.specs.Alike.{segment, alike}
use Rattle.dt_map.specs.Typemap.{shift, shift_entry}
use Rattle.dt_map.proofs.Likeness.{alike_is_equivalence, alike_is_shifted, segments_of_alike}

pub segment-suc : (m : List Entry) (i r : ℕ) (d : Entry) → i < length m → segment m i (suc r) ≡ get_or m i d ∷ segment m (suc i) r
segment-suc m i r d inside = ap (take (suc r)) (drop-cons m i d inside)

segment-front : (m : List Entry) (i len r : ℕ) → len ≤ r → segment (segment m i r) 0 len ≡ segment m i len
segment-front m i len r fewer = take-take len r (drop i m) fewer

-- the fronts of alike segments are alike
pub alike_front : (m : List Entry) (i k len r : ℕ) → len ≤ r → alike (segment m i r) (segment m k r) ≡ true → alike (segment m i len) (segment m k len) ≡ true
alike_front m i k len r fewer same =
    rw (segment-front m i len r fewer, segment-front m k len r fewer) at (segments_of_alike (segment m i r) (segment m k r) 0 len same)

-- entries after a first one that are alike with the first one are placed as that is
pub record HeadAlike (e f : Entry) (es fs : List Entry) : Type 0 where
  pub kind : e.kind ≡ f.kind
  pub tail : es ≡ shift (e.disp -ℤ f.disp) fs

pub head_alike : (e f : Entry) (es fs : List Entry) → alike (e ∷ es) (f ∷ fs) ≡ true → HeadAlike e f es fs
head_alike e f es fs same =
    let placed = (alike_is_shifted (e ∷ es) (f ∷ fs)).0 same in
    let x : ℤ = placed.0 in
    let whole : e ∷ es ≡ shift_entry x f ∷ shift x fs = placed.1 in
    let first : e ≡ shift_entry x f = cc in
    let rest : es ≡ shift x fs = cc in
    let kinds : e.kind ≡ f.kind = ap (λ (e : Entry). e.kind) first in
    let disps : e.disp ≡ f.disp +ℤ x = ap (λ (e : Entry). e.disp) first in
    let is : x ≡ e.disp -ℤ f.disp = omega (arith, ints) in
    record { kind = kinds; tail = rest ∙ ap (λ z. shift z fs) is }

same_parts : (k l : Kind) (d g : ℤ) → k ≡ l → d ≡ g → (let e : Entry = record { kind = k; disp = d } in e) ≡ record { kind = l; disp = g }
same_parts k l d g same_kind same_disp = cc

same_entries : (e f : Entry) (x : ℤ) → e.kind ≡ f.kind → e.disp ≡ f.disp +ℤ x → e ≡ shift_entry x f
same_entries e f x kind disp = same_parts e.kind f.kind e.disp (f.disp +ℤ x) kind disp

pub joined_alike : (e f : Entry) (es fs : List Entry) → e.kind ≡ f.kind → es ≡ shift (e.disp -ℤ f.disp) fs → alike (e ∷ es) (f ∷ fs) ≡ true
joined_alike e f es fs kind tail =
    let x : ℤ = e.disp -ℤ f.disp in
    let first : e ≡ shift_entry x f = same_entries e f x kind (omega (arith, ints)) in
    let whole : e ∷ es ≡ shift x (f ∷ fs) = cc in
    (alike_is_shifted (e ∷ es) (f ∷ fs)).1 (x, whole)

pub tail_alike : (e f : Entry) (es fs : List Entry) → alike (e ∷ es) (f ∷ fs) ≡ true → alike es fs ≡ true
tail_alike e f es fs same = (alike_is_shifted es fs).1 (e.disp -ℤ f.disp, (head_alike e f es fs same).tail)

pub alike_self : (es : List Entry) → alike es es ≡ true
alike_self es = alike_is_equivalence.0 es

pub alike_sym : (es fs : List Entry) → alike es fs ≡ true → alike fs es ≡ true
alike_sym es fs same = alike_is_equivalence.1 es fs same

pub alike_trans : (es fs gs : List Entry) → alike es fs ≡ true → alike fs gs ≡ true → alike es gs ≡ true
alike_trans es fs gs one two = alike_is_equivalence.2 es fs gs one two
