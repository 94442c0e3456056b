-- Where kinds differ first: of bytes, and of the elements that have them.
use Rattle.std.proofs.Common.{◌≡◌, ℕ, zero, suc, ◌+◌, ◌-◌, ◌≤◌, ◌<◌, Bool, cond, List, [], ◌∷◌, ◌++◌, take, drop, length, replicate, inl, inr, refl, sym, ap, subst, ◌∙◌, arith, length-append}
use Rattle.std.specs.Prelude.{slice_get, Option, Some, None}
use Rattle.std.proofs.lemmas.Bool.Decides.{leb_tells}
use Rattle.std.proofs.lemmas.List.{length-replicate, take-replicate, replicate-append-replicate, take_all, take_at, drop_at, take-take}
use Rattle.std.proofs.lemmas.Option.{slice_get_past}
use Rattle.std.proofs.Math.Seq.{take-append-add}
use Rattle.dt_kinds.specs.declared.kind.Kind.{Kind}
use Rattle.dt_kinds.specs.declared.kind.Rep.TheVariants.{Native}
use Rattle.dt_kinds.specs.Kind.{native_size}
use Rattle.dt_kinds.proofs.Table.{native_size-pos}
use Rattle.dt_map.specs.declared.entry.Entry.{Entry}
use Rattle.dt_map.specs.Setting.{done}
use Rattle.dt_rows.proofs.SettingRows.{two_pieces}
use Rattle.dt_copy.specs.Copied.{signature}
use Rattle.dt_copy.specs.Matching.{Begins, DifferAt}
use Rattle.dt_copy.specs.Side.{kinds_of}
use Rattle.dt_copy.proofs.Elements.{AreAlike}

-- members of parts of a list
pub get-drop : {A : Type 0} (xs : List A) (n k : ℕ) → slice_get (drop n xs) k ≡ slice_get xs (n + k)
get-drop [] zero k = refl
get-drop [] (suc n) k = refl
get-drop (x ∷ xs) zero k = (let here : 0 + k ≡ k = omega arith in ap (slice_get (x ∷ xs)) (sym here))
get-drop (x ∷ xs) (suc n) k = (let next : suc (n + k) ≡ suc n + k = omega arith in get-drop xs n k ∙ ap (slice_get (x ∷ xs)) next)

pub get-take : {A : Type 0} (xs : List A) (n k : ℕ) → k < n → slice_get (take n xs) k ≡ slice_get xs k
get-take xs zero k lt = absurd (omega arith)
get-take [] (suc n) k lt = refl
get-take (x ∷ xs) (suc n) zero lt = refl
get-take (x ∷ xs) (suc n) (suc k) lt = get-take xs n k (omega arith)

pub get-replicate : {A : Type 0} (n k : ℕ) (x : A) → k < n → slice_get (replicate n x) k ≡ Some x
get-replicate zero k x lt = absurd (omega arith)
get-replicate (suc n) zero x lt = refl
get-replicate (suc n) (suc k) x lt = get-replicate n k x (omega arith)

unwrap_or_first : {A : Type 0} → A → Option A → A
unwrap_or_first x (Some z) = z
unwrap_or_first x None = x

pub some_same : {A : Type 0} (x y : A) → Some x ≡ Some y → x ≡ y
unfolding unwrap_or_first
some_same x y same = ap (unwrap_or_first x) same

-- one stretch more is of the kind that is looked for
pub same_more : (ks : List Kind) (kind : Kind) (n m : ℕ) → take n ks ≡ replicate n kind → take m (drop n ks) ≡ replicate m kind → take (n + m) ks ≡ replicate (n + m) kind
same_more ks kind n m first then =
    sym (two_pieces ks n m) ∙ ap (λ xs. xs ++ take m (drop n ks)) first ∙ ap (λ xs. replicate n kind ++ xs) then ∙ replicate-append-replicate n m kind

-- all of them are
pub begins_same : (ks : List Kind) (kind : Kind) (n : ℕ) → take n ks ≡ replicate n kind → Begins (replicate n kind) ks
begins_same ks kind n same = ap (λ k. take k ks) (length-replicate n kind) ∙ same

-- the next one isn't
pub other_next : (ks : List Kind) (kind : Kind) (n m : ℕ) → n < m → take n ks ≡ replicate n kind → (slice_get ks n ≡ Some kind → ⊥) → DifferAt (replicate m kind) ks n
other_next ks kind n m less first other = record {
  within = omega (arith, less, length-replicate m kind);
  before = take-replicate n m kind (omega (arith, less)) ∙ sym first;
  here = λ same. other (sym same ∙ get-replicate m n kind less);
}

pub next_kind : (ks : List Kind) (kind : Kind) (n m : ℕ) → 0 < m → take m (drop n ks) ≡ replicate m kind → slice_get ks n ≡ Some kind
next_kind ks kind n m some next =
    let here : n + 0 ≡ n = omega arith in
    ap (slice_get ks) (sym here) ∙ sym (get-drop ks n 0) ∙ sym (get-take (drop n ks) m 0 some) ∙ ap (λ xs. slice_get xs 0) next ∙ get-replicate m 0 kind some

-- nor is there one at the end
is_there : Option Kind → ℕ
is_there (Some k) = 1
is_there None = 0

pub none_is_other : (ks : List Kind) (n : ℕ) (kind : Kind) → length ks ≤ n → slice_get ks n ≡ Some kind → ⊥
unfolding is_there
none_is_other ks n kind ended same = (let one = ap is_there (sym (slice_get_past ks n ended) ∙ same) in absurd (omega (arith, one)))

-- a stretch of one side against the other
module _ (xs ys : List Kind) (kind : Kind) (n m : ℕ) (before : take n xs ≡ take n ys) (next : take m (drop n xs) ≡ replicate m kind) where
  pub stretch_same : Begins (replicate m kind) (drop n ys) → take (n + m) xs ≡ take (n + m) ys
  stretch_same same =
      sym (two_pieces xs n m) ∙ ap (λ s. s ++ take m (drop n xs)) before ∙ ap (λ s. take n ys ++ s) next
      ∙ ap (λ s. take n ys ++ s) (sym same ∙ ap (λ k. take k (drop n ys)) (length-replicate m kind)) ∙ two_pieces ys n m

  pub stretch_differs : (k : ℕ) → n + m ≤ length xs → DifferAt (replicate m kind) (drop n ys) k → DifferAt xs ys (n + k)
  stretch_differs k room differ =
      let less : k < m = (let long = length-replicate m kind in let within = differ.within in omega (arith, long, within)) in
      let cut : take k (drop n xs) ≡ take k (replicate m kind) = sym (take-take k m (drop n xs) (omega (arith, less))) ∙ ap (take k) next in
      let member : slice_get xs (n + k) ≡ slice_get (replicate m kind) k =
      sym (get-drop xs n k) ∙ sym (get-take (drop n xs) m k less) ∙ ap (λ s. slice_get s k) next in
      record {
        within = omega (arith, less, room);
        before =
            sym (two_pieces xs n k) ∙ ap (λ s. s ++ take k (drop n xs)) before ∙ ap (λ s. take n ys ++ s) (cut ∙ differ.before) ∙ two_pieces ys n k;
        here = λ same. differ.here (sym member ∙ same ∙ sym (get-drop ys n k));
      }

pub begins_all : (xs ys : List Kind) (n : ℕ) → n ≡ length xs → take n xs ≡ take n ys → Begins xs ys
begins_all xs ys n all same = ap (λ k. take k ys) (sym all) ∙ sym same ∙ take_all n xs (omega (arith, all))

-- the kinds of the bytes of one element and of those after it
module _ (e : Entry) (es : List Entry) where
  abbrev size : ℕ
  size = native_size e.kind

  some : 0 < size
  some = native_size-pos e.kind

  own : List Kind
  own = replicate size e.kind

  pub long : length (kinds_of (e ∷ es)) ≡ size + length (kinds_of es)
  long = omega (arith, length-append (replicate size e.kind) (kinds_of es), length-replicate size e.kind)

  pub first_kind : (k : ℕ) → k < size → slice_get (kinds_of (e ∷ es)) k ≡ Some e.kind
  first_kind k lt =
      sym (get-take (kinds_of (e ∷ es)) size k lt) ∙ ap (λ s. slice_get s k) (take_at (replicate size e.kind) (kinds_of es) size (length-replicate size e.kind)) ∙ get-replicate size k e.kind lt

  pub behind : drop size (kinds_of (e ∷ es)) ≡ kinds_of es
  behind = drop_at (replicate size e.kind) (kinds_of es) size (length-replicate size e.kind)

  pub take_behind : (n : ℕ) → drop size (take (size + n) (kinds_of (e ∷ es))) ≡ take n (kinds_of es)
  take_behind n =
      ap (λ k. drop size (take (k + n) (replicate size e.kind ++ kinds_of es))) (sym (length-replicate size e.kind))
      ∙ ap (drop size) (take-append-add (replicate size e.kind) (kinds_of es) n)
      ∙ drop_at (replicate size e.kind) (take n (kinds_of es)) size (length-replicate size e.kind)

-- where the kinds of all bytes of the source are the target's, so are those of its elements
pub begins_alike : (es fs : List Entry) → Begins (kinds_of es) (kinds_of fs) → length es ≤ length fs → AreAlike es fs
begins_alike [] fs begins fewer = refl
begins_alike (e ∷ es) [] begins fewer = absurd (omega arith)
begins_alike (e ∷ es) (f ∷ fs) begins fewer =
    let n = length (kinds_of (e ∷ es)) in
    let more : 0 < n = omega (arith, some e es, long e es) in
    let same : e.kind ≡ f.kind =
    some_same e.kind f.kind (sym (first_kind e es 0 (some e es)) ∙ ap (λ s. slice_get s 0) (sym begins) ∙ get-take (kinds_of (f ∷ fs)) n 0 more ∙ first_kind f fs 0 (some f fs)) in
    let parts : n ≡ native_size f.kind + length (kinds_of es) = long e es ∙ ap (λ k. native_size k + length (kinds_of es)) same in
    let rest : Begins (kinds_of es) (kinds_of fs) =
    sym (take_behind f fs (length (kinds_of es))) ∙ ap (λ k. drop (native_size f.kind) (take k (kinds_of (f ∷ fs)))) (sym parts)
    ∙ ap (drop (native_size f.kind)) begins ∙ ap (λ k. drop (native_size k) (kinds_of (e ∷ es))) (sym same) ∙ behind e es in
    ap (λ k. k ∷ signature es) same ∙ ap (λ s. f.kind ∷ s) (begins_alike es fs rest (omega (arith, fewer)))

-- the elements differ first where their bytes do
abbrev pub AreFirst : List Entry → List Entry → ℕ → Type 0
AreFirst es fs at = (at < length es) × (take at (signature es) ≡ take at (signature fs)) × (slice_get (signature es) at ≡ slice_get (signature fs) at → ⊥)

pub first_of_bytes : (es fs : List Entry) (p : ℕ) → DifferAt (kinds_of es) (kinds_of fs) p → length es ≤ length fs → AreFirst es fs (done Native es p)
first_of_bytes [] fs p differ fewer = (let within = differ.within in absurd (omega (arith, within)))
first_of_bytes (e ∷ es) [] p differ fewer = absurd (omega arith)
first_of_bytes (e ∷ es) (f ∷ fs) p differ fewer =
    let size = native_size e.kind in
    let Is : Bool → Type 0 = λ b. AreFirst (e ∷ es) (f ∷ fs) (cond b (suc (done Native es (p - size))) 0) in
    elim (leb_tells size p) [
      | inl h ↦ subst Is (sym h.0) (later h.1 (first_of_bytes es fs (p - size)))
      | inr h ↦ subst Is (sym h.0) (at_once h.1)
    ]
  where
    at_once : p < native_size e.kind → AreFirst (e ∷ es) (f ∷ fs) 0
    at_once lt = (
      omega arith,
      refl,
      λ same.
          (let kinds = some_same e.kind f.kind same in
          let there : p < native_size f.kind = subst (λ k. p < native_size k) kinds lt in
          differ.here (first_kind e es p lt ∙ same ∙ sym (first_kind f fs p there))),
    )

    later : native_size e.kind ≤ p → (DifferAt (kinds_of es) (kinds_of fs) (p - native_size e.kind) → length es ≤ length fs → AreFirst es fs (done Native es (p - native_size e.kind)))
        → AreFirst (e ∷ es) (f ∷ fs) (suc (done Native es (p - native_size e.kind)))
    later le behind_them =
        let size = native_size e.kind in
        let q = p - size in
        let parts : size + q ≡ p = omega (arith, le) in
        let more : 0 < p = omega (arith, le, some e es) in
        let same : e.kind ≡ f.kind =
        some_same e.kind f.kind (sym (first_kind e es 0 (some e es)) ∙ sym (get-take (kinds_of (e ∷ es)) p 0 more) ∙ ap (λ s. slice_get s 0) differ.before ∙ get-take (kinds_of (f ∷ fs)) p 0 more ∙ first_kind f fs 0 (some f fs)) in
        let size_is : size ≡ native_size f.kind = ap native_size same in
        let before : take q (kinds_of es) ≡ take q (kinds_of fs) =
        sym (take_behind e es q) ∙ ap (λ k. drop size (take k (kinds_of (e ∷ es)))) parts
        ∙ ap (drop size) differ.before ∙ ap (λ k. drop size (take k (kinds_of (f ∷ fs)))) (sym parts)
        ∙ ap (λ k. drop k (take (k + q) (kinds_of (f ∷ fs)))) size_is ∙ take_behind f fs q in
        let of_source : slice_get (kinds_of (e ∷ es)) p ≡ slice_get (kinds_of es) q =
        ap (slice_get (kinds_of (e ∷ es))) (sym parts) ∙ sym (get-drop (kinds_of (e ∷ es)) size q) ∙ ap (λ s. slice_get s q) (behind e es) in
        let of_target : slice_get (kinds_of (f ∷ fs)) p ≡ slice_get (kinds_of fs) q =
        ap (slice_get (kinds_of (f ∷ fs))) (sym parts ∙ ap (λ k. k + q) size_is) ∙ sym (get-drop (kinds_of (f ∷ fs)) (native_size f.kind) q) ∙ ap (λ s. slice_get s q) (behind f fs) in
        let within = differ.within in
        let rest = behind_them (record {
          within = omega (arith, within, long e es, parts);
          before = before;
          here = λ is. differ.here (of_source ∙ is ∙ sym of_target);
        }) (omega (arith, fewer)) in
        (omega (arith, rest.0), ap (λ k. k ∷ take (done Native es q) (signature es)) same ∙ ap (λ s. f.kind ∷ s) rest.1, rest.2)
