-- what a text is of, which line is wrong, and that a reason excludes what is shown
use Rattle.std.proofs.Common.{◌≡◌, ◌≢◌, ◌⊎◌, inl, inr, ℕ, ◌-◌, ◌<◌, ℤ, pos, Option, Some, None, List, [], ◌∷◌, ◌++◌, length, Result, Ok, refl, sym, ap, subst, ◌∙◌, append_assoc, arith}
use Rattle.dt_kinds.specs.declared.kind.Kind.TheVariants.{Byte}
use Rattle.dt_map.specs.declared.entry.Entry.{Entry}
use Rattle.dt_tree.specs.Tree.{Tree}
use Rattle.dt_check.proofs.Everywhere.{valid_everywhere, one_first_failing}
use Rattle.dt_normal.specs.Table.{IsValid}
use Rattle.dt_spelling.specs.Spelling.{Word, Words}
use Rattle.dt_spelling.proofs.Rests.{lt_or_ge}
use Rattle.dt_cert.specs.declared.judging.Failing.{Failing}
use Rattle.dt_cert.specs.declared.judging.Failing.TheVariants.{WrongMap as BreaksMap, WrongCost as BreaksCost, LowFails as BreaksLow, RootBelow as BreaksRoot, NoMemory as BreaksNothing}
use Rattle.dt_cert.specs.Certificate.{Certificate}
use Rattle.dt_cert.specs.Classes.{value_in}
use Rattle.dt_cert.specs.Judged.{IsBroken, IsFirstDifference, placed}
use Rattle.dt_cert.specs.Shown.{Holds, StandsFor, IsShown}
use Rattle.dt_verdict.specs.declared.verdict.NotShown.{NotShown}
use Rattle.dt_verdict.specs.declared.verdict.NotShown.TheVariants.{Syntax, WrongMap, WrongCost, LowFails, RootBelow, NoMemory}
use Rattle.dt_verdict.specs.Fault.{IsTextOf, IsBegun, IsFirstWrong, IsWrongLine}
use Rattle.dt_verdict.specs.Laws.{OneCertificate, OneWrongLine, OneReason, NothingShown}
use Rattle.dt_verdict.specs.Verdict.{Breaks, IsNotShown}
use Rattle.dt_verdict.proofs.Refusals.{read_again}

-- one certificate
ok_same : (c d : Certificate) → (let r : Result Certificate Words = Ok c in r ≡ Ok d) → c ≡ d
ok_same c d e = cc

pub one_certificate : OneCertificate
one_certificate text c d h k = ok_same c d (sym (read_again text c h) ∙ read_again text d k)

-- one wrong line
-- of two cuts of one list, the longer front goes on with the other's next one
goes_on : (before left other rest : Words) → before ++ left ≡ other ++ rest → length before < length other → (next : Word) × (after more : Words) × (left ≡ next ∷ after) × (other ≡ (before ++ next ∷ []) ++ more)
goes_on [] left [] rest e lt = absurd (omega arith)
goes_on [] left (next ∷ more) rest e lt = (next, more ++ rest, more, e, refl)
goes_on (line ∷ before) left [] rest e lt = absurd (omega arith)
goes_on (line ∷ before) left (line' ∷ other) rest e lt =
    let same : line ≡ line' = cc (e) in
    let tails : before ++ left ≡ other ++ rest = cc (e) in
    let h = goes_on before left other rest tails (omega arith) in
    (h.0, h.1, h.2, h.3, ap (λ (w : Word). w ∷ other) (sym same) ∙ ap (λ (ws : Words). line ∷ ws) h.4)

module _ (Begin : Words → Type 0) (fewer : (before left : Words) → Begin (before ++ left) → Begin before) where
  not_later : (text : List ℕ) (line other : ℕ) → (h : IsFirstWrong Begin text line) → (k : IsFirstWrong Begin text other) → length h.before < length k.before → ⊥
  not_later text line other h k lt =
      let s = goes_on h.before h.left k.before k.left (sym h.whole ∙ k.whole) lt in
      h.wrong s.0 s.1 s.3 (fewer (h.before ++ s.0 ∷ []) s.2 (subst Begin s.4 k.begun))

  pub one_first_wrong : (text : List ℕ) (line other : ℕ) → IsFirstWrong Begin text line → IsFirstWrong Begin text other → line ≡ other
  one_first_wrong text line other h k = elim (lt_or_ge (length h.before) (length k.before)) [
    | inl lt ↦ absurd (not_later text line other h k lt)
    | inr ge ↦ elim (lt_or_ge (length k.before) (length h.before)) [
      | inl lt ↦ absurd (not_later text other line k h lt)
      | inr le ↦ let a = h.place in let b = k.place in omega (arith, a, b, ge, le)
    ]
  ]

fewer : (before left : Words) → IsBegun (before ++ left) → IsBegun before
fewer before left b = record { certificate = b.certificate; behind = left ++ b.behind; writable = b.writable; written = b.written ∙ append_assoc before left b.behind }

pub one_wrong_line : OneWrongLine
one_wrong_line = one_first_wrong IsBegun fewer

-- a certificate that holds breaks no rule
same_differ : (es : List Entry) (at : ℕ) → IsFirstDifference es es at → ⊥
same_differ es at h = elim h.here [
  | inl x ↦ absurd (omega (arith, x.0, x.1))
  | inr y ↦ elim y [
    | inl x ↦ absurd (omega (arith, x.0, x.1))
    | inr x ↦ x.2 (record { kind = Byte; disp = pos 0 }) refl
  ]
]

placed_is : (t : Option Tree) (base : ℤ) (es : List Entry) → StandsFor t base es → placed t base ≡ es
placed_is None base es h = sym h
placed_is (Some tree) base es h = h.1

unbroken : (c : Certificate) (failing : Failing) → Holds c → failing ≢ BreaksNothing → IsBroken c failing → ⊥
unbroken c (BreaksMap at) h some b = same_differ c.entries at (subst (λ es. IsFirstDifference es c.entries at) (placed_is c.tree c.base c.entries h.stands) b)
unbroken c (BreaksCost stated found) h some b = b.3 (b.1 ∙ (h.costs ∙ sym b.2))
unbroken c (BreaksLow start end) h some b =
    let fails = b.2 in
    fails.fails ((valid_everywhere c.weights c.entries (value_in c.version c.entries c.values)).0 h.valid start (end - start) fails.segment)
unbroken c (BreaksRoot low cost) h some b = let root = h.root in absurd (omega (arith, root, b.3, b.4, b.5))
unbroken c BreaksNothing h some b = some refl

broken_shown : (text : List ℕ) (failing : Failing) → failing ≢ BreaksNothing → Breaks text failing → (c : Certificate) → IsShown text c → ⊥
broken_shown text failing some b c shown =
    let same = one_certificate text b.certificate c b.written (shown.writable, shown.written) in
    unbroken c failing shown.holds some (subst (λ d. IsBroken d failing) same b.broken)

pub nothing_shown : NothingShown
nothing_shown text (Syntax line) some h c shown = h.0 c (shown.writable, shown.written)
nothing_shown text (WrongMap at) some h c shown = broken_shown text (BreaksMap at) (λ e. cc e) h c shown
nothing_shown text (WrongCost stated found) some h c shown = broken_shown text (BreaksCost stated found) (λ e. cc e) h c shown
nothing_shown text (LowFails start end) some h c shown = broken_shown text (BreaksLow start end) (λ e. cc e) h c shown
nothing_shown text (RootBelow low cost) some h c shown = broken_shown text (BreaksRoot low cost) (λ e. cc e) h c shown
nothing_shown text NoMemory some h c shown = some refl

-- one reason
not_sooner : (es fs : List Entry) (at other : ℕ) → IsFirstDifference es fs at → IsFirstDifference es fs other → at < other → ⊥
not_sooner es fs at other h k lt =
    let inside = k.inside in
    let other_inside = k.other_inside in
    elim h.here [
      | inl x ↦ absurd (omega (arith, x.0, inside))
      | inr y ↦ elim y [
        | inl x ↦ absurd (omega (arith, x.1, other_inside))
        | inr x ↦ let d : Entry = record { kind = Byte; disp = pos 0 } in x.2 d (k.before at d lt)
      ]
    ]

one_difference : (es fs : List Entry) (at other : ℕ) → IsFirstDifference es fs at → IsFirstDifference es fs other → at ≡ other
one_difference es fs at other h k = elim (lt_or_ge at other) [
  | inl lt ↦ absurd (not_sooner es fs at other h k lt)
  | inr ge ↦ elim (lt_or_ge other at) [ inl lt ↦ absurd (not_sooner es fs other at k h lt) | inr le ↦ omega (arith, ge, le) ]
]

stands_still : (c : Certificate) (at : ℕ) → StandsFor c.tree c.base c.entries → IsBroken c (BreaksMap at) → ⊥
stands_still c at stands b = same_differ c.entries at (subst (λ es. IsFirstDifference es c.entries at) (placed_is c.tree c.base c.entries stands) b)

valid_holds : (c : Certificate) (start end : ℕ) → IsValid c.weights c.entries (value_in c.version c.entries c.values) → IsBroken c (BreaksLow start end) → ⊥
valid_holds c start end valid b =
    let fails = b.2 in fails.fails ((valid_everywhere c.weights c.entries (value_in c.version c.entries c.values)).0 valid start (end - start) fails.segment)

two_costs : (a b x y : ℕ) → a ≡ x → b ≡ y → BreaksCost a b ≡ BreaksCost x y
two_costs a b x y e f = ap (λ n. BreaksCost n b) e ∙ ap (BreaksCost x) f

two_ends : (a b x y : ℕ) → a ≡ x → b ≡ y → BreaksLow a b ≡ BreaksLow x y
two_ends a b x y e f = ap (λ n. BreaksLow n b) e ∙ ap (BreaksLow x) f

two_roots : (a b x y : ℕ) → a ≡ x → b ≡ y → BreaksRoot a b ≡ BreaksRoot x y
two_roots a b x y e f = ap (λ n. BreaksRoot n b) e ∙ ap (BreaksRoot x) f

one_failing : (c : Certificate) (f g : Failing) → f ≢ BreaksNothing → g ≢ BreaksNothing → IsBroken c f → IsBroken c g → f ≡ g
one_failing c BreaksNothing g some others h k = absurd (some refl)
one_failing c (BreaksMap at) BreaksNothing some others h k = absurd (others refl)
one_failing c (BreaksCost stated found) BreaksNothing some others h k = absurd (others refl)
one_failing c (BreaksLow start end) BreaksNothing some others h k = absurd (others refl)
one_failing c (BreaksRoot low cost) BreaksNothing some others h k = absurd (others refl)
one_failing c (BreaksMap at) (BreaksMap other) some others h k = ap BreaksMap (one_difference (placed c.tree c.base) c.entries at other h k)
one_failing c (BreaksMap at) (BreaksCost stated found) some others h k = absurd (stands_still c at k.0 h)
one_failing c (BreaksMap at) (BreaksLow start end) some others h k = absurd (stands_still c at k.0 h)
one_failing c (BreaksMap at) (BreaksRoot low cost) some others h k = absurd (stands_still c at k.0 h)
one_failing c (BreaksCost stated found) (BreaksMap at) some others h k = absurd (stands_still c at h.0 k)
one_failing c (BreaksCost stated found) (BreaksCost other there) some others h k = two_costs stated found other there (h.1 ∙ sym k.1) (h.2 ∙ sym k.2)
one_failing c (BreaksCost stated found) (BreaksLow start end) some others h k = absurd (h.3 (h.1 ∙ (k.1 ∙ sym h.2)))
one_failing c (BreaksCost stated found) (BreaksRoot low cost) some others h k = absurd (h.3 (h.1 ∙ (k.1 ∙ sym h.2)))
one_failing c (BreaksLow start end) (BreaksMap at) some others h k = absurd (stands_still c at h.0 k)
one_failing c (BreaksLow start end) (BreaksCost stated found) some others h k = absurd (k.3 (k.1 ∙ (h.1 ∙ sym k.2)))
one_failing c (BreaksLow start end) (BreaksLow from to) some others h k =
    let a = h.2 in
    let b = k.2 in
    let same = one_first_failing c.weights c.entries (value_in c.version c.entries c.values) start (end - start) from (to - from) a b in
    two_ends start end from to same.0 (omega (arith, same.0, same.1, a.segment.0, b.segment.0))
one_failing c (BreaksLow start end) (BreaksRoot low cost) some others h k = absurd (valid_holds c start end k.2 h)
one_failing c (BreaksRoot low cost) (BreaksMap at) some others h k = absurd (stands_still c at h.0 k)
one_failing c (BreaksRoot low cost) (BreaksCost stated found) some others h k = absurd (k.3 (k.1 ∙ (h.1 ∙ sym k.2)))
one_failing c (BreaksRoot low cost) (BreaksLow start end) some others h k = absurd (valid_holds c start end h.2 k)
one_failing c (BreaksRoot low cost) (BreaksRoot other there) some others h k = two_roots low cost other there (h.3 ∙ sym k.3) (h.4 ∙ sym k.4)

-- as reasons
abbrev reason_of : Failing → NotShown
reason_of (BreaksMap at) = WrongMap at
reason_of (BreaksCost stated found) = WrongCost stated found
reason_of (BreaksLow start end) = LowFails start end
reason_of (BreaksRoot low cost) = RootBelow low cost
reason_of BreaksNothing = NoMemory

one_breaking : (text : List ℕ) (f g : Failing) → f ≢ BreaksNothing → g ≢ BreaksNothing → Breaks text f → Breaks text g → reason_of f ≡ reason_of g
one_breaking text f g some others h k =
    let same = one_certificate text h.certificate k.certificate h.written k.written in
    ap reason_of (one_failing k.certificate f g some others (subst (λ d. IsBroken d f) same h.broken) k.broken)

why : (text : List ℕ) (a : NotShown) → a ≢ NoMemory → IsNotShown text a →
    ((line : ℕ) × (a ≡ Syntax line) × ((c : Certificate) → ¬ IsTextOf text c) × IsWrongLine text line) ⊎ ((f : Failing) × (f ≢ BreaksNothing) × (a ≡ reason_of f) × Breaks text f)
why text (Syntax line) some h = inl (line, refl, h.0, h.1)
why text (WrongMap at) some h = inr (BreaksMap at, (λ e. cc e), refl, h)
why text (WrongCost stated found) some h = inr (BreaksCost stated found, (λ e. cc e), refl, h)
why text (LowFails start end) some h = inr (BreaksLow start end, (λ e. cc e), refl, h)
why text (RootBelow low cost) some h = inr (BreaksRoot low cost, (λ e. cc e), refl, h)
why text NoMemory some h = absurd (some refl)

pub one_reason : OneReason
one_reason text a b some others h k = elim (why text a some h) [
  | inl x ↦ elim (why text b others k) [
    | inl y ↦ x.1 ∙ (ap Syntax (one_wrong_line text x.0 y.0 x.3 y.3) ∙ sym y.1)
    | inr y ↦ absurd (x.2 (y.3).certificate (y.3).written)
  ]
  | inr x ↦ elim (why text b others k) [
    | inl y ↦ absurd (y.2 (x.3).certificate (x.3).written)
    | inr y ↦ x.2 ∙ (one_breaking text x.0 y.0 x.1 y.1 x.3 y.3 ∙ sym y.2)
  ]
]
