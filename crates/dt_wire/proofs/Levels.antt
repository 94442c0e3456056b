-- one level more
use Rattle.std.proofs.Common.{◌≡◌, ℕ, zero, suc, ◌+◌, ◌≤◌, ◌∙◌, ◌++◌, List, [], ◌∷◌, refl, ap, add-one, append_assoc, arith}
use Rattle.std.specs.List.{AllByRecursion}
use Rattle.dt_form.specs.declared.form.FormOf.{FormOf}
use Rattle.dt_form.specs.Form.{olds_of}
use Rattle.dt_type.specs.declared.datatype.Seen.{Seen, out-roll-Seen}
use Rattle.dt_type.specs.Datatype.{Layer, form_of, weight_of, depth_of}
use Rattle.dt_type.specs.Falls.{has_level}
use Rattle.dt_type.specs.Form.{deepest, depth_by, weight_by, result_of}
use Rattle.dt_type.specs.Whole.{AreProper}
use Rattle.dt_wire.specs.Laws.{EachTypeHasASpelling}
use Rattle.dt_wire.specs.Spelling.{layer, spelling}
use Rattle.dt_wire.specs.Wire.{AreWritten, IsForm}

pub spelling_more : (levels below : ℕ) (form : FormOf Seen) → levels ≡ below + 1 → spelling levels form ≡ layer (λ old. spelling below (form_of old)) form
spelling_more levels below form is = ap (λ n. spelling n form) (is ∙ add-one below)

-- three pieces, one after another
pub three : (a b c d x y z x' y' z' : List ℕ) → b ≡ a ++ x → c ≡ b ++ y → d ≡ c ++ z → x ≡ x' → y ≡ y' → z ≡ z' → d ≡ a ++ ((x' ++ y') ++ z')
three a b c d x y z x' y' z' p q r e f g = cc (p, q, r, e, f, g, append_assoc a (x ++ y) z, append_assoc a x y)

-- what a datatype's form says of its depth and its weight
pub depth_is : (t : Seen) → t ≡ result_of (form_of t) → depth_of t ≡ depth_by (form_of t)
depth_is t made = ap depth_of made ∙ ap (λ (l : Layer). l.depth) (out-roll-Seen _)

pub weight_is : (t : Seen) → t ≡ result_of (form_of t) → weight_of t ≡ weight_by (form_of t)
weight_is t made = ap weight_of made ∙ ap (λ (l : Layer). l.weight) (out-roll-Seen _)

abbrev Becomes : ℕ → Seen → Type 0
Becomes levels t = depth_of t ≤ levels → AreProper (suc levels) t → AreWritten levels t → IsForm levels (form_of t)

olds_are : (levels : ℕ) → ((old : Seen) → Becomes levels old) → (olds : List Seen) → deepest olds ≤ levels → AllByRecursion (AreProper (suc levels)) olds → AllByRecursion (AreWritten levels) olds →
    AllByRecursion (λ old. (old ≡ result_of (form_of old)) × IsForm levels (form_of old)) olds
olds_are levels each [] deep proper written = tt
olds_are levels each (old ∷ olds) deep proper written =
    ((((proper.0).0).made, each old (omega (arith, deep)) proper.0 written.0), olds_are levels each olds (omega (arith, deep)) proper.1 written.1)

form_is : (levels : ℕ) (t : Seen) → Becomes levels t
form_is zero t deep proper written =
    let some = has_level (form_of t) (proper.0).arguments in
    let same = depth_is t (proper.0).made in
    absurd (omega (arith, deep, some, same))
form_is (suc levels) t deep proper written =
    let some = has_level (form_of t) (proper.0).arguments in
    let same = depth_is t (proper.0).made in
    let light = (proper.0).light in
    let weight = weight_is t (proper.0).made in
    (written.0, omega (arith, light, weight), olds_are levels (λ old. form_is levels old) (olds_of (form_of t)) (omega (arith, deep, some, same)) proper.1 written.1)

pub each_type_has_a_spelling : EachTypeHasASpelling
each_type_has_a_spelling t whole written = let proper = whole 65 in (form_is 64 t ((proper.0).shallow) proper written, refl)
