-- What stands under two names, as the one and the other is set.
use Rattle.std.proofs.Common.{◌≡◌, ℕ, Bool, true, false, cond, List, [], ◌∷◌, Some, refl, sym, ap, ◌∙◌}
use Rattle.std.proofs.lemmas.Bool.{false_from_ne_true}
use Rattle.std.proofs.lemmas.Map.Text.{is_eq-slice_cmp}
use Rattle.std.proofs.lemmas.Slice.Eq.{bytes_eq-Decides}
use Rattle.std.specs.BTreeMap.{is_at}
use Rattle.std.specs.Cmp.Lexicographic.{slice_cmp}
use Rattle.std.specs.Map.{set_value}
use Rattle.std.specs.Ordering.{nat_cmp}
use Rattle.dt_names.specs.Names.{under}

-- whether a name is this one
abbrev at : List ℕ → List ℕ → Bool
at name other = is_at (slice_cmp nat_cmp name) other

named : (name other : List ℕ) → at name other ≡ true → name ≡ other
named name other same = (bytes_eq-Decides name other).0 (sym (is_eq-slice_cmp name other) ∙ same)

not_both : (a b key : List ℕ) → ¬ (a ≡ b) → at a key ≡ true → at b key ≡ false
not_both a b key differ here = false_from_ne_true (at b key) (λ there. differ (named a key here ∙ sym (named b key there)))

-- what is set under a name leaves what stands under another
pub found_beside_set : {A : Type 0} (a b : List ℕ) (es : List (List ℕ × A)) (y : A) → ¬ (a ≡ b) → under b (set_value (at a) es y) ≡ under b es
found_beside_set a b [] y differ = refl
found_beside_set {A} a b (e ∷ es) y differ = by (at a e.0) refl (found_beside_set a b es y differ)
  where
    by : (c : Bool) → at a e.0 ≡ c → under b (set_value (at a) es y) ≡ under b es
        → under b (cond c ((e.0, y) ∷ es) (e ∷ set_value (at a) es y)) ≡ under b (e ∷ es)
    by true here rest =
        ap (λ d. cond d (Some y) (under b es)) (not_both a b e.0 differ here) ∙ sym (ap (λ d. cond d (Some e.1) (under b es)) (not_both a b e.0 differ here))
    by false other rest = ap (cond (at b e.0) (Some e.1)) rest

-- what is set under two names, in either order
pub set_turned : {A : Type 0} (a b : List ℕ) (es : List (List ℕ × A)) (x y : A) → ¬ (a ≡ b)
    → set_value (at b) (set_value (at a) es x) y ≡ set_value (at a) (set_value (at b) es y) x
set_turned a b [] x y differ = refl
set_turned {A} a b (e ∷ es) x y differ = by (at a e.0) (at b e.0) refl refl (set_turned a b es x y differ)
  where
    by : (c d : Bool) → at a e.0 ≡ c → at b e.0 ≡ d → set_value (at b) (set_value (at a) es x) y ≡ set_value (at a) (set_value (at b) es y) x
        → set_value (at b) (cond c ((e.0, x) ∷ es) (e ∷ set_value (at a) es x)) y
        ≡ set_value (at a) (cond d ((e.0, y) ∷ es) (e ∷ set_value (at b) es y)) x
    by true true here there rest = let other = not_both a b e.0 differ here in let both : true ≡ false = sym there ∙ other in cc
    by true false here there rest =
        ap (λ f. cond f ((e.0, y) ∷ es) ((e.0, x) ∷ set_value (at b) es y)) there
        ∙ sym (ap (λ f. cond f ((e.0, x) ∷ set_value (at b) es y) (e ∷ set_value (at a) (set_value (at b) es y) x)) here)
    by false true here there rest =
        ap (λ f. cond f ((e.0, y) ∷ set_value (at a) es x) (e ∷ set_value (at b) (set_value (at a) es x) y)) there
        ∙ sym (ap (λ f. cond f ((e.0, x) ∷ es) ((e.0, y) ∷ set_value (at a) es x)) here)
    by false false here there rest =
        ap (λ f. cond f ((e.0, y) ∷ set_value (at a) es x) (e ∷ set_value (at b) (set_value (at a) es x) y)) there
        ∙ ap (λ fs. e ∷ fs) rest
        ∙ sym (ap (λ f. cond f ((e.0, x) ∷ set_value (at b) es y) (e ∷ set_value (at a) (set_value (at b) es y) x)) here)
