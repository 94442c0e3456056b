-- The numbers of a shape meet what offsets ask for.
use Rattle.std.specs.Prelude.{◌≡◌, ℕ, zero, suc, ◌^◌, pos, List, [], ◌∷◌, take}
use Rattle.std.specs.List.{AllByRecursion}
use Rattle.std.proofs.Common.{sym, subst, arith}
use Rattle.std.proofs.lemmas.Int.{ints}
use Rattle.dt_kinds.specs.Displacement.{FitsDisp}
use Rattle.dt_offsets.specs.declared.turns.Turns.{Turns}
use Rattle.dt_offsets.specs.Near.{AreTurns, IsNear, StayNear}
use Rattle.dt_offsets.specs.Offsets.{turn_offset, turn_offsets, grid_offsets}
use Rattle.dt_offsets.proofs.Lookups.{sums-zero}
use Rattle.dt_offsets.proofs.NearNumbers.{all_below, turn_near, within_more}
use Rattle.dt_type.specs.declared.datatype.Seen.{Seen}
use Rattle.dt_type.specs.declared.shape.ShapeOf.{ShapeOf}
use Rattle.dt_type.specs.declared.shape.ShapeOf.TheVariants.{Grid}
use Rattle.dt_type.specs.Conditions.{AreShapeTurns, AreNested, HasNumbers}
use Rattle.dt_type.proofs.Digests.{disp_near}

pub all_more : {X : Type 0} (P Q : X → Type 0) → ((x : X) → P x → Q x) → (xs : List X) → AllByRecursion P xs → AllByRecursion Q xs
all_more P Q f [] h = tt
all_more P Q f (x ∷ xs) h = (f x h.0, all_more P Q f xs h.1)

shape_turns : (t : Turns) → AreShapeTurns t → AreTurns t
shape_turns t turns = within_more (2 ^ 31) (2 ^ 32) (omega arith) t turns

pub grid_turns : (turns : List Turns) → AllByRecursion AreShapeTurns turns → AllByRecursion AreTurns turns
grid_turns turns all = all_more AreShapeTurns AreTurns shape_turns turns all

nowhere : AllByRecursion IsNear (pos 0 ∷ [])
nowhere = (omega (arith, ints), tt)

pub grid_stays : (turns : List Turns) → AllByRecursion AreShapeTurns turns → AreNested turns → StayNear turns
grid_stays [] all nested zero = nowhere
grid_stays [] all nested (suc k) = nowhere
grid_stays (t ∷ []) all nested zero = nowhere
grid_stays (t ∷ []) all nested (suc k) =
    subst (AllByRecursion IsNear) (sym (alone k)) (all_below IsNear (turn_offset t) t.count (turn_near t (shape_turns t all.0)))
  where
    alone : (k : ℕ) → grid_offsets (take (suc k) (t ∷ [])) ≡ turn_offsets t
    alone zero = sums-zero (turn_offsets t)
    alone (suc k) = sums-zero (turn_offsets t)
grid_stays (t ∷ u ∷ turns) all nested k = all_more FitsDisp IsNear disp_near (grid_offsets (take k (t ∷ u ∷ turns))) (nested.1 k)

-- of a grid that was read
grid_numbers : (turns : List Turns) (old : Seen) → HasNumbers (Grid turns old) → AllByRecursion AreTurns turns × StayNear turns
grid_numbers turns old h = (grid_turns turns h.0, grid_stays turns h.0 h.1)

pub read_grid : (s : ShapeOf Seen) (ts turns : List Turns) (old : Seen) → HasNumbers s → s ≡ Grid turns old → ts ≡ turns → AllByRecursion AreTurns ts × StayNear ts
read_grid s ts turns old numbers is same =
    subst (λ us. AllByRecursion AreTurns us × StayNear us) (sym same) (grid_numbers turns old (subst HasNumbers is numbers))
