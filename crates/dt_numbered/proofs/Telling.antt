-- What is told of a least tree.
use Rattle.std.specs.Prelude.{◌≡◌, ℕ, ◌≤◌, Option, Some, None, List, length, Result, Ok, Err}
use Rattle.std.proofs.Common.{sym, ap, subst, ◌∙◌, arith}
use Rattle.std.specs.Option.{option_map, IsSomeAnd}
use Rattle.dt_map.specs.declared.entry.Entry.{Entry}
use Rattle.dt_normal.specs.Bests.{IsBest, IsBestOf}
use Rattle.dt_normal.specs.declared.best.Best.{Best}
use Rattle.dt_tree.specs.declared.node.Node.{Node}
use Rattle.dt_tree.specs.Least.{IsLeast}
use Rattle.dt_tree.specs.Node.{tree_of}
use Rattle.dt_tree.specs.Weights.{Weights, AreLight}
use Rattle.dt_type.specs.Datatype.{entries_of}
use Rattle.dt_space.specs.declared.fault.SpaceFault.{SpaceFault}
use Rattle.dt_space.specs.declared.number.Kept.{Kept}
use Rattle.dt_space.specs.declared.number.TypeNumber.{TypeNumber}
use Rattle.dt_space.specs.Space.{Space, kept_at}
use Rattle.dt_numbered.specs.declared.least.LeastTree.{LeastTree}
use Rattle.dt_numbered.specs.declared.least.TreeWeights.{TreeWeights}
use Rattle.dt_numbered.specs.Filling.{filled, IsPut}
use Rattle.dt_numbered.specs.Least.{weights_by, MayBeTold, cost_told, text_told, tree_in, IsToldOf, IsLeastTold, IsLeastShort, IsLeastRefusal, IsLeastAnswer}

-- what is best may be told
pub best_told : (w : Weights) (entries : List Entry) (best : Best) (told : LeastTree) → IsBest w entries best → told.base ≡ best.base → told.cost ≡ best.cost
    → told.len ≡ length (text_told (tree_in best)) → IsToldOf w entries told (tree_in best)
best_told w entries best told is base cost long = record { least = (by best.tree is).0; costs = cost ∙ (by best.tree is).1; long = long }
  where
    by : (node : Option Node) → IsBestOf w entries best.base node best.cost best.lows.items
        → MayBeTold w entries told.base (option_map tree_of node) × (best.cost ≡ cost_told w (option_map tree_of node))
    by None is = ((is.none, base ∙ is.base_zero), is.cost_zero)
    by (Some node) is = ((base ∙ is.first, is.tidy, subst (λ b. IsLeast w entries b (tree_of node)) (sym base) is.least), is.costs)

-- the answer, when the text was put where there is room, or was not
pub least_answer : (s : Space) (n : TypeNumber) (weights : TreeWeights) (kept : Kept) (best : Best) (text out out' : List ℕ) (told told' : LeastTree) (r : Result (Unit {0}) SpaceFault)
    → kept_at s n ≡ Some kept → AreLight (weights_by weights) → length (entries_of kept.ty) ≤ 1024 → IsToldOf (weights_by weights) (entries_of kept.ty) told' (tree_in best)
    → text ≡ text_told (tree_in best) → IsPut text out out' r → IsLeastAnswer s n weights out out' told told' r
least_answer s n weights kept best text out out' told told' (Ok done) at light few is same put =
    let long : told'.len ≡ length text = is.long ∙ ap length (sym same) in
    let room = put.0 in
    subst (λ o. IsSomeAnd (option_map (λ (k : Kept). k.ty) o) (λ t. IsLeastTold (weights_by weights) t out out' told')) (sym at)
    (record { tree = tree_in best; light = light; few = few; is = is; fits = omega (arith, long, room); put = put.1 ∙ ap (λ bytes. filled bytes out) same })
least_answer s n weights kept best text out out' told told' (Err fault) at light few is same put =
    let long : told'.len ≡ length text = is.long ∙ ap length (sym same) in
    let short = put.1 in (
      put.2,
      subst (λ f. IsLeastRefusal s n (weights_by weights) out told told' f) (sym put.0)
          (subst (λ o. IsSomeAnd (option_map (λ (k : Kept). k.ty) o) (λ t. IsLeastShort (weights_by weights) t out told')) (sym at)
          (record { tree = tree_in best; light = light; few = few; is = is; short = omega (arith, long, short) })),
    )
