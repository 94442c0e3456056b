-- the best of a typemap
use mir.Syntax.{w64}
use mir.Val.{to_z, of_z}
use Rattle.std.proofs.Common.{◌≡◌, ℕ, ◌≤◌, ◌<◌, ℤ, pos, nat_abs, List, [], ◌∷◌, length, refl, sym, ap, ◌∙◌, subst, arith}
use Rattle.std.proofs.lemmas.List.{take_all}
use Rattle.std.proofs.lemmas.Int.{ints}
use Rattle.std.proofs.lemmas.List.Elements.{All-get_or}
use Rattle.std.specs.List.{All}
use Rattle.dt_map.specs.declared.entry.Entry.{Entry}
use Rattle.dt_map.specs.Alike.{segment, first_disp}
use Rattle.dt_map.specs.Limits.{EntryFits}
use Rattle.dt_map.proofs.Seats.{segment_sits}
use Rattle.dt_alike.specs.Step.{entry_at}
use Rattle.dt_tree.specs.declared.node.Node.{Node}
use Rattle.dt_tree.specs.Node.{tree_of}
use Rattle.dt_tree.specs.Cost.{cost_of}
use Rattle.dt_tree.specs.Rule.{FollowsRule}
use Rattle.dt_tree.specs.Tree.{Tree, flat, Denotes}
use Rattle.dt_tree.proofs.Limits.{step_back}
use Rattle.dt_tree.specs.Weights.{Weights}
use Rattle.dt_normal.specs.declared.low.Low.{Low}
use Rattle.dt_normal.specs.Bests.{IsBestTree, IsNoTree}
use Rattle.dt_normal.specs.Costs.{IsTreeCost}
use Rattle.dt_normal.specs.Forms.{IsCheapest}
use Rattle.dt_normal.specs.Lows.{AreLeastCosts, listed}
use Rattle.dt_normal.specs.Table.{Table}
use Rattle.dt_normal.proofs.Building.{disp_of}
use Rattle.dt_normal.proofs.Following.{tidy_follows}
use Rattle.dt_normal.proofs.Validity.{least_costs_greatest, least_is_one}

whole_segment : (m : List Entry) → segment m 0 (length m) ≡ m
whole_segment m = take_all (length m) m (omega arith)

pub root_cheapest : (w : Weights) (m classes : List Entry) (len : ℕ) (tree : Tree) → classes ≡ m → len ≡ length classes → IsCheapest w classes 0 len tree → IsCheapest w m 0 (length m) tree
root_cheapest w m classes len tree same long is = subst (λ (l : List Entry). IsCheapest w l 0 (length l) tree) same (subst (λ n. IsCheapest w classes 0 n tree) long is)

pub base_is : (m entries : List Entry) → All EntryFits entries → entries ≡ m → 0 < length m → to_z w64 (of_z w64 (entry_at entries 0).disp) ≡ (entry_at m 0).disp
base_is m entries all same some =
    let here : 0 < length entries = omega (arith, ap length same, some) in
    let fits = (All-get_or EntryFits entries 0 (entry_at [] 0) here all).0 in
    let near : nat_abs (entry_at entries 0).disp ≤ 2305843009213693952 = omega (arith, ints, fits) in
    step_back (entry_at entries 0).disp near ∙ ap (λ (l : List Entry). (entry_at l 0).disp) same

pub cheapest_follows : (w : Weights) (m : List Entry) (tree : Tree) → All EntryFits m → length m ≤ 1024 → IsCheapest w m 0 (length m) tree → FollowsRule tree
cheapest_follows w m tree all few is =
    tidy_follows m tree (entry_at m 0).disp all few is.denotes.0 is.tidy (segment_sits m (entry_at m 0).disp (flat tree) 0 (length m) (omega arith) (sym is.denotes.1))

pub cheapest_best : (w : Weights) (m : List Entry) (tree : Tree) (base : ℤ) (cost : ℕ) (lows : List Low) (table : Table) → 0 < length m → IsCheapest w m 0 (length m) tree → AreLeastCosts w m table
    → base ≡ (entry_at m 0).disp → cost ≡ cost_of w tree → lows ≡ listed (length m) table → IsBestTree w m base tree cost lows
cheapest_best w m tree base cost lows table some is are from costs list =
    let whole = whole_segment m in
    let stands : Denotes tree base m = subst (λ z. Denotes tree z m) (sym from) (subst (Denotes tree (entry_at m 0).disp) whole is.denotes) in
    record {
      some = some;
      first = from ∙ (sym (disp_of m 0 (length m) some some) ∙ ap first_disp whole);
      tidy = is.tidy;
      least = (stands, λ y other denotes. is.least.1 (cost_of w other) (other, y, subst (Denotes other y) (sym whole) denotes, refl));
      costs = costs;
      shown = (
        table,
        least_costs_greatest w m table are,
        list,
        least_is_one (IsTreeCost w m 0 (length m)) (table 0 (length m)) cost (are 0 (length m) (some, omega arith))
            (subst (λ n. Rattle.dt_normal.specs.Costs.IsLeastOf (IsTreeCost w m 0 (length m)) n) (sym costs) is.least),
      );
    }

pub nothing_best : (m classes : List Entry) (lows : List Low) (table : Table) → classes ≡ m → length classes ≡ 0 → lows ≡ listed (length classes) table → IsNoTree m (pos 0) 0 lows
nothing_best m classes lows table same none list = record {
  none = sym same ∙ empty classes none;
  base_zero = refl;
  cost_zero = refl;
  no_lows = list ∙ ap (λ n. listed n table) none;
}
  where
    empty : (l : List Entry) → length l ≡ 0 → l ≡ []
    empty [] e = refl
    empty (x ∷ l) e = absurd (omega (arith, e))

-- of a tree that is the root
pub root_best : (w : Weights) (m : List Entry) (root tree : Node) (base : ℤ) (cost : ℕ) (lows : List Low) (table : Table) → 0 < length m → IsCheapest w m 0 (length m) (tree_of root) → AreLeastCosts w m table
    → base ≡ (entry_at m 0).disp → cost ≡ cost_of w (tree_of tree) → tree ≡ root → lows ≡ listed (length m) table → IsBestTree w m base (tree_of tree) cost lows
root_best w m root tree base cost lows table some is are from costs same list =
    cheapest_best w m (tree_of tree) base cost lows table some (subst (λ n. IsCheapest w m 0 (length m) (tree_of n)) (sym same) is) are from costs list
