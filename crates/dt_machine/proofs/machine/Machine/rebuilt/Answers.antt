use Rattle.std.proofs.Common.{subst, sym, SFits, rules}
use Rattle.std.proofs.lemmas.Int.{to_z-of_z}
use Rattle.std.specs.Int.{w64}
use Rattle.dt_map.specs.Limits.{MarksFit}
use Rattle.dt_type.specs.Datatype.{entries_of, marks_of}
use Rattle.dt_rebuild.specs.Built.{all_forms}
use Rattle.dt_machine.specs.Best.{tree_in}
use Rattle.dt_machine.proofs.LeastTrees.{best_told}
use Rattle.dt_machine.proofs.Rebuilding.{lent_by, marks_in_range, rebuilt_taken, only_memory}
use Rattle.dt_machine.proofs.machine.Machine.rebuilt.Goals as goal

pub to_type-requires : goal.to_type-requires
to_type-requires c =
    let ty = c.args.ty.now in
    subst MarksFit (sym c.marks.ensures) (marks_in_range (entries_of ty) (marks_of ty) c.requires.in_range)

pub only_memory-requires : goal.only_memory-requires
only_memory-requires c =
    let ty = c.args.ty.now in
    let best = c.args.best.now in
    let s = c.args.self.now in
    let base : SFits w64 best.base = search rules in
    let told = best_told s.weights (entries_of ty) best.base best.tree best.cost best.lows.items c.requires.best in
    let taken = rebuilt_taken s.weights (entries_of ty) best.base (tree_in best) (marks_of ty) told.0 c.requires.in_range c.requires.few c.requires.narrow in
    only_memory (all_forms best.base (tree_in best) (marks_of ty)) c.in-Err.fault taken
    (simp (to_z-of_z w64 best.base base, lent_by c.as_ref.result best.tree c.as_ref.ensures.value, c.marks.ensures) at c.in-Err.ensures.answer)
