use Rattle.std.proofs.Common.{◌≡◌, Some, take}
use Rattle.dt_map.specs.Typemap.{shift}
use Rattle.dt_elems.specs.Taking.{with_elements}
use Rattle.dt_elems.proofs.overlap.take_copy.Given as goal

abbrev pub invariant-entries : goal.invariant-entries
invariant-entries l = with_elements l.fn.taken (shift l.at (take l.entry-index l.entries)) ≡ Some l.taken
