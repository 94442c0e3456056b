use Rattle.std.proofs.Common.{◌≡◌, Some}
use Rattle.dt_map.specs.Elements.{elements}
use Rattle.dt_type.specs.Datatype.{typemap_of}
use Rattle.dt_elems.specs.Taking.{with_elements}
use Rattle.dt_elems.proofs.overlap.take_copies.Given as goal

abbrev pub invariant-copies : goal.invariant-copies
invariant-copies l = with_elements l.fn.taken (elements (typemap_of l.ty) l.copy l.origin) ≡ Some l.taken
