use Rattle.dt_type.specs.Datatype.{depth_of}
use Rattle.dt_elems.proofs.counts.+whole_elements.Given as goal

abbrev pub decreases-whole_elements : goal.decreases-whole_elements
decreases-whole_elements l = depth_of l.ty.now
