use Rattle.dt_type.specs.Datatype.{typemap_of}
use Rattle.dt_type.proofs.EntryFits.{typemap_fits}
use Rattle.dt_type.proofs.datatype.Datatype.flatten.Goals as goal

pub unwrap-requires : goal.unwrap-requires
unwrap-requires c =
    c.new.ensures.in_range.1 (typemap_fits (typemap_of c.args.self.now) c.in_ok-entries.entries.items c.marks.result c.bounds.ensures.in_range c.in_ok-entries.ensures c.marks.ensures)
