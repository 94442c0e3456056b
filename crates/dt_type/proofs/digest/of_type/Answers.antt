use Rattle.std.proofs.Common.{sym, ap, subst}
use Rattle.dt_map.specs.Summary.{Summary}
use Rattle.dt_offsets.specs.Near.{IsNearSpan}
use Rattle.dt_type.specs.Datatype.{typemap_of}
use Rattle.dt_type.proofs.Digests.{span_near, marks_near}
use Rattle.dt_type.proofs.digest.of_type.Goals as goal

pub returns-clause-value : goal.returns-clause-value
returns-clause-value c = c.of_bounds.ensures (typemap_of c.args.old.now) c.bounds.ensures.value c.marks.ensures

pub returns-clause-span : goal.returns-clause-span
returns-clause-span c =
    let value = c.of_bounds.ensures (typemap_of c.args.old.now) c.bounds.ensures.value c.marks.ensures in
    subst IsNearSpan (sym (ap (λ (s : Summary). s.span) value)) (span_near (typemap_of c.args.old.now) c.bounds.ensures.in_range)

pub returns-clause-marks : goal.returns-clause-marks
returns-clause-marks c =
    let value = c.of_bounds.ensures (typemap_of c.args.old.now) c.bounds.ensures.value c.marks.ensures in
    subst IsNearSpan (sym (ap (λ (s : Summary). s.marks) value)) (marks_near (typemap_of c.args.old.now) c.bounds.ensures.in_range)
