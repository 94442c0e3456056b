use Rattle.std.proofs.Common.{◌*◌, Some, length, arith, ap, subst, ◌∙◌, sym}
use Rattle.dt_cursor.specs.Search.{size_in}
use Rattle.dt_cursor.proofs.Narrowing.{size_is}
use Rattle.dt_cursor.proofs.NextRounds.{seq_here}
use Rattle.dt_cursor.proofs.Reading.{each_here, ends_within, loop_here, one_here, spots_here}
use Rattle.dt_cursor.proofs.Sums.{no_spot_here, placed_at_zero, program_head, program_parts, size_small, some_code}
use Rattle.dt_layout.specs.Body.{each, seq, size}
use Rattle.dt_layout.specs.Program.{IsProgram}
use Rattle.dt_offsets.specs.Offsets.{spot_offsets}
use Rattle.dt_cursor.proofs.totals.body_total.Goals as goal

pub at-requires : goal.at-requires
at-requires c = some_code c.args.program.now c.requires.program.0 c.requires.program.1

pub overflow_mul-result : goal.overflow_mul-result
overflow_mul-result c =
    let r = c.requires.program in
    let there = loop_here 0 r.0 c.in-Loop.turns c.in-Loop.sizes c.in-Loop.next (program_head c.args.program.now r.0 r.1 _ (c.at.ensures ∙ ap Some c.in-Loop.is)) in
    let here = ap (λ n. c.in-Loop.turns.count * n) (c.size_by.ensures ∙ ap (size_in c.args.rep) there.2 ∙ size_is c.args.rep there.0) in
    let whole = ap (size c.args.rep) there.1 in
    omega (arith, here, whole, size_small c.args.program.now r.0 r.1 c.args.rep)

pub spots_total-requires-clause-spots : goal.spots_total-requires-clause-spots
spots_total-requires-clause-spots c =
    let r = c.requires.program in
    let there = each_here 0 r.0 c.in-Each.spots c.in-Each.sizes c.in-Each.next (program_head c.args.program.now r.0 r.1 _ (c.at.ensures ∙ ap Some c.in-Each.is)) in
    let is = subst (IsProgram c.args.program.now) there.2 r.1 in
    let here = ap (λ n. length (spot_offsets there.0) * n) (c.size_by-in-Each.ensures ∙ ap (size_in c.args.rep) there.4 ∙ size_is c.args.rep there.1) in (
      there.0,
      spots_here c.args.program.now 0 there.0 there.1 _ (placed_at_zero c.args.program.now (each there.0 there.1) is),
      there.3,
      omega (arith, here, size_small c.args.program.now (each there.0 there.1) is c.args.rep),
    )

pub spots_total-requires-clause-fits : goal.spots_total-requires-clause-fits
spots_total-requires-clause-fits c =
    let r = c.requires.program in
    let there = each_here 0 r.0 c.in-Each.spots c.in-Each.sizes c.in-Each.next (program_head c.args.program.now r.0 r.1 _ (c.at.ensures ∙ ap Some c.in-Each.is)) in
    let is = subst (IsProgram c.args.program.now) there.2 r.1 in
    let ends = ends_within c.args.program.now 0 (each there.0 there.1) _ (placed_at_zero c.args.program.now (each there.0 there.1) is) in
    let long = there.3 in
    let fits = c.requires.fits in
    omega (arith, ends, long, fits)

pub parts_total-requires : goal.parts_total-requires
parts_total-requires c =
    let r = c.requires.program in
    let there = seq_here 0 r.0 c.in-Seq.parts c.in-Seq.next (program_head c.args.program.now r.0 r.1 _ (c.at.ensures ∙ ap Some c.in-Seq.is)) in
    let is = subst (IsProgram c.args.program.now) there.1 r.1 in
    (there.0, program_parts c.args.program.now there.0 is, size_small c.args.program.now (seq there.0) is c.args.rep)

pub unreachable-requires : goal.unreachable-requires
unreachable-requires c =
    let r = c.requires.program in
    no_spot_here 0 r.0 c.at.result (program_head c.args.program.now r.0 r.1 c.at.result c.at.ensures) c.in-Spot.is

pub returns-in-One : goal.returns-in-One
returns-in-One c body is =
    let there = one_here 0 body c.in-One.kind (program_head c.args.program.now body is _ (c.at.ensures ∙ ap Some c.in-One.is)) in
    c.bytes_of.ensures ∙ ap (size c.args.rep) (sym there)

pub returns-in-Loop : goal.returns-in-Loop
returns-in-Loop c body is =
    let there = loop_here 0 body c.in-Loop.turns c.in-Loop.sizes c.in-Loop.next (program_head c.args.program.now body is _ (c.at.ensures ∙ ap Some c.in-Loop.is)) in
    ap (λ n. c.in-Loop.turns.count * n) (c.size_by.ensures ∙ ap (size_in c.args.rep) there.2 ∙ size_is c.args.rep there.0) ∙ ap (size c.args.rep) (sym there.1)

pub returns-in-Each : goal.returns-in-Each
returns-in-Each c body is =
    let there = each_here 0 body c.in-Each.spots c.in-Each.sizes c.in-Each.next (program_head c.args.program.now body is _ (c.at.ensures ∙ ap Some c.in-Each.is)) in
    let inside = subst (IsProgram c.args.program.now) there.2 is in
    c.spots_total.ensures there.0 (spots_here c.args.program.now 0 there.0 there.1 _ (placed_at_zero c.args.program.now (each there.0 there.1) inside)) there.3
    ∙ ap (λ n. length (spot_offsets there.0) * n) (c.size_by-in-Each.ensures ∙ ap (size_in c.args.rep) there.4 ∙ size_is c.args.rep there.1) ∙ ap (size c.args.rep) (sym there.2)

pub returns-in-Seq : goal.returns-in-Seq
returns-in-Seq c body is =
    let there = seq_here 0 body c.in-Seq.parts c.in-Seq.next (program_head c.args.program.now body is _ (c.at.ensures ∙ ap Some c.in-Seq.is)) in
    c.parts_total.ensures there.0 (program_parts c.args.program.now there.0 (subst (IsProgram c.args.program.now) there.1 is)) ∙ ap (size c.args.rep) (sym there.1)
