use Rattle.std.proofs.Common.{◌++◌, drop, ap, ◌∙◌, arith}
use Rattle.dt_kinds.specs.declared.kind.Rep.TheVariants.{Native}
use Rattle.dt_rows.specs.Rows.{bytes_in}
use Rattle.dt_rows.proofs.Totals.{some_bytes}
use Rattle.dt_copy.proofs.Pieces.{rows_gathered, rows_lie}
use Rattle.dt_copy.proofs.side.Side.take_rows.Goals as goal

pub gather-requires-clause-inside : goal.gather-requires-clause-inside
gather-requires-clause-inside c = rows_lie c.args.self.now c.in-Some.rows c.in-Some.ensures.next c.args.buffer.now c.requires.buffer

pub gather-requires-clause-near : goal.gather-requires-clause-near
gather-requires-clause-near c = (let next = c.in-Some.ensures.next in let small = next.small in omega (arith, small, c.requires.buffer))

pub returns-clause-end : goal.returns-clause-end
returns-clause-end c =
    let next = c.in-Some.ensures.next in
    let some = some_bytes Native c.in-Some.rows next.shape in
    let within = next.within in
    (λ none. absurd (omega (arith, none, some)), λ ended. absurd (omega (arith, ended, some, within)))

pub returns-clause-to_come : goal.returns-clause-to_come
returns-clause-to_come c = (let next = c.in-Some.ensures.next in let within = next.within in omega (arith, within))

pub returns-clause-bytes : goal.returns-clause-bytes
returns-clause-bytes c =
    let rows = c.in-Some.rows in
    c.gather.ensures ∙ ap (λ t. t ++ drop (bytes_in rows) c.args.out.now) (rows_gathered c.args.self.now rows c.in-Some.ensures.next c.args.buffer.now c.requires.buffer)
