use Rattle.std.proofs.Common.{◌≡◌, ◌+◌, ◌-◌, ◌++◌, sym, ap, ◌∙◌, arith}
use Rattle.dt_gen.specs.Script.{piece}
use Rattle.dt_gen.proofs.Loops.{piece_more, no_piece}
use Rattle.dt_gen.proofs.turns.piece.Goals as goal

pub bytes-preserved : goal.bytes-preserved
bytes-preserved c =
    rw c.in_ok-push.ensures.items
    (sym (piece_more c.args.number (c.args.at + c.args.len) c.bytes.i c.bytes.bytes.items (omega arith)) ∙ c.bytes.invariant)

pub returns : goal.returns
returns c =
    let e = c.args.at + c.args.len in
    let last : c.bytes.i ≡ e = omega arith in
    sym (no_piece c.args.number e c.bytes.bytes.items)
    ∙ (sym (ap (λ k. c.bytes.bytes.items ++ piece c.args.number k (e - k)) last) ∙ c.bytes.invariant)
