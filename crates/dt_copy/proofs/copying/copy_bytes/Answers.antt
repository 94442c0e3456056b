use Rattle.std.proofs.Common.{take, sym, ap, ◌∙◌, arith}
use Rattle.dt_copy.specs.Copied.{copied}
use Rattle.dt_copy.specs.Side.{Reader, at_byte, onward, bytes_of, rest_of, to_come}
use Rattle.dt_copy.proofs.Pieces.{piece_more}
use Rattle.dt_copy.proofs.copying.copy_bytes.Goals as goal

pub pieces-preserved : goal.pieces-preserved
pieces-preserved c =
    let i = c.pieces.invariant in
    let p = c.pieces.from.position in
    let from = c.args.from.now in
    let to = c.args.to.now in
    let t = c.copy_piece.ensures in
    let n = c.copy_piece.result in
    let count = t.count in
    let at = ap (λ (r : Reader). r.position) t.passed in
    let left = ap rest_of i.from in
    let within = i.within in
    let there = ap (λ (r : Reader). to_come r) i.to in
    record {
      within = omega (arith, at, left, within, count);
      from = t.passed ∙ ap (λ (r : Reader). onward r n) i.from ∙ ap (at_byte from) (sym at);
      to = t.filled ∙ ap (λ (r : Reader). onward r n) i.to ∙ ap (at_byte to) (sym at);
      bytes =
          piece_more from c.pieces.to c.pieces.from (bytes_of to.elements) p n c.args.source.now c.args.target.now c.pieces.target c.copy_piece.new.target
          i.from i.within i.bytes there t.bytes
          ∙ ap (λ k. copied (take k (bytes_of from.elements)) (bytes_of to.elements) c.args.source.now c.args.target.now) (sym at);
    }
