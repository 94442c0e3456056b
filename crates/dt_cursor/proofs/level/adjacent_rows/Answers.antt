use mir.Syntax.{w64, w128}
use mir.Val.{to_z, of_z}
use Rattle.std.proofs.lemmas.Int.{to_z-of_z}
use Rattle.std.proofs.Math.Nat.{le-div_iff_mul-le}
use Rattle.dt_offsets.proofs.Products.{factor_back}
use Rattle.std.proofs.Common.{◌≡◌, ◌≤◌, ◌*◌, ◌/◌, arith, ap, ◌∙◌, inl, inr}
use Rattle.dt_cursor.proofs.Cuts.{cut_row, cut_rows}
use Rattle.dt_cursor.proofs.level.adjacent_rows.Goals as goal

pub returns-then-most-rest-clause-cut : goal.returns-then-most-rest-clause-cut
returns-then-most-rest-clause-cut c kind adjacent =
    let less = c.if-most-rest.true in
    let some = c.requires.some.0 in
    cut_row kind c.args.rest c.args.most some (omega (arith, less)) c.requires.rest.1 (elim adjacent [ inl single ↦ absurd (omega (arith, single, less, some)) | inr step ↦ inr step ])

pub returns-in-Ok-clause-cut : goal.returns-in-Ok-clause-cut
returns-in-Ok-clause-cut c kind adjacent =
    let is = c.in-Ok.ensures in
    let step = ap (λ z. to_z w64 (of_z w64 z)) is.1 ∙ to_z-of_z w64 (to_z w128 (of_z w128 c.args.rest.jump)) is.0 ∙ factor_back c.args.rest.jump c.requires.rest.2 in
    let row = c.requires.rest.0 in
    let rows = c.requires.rest.1 in
    let limit = c.requires.some.1 in
    let enough = c.if-most-rest.false in
    let single : 1 * c.args.rest.row ≡ c.args.rest.row = omega arith in
    let blocks : 1 ≤ c.args.most / c.args.rest.row = (le-div_iff_mul-le row).1 (omega (arith, enough, single)) in
    let first = c.min.ensures in
    let both = c.min-in-Ok.ensures in
    cut_rows kind c.args.rest c.min-in-Ok.result _ (omega (arith, rows, limit, blocks, first, both)) (omega (arith, first, both)) row step adjacent

pub returns-in-Err-clause-cut : goal.returns-in-Err-clause-cut
returns-in-Err-clause-cut c kind adjacent = cut_row kind c.args.rest c.args.rest.row c.requires.rest.0 (omega arith) c.requires.rest.1 adjacent
