use mir.Syntax.{w64, w128}
use mir.Val.{to_z, of_z}
use Rattle.std.proofs.lemmas.Int.{to_z-of_z}
use Rattle.dt_offsets.proofs.Products.{factor_back}
use Rattle.std.proofs.Common.{arith, ap, refl, ◌∙◌, inl, inr}
use Rattle.dt_cursor.proofs.Cuts.{cut_singles}
use Rattle.dt_cursor.proofs.level.single_rows.Goals as goal

pub returns-in-Ok-clause-cut : goal.returns-in-Ok-clause-cut
returns-in-Ok-clause-cut c kind =
    let is = c.in-Ok.ensures in
    let step = ap (λ z. to_z w64 (of_z w64 z)) is.1 ∙ to_z-of_z w64 (to_z w128 (of_z w128 c.args.rest.step)) is.0 ∙ factor_back c.args.rest.step c.requires.rest.2 in
    let row = c.requires.rest.0 in
    let most = c.requires.some.0 in
    let limit = c.requires.some.1 in
    let first = c.min.ensures in
    let both = c.min-in-Ok.ensures in
    cut_singles kind c.args.rest c.min-in-Ok.result _ (omega (arith, row, most, limit, first, both)) (omega (arith, first, both)) c.requires.rest.1 (inr step)

pub returns-in-Err-clause-cut : goal.returns-in-Err-clause-cut
returns-in-Err-clause-cut c kind = cut_singles kind c.args.rest 1 _ (omega arith) (let row = c.requires.rest.0 in omega (arith, row)) c.requires.rest.1 (inl refl)
