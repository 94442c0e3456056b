use Rattle.std.specs.Prelude.{◌∷◌}
use Rattle.std.proofs.Common.{◌≡◌, ◌≤◌, arith, ap, subst, ◌∙◌, sym, drop}
use Rattle.dt_cursor.proofs.Named.{back_here, popped, taken_at}
use Rattle.dt_cursor.proofs.Takings.{rest_taken, row_fits, rows_fit, some_rows, whole_rows}
use Rattle.dt_rows.specs.Rows.{bytes_in}
use Rattle.dt_cursor.proofs.taking.take_left.Goals as goal

pub rows_of-requires : goal.rows_of-requires
rows_of-requires c =
    let size : c.from.result ≡ _ = c.from.ensures ∙ c.size.ensures in
    let cut = c.cut_rest-cut.ensures.cut c.args.kind size in
    let fits = c.ranges.most.fits in
    let row = row_fits c.args.most c.bytes_of-size.result c.cut_rest-cut.result.rows c.cut_rest-cut.result.elements (some_rows c.args.kind c.args.left.rest c.cut_rest-cut.result cut) c.cut_rest-cut.ensures.most in
    omega (arith, row, fits)

pub returns-clause-taken : goal.returns-clause-taken
returns-clause-taken c code es is =
    let size : c.from.result ≡ _ = c.from.ensures ∙ c.size.ensures in
    let cut = c.cut_rest-cut.ensures.cut c.args.kind size in
    let others = ap (drop 1) (sym is.frames_are) ∙ popped c.pop.result c.args.frames.now c.pop.new.self c.pop.ensures.some c.pop.ensures.none in
    let frames = ap (λ f. f ∷ is.others) (sym c.advanced.ensures) ∙ ap (λ fs. c.advanced.result ∷ fs) others ∙ sym c.push.ensures in
    let rows =
    ap (λ n. whole_rows c.args.kind c.args.frame.base c.cut_rest-cut.result n) (sym c.bytes_of-size.ensures)
    ∙ ap (λ x. whole_rows c.args.kind x c.cut_rest-cut.result c.bytes_of-size.result) (sym (back_here c.args.frame.base is.near)) ∙ sym c.rows_of.ensures in
    taken_at code c.args.rep es 0 _ c.push.new.self _ c.rows_of.result frames rows
    (rest_taken code c.args.rep c.args.kind c.args.frame.base es c.args.left.outer is.others c.args.left.rest is.rest c.cut_rest-cut.result cut)

pub returns-clause-most : goal.returns-clause-most
returns-clause-most c =
    subst (λ r. bytes_in r ≤ c.args.most) (sym c.rows_of.ensures) (rows_fit c.args.most c.bytes_of-size.result c.cut_rest-cut.result.rows c.cut_rest-cut.result.elements c.cut_rest-cut.ensures.most)
