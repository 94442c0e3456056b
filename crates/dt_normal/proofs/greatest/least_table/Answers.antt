use Rattle.std.proofs.lemmas.Result.{IfOk-weaker}
use Rattle.dt_normal.proofs.Validity.{table_of_rows, least_costs_greatest}
use Rattle.dt_normal.proofs.greatest.least_table.Goals as goal

pub returns : goal.returns
returns c =
    let table = table_of_rows c.args.w.now c.args.classes.now c.in_ok-rows.rows.items c.in_ok-rows.ensures.rows c.in_ok-rows.ensures.each in
    IfOk-weaker c.list_rows.result _ _ (λ lows is. (table.0, least_costs_greatest c.args.w.now c.args.classes.now table.0 table.1, is)) (c.list_rows.ensures table.0 table.1)
