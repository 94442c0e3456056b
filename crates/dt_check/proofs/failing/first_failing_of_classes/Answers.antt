use Rattle.std.proofs.Common.{◌∙◌, ap, ℕ, List, length, arith}
use Rattle.std.specs.Global.{Vec}
use Rattle.std.proofs.lemmas.Result.{IfOk-weaker}
use Rattle.dt_alike.specs.First.{first_alike}
use Rattle.dt_check.specs.Classes.{of_classes}
use Rattle.dt_check.specs.Members.{table_of}
use Rattle.dt_check.specs.Rows.{table_in}
use Rattle.dt_check.specs.Spread.{AreSpread}
use Rattle.dt_check.proofs.Everywhere.{found_one}
use Rattle.dt_check.proofs.failing.first_failing_of_classes.Goals as goal

pub returns : goal.returns
returns c =
    let m = c.args.classes.now in
    let spread : AreSpread m (length m) c.in_ok-firsts.firsts.items c.in_ok-values.values.items = rw c.deref.ensures.value at c.in_ok-values.ensures in
    IfOk-weaker c.failing_in.result _ _
    (found_one c.args.w.now m (table_in c.deref-2.result.now) (of_classes m (table_of c.args.lows.now))
    (λ start len segment.
    ap (λ (rows : List (Vec ℕ)). table_in rows start len) c.deref-2.ensures.value
    ∙ (spread.value start len segment (omega (arith, segment.1)) ∙ c.in_ok-firsts.ensures.values (first_alike m start len) len))) c.failing_in.ensures
