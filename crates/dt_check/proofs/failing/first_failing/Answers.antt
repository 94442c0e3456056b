use Rattle.std.proofs.Common.{◌∙◌, ap, ℕ, List}
use Rattle.std.specs.Global.{Vec}
use Rattle.std.proofs.lemmas.Result.{IfOk-weaker}
use Rattle.dt_check.specs.Members.{table_of}
use Rattle.dt_check.specs.Rows.{table_in}
use Rattle.dt_check.proofs.Everywhere.{found_one}
use Rattle.dt_check.proofs.failing.first_failing.Goals as goal

pub returns : goal.returns
returns c =
    IfOk-weaker c.failing_in.result _ _
    (found_one c.args.w.now c.args.classes.now (table_in c.deref.result.now) (table_of c.args.lows.now)
    (λ start len segment. ap (λ (rows : List (Vec ℕ)). table_in rows start len) c.deref.ensures.value ∙ c.in_ok-values.ensures.values start len)) c.failing_in.ensures
