use Rattle.std.proofs.Common.{sym, subst}
use Rattle.std.specs.Result.{result_ok}
use Rattle.dt_verdict.specs.Number.{IsParsed}
use Rattle.dt_verdict.proofs.Naturals.{parsed_as, no_text}
use Rattle.dt_verdict.proofs.number.parsed.Goals as goal

pub returns-in_err-text : goal.returns-in_err-text
returns-in_err-text c = subst (IsParsed c.args.word.now) (sym c.from_residual.ensures) (no_text c.args.word.now c.in_err-text.ensures)

pub returns : goal.returns
returns c =
    subst (IsParsed c.args.word.now) (sym c.ok.ensures.value)
    (subst (λ word. IsParsed word (result_ok c.parse.result)) c.in_ok-text.ensures (parsed_as c.in_ok-text.text.now c.parse.result c.parse.ensures.value.0))
