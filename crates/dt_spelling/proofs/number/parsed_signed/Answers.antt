use Rattle.std.proofs.Common.{sym, subst}
use Rattle.std.specs.Result.{result_ok}
use Rattle.dt_spelling.specs.Parsed.{IsParsedSigned}
use Rattle.dt_spelling.proofs.Parsings.{parsed_signed_as, no_signed_text}
use Rattle.dt_spelling.proofs.number.parsed_signed.Goals as goal

pub returns-in_err-text : goal.returns-in_err-text
returns-in_err-text c = subst (IsParsedSigned c.args.word.now) (sym c.from_residual.ensures) (no_signed_text c.args.word.now c.in_err-text.ensures)

pub returns : goal.returns
returns c =
    subst (IsParsedSigned c.args.word.now) (sym c.ok.ensures.value)
    (subst (λ word. IsParsedSigned word (result_ok c.parse.result)) c.in_ok-text.ensures (parsed_signed_as c.in_ok-text.text.now c.parse.result c.parse.ensures.value.0))
