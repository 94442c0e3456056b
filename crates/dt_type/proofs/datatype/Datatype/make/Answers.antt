use Rattle.std.proofs.lemmas.Result.{err_from_is_err_and}
use Rattle.dt_type.proofs.Answers.{refused}
use Rattle.dt_type.proofs.datatype.Datatype.make.Goals as goal

pub returns-in_err-marks-clause-answer : goal.returns-in_err-marks-clause-answer
returns-in_err-marks-clause-answer c =
    let p = err_from_is_err_and c.from_residual.result c.from_residual.ensures.1 in
    rw (p.1, p.2) (refused _ c.args.form _ c.requires.places c.requires.shape.arguments c.in_err-marks.ensures)
