use Rattle.dt_ops.specs.Word.{IsWord}
use Rattle.dt_ops.proofs.Folding.{bracketing_is_fold}
use Rattle.dt_ops.proofs.laws.bracketings_agree.Goals as goal

pub returns : goal.returns
returns c join kind words result gives associates all bracketing =
    bracketing_is_fold (join kind) (IsWord kind) (record { closed = gives kind; assoc = associates kind }) bracketing all
