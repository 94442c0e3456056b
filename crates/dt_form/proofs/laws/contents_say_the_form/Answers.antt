use Rattle.dt_form.proofs.Decodings.{contents_say_the_form}
use Rattle.dt_form.proofs.laws.contents_say_the_form.Goals as goal

pub returns : goal.returns
returns g c = contents_say_the_form
