use Rattle.std.specs.Prelude.{Some}
use Rattle.std.specs.Option.{option_map}
use Rattle.std.proofs.Common.{sym, ap, ◌∙◌}
use Rattle.dt_form.proofs.Decodings.{contents_say_the_form}
use Rattle.dt_type.specs.Datatype.{form_of}
use Rattle.dt_type.specs.Form.{result_of}
use Rattle.dt_type.specs.Laws.{ContentsMakeAgain}
use Rattle.dt_type.proofs.laws.contents_make_again.Goals as goal

made_again : ContentsMakeAgain
made_again t made taken basic = ap (option_map result_of) (contents_say_the_form (form_of t) basic taken) ∙ ap Some (sym made)

pub returns : goal.returns
returns c = made_again
