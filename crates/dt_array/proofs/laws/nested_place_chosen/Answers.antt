use Rattle.dt_array.proofs.Nesting.{nested_place}
use Rattle.dt_array.proofs.laws.nested_place_chosen.Goals as goal

pub returns : goal.returns
returns c = nested_place
