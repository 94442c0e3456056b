use Rattle.std.proofs.Common.{◌≡◌, ◌+◌, ◌*◌, ◌++◌, flat_map, drop}
use Rattle.dt_type.specs.Datatype.{form_of}
use Rattle.dt_wire.specs.Spelling.{layer, part, spelling}
use Rattle.dt_wire.proofs.writing.+forms.Given as goal

abbrev pub decreases-push_form : goal.decreases-push_form
decreases-push_form l = 2 * l.levels

abbrev pub decreases-push_layer : goal.decreases-push_layer
decreases-push_layer l = 2 * l.levels + 1

abbrev pub invariant-push_layer-parts : goal.invariant-push_layer-parts
invariant-push_layer-parts l =
    l.out.items ++ flat_map (part (λ old. spelling l.fn.levels (form_of old))) (drop l.part-index l.part-items)
    ≡ l.fn.out.items ++ layer (λ old. spelling l.fn.levels (form_of old)) l.form
