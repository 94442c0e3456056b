use Rattle.std.proofs.Common.{◌≡◌, ◌++◌, OnOk, ◌-◌, List, ℕ, ap, sym, subst, ◌∙◌, arith}
use Rattle.dt_type.specs.Datatype.{form_of}
use Rattle.dt_wire.specs.Spelling.{layer, spelling}
use Rattle.dt_wire.proofs.Levels.{spelling_more}
use Rattle.dt_wire.proofs.writing.+forms.Goals as goal

pub push_form-returns : goal.push_form-returns
push_form-returns t c =
    let more : spelling c.args.levels (form_of c.args.ty.now) ≡ layer (λ old. spelling (c.args.levels - 1) (form_of old)) (form_of c.args.ty.now) =
    spelling_more c.args.levels (c.args.levels - 1) (form_of c.args.ty.now) (omega arith) in
    let shown : layer (λ old. spelling (c.args.levels - 1) (form_of old)) c.form.result.now ≡ spelling c.args.levels (form_of c.args.ty.now) =
    ap (layer (λ old. spelling (c.args.levels - 1) (form_of old))) c.form.ensures.value ∙ sym more in
    subst (λ (text : List ℕ). OnOk c.push_layer.result (c.push_layer.new.out.items ≡ c.args.out.now.items ++ text)) shown c.push_layer.ensures
