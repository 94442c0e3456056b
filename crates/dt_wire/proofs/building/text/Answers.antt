use Rattle.std.proofs.Common.{rules, ◌≡◌, Ok, Err, sym, subst}
use Rattle.dt_wire.specs.Building.{calls_of, IsBuilt}
use Rattle.dt_wire.specs.Skipping.{skip_magic}
use Rattle.dt_wire.proofs.Built.{no_magic, behind_magic}
use Rattle.dt_wire.proofs.building.text.Goals as goal

pub returns-in_err-first : goal.returns-in_err-first
returns-in_err-first c =
    let stop : skip_magic c.args.bytes.now ≡ Err c.in_err-first.field-0.0.now = search rules in
    let all = no_magic c.args.bytes.now c.in_err-first.field-0.0.now stop in
    search (rules, all)

pub returns : goal.returns
returns c =
    let read : skip_magic c.args.bytes.now ≡ Ok c.in_ok-first.first.now = search rules in
    subst (λ v. IsBuilt (calls_of 64) v c.build.result) (sym (behind_magic c.args.bytes.now c.in_ok-first.first.now read)) c.build.ensures
