use Rattle.std.proofs.Common.{subst, refl}
use Rattle.dt_space.specs.Live.{Adds}
use Rattle.dt_space.specs.Space.{Space}
use Rattle.dt_space.proofs.Numbers.{adds, not_ok}
use Rattle.dt_space.proofs.space.Space.add.Goals as goal

pub returns : goal.returns
returns c =
    let old : Space = record { types = c.self.inside.types; sessions = c.self.inside.sessions.entries; begun = c.self.inside.begun } in
    let new : Space = record { types = c.add.new.self; sessions = c.self.inside.sessions.entries; begun = c.self.inside.begun } in
    subst (λ (s : Space). Adds s new (record { slot = c.in_ok-handle.handle.slot; serial = c.in_ok-handle.handle.serial }) c.args.ty) c.self.view_is
    (adds old new c.in_ok-handle.handle c.args.ty c.in_ok-handle.ensures.made (λ spent. not_ok c.add.result _ _ c.in_ok-handle.was (c.add.ensures.spent.1 spent)) refl refl)
