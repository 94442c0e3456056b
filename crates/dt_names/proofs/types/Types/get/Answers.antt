use Rattle.std.proofs.Common.{sym}
use Rattle.dt_names.proofs.StandingLemmas.{none_under, get_none, get_some}
use Rattle.dt_names.proofs.types.Types.get.Goals as goal

pub returns-in_err-handle : goal.returns-in_err-handle
returns-in_err-handle c =
    rw c.from_residual.ensures (none_under c.self.invariant c.self.view_is c.args.name.now (sym c.in_err-handle.ensures.value))

pub returns-in_err-ty : goal.returns-in_err-ty
returns-in_err-ty c =
    let at = sym c.in_ok-handle.ensures.value in
    rw c.from_residual-in_err-ty.ensures
    (get_none c.self.invariant c.self.view_is c.args.name.now c.in_ok-handle.field-0.now at (sym c.in_err-ty.ensures))

pub returns : goal.returns
returns c =
    let at = sym c.in_ok-handle.ensures.value in
    get_some c.self.invariant c.self.view_is c.args.name.now c.in_ok-handle.field-0.now at c.in_ok-ty.ty.now c.in_ok-committed.committed
    (sym c.in_ok-ty.ensures) (sym c.in_ok-committed.ensures)
