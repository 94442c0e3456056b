use Rattle.std.proofs.Common.{◌≡◌, ◌<◌, ℕ}
use Rattle.dt_normal.specs.Splits.{IsSplit, split_cost}
use Rattle.dt_normal.proofs.form.split_at.Given as goal

abbrev pub invariant-blocks-2 : goal.invariant-blocks-2
invariant-blocks-2 l =
    (block : ℕ) → block < l.block → IsSplit l.split l.classes l.at.start l.at.len block → split_cost l.w l.split l.at.len l.costs block ≡ l.cost → ⊥
