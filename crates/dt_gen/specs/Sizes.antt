-- How large a round may be. No public clause cites this module.
use Rattle.std.specs.Prelude.{ℕ, ◌≤◌}
use Rattle.dt_gen.specs.declared.round.Round.{Round}

pub record IsSmall (d : Round) : Type 0 where
  pub some : 1 ≤ d.count
  pub count : d.count ≤ 7
  pub block : d.block ≤ 4
  pub stride : d.stride ≤ 7
  pub any : 1 ≤ d.rows
  pub rows : d.rows ≤ 5
  pub gap : d.gap ≤ 2
