use Rattle.dt_verdict.proofs.Migrating.{migrated_or_not}
use Rattle.dt_verdict.proofs.laws.migrated_or_not.Goals as goal

pub returns : goal.returns
returns c = migrated_or_not
