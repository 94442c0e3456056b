use Rattle.dt_verdict.proofs.Migrating.{migrated_stays}
use Rattle.dt_verdict.proofs.laws.migrated_stays.Goals as goal

pub returns : goal.returns
returns c = migrated_stays
