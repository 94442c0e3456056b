use Rattle.dt_cert.proofs.Comparing.{base_again}
use Rattle.dt_cert.proofs.judging.wrong_map.Goals as goal

pub returns-in-Some : goal.returns-in-Some
returns-in-Some c = rw c.in-Some.is (rw (base_again c.args.base c.ranges.base) at c.first_difference.ensures)
