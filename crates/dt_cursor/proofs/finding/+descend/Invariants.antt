use Rattle.std.proofs.Common.{◌-◌, length}
use Rattle.dt_cursor.proofs.finding.+descend.Given as goal

abbrev pub decreases-descend : goal.decreases-descend
decreases-descend g l = length (g.C.Code.program l.code.now) - l.at
