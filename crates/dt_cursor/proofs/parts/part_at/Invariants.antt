use Rattle.std.proofs.Common.{◌≡◌, ◌+◌, ◌-◌, ◌≤◌}
use Rattle.dt_cursor.specs.Search.{PartsStand}
use Rattle.dt_layout.specs.Body.{Parts, number_of}
use Rattle.dt_cursor.proofs.IntoParts.{IsRest}
use Rattle.dt_cursor.proofs.parts.part_at.Given as goal

-- some parts were passed, and their bytes are taken away
abbrev pub invariant-parts : goal.invariant-parts
invariant-parts g l = record {
  rest : (all : Parts) → PartsStand (g.C.Code.program l.fn.code) l.fn.first all → number_of all ≡ l.fn.count → IsRest (g.C.Code.program l.fn.code) l.fn.rep l.fn.first all l.fn.byte l.i l.place l.left;
  same : g.C.Code.program l.code ≡ g.C.Code.program l.fn.code;
  reads : g.C.Code.reads l.code ≤ g.C.Code.reads l.fn.code + l.i;
  few : l.i ≤ l.fn.count;
}

abbrev pub decreases-parts : goal.decreases-parts
decreases-parts g l = l.count - l.i
