use Rattle.std.proofs.Common.{◌≡◌, ◌-◌, ◌++◌, ◌≤◌, drop, length}
use Rattle.dt_pack.specs.Session.{rest_of, next_bytes, after}
use Rattle.dt_pack.proofs.session.PackSession.take.Given as goal

-- so many bytes were taken
abbrev pub invariant-rows : goal.invariant-rows
invariant-rows l = record {
  within : l.done ≤ length l.initial.out;
  to_come : l.done ≤ rest_of l.initial.self;
  bytes : l.out ≡ next_bytes l.initial.self l.buf l.done ++ drop l.done l.initial.out;
  moved : l.self ≡ after l.initial.self l.done;
}

abbrev pub decreases-rows : goal.decreases-rows
decreases-rows l = length l.initial.out - l.done
