use Rattle.std.proofs.Common.{◌≡◌, ◌-◌, ◌≤◌, take, length}
use Rattle.dt_unpack.specs.Session.{after, buffer_after}
use Rattle.dt_unpack.proofs.session.UnpackSession.give.Given as goal

-- the bytes up to here were given
abbrev pub invariant-pieces : goal.invariant-pieces
invariant-pieces l = record {
  session : l.self ≡ after l.fn.self (take l.done l.piece);
  buffer : l.buf ≡ buffer_after l.fn.self l.fn.buf (take l.done l.piece);
  few : l.done ≤ length l.piece;
}

abbrev pub decreases-pieces : goal.decreases-pieces
decreases-pieces l = length l.piece - l.done
