use Rattle.std.proofs.Common.{◌≡◌}
use Rattle.dt_example.proofs.main.Given as goal

-- The session's buffer stays as long as it is.
abbrev pub invariant-loop-size : goal.invariant-loop-size
invariant-loop-size l = l.session.buf_len ≡ 16
