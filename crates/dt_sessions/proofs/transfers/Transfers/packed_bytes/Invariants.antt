use Rattle.std.proofs.Common.{◌≡◌, min}
use Rattle.std.specs.List.{sum_by}
use Rattle.dt_sessions.specs.Open.{total_in}
use Rattle.dt_sessions.proofs.transfers.Transfers.packed_bytes.Given as goal

-- the packed bytes of the sessions up to here, as far as 64 bits hold them
abbrev pub invariant-sessions : goal.invariant-sessions
invariant-sessions l = l.all ≡ min (sum_by (λ e. total_in e.1.now.session) l.yielded) 18446744073709551615
