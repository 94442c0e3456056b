use Rattle.std.proofs.Common.{◌≡◌, min, length}
use Rattle.std.specs.List.{sum_by}
use Rattle.dt_names.proofs.buffers.Buffers.bytes_held.Given as goal

-- the bytes of the buffers up to here, as far as 64 bits hold them
abbrev pub invariant-loop-name : goal.invariant-loop-name
invariant-loop-name l = l.held ≡ min (sum_by (λ e. length e.1.now) l.yielded) 18446744073709551615
