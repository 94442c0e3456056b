use Rattle.std.proofs.Common.{◌≡◌, take}
use Rattle.dt_array.proofs.Wrapping.{turns_in, span_in}
use Rattle.dt_array.proofs.nest.around.Given as goal

abbrev pub invariant-loop-dim : goal.invariant-loop-dim
invariant-loop-dim l = record {
  turns : l.turns.items ≡ turns_in l.fn.extent (take l.dim-index l.dims);
  span : l.span ≡ span_in l.fn.extent (take l.dim-index l.dims);
}
