use Rattle.std.proofs.Common.{take, map}
use Rattle.dt_type.specs.Arrays.{subarray_axis}
use Rattle.dt_array.specs.Indices.{AreChosen}
use Rattle.dt_array.proofs.subarrays.all_indices.Given as goal

abbrev pub invariant-loop-dim : goal.invariant-loop-dim
invariant-loop-dim l = AreChosen l.all.items (map subarray_axis (take l.dim-index l.dims))
