use Rattle.std.proofs.Common.{◌≡◌, ◌++◌, drop, map}
use Rattle.std.specs.List.{AllByRecursion}
use Rattle.dt_type.specs.Arrays.{darray_axes}
use Rattle.dt_array.specs.Indices.{AreInside, axis_of}
use Rattle.dt_array.proofs.Grids.{places_of}
use Rattle.dt_array.proofs.darrays.all_indices.Given as goal

abbrev pub invariant-loop-dim : goal.invariant-loop-dim
invariant-loop-dim l = record {
  later : l.later ≡ places_of (drop l.dim-index l.dims);
  axes : map axis_of l.all.items ++ darray_axes l.process (drop l.dim-index l.dims) ≡ darray_axes l.process l.dims;
  inside : AllByRecursion AreInside l.all.items;
}
