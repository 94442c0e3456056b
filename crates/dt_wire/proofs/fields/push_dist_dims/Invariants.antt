use Rattle.std.proofs.Common.{◌≡◌, ◌++◌, flat_map, drop}
use Rattle.dt_wire.specs.Spelling.{dist_dim}
use Rattle.dt_wire.proofs.fields.push_dist_dims.Given as goal

abbrev pub invariant-dims : goal.invariant-dims
invariant-dims l = l.out.items ++ flat_map dist_dim (drop l.dim-index l.dims) ≡ l.fn.out.items ++ flat_map dist_dim l.dims
