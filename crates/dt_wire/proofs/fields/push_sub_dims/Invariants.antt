use Rattle.std.proofs.Common.{◌≡◌, ◌++◌, flat_map, drop}
use Rattle.dt_wire.specs.Spelling.{sub_dim}
use Rattle.dt_wire.proofs.fields.push_sub_dims.Given as goal

abbrev pub invariant-dims : goal.invariant-dims
invariant-dims l = l.out.items ++ flat_map sub_dim (drop l.dim-index l.dims) ≡ l.fn.out.items ++ flat_map sub_dim l.dims
