use Rattle.std.proofs.Common.{◌≡◌, map, take}
use Rattle.dt_map.specs.Bounds.{size_of, external_size_of, alignment, end_of}
use Rattle.dt_map.specs.Numbers.{least, greatest}
use Rattle.dt_map.proofs.bounds.natural_bounds.Given as goal

abbrev pub invariant-entries : goal.invariant-entries
invariant-entries l = record {
  size : l.size ≡ size_of (take l.e-index l.entries);
  ext_size : l.ext_size ≡ external_size_of (take l.e-index l.entries);
  align : l.align ≡ alignment (take l.e-index l.entries);
  low : l.low ≡ least (map (λ e. e.disp) (take l.e-index l.entries));
  high : l.high ≡ greatest (map end_of (take l.e-index l.entries));
}
