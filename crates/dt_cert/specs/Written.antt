use Rattle.std.specs.Prelude.{List}
use Rattle.std.specs.List.{filter}
use Rattle.std.specs.Option.{option_map}
use Rattle.dt_map.specs.declared.entry.Entry.{Entry}
use Rattle.dt_tree.specs.Node.{tree_of}
use Rattle.dt_tree.specs.Weights.{Weights}
use Rattle.dt_normal.specs.declared.best.Best.{Best}
use Rattle.dt_cert.specs.Certificate.{Certificate, ByClasses}
use Rattle.dt_cert.specs.Classes.{is_first}

-- the certificate of a least tree: of the values above 0 it has, for each class, that of the first segment
abbrev pub certificate_of : Weights → List Entry → Best → Certificate
certificate_of w m best = record {
  version = ByClasses;
  weights = w;
  entries = m;
  base = best.base;
  tree = option_map tree_of best.tree;
  cost = best.cost;
  values = filter (is_first m) best.lows.items;
}
