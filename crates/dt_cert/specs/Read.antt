use Rattle.std.specs.Option.{option_map}
use Rattle.dt_tree.specs.Node.{tree_of}
use Rattle.dt_cert.specs.declared.judging.Certificate.{Certificate as Read}
use Rattle.dt_cert.specs.declared.judging.Version.{Version as ReadVersion}
use Rattle.dt_cert.specs.declared.judging.Version.TheVariants.{Segments, Classes}
use Rattle.dt_cert.specs.Certificate.{Certificate, Version, BySegments, ByClasses}

abbrev pub version_of : ReadVersion → Version
version_of Segments = BySegments
version_of Classes = ByClasses

-- what a program's certificate says
abbrev pub certificate_in : Read → Certificate
certificate_in c = record {
  version = version_of c.version;
  weights = c.weights;
  entries = c.map.entries;
  base = c.base;
  tree = option_map tree_of c.tree;
  cost = c.cost;
  values = c.values.items;
}
