use Rattle.std.proofs.Common.{◌≡◌, ◌++◌, take}
use Rattle.dt_map.specs.Typemap.{shift}
use Rattle.dt_type.proofs.flatten.push_copy.Given as goal

-- the entries up to here are appended
abbrev pub invariant-entries : goal.invariant-entries
invariant-entries l = l.out.items ≡ l.fn.out.items ++ shift l.offset (take l.entry-index l.one)
