use Rattle.std.proofs.Common.{◌≡◌, ◌++◌, flat_map, drop}
use Rattle.dt_wire.specs.Spelling.{int_block}
use Rattle.dt_wire.proofs.fields.push_int_blocks.Given as goal

abbrev pub invariant-each : goal.invariant-each
invariant-each l = l.out.items ++ flat_map int_block (drop l.block-index l.blocks) ≡ l.fn.out.items ++ flat_map int_block l.blocks
