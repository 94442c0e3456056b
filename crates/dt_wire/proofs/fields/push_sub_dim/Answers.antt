use Rattle.std.proofs.Common.{rules, ◌≡◌, to_z, of_z}
use mir.Syntax.{w32}
use Rattle.dt_wire.specs.Spelling.{int, sub_dim}
use Rattle.dt_wire.proofs.Levels.{three}
use Rattle.dt_wire.proofs.fields.push_sub_dim.Goals as goal

pub returns : goal.returns
unfolding sub_dim
returns c =
    let size : int (to_z w32 (of_z w32 c.args.dim.size)) ≡ int c.args.dim.size = search rules in
    let sub : int (to_z w32 (of_z w32 c.args.dim.sub)) ≡ int c.args.dim.sub = search rules in
    let start : int (to_z w32 (of_z w32 c.args.dim.start)) ≡ int c.args.dim.start = search rules in
    three c.args.out.now.items c.push_int.new.out.items c.push_int-2.new.out.items c.push_int-3.new.out.items _ _ _ _ _ _ c.in_ok-push_int.ensures c.in_ok-push_int-2.ensures c.in_ok-push_int-3.ensures size sub start
