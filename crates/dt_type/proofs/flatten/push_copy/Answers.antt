use mir.Syntax.{w128}
use Rattle.std.proofs.Common.{◌≡◌, ◌++◌, pos, List, subst}
use Rattle.std.proofs.lemmas.Int.{to_z-of_z}
use Rattle.std.proofs.lemmas.List.{take_all}
use Rattle.dt_kinds.specs.declared.kind.Kind.TheVariants.{Byte}
use Rattle.dt_map.specs.declared.entry.Entry.{Entry}
use Rattle.dt_map.specs.Typemap.{shift}
use Rattle.dt_type.proofs.Listings.{disp_at}
use Rattle.dt_type.proofs.flatten.push_copy.Goals as goal

abbrev no_entry : Entry
no_entry = record { kind = Byte; disp = pos 0 }

pub further-requires : goal.further-requires
further-requires c = simp (to_z-of_z w128 c.args.offset c.ranges.offset) (disp_at c.args.offset c.args.one.now c.entries.entry-index no_entry c.entries-test.true c.requires)

pub returns : goal.returns
returns c =
    let P : List Entry → Type 0 = λ es. c.entries.out.items ≡ c.args.out.now.items ++ shift c.args.offset es in
    subst P (take_all c.entries.entry-index c.args.one.now c.entries-test.false) (simp (to_z-of_z w128 c.args.offset c.ranges.offset) at c.entries.invariant)
