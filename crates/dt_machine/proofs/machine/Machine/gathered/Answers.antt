use Rattle.std.proofs.Common.{◌≡◌, ◌*◌, ◌≤◌, false, length, sym, subst}
use Rattle.std.proofs.lemmas.Int.{to_z-of_z}
use Rattle.std.specs.List.{list_any}
use Rattle.dt_kinds.specs.declared.kind.Rep.TheVariants.{Native}
use Rattle.dt_map.specs.Packed.{total}
use mir.Val.{to_z, of_z}
use Rattle.std.specs.Int.{w64}
use Rattle.dt_map.specs.Elements.{elements}
use Rattle.dt_type.specs.Datatype.{typemap_of}
use Rattle.dt_machine.specs.Refusal.{lies_outside}
use Rattle.dt_machine.proofs.Definitions.{none_at}
use Rattle.dt_machine.proofs.Gathered.{gathers_next, inside_by, wants_memory}
use Rattle.dt_machine.proofs.machine.Machine.gathered.Goals as goal

pub only_memory-requires : goal.only_memory-requires
only_memory-requires c =
    let s = c.args.self.now in
    let m = typemap_of c.args.ty.now in
    let names = c.args.names.now in
    let i = c.ranks.name-index in
    let x = to_z w64 (of_z w64 c.args.origin) in
    let fit : c.args.origin ≡ x = sym (to_z-of_z w64 c.args.origin c.ranges.origin) in
    let inside = subst (λ o. list_any (lies_outside s (elements m c.args.copies o)) names ≡ false) fit c.requires.inside in
    let small = subst (λ o. total Native (elements m c.args.copies o) * length names ≤ 16777216) fit c.requires.small in
    let es = elements m c.args.copies x in
    let within = none_at (lies_outside s es) names i c.name-item.result c.ranks-test.true c.name-item.is inside in
    wants_memory s m c.args.copies x names i c.in-Some.bytes.now c.ranks.ranks c.in-Err.fault c.ranks.invariant c.ranks-test.true c.requires.few small
    (inside_by s es c.name-item.result c.in-Some.bytes.now c.in-Some.ensures.0 within) c.in-Err.ensures.refused

pub ranks-preserved : goal.ranks-preserved
ranks-preserved c =
    gathers_next c.args.self.now (typemap_of c.args.ty.now) c.args.copies (to_z w64 (of_z w64 c.args.origin)) c.args.names.now c.ranks.name-index c.name-item.result
    c.in-Some.bytes.now c.ranks.ranks c.add.new.self c.ranks-test.true c.name-item.is c.ranks.invariant c.in-Some.ensures.0 c.in_default-add.ensures.added
