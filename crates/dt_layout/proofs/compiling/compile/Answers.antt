use mir.Syntax.{w128}
use mir.Val.{to_z, of_z}
use Rattle.std.specs.Prelude.{IfOk}
use Rattle.std.proofs.Common.{◌≡◌, ◌++◌, ◌∷◌, [], ◌<◌, pos, length, sym, subst, rules}
use Rattle.dt_layout.specs.Program.{StandsFor}
use Rattle.dt_layout.specs.Merging.{StandIn}
use Rattle.dt_layout.proofs.Under.{stand_levels, stand_written}
use Rattle.dt_offsets.specs.Offsets.{turn_offsets, row_offsets}
use Rattle.dt_type.specs.Datatype.{typemap_of, entries_of}
use Rattle.dt_layout.proofs.Programs.{no_elements, whole_level, is_program, stands_for, is_short}
use Rattle.dt_layout.proofs.compiling.compile.Goals as goal

pub returns-then-not-has_elements-clause-stands : goal.returns-then-not-has_elements-clause-stands
returns-then-not-has_elements-clause-stands c =
    subst (λ es. IfOk c.nothing.result (λ program. StandsFor program es)) (sym (no_elements (typemap_of c.args.ty.now) c.args.count (search rules))) c.nothing.ensures.stands

pub write-requires : goal.write-requires
write-requires c =
    let t = c.args.ty.now in
    let back : to_z w128 (of_z w128 c.extent.result) ≡ c.extent.result = search rules in
    let offsets : turn_offsets c.row-copies.result ≡ row_offsets (pos 0) c.args.count c.extent.result = simp back at c.row-copies.ensures.offsets in
    let has : (0 < c.args.count) × (0 < length (entries_of t)) = search rules in
    let level = whole_level t c.args.count c.extent.result c.row-copies.result c.extent.ensures.value offsets c.row-copies.ensures.numbers c.depth-depth.ensures.whole has.0 has.1 c.requires.small in
    let stand = subst (λ ts. StandIn (ts ++ c.row-copies.result ∷ []) c.in_ok-deepened.field-0.items) c.new.ensures.items c.in_ok-deepened.ensures.stand in
    stand_levels (c.row-copies.result ∷ []) c.in_ok-deepened.field-0.items t level stand

pub of-requires : goal.of-requires
of-requires c =
    let t = c.args.ty.now in
    let back : to_z w128 (of_z w128 c.extent.result) ≡ c.extent.result = search rules in
    let offsets : turn_offsets c.row-copies.result ≡ row_offsets (pos 0) c.args.count c.extent.result = simp back at c.row-copies.ensures.offsets in
    let body = c.in_ok-write.ensures in
    let stand = subst (λ ts. StandIn (ts ++ c.row-copies.result ∷ []) c.in_ok-deepened.field-0.items) c.new.ensures.items c.in_ok-deepened.ensures.stand in
    let written = stand_written (c.row-copies.result ∷ []) c.in_ok-deepened.field-0.items t c.new-code.result.items c.write.new.out.items body.0 stand body.1 in (
      body.0,
      is_program t c.args.count c.extent.result c.row-copies.result c.extent.ensures.value offsets c.new-code.result.items c.write.new.out.items body.0 c.new-code.ensures.items written
          c.depth-depth.ensures.whole c.requires.close c.requires.small,
    )

pub returns-clause-stands : goal.returns-clause-stands
returns-clause-stands c =
    let t = c.args.ty.now in
    let back : to_z w128 (of_z w128 c.extent.result) ≡ c.extent.result = search rules in
    let offsets : turn_offsets c.row-copies.result ≡ row_offsets (pos 0) c.args.count c.extent.result = simp back at c.row-copies.ensures.offsets in
    let body = c.in_ok-write.ensures in
    let stand = subst (λ ts. StandIn (ts ++ c.row-copies.result ∷ []) c.in_ok-deepened.field-0.items) c.new.ensures.items c.in_ok-deepened.ensures.stand in
    let written = stand_written (c.row-copies.result ∷ []) c.in_ok-deepened.field-0.items t c.new-code.result.items c.write.new.out.items body.0 stand body.1 in
    stands_for t c.args.count c.extent.result c.row-copies.result c.extent.ensures.value offsets c.new-code.result.items c.write.new.out.items body.0 c.new-code.ensures.items written
    c.depth-depth.ensures.whole c.requires.close c.requires.small c.of.result c.of.ensures

pub returns-clause-short : goal.returns-clause-short
returns-clause-short c =
    let t = c.args.ty.now in
    let back : to_z w128 (of_z w128 c.extent.result) ≡ c.extent.result = search rules in
    let offsets : turn_offsets c.row-copies.result ≡ row_offsets (pos 0) c.args.count c.extent.result = simp back at c.row-copies.ensures.offsets in
    let body = c.in_ok-write.ensures in
    let stand = subst (λ ts. StandIn (ts ++ c.row-copies.result ∷ []) c.in_ok-deepened.field-0.items) c.new.ensures.items c.in_ok-deepened.ensures.stand in
    let written = stand_written (c.row-copies.result ∷ []) c.in_ok-deepened.field-0.items t c.new-code.result.items c.write.new.out.items body.0 stand body.1 in
    is_short t c.args.count c.extent.result c.row-copies.result c.extent.ensures.value offsets c.new-code.result.items c.write.new.out.items body.0 c.new-code.ensures.items written c.of.result c.of.ensures
