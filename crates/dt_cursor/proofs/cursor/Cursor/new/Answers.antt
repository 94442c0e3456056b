use Rattle.std.specs.Prelude.{pos}
use Rattle.std.proofs.Common.{refl, arith, subst, ◌∙◌, sym}
use Rattle.dt_cursor.specs.Search.{IsFound}
use Rattle.dt_cursor.proofs.Keeping.{kept, stand_kept, walk_at}
use Rattle.dt_layout.specs.Body.{meaning}
use Rattle.dt_layout.specs.Program.{AreProgram, StandsFor}
use Rattle.dt_cursor.proofs.cursor.Cursor.new.Goals as goal

pub stand-held-requires : goal.stand-held-requires
stand-held-requires c =
    let lawful = subst AreProgram (c.deref.ensures ∙ sym c.deref-2.ensures) c.total_of-bytes.ensures.lawful in
    (_, (lawful.0, lawful.1, refl), omega arith)

pub invariant_of-result : goal.invariant_of-result
invariant_of-result c =
    let lawful = subst AreProgram c.deref.ensures c.total_of-bytes.ensures.lawful in
    ((_, ∣ (lawful.0, lawful.1, refl) ∣₁), tt)

pub invariant_of-result-2 : goal.invariant_of-result-2
invariant_of-result-2 c =
    let lawful = subst AreProgram c.deref.ensures c.total_of-bytes.ensures.lawful in
    let es = meaning lawful.0 (pos 0) in
    let stands : StandsFor c.args.program.value es = (lawful.0, lawful.1, refl) in (
      stand_kept c.args.program.value c.result-1.given.0 es c.args.rep c.total_of-bytes.result 0 c.stand-held.new.frames c.stand-held.result stands
          (c.total_of-bytes.ensures.value es (subst (λ code. StandsFor code es) (sym c.deref.ensures) stands))
          (subst (λ code. IsFound code c.args.rep es 0 c.stand-held.new.frames c.stand-held.result) c.deref-2.ensures
          (c.stand-held.ensures es (subst (λ code. StandsFor code es) (sym c.deref-2.ensures) stands))),
      omega arith,
    )

pub returns-clause-start : goal.returns-clause-start
returns-clause-start c es stands = walk_at _ es c.args.rep 0 (kept c.args.program.value c.result-1.given.0 es stands)
