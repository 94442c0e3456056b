use Rattle.std.proofs.Common.{ap, refl, subst, ◌∙◌, sym, arith}
use Rattle.std.proofs.lemmas.Bool.{false≢true}
use Rattle.dt_cursor.specs.Frames.{StandAt}
use Rattle.dt_cursor.specs.Search.{IsFound}
use Rattle.dt_cursor.specs.Walk.{Walk, AreNext, further}
use Rattle.dt_cursor.proofs.Keeping.{found_at_end, kept, passes, stand_kept, walk_at, went_to}
use Rattle.dt_map.specs.Packed.{total}
use Rattle.dt_rows.specs.Rows.{bytes_in}
use Rattle.dt_cursor.proofs.cursor.Cursor.next.Goals as goal

pub pass-requires-clause-run : goal.pass-requires-clause-run
pass-requires-clause-run c =
    let i = c.self.inside in
    let was = c.self.invariant.0 in
    let found = went_to i.program.value c.deref.result.now i.rep i.stands.0 i.stood i.position i.frames c.go_on-self-inside.new.frames i.held c.go_on-self-inside.result c.deref.ensures was.stands was.found c.go_on-self-inside.ensures in
    (found.rest, subst (λ code. StandAt code c.go_on-self-inside.new.frames found.rest) (sym c.deref-2.ensures) found.stand, found.within)

pub invariant_of-self : goal.invariant_of-self
invariant_of-self c =
    let i = c.self.inside in
    let was = c.self.invariant.0 in
    let found = went_to i.program.value c.deref.result.now i.rep i.stands.0 i.stood i.position i.frames c.go_on-self-inside.new.frames i.held c.go_on-self-inside.result c.deref.ensures was.stands was.found c.go_on-self-inside.ensures in
    let stays = subst (λ fs. IsFound i.program.value i.rep i.stands.0 i.position fs c.go_on-self-inside.result) (sym c.in_default.ensures.stays) found in
    (stand_kept i.program.value c.self-1.given.0 i.stands.0 i.rep i.bytes i.position c.pass.new.frames c.go_on-self-inside.result was.stands was.bytes_are stays, c.self.invariant.1)

pub returns-in_default-clause-end : goal.returns-in_default-clause-end
returns-in_default-clause-end c =
    let i = c.self.inside in
    let was = c.self.invariant.0 in
    let found = went_to i.program.value c.deref.result.now i.rep i.stands.0 i.stood i.position i.frames c.go_on-self-inside.new.frames i.held c.go_on-self-inside.result c.deref.ensures was.stands was.found c.go_on-self-inside.ensures in
    let ended = found_at_end i.program.value i.rep i.stands.0 i.position c.go_on-self-inside.new.frames c.go_on-self-inside.result found c.in_default.ensures.none in
    let here = ap (λ (w : Walk). w.position) (sym c.self.view_is) ∙ ended ∙ ap (λ (w : Walk). total w.rep w.elements) c.self.view_is in
    (λ none. here, λ at. refl)

pub returns-in_default-clause-stays : goal.returns-in_default-clause-stays
returns-in_default-clause-stays c =
    let i = c.self.inside in
    walk_at _ i.stands.0 i.rep i.position (kept i.program.value c.self-1.given.0 i.stands.0 c.self.invariant.0.stands) ∙ c.self.view_is

pub overflow_add-self : goal.overflow_add-self
overflow_add-self c =
    let i = c.self.inside in
    let was = c.self.invariant.0 in
    let found = went_to i.program.value c.deref.result.now i.rep i.stands.0 i.stood i.position i.frames c.go_on-self-inside.new.frames i.held c.go_on-self-inside.result c.deref.ensures was.stands was.found c.go_on-self-inside.ensures in
    let passed = passes i.program.value c.deref-2.result.now i.rep i.stands.0 i.position c.go_on-self-inside.new.frames c.pass.new.frames c.go_on-self-inside.result c.in-Some.passed c.deref-2.ensures found c.in-Some.ensures.some in
    let within = passed.within in
    let bytes = was.bytes_are in
    let fits = c.self.ranges in
    record { fits = omega (arith, within, bytes, fits) }

pub invariant_of-self-2 : goal.invariant_of-self-2
invariant_of-self-2 c =
    let i = c.self.inside in
    let was = c.self.invariant.0 in
    let found = went_to i.program.value c.deref.result.now i.rep i.stands.0 i.stood i.position i.frames c.go_on-self-inside.new.frames i.held c.go_on-self-inside.result c.deref.ensures was.stands was.found c.go_on-self-inside.ensures in
    let passed = passes i.program.value c.deref-2.result.now i.rep i.stands.0 i.position c.go_on-self-inside.new.frames c.pass.new.frames c.go_on-self-inside.result c.in-Some.passed c.deref-2.ensures found c.in-Some.ensures.some in
    let bytes = was.bytes_are in
    let within = passed.within in
    (stand_kept i.program.value c.self-2-1.given.0 i.stands.0 i.rep i.bytes _ c.pass.new.frames c.in-Some.passed.held was.stands was.bytes_are passed.on, omega (arith, within, bytes))

pub returns-clause-end : goal.returns-clause-end
returns-clause-end c =
    let i = c.self.inside in
    let was = c.self.invariant.0 in
    let found = went_to i.program.value c.deref.result.now i.rep i.stands.0 i.stood i.position i.frames c.go_on-self-inside.new.frames i.held c.go_on-self-inside.result c.deref.ensures was.stands was.found c.go_on-self-inside.ensures in
    let passed = passes i.program.value c.deref-2.result.now i.rep i.stands.0 i.position c.go_on-self-inside.new.frames c.pass.new.frames c.go_on-self-inside.result c.in-Some.passed c.deref-2.ensures found c.in-Some.ensures.some in
    let within = passed.within in
    let some = passed.some in
    let here = ap (λ (w : Walk). w.position) c.self.view_is in
    let all = ap (λ (w : Walk). total w.rep w.elements) c.self.view_is in
    (λ none. absurd (false≢true (sym none)), λ ended. absurd (omega (arith, ended, within, some, here, all)))

pub returns-clause-next : goal.returns-clause-next
returns-clause-next c =
    let i = c.self.inside in
    let was = c.self.invariant.0 in
    let found = went_to i.program.value c.deref.result.now i.rep i.stands.0 i.stood i.position i.frames c.go_on-self-inside.new.frames i.held c.go_on-self-inside.result c.deref.ensures was.stands was.found c.go_on-self-inside.ensures in
    let passed = passes i.program.value c.deref-2.result.now i.rep i.stands.0 i.position c.go_on-self-inside.new.frames c.pass.new.frames c.go_on-self-inside.result c.in-Some.passed c.deref-2.ensures found c.in-Some.ensures.some in
    subst (λ w. AreNext w c.in-Some.passed.rows) c.self.view_is passed.next

pub returns-clause-passed : goal.returns-clause-passed
returns-clause-passed c =
    let i = c.self.inside in
    walk_at _ i.stands.0 i.rep _ (kept i.program.value c.self-2-1.given.0 i.stands.0 c.self.invariant.0.stands)
    ∙ ap (λ (w : Walk). further w (bytes_in c.in-Some.passed.rows)) c.self.view_is
