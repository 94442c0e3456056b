-- The elements that a cursor keeps.
use Rattle.std.specs.Prelude.{◌≡◌, ℕ, ◌+◌, ◌<◌, ◌≤◌, List, [], ◌∷◌, ◌++◌}
use Rattle.std.proofs.Common.{sym, ap, subst, ◌∙◌, arith, append_assoc}
use Rattle.std.proofs.lemmas.List.Sums.{sum_by-cons}
use Rattle.dt_cursor.specs.declared.frames.Frame.{Frame}
use Rattle.dt_cursor.specs.declared.passing.Passed.{Passed}
use Rattle.dt_cursor.specs.Ahead.{ArePassed}
use Rattle.dt_cursor.specs.Frames.{StandAt}
use Rattle.dt_cursor.specs.Kept.{ElementsOf, ElementsOf-prop, Stand}
use Rattle.dt_cursor.specs.Search.{AreHeld, IsFound}
use Rattle.dt_cursor.specs.Walk.{Walk, AreNext}
use Rattle.dt_kinds.specs.declared.kind.Rep.{Rep}
use Rattle.dt_kinds.specs.Kind.{packed_size}
use Rattle.dt_layout.specs.declared.instr.Instr.{Instr}
use Rattle.dt_layout.specs.Program.{StandsFor}
use Rattle.dt_map.specs.declared.entry.Entry.{Entry}
use Rattle.dt_map.specs.Packed.{total}
use Rattle.dt_map.proofs.Copies.{total-append}
use Rattle.dt_rows.specs.Rows.{bytes_in}
use Rattle.dt_rows.proofs.Totals.{some_bytes}

pub kept : (code : List Instr) (a : ElementsOf code) (es : List Entry) → StandsFor code es → a.0 ≡ es
kept code a es stands = ap (λ (e : ElementsOf code). e.0) (ElementsOf-prop code a (es, ∣ stands ∣₁))

pub stand_kept : (code : List Instr) (a : ElementsOf code) (es : List Entry) (rep : Rep) (bytes position : ℕ) (frames : List Frame) (held : ℕ)
    → StandsFor code es → bytes ≡ total rep es → IsFound code rep es position frames held → Stand code a.0 rep bytes position frames held
stand_kept code a es rep bytes position frames held stands all found =
    subst (λ fs. Stand code fs rep bytes position frames held) (sym (kept code a es stands)) (record { stands = stands; bytes_are = all; found = found })

pub walk_at : (es fs : List Entry) (rep : Rep) (position : ℕ) → es ≡ fs → (let w : Walk = record { elements = es; rep = rep; position = position } in w) ≡ (let w : Walk = record { elements = fs; rep = rep; position = position } in w)
walk_at es fs rep position same = ap (λ gs. let w : Walk = record { elements = gs; rep = rep; position = position } in w) same

-- no more bytes are held than elements have
held_within : (rep : Rep) (held : ℕ) (es : List Entry) → AreHeld rep held es → held ≤ total rep es
held_within rep held [] within = omega (arith, within)
held_within rep held (e ∷ es) within = omega (arith, within, sum_by-cons (λ (f : Entry). packed_size rep f.kind) e es)

found_within : (code : List Instr) (rep : Rep) (es : List Entry) (byte : ℕ) (frames : List Frame) (held : ℕ) → IsFound code rep es byte frames held → byte ≤ total rep es
found_within code rep es byte frames held found =
    let all = ap (total rep) found.all in
    let place = found.place in
    omega (arith, all, place, held_within rep held found.rest found.within, total-append rep found.before found.rest)

-- no frames stand at the end
pub found_at_end : (code : List Instr) (rep : Rep) (es : List Entry) (byte : ℕ) (frames : List Frame) (held : ℕ) → IsFound code rep es byte frames held → frames ≡ [] → byte ≡ total rep es
found_at_end code rep es byte frames held found none =
    let ended : found.rest ≡ [] = subst (λ fs. StandAt code fs found.rest) none found.stand in
    let nothing : held ≡ 0 = subst (AreHeld rep held) ended found.within in
    let all = ap (total rep) (found.all ∙ ap (λ s. found.before ++ s) ended) in
    let place = found.place in
    omega (arith, all, place, nothing, total-append rep found.before [])

-- from a byte that was found to the one after rows that were passed
module _ (code : List Instr) (rep : Rep) (es : List Entry) (position : ℕ) (frames new : List Frame) (held : ℕ) (found : IsFound code rep es position frames held) (p : Passed) (passed : ArePassed code rep found.rest held new p) where
  pub found_on : IsFound code rep es (position + bytes_in p.rows) new p.held
  found_on =
      let then = passed.found in
      let first = found.place in
      let second = then.place in
      record {
        before = found.before ++ then.before;
        rest = then.rest;
        all = found.all ∙ ap (λ s. found.before ++ s) then.all ∙ sym (append_assoc found.before then.before then.rest);
        place = omega (arith, first, second, total-append rep found.before then.before);
        stand = then.stand;
        within = then.within;
      }

-- a walk goes to where it is, and passes rows
pub went_to : (code read : List Instr) (rep : Rep) (es : List Entry) (stood position : ℕ) (old new : List Frame) (held then : ℕ) → read ≡ code → StandsFor code es
    → IsFound code rep es stood old held
    → ((fs : List Entry) → StandsFor read fs → IsFound read rep fs stood old held → IsFound read rep fs position new then)
    → IsFound code rep es position new then
went_to code read rep es stood position old new held then same stands was goes =
    subst (λ c. IsFound c rep es position new then) same
    (goes es (subst (λ c. StandsFor c es) (sym same) stands) (subst (λ c. IsFound c rep es stood old held) (sym same) was))

-- rows that were passed from where a walk is
pub record Passes (code : List Instr) (rep : Rep) (es : List Entry) (position : ℕ) (new : List Frame) (p : Passed) : Type 0 where
  pub some : 0 < bytes_in p.rows
  pub on : IsFound code rep es (position + bytes_in p.rows) new p.held
  pub within : position + bytes_in p.rows ≤ total rep es
  pub next : (let w : Walk = record { elements = es; rep = rep; position = position } in AreNext w p.rows)

pub passes : (code read : List Instr) (rep : Rep) (es : List Entry) (position : ℕ) (frames new : List Frame) (held : ℕ) (p : Passed) → read ≡ code
    → (found : IsFound code rep es position frames held)
    → ((fs : List Entry) → StandAt read frames fs → AreHeld rep held fs → ArePassed read rep fs held new p)
    → Passes code rep es position new p
passes code read rep es position frames new held p same found passing =
    let passed = subst (λ c. ArePassed c rep found.rest held new p) same
    (passing found.rest (subst (λ c. StandAt c frames found.rest) (sym same) found.stand) found.within) in
    let on = found_on code rep es position frames new held found p passed in
    let first = found.place in
    let skip = passed.ahead.skip in
    record {
      some = some_bytes rep p.rows passed.ahead.shape;
      on = on;
      within = found_within code rep es (position + bytes_in p.rows) new p.held on;
      next = record {
        shape = passed.ahead.shape;
        before = found.before;
        after = passed.ahead.after;
        all = found.all ∙ ap (λ s. found.before ++ s) passed.ahead.all;
        place = omega (arith, first, skip);
      };
    }
