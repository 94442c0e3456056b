-- The search for a packed byte, level by level.
use Rattle.std.specs.Prelude.{◌≡◌, ℕ, ◌+◌, ◌<◌, ◌≤◌, ℤ, pos, List, [], ◌++◌}
use Rattle.std.proofs.Common.{◌⊎◌, inl, inr, sym, ap, subst, ◌∙◌, arith, append_assoc}
use Rattle.dt_cursor.specs.declared.frames.Frame.{Frame}
use Rattle.dt_cursor.specs.declared.step.Step.{Step}
use Rattle.dt_cursor.specs.declared.step.Step.TheVariants.{At, In}
use Rattle.dt_cursor.specs.Search.{IsFound, IsSought, IsNarrowed, AreReads, EntersNext}
use Rattle.dt_cursor.proofs.Reading.{head_of}
use Rattle.dt_cursor.proofs.Running.{program_is_to_run}
use Rattle.dt_kinds.specs.declared.kind.Rep.{Rep}
use Rattle.dt_layout.specs.Body.{Body, one, loop, each, seq}
use Rattle.dt_layout.specs.declared.instr.Instr.{Instr}
use Rattle.dt_layout.specs.declared.instr.Instr.TheVariants as variants
use Rattle.dt_layout.specs.Program.{StandsFor}
use Rattle.dt_layout.proofs.Bodies.{size_is_total}
use Rattle.dt_map.specs.declared.entry.Entry.{Entry}
use Rattle.dt_map.specs.Packed.{total}
use Rattle.dt_map.proofs.Copies.{total-append}
use Rattle.dt_offsets.specs.declared.turns.Spot.{Spot}

-- what is found further in is found
pub found_inside : (code : List Instr) (rep : Rep) (es : List Entry) (left : ℕ) (frames : List Frame) (at : ℕ) (x : ℤ) (less : ℕ) (n : IsNarrowed code rep es left frames at x less)
    → (new : List Frame) (held : ℕ) → IsFound code rep n.inside less new held → IsFound code rep es left new held
found_inside code rep es left frames at x less n new held f = record {
  before = n.gone ++ f.before;
  rest = f.rest;
  all = n.all ∙ ap (λ s. n.gone ++ s) f.all ∙ sym (append_assoc n.gone f.before f.rest);
  place = let outer = n.place in let inner = f.place in let both = total-append rep n.gone f.before in omega (arith, outer, inner, both);
  stand = f.stand;
  within = f.within;
}

-- the one read of a body that is entered at the next place, if at all
pub one_read : (len at before after : ℕ) (s : Step) → at < len → after ≤ before + 1 → EntersNext at s → AreReads len at before after s
one_read len at before after (At held) within more next = omega (arith, within, more)
one_read len at before after (In inner) within more next = (omega (arith, next), omega (arith, next, more))

-- no body begins with a spot or an end
begins_no_spot : (at : ℕ) (body : Body) (spot : Spot) → head_of at body ≡ variants.Spot spot → ⊥
begins_no_spot at (one kind) spot e = cc
begins_no_spot at (loop t b) spot e = cc
begins_no_spot at (each spots b) spot e = cc
begins_no_spot at (seq parts) spot e = cc

begins_no_end : (at : ℕ) (body : Body) → head_of at body ≡ variants.End → ⊥
begins_no_end at (one kind) e = cc
begins_no_end at (loop t b) e = cc
begins_no_end at (each spots b) e = cc
begins_no_end at (seq parts) e = cc

pub begins_neither : (at : ℕ) (body : Body) (i : Instr) → head_of at body ≡ i → ((spot : Spot) × (i ≡ variants.Spot spot)) ⊎ (i ≡ variants.End) → ⊥
begins_neither at body i is (inl s) = begins_no_spot at body s.0 (is ∙ s.1)
begins_neither at body i is (inr e) = begins_no_end at body (is ∙ e)

-- a byte of a whole program is sought from its beginning, under no frames
pub program_is_sought : (code : List Instr) (rep : Rep) (es : List Entry) (byte : ℕ) (frames : List Frame) → frames ≡ [] → (stands : StandsFor code es) → byte ≤ total rep es
    → IsSought code rep frames 0 (pos 0) byte stands.0 es
program_is_sought code rep es byte frames none stands most =
    let body = stands.0 in
    subst (λ fs. IsSought code rep fs 0 (pos 0) byte body es) (sym none)
    (subst (IsSought code rep [] 0 (pos 0) byte body) stands.2 (record {
      run = program_is_to_run code body stands.1;
      most = let whole = size_is_total rep body (pos 0) in let same = ap (total rep) stands.2 in omega (arith, whole, same, most);
      inner = λ some. absurd (omega (arith, some));
    }))
