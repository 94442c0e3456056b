-- The packed bytes of a whole program.
use Rattle.std.specs.Prelude.{◌≡◌, Some, ℕ, suc, ◌+◌, ◌*◌, ◌^◌, ◌<◌, ◌≤◌, ◌⊎◌, pos, List, [], ◌∷◌, ◌++◌, length, drop, slice_get}
use Rattle.std.proofs.Common.{refl, sym, ap, ◌∙◌, arith, inl, inr, append_assoc, drop-cons, length-append}
use Rattle.std.proofs.lemmas.List.{drop_all}
use Rattle.std.proofs.lemmas.Option.{slice_get_within, get_or_from_slice_get}
use Rattle.dt_cursor.specs.Frames.{IsPlaced}
use Rattle.dt_cursor.specs.Onward.{AreParts}
use Rattle.dt_cursor.proofs.Climbing.{total-cons}
use Rattle.dt_cursor.proofs.Reading.{at_within, head_is, head_of}
use Rattle.dt_cursor.proofs.Running.{program_is_to_run}
use Rattle.dt_kinds.specs.declared.kind.Rep.{Rep}
use Rattle.dt_kinds.specs.declared.kind.Rep.TheVariants.{Native, External32}
use Rattle.dt_kinds.proofs.Table.{external_is_no_larger}
use Rattle.dt_layout.specs.Body.{Body, one, loop, each, seq, Parts, meaning, size, widths, number_of}
use Rattle.dt_layout.specs.declared.instr.Instr.{Instr}
use Rattle.dt_layout.specs.declared.instr.Instr.TheVariants as variants
use Rattle.dt_layout.specs.Program.{IsProgram, StandsFor, spellings}
use Rattle.dt_layout.proofs.Bodies.{size_is_total}
use Rattle.dt_map.specs.declared.entry.Entry.{Entry}
use Rattle.dt_map.specs.Packed.{total}
use Rattle.dt_offsets.specs.declared.turns.Spot.{Spot}
use Rattle.dt_offsets.specs.Offsets.{row_offsets, spot_offsets}
use Rattle.dt_offsets.proofs.Reaches.{count-row}

-- external32 takes no more bytes than memory does
total_le : (es : List Entry) → total External32 es ≤ total Native es
total_le [] = omega arith
total_le (e ∷ es) = omega (arith, total-cons External32 e es, total-cons Native e es, external_is_no_larger e.kind, total_le es)

pub size_le : (rep : Rep) (body : Body) → size rep body ≤ size Native body
size_le Native body = omega arith
size_le External32 body = omega (arith, size_is_total External32 body (pos 0), size_is_total Native body (pos 0), total_le (meaning body (pos 0)))

module _ (code : List Instr) (body : Body) (is : IsProgram code body) where
  pub placed_at_zero : IsPlaced code 0 body (pos 0)
  placed_at_zero = (program_is_to_run code body is).placed

  pub some_code : 0 < length code
  some_code = at_within code 0 body (pos 0) placed_at_zero

  pub size_small : (rep : Rep) → size rep body ≤ 2 ^ 62
  size_small rep = let small = is.small in omega (arith, small, size_le rep body)

  pub program_head : (i : Instr) → slice_get code 0 ≡ Some i → head_of 0 body ≡ i
  program_head i got = head_is code 0 body (pos 0) placed_at_zero i got

pub program_parts : (code : List Instr) (parts : Parts) → IsProgram code (seq parts) → AreParts code 1 parts
program_parts code parts is =
    let p = placed_at_zero code (seq parts) is in
    let head = variants.Seq (number_of parts) (0 + (widths parts + 2)) in
    let one_more : 0 + 1 ≡ 1 = refl in
    record {
      before = p.before ++ head ∷ [];
      after = p.after;
      spelled =
          p.spelled
          ∙ ap (λ s. p.before ++ head ∷ s) (append_assoc (spellings 1 parts) (variants.End ∷ []) p.after)
          ∙ sym (append_assoc p.before (head ∷ []) (spellings 1 parts ++ variants.End ∷ p.after));
      there = length-append p.before (head ∷ []) ∙ ap (λ n. n + 1) p.place;
    }

-- the copies of spots from one on
pub spots_from : (all : List Spot) (i : ℕ) (s : Spot) → slice_get all i ≡ Some s → length (spot_offsets (drop i all)) ≡ s.copies + length (spot_offsets (drop (i + 1) all))
spots_from all i s got =
    let next : suc i ≡ i + 1 = omega arith in
    let rest = drop (i + 1) all in
    ap (λ ss. length (spot_offsets ss)) (drop-cons all i s (slice_get_within all i s got) ∙ ap (λ z. z ∷ drop (suc i) all) (get_or_from_slice_get all i s s got) ∙ ap (λ k. s ∷ drop k all) next)
    ∙ length-append (row_offsets s.first s.copies s.step) (spot_offsets rest) ∙ ap (λ n. n + length (spot_offsets rest)) (count-row s.first s.step s.copies)

pub spots_end : (all : List Spot) (i : ℕ) → length all ≤ i → length (spot_offsets (drop i all)) ≡ 0
spots_end all i past = ap (λ ss. length (spot_offsets ss)) (drop_all i all past)

pub add_times : (n a b size : ℕ) → n ≡ a + b → n * size ≡ a * size + b * size
add_times n a b size e = ap (λ k. k * size) e ∙ omega arith

-- no body begins with a spot or an end
pub no_spot_here : (at : ℕ) (body : Body) (i : Instr) → head_of at body ≡ i → ((s : Spot) × (i ≡ variants.Spot s)) ⊎ (i ≡ variants.End) → ⊥
no_spot_here at (one k) i e is = elim is [ inl h ↦ (let both = e ∙ h.1 in cc) | inr h ↦ (let both = e ∙ h in cc) ]
no_spot_here at (loop t b) i e is = elim is [ inl h ↦ (let both = e ∙ h.1 in cc) | inr h ↦ (let both = e ∙ h in cc) ]
no_spot_here at (each spots b) i e is = elim is [ inl h ↦ (let both = e ∙ h.1 in cc) | inr h ↦ (let both = e ∙ h in cc) ]
no_spot_here at (seq parts) i e is = elim is [ inl h ↦ (let both = e ∙ h.1 in cc) | inr h ↦ (let both = e ∙ h in cc) ]

pub size_of_program : (code : List Instr) (rep : Rep) (es : List Entry) → (stands : StandsFor code es) → size rep stands.0 ≡ total rep es
size_of_program code rep es stands = sym (size_is_total rep stands.0 (pos 0)) ∙ ap (total rep) stands.2
