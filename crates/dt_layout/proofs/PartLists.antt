-- One more part, after others.
use Rattle.std.specs.Prelude.{◌≡◌, ℕ, zero, suc, ◌+◌, ◌*◌, ◌^◌, ◌<◌, ◌≤◌, max, ℤ, nat_abs, List, [], ◌∷◌, ◌++◌, length}
use Rattle.std.specs.List.{flat_map, sum_by}
use Rattle.std.proofs.Common.{refl, sym, ap, subst, ◌∙◌, arith, append_assoc, append-nil, length-append}
use Rattle.std.proofs.lemmas.Grind.{flat_map-append}
use Rattle.std.proofs.lemmas.List.Folds.{flat_map-map}
use Rattle.std.proofs.lemmas.List.Sums.{sum_by-append, sum_by-cons}
use Rattle.dt_map.specs.declared.entry.Entry.{Entry}
use Rattle.dt_map.specs.Typemap.{Marked, shift}
use Rattle.dt_map.proofs.Placings.{shift-append}
use Rattle.dt_offsets.specs.declared.turns.Turns.{Turns}
use Rattle.dt_offsets.specs.Offsets.{turn_offsets, row_offsets}
use Rattle.dt_offsets.proofs.Reaches.{count-row}
use Rattle.dt_type.specs.declared.datatype.Seen.{Seen}
use Rattle.dt_type.specs.declared.shape.ShapePartOf.{ShapePartOf}
use Rattle.dt_type.specs.Datatype.{entries_of, typemap_of, weight_of, depth_of}
use Rattle.dt_type.specs.Listing.{entries_at}
use Rattle.dt_type.specs.Shape.{placed_parts}
use Rattle.dt_type.proofs.Lookups.{part_entries, entries-parts}
use Rattle.dt_layout.specs.declared.instr.Instr.{Instr}
use Rattle.dt_layout.specs.Body.{Body, one, loop, each, seq, Parts, no_parts, part, meaning, meanings, width, widths, opened, most_opened, number_of}
use Rattle.dt_layout.specs.Program.{spelling, spellings, IsLawful, AreLawful}
use Rattle.dt_layout.specs.Written.{is_loop, AreClose, IsWritten, AreWritten}
use Rattle.dt_layout.proofs.All.{all_split}
use Rattle.dt_layout.proofs.Bodies.{length-spellings}
use Rattle.dt_layout.proofs.Under.{length-copies, copies_of_row}

abbrev pub add_part : Parts → Turns → Body → Parts
add_part no_parts t body = part t body no_parts
add_part (part u first parts) t body = part u first (add_part parts t body)

spellings-add : (at : ℕ) (parts : Parts) (t : Turns) (body : Body) → spellings at (add_part parts t body) ≡ spellings at parts ++ spelling (at + widths parts) (loop t body)
spellings-add at no_parts t body =
    let same : at ≡ at + 0 = omega arith in append-nil (spelling at (loop t body)) ∙ ap (λ n. spelling n (loop t body)) same
spellings-add at (part u first parts) t body =
    let head = spelling at (loop u first) in
    let next : ℕ = at + (width first + 2) in
    let same : next + widths parts ≡ at + ((width first + 2) + widths parts) = omega arith in
    ap (λ s. head ++ s) (spellings-add next parts t body ∙ ap (λ n. spellings next parts ++ spelling n (loop t body)) same)
    ∙ sym (append_assoc head (spellings next parts) (spelling (at + ((width first + 2) + widths parts)) (loop t body)))

meanings-add : (parts : Parts) (t : Turns) (body : Body) (x : ℤ) → meanings (add_part parts t body) x ≡ meanings parts x ++ meaning (loop t body) x
meanings-add no_parts t body x = append-nil (meaning (loop t body) x)
meanings-add (part u first parts) t body x =
    ap (λ s. meaning (loop u first) x ++ s) (meanings-add parts t body x) ∙ sym (append_assoc (meaning (loop u first) x) (meanings parts x) (meaning (loop t body) x))

lawful-add : (parts : Parts) (t : Turns) (body : Body) (x : ℤ) → AreLawful parts x → IsLawful (loop t body) x → AreLawful (add_part parts t body) x
lawful-add no_parts t body x lawful more = (more, tt)
lawful-add (part u first parts) t body x lawful more = (lawful.0, lawful-add parts t body x lawful.1 more)

widths-add : (parts : Parts) (t : Turns) (body : Body) → widths (add_part parts t body) ≡ widths parts + (width body + 2)
widths-add no_parts t body = omega arith
widths-add (part u first parts) t body = let rest = widths-add parts t body in omega (arith, rest)

opened-add : (parts : Parts) (t : Turns) (body : Body) → most_opened (add_part parts t body) ≡ max (most_opened parts) (1 + opened body)
opened-add no_parts t body = omega arith
opened-add (part u first parts) t body = let rest = opened-add parts t body in omega (arith, rest)

pub number-add : (parts : Parts) (t : Turns) (body : Body) → number_of (add_part parts t body) ≡ number_of parts + 1
number-add no_parts t body = omega arith
number-add (part u first parts) t body = let rest = number-add parts t body in omega (arith, rest)

-- the entries of one more part
abbrev pub row_of : ShapePartOf Seen → List ℤ
row_of p = row_offsets p.first p.copies p.step

pub part_listed : (p : ShapePartOf Seen) → part_entries p ≡ entries_at (row_of p) (entries_of p.old)
part_listed p = flat_map-map (λ (member : ℤ × Marked). shift member.0 member.1.entries) (λ x. (x, typemap_of p.old)) (row_of p)

pub placed_more : (shapes : List (ShapePartOf Seen)) (p : ShapePartOf Seen) → (placed_parts (shapes ++ p ∷ [])).entries ≡ (placed_parts shapes).entries ++ entries_at (row_of p) (entries_of p.old)
placed_more shapes p =
    entries-parts (shapes ++ p ∷ []) ∙ flat_map-append part_entries shapes (p ∷ [])
    ∙ ap (λ s. s ++ flat_map part_entries (p ∷ [])) (sym (entries-parts shapes))
    ∙ ap (λ s. (placed_parts shapes).entries ++ s) (append-nil (part_entries p) ∙ part_listed p)

weigh_more : (shapes : List (ShapePartOf Seen)) (p : ShapePartOf Seen) → sum_by (λ (q : ShapePartOf Seen). weight_of q.old) (shapes ++ p ∷ []) ≡ sum_by (λ (q : ShapePartOf Seen). weight_of q.old) shapes + weight_of p.old
weigh_more shapes p =
    let weight : ShapePartOf Seen → ℕ = λ q. weight_of q.old in
    let all = sum_by-append weight shapes (p ∷ []) in
    let last = sum_by-cons weight p [] in
    omega (arith, all, last)

-- nothing was appended
pub none_written : (code : List Instr) → AreWritten [] code code no_parts
none_written code = record {
  spelled = sym (append-nil code);
  means = λ x. refl;
  lawful = λ x close. tt;
  short = omega arith;
  shallow = λ limit some below. omega arith;
}

module _ (shapes : List (ShapePartOf Seen)) (p : ShapePartOf Seen) (old mid : List Instr) (parts : Parts) (written : AreWritten shapes old mid parts) where
  -- a part without entries
  pub part_skipped : ((0 < p.copies) × (0 < length (entries_of p.old)) → ⊥) → AreWritten (shapes ++ p ∷ []) old mid parts
  part_skipped none = record {
    spelled = written.spelled;
    means = λ x. written.means x ∙ ap (shift x) (sym (append-nil (placed_parts shapes).entries) ∙ ap (λ s. (placed_parts shapes).entries ++ s) (sym nothing) ∙ sym (placed_more shapes p));
    lawful = written.lawful;
    short = let short = written.short in let more = weigh_more shapes p in omega (arith, short, more, length-append shapes (p ∷ []));
    shallow = λ limit some below. written.shallow limit some (all_split (λ (q : ShapePartOf Seen). depth_of q.old < limit) shapes (p ∷ []) below).0;
  }
    where
      empty : {A : Type 0} (xs : List A) → length xs ≡ 0 → xs ≡ []
      empty [] e = refl
      empty (x ∷ xs) e = absurd (omega (arith, e))

      zero_times : (n k : ℕ) → ((0 < n) × (0 < k) → ⊥) → n * k ≡ 0
      zero_times zero k none = omega arith
      zero_times (suc n) zero none = omega arith
      zero_times (suc n) (suc k) none = absurd (none (omega arith, omega arith))

      nothing : entries_at (row_of p) (entries_of p.old) ≡ []
      nothing =
          empty (entries_at (row_of p) (entries_of p.old))
          (length-copies (row_of p) (entries_of p.old) ∙ ap (λ n. n * length (entries_of p.old)) (count-row p.first p.step p.copies) ∙ zero_times p.copies (length (entries_of p.old)) none)

  -- a part whose loop was appended
  module _ (turns : Turns) (new : List Instr) (t : Turns) (inside : Body) (is_row : turn_offsets turns ≡ row_of p) (body : IsWritten (turns ∷ []) p.old mid new (loop t inside)) where
    means_part : (x : ℤ) → meaning (loop t inside) x ≡ shift x (entries_at (row_of p) (entries_of p.old))
    means_part x = body.means x ∙ ap (shift x) (copies_of_row turns p.old (row_of p) is_row)

    starts : length mid ≡ length old + widths parts
    starts = let all = ap length written.spelled in omega (arith, all, length-append old (spellings (length old) parts), length-spellings (length old) parts)

    pub part_written : AreWritten (shapes ++ p ∷ []) old new (add_part parts t inside)
    part_written = record {
      spelled =
          body.spelled
          ∙ ap (λ n. mid ++ spelling n (loop t inside)) starts
          ∙ ap (λ s. s ++ spelling (length old + widths parts) (loop t inside)) written.spelled
          ∙ append_assoc old (spellings (length old) parts) (spelling (length old + widths parts) (loop t inside))
          ∙ ap (λ s. old ++ s) (sym (spellings-add (length old) parts t inside));
      means = λ x.
          meanings-add parts t inside x
          ∙ ap (λ s. s ++ meaning (loop t inside) x) (written.means x)
          ∙ ap (λ s. shift x (placed_parts shapes).entries ++ s) (means_part x)
          ∙ sym (shift-append x (placed_parts shapes).entries (entries_at (row_of p) (entries_of p.old)))
          ∙ ap (shift x) (sym (placed_more shapes p));
      lawful = λ x close.
          let both = all_split (λ (e : Entry). nat_abs e.disp ≤ 2 ^ 61) (meanings parts x) (meaning (loop t inside) x) (subst AreClose (meanings-add parts t inside x) close) in
          lawful-add parts t inside x (written.lawful x both.0) (body.lawful x both.1);
      short =
          let before = written.short in
          let here = body.short in
          let more = weigh_more shapes p in
          let one = length-append {A = Turns} [] (turns ∷ []) in
          omega (arith, before, here, more, widths-add parts t inside, length-append shapes (p ∷ []));
      shallow = λ limit some below.
          let both = all_split (λ (q : ShapePartOf Seen). depth_of q.old < limit) shapes (p ∷ []) below in
          let before = written.shallow limit some both.0 in
          let here = body.shallow in
          let last = both.1.0 in
          omega (arith, before, here, last, opened-add parts t inside);
    }

-- a loop
pub loop_of : (body : Body) → is_loop body → (t : Turns) × (inside : Body) × (body ≡ loop t inside)
loop_of (loop t inside) h = (t, inside, refl)
loop_of (one kind) h = absurd h
loop_of (each spots inside) h = absurd h
loop_of (seq parts) h = absurd h
