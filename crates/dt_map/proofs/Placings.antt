-- placing what was placed
use Rattle.std.proofs.Common.{◌≡◌, ℤ, ◌+ℤ◌, Option, List, [], ◌∷◌, ◌++◌, map, refl, sym, ap, ◌∙◌, arith}
use Rattle.std.proofs.lemmas.Int.{ints}
use Rattle.std.proofs.lemmas.List.{map-append}
use Rattle.std.proofs.lemmas.Grind.{flat_map-append}
use Rattle.std.specs.List.{flat_map}
use Rattle.dt_map.specs.declared.entry.Entry.{Entry}
use Rattle.dt_offsets.specs.declared.marks.Marks.{Marks}
use Rattle.dt_map.specs.Typemap.{Marked, shift, shift_entry}
use Rattle.dt_offsets.specs.Span.{shift_marks, joined_marks}
use Rattle.dt_map.specs.Placing.{placed_marks, place}
use Rattle.dt_map.specs.Laws.{PlacingOfPlacing, further}
use Rattle.dt_offsets.proofs.Spans.{shift_marks-joined, shift_marks-shift_marks}
use Rattle.dt_map.proofs.Summaries.{placed_marks-append}

-- shifts
pub shift-shift : (x y : ℤ) (es : List Entry) → shift x (shift y es) ≡ shift (y +ℤ x) es
shift-shift x y [] = refl
shift-shift x y (e ∷ es) =
    let here : shift_entry x (shift_entry y e) ≡ shift_entry (y +ℤ x) e = ap (λ d. let r : Entry = record { kind = e.kind; disp = d } in r) (omega (arith, ints)) in
    ap (λ f. f ∷ shift x (shift y es)) here ∙ ap (λ s. shift_entry (y +ℤ x) e ∷ s) (shift-shift x y es)

pub shift-append : (x : ℤ) (es fs : List Entry) → shift x (es ++ fs) ≡ shift x es ++ shift x fs
shift-append x es fs = map-append (shift_entry x) es fs

-- members placed together, further on
abbrev pub placed : ℤ × Marked → List Entry
placed member = shift member.0 member.1.entries

pub entries-further : (x : ℤ) (members : List (ℤ × Marked)) → shift x (flat_map placed members) ≡ flat_map placed (further x members)
entries-further x [] = refl
entries-further x (member ∷ members) =
    shift-append x (placed member) (flat_map placed members)
    ∙ (ap (λ s. s ++ shift x (flat_map placed members)) (shift-shift x member.0 member.1.entries)
    ∙ ap (λ s. shift (member.0 +ℤ x) member.1.entries ++ s) (entries-further x members))

pub marks-further : (x : ℤ) (members : List (ℤ × Marked)) → shift_marks x (placed_marks members) ≡ placed_marks (further x members)
marks-further x [] = refl
marks-further x (member ∷ members) =
    shift_marks-joined x (shift_marks member.0 member.1.marks) (placed_marks members)
    ∙ (ap (λ s. joined_marks s (shift_marks x (placed_marks members))) (shift_marks-shift_marks x member.0 member.1.marks)
    ∙ ap (joined_marks (shift_marks (member.0 +ℤ x) member.1.marks)) (marks-further x members))

-- groups of members, each placed and placed again
abbrev group_of : ℤ × List (ℤ × Marked) → ℤ × Marked
group_of group = (group.0, place group.1)

abbrev members_of : ℤ × List (ℤ × Marked) → List (ℤ × Marked)
members_of group = further group.0 group.1

entries_of_groups : (groups : List (ℤ × List (ℤ × Marked))) → flat_map placed (map group_of groups) ≡ flat_map placed (flat_map members_of groups)
entries_of_groups [] = refl
entries_of_groups (group ∷ groups) =
    ap (λ s. s ++ flat_map placed (map group_of groups)) (entries-further group.0 group.1)
    ∙ (ap (λ s. flat_map placed (members_of group) ++ s) (entries_of_groups groups)
    ∙ sym (flat_map-append placed (members_of group) (flat_map members_of groups)))

marks_of_groups : (groups : List (ℤ × List (ℤ × Marked))) → placed_marks (map group_of groups) ≡ placed_marks (flat_map members_of groups)
marks_of_groups [] = refl
marks_of_groups (group ∷ groups) =
    ap (λ s. joined_marks s (placed_marks (map group_of groups))) (marks-further group.0 group.1)
    ∙ (ap (joined_marks (placed_marks (members_of group))) (marks_of_groups groups)
    ∙ sym (placed_marks-append (members_of group) (flat_map members_of groups)))

same_marked : (es fs : List Entry) (a b : Option Marks) → es ≡ fs → a ≡ b → (let m : Marked = record { entries = es; marks = a } in m) ≡ record { entries = fs; marks = b }
same_marked es fs a b e f = cc

pub placing_of_placing : PlacingOfPlacing
placing_of_placing groups = same_marked _ _ _ _ (entries_of_groups groups) (marks_of_groups groups)
