-- An entry of copies, by division, and the entries of parts.
use Rattle.std.specs.Prelude.{◌≡◌, ℕ, ◌*◌, ◌/◌, ◌%◌, ◌<◌, ℤ, List, length, slice_get, get_or}
use Rattle.std.specs.List.{flat_map}
use Rattle.std.specs.Option.{option_map}
use Rattle.std.proofs.Common.{ap, ◌∙◌}
use Rattle.std.proofs.lemmas.List.{length-map}
use Rattle.std.proofs.lemmas.List.Folds.{flat_map-map}
use Rattle.std.proofs.lemmas.Option.{slice_get-map}
use Rattle.dt_map.specs.declared.entry.Entry.{Entry}
use Rattle.dt_map.specs.Constructors.{copies_at}
use Rattle.dt_map.specs.Placing.{place}
use Rattle.dt_map.specs.Typemap.{Marked, shift, shift_entry}
use Rattle.dt_map.proofs.Digests.{length-copies}
use Rattle.dt_offsets.specs.Offsets.{row_offsets}
use Rattle.dt_offsets.proofs.Lookups.{in_block, flat_map-flat_map}
use Rattle.dt_offsets.proofs.Reaches.{count-row}
use Rattle.dt_type.specs.declared.datatype.Seen.{Seen}
use Rattle.dt_type.specs.declared.shape.ShapePartOf.{ShapePartOf}
use Rattle.dt_type.specs.Datatype.{typemap_of}
use Rattle.dt_type.specs.Shape.{part_members, placed_parts}

-- an entry of copies of one typemap
pub copy_at : (xs : List ℤ) (m : Marked) (k : ℕ) (d : ℤ) → k < length xs * length m.entries
    → slice_get (copies_at xs m).entries k ≡ option_map (shift_entry (get_or xs (k / length m.entries) d)) (slice_get m.entries (k % length m.entries))
copy_at xs m k d h =
    ap (λ es. slice_get es k) (flat_map-map (λ (member : ℤ × Marked). shift member.0 member.1.entries) (λ x. (x, m)) xs)
    ∙ in_block (λ x. shift x m.entries) (length m.entries) (λ x. length-map m.entries (shift_entry x)) xs k d h
    ∙ slice_get-map (shift_entry (get_or xs (k / length m.entries) d)) m.entries (k % length m.entries)

-- the entries of parts, part by part
abbrev pub part_entries : ShapePartOf Seen → List Entry
part_entries p = (place (part_members p)).entries

pub entries-parts : (parts : List (ShapePartOf Seen)) → (placed_parts parts).entries ≡ flat_map part_entries parts
entries-parts parts = flat_map-flat_map (λ (member : ℤ × Marked). shift member.0 member.1.entries) part_members parts

pub length-part : (p : ShapePartOf Seen) → length (part_entries p) ≡ p.copies * length (typemap_of p.old).entries
length-part p = length-copies (row_offsets p.first p.copies p.step) (typemap_of p.old) ∙ ap (λ n. n * length (typemap_of p.old).entries) (count-row p.first p.step p.copies)
