-- The large type of a script: its line, and what it places.
use Rattle.std.proofs.Common.{◌≡◌, ℕ, zero, suc, ◌+◌, ◌*◌, ◌≤◌, ◌<◌, pos, List, [], ◌∷◌, ◌++◌, map, length, codes, decimal, refl, sym, ap, subst, ◌∙◌, append_assoc, arith}
use Rattle.std.proofs.lemmas.List.{length-map}
use Rattle.std.proofs.lemmas.List.Folds.{flat_map-map}
use Rattle.std.specs.List.{flat_map}
use Rattle.dt_kinds.specs.declared.kind.Kind.TheVariants.{Short}
use Rattle.dt_form.specs.declared.form.FormOf.{FormOf}
use Rattle.dt_form.specs.declared.form.FormOf.TheVariants as form
use Rattle.dt_gen.specs.Draws.{draw}
use Rattle.dt_gen.specs.Script.{spaced, line, places_at, big_at}
use Rattle.dt_map.specs.declared.entry.Entry.{Entry}
use Rattle.dt_map.specs.Bounds.{extent_of}
use Rattle.dt_map.specs.Constructors.{copies_at}
use Rattle.dt_map.specs.Limits.{IsInRange}
use Rattle.dt_map.specs.Typemap.{Marked, shift}
use Rattle.dt_script.specs.declared.command.Command.TheVariants.{Define, Normalise}
use Rattle.dt_script.specs.declared.command.Ctor.TheVariants.{IndexedBlock}
use Rattle.dt_script.specs.Item.{INT, IsItem, Are}
use Rattle.dt_type.specs.Answer.{IsAllowed}
use Rattle.dt_type.specs.Constructors.{extents_offsets, indexed_block_offsets}
use Rattle.dt_type.specs.Datatype.{typemap_of, entries_of}
use Rattle.dt_type.specs.declared.datatype.Seen.{Seen}
use Rattle.dt_type.specs.Form.{map_by, result_of}
use Rattle.dt_accepted.proofs.Commands.{Means}
use Rattle.dt_accepted.proofs.Ranges.{unmarked, stands_in_range}
use Rattle.dt_accepted.proofs.Rounds.{drawn_below, depth_is, weight_is}
use Rattle.dt_accepted.proofs.Spelled.{number_word, int_read, one_read}
use Rattle.dt_accepted.proofs.Stands.{Behind, Stands}
use Rattle.dt_accepted.proofs.Vectors.{basic_of, typemap_is, kind_map, kind_extent, one_of, size_of_pos, copies_unmarked, flat_groups}
use Rattle.dt_accepted.proofs.Words.{AreWords}

-- the displacements that are drawn
unfoldable pub drawn : ℕ → ℕ → ℕ → List ℕ
drawn zero i word = []
drawn (suc n) i word = (3 * i + (draw 2 word).0) ∷ drawn n (suc i) (draw 2 word).1

pub places_text : (n i word : ℕ) → (places_at n i word).0 ≡ flat_map spaced (map decimal (drawn n i word))
unfolding places_at drawn
places_text zero i word = refl
places_text (suc n) i word = ap (λ text. spaced (decimal (3 * i + (draw 2 word).0)) ++ text) (places_text n (suc i) (draw 2 word).1)

pub drawn_many : (n i word : ℕ) → length (drawn n i word) ≡ n
unfolding drawn
drawn_many zero i word = refl
drawn_many (suc n) i word = ap suc (drawn_many n (suc i) (draw 2 word).1)

low_draw : (word : ℕ) → (draw 2 word).0 < 2
low_draw word = drawn_below 2 word (omega arith)

-- its line
drawn_words : (n i word : ℕ) → i + n ≤ 1024 → AreWords (map decimal (drawn n i word))
unfolding drawn
drawn_words zero i word le = tt
drawn_words (suc n) i word le =
    let low = low_draw word in
    (number_word (3 * i + (draw 2 word).0) (omega arith), drawn_words n (suc i) (draw 2 word).1 (omega arith))

drawn_read : (n i word : ℕ) → i + n ≤ 1024 → Are (IsItem INT) (map decimal (drawn n i word)) (map pos (drawn n i word))
unfolding drawn
drawn_read zero i word le = tt
drawn_read (suc n) i word le =
    let low = low_draw word in
    (int_read (3 * i + (draw 2 word).0) (omega arith), drawn_read n (suc i) (draw 2 word).1 (omega arith))

pub large_means : (n word : ℕ) → n ≤ 1024
    → Means (codes "type") (codes "big" ∷ codes "=" ∷ codes "indexed_block" ∷ codes "MPI_SHORT" ∷ codes "1" ∷ map decimal (drawn n 0 word))
    (Define (codes "big") (IndexedBlock (codes "MPI_SHORT") (pos 1) (map pos (drawn n 0 word))))
large_means n word le = record {
  spelled = (refl, (refl, (refl, (refl, (refl, (refl, drawn_words n 0 word (omega arith)))))));
  plain = refl;
  read = (
    _,
    refl,
    (
      _,
      _,
      refl,
      (refl, refl),
      (_, refl, (_, refl, (_, _, refl, (refl, refl), (_, _, refl, one_read, drawn_read n 0 word (omega arith))))),
    ),
  );
}

pub large_normalise_means : Means (codes "normalise") (codes "big" ∷ []) (Normalise (codes "big"))
large_normalise_means = record { spelled = (refl, (refl, tt)); plain = refl; read = (_, refl, (_, _, refl, (refl, refl), refl)) }

-- what it places
abbrev pub large_form : List ℕ → FormOf Seen
large_form places = form.IndexedBlock (pos 1) (map pos places) (basic_of Short)

abbrev one_place : ℕ → List Entry
one_place n = flat_map (λ x. shift x (one_of Short)) (extents_offsets (pos n) 1 (pos 2))

large_map : (places : List ℕ) → map_by (large_form places) ≡ unmarked (flat_map one_place places)
large_map places =
    let old = typemap_of (basic_of Short) in
    let disps = map pos places in
    ap (λ n. copies_at (indexed_block_offsets n disps (extent_of old)) old) (size_of_pos 1)
    ∙ (ap (λ x. copies_at (indexed_block_offsets 1 disps x) old) (kind_extent Short)
    ∙ (ap (copies_at (indexed_block_offsets 1 disps (pos 2))) (kind_map Short)
    ∙ (copies_unmarked (indexed_block_offsets 1 disps (pos 2)) (one_of Short)
    ∙ ap unmarked (flat_groups (λ x. shift x (one_of Short)) (λ d. extents_offsets d 1 (pos 2)) disps
    ∙ flat_map-map (λ d. flat_map (λ x. shift x (one_of Short)) (extents_offsets d 1 (pos 2))) pos places))))

places_behind : (n i word a : ℕ) → a ≤ 6 * i → (b : ℕ) × (b ≤ 6 * (i + n)) × Behind Short a (flat_map one_place (drawn n i word)) b
unfolding drawn
places_behind zero i word a le = (a, omega arith, refl)
places_behind (suc n) i word a le =
    let low = low_draw word in
    let x = (draw 2 word).0 in
    let at = 0 + (3 * i + x + 0) * 2 in
    let rest = places_behind n (suc i) (draw 2 word).1 (at + 2) (omega (arith, low)) in
    let end : rest.0 ≤ 6 * (suc i + n) = rest.1 in
    (rest.0, omega (arith, end), (at, omega (arith, le), refl, rest.2))

places_stand : (n i word : ℕ) → (a b : ℕ) × (b ≤ 6 * (i + suc n)) × Stands Short a (flat_map one_place (drawn (suc n) i word)) b
unfolding drawn
places_stand n i word =
    let low = low_draw word in
    let x = (draw 2 word).0 in
    let at = 0 + (3 * i + x + 0) * 2 in
    let rest = places_behind n (suc i) (draw 2 word).1 (at + 2) (omega (arith, low)) in
    let end : rest.0 ≤ 6 * (suc i + n) = rest.1 in
    (at, rest.0, omega (arith, end), (refl, rest.2))

one_many : (places : List ℕ) → length (flat_map one_place places) ≡ length places
one_many [] = refl
one_many (n ∷ places) = ap suc (one_many places)

pub large_many : (n i word : ℕ) → length (entries_of (result_of (large_form (drawn n i word)))) ≡ n
large_many n i word =
    let places = drawn n i word in
    ap (λ (m : Marked). length m.entries) (typemap_is (large_form places) ∙ large_map places) ∙ (one_many places ∙ drawn_many n i word)

pub large_allowed : (n word : ℕ) → n ≤ 1023 → IsAllowed (large_form (drawn (suc n) 0 word))
large_allowed n word le =
    let places = drawn (suc n) 0 word in
    let all = places_stand n 0 word in
    let end : all.1 ≤ 6 * (0 + suc n) = all.2 in
    let deep = depth_is (form.Named Short) in
    let heavy = weight_is (form.Named Short) in
    let many = length-map places pos in
    let size = drawn_many (suc n) 0 word in
    record {
      in_range = subst (λ (m : Marked). IsInRange m) (sym (large_map places)) (stands_in_range Short all.0 all.1 (flat_map one_place places) all.3 (omega (arith, end)));
      shallow = omega (arith, deep);
      light = omega (arith, heavy, many, size);
    }

-- its text
pub large_text : (word : ℕ) → (big_at word).0
    ≡ line (codes "type") (codes "big" ∷ codes "=" ∷ codes "indexed_block" ∷ codes "MPI_SHORT" ∷ codes "1" ∷ map decimal (drawn 1024 0 word))
    ++ line (codes "normalise") (codes "big" ∷ [])
unfolding big_at line
large_text word =
    let places = flat_map spaced (map decimal (drawn 1024 0 word)) in
    ap (λ text. codes "type big = indexed_block MPI_SHORT 1" ++ text ++ codes "\nnormalise big\n") (places_text 1024 0 word)
    ∙ sym (append_assoc (codes "type big = indexed_block MPI_SHORT 1" ++ places) (codes "\n") (codes "normalise big\n"))
