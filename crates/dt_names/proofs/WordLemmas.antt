-- What a type word stands for, or lacks.
use Rattle.std.proofs.Common.{◌≡◌, ℕ, Bool, true, false, ◌&&◌, not, cond, List, [], ◌∷◌, Option, Some, None, Result, Ok, Err, inl, inr, refl, sym, ap, ◌∙◌}
use Rattle.std.proofs.lemmas.Bool.{and_parts, false_from_ne_true, or_cases}
use Rattle.std.proofs.lemmas.Slice.Eq.{bytes_eq-Decides}
use Rattle.std.specs.List.{list_all, list_any}
use Rattle.std.specs.Option.{is_none, option_map, option_map_or}
use Rattle.std.specs.Result.{result_ok, is_ok}
use Rattle.std.specs.Str.{bytes_eq}
use Rattle.dt_kinds.specs.declared.kind.Kind.{Kind}
use Rattle.dt_kinds.specs.declared.kind.KindFault.{KindFault}
use Rattle.dt_kinds.specs.Name.{kind_of, left_out, is_left_out}
use Rattle.dt_reply.specs.declared.refusal.Refusal.{Refusal}
use Rattle.dt_reply.specs.declared.refusal.Refusal.TheVariants as refusal
use Rattle.dt_script.specs.Name.{begins_with_mpi, is_name, name_of}
use Rattle.dt_type.specs.declared.datatype.Seen.{out-roll-Seen}
use Rattle.dt_form.specs.declared.form.FormOf.TheVariants.{Named}
use Rattle.dt_type.specs.Basic.{is_basic}
use Rattle.dt_form.specs.Form.{is_named}
use Rattle.dt_type.specs.Datatype.{form_of}
use Rattle.dt_type.specs.Form.{result_of}
use Rattle.dt_names.specs.declared.kept.Kept.{Kept}
use Rattle.dt_names.specs.declared.stop.Stop.TheVariants.{Refused}
use Rattle.dt_names.specs.Missing.{IsMissing}
use Rattle.dt_names.specs.Names.{under, basic, type_in, is_unknown_in, is_basic_in}

-- a name of MPI that is left out begins as all its names do
any_begins : (word : List ℕ) (names : List (List ℕ)) → list_all begins_with_mpi names ≡ true → list_any (bytes_eq word) names ≡ true
    → begins_with_mpi word ≡ true
any_begins word [] all any = cc
any_begins word (name ∷ names) all any =
    let parts = and_parts (begins_with_mpi name) (list_all begins_with_mpi names) all in
    elim (or_cases (bytes_eq word name) (list_any (bytes_eq word) names) any) [
      | inl is ↦ ap begins_with_mpi ((bytes_eq-Decides word name).0 is) ∙ parts.0
      | inr others ↦ any_begins word names parts.1 others
    ]

left_out_begin : list_all begins_with_mpi left_out ≡ true
left_out_begin = refl

pub left_out_reserved : (word : List ℕ) → is_left_out word ≡ true → begins_with_mpi word ≡ true
unfolding is_left_out
left_out_reserved word is = any_begins word left_out left_out_begin is

-- a name that doesn't begin so isn't left out
pub plain_supported : (word : List ℕ) → begins_with_mpi word ≡ false → is_left_out word ≡ false
plain_supported word plain =
    false_from_ne_true (is_left_out word) (λ is. let apart : true ≡ false = sym (left_out_reserved word is) ∙ plain in cc)

-- a word that is left out stands for nothing
left_out_stands_not : (types : List (List ℕ × Kept)) (word : List ℕ) → is_left_out word ≡ true → type_in types word ≡ None
left_out_stands_not types word is = rw (left_out_reserved word is, is) refl

-- a word that stands for a type is neither unknown nor left out
pub stands_known : (types : List (List ℕ × Kept)) (word : List ℕ) (kept : Kept) → type_in types word ≡ Some kept → is_unknown_in types word ≡ false
stands_known types word kept is = ap (λ found. is_none found && not (is_left_out word)) is

pub stands_supported : (types : List (List ℕ × Kept)) (word : List ℕ) (kept : Kept) → type_in types word ≡ Some kept → is_left_out word ≡ false
stands_supported types word kept is =
    false_from_ne_true (is_left_out word) (λ out. let apart : None ≡ Some kept = sym (left_out_stands_not types word out) ∙ is in cc)

-- a word that is left out isn't unknown
pub left_out_known : (types : List (List ℕ × Kept)) (word : List ℕ) → is_left_out word ≡ true → is_unknown_in types word ≡ false
left_out_known types word is = rw (left_out_stands_not types word is, is) refl

-- a word that is neither stands for a type
pub stands : (types : List (List ℕ × Kept)) (word : List ℕ) → is_unknown_in types word ≡ false → is_left_out word ≡ false → is_none (type_in types word) ≡ false
stands types word known supported =
    false_from_ne_true (is_none (type_in types word)) (λ none. let apart : true ≡ false = sym (rw (none, supported) refl) ∙ known in cc)

pub only_memory : (types : List (List ℕ × Kept)) (word : List ℕ) → is_none (type_in types word) ≡ false → (refused : Refusal) → ¬ IsMissing types word (Refused refused)
only_memory types word stand refusal.UnknownName unknown = let apart : true ≡ false = sym unknown ∙ ap (λ b. b && not (is_left_out word)) stand in cc
only_memory types word stand refusal.UnsupportedKind out = let apart : true ≡ false = ap is_none (sym (left_out_stands_not types word out)) ∙ stand in cc
only_memory types word stand other is = is

-- a name that doesn't begin as those of MPI do is unknown where nothing stands under it
pub plain_unknown : (types : List (List ℕ × Kept)) (word : List ℕ) → begins_with_mpi word ≡ false → under word types ≡ None → is_unknown_in types word ≡ true
plain_unknown types word plain none = rw (plain, none, plain_supported word plain) refl

pub plain_known : (types : List (List ℕ × Kept)) (word : List ℕ) (kept : Kept) → begins_with_mpi word ≡ false → under word types ≡ Some kept → is_unknown_in types word ≡ false
plain_known types word kept plain is = rw (plain, is) refl

-- a basic type is basic
named_is_basic : (kind : Kind) → is_basic (result_of (Named kind)) ≡ true
named_is_basic kind = ap (λ layer. is_named layer.form) (out-roll-Seen _)

found_is_basic : (kinds : Result Kind KindFault) → option_map_or (λ kept. is_basic kept.ty) (option_map basic (result_ok kinds)) false ≡ is_ok kinds
found_is_basic (Ok kind) = named_is_basic kind
found_is_basic (Err fault) = refl

-- a word that begins as the names of MPI do stands for a basic type where it names a kind
pub reserved_is_basic : (types : List (List ℕ × Kept)) (word : List ℕ) → begins_with_mpi word ≡ true → is_basic_in types word ≡ is_ok (kind_of word)
reserved_is_basic types word reserved = rw reserved (found_is_basic (kind_of word))

-- a word that names no kind stands for nothing
pub unknown_kind : (kinds : Result Kind KindFault) → is_ok kinds ≡ false → is_none (option_map basic (result_ok kinds)) ≡ true
unknown_kind (Ok kind) h = cc
unknown_kind (Err fault) h = refl

-- a word that doesn't begin as the names of MPI do is looked up
pub plain_under : (types : List (List ℕ × Kept)) (word : List ℕ) → begins_with_mpi word ≡ false → type_in types word ≡ under word types
plain_under types word plain = rw plain refl

-- a name is the word that it was made of
picked : (test : Bool) (word name : List ℕ) → Some name ≡ cond test (Some word) None → name ≡ word
picked true word name is = cc
picked false word name is = cc

pub name_is : (word name : List ℕ) → Some name ≡ name_of word → name ≡ word
name_is word name is = picked (is_name word) word name is

-- what a reserved word stands for that names a kind
pub kind_found : (types : List (List ℕ × Kept)) (word : List ℕ) (kind : Kind) → begins_with_mpi word ≡ true → kind_of word ≡ Ok kind
    → (kept : Kept) × (type_in types word ≡ Some kept) × (form_of kept.ty ≡ Named kind)
kind_found types word kind reserved names = (basic kind, rw (reserved, names) refl, ap (λ layer. layer.form) (out-roll-Seen _))

-- a name that isn't reserved, and the word that it was made of
pub plain_found : (types : List (List ℕ × Kept)) (word name : List ℕ) (kept : Kept) → Some name ≡ name_of word → begins_with_mpi name ≡ false
    → under name types ≡ Some kept → type_in types word ≡ Some kept
plain_found types word name kept made plain is = ap (type_in types) (sym (name_is word name made)) ∙ (plain_under types name plain ∙ is)

pub plain_lost : (types : List (List ℕ × Kept)) (word name : List ℕ) → Some name ≡ name_of word → begins_with_mpi name ≡ false → under name types ≡ None
    → is_unknown_in types word ≡ true
plain_lost types word name made plain none = ap (is_unknown_in types) (sym (name_is word name made)) ∙ plain_unknown types name plain none
