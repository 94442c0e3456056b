-- Replies and their text.
use Rattle.std.specs.Prelude.{◌≡◌, ℕ, ℤ, ◌-ℤ◌, Bool, true, false, Option, Some, None, List, [], ◌∷◌, ◌++◌, length, map, flat_map, codes, decimal}
use Rattle.std.specs.Fmt.{signed_decimal}
use Rattle.hex.specs.Hex.{encode_lower}
use Rattle.dt_kinds.specs.Kind.{name_of}
use Rattle.dt_map.specs.declared.bounds.Bounds.{Bounds}
use Rattle.dt_map.specs.declared.entry.Entry.{Entry}
use Rattle.dt_offsets.specs.declared.marks.Marks.{Marks}
use Rattle.dt_map.specs.Typemap.{Marked}
use Rattle.dt_form.specs.declared.contents.ContentsOf.{ContentsOf}
use Rattle.dt_type.specs.declared.datatype.Seen.{Seen}
use Rattle.dt_form.specs.declared.envelope.Combiner.{Combiner}
use Rattle.dt_form.specs.declared.envelope.Combiner.TheVariants as combiner
use Rattle.dt_form.specs.declared.envelope.Envelope.{Envelope}
use Rattle.dt_form.specs.declared.form.FormOf.{FormOf}
use Rattle.dt_form.specs.declared.form.FormOf.TheVariants.{Named}
use Rattle.dt_form.specs.Contents.{combiner_of}
use Rattle.dt_type.specs.Datatype.{form_of}
use Rattle.dt_reply.specs.Refusal.{number_of, word_of}
use Rattle.dt_reply.specs.declared.receipt.Receipt.{Receipt}
use Rattle.dt_reply.specs.declared.reply.Reply.{Reply}
use Rattle.dt_reply.specs.declared.reply.Reply.TheVariants.{Silent, Done, Packed, Shown, Told, Listed, Described, Contained, Least, Counted, Opened, Given, Closed, Copied, Wire, Reduced, ReducedAll, Refused}

-- a word behind a space
abbrev pub spaced : List ℕ → List ℕ
spaced word = codes " " ++ word

-- the line of some words: one space between any two, and a line feed at the end
unfoldable pub line_of : List ℕ → List (List ℕ) → List ℕ
line_of first words = first ++ flat_map spaced words ++ codes "\n"

-- bytes as hexadecimal text, `-` for none
abbrev pub hex_text : List ℕ → List ℕ
hex_text [] = codes "-"
hex_text (b ∷ bytes) = encode_lower (b ∷ bytes)

-- how many bytes, and the bytes
abbrev pub bytes_words : List ℕ → List (List ℕ)
bytes_words bytes = decimal (length bytes) ∷ hex_text bytes ∷ []

abbrev pub yes_or_no : Bool → List ℕ
yes_or_no true = codes "yes"
yes_or_no false = codes "no"

-- the bytes of all entries in memory and in external32, how many entries, and the alignment, each behind its name
unfoldable pub sizes_words : Bounds → List (List ℕ)
sizes_words bounds =
    codes "size" ∷ decimal bounds.size
    ∷ codes "ext" ∷ decimal bounds.ext_size
    ∷ codes "elements" ∷ decimal bounds.elements
    ∷ codes "align" ∷ decimal bounds.align ∷ []

-- the bounds, and the extent from the lower to the upper one, each behind its name
unfoldable pub extent_words : Bounds → List (List ℕ)
extent_words bounds =
    codes "lb" ∷ signed_decimal bounds.lb
    ∷ codes "ub" ∷ signed_decimal bounds.ub
    ∷ codes "extent" ∷ signed_decimal (bounds.ub -ℤ bounds.lb) ∷ []

-- the true bounds, each behind its name
unfoldable pub true_bounds_words : Bounds → List (List ℕ)
true_bounds_words bounds =
    codes "true_lb" ∷ signed_decimal bounds.true_lb
    ∷ codes "true_ub" ∷ signed_decimal bounds.true_ub ∷ []

-- whether a type is committed, behind the word
abbrev pub committed_words : Bool → List (List ℕ)
committed_words committed = codes "committed" ∷ yes_or_no committed ∷ []

-- what there is to know of a type without its entries
unfoldable pub info_words : Bounds → Bool → List (List ℕ)
info_words bounds committed =
    sizes_words bounds ++ extent_words bounds ++ true_bounds_words bounds ++ committed_words committed

-- both marks, or that there are none
abbrev pub marks_words : Option Marks → List (List ℕ)
marks_words None = codes "none" ∷ []
marks_words (Some marks) = signed_decimal marks.lb ∷ signed_decimal marks.ub ∷ []

-- an entry's kind and where it lies, as in `MPI_INT@-4`
abbrev pub entry_word : Entry → List ℕ
entry_word entry = name_of entry.kind ++ codes "@" ++ signed_decimal entry.disp

-- how many entries, the marks, and the entries in order
unfoldable pub map_words : Marked → List (List ℕ)
map_words m = decimal (length m.entries) ∷ codes "marks" ∷ (marks_words m.marks ++ map entry_word m.entries)

-- the name of a constructor
abbrev pub combiner_name : Combiner → List ℕ
combiner_name combiner.Named = codes "named"
combiner_name combiner.Dup = codes "dup"
combiner_name combiner.Contiguous = codes "contiguous"
combiner_name combiner.Vector = codes "vector"
combiner_name combiner.Hvector = codes "hvector"
combiner_name combiner.Indexed = codes "indexed"
combiner_name combiner.Hindexed = codes "hindexed"
combiner_name combiner.IndexedBlock = codes "indexed_block"
combiner_name combiner.HindexedBlock = codes "hindexed_block"
combiner_name combiner.Struct = codes "struct"
combiner_name combiner.Subarray = codes "subarray"
combiner_name combiner.Darray = codes "darray"
combiner_name combiner.Resized = codes "resized"

-- how many there are, behind a name
unfoldable pub number_words : List ℕ → ℕ → List (List ℕ)
number_words name n = name ∷ decimal n ∷ []

-- the constructor, and how many integers, addresses and types its arguments have
unfoldable pub envelope_words : Envelope → List (List ℕ)
envelope_words e =
    combiner_name e.combiner
    ∷ (number_words (codes "integers") e.integers
    ++ number_words (codes "addresses") e.addresses
    ++ number_words (codes "types") e.types)

-- an old type: its kind where it is basic, else its constructor in brackets, as in `<vector>`
abbrev pub old_word : FormOf Seen → List ℕ
old_word (Named kind) = name_of kind
old_word form = codes "<" ++ combiner_name (combiner_of form) ++ codes ">"

-- how many there are, behind a name, and each in order
unfoldable pub listed_words : {A : Type 0} → List ℕ → (A → List ℕ) → List A → List (List ℕ)
listed_words name word xs = number_words name (length xs) ++ map word xs

-- the integers, the addresses and the old types
unfoldable pub contents_words : ContentsOf Seen → List (List ℕ)
contents_words c =
    listed_words (codes "integers") signed_decimal c.integers
    ++ listed_words (codes "addresses") signed_decimal c.addresses
    ++ listed_words (codes "types") (λ t. old_word (form_of t)) c.types

-- what a least tree costs, where it begins, and its text
unfoldable pub tree_words : ℕ → ℤ → List ℕ → List (List ℕ)
tree_words cost base text = codes "cost" ∷ decimal cost ∷ codes "base" ∷ signed_decimal base ∷ text ∷ []

-- how many copies, where they are whole
abbrev pub copies_word : Option ℕ → List ℕ
copies_word None = codes "undefined"
copies_word (Some copies) = decimal copies

-- the copies behind their name
abbrev pub copies_words : Option ℕ → List (List ℕ)
copies_words copies = codes "copies" ∷ copies_word copies ∷ []

-- the elements and the copies among received bytes
abbrev pub counts_words : ℕ → Option ℕ → List (List ℕ)
counts_words elements copies = decimal elements ∷ copies_words copies

-- how many elements a piece completed and how many bytes of a further one are held; and how many bytes were given in all, and the
-- elements and copies among them
unfoldable pub receipt_words : Receipt → List (List ℕ)
receipt_words r =
    decimal r.completed ∷ (number_words (codes "held") r.held ++ number_words (codes "bytes") r.bytes
    ++ number_words (codes "elements") r.elements ++ copies_words r.copies)

-- how many packed bytes were passed, and how many there are
abbrev pub closed_words : ℕ → ℕ → List (List ℕ)
closed_words passed all = codes "bytes" ∷ decimal passed ∷ codes "of" ∷ decimal all ∷ []

-- how many elements were copied, and how many bytes these have
abbrev pub copied_words : ℕ → ℕ → List (List ℕ)
copied_words elements bytes = decimal elements ∷ codes "bytes" ∷ decimal bytes ∷ []

-- how many elements were reduced, and over how many ranks
abbrev pub ranks_words : ℕ → ℕ → List (List ℕ)
ranks_words elements ranks = decimal elements ∷ codes "ranks" ∷ decimal ranks ∷ []

-- the line that a reply writes
abbrev pub text_of : Reply → List ℕ
text_of Silent = []
text_of Done = codes "ok\n"
text_of (Packed bytes) = line_of (codes "bytes") (bytes_words bytes)
text_of (Shown bytes) = line_of (codes "show") (bytes_words bytes)
text_of (Told bounds committed) = line_of (codes "info") (info_words bounds committed)
text_of (Listed m) = line_of (codes "map") (map_words m)
text_of (Described envelope) = line_of (codes "envelope") (envelope_words envelope)
text_of (Contained contents) = line_of (codes "contents") (contents_words contents)
text_of (Least cost base text) = line_of (codes "tree") (tree_words cost base text)
text_of (Counted elements copies) = line_of (codes "elements") (counts_words elements copies)
text_of (Opened all) = line_of (codes "ok") (decimal all ∷ [])
text_of (Given receipt) = line_of (codes "given") (receipt_words receipt)
text_of (Closed passed all) = line_of (codes "closed") (closed_words passed all)
text_of (Copied elements bytes) = line_of (codes "copied") (copied_words elements bytes)
text_of (Wire bytes) = line_of (codes "wire") (bytes_words bytes)
text_of (Reduced elements) = line_of (codes "reduced") (decimal elements ∷ [])
text_of (ReducedAll elements ranks) = line_of (codes "reduced") (ranks_words elements ranks)
text_of (Refused refusal) = line_of (codes "refused") (decimal (number_of refusal) ∷ word_of refusal ∷ [])

-- every reply but a refusal
abbrev pub is_accepted : Reply → Bool
is_accepted (Refused refusal) = false
is_accepted _ = true

-- a reply was given: its text was appended, and whether it is no refusal was answered
pub record Gives (reply : Reply) (accepted : Bool) (old new : List ℕ) : Type 0 where
  pub text : new ≡ old ++ text_of reply
  pub answer : accepted ≡ is_accepted reply

-- some reply that is allowed was given
abbrev pub Responds : (Reply → Type 0) → Bool → List ℕ → List ℕ → Type 0
Responds allowed accepted old new = (reply : Reply) × allowed reply × Gives reply accepted old new
