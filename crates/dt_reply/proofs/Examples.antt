-- worked lines, which compute
use Rattle.std.proofs.Common.{◌≡◌, ℤ, pos, negsuc, false, Some, None, [], ◌∷◌, codes, refl}
use denote.Hole.Carrier.{out, roll}
use Rattle.std.specs.Fmt.{digits}
use Rattle.hex.specs.Hex.{encode_with}
use Rattle.dt_kinds.specs.declared.kind.Kind.TheVariants.{Byte, Int}
use Rattle.dt_map.specs.declared.entry.Entry.{Entry}
use Rattle.dt_map.specs.Bounds.{bounds_of}
use Rattle.dt_map.specs.Typemap.{Marked}
use Rattle.dt_type.specs.declared.datatype.Seen.{Seen, out-Seen, roll-Seen}
use Rattle.dt_form.specs.declared.form.FormOf.TheVariants.{Named, Vector, HindexedBlock, Resized}
use Rattle.dt_form.specs.Contents.{contents_of, envelope_of}
use Rattle.dt_type.specs.Form.{result_of}
use Rattle.dt_reply.specs.declared.refusal.Refusal.TheVariants.{TooHeavy, SignatureDiffers}
use Rattle.dt_reply.specs.Reply.{text_of, line_of, info_words, sizes_words, extent_words, true_bounds_words, map_words, envelope_words, number_words, contents_words, listed_words, tree_words, receipt_words}
use Rattle.dt_reply.specs.declared.reply.Reply.TheVariants.{Packed, Shown, Told, Listed, Described, Contained, Least, Counted, Opened, Given, Closed, Copied, Wire, Reduced, ReducedAll, Refused}

abbrev int_at : ℤ → Entry
int_at x = record { kind = Int; disp = x }

abbrev byte_at : ℤ → Entry
byte_at x = record { kind = Byte; disp = x }

-- an integer and a byte behind it
abbrev rounded : Marked
rounded = record { entries = int_at (pos 0) ∷ byte_at (pos 4) ∷ []; marks = None }

info : text_of (Told (bounds_of rounded) false)
    ≡ codes "info size 5 ext 5 elements 2 align 4 lb 0 ub 8 extent 8 true_lb 0 true_ub 5 committed no\n"
unfolding digits line_of info_words sizes_words extent_words true_bounds_words
info = refl

-- two integers, and marks about the first
listed : text_of (Listed (record { entries = int_at (pos 0) ∷ int_at (pos 100) ∷ []; marks = Some (record { lb = pos 0; ub = pos 4 }) }))
    ≡ codes "map 2 marks 0 4 MPI_INT@0 MPI_INT@100\n"
unfolding digits line_of map_words
listed = refl

-- below the origin, without marks
listed_from_below : text_of (Listed (record { entries = byte_at (negsuc 11) ∷ []; marks = None })) ≡ codes "map 1 marks none MPI_BYTE@-12\n"
unfolding digits line_of map_words
listed_from_below = refl

nothing_but_marks : text_of (Listed (record { entries = []; marks = Some (record { lb = pos 0; ub = pos 5 }) })) ≡ codes "map 0 marks 0 5\n"
unfolding digits line_of map_words
nothing_but_marks = refl

packed : text_of (Packed (0 ∷ 1 ∷ 2 ∷ 3 ∷ 8 ∷ 9 ∷ 10 ∷ 11 ∷ [])) ≡ codes "bytes 8 0001020308090a0b\n"
unfolding digits encode_with line_of
packed = refl

no_bytes : text_of (Shown []) ≡ codes "show 0 -\n"
unfolding digits line_of
no_bytes = refl

refused : text_of (Refused TooHeavy) ≡ codes "refused 12 too heavy\n"
unfolding digits line_of
refused = refl

refused_copy : text_of (Refused SignatureDiffers) ≡ codes "refused 20 signature differs\n"
unfolding digits line_of
refused_copy = refl

-- a tree from 4 bytes below the origin on
least : text_of (Least 4 (negsuc 3) (codes "vector 3 1 8 leaf MPI_INT")) ≡ codes "tree cost 4 base -4 vector 3 1 8 leaf MPI_INT\n"
unfolding digits line_of tree_words
least = refl

-- a cut element, and copies that aren't whole
counted : text_of (Counted 2 (Some 1)) ≡ codes "elements 2 copies 1\n"
unfolding digits line_of
counted = refl

counted_cut : text_of (Counted 0 None) ≡ codes "elements 0 copies undefined\n"
unfolding digits line_of
counted_cut = refl

given : text_of (Given (record { completed = 1; held = 2; bytes = 6; elements = 3; copies = None })) ≡ codes "given 1 held 2 bytes 6 elements 3 copies undefined\n"
unfolding digits line_of receipt_words number_words
given = refl

closed : text_of (Closed 3 8) ≡ codes "closed bytes 3 of 8\n"
unfolding digits line_of
closed = refl

opened : text_of (Opened 16) ≡ codes "ok 16\n"
unfolding digits line_of
opened = refl

copied : text_of (Copied 2 8) ≡ codes "copied 2 bytes 8\n"
unfolding digits line_of
copied = refl

-- the type MPI_INT
spelled : text_of (Wire (100 ∷ 116 ∷ 119 ∷ 49 ∷ 0 ∷ 6 ∷ [])) ≡ codes "wire 6 647477310006\n"
unfolding digits encode_with line_of
spelled = refl

reduced : text_of (Reduced 2) ≡ codes "reduced 2\n"
unfolding digits line_of
reduced = refl

reduced_all : text_of (ReducedAll 1 3) ≡ codes "reduced 1 ranks 3\n"
unfolding digits line_of
reduced_all = refl

abbrev int : Seen
int = result_of (Named Int)

-- integers at 4, 20, 36 and 52
abbrev scattered : Seen
scattered = result_of (HindexedBlock (pos 1) (pos 4 ∷ pos 20 ∷ pos 36 ∷ pos 52 ∷ []) int)

-- three integers, no address and one old type
described : text_of (Described (envelope_of (Vector (pos 2) (pos 1) (pos 2) int))) ≡ codes "envelope vector integers 3 addresses 0 types 1\n"
unfolding digits line_of envelope_words number_words
described = refl

-- the old type is basic
contained : text_of (Contained (contents_of (Vector (pos 2) (pos 1) (pos 2) int))) ≡ codes "contents integers 3 2 1 2 addresses 0 types 1 MPI_INT\n"
unfolding digits out-Seen out roll-Seen roll line_of contents_words listed_words number_words
contained = refl

-- the old type isn't basic
contained_of_made : text_of (Contained (contents_of (Resized (pos 0) (pos 64) scattered))) ≡ codes "contents integers 0 addresses 2 0 64 types 1 <hindexed_block>\n"
unfolding digits out-Seen out roll-Seen roll line_of contents_words listed_words number_words
contained_of_made = refl
