-- worked examples of the definitions, which compute
use Rattle.std.proofs.Common.{◌≡◌, ℤ, pos, negsuc, Some, None, [], ◌∷◌, refl}
use Rattle.dt_kinds.specs.declared.kind.Kind.TheVariants.{Byte, Int, Long}
use Rattle.dt_kinds.specs.declared.kind.Rep.TheVariants.{Native, External32}
use Rattle.dt_kinds.specs.Image.{image, restore}
use Rattle.dt_map.specs.declared.entry.Entry.{Entry}
use Rattle.dt_map.specs.Typemap.{Marked}
use Rattle.dt_map.specs.Bounds.{bounds_of}
use Rattle.dt_map.specs.Constructors.{copies_at}
use Rattle.dt_map.specs.Elements.{elements}
use Rattle.dt_map.specs.Placing.{place}
use Rattle.dt_map.specs.Counts.{received_elements, received_copies}
use Rattle.dt_map.specs.Setting.{set}

abbrev int_at : ℤ → Entry
int_at x = record { kind = Int; disp = x }

abbrev byte_at : ℤ → Entry
byte_at x = record { kind = Byte; disp = x }

abbrev int : Marked
int = record { entries = int_at (pos 0) ∷ []; marks = None }

abbrev empty : Marked
empty = record { entries = []; marks = None }

-- an integer and a byte behind it: 5 bytes, and an extent of 8
rounded : bounds_of (record { entries = int_at (pos 0) ∷ byte_at (pos 4) ∷ []; marks = None })
    ≡ record { size = 5; ext_size = 5; elements = 2; align = 4; true_lb = pos 0; true_ub = pos 5; lb = pos 0; ub = pos 8 }
rounded = refl

-- a byte at -1 and an integer at 4: from -1 to 8 there are 9 bytes, so the upper bound is 11 and the extent 12
rounded_from_below : bounds_of (record { entries = byte_at (negsuc 0) ∷ int_at (pos 4) ∷ []; marks = None })
    ≡ record { size = 5; ext_size = 5; elements = 2; align = 4; true_lb = negsuc 0; true_ub = pos 8; lb = negsuc 0; ub = pos 11 }
rounded_from_below = refl

-- a part with marks and one without: the marks of the one are those of both
marks_win : bounds_of (place ((pos 0, record { entries = int_at (pos 0) ∷ []; marks = Some (record { lb = pos 0; ub = pos 4 }) }) ∷ (pos 100, int) ∷ []))
    ≡ record { size = 8; ext_size = 8; elements = 2; align = 4; true_lb = pos 0; true_ub = pos 104; lb = pos 0; ub = pos 4 }
marks_win = refl

-- a column of a matrix of integers: four places 16 bytes apart, and the marks of the whole matrix
column : bounds_of (record { entries = (copies_at (pos 4 ∷ pos 20 ∷ pos 36 ∷ pos 52 ∷ []) int).entries; marks = Some (record { lb = pos 0; ub = pos 64 }) })
    ≡ record { size = 16; ext_size = 16; elements = 4; align = 4; true_lb = pos 4; true_ub = pos 56; lb = pos 0; ub = pos 64 }
column = refl

-- a stride down and an operation on two copies
stepped_down : elements (copies_at (pos 0 ∷ negsuc 3 ∷ []) int) 2 (pos 4) ≡ int_at (pos 4) ∷ int_at (pos 0) ∷ int_at (pos 12) ∷ int_at (pos 8) ∷ []
stepped_down = refl

-- no entries, without marks and with them
nothing_held : bounds_of empty ≡ record { size = 0; ext_size = 0; elements = 0; align = 1; true_lb = pos 0; true_ub = pos 0; lb = pos 0; ub = pos 0 }
nothing_held = refl

nothing_but_marks : bounds_of (record { entries = []; marks = Some (record { lb = pos 0; ub = pos 5 }) })
    ≡ record { size = 0; ext_size = 0; elements = 0; align = 1; true_lb = pos 0; true_ub = pos 0; lb = pos 0; ub = pos 5 }
nothing_but_marks = refl

-- twelve bytes received for pairs of integers: three elements, and no whole number of pairs
abbrev pair : Marked
pair = record { entries = int_at (pos 0) ∷ int_at (pos 4) ∷ []; marks = None }

partial_elements : received_elements Native pair 12 ≡ 3
partial_elements = refl

partial_copies : received_copies Native pair 12 ≡ None
partial_copies = refl

whole_pair : received_copies Native pair 8 ≡ Some 1
whole_pair = refl

-- received bytes for nothing held
no_elements : received_elements Native empty 4 ≡ 0
no_elements = refl

no_bytes : received_copies Native empty 0 ≡ Some 0
no_bytes = refl

too_many_bytes : received_copies Native empty 4 ≡ None
too_many_bytes = refl

-- a long of 8 bytes keeps 4 of them in external32, and is filled up by its sign
long_image : image External32 Long (254 ∷ 255 ∷ 255 ∷ 255 ∷ 255 ∷ 255 ∷ 255 ∷ 255 ∷ []) ≡ 255 ∷ 255 ∷ 255 ∷ 254 ∷ []
long_image = refl

long_restored : restore External32 Long (255 ∷ 255 ∷ 255 ∷ 254 ∷ []) ≡ 254 ∷ 255 ∷ 255 ∷ 255 ∷ 255 ∷ 255 ∷ 255 ∷ 255 ∷ []
long_restored = refl

-- two bytes of three are set, the second of them first
set_two : set Native (byte_at (pos 2) ∷ byte_at (pos 0) ∷ byte_at (pos 1) ∷ []) (7 ∷ 7 ∷ 7 ∷ []) 0 2 (1 ∷ 2 ∷ 9 ∷ []) ≡ 2 ∷ 7 ∷ 1 ∷ []
set_two = refl
