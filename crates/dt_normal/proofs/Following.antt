-- tidy trees of short typemaps follow the rule of programs' trees
use Rattle.std.proofs.Common.{◌≡◌, inl, inr, ℕ, zero, suc, ◌+◌, ◌*◌, ◌^◌, ◌≤◌, ◌<◌, Bool, true, ◌&&◌, nat_le, ℤ, pos, negsuc, nat_abs, ◌+ℤ◌, ◌-ℤ◌, ◌*ℤ◌, Option, Some, None, List, [], ◌∷◌, length, drop, refl, sym, ap, ◌∙◌, subst, arith, length-append}
use Rattle.std.proofs.lemmas.Bool.{cases_lt, le-leb}
use Rattle.std.proofs.lemmas.Int.{ints}
use Rattle.std.proofs.lemmas.List.Elements.{All-get_or, All-take, All-drop}
use Rattle.std.specs.List.{All, list_all}
use Rattle.dt_kinds.specs.Displacement.{FitsDisp}
use Rattle.dt_map.specs.declared.entry.Entry.{Entry}
use Rattle.dt_offsets.specs.declared.marks.Marks.{Marks}
use Rattle.dt_offsets.specs.Span.{shift_marks}
use Rattle.dt_map.specs.Bounds.{true_lb, true_ub}
use Rattle.dt_map.specs.Limits.{EntryFits}
use Rattle.dt_map.specs.Runs.{placed_at, even, run}
use Rattle.dt_map.specs.Span.{span_of}
use Rattle.dt_map.specs.Summary.{ends_or_zero}
use Rattle.dt_map.specs.Typemap.{shift}
use Rattle.dt_map.specs.Alike.{first_disp}
use Rattle.dt_map.proofs.Extremes.{true_lb-fits, true_ub-fits}
use Rattle.dt_map.proofs.Summaries.{length-shift, span_of-shift, true_lb_is, true_ub_is}
use Rattle.dt_map.proofs.Seats.{Sits, sits_segment, sits_inside, sits_first, sits_second, sits_shifted, sits_copy, length-even, length-run, get_or-even}
use Rattle.dt_alike.specs.Step.{entry_at}
use Rattle.dt_tree.specs.Rule.{is_count, is_step, part_count, numbers_fit, parts_fit, depth_of, depth_of_parts, words_of, words_of_parts, IsShort, AreShort, PartsShort, FollowsRule}
use Rattle.dt_tree.specs.Tidy.{IsGroup, IsTidy, AreTidy}
use Rattle.dt_tree.specs.Tree.{Tree, leaf, vector, index, group, Parts, no_parts, part, flat, flat_parts, has_part, IsTree, AreTrees}
use Rattle.dt_tree.proofs.Rules.{short_subtrees}
use Rattle.dt_tree.proofs.Subtrees.{places_an_entry, run-pos, parts_place, part_block, length-blocks}
use Rattle.dt_tree.proofs.Tidying.{tidy_begins_at_zero}
use Rattle.dt_normal.proofs.Building.{disp_of}
use Rattle.dt_normal.proofs.Standing.{run_one, one_place}
use Rattle.dt_normal.proofs.Lower.{first_copy, first_place as first_of_places}

-- sizes: each node of a tidy tree places two copies or more, so that it has few nodes
times_two : (a b : ℕ) → 2 ≤ a → 2 * b ≤ a * b
times_two zero b le = absurd (omega arith)
times_two (suc zero) b le = absurd (omega arith)
times_two (suc (suc n)) b le = omega arith

times_some : (a b : ℕ) → 1 ≤ a → b ≤ a * b
times_some zero b le = absurd (omega arith)
times_some (suc n) b le = omega arith

assoc : (a b c : ℕ) → a * (b * c) ≡ a * b * c
assoc a b c = omega arith

-- how many entries a node over blocks places
placed_length : (places : List ℤ) (block : ℕ) (child : Tree) → length (placed_at places (run block (flat child))) ≡ length places * block * length (flat child)
placed_length places block child = length-blocks places block (flat child) ∙ assoc (length places) block (length (flat child))

vector_length : (count block : ℕ) (stride : ℤ) (child : Tree) → length (flat (vector count block stride child)) ≡ count * block * length (flat child)
vector_length count block stride child =
    placed_length (even count stride) block child ∙ ap (λ n. n * block * length (flat child)) (length-even count stride)

part_length : (block : ℕ) (disp : ℤ) (child : Tree) (rest : Parts) → length (flat_parts (part block disp child rest)) ≡ block * length (flat child) + length (flat_parts rest)
part_length block disp child rest = omega (arith, length-append (shift disp (run block (flat child))) (flat_parts rest), length-shift disp (run block (flat child)), length-run block (flat child))

pub index_words : (p b c w : ℕ) → 1 ≤ p → 1 ≤ b → 2 ≤ p * b → 1 ≤ c → w + 3 ≤ 4 * c → 1 + p + w + 3 ≤ 4 * (p * b * c)
index_words zero b c w one block two some le = absurd (omega arith)
index_words (suc zero) b c w one block two some le =
    let twice = times_two (1 * b) c two in
    omega (arith, twice)
index_words (suc (suc p)) zero c w one block two some le = absurd (omega arith)
index_words (suc (suc p)) (suc b) c w one block two some le =
    let at_least : suc (suc p) * c ≤ suc (suc p) * suc b * c = grow (suc (suc p)) b c in
    omega (arith, at_least, wide p c some)
  where
    grow : (a b c : ℕ) → a * c ≤ a * suc b * c
    grow a b c = omega (arith, assoc a (suc b) c, more a c (suc b * c) (omega arith))
      where
        more : (a x y : ℕ) → x ≤ y → a * x ≤ a * y
        more zero x y le = omega arith
        more (suc a) x y le = omega (arith, le, more a x y le)

    wide : (p c : ℕ) → 1 ≤ c → 1 + suc (suc p) + 4 * c ≤ 4 * (suc (suc p) * c)
    wide p zero some = absurd (omega arith)
    wide p (suc c) some = omega arith

mutual
  words_few : (tree : Tree) → IsTree tree → IsTidy tree → words_of tree + 3 ≤ 4 * length (flat tree)
  words_few (leaf kind) is tidy = omega arith
  words_few (vector count block stride child) is tidy =
      let below = words_few child is.2 tidy.2 in
      omega (arith, below, vector_length count block stride child, times_two (count * block) (length (flat child)) tidy.0, places_an_entry child is.2)
  words_few (index block places child) is tidy =
      let below = words_few child is.2 tidy.2 in
      omega (arith, index_words (length places) block (length (flat child)) (words_of child) is.1 is.0 tidy.0 (places_an_entry child is.2) below, placed_length places block child)
  words_few (group no_parts) is tidy = absurd is.0
  words_few (group (part block disp child no_parts)) is tidy =
      let below = words_few child is.1.1 tidy.2.1 in
      omega (arith, below, part_length block disp child no_parts, times_two block (length (flat child)) tidy.0, places_an_entry child is.1.1)
  words_few (group (part block disp child (part b d c rest))) is tidy =
      omega (arith, parts_words (part block disp child (part b d c rest)) is.1 tidy.2)

  parts_words : (parts : Parts) → AreTrees parts → AreTidy parts → words_of_parts parts + 2 * part_count parts ≤ 4 * length (flat_parts parts)
  parts_words no_parts are tidy = omega arith
  parts_words (part block disp child rest) are tidy =
      let below = words_few child are.1 tidy.1 in
      let more = parts_words rest are.2 tidy.2 in
      omega (arith, below, more, part_length block disp child rest, times_some block (length (flat child)) are.0)

-- depth
half : (a b k : ℕ) → 2 * a ≤ b → b ≤ 2 * k → a ≤ k
half a b k le most = omega arith

power_more : (k : ℕ) → 2 ^ suc k ≡ 2 * 2 ^ k
power_more k = omega arith

abbrev IsDeep : Tree → ℕ → Type 0
IsDeep tree k = (depth_of tree ≤ 2 * k + 2) × ((IsGroup tree → ⊥) → depth_of tree ≤ 2 * k + 1)

-- half of the entries are left
halved : (child n k : ℕ) → 2 * child ≤ n → n ≤ 2 ^ suc k → child ≤ 2 ^ k
halved child n k le most = half child n (2 ^ k) le (omega (arith, most, power_more k))

mutual
  deep : (tree : Tree) → IsTree tree → IsTidy tree → (k : ℕ) → length (flat tree) ≤ 2 ^ k → IsDeep tree k
  deep (leaf kind) is tidy k most = (omega arith, λ plain. omega arith)
  deep (vector count block stride child) is tidy zero most =
      absurd (omega (arith, most, vector_length count block stride child, times_two (count * block) (length (flat child)) tidy.0, places_an_entry child is.2))
  deep (vector count block stride child) is tidy (suc k) most =
      let twice : 2 * length (flat child) ≤ length (flat (vector count block stride child)) = omega (arith, vector_length count block stride child, times_two (count * block) (length (flat child)) tidy.0) in
      let below = (deep child is.2 tidy.2 k (halved (length (flat child)) (length (flat (vector count block stride child))) k twice most)).0 in
      (omega (arith, below), λ plain. omega (arith, below))
  deep (index block places child) is tidy zero most =
      absurd (omega (arith, most, placed_length places block child, times_two (length places * block) (length (flat child)) tidy.0, places_an_entry child is.2))
  deep (index block places child) is tidy (suc k) most =
      let twice : 2 * length (flat child) ≤ length (flat (index block places child)) = omega (arith, placed_length places block child, times_two (length places * block) (length (flat child)) tidy.0) in
      let below = (deep child is.2 tidy.2 k (halved (length (flat child)) (length (flat (index block places child))) k twice most)).0 in
      (omega (arith, below), λ plain. omega (arith, below))
  deep (group parts) is tidy k most = let below = parts_deep parts is.1 tidy.2 k most in (omega (arith, below), λ plain. absurd (plain tt))

  parts_deep : (parts : Parts) → AreTrees parts → AreTidy parts → (k : ℕ) → length (flat_parts parts) ≤ 2 ^ k → depth_of_parts parts ≤ 2 * k + 1
  parts_deep no_parts are tidy k most = omega arith
  parts_deep (part zero disp child rest) are tidy k most = absurd (omega (arith, are.0))
  parts_deep (part (suc zero) disp child rest) are tidy k most =
      let rests = parts_deep rest are.2 tidy.2 k (omega (arith, most, part_length 1 disp child rest)) in
      let below = (deep child are.1 tidy.1 k (omega (arith, most, part_length 1 disp child rest))).1 (tidy.0 refl) in
      omega (arith, below, rests)
  parts_deep (part (suc (suc b)) disp child rest) are tidy zero most =
      absurd (omega (arith, most, part_length (suc (suc b)) disp child rest, times_two (suc (suc b)) (length (flat child)) (omega arith), places_an_entry child are.1))
  parts_deep (part (suc (suc b)) disp child rest) are tidy (suc k) most =
      let rests = parts_deep rest are.2 tidy.2 (suc k) (omega (arith, most, part_length (suc (suc b)) disp child rest)) in
      let twice : 2 * length (flat child) ≤ length (flat_parts (part (suc (suc b)) disp child rest)) = omega (arith, part_length (suc (suc b)) disp child rest, times_two (suc (suc b)) (length (flat child)) (omega arith)) in
      let below = (deep child are.1 tidy.1 k (halved (length (flat child)) (length (flat_parts (part (suc (suc b)) disp child rest))) k twice most)).0 in
      omega (arith, below, rests)

-- displacements: each step is the difference of two
entry_fits : (m : List Entry) (i : ℕ) → All EntryFits m → i < length m → nat_abs (entry_at m i).disp ≤ 1152921504606846976
entry_fits m i all lt = let fits = (All-get_or EntryFits m i (entry_at [] 0) lt all).0 in omega (arith, ints, fits)

apart : (m : List Entry) (i j : ℕ) → All EntryFits m → i < length m → j < length m → nat_abs ((entry_at m i).disp -ℤ (entry_at m j).disp) ≤ 2305843009213693952
apart m i j all one two = omega (arith, ints, entry_fits m i all one, entry_fits m j all two)

-- where tidy entries sit
seat : (m : List Entry) (y : ℤ) (es : List Entry) (i : ℕ) → Sits m y es i → 0 < length es → first_disp es ≡ pos 0 → y ≡ (entry_at m i).disp
seat m y [] i sits some zero_at = absurd (omega arith)
seat m y (e ∷ es) i sits some zero_at =
    let begins : i < length m = omega (arith, sits_inside sits) in
    let same = sym (disp_of m i (length (e ∷ es)) (omega arith) begins) ∙ ap first_disp (sits_segment sits) in
    back (entry_at m i).disp e.disp same zero_at
  where
    back : (d f : ℤ) → d ≡ f +ℤ y → f ≡ pos 0 → y ≡ d
    back d f e g = omega (arith, ints, e, g)

step_fits : (x : ℤ) → nat_abs x ≤ 2305843009213693952 → is_step x ≡ true
step_fits x le = le-leb (nat_abs x) 2305843009213693952 le

count_fits : (n : ℕ) → 1 ≤ n → n ≤ 1024 → is_count n ≡ true
count_fits n some few = ap (λ b. b && nat_le n 1024) (le-leb 1 n some) ∙ le-leb n 1024 few

both : (a b : Bool) → a ≡ true → b ≡ true → (a && b) ≡ true
both a b e f = ap (λ c. c && b) e ∙ f

-- a distance between a place and a base, both displacements of entries
between_entries : (m : List Entry) (y x : ℤ) (i j : ℕ) → All EntryFits m → i < length m → j < length m → y ≡ (entry_at m i).disp → x +ℤ y ≡ (entry_at m j).disp → is_step x ≡ true
between_entries m y x i j all one two base there =
    step_fits x (by x y (entry_at m j).disp (entry_at m i).disp base there (apart m j i all two one))
  where
    by : (x y d e : ℤ) → y ≡ e → x +ℤ y ≡ d → nat_abs (d -ℤ e) ≤ 2305843009213693952 → nat_abs x ≤ 2305843009213693952
    by x y d e f g near = omega (arith, ints, f, g, near)

-- blocks of copies begin where their first copy does
run_zero : (block : ℕ) (child : Tree) → 0 < block → IsTree child → IsTidy child → first_disp (run block (flat child)) ≡ pos 0
run_zero zero child some is tidy = absurd (omega arith)
run_zero (suc zero) child some is tidy = ap first_disp (run_one (flat child)) ∙ tidy_begins_at_zero child is tidy
run_zero (suc (suc b)) child some is tidy =
    ap first_disp (sym (one_place (run (suc (suc b)) (flat child))))
    ∙ tidy_begins_at_zero (group (part (suc (suc b)) (pos 0) child no_parts)) (tt, (omega arith, is, tt)) (omega arith, refl, ((λ one. absurd (omega (arith, one))), tidy, tt))

places_fit : (m : List Entry) (y : ℤ) (i from : ℕ) (es : List Entry) → All EntryFits m → i < length m → y ≡ (entry_at m i).disp → 0 < length es → first_disp es ≡ pos 0
    → (places : List ℤ) → Sits m y (placed_at places es) from → list_all is_step places ≡ true
places_fit m y i from es all inside base some zero_at [] sits = refl
places_fit m y i from es all inside base some zero_at (x ∷ places) sits =
    let here = sits_shifted x es (sits_first (shift x es) (placed_at places es) sits) in
    let there = seat m (x +ℤ y) es from here some zero_at in
    let after = sits_second (shift x es) (placed_at places es) sits in
    both (is_step x) (list_all is_step places) (between_entries m y x i from all inside (omega (arith, some, sits_inside here)) base there)
    (places_fit m y i (from + length (shift x es)) es all inside base some zero_at places after)

-- true bounds
short_end : (span : Option Marks) (a b y : ℤ) → a ≡ (ends_or_zero span).lb → b ≡ (ends_or_zero (shift_marks y span)).lb → FitsDisp b → nat_abs y ≤ 1152921504606846976
    → nat_abs a ≤ 1208925819614629174706176
short_end None a b y is moved fits near = omega (arith, ints, is)
short_end (Some s) a b y is moved fits near =
    let b_near : nat_abs b ≤ 1152921504606846976 = omega (arith, ints, fits) in
    omega (arith, ints, is, moved, b_near, near)

short_top : (span : Option Marks) (a b y : ℤ) → a ≡ (ends_or_zero span).ub → b ≡ (ends_or_zero (shift_marks y span)).ub → FitsDisp b → nat_abs y ≤ 1152921504606846976
    → nat_abs a ≤ 1208925819614629174706176
short_top None a b y is moved fits near = omega (arith, ints, is)
short_top (Some s) a b y is moved fits near =
    let b_near : nat_abs b ≤ 1152921504606846976 = omega (arith, ints, fits) in
    omega (arith, ints, is, moved, b_near, near)

short_of : (y : ℤ) (es : List Entry) → All EntryFits (shift y es) → nat_abs y ≤ 1152921504606846976 → IsShort es
short_of y es all near = record {
  from = short_end (span_of es) (true_lb es) (true_lb (shift y es)) y (true_lb_is es) (true_lb_is (shift y es) ∙ ap (λ s. (ends_or_zero s).lb) (span_of-shift y es)) (true_lb-fits (shift y es) all) near;
  to = short_top (span_of es) (true_ub es) (true_ub (shift y es)) y (true_ub_is es) (true_ub_is (shift y es) ∙ ap (λ s. (ends_or_zero s).ub) (span_of-shift y es)) (true_ub-fits (shift y es) all) near;
}

tree_short : (m : List Entry) → All EntryFits m → (tree : Tree) → IsTree tree → IsTidy tree → (y : ℤ) (i : ℕ) → Sits m y (flat tree) i → IsShort (flat tree)
tree_short m all tree is tidy y i sits =
    let some = places_an_entry tree is in
    let base = seat m y (flat tree) i sits some (tidy_begins_at_zero tree is tidy) in
    let near = entry_fits m i all (omega (arith, some, sits_inside sits)) in
    let part = All-take EntryFits (length (flat tree)) (drop i m) (All-drop EntryFits i m all) in
    short_of y (flat tree) (subst (All EntryFits) (sits_segment sits) part) (subst (λ z. nat_abs z ≤ 1152921504606846976) (sym base) near)

-- factors of a number of entries
product_le : (a b c : ℕ) → 1 ≤ a → 1 ≤ b → 1 ≤ c → (a ≤ a * b * c) × (b ≤ a * b * c)
product_le a b c one two three =
    let whole = times_some (b * c) a (times_pos b c two three) in
    (omega (arith, assoc a b c, turned a (b * c), whole), omega (arith, times_some (a * c) b (times_pos a c one three), swap a b c))
  where
    times_pos : (x y : ℕ) → 1 ≤ x → 1 ≤ y → 1 ≤ x * y
    times_pos zero y p q = absurd (omega arith)
    times_pos (suc x) y p q = omega (arith, q)

    turned : (x y : ℕ) → x * y ≡ y * x
    turned x y = omega arith

    swap : (x y z : ℕ) → x * y * z ≡ x * z * y
    swap x y z = omega arith

factor : (a b : ℕ) → 0 < b → a ≤ a * b
factor a zero some = absurd (omega arith)
factor a (suc b) some = omega arith

some_parts : (parts : Parts) → has_part parts → 1 ≤ part_count parts
some_parts no_parts has = absurd has
some_parts (part block disp child rest) has = omega arith

parts_few : (parts : Parts) → AreTrees parts → part_count parts ≤ length (flat_parts parts)
parts_few no_parts are = omega arith
parts_few (part block disp child rest) are =
    omega (arith, parts_few rest are.2, part_length block disp child rest, times_some block (length (flat child)) are.0, places_an_entry child are.1)

stride_fits : (m : List Entry) → All EntryFits m → (count block : ℕ) (stride : ℤ) (child : Tree) → IsTree (vector count block stride child) → IsTidy (vector count block stride child)
    → (y : ℤ) (i : ℕ) → Sits m y (flat (vector count block stride child)) i → is_step stride ≡ true
stride_fits m all count block stride child is tidy y i sits =
    elim (cases_lt 1 count) [
      | inl many ↦
          let es = run block (flat child) in
          let held = run-pos block (flat child) is.1 (places_an_entry child is.2) in
          let second = sits_copy m y (even count stride) es i 1 sits (omega (arith, many, length-even count stride)) in
          let there = seat m _ es (i + 1 * length es) second held (run_zero block child is.1 is.2 tidy.2) in
          let step = get_or-even count stride 1 many ∙ once stride in
          let base = seat m y (flat (vector count block stride child)) i sits (places_an_entry (vector count block stride child) is) (tidy_begins_at_zero (vector count block stride child) is tidy) in
          between_entries m y stride i (i + 1 * length es) all (omega (arith, sits_inside sits, places_an_entry (vector count block stride child) is)) (omega (arith, held, sits_inside second)) base
          (ap (λ z. z +ℤ y) (sym step) ∙ there)
      | inr one ↦
          let single : count ≡ 1 = omega (arith, is.0) in
          subst (λ z. is_step z ≡ true) (sym (tidy.1 single)) refl
    ]
  where
    once : (s : ℤ) → pos 1 *ℤ s ≡ s
    once (pos s) = omega (arith, ints)
    once (negsuc s) = omega (arith, ints)

mutual
  fits : (m : List Entry) → All EntryFits m → length m ≤ 1024 → (tree : Tree) → IsTree tree → IsTidy tree → (y : ℤ) (i : ℕ) → Sits m y (flat tree) i
      → (numbers_fit tree ≡ true) × AreShort tree
  fits m all few (leaf kind) is tidy y i sits = (refl, tt)
  fits m all few (vector count block stride child) is tidy y i sits =
      let es = run block (flat child) in
      let short = tree_short m all (vector count block stride child) is tidy y i sits in
      let first = first_of_places m y i (even count stride) es sits (omega (arith, is.0, length-even count stride)) in
      let copy = first_copy m first.0 i block (flat child) first.1 is.1 in
      let below = fits m all few child is.2 tidy.2 copy.0 i copy.1 in
      let long = product_le count block (length (flat child)) is.0 is.1 (places_an_entry child is.2) in
      let inside : count * block * length (flat child) ≤ 1024 = omega (arith, few, sits_inside sits, vector_length count block stride child) in (
        both (is_count count) (is_count block && (is_step stride && numbers_fit child)) (count_fits count is.0 (omega (arith, long.0, inside)))
            (both (is_count block) (is_step stride && numbers_fit child) (count_fits block is.1 (omega (arith, long.1, inside)))
            (both (is_step stride) (numbers_fit child) (stride_fits m all count block stride child is tidy y i sits) below.0)),
        (short, below.1),
      )
  fits m all few (index block places child) is tidy y i sits =
      let es = run block (flat child) in
      let short = tree_short m all (index block places child) is tidy y i sits in
      let first = first_of_places m y i places es sits is.1 in
      let copy = first_copy m first.0 i block (flat child) first.1 is.0 in
      let below = fits m all few child is.2 tidy.2 copy.0 i copy.1 in
      let long = product_le (length places) block (length (flat child)) is.1 is.0 (places_an_entry child is.2) in
      let inside : length places * block * length (flat child) ≤ 1024 = omega (arith, few, sits_inside sits, placed_length places block child) in
      let held = run-pos block (flat child) is.0 (places_an_entry child is.2) in
      let base = seat m y (flat (index block places child)) i sits (places_an_entry (index block places child) is) (tidy_begins_at_zero (index block places child) is tidy) in
      let begins : i < length m = omega (arith, sits_inside sits, places_an_entry (index block places child) is) in (
        both (is_count block) (is_count (length places) && (list_all is_step places && numbers_fit child)) (count_fits block is.0 (omega (arith, long.1, inside)))
            (both (is_count (length places)) (list_all is_step places && numbers_fit child) (count_fits (length places) is.1 (omega (arith, long.0, inside)))
            (both (list_all is_step places) (numbers_fit child) (places_fit m y i i es all begins base held (run_zero block child is.0 is.2 tidy.2) places sits) below.0)),
        (short, below.1),
      )
  fits m all few (group parts) is tidy y i sits =
      let short = tree_short m all (group parts) is tidy y i sits in
      let base = seat m y (flat_parts parts) i sits (parts_place parts is.0 is.1) (tidy_begins_at_zero (group parts) is tidy) in
      let begins : i < length m = omega (arith, sits_inside sits, parts_place parts is.0 is.1) in
      let below = all_fit m all few parts is.1 tidy.2 y i i begins base sits in
      (both (is_count (part_count parts)) (parts_fit parts) (count_fits (part_count parts) (some_parts parts is.0) (omega (arith, few, sits_inside sits, parts_few parts is.1))) below.0, (short, below.1))

  all_fit : (m : List Entry) → All EntryFits m → length m ≤ 1024 → (parts : Parts) → AreTrees parts → AreTidy parts → (y : ℤ) (i from : ℕ) → i < length m → y ≡ (entry_at m i).disp
      → Sits m y (flat_parts parts) from → (parts_fit parts ≡ true) × PartsShort parts
  all_fit m all few no_parts are tidy y i from begins base sits = (refl, tt)
  all_fit m all few (part block disp child rest) are tidy y i from begins base sits =
      let es = run block (flat child) in
      let here = part_block m y from block disp child rest sits in
      let held = run-pos block (flat child) are.0 (places_an_entry child are.1) in
      let there = seat m (disp +ℤ y) es from here held (run_zero block child are.0 are.1 tidy.1) in
      let copy = first_copy m (disp +ℤ y) from block (flat child) here are.0 in
      let below = fits m all few child are.1 tidy.1 copy.0 from copy.1 in
      let rests = all_fit m all few rest are.2 tidy.2 y i (from + length (shift disp es)) begins base (sits_second (shift disp es) (flat_parts rest) sits) in
      let within : block ≤ 1024 = omega (arith, few, sits_inside here, length-run block (flat child), factor block (length (flat child)) (places_an_entry child are.1)) in (
        both (is_count block) (is_step disp && (numbers_fit child && parts_fit rest)) (count_fits block are.0 within)
            (both (is_step disp) (numbers_fit child && parts_fit rest) (between_entries m y disp i from all begins (omega (arith, held, sits_inside here)) base there)
            (both (numbers_fit child) (parts_fit rest) below.0 rests.0)),
        (below.1, rests.1),
      )

pub tidy_follows : (m : List Entry) (tree : Tree) (y : ℤ) → All EntryFits m → length m ≤ 1024 → IsTree tree → IsTidy tree → Sits m y (flat tree) 0 → FollowsRule tree
tidy_follows m tree y all few is tidy sits =
    let both_of = fits m all few tree is tidy y 0 sits in
    let long = sits_inside sits in
    record {
      numbers = both_of.0;
      shallow = let h = (deep tree is tidy 10 (omega (arith, few, long))).0 in omega (arith, h);
      small = omega (arith, words_few tree is tidy, few, long);
      short = (short_subtrees tree).0 both_of.1;
    }
