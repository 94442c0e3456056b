-- the text of a certificate of single segments made one of classes, and that it shows the same
use Rattle.std.proofs.Common.{◌≡◌, ◌⊎◌, inl, inr, ℕ, ◌+◌, ◌-◌, ◌≤◌, ◌<◌, ◌==◌, Bool, true, false, cond, List, [], ◌∷◌, ◌++◌, map, length, take, codes, decimal, refl, sym, ap, subst, ◌∙◌, arith, eq-eqb, append_assoc, append-nil, length-append}
use Rattle.std.specs.Fmt.{signed_decimal}
use Rattle.std.specs.List.{All, filter, flat_map}
use Rattle.std.proofs.lemmas.Bool.{cases_lt}
use Rattle.std.proofs.lemmas.Grind.{flat_map-append}
use Rattle.std.proofs.lemmas.List.{map-append, length-map, take_at}
use Rattle.std.proofs.lemmas.List.Elements.{All-nil, All-head, All-filter, filter_passes}
use Rattle.std.proofs.lemmas.List.Folds.{flat_map-map}
use Rattle.dt_alike.specs.First.{first_alike, class_of}
use Rattle.dt_alike.proofs.Filling.{first_is_least, classes_are_alike}
use Rattle.dt_map.specs.declared.entry.Entry.{Entry}
use Rattle.dt_map.specs.Alike.{segment, alike}
use Rattle.dt_map.proofs.Likeness.{alike_is_equivalence}
use Rattle.dt_tree.specs.Weights.{Weights, AreLight}
use Rattle.dt_normal.specs.declared.low.Low.{Low}
use Rattle.dt_normal.specs.Lows.{listed}
use Rattle.dt_normal.specs.Table.{Table, IsSegment, IsValid}
use Rattle.dt_check.specs.Greatest.{greatest_alike}
use Rattle.dt_check.specs.Members.{IsMember, names, table_of}
use Rattle.dt_check.proofs.Everywhere.{valid_everywhere, valid_one}
use Rattle.dt_check.proofs.Likening.{greatest_alike_is_valid}
use Rattle.dt_check.proofs.Looking.{listed_is_table}
use Rattle.dt_check.proofs.Ones.{low_few}
use Rattle.dt_spelling.specs.Spelling.{Words}
use Rattle.dt_cert.specs.Certificate.{Certificate, BySegments, ByClasses}
use Rattle.dt_cert.specs.Classes.{AreRising, is_first, value_in}
use Rattle.dt_cert.specs.Shown.{IsWritable, Holds, IsShown}
use Rattle.dt_cert.specs.Text.{text_of_line, text_of, version_line, weights_line, entry_line, map_lines, tree_line, value_line}
use Rattle.dt_cert.proofs.Listed.{listed_members, listed_values, listed_rising, filter_rising}
use Rattle.dt_verdict.specs.Classed.{greatest_in, values_by_classes}
use Rattle.dt_verdict.specs.Cut.{ended, lines_in, lines_from}
use Rattle.dt_verdict.specs.Migrated.{by_classes}
use Rattle.dt_verdict.proofs.Feedless.{AreFeedless, lines_free}
use Rattle.dt_verdict.proofs.LineWords.{line_of}
use Rattle.dt_verdict.proofs.Raising.{alike_above, greatest_is, named_is}
use Rattle.dt_verdict.proofs.TextLines.{lines_again}

-- the lines between the first one and the values, and those behind
abbrev middle : Certificate → List Words
middle c = weights_line c.weights ∷ (map_lines c.entries ++ (codes "base" ∷ signed_decimal c.base ∷ []) ∷ tree_line c.tree ∷ (codes "cost" ∷ decimal c.cost ∷ []) ∷ [])

abbrev value_lines : Certificate → List Words
value_lines c = map (value_line c.version) c.values ++ (codes "end" ∷ []) ∷ []

abbrev after_version : Certificate → List Words
after_version c =
    weights_line c.weights ∷ (map_lines c.entries ++ (codes "base" ∷ signed_decimal c.base ∷ []) ∷ tree_line c.tree ∷ (codes "cost" ∷ decimal c.cost ∷ []) ∷ value_lines c)

parted : (c : Certificate) → after_version c ≡ middle c ++ value_lines c
parted c = ap (λ (ls : List Words). weights_line c.weights ∷ ls) (sym (append_assoc (map_lines c.entries) ((codes "base" ∷ signed_decimal c.base ∷ []) ∷ tree_line c.tree ∷ (codes "cost" ∷ decimal c.cost ∷ []) ∷ []) (value_lines c)))

middle_length : (c : Certificate) → length (map line_of (middle c)) ≡ length c.entries + 5
middle_length c =
    omega (
      arith,
      length-map (middle c) line_of,
      length-append (map_lines c.entries) ((codes "base" ∷ signed_decimal c.base ∷ []) ∷ tree_line c.tree ∷ (codes "cost" ∷ decimal c.cost ∷ []) ∷ []),
      length-map c.entries entry_line,
    )

-- the lines of a text from behind its first one on
lines_behind : (c : Certificate) → IsWritable c → c.version ≡ BySegments → lines_from (text_of c) 9 ≡ map line_of (after_version c)
unfolding lines_from
lines_behind c h version =
    let free : AreFeedless (map line_of (after_version c)) = (lines_free c h).1 in
    let first : lines_from (text_of c) 9 ≡ lines_from (codes "dtcert 2\n" ++ flat_map text_of_line (after_version c)) 9 = ap (λ v. lines_from (text_of_line (version_line v) ++ flat_map text_of_line (after_version c)) 9) version in
    first ∙ (ap lines_in (sym (flat_map-map ended line_of (after_version c))) ∙ lines_again (map line_of (after_version c)) free)

copied : (c : Certificate) → IsWritable c → c.version ≡ BySegments → flat_map ended (take (length c.entries + 5) (lines_from (text_of c) 9)) ≡ flat_map text_of_line (middle c)
copied c h version =
    let lines : lines_from (text_of c) 9 ≡ map line_of (middle c) ++ map line_of (value_lines c) = lines_behind c h version ∙ (ap (map line_of) (parted c) ∙ map-append line_of (middle c) (value_lines c)) in
    ap (λ (ls : Words). flat_map ended (take (length c.entries + 5) ls)) lines
    ∙ (ap (flat_map ended) (take_at (map line_of (middle c)) (map line_of (value_lines c)) (length c.entries + 5) (middle_length c)) ∙ flat_map-map ended line_of (middle c))

pub renewed : (text : List ℕ) (c : Certificate) (a b d e : List ℕ) → IsWritable c → text ≡ text_of c → c.version ≡ BySegments
    → a ≡ codes "dtcert 3\n" → b ≡ a ++ flat_map ended (take (length c.entries + 5) (lines_from text 9))
    → d ≡ b ++ flat_map text_of_line (map (value_line ByClasses) (values_by_classes c.entries c.values)) → e ≡ d ++ codes "end\n" → e ≡ text_of (by_classes c)
renewed text c a b d e h is version first between values last =
    let now = by_classes c in
    let some = flat_map text_of_line (map (value_line ByClasses) now.values) in
    let front : b ≡ codes "dtcert 3\n" ++ flat_map text_of_line (middle c) =
    between ∙ (ap (λ (t : List ℕ). t ++ flat_map ended (take (length c.entries + 5) (lines_from text 9))) first
    ∙ ap (λ (t : List ℕ). codes "dtcert 3\n" ++ t) (ap (λ (t : List ℕ). flat_map ended (take (length c.entries + 5) (lines_from t 9))) is ∙ copied c h version)) in
    let lines : flat_map text_of_line (value_lines now) ≡ some ++ codes "end\n" = flat_map-append text_of_line (map (value_line ByClasses) now.values) ((codes "end" ∷ []) ∷ []) in
    let whole : flat_map text_of_line (after_version now) ≡ flat_map text_of_line (middle c) ++ (some ++ codes "end\n") =
    ap (flat_map text_of_line) (parted now) ∙ (flat_map-append text_of_line (middle c) (value_lines now) ∙ ap (λ (t : List ℕ). flat_map text_of_line (middle c) ++ t) lines) in
    last ∙ (ap (λ (t : List ℕ). t ++ codes "end\n") (values ∙ ap (λ (t : List ℕ). t ++ some) front)
    ∙ (append_assoc (codes "dtcert 3\n" ++ flat_map text_of_line (middle c)) some (codes "end\n")
    ∙ ap (λ (t : List ℕ). codes "dtcert 3\n" ++ t) (sym whole)))

-- the value of each segment is that of the first segment of its class
kept_value : (test : Low → Bool) (lows : List Low) (start len : ℕ) → ((a : Low) → names a start len ≡ true → test a ≡ true) → table_of (filter test lows) start len ≡ table_of lows start len
kept_value test [] start len kept = refl
kept_value test (a ∷ lows) start len kept = of (test a) refl (kept_value test lows start len kept)
  where
    of : (b : Bool) → test a ≡ b → table_of (filter test lows) start len ≡ table_of lows start len
        → table_of (cond b (a ∷ filter test lows) (filter test lows)) start len ≡ cond (names a start len) a.low (table_of lows start len)
    of true is rest = ap (cond (names a start len) a.low) rest
    of false is rest = rest ∙ sym (ap (λ b. cond b a.low (table_of lows start len)) (not_named (names a start len) refl))
      where
        not_named : (b : Bool) → names a start len ≡ b → names a start len ≡ false
        not_named true named = absurd (cc (is, kept a named))
        not_named false named = named

first_of_first : (m : List Entry) (start len : ℕ) → first_alike m (first_alike m start len) len ≡ first_alike m start len
first_of_first m start len =
    let one = first_is_least m start len in
    let two = first_is_least m (first_alike m start len) len in
    elim (cases_lt (first_alike m (first_alike m start len) len) (first_alike m start len)) [
      | inl less ↦
          absurd (one.2 (first_alike m (first_alike m start len) len) less
          (alike_is_equivalence.2 (segment m (first_alike m (first_alike m start len) len) len) (segment m (first_alike m start len) len) (segment m start len) two.1 one.1))
      | inr from ↦ omega (arith, two.0)
    ]

-- so classes give each segment the greatest value of the segments alike
classes_give : (m : List Entry) (values : List Low) (start len : ℕ) → All (IsMember m) values → AreRising values → IsSegment m start len
    → greatest_alike m (table_of values) start len ≡ value_in ByClasses m (values_by_classes m values) start len
classes_give m values start len members rising is =
    let f = first_alike m start len in
    let one = first_is_least m start len in
    let table = greatest_alike m (table_of values) in
    let first_segment : IsSegment m f len = (is.0, omega (arith, one.0, is.1)) in
    let class : class_of m f len ≡ class_of m start len = (classes_are_alike m f start len len (omega (arith, first_segment.0, first_segment.1)) (omega (arith, is.0, is.1))).1 (refl, one.1) in
    let same : table f len ≡ table start len = sym (greatest_is m values f len members rising first_segment) ∙ (ap (greatest_in m values) class ∙ greatest_is m values start len members rising is) in
    let kept = kept_value (is_first m) (listed (length m) table) f len (λ a named.
    let h = named_is a f len named in
    eq-eqb (first_alike m a.from (a.to - a.from)) a.from (ap (λ s. first_alike m s (a.to - a.from)) h.0 ∙ (ap (first_alike m f) h.1 ∙ (first_of_first m start len ∙ sym h.0)))) in
    sym (kept ∙ (listed_is_table m table f len first_segment ∙ same))

-- a value of a valid table is small
value_small : (w : Weights) (m : List Entry) (table : Table) → AreLight w → length m ≤ 1024 → IsValid w m table → (start len : ℕ) → IsSegment m start len → table start len < 18446744073709551616
value_small w m table light few valid start len segment_is =
    let each = (valid_everywhere w m table).0 valid in
    omega (arith, few, segment_is.1, low_few w m table start len light segment_is (each start len segment_is) (λ long s l inside one. each s l inside))

-- the value of the whole
alike_itself : (es : List Entry) → alike es es ≡ true
alike_itself es = alike_is_equivalence.0 es

no_members : (values : List Low) → All (IsMember []) values → table_of values 0 0 ≡ 0
no_members [] members = refl
no_members (a ∷ values) members = let h = All-head (IsMember []) a values members in absurd (omega (arith, h.0, h.1))

root_kept : (m : List Entry) (values : List Low) (cost : ℕ) → All (IsMember m) values → AreRising values → cost ≤ table_of values 0 (length m) → cost ≤ value_in ByClasses m (values_by_classes m values) 0 (length m)
root_kept [] values cost members rising root = omega (arith, root, no_members values members)
root_kept (e ∷ m) values cost members rising root =
    let is : IsSegment (e ∷ m) 0 (length (e ∷ m)) = (omega arith, omega arith) in
    omega (
      arith,
      root,
      alike_above (e ∷ m) (table_of values) 0 0 (length (e ∷ m)) (omega arith) (alike_itself (segment (e ∷ m) 0 (length (e ∷ m)))),
      classes_give (e ∷ m) values 0 (length (e ∷ m)) members rising is,
    )

-- what is written shows it
segments_valid : (c : Certificate) → Holds c → c.version ≡ BySegments → IsValid c.weights c.entries (table_of c.values)
segments_valid c holds version = valid_one c.weights c.entries (value_in c.version c.entries c.values) (table_of c.values) (λ start len is. ap (λ v. value_in v c.entries c.values start len) version) holds.valid

pub classes_shown : (text : List ℕ) (c : Certificate) → IsWritable c → Holds c → c.version ≡ BySegments → text ≡ text_of (by_classes c) → IsShown text (by_classes c)
classes_shown text c h holds version written =
    let m = c.entries in
    let table = greatest_alike m (table_of c.values) in
    let valid : IsValid c.weights c.entries table = greatest_alike_is_valid c.weights m (table_of c.values) (segments_valid c holds version) in
    let root : c.cost ≤ table_of c.values 0 (length c.entries) = subst (λ v. c.cost ≤ value_in v c.entries c.values 0 (length c.entries)) version holds.root in
    record {
      writable = record {
        light = h.light;
        few = h.few;
        fit = h.fit;
        base_low = h.base_low;
        base_high = h.base_high;
        rule = h.rule;
        cost = h.cost;
        members = All-filter (is_first m) (IsMember m) (listed (length m) table) (listed_members m table);
        low = All-filter (is_first m) (λ a. a.low < 18446744073709551616) (listed (length m) table) (listed_values (λ v. v < 18446744073709551616) m table (value_small c.weights m table h.light h.few valid));
        rising = filter_rising (is_first m) (listed (length m) table) (listed_rising m table);
        firsts = filter_passes (is_first m) (listed (length m) table);
      };
      holds = record {
        stands = holds.stands;
        costs = holds.costs;
        valid = valid_one c.weights m table (value_in ByClasses m (values_by_classes m c.values)) (λ start len is. classes_give m c.values start len h.members h.rising is) valid;
        root = root_kept m c.values c.cost h.members h.rising root;
      };
      written = written;
    }
