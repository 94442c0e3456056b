-- the certificate of a least tree, composed
use Rattle.std.proofs.Common.{◌≡◌, ℕ, ◌≤◌, ◌<◌, ◌≤ℤ◌, ◌-ℤ◌, ℤ, pos, nat_abs, Option, Some, None, List, [], ◌∷◌, ◌++◌, map, length, codes, decimal, sym, ap, ◌∙◌, subst, arith, append_assoc, append-nil}
use mir.Syntax.{w64}
use mir.Val.{to_z, of_z}
use Rattle.std.specs.Fmt.{signed_decimal}
use Rattle.std.specs.List.{All, filter, flat_map}
use Rattle.std.specs.Option.{option_map}
use Rattle.std.proofs.lemmas.Grind.{flat_map-append}
use Rattle.std.proofs.lemmas.Int.{ints}
use Rattle.std.proofs.lemmas.List.Elements.{All-filter, All-head, All-nil, filter_passes}
use Rattle.dt_map.specs.declared.entry.Entry.{Entry}
use Rattle.dt_map.specs.Alike.{first_disp}
use Rattle.dt_map.specs.Limits.{EntryFits}
use Rattle.dt_tree.proofs.Limits.{step_back}
use Rattle.dt_tree.specs.declared.node.Node.{Node}
use Rattle.dt_tree.specs.Node.{tree_of}
use Rattle.dt_tree.specs.Weights.{Weights, AreLight}
use Rattle.dt_normal.specs.declared.low.Low.{Low}
use Rattle.dt_normal.specs.Bests.{IsBestOf, IsBestTree, IsNoTree}
use Rattle.dt_normal.specs.Table.{Table, IsSegment, IsValid}
use Rattle.dt_check.specs.Members.{IsMember}
use Rattle.dt_check.proofs.Everywhere.{valid_everywhere, valid_one}
use Rattle.dt_check.proofs.Ones.{low_few}
use Rattle.dt_spelling.specs.Spelling.{Words}
use Rattle.dt_cert.specs.Certificate.{Certificate, ByClasses}
use Rattle.dt_cert.specs.Classes.{AreRising, is_first, value_in}
use Rattle.dt_cert.specs.Shown.{FollowsRuleIfAny, IsShown}
use Rattle.dt_cert.specs.Text.{text_of_line, text_of, version_line, weights_line, entry_line, tree_line, value_line}
use Rattle.dt_cert.proofs.Listed.{listed_members, listed_values, listed_rising, filter_rising, classes_give}

-- one text behind another
behind : (before now more rest : List ℕ) → now ≡ before ++ more → before ++ (more ++ rest) ≡ now ++ rest
behind before now more rest is = sym (append_assoc before more rest) ∙ ap (λ t. t ++ rest) (sym is)

-- the texts from the first line on to the last
pub record IsComposed (c : Certificate) (a b d e f g h i j : List ℕ) : Type 0 where
  pub version : a ≡ text_of_line (version_line c.version)
  pub weights : b ≡ a ++ text_of_line (weights_line c.weights)
  pub number : d ≡ b ++ text_of_line (codes "map" ∷ decimal (length c.entries) ∷ [])
  pub entries : e ≡ d ++ flat_map text_of_line (map entry_line c.entries)
  pub base : f ≡ e ++ text_of_line (codes "base" ∷ signed_decimal c.base ∷ [])
  pub tree : g ≡ f ++ text_of_line (tree_line c.tree)
  pub cost : h ≡ g ++ text_of_line (codes "cost" ∷ decimal c.cost ∷ [])
  pub values : i ≡ h ++ flat_map text_of_line (map (value_line c.version) c.values)
  pub end : j ≡ i ++ text_of_line (codes "end" ∷ [])

-- the lines behind the entries', and behind the first one
abbrev after_entries : Certificate → List Words
after_entries c =
    (codes "base" ∷ signed_decimal c.base ∷ []) ∷ tree_line c.tree ∷ (codes "cost" ∷ decimal c.cost ∷ [])
    ∷ (map (value_line c.version) c.values ++ (codes "end" ∷ []) ∷ [])

abbrev after_version : Certificate → List Words
after_version c = weights_line c.weights ∷ (codes "map" ∷ decimal (length c.entries) ∷ []) ∷ (map entry_line c.entries ++ after_entries c)

pub composed : (c : Certificate) (a b d e f g h i j : List ℕ) → IsComposed c a b d e f g h i j → j ≡ text_of c
composed c a b d e f g h i j is =
    let ended = text_of_line (codes "end" ∷ []) in
    let last = behind i j ended [] is.end ∙ append-nil j in
    let values = flat_map-append text_of_line (map (value_line c.version) c.values) ((codes "end" ∷ []) ∷ []) in
    let eighth = ap (λ t. h ++ t) values ∙ (behind h i (flat_map text_of_line (map (value_line c.version) c.values)) (ended ++ []) is.values ∙ last) in
    let seventh = behind g h (text_of_line (codes "cost" ∷ decimal c.cost ∷ [])) _ is.cost ∙ eighth in
    let sixth = behind f g (text_of_line (tree_line c.tree)) _ is.tree ∙ seventh in
    let fifth = behind e f (text_of_line (codes "base" ∷ signed_decimal c.base ∷ [])) _ is.base ∙ sixth in
    let entries = flat_map-append text_of_line (map entry_line c.entries) (after_entries c) in
    let fourth = ap (λ t. d ++ t) entries ∙ (behind d e (flat_map text_of_line (map entry_line c.entries)) _ is.entries ∙ fifth) in
    let third = behind b d (text_of_line (codes "map" ∷ decimal (length c.entries) ∷ [])) _ is.number ∙ fourth in
    let second = behind a b (text_of_line (weights_line c.weights)) _ is.weights ∙ third in
    sym (ap (λ t. t ++ flat_map text_of_line (after_version c)) (sym is.version) ∙ second)

-- a value of a valid table is small
value_small : (w : Weights) (m : List Entry) (table : Table) → AreLight w → length m ≤ 1024 → IsValid w m table → (start len : ℕ) → IsSegment m start len → table start len < 18446744073709551616
value_small w m table light few valid start len segment =
    let each = (valid_everywhere w m table).0 valid in
    omega (arith, few, segment.1, low_few w m table start len light segment (each start len segment) (λ long s l inside one. each s l inside))

first_small : (m : List Entry) → All EntryFits m → 0 < length m → ((pos 0 -ℤ pos 9223372036854775808) ≤ℤ first_disp m) × (first_disp m ≤ℤ pos 9223372036854775807)
first_small [] fit some = absurd (omega arith)
first_small (e ∷ m) fit some = let h = (All-head EntryFits e m fit).0 in (omega (arith, ints, h.0), omega (arith, ints, h.1))

-- for entries
some_shown : (w : Weights) (m : List Entry) (base : ℤ) (node : Node) (cost : ℕ) (lows : List Low) (text : List ℕ) → AreLight w → length m ≤ 1024 → All EntryFits m → FollowsRuleIfAny (Some (tree_of node))
    → IsBestTree w m base (tree_of node) cost lows
    → (let c : Certificate = record { version = ByClasses; weights = w; entries = m; base = base; tree = Some (tree_of node); cost = cost; values = filter (is_first m) lows } in text ≡ text_of c → IsShown text c)
some_shown w m base node cost lows text light few fit rule best written =
    let table : Table = best.shown.0 in
    let greatest = best.shown.1 in
    let list = best.shown.2 in
    let whole = best.shown.3 in
    let values = filter (is_first m) lows in
    let segment : IsSegment m 0 (length m) = (best.some, omega arith) in
    let near = first_small m fit best.some in
    let give : (start len : ℕ) → IsSegment m start len → best.shown.0 start len ≡ value_in ByClasses m (filter (is_first m) lows) start len =
    λ start len segment_is. classes_give w m best.shown.0 start len greatest segment_is ∙ ap (λ l. value_in ByClasses m (filter (is_first m) l) start len) (sym list) in
    record {
      writable = record {
        light = light;
        few = few;
        fit = fit;
        base_low = subst (λ z. (pos 0 -ℤ pos 9223372036854775808) ≤ℤ z) (sym best.first) near.0;
        base_high = subst (λ z. z ≤ℤ pos 9223372036854775807) (sym best.first) near.1;
        rule = rule;
        cost = omega (arith, whole, value_small w m best.shown.0 light few greatest.valid 0 (length m) segment);
        members = All-filter (is_first m) (IsMember m) lows (subst (All (IsMember m)) (sym list) (listed_members m best.shown.0));
        low = All-filter (is_first m) (λ a. a.low < 18446744073709551616) lows
            (subst (All (λ a. a.low < 18446744073709551616)) (sym list) (listed_values (λ v. v < 18446744073709551616) m best.shown.0 (value_small w m best.shown.0 light few greatest.valid)));
        rising = filter_rising (is_first m) lows (subst AreRising (sym list) (listed_rising m best.shown.0));
        firsts = filter_passes (is_first m) lows;
      };
      holds = record {
        stands = best.least.0;
        costs = best.costs;
        valid = valid_one w m best.shown.0 (value_in ByClasses m values) give greatest.valid;
        root = omega (arith, whole, give 0 (length m) segment);
      };
      written = written;
    }

-- for none
none_shown : (w : Weights) (m : List Entry) (base : ℤ) (cost : ℕ) (lows : List Low) (text : List ℕ) → AreLight w → length m ≤ 1024 → All EntryFits m → IsNoTree m base cost lows
    → (let c : Certificate = record { version = ByClasses; weights = w; entries = m; base = base; tree = None; cost = cost; values = filter (is_first m) lows } in text ≡ text_of c → IsShown text c)
none_shown w m base cost lows text light few fit best written =
    let none : filter (is_first m) lows ≡ [] = ap (filter (is_first m)) best.no_lows in
    let short : length m ≡ 0 = ap length best.none in
    record {
      writable = record {
        light = light;
        few = few;
        fit = fit;
        base_low = subst (λ z. (pos 0 -ℤ pos 9223372036854775808) ≤ℤ z) (sym best.base_zero) (omega (arith, ints));
        base_high = subst (λ z. z ≤ℤ pos 9223372036854775807) (sym best.base_zero) (omega (arith, ints));
        rule = tt;
        cost = omega (arith, best.cost_zero);
        members = subst (All (IsMember m)) (sym none) (All-nil (IsMember m));
        low = subst (All (λ a. a.low < 18446744073709551616)) (sym none) (All-nil (λ (a : Low). a.low < 18446744073709551616));
        rising = subst AreRising (sym none) tt;
        firsts = filter_passes (is_first m) lows;
      };
      holds = record {
        stands = best.none;
        costs = best.cost_zero;
        valid = (valid_everywhere w m _).1 (λ start len segment. absurd (omega (arith, short, segment.0, segment.1)));
        root = omega (arith, best.cost_zero);
      };
      written = written;
    }

pub best_shown : (w : Weights) (m : List Entry) (base : ℤ) (tree : Option Node) (cost : ℕ) (lows : List Low) (text : List ℕ) → AreLight w → length m ≤ 1024 → All EntryFits m → FollowsRuleIfAny (option_map tree_of tree)
    → IsBestOf w m base tree cost lows
    → (let c : Certificate = record { version = ByClasses; weights = w; entries = m; base = base; tree = option_map tree_of tree; cost = cost; values = filter (is_first m) lows } in text ≡ text_of c → IsShown text c)
best_shown w m base None cost lows text light few fit rule best written = none_shown w m base cost lows text light few fit best written
best_shown w m base (Some node) cost lows text light few fit rule best written = some_shown w m base node cost lows text light few fit rule best written

-- the members that a best has name segments
pub best_members : (w : Weights) (m : List Entry) (base : ℤ) (tree : Option Node) (cost : ℕ) (lows : List Low) → IsBestOf w m base tree cost lows → All (IsMember m) lows
best_members w m base None cost lows best = subst (All (IsMember m)) (sym best.no_lows) (All-nil (IsMember m))
best_members w m base (Some node) cost lows best = subst (All (IsMember m)) (sym best.shown.2) (listed_members m best.shown.0)

-- a base read back from its bits
base_near : (w : Weights) (m : List Entry) (base : ℤ) (tree : Option Node) (cost : ℕ) (lows : List Low) → All EntryFits m → IsBestOf w m base tree cost lows → nat_abs base ≤ 2305843009213693952
base_near w m base None cost lows fit best = subst (λ z. nat_abs z ≤ 2305843009213693952) (sym best.base_zero) (omega arith)
base_near w [] base (Some node) cost lows fit best = absurd (omega (arith, best.some))
base_near w (e ∷ m) base (Some node) cost lows fit best =
    let h = (All-head EntryFits e m fit).0 in
    let near : nat_abs e.disp ≤ 2305843009213693952 = omega (arith, ints, h.0, h.1) in
    subst (λ z. nat_abs z ≤ 2305843009213693952) (sym best.first) near

pub base_back : (w : Weights) (m : List Entry) (base : ℤ) (tree : Option Node) (cost : ℕ) (lows : List Low) → All EntryFits m → IsBestOf w m base tree cost lows → to_z w64 (of_z w64 base) ≡ base
base_back w m base tree cost lows fit best = step_back base (base_near w m base tree cost lows fit best)
