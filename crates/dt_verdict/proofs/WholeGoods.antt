-- the reader of certificates takes lines from the front and nothing else, and what it takes is spelled so and writable
use Rattle.std.proofs.Common.{◌≡◌, ◌⊎◌, inl, inr, ℕ, ◌-◌, ◌<◌, ◌==◌, Bool, true, false, ◌&&◌, ◌||◌, nat_le, nat_lt, Option, Some, None, List, [], ◌∷◌, ◌++◌, map, length, take, drop, codes, decimal, bytes_eq, refl, sym, ap, subst, ◌∙◌, append-nil, arith}
use Rattle.std.specs.Fmt.{signed_decimal}
use Rattle.std.specs.List.{All}
use Rattle.std.specs.Option.{option_map}
use Rattle.std.proofs.lemmas.Bool.{ltb-true, eqb-true}
use Rattle.std.proofs.lemmas.List.{take-append-drop, map-append}
use Rattle.std.proofs.lemmas.List.Elements.{All-cons, All-nil, All-weaker}
use Rattle.std.proofs.lemmas.Slice.Eq.{bytes_eq-Decides}
use Rattle.dt_map.specs.declared.entry.Entry.{Entry}
use Rattle.dt_check.specs.Members.{IsMember}
use Rattle.dt_normal.specs.declared.low.Low.{Low}
use Rattle.dt_tree.specs.Tree.{Tree, leaf, vector, index, group}
use Rattle.dt_spelling.specs.Reading.{item_at}
use Rattle.dt_spelling.specs.Spelling.{Word, Words, text_of}
use Rattle.dt_spelling.proofs.Numbers.{both_true, is_le}
use Rattle.dt_spelling.proofs.Readers.{Good, bind_good, give_good, item_good}
use Rattle.dt_cert.specs.Certificate.{Certificate, Version, BySegments, ByClasses}
use Rattle.dt_cert.specs.Classes.{IsEarlier, AreRising, is_first}
use Rattle.dt_cert.specs.Shown.{AreOfFirsts, FollowsRuleIfAny, IsWritable}
use Rattle.dt_cert.specs.Text.{version_line, weights_line, tree_line, value_line, map_lines, lines_of}
use Rattle.dt_verdict.specs.Lines.{line_as, version_in}
use Rattle.dt_verdict.specs.Reading.{weights_at, number_at, base_at}
use Rattle.dt_verdict.specs.Trees.{tree_in, tree_or_empty, tree_spelled}
use Rattle.dt_verdict.specs.Values.{is_later, is_own, goes_on, values_at, before_all}
use Rattle.dt_verdict.specs.Whole.{map_at, certificate_at}
use Rattle.dt_verdict.proofs.LineGoods.{IsVersion, version_good, AreWeights, weights_good, IsNumber, cost_good, IsBase, base_good, IsMap, map_good, front_line}
use Rattle.dt_verdict.proofs.LineWords.{line_of}
use Rattle.dt_verdict.proofs.Signeds.{chosen, signed_within}
use Rattle.dt_verdict.proofs.TreeLines.{read_spelled}
use Rattle.dt_verdict.proofs.ValueGoods.{value_text, AreValues, AreValueLines, values_good}

-- the line of a tree
pub tree_text : (tree : Tree) → codes "tree " ++ text_of tree ≡ line_of (tree_line (Some tree))
tree_text (leaf kind) = refl
tree_text (vector count block stride child) = refl
tree_text (index block places child) = refl
tree_text (group parts) = refl

abbrev pub IsTreeLine : Option Tree → Words → Type 0
IsTreeLine t u = (u ≡ line_of (tree_line t) ∷ []) × FollowsRuleIfAny t

spelled_means : (o : Option Tree) (t : Option Tree) → option_map Some o ≡ Some t → (tree : Tree) × (o ≡ Some tree) × (t ≡ Some tree)
spelled_means None t e = cc
spelled_means (Some tree) t e = (tree, refl, cc)

or_empty_means : (text : List ℕ) (t : Option Tree) → tree_or_empty text ≡ Some t → (codes "tree " ++ text ≡ line_of (tree_line t)) × FollowsRuleIfAny t
or_empty_means text t e = elim (chosen (bytes_eq text (codes "empty")) (Some None) (option_map Some (tree_spelled text)) (Some t) e) [
  | inl h ↦
      let same : None ≡ t = cc (h.1) in
      subst (λ (o : Option Tree). (codes "tree " ++ text ≡ line_of (tree_line o)) × FollowsRuleIfAny o) same
      (ap (λ (w : Word). codes "tree " ++ w) ((bytes_eq-Decides text (codes "empty")).0 h.0), tt)
  | inr h ↦
      let k = spelled_means (tree_spelled text) t h.1 in
      let s = read_spelled text k.0 k.1 in
      subst (λ (o : Option Tree). (codes "tree " ++ text ≡ line_of (tree_line o)) × FollowsRuleIfAny o) (sym k.2)
      (ap (λ (w : Word). codes "tree " ++ w) s.1 ∙ tree_text k.0, s.0)
]

tree_means : (line : Word) (t : Option Tree) → tree_in line ≡ Some t → (line ≡ line_of (tree_line t)) × FollowsRuleIfAny t
unfolding tree_in
tree_means line t e = elim (chosen (bytes_eq (take 5 line) (codes "tree ")) (tree_or_empty (drop 5 line)) None (Some t) e) [
  | inl h ↦
      let k = or_empty_means (drop 5 line) t h.1 in
      (sym (take-append-drop 5 line) ∙ (ap (λ (w : Word). w ++ drop 5 line) ((bytes_eq-Decides (take 5 line) (codes "tree ")).0 h.0) ∙ k.0), k.1)
  | inr h ↦ cc (h.1)
]

tree_good : Good IsTreeLine (item_at tree_in)
unfolding tree_in
tree_good = item_good IsTreeLine tree_in (codes "tree empty") None refl (λ w y e. let h = tree_means w y e in (ap (λ (l : Word). l ∷ []) h.0, h.1))

-- values are of members, and rising
or_parts : (a b : Bool) → (a || b) ≡ true → (a ≡ true) ⊎ (b ≡ true)
or_parts true b e = inl refl
or_parts false b e = inr e

later_is : (last a : Low) → is_later last a ≡ true → IsEarlier last a
later_is last a e = elim (or_parts (nat_lt (last.to - last.from) (a.to - a.from)) ((last.to - last.from == a.to - a.from) && nat_lt last.from a.from) e) [
  | inl h ↦ inl (ltb-true (last.to - last.from) (a.to - a.from) h)
  | inr h ↦
      let k = both_true (last.to - last.from == a.to - a.from) (nat_lt last.from a.from) h in
      inr (eqb-true (last.to - last.from) (a.to - a.from) k.0, ltb-true last.from a.from k.1)
]

earlier_trans : (a b c : Low) → IsEarlier a b → IsEarlier b c → IsEarlier a c
earlier_trans a b c (inl h) (inl k) = inl (omega arith)
earlier_trans a b c (inl h) (inr k) = inl (omega (arith, k.0))
earlier_trans a b c (inr h) (inl k) = inl (omega (arith, h.0))
earlier_trans a b c (inr h) (inr k) = inr (h.0 ∙ k.0, omega (arith, h.1, k.1))

pub record OneValue (version : Version) (m : List Entry) (last a : Low) : Type 0 where
  pub member : IsMember m a
  pub later : IsEarlier last a
  pub own : is_own version m a ≡ true

pub one_value_is : (version : Version) (m : List Entry) (last a : Low) → goes_on version m last a ≡ true → OneValue version m last a
one_value_is version m last a e =
    let h = both_true (nat_lt a.from a.to) (nat_le a.to (length m) && (is_later last a && is_own version m a)) e in
    let k = both_true (nat_le a.to (length m)) (is_later last a && is_own version m a) h.1 in
    let l = both_true (is_later last a) (is_own version m a) k.1 in
    record { member = (ltb-true a.from a.to h.0, is_le a.to (length m) k.0); later = later_is last a l.0; own = l.1 }

module _ (version : Version) (m : List Entry) where
  all_later : (last : Low) (values : List Low) → AreValues version m last values → All (IsEarlier last) values
  all_later last [] h = All-nil (IsEarlier last)
  all_later last (a ∷ values) h =
      let one = one_value_is version m last a (h.0).on in
      All-cons (IsEarlier last) a values one.later (All-weaker (IsEarlier a) (IsEarlier last) (λ b later. earlier_trans last a b one.later later) values (all_later a values h.1))

  are_rising : (last : Low) (values : List Low) → AreValues version m last values → AreRising values
  are_rising last [] h = tt
  are_rising last (a ∷ values) h = (all_later a values h.1, are_rising a values h.1)

  are_members : (last : Low) (values : List Low) → AreValues version m last values → All (IsMember m) values
  are_members last [] h = All-nil (IsMember m)
  are_members last (a ∷ values) h = All-cons (IsMember m) a values (one_value_is version m last a (h.0).on).member (are_members a values h.1)

  are_low : (last : Low) (values : List Low) → AreValues version m last values → All (λ a. a.low < 18446744073709551616) values
  are_low last [] h = All-nil (λ a. a.low < 18446744073709551616)
  are_low last (a ∷ values) h = All-cons (λ b. b.low < 18446744073709551616) a values (h.0).low (are_low a values h.1)

are_firsts : (m : List Entry) (last : Low) (values : List Low) → AreValues ByClasses m last values → All (λ a. is_first m a ≡ true) values
are_firsts m last [] h = All-nil (λ a. is_first m a ≡ true)
are_firsts m last (a ∷ values) h = All-cons (λ b. is_first m b ≡ true) a values (one_value_is ByClasses m last a (h.0).on).own (are_firsts m a values h.1)

are_of_firsts : (version : Version) (m : List Entry) (last : Low) (values : List Low) → AreValues version m last values → AreOfFirsts version m values
are_of_firsts BySegments m last values h = tt
are_of_firsts ByClasses m last values h = are_firsts m last values h

-- certificates
pub value_texts : (version : Version) (values : List Low) → map (value_text version) values ++ codes "end" ∷ [] ≡ map line_of (map (value_line version) values ++ (codes "end" ∷ []) ∷ [])
value_texts version [] = refl
value_texts version (a ∷ values) = ap (λ (ws : Words). value_text version a ∷ ws) (value_texts version values)

abbrev pub IsText : Certificate → Words → Type 0
IsText c u = (u ≡ map line_of (lines_of c)) × IsWritable c

abbrev pub last_lines : Certificate → Words
last_lines c = line_of (codes "base" ∷ signed_decimal c.base ∷ []) ∷ line_of (tree_line c.tree) ∷ line_of (codes "cost" ∷ decimal c.cost ∷ []) ∷ (map (value_text c.version) c.values ++ codes "end" ∷ [])

pub lines_split : (c : Certificate) → line_of (version_line c.version) ∷ line_of (weights_line c.weights) ∷ (map line_of (map_lines c.entries) ++ last_lines c) ≡ map line_of (lines_of c)
lines_split c =
    let values = value_texts c.version c.values in
    let behind = (codes "base" ∷ signed_decimal c.base ∷ []) ∷ tree_line c.tree ∷ (codes "cost" ∷ decimal c.cost ∷ []) ∷ (map (value_line c.version) c.values ++ (codes "end" ∷ []) ∷ []) in
    let last : last_lines c ≡ map line_of behind = ap (λ (ws : Words). line_of (codes "base" ∷ signed_decimal c.base ∷ []) ∷ line_of (tree_line c.tree) ∷ line_of (codes "cost" ∷ decimal c.cost ∷ []) ∷ ws) values in
    ap (λ (ws : Words). line_of (version_line c.version) ∷ line_of (weights_line c.weights) ∷ ws)
    (ap (λ (ws : Words). map line_of (map_lines c.entries) ++ ws) last ∙ sym (map-append line_of (map_lines c.entries) behind))

front_lines : (u v us vs : Words) → u ≡ us → v ≡ vs → u ++ v ≡ us ++ vs
front_lines u v us vs a b = ap (λ (x : Words). x ++ v) a ∙ ap (λ (x : Words). us ++ x) b

pub certificate_good : Good IsText certificate_at
unfolding certificate_at
certificate_good =
    bind_good IsVersion _ (item_at version_in) _ version_good (λ version u a.
    bind_good AreWeights _ (item_at (line_as weights_at)) _ weights_good (λ weights v b.
    bind_good IsMap _ map_at _ map_good (λ entries w c.
    bind_good IsBase _ (item_at (line_as base_at)) _ base_good (λ base x d.
    bind_good IsTreeLine _ (item_at tree_in) _ tree_good (λ tree y e.
    bind_good (IsNumber (codes "cost") 18446744073709551615) _ (item_at (line_as (number_at (codes "cost") 18446744073709551615))) _ cost_good (λ cost z f.
    bind_good (AreValueLines version entries before_all) _ (values_at version entries before_all) _ (values_good version entries before_all) (λ values t g.
    give_good (λ c r. IsText c (u ++ (v ++ (w ++ (x ++ (y ++ (z ++ (t ++ r)))))))) (record { version = version; weights = weights; entries = entries; base = base; tree = tree; cost = cost; values = values }) (
      front_line u _ (line_of (version_line version)) _ a
          (front_line v _ (line_of (weights_line weights)) _ b.0
          (front_lines w _ (map line_of (map_lines entries)) _ c.0
          (front_line x _ (line_of (codes "base" ∷ signed_decimal base ∷ [])) _ d.0
          (front_line y _ (line_of (tree_line tree)) _ e.0
          (front_line z (t ++ []) (line_of (codes "cost" ∷ decimal cost ∷ [])) _ f.0 (append-nil t ∙ g.0))))))
          ∙ lines_split (record { version = version; weights = weights; entries = entries; base = base; tree = tree; cost = cost; values = values }),
      (let within = signed_within base d.1 in let cost_high = f.1 in record {
        light = b.1;
        few = c.2;
        fit = c.1;
        base_low = within.0;
        base_high = within.1;
        rule = e.1;
        cost = omega arith;
        members = are_members version entries before_all values g.1;
        low = are_low version entries before_all values g.1;
        rising = are_rising version entries before_all values g.1;
        firsts = are_of_firsts version entries before_all values g.1;
      }),
    ))))))))
