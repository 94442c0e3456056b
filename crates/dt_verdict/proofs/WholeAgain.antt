-- what is written is read again
use Rattle.std.proofs.Common.{◌≡◌, inl, inr, ◌-◌, ◌≤◌, ◌<◌, ◌==◌, Bool, true, false, cond, ◌&&◌, ◌||◌, nat_le, nat_lt, Option, Some, None, Ok, List, [], ◌∷◌, ◌++◌, map, length, codes, bytes_eq, refl, sym, ap, ◌∙◌, arith}
use Rattle.std.specs.List.{All}
use Rattle.std.specs.Option.{option_and_then, option_map}
use Rattle.std.proofs.lemmas.Bool.{lt-ltb, eq-eqb}
use Rattle.std.proofs.lemmas.List.Elements.{All-head, All-tail, All-weaker}
use Rattle.dt_map.specs.declared.entry.Entry.{Entry}
use Rattle.dt_map.specs.Limits.{EntryFits}
use Rattle.dt_check.specs.Members.{IsMember}
use Rattle.dt_normal.specs.declared.low.Low.{Low}
use Rattle.dt_tree.specs.Rule.{FollowsRule}
use Rattle.dt_tree.specs.Tree.{Tree, leaf, vector, index, group}
use Rattle.dt_spelling.specs.Reading.{bind, item_at, read_as, where_true, with_front}
use Rattle.dt_spelling.specs.Spelling.{Word, Words, text_of}
use Rattle.dt_spelling.proofs.Numbers.{le_is, passes_spaceless}
use Rattle.dt_cert.specs.Certificate.{Certificate, Version, BySegments, ByClasses}
use Rattle.dt_cert.specs.Classes.{IsEarlier, AreRising, is_first}
use Rattle.dt_cert.specs.Shown.{AreOfFirsts, FollowsRuleIfAny, IsWritable}
use Rattle.dt_cert.specs.Text.{entry_line, tree_line, map_lines, lines_of}
use Rattle.dt_verdict.specs.Lines.{line_as, entries_at}
use Rattle.dt_verdict.specs.Reading.{value_at}
use Rattle.dt_verdict.specs.Trees.{tree_in, tree_or_empty, tree_spelled}
use Rattle.dt_verdict.specs.Values.{value_name, is_later, is_own, goes_on, value_behind, values_at, before_all}
use Rattle.dt_verdict.specs.Whole.{map_at, certificate_at}
use Rattle.dt_verdict.proofs.LineGoods.{version_again, entry_again_in}
use Rattle.dt_verdict.proofs.LineWords.{line_of, number_again, base_again, weights_again, value_again}
use Rattle.dt_verdict.proofs.Naturals.{both_are}
use Rattle.dt_verdict.proofs.Signeds.{within_signed}
use Rattle.dt_verdict.proofs.TreeLines.{spelled_read}
use Rattle.dt_verdict.proofs.ValueGoods.{value_text}
use Rattle.dt_verdict.proofs.ValueSteps.{at_end, one_value}
use Rattle.dt_verdict.proofs.WholeGoods.{tree_text, last_lines, lines_split}

item_is : {A : Type 0} (spelled : Word → Option A) (word : Word) (words : Words) (x : A) → spelled word ≡ Some x → item_at spelled (word ∷ words) ≡ Ok (x, words)
item_is spelled word words x e = ap (λ o. read_as o (word ∷ words) words) e

-- entries
entries_again : (es : List Entry) (behind : Words) → All EntryFits es → entries_at (length es) (map line_of (map entry_line es) ++ behind) ≡ Ok (es, behind)
unfolding bind
entries_again [] behind fit = refl
entries_again (x ∷ es) behind fit =
    rw (entry_again_in x (All-head EntryFits x es fit)) (rw (entries_again es behind (All-tail EntryFits x es fit)) refl)

pub map_again : (es : List Entry) (behind : Words) → All EntryFits es → length es ≤ 1024 → map_at (map line_of (map_lines es) ++ behind) ≡ Ok (es, behind)
unfolding map_at bind
map_again es behind fit few =
    rw (number_again (codes "map") 1024 (length es) (passes_spaceless (codes "map") refl) few (omega arith)) (entries_again es behind fit)

-- a tree
not_empty : (tree : Tree) → bytes_eq (text_of tree) (codes "empty") ≡ false
not_empty (leaf kind) = refl
not_empty (vector count block stride child) = refl
not_empty (index block places child) = refl
not_empty (group parts) = refl

or_empty_again : (tree : Tree) → FollowsRule tree → tree_or_empty (text_of tree) ≡ Some (Some tree)
or_empty_again tree rule =
    ap (λ b. cond b (Some None) (option_map Some (tree_spelled (text_of tree)))) (not_empty tree) ∙ ap (option_map Some) (spelled_read (text_of tree) tree (rule, refl))

tree_again : (t : Option Tree) → FollowsRuleIfAny t → tree_in (line_of (tree_line t)) ≡ Some t
unfolding tree_in
tree_again None rule = refl
tree_again (Some tree) rule = ap tree_in (sym (tree_text tree)) ∙ or_empty_again tree rule

-- values
or_left : (a b : Bool) → a ≡ true → (a || b) ≡ true
or_left true b e = refl
or_left false b e = cc

or_right : (a b : Bool) → b ≡ true → (a || b) ≡ true
or_right true b e = refl
or_right false b e = e

is_later_is : (last a : Low) → IsEarlier last a → is_later last a ≡ true
is_later_is last a (inl h) = or_left (nat_lt (last.to - last.from) (a.to - a.from)) ((last.to - last.from == a.to - a.from) && nat_lt last.from a.from) (lt-ltb (last.to - last.from) (a.to - a.from) h)
is_later_is last a (inr h) =
    or_right (nat_lt (last.to - last.from) (a.to - a.from)) ((last.to - last.from == a.to - a.from) && nat_lt last.from a.from)
    (both_are (last.to - last.from == a.to - a.from) (nat_lt last.from a.from) (eq-eqb (last.to - last.from) (a.to - a.from) h.0) (lt-ltb last.from a.from h.1))

own_first : (version : Version) (m : List Entry) (a : Low) (values : List Low) → AreOfFirsts version m (a ∷ values) → is_own version m a ≡ true
own_first BySegments m a values h = refl
own_first ByClasses m a values h = All-head (λ b. is_first m b ≡ true) a values h

own_rest : (version : Version) (m : List Entry) (a : Low) (values : List Low) → AreOfFirsts version m (a ∷ values) → AreOfFirsts version m values
own_rest BySegments m a values h = tt
own_rest ByClasses m a values h = All-tail (λ b. is_first m b ≡ true) a values h

behind_again : (version : Version) (m : List Entry) (last a : Low) → length m ≤ 1024 → IsMember m a → a.low < 18446744073709551616 → IsEarlier last a → is_own version m a ≡ true
    → value_behind version m last (value_text version a) ≡ Some a
unfolding value_behind
behind_again version m last a few member low later own =
    ap (option_and_then (λ b. where_true (goes_on version m last b) b)) (line_again version)
    ∙ ap (λ t. where_true t a)
    (both_are (nat_lt a.from a.to) (nat_le a.to (length m) && (is_later last a && is_own version m a)) (lt-ltb a.from a.to member.0)
    (both_are (nat_le a.to (length m)) (is_later last a && is_own version m a) (le_is a.to (length m) member.1) (both_are (is_later last a) (is_own version m a) (is_later_is last a later) own)))
  where
    line_again : (version : Version) → line_as (value_at (value_name version)) (value_text version a) ≡ Some a
    line_again BySegments = value_again (codes "low") a (passes_spaceless (codes "low") refl) (omega (arith, member.0, member.1), omega (arith, member.1), omega arith)
    line_again ByClasses = value_again (codes "class") a (passes_spaceless (codes "class") refl) (omega (arith, member.0, member.1), omega (arith, member.1), omega arith)

no_end : (version : Version) (a : Low) → bytes_eq (value_text version a) (codes "end") ≡ false
no_end BySegments a = refl
no_end ByClasses a = refl

values_again : (version : Version) (m : List Entry) (last : Low) (values : List Low) → length m ≤ 1024 → All (IsMember m) values → All (λ a. a.low < 18446744073709551616) values
    → All (IsEarlier last) values → AreRising values → AreOfFirsts version m values → values_at version m last (map (value_text version) values ++ codes "end" ∷ []) ≡ Ok (values, [])
values_again version m last [] few members low later rising firsts = at_end version m last (codes "end") [] refl
values_again version m last (a ∷ values) few members low later rising firsts =
    one_value version m last (value_text version a) (map (value_text version) values ++ codes "end" ∷ []) a (no_end version a)
    (behind_again version m last a few (All-head (IsMember m) a values members) (All-head (λ b. b.low < 18446744073709551616) a values low) (All-head (IsEarlier last) a values later) (own_first version m a values firsts))
    ∙ ap (with_front (a ∷ []))
    (values_again version m a values few (All-tail (IsMember m) a values members) (All-tail (λ b. b.low < 18446744073709551616) a values low) rising.0 rising.1 (own_rest version m a values firsts))

-- a certificate
pub certificate_again : (c : Certificate) → IsWritable c → certificate_at (map line_of (lines_of c)) ≡ Ok (c, [])
unfolding certificate_at bind
certificate_again c h =
    let cost_fits = h.cost in
    let first : All (IsEarlier before_all) c.values = All-weaker (IsMember c.entries) (IsEarlier before_all) (λ a member. inl (omega (arith, member.0))) c.values h.members in
    ap certificate_at (sym (lines_split c))
    ∙ rw (version_again c.version)
    (rw (weights_again c.weights h.light)
    (rw (map_again c.entries (last_lines c) h.fit h.few)
    (rw (base_again c.base (within_signed c.base h.base_low h.base_high))
    (rw (tree_again c.tree h.rule)
    (rw (number_again (codes "cost") 18446744073709551615 c.cost (passes_spaceless (codes "cost") refl) (omega arith) (omega arith))
    (rw (values_again c.version c.entries before_all c.values h.few h.members h.low first h.rising h.firsts) refl))))))
