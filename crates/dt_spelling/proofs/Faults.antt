-- what a whole text reads as, and where its fault shows
use Rattle.std.proofs.Common.{◌≡◌, ◌≢◌, ◌⊎◌, inl, inr, ℕ, ◌+◌, ◌-◌, ◌≤◌, ◌<◌, ◌==◌, min, List, [], ◌∷◌, ◌++◌, drop, length, Result, Ok, Err, refl, sym, ap, subst, ◌∙◌, append_assoc, append-nil, arith}
use Rattle.std.specs.List.{join_with_byte}
use Rattle.std.proofs.lemmas.Int.{clamps}
use Rattle.std.proofs.lemmas.List.{length-append, length-drop}
use Rattle.std.proofs.lemmas.List.Splits.{join_with_byte-slice_split, length-slice_split}
use Rattle.dt_tree.specs.Rule.{FollowsRule}
use Rattle.dt_tree.specs.Tree.{Tree}
use Rattle.dt_spelling.specs.declared.fault.TreeFault.TheVariants.{Syntax}
use Rattle.dt_spelling.specs.Fault.{IsLoose, IsBegun, offset_behind, IsFaultAt, IsRefused}
use Rattle.dt_spelling.specs.Reading.{Spent, node_at, only, whole_of, tree_at, words_from}
use Rattle.dt_spelling.specs.Spelling.{Word, Words, space, words_of, words_in, text_of, IsSpelling}
use Rattle.dt_spelling.proofs.Again.{size_of, tree_again}
use Rattle.dt_spelling.proofs.Cuts.{cuts_into_words}
use Rattle.dt_spelling.proofs.Goods.{IsNode, node_good}
use Rattle.dt_spelling.proofs.Readers.{Good}
use Rattle.dt_spelling.proofs.Rests.{lt_or_ge, from_within, from_past}
use Rattle.dt_spelling.proofs.Uniques.{no_spelling_begins_another}

-- a node that was read is that of a loose tree
abbrev Node : Spent Tree → Words → Type 0
Node y u = IsNode 64 131071 y u

good : Good (IsNode 64 131071) (node_at 64 131071)
good = node_good 64 131071 (omega arith)

loose_is : (y : Spent Tree) (u : Words) → IsNode 64 131071 y u → IsLoose y.0
loose_is y u h = let spent = h.spent in record { numbers = h.numbers; shallow = h.shallow; small = omega arith }

loose_again : (tree : Tree) (behind : Words) → IsLoose tree → (left : ℕ) × (node_at 64 131071 (words_of tree ++ behind) ≡ Ok ((tree, left), behind))
loose_again tree behind loose = (1 + 131071 - size_of tree, tree_again tree 64 131071 behind loose.numbers loose.shallow (let small = loose.small in omega arith))

-- what a whole text reads as
only_ok : (tree other : Tree) (words : Words) → only tree words ≡ Ok other → (tree ≡ other) × (words ≡ [])
only_ok tree other [] e = (cc, refl)
only_ok tree other (word ∷ words) e = cc

only_err : (tree : Tree) (words left : Words) → only tree words ≡ Err left → (words ≡ left) × (words ≢ [])
only_err tree [] left e = cc
only_err tree (word ∷ words) left e = (cc, λ none. cc none)

whole_ok : (read : Result (Spent Tree × Words) Words) (tree : Tree) → whole_of read ≡ Ok tree → (left : ℕ) × (read ≡ Ok ((tree, left), []))
whole_ok (Ok found) tree e =
    let h = only_ok found.0.0 tree found.1 e in (found.0.1, ap (λ (t : Tree). Ok ((t, found.0.1), found.1)) h.0 ∙ ap (λ (ws : Words). Ok ((tree, found.0.1), ws)) h.1)
whole_ok (Err left) tree e = cc

whole_err : (read : Result (Spent Tree × Words) Words) (left : Words) → whole_of read ≡ Err left → (read ≡ Err left) ⊎ ((tree : Tree) × (n : ℕ) × (read ≡ Ok ((tree, n), left)) × (left ≢ []))
whole_err (Ok found) left e =
    let h = only_err found.0.0 found.1 left e in inr (found.0.0, found.0.1, ap (λ (ws : Words). Ok (found.0, ws)) h.0, subst (λ (ws : Words). ws ≢ []) h.0 h.1)
whole_err (Err other) left e = inl cc

pub read_loose : (words : Words) (tree : Tree) → tree_at words ≡ Ok tree → (words ≡ words_of tree) × IsLoose tree
unfolding tree_at
read_loose words tree e =
    let read = whole_ok (node_at 64 131071 words) tree e in
    let took = good.ok words [] (tree, read.0) read.1 in
    (took.whole ∙ (append-nil took.front ∙ (took.has).words), loose_is (tree, read.0) took.front took.has)

-- where reading stops
pub record StopsAt (words left : Words) : Type 0 where
  pub before : Words
  pub whole : words ≡ before ++ left
  pub begun : IsBegun before
  pub wrong : (word : Word) (after : Words) → left ≡ word ∷ after → ¬ IsBegun (before ++ word ∷ [])
  pub none : (tree : Tree) → IsLoose tree → words ≢ words_of tree

one_more : (before : Words) (word : Word) (behind words : Words) → words ≡ (before ++ word ∷ []) ++ behind → words ≡ before ++ word ∷ behind
one_more before word behind words e = e ∙ append_assoc before (word ∷ []) behind

stuck : (words left : Words) → node_at 64 131071 words ≡ Err left → StopsAt words left
stuck words left e =
    let h = good.err words left e in
    let took = good.ok (h.front ++ h.next ∷ h.more) [] h.value h.goes_on in
    record {
      before = h.front;
      whole = h.whole;
      begun = record { tree = (h.value).0; behind = h.next ∷ h.more; loose = loose_is h.value took.front took.has; spelled = sym (took.has).words ∙ (sym (append-nil took.front) ∙ sym took.whole) };
      wrong = λ word after is b.
          let again = loose_again b.tree [] b.loose in
          let same = append-nil (words_of b.tree) ∙ one_more h.front word b.behind (words_of b.tree) b.spelled in
          cc (again.1, ap (node_at 64 131071) same, h.wrong word after b.behind is);
      none = λ tree loose is.
          let again = loose_again tree [] loose in
          cc (again.1, ap (node_at 64 131071) (append-nil (words_of tree) ∙ sym is), e);
    }

more_behind : (words left : Words) (tree : Tree) (n : ℕ) → node_at 64 131071 words ≡ Ok ((tree, n), left) → left ≢ [] → StopsAt words left
more_behind words left tree n e some =
    let took = good.ok words left (tree, n) e in
    let loose = loose_is (tree, n) took.front took.has in
    let whole : words ≡ words_of tree ++ left = took.whole ∙ ap (λ (ws : Words). ws ++ left) (took.has).words in
    record {
      before = words_of tree;
      whole = whole;
      begun = record { tree = tree; behind = []; loose = loose; spelled = sym (append-nil (words_of tree)) };
      wrong = λ word after is b.
          let h = no_spelling_begins_another tree b.tree (word ∷ b.behind) [] loose.numbers (b.loose).numbers (sym (append-nil (words_of b.tree) ∙ one_more (words_of tree) word b.behind (words_of b.tree) b.spelled)) in
          cc (h.1);
      none = λ other loose' is.
          let h = no_spelling_begins_another tree other left [] loose.numbers loose'.numbers (sym whole ∙ (is ∙ sym (append-nil (words_of other)))) in
          some h.1;
    }

pub stops_at : (words left : Words) → tree_at words ≡ Err left → StopsAt words left
unfolding tree_at
stops_at words left e = elim (whole_err (node_at 64 131071 words) left e) [ inl h ↦ stuck words left h | inr h ↦ more_behind words left h.0 h.1 h.2 h.3 ]

-- texts and their words
joined_again : (text : List ℕ) → join_with_byte space (words_in text) ≡ text
joined_again text = join_with_byte-slice_split space text

all_words : (text : List ℕ) → words_from text 0 ≡ words_in text
all_words text = from_within text 0 (omega arith)

pub spelling_read : (text : List ℕ) (tree : Tree) → tree_at (words_from text 0) ≡ Ok tree → FollowsRule tree → IsSpelling text tree
spelling_read text tree e rule =
    let h = read_loose (words_from text 0) tree e in
    (rule, sym (joined_again text) ∙ ap (join_with_byte space) (sym (all_words text) ∙ h.0))

pub too_far : (text : List ℕ) (tree : Tree) → tree_at (words_from text 0) ≡ Ok tree → ¬ FollowsRule tree → IsRefused text (Syntax (length text))
too_far text tree e broken =
    let h = read_loose (words_from text 0) tree e in
    let loose = h.1 in
    let spelled : text ≡ text_of tree = sym (joined_again text) ∙ ap (join_with_byte space) (sym (all_words text) ∙ h.0) in (
      λ other s.
          let words : words_of tree ++ [] ≡ words_of other ++ [] =
          ap (λ (ws : Words). ws ++ []) (sym (cuts_into_words tree loose.numbers) ∙ (ap words_in (sym spelled ∙ s.1) ∙ cuts_into_words other (s.0).numbers)) in
          broken (subst FollowsRule (sym (no_spelling_begins_another tree other [] [] loose.numbers (s.0).numbers words).0) s.0),
      inr (refl, inr (record { tree = tree; loose = loose; spelled = spelled; far = broken })),
    )

offset_is : (before : Words) (word : Word) (after : Words) → length (join_with_byte space (before ++ word ∷ after)) ≡ offset_behind before + length (join_with_byte space (word ∷ after))
offset_is [] word after = omega arith
offset_is (v ∷ []) word after = omega (arith, length-append v (space ∷ join_with_byte space (word ∷ after)))
offset_is (v ∷ u ∷ before) word after =
    omega (arith, length-append v (space ∷ join_with_byte space (u ∷ (before ++ word ∷ after))), offset_is (u ∷ before) word after)

not_none : (text : List ℕ) → words_in text ≢ []
not_none text none = absurd (omega (arith, length-slice_split (λ b. b == space) text, ap length none))

first_of : (words : Words) → words ≢ [] → (word : Word) × (after : Words) × (words ≡ word ∷ after)
first_of [] some = absurd (some refl)
first_of (word ∷ after) some = (word, after, refl)

rule_is_loose : (tree : Tree) → FollowsRule tree → IsLoose tree
rule_is_loose tree rule = record { numbers = rule.numbers; shallow = rule.shallow; small = rule.small }

words_again : (text : List ℕ) (tree : Tree) → IsLoose tree → text ≡ text_of tree → words_from text 0 ≡ words_of tree
words_again text tree loose is = all_words text ∙ (ap words_in is ∙ cuts_into_words tree loose.numbers)

module _ (text : List ℕ) (at : ℕ) (stop : StopsAt (words_from text 0) (words_from text at)) where
  at_end : length text < at → IsFaultAt text (min at (length text))
  at_end past =
      let all : words_in text ≡ stop.before = sym (all_words text) ∙ (stop.whole ∙ (ap (λ (ws : Words). stop.before ++ ws) (from_past text at past) ∙ append-nil stop.before)) in
      let place : min at (length text) ≡ length text = omega (arith, clamps) in
      inr (place, inl (record { begun = subst IsBegun (sym all) stop.begun; none = λ tree loose is. stop.none tree loose (words_again text tree loose is) }))

  at_word : at ≤ length text → IsFaultAt text (min at (length text))
  at_word within =
      let h = first_of (words_from text at) (subst (λ (ws : Words). ws ≢ []) (sym (from_within text at within)) (not_none (drop at text))) in
      let whole : words_in text ≡ stop.before ++ h.0 ∷ h.1 = sym (all_words text) ∙ (stop.whole ∙ ap (λ (ws : Words). stop.before ++ ws) h.2) in
      let rest : join_with_byte space (h.0 ∷ h.1) ≡ drop at text = ap (join_with_byte space) (sym h.2 ∙ from_within text at within) ∙ joined_again (drop at text) in
      let text_is : join_with_byte space (stop.before ++ h.0 ∷ h.1) ≡ text = ap (join_with_byte space) (sym whole) ∙ joined_again text in
      let place : min at (length text) ≡ offset_behind stop.before =
      omega (arith, clamps, offset_is stop.before h.0 h.1, ap length rest, ap length text_is, length-drop at text) in
      inl (record { before = stop.before; word = h.0; after = h.1; whole = whole; begun = stop.begun; wrong = stop.wrong h.0 h.1 h.2; place = place })

pub stopped : (text : List ℕ) (at : ℕ) → tree_at (words_from text 0) ≡ Err (words_from text at) → IsRefused text (Syntax (min at (length text)))
stopped text at e =
    let stop = stops_at (words_from text 0) (words_from text at) e in (
      λ tree s. stop.none tree (rule_is_loose tree s.0) (words_again text tree (rule_is_loose tree s.0) s.1),
      elim (lt_or_ge (length text) at) [ inl past ↦ at_end text at stop past | inr within ↦ at_word text at stop within ],
    )
