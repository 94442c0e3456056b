-- the trees that texts spell
use Rattle.std.proofs.Common.{◌≡◌, ℕ, true, ◌&&◌, nat_le, nat_abs, Some, None, Result, Ok, Err, List, [], refl, sym, ap, subst, ◌∙◌, append-nil, arith}
use Rattle.std.specs.List.{join_with_byte}
use Rattle.std.specs.Option.{option_and_then}
use Rattle.std.specs.Result.{result_ok}
use Rattle.std.proofs.lemmas.List.Splits.{join_with_byte-slice_split}
use Rattle.dt_map.specs.declared.entry.Entry.{Entry}
use Rattle.dt_map.specs.Bounds.{true_lb, true_ub}
use Rattle.dt_tree.specs.Rule.{FollowsRule, IsShort, AreShort, PartsShort, numbers_fit, depth_of, words_of as size_of}
use Rattle.dt_tree.specs.Tree.{Tree, leaf, vector, index, group, Parts, no_parts, part, flat}
use Rattle.dt_tree.proofs.Rules.{short_subtrees}
use Rattle.dt_spelling.specs.Reading.{node_at, whole_of, tree_at, where_true}
use Rattle.dt_spelling.specs.Spelling.{IsSpelling, Words, words_of, words_in, space}
use Rattle.dt_spelling.proofs.Again.{tree_again}
use Rattle.dt_spelling.proofs.Cuts.{cuts_into_words}
use Rattle.dt_spelling.proofs.Faults.{read_loose}
use Rattle.dt_spelling.proofs.Numbers.{both_true, is_le, le_is, passed}
use Rattle.dt_verdict.specs.Trees.{is_short, are_short, parts_short, follows_rule, tree_spelled}
use Rattle.dt_verdict.proofs.Naturals.{both_are, is_none}

-- the test of the rule
short_is : (es : List Entry) → is_short es ≡ true → IsShort es
short_is es e =
    let h = both_true (nat_le (nat_abs (true_lb es)) 1208925819614629174706176) (nat_le (nat_abs (true_ub es)) 1208925819614629174706176) e in
    record { from = is_le (nat_abs (true_lb es)) 1208925819614629174706176 h.0; to = is_le (nat_abs (true_ub es)) 1208925819614629174706176 h.1 }

is_short_is : (es : List Entry) → IsShort es → is_short es ≡ true
is_short_is es h =
    both_are (nat_le (nat_abs (true_lb es)) 1208925819614629174706176) (nat_le (nat_abs (true_ub es)) 1208925819614629174706176)
    (le_is (nat_abs (true_lb es)) 1208925819614629174706176 h.from) (le_is (nat_abs (true_ub es)) 1208925819614629174706176 h.to)

mutual
  all_short : (tree : Tree) → are_short tree ≡ true → AreShort tree
  all_short (leaf kind) e = tt
  all_short (vector count block stride child) e =
      let h = both_true (is_short (flat (vector count block stride child))) (are_short child) e in (short_is (flat (vector count block stride child)) h.0, all_short child h.1)
  all_short (index block places child) e =
      let h = both_true (is_short (flat (index block places child))) (are_short child) e in (short_is (flat (index block places child)) h.0, all_short child h.1)
  all_short (group parts) e =
      let h = both_true (is_short (flat (group parts))) (parts_short parts) e in (short_is (flat (group parts)) h.0, all_parts_short parts h.1)

  all_parts_short : (parts : Parts) → parts_short parts ≡ true → PartsShort parts
  all_parts_short no_parts e = tt
  all_parts_short (part block disp child rest) e = let h = both_true (are_short child) (parts_short rest) e in (all_short child h.0, all_parts_short rest h.1)

mutual
  short_passes : (tree : Tree) → AreShort tree → are_short tree ≡ true
  short_passes (leaf kind) h = refl
  short_passes (vector count block stride child) h =
      both_are (is_short (flat (vector count block stride child))) (are_short child) (is_short_is (flat (vector count block stride child)) h.0) (short_passes child h.1)
  short_passes (index block places child) h =
      both_are (is_short (flat (index block places child))) (are_short child) (is_short_is (flat (index block places child)) h.0) (short_passes child h.1)
  short_passes (group parts) h = both_are (is_short (flat (group parts))) (parts_short parts) (is_short_is (flat (group parts)) h.0) (parts_pass parts h.1)

  parts_pass : (parts : Parts) → PartsShort parts → parts_short parts ≡ true
  parts_pass no_parts h = refl
  parts_pass (part block disp child rest) h = both_are (are_short child) (parts_short rest) (short_passes child h.0) (parts_pass rest h.1)

pub rule_is : (tree : Tree) → follows_rule tree ≡ true → FollowsRule tree
unfolding follows_rule
rule_is tree e =
    let a = both_true (numbers_fit tree) (nat_le (depth_of tree) 64 && (nat_le (size_of tree) 131072 && are_short tree)) e in
    let b = both_true (nat_le (depth_of tree) 64) (nat_le (size_of tree) 131072 && are_short tree) a.1 in
    let c = both_true (nat_le (size_of tree) 131072) (are_short tree) b.1 in
    record {
      numbers = a.0;
      shallow = is_le (depth_of tree) 64 b.0;
      small = is_le (size_of tree) 131072 c.0;
      short = (short_subtrees tree).0 (all_short tree c.1);
    }

pub rule_passes : (tree : Tree) → FollowsRule tree → follows_rule tree ≡ true
unfolding follows_rule
rule_passes tree rule =
    both_are (numbers_fit tree) (nat_le (depth_of tree) 64 && (nat_le (size_of tree) 131072 && are_short tree)) rule.numbers
    (both_are (nat_le (depth_of tree) 64) (nat_le (size_of tree) 131072 && are_short tree) (le_is (depth_of tree) 64 rule.shallow)
    (both_are (nat_le (size_of tree) 131072) (are_short tree) (le_is (size_of tree) 131072 rule.small) (short_passes tree ((short_subtrees tree).1 rule.short))))

-- what is spelled
tree_read : (tree : Tree) → FollowsRule tree → tree_at (words_of tree) ≡ Ok tree
unfolding tree_at
tree_read tree rule =
    ap (λ (ws : Words). whole_of (node_at 64 131071 ws)) (sym (append-nil (words_of tree)))
    ∙ ap whole_of (tree_again tree 64 131071 [] rule.numbers rule.shallow (let small = rule.small in omega arith))

pub spelled_read : (text : List ℕ) (tree : Tree) → IsSpelling text tree → tree_spelled text ≡ Some tree
unfolding tree_spelled
spelled_read text tree s =
    let words : words_in text ≡ words_of tree = ap words_in s.1 ∙ cuts_into_words tree (s.0).numbers in
    ap (λ (ws : Words). option_and_then (λ t. where_true (follows_rule t) t) (result_ok (tree_at ws))) words
    ∙ (ap (λ (r : Result Tree Words). option_and_then (λ t. where_true (follows_rule t) t) (result_ok r)) (tree_read tree s.0)
    ∙ ap (λ b. where_true b tree) (rule_passes tree s.0))

tested : (r : Result Tree Words) (tree : Tree) → option_and_then (λ t. where_true (follows_rule t) t) (result_ok r) ≡ Some tree → (r ≡ Ok tree) × (follows_rule tree ≡ true)
tested (Ok t) tree e =
    let h = passed (follows_rule t) t tree e in (ap (λ (x : Tree). Ok x) h.1, subst (λ (x : Tree). follows_rule x ≡ true) h.1 h.0)
tested (Err left) tree e = cc

pub read_spelled : (text : List ℕ) (tree : Tree) → tree_spelled text ≡ Some tree → IsSpelling text tree
unfolding tree_spelled
read_spelled text tree e =
    let h = tested (tree_at (words_in text)) tree e in
    (rule_is tree h.1, sym (join_with_byte-slice_split space text) ∙ ap (join_with_byte space) (read_loose (words_in text) tree h.0).0)

pub none_spelled : (text : List ℕ) → ((tree : Tree) → ¬ IsSpelling text tree) → tree_spelled text ≡ None
none_spelled text none = is_none (tree_spelled text) (λ tree e. none tree (read_spelled text tree e))
