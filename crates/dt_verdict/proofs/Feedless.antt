-- the lines of a certificate have no line feeds
use Rattle.std.proofs.Common.{◌≡◌, ℕ, suc, ◌≤◌, ◌<◌, ◌==◌, Bool, true, false, not, ℤ, pos, negsuc, nat_abs, Option, Some, None, List, [], ◌∷◌, ◌++◌, map, length, get_or, codes, decimal, refl, arith}
use Rattle.std.specs.Fmt.{signed_decimal}
use Rattle.std.specs.List.{All, AllByRecursion, list_all}
use Rattle.std.specs.Str.Parse.{AllDigits}
use Rattle.std.proofs.lemmas.Fmt.{decimal_is_IsNumeral}
use Rattle.std.proofs.lemmas.Int.{ints, clamps}
use Rattle.std.proofs.lemmas.List.Elements.{All-from_get_or, All-cons, All-nil, All-weaker, All-append, All-head, All-tail}
use Rattle.std.proofs.lemmas.List.Sums.{AllPass-from_list_all}
use Rattle.std.proofs.lemmas.Str.Parse.{digit_at}
use Rattle.dt_kinds.specs.declared.kind.Kind.{Kind}
use Rattle.dt_kinds.specs.declared.kind.Kind.TheVariants.{Byte}
use Rattle.dt_kinds.specs.Kind.{name_of}
use Rattle.dt_map.specs.declared.entry.Entry.{Entry}
use Rattle.dt_map.specs.Limits.{EntryFits}
use Rattle.dt_check.specs.Members.{IsMember}
use Rattle.dt_normal.specs.declared.low.Low.{Low}
use Rattle.dt_tree.specs.Rule.{numbers_fit, parts_fit, part_count, is_step}
use Rattle.dt_tree.specs.Tree.{Tree, leaf, vector, index, group, Parts, no_parts, part}
use Rattle.dt_tree.proofs.Limits.{vector_fits, index_fits, part_fits, group_fits, step_fits}
use Rattle.dt_spelling.specs.Spelling.{Word, Words, space, words_of, words_of_parts}
use Rattle.dt_spelling.proofs.Numbers.{both_true}
use Rattle.dt_cert.specs.Certificate.{Certificate, Version, BySegments, ByClasses}
use Rattle.dt_cert.specs.Shown.{FollowsRuleIfAny, IsWritable}
use Rattle.dt_cert.specs.Text.{line_feed, version_line, weights_line, entry_line, tree_line, value_line, map_lines, lines_of}
use Rattle.dt_tree.specs.Weights.{Weights, AreLight}
use Rattle.dt_verdict.specs.Old.{old_lines}
use Rattle.dt_verdict.proofs.LineWords.{line_of}
use Rattle.dt_verdict.proofs.TextLines.{IsFeedless}

abbrev pub AreFeedless : Words → Type 0
AreFeedless words = AllByRecursion IsFeedless words

not_true : (b : Bool) → not b ≡ true → b ≡ false
not_true true e = cc
not_true false e = refl

passes : (word : Word) → list_all (λ b. not (b == line_feed)) word ≡ true → IsFeedless word
passes word e = All-weaker (λ b. not (b == line_feed) ≡ true) (λ b. (b == line_feed) ≡ false) (λ b. not_true (b == line_feed)) word (AllPass-from_list_all (λ b. not (b == line_feed)) word e)

not_feed : (b : ℕ) → 48 ≤ b → (b == line_feed) ≡ false
not_feed b low = grind arith

digits_feedless : (ds : Word) → AllDigits 10 ds → IsFeedless ds
digits_feedless ds digits = All-from_get_or (λ b. (b == line_feed) ≡ false) ds 0 (λ i lt. not_feed (get_or ds i 0) (digit_at ds i digits lt).0)

number_free : (n : ℕ) → n < 18446744073709551616 → IsFeedless (decimal n)
number_free n fits = digits_feedless (decimal n) (decimal_is_IsNumeral n fits).0.1

signed_free : (x : ℤ) → nat_abs x < 18446744073709551616 → IsFeedless (signed_decimal x)
signed_free (pos n) fits = number_free n fits
signed_free (negsuc n) fits = All-cons (λ b. (b == line_feed) ≡ false) 45 (decimal (suc n)) refl (number_free (suc n) fits)

name_passes : (kind : Kind) → list_all (λ b. not (b == line_feed)) (name_of kind) ≡ true
name_passes Byte = refl
name_passes _ = refl

name_free : (kind : Kind) → IsFeedless (name_of kind)
name_free kind = passes (name_of kind) (name_passes kind)

-- the words of a tree
both_free : (xs ys : Words) → AreFeedless xs → AreFeedless ys → AreFeedless (xs ++ ys)
both_free [] ys h k = k
both_free (x ∷ xs) ys h k = (h.0, both_free xs ys h.1 k)

places_free : (places : List ℤ) → list_all is_step places ≡ true → AreFeedless (map signed_decimal places)
places_free [] e = tt
places_free (x ∷ places) e =
    let h = both_true (is_step x) (list_all is_step places) e in
    (signed_free x (omega (arith, step_fits x h.0)), places_free places h.1)

mutual
  tree_free : (tree : Tree) → numbers_fit tree ≡ true → AreFeedless (words_of tree)
  tree_free (leaf kind) e = (passes (codes "leaf") refl, (name_free kind, tt))
  tree_free (vector count block stride child) e =
      let h = vector_fits count block stride child e in
      (passes (codes "vector") refl, (number_free count (omega (arith, h.count_fits)), (number_free block (omega (arith, h.block_fits)), (signed_free stride (omega (arith, h.stride_fits)), tree_free child h.child_fits))))
  tree_free (index block places child) e =
      let h = index_fits block places child e in
      (passes (codes "index") refl, (number_free (length places) (omega (arith, h.number_fits)), (number_free block (omega (arith, h.block_fits)), both_free (map signed_decimal places) (words_of child) (places_free places h.places_fit) (tree_free child h.child_fits))))
  tree_free (group parts) e =
      let h = group_fits parts e in
      (passes (codes "struct") refl, (number_free (part_count parts) (omega (arith, h.1)), parts_free parts h.2))

  parts_free : (parts : Parts) → parts_fit parts ≡ true → AreFeedless (words_of_parts parts)
  parts_free no_parts e = tt
  parts_free (part block disp child rest) e =
      let h = part_fits block disp child rest e in
      (number_free block (omega (arith, h.block_fits)), (signed_free disp (omega (arith, h.disp_fits)), both_free (words_of child) (words_of_parts rest) (tree_free child h.child_fits) (parts_free rest h.rest_fits)))

-- lines
joined_free : (words : Words) → AreFeedless words → IsFeedless (line_of words)
joined_free [] h = All-nil (λ b. (b == line_feed) ≡ false)
joined_free (word ∷ []) h = h.0
joined_free (word ∷ next ∷ words) h =
    All-append (λ b. (b == line_feed) ≡ false) word (space ∷ line_of (next ∷ words)) h.0 (All-cons (λ b. (b == line_feed) ≡ false) space (line_of (next ∷ words)) refl (joined_free (next ∷ words) h.1))

version_free : (version : Version) → AreFeedless (version_line version)
version_free BySegments = (passes (codes "dtcert") refl, (passes (codes "2") refl, tt))
version_free ByClasses = (passes (codes "dtcert") refl, (passes (codes "3") refl, tt))

tree_line_free : (t : Option Tree) → FollowsRuleIfAny t → AreFeedless (tree_line t)
tree_line_free None rule = (passes (codes "tree") refl, (passes (codes "empty") refl, tt))
tree_line_free (Some tree) rule = (passes (codes "tree") refl, tree_free tree rule.numbers)

entries_free : (es : List Entry) → All EntryFits es → AreFeedless (map line_of (map entry_line es))
entries_free [] fit = tt
entries_free (e ∷ es) fit =
    let h = All-head EntryFits e es fit in
    let low = (h.0).0 in
    let high = (h.0).1 in
    (joined_free (entry_line e) (passes (codes "entry") refl, (name_free e.kind, (signed_free e.disp (omega (arith, ints, clamps, low, high)), tt))), entries_free es (All-tail EntryFits e es fit))

value_free : (version : Version) (a : Low) → a.from < 18446744073709551616 → a.to < 18446744073709551616 → a.low < 18446744073709551616 → AreFeedless (value_line version a)
value_free BySegments a from to low = (passes (codes "low") refl, (number_free a.from from, (number_free a.to to, (number_free a.low low, tt))))
value_free ByClasses a from to low = (passes (codes "class") refl, (number_free a.from from, (number_free a.to to, (number_free a.low low, tt))))

values_free : (version : Version) (m : List Entry) (values : List Low) → length m ≤ 1024 → All (IsMember m) values → All (λ a. a.low < 18446744073709551616) values →
    AreFeedless (map line_of (map (value_line version) values ++ (codes "end" ∷ []) ∷ []))
values_free version m [] few members low = (passes (codes "end") refl, tt)
values_free version m (a ∷ values) few members low =
    let member = All-head (IsMember m) a values members in (
      joined_free (value_line version a) (value_free version a (omega (arith, member.0, member.1)) (omega (arith, member.1)) (All-head (λ b. b.low < 18446744073709551616) a values low)),
      values_free version m values few (All-tail (IsMember m) a values members) (All-tail (λ b. b.low < 18446744073709551616) a values low),
    )

lines_joined : (xs ys : List Words) → AreFeedless (map line_of xs) → AreFeedless (map line_of ys) → AreFeedless (map line_of (xs ++ ys))
lines_joined [] ys h k = k
lines_joined (x ∷ xs) ys h k = (h.0, lines_joined xs ys h.1 k)

weights_free : (w : Weights) → AreLight w → IsFeedless (line_of (weights_line w))
weights_free w light =
    joined_free (weights_line w) (
      passes (codes "weights") refl,
      (number_free w.leaf (omega (arith, clamps, light)), (number_free w.vector (omega (arith, clamps, light)), (number_free w.index (omega (arith, clamps, light)), (number_free w.place (omega (arith, clamps, light)), (number_free w.group (omega (arith, clamps, light)), (number_free w.part (omega (arith, clamps, light)), tt)))))),
    )

map_free : (es : List Entry) → length es ≤ 1024 → All EntryFits es → AreFeedless (map line_of (map_lines es))
map_free es few fit = (joined_free (codes "map" ∷ decimal (length es) ∷ []) (passes (codes "map") refl, (number_free (length es) (omega arith), tt)), entries_free es fit)

pub old_free : (w : Weights) (m : List Entry) → AreLight w → length m ≤ 1024 → All EntryFits m → AreFeedless (map line_of (old_lines w m))
old_free w m light few fit = (passes (codes "dtcert 1") refl, (weights_free w light, map_free m few fit))

pub lines_free : (c : Certificate) → IsWritable c → AreFeedless (map line_of (lines_of c))
lines_free c h =
    let few = h.few in
    let low = h.base_low in
    let high = h.base_high in (
      joined_free (version_line c.version) (version_free c.version),
      (
        weights_free c.weights h.light,
        lines_joined (map_lines c.entries) _ (map_free c.entries h.few h.fit) (
          joined_free (codes "base" ∷ signed_decimal c.base ∷ []) (passes (codes "base") refl, (signed_free c.base (omega (arith, ints, clamps, low, high)), tt)),
          (
            joined_free (tree_line c.tree) (tree_line_free c.tree h.rule),
            (
              joined_free (codes "cost" ∷ decimal c.cost ∷ []) (passes (codes "cost") refl, (number_free c.cost h.cost, tt)),
              values_free c.version c.entries c.values h.few h.members h.low,
            ),
          ),
        ),
      ),
    )
