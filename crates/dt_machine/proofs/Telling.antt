-- What is told of a type's least trees.
use Rattle.std.proofs.Common.{◌≡◌, ℕ, ◌≤◌, ◌<◌, ℤ, pos, false, List, [], length, Option, Some, None, refl, sym, ap, subst, ◌∙◌, arith}
use Rattle.std.proofs.lemmas.List.{length-map}
use Rattle.dt_map.specs.declared.entry.Entry.{Entry}
use Rattle.dt_map.specs.Typemap.{shift_entry}
use Rattle.dt_rebuild.specs.Built.{built}
use Rattle.dt_reply.specs.declared.reply.Reply.TheVariants.{Least}
use Rattle.dt_script.specs.declared.command.Command.TheVariants.{Normalise, Rebuild}
use Rattle.dt_tree.specs.Cost.{cost_of}
use Rattle.dt_tree.specs.Tree.{Tree, flat, Denotes}
use Rattle.dt_tree.specs.Weights.{Weights}
use Rattle.dt_tree.proofs.Subtrees.{places_an_entry}
use Rattle.dt_type.specs.Datatype.{entries_of, marks_of}
use Rattle.dt_names.specs.declared.kept.Kept.{Kept}
use Rattle.dt_machine.specs.Choice.{MayBeTold, cost_told, text_told}
use Rattle.dt_machine.specs.Laws.{ToldIsLeast, NormaliseTellsOneCost, RebuiltPlacesTheSame, RebuiltIsTaken}
use Rattle.dt_machine.specs.State.{type_of, with_cost, with_count}
use Rattle.dt_machine.proofs.Rebuilding.{rebuilt_taken, rebuilt_places}

-- a tree that stands for entries: there are some
some_entries : (tree : Tree) (base : ℤ) (es : List Entry) → Denotes tree base es → 0 < length es
some_entries tree base es denotes =
    let some = places_an_entry tree denotes.0 in
    let same = length-map (flat tree) (shift_entry base) in
    let whole = ap length denotes.1 in
    omega (arith, some, same, whole)

-- of no entries no tree is told
pub no_choice : (w : Weights) (es : List Entry) (base : ℤ) (tree : Option Tree) → (¬ (0 < length es)) → MayBeTold w es base tree → (base ≡ pos 0) × (tree ≡ None)
no_choice w es base None few told = (told.1, refl)
no_choice w es base (Some tree) few told = absurd (few (some_entries tree base es told.2.0))

none_in : (es : List Entry) → es ≡ [] → ¬ (0 < length es)
none_in es none some = let zero = ap length none in absurd (omega (arith, zero, some))

told_least : (w : Weights) (es : List Entry) (base : ℤ) (tree : Option Tree) → MayBeTold w es base tree → (y : ℤ) (other : Tree) → Denotes other y es
    → cost_told w tree ≤ cost_of w other
told_least w es base None told y other denotes = omega arith
told_least w es base (Some tree) told y other denotes = told.2.1 y other denotes

same : (ty word : List ℕ) → Some ty ≡ Some word → ty ≡ word
same ty word is = cc

pub told_is_least : ToldIsLeast
told_is_least s t (Normalise ty) word reply is (kept, base, tree, stands, told, said, _) =
    (kept, cost_told s.weights tree, base, text_told tree, subst (λ o. o ≡ Some kept) (ap (λ x. type_of s x) (same ty word is)) stands, said, told_least s.weights (entries_of kept.ty) base tree told)
told_is_least s t (Rebuild name ty) word reply is (kept, base, tree, stands, told, said, _) =
    (kept, cost_told s.weights tree, base, text_told tree, subst (λ o. o ≡ Some kept) (ap (λ x. type_of s x) (same ty word is)) stands, said, told_least s.weights (entries_of kept.ty) base tree told)
told_is_least s t command word reply is performs = cc

one_cost : (w : Weights) (es : List Entry) (base base2 : ℤ) (tree tree2 : Option Tree) → MayBeTold w es base tree → MayBeTold w es base2 tree2
    → (cost_told w tree ≡ cost_told w tree2) × (base ≡ base2)
one_cost w es base base2 None None a b = (refl, a.1 ∙ sym b.1)
one_cost w es base base2 None (Some tree2) a b = absurd (none_in es a.0 (some_entries tree2 base2 es b.2.0))
one_cost w es base base2 (Some tree) None a b = absurd (none_in es b.0 (some_entries tree base es a.2.0))
one_cost w es base base2 (Some tree) (Some tree2) a b =
    let less = a.2.1 base2 tree2 b.2.0 in
    let more = b.2.1 base tree a.2.0 in
    (omega (arith, less, more), a.0 ∙ sym b.0)

pub normalise_tells_one_cost : NormaliseTellsOneCost
normalise_tells_one_cost s t u ty reply other (kept, base, tree, a, b, c, d) (kept2, base2, tree2, e, f, g, h) =
    let both : Some kept ≡ Some kept2 = sym a ∙ e in
    let same : kept ≡ kept2 = cc in
    let also : MayBeTold s.weights (entries_of kept.ty) base2 tree2 = subst (λ (k : Kept). MayBeTold s.weights (entries_of k.ty) base2 tree2) (sym same) f in
    let one = one_cost s.weights (entries_of kept.ty) base base2 tree tree2 b also in
    let state = ap (λ n. with_count (with_cost s n)) one.0 in
    let answer = ap (λ n. Least n base2 (text_told tree2)) (sym one.0) ∙ ap (λ x. Least (cost_told s.weights tree) x (text_told tree2)) (sym one.1) in
    (d ∙ (state ∙ sym h), (cost_told s.weights tree, base, text_told tree, text_told tree2, c, g ∙ answer))

pub rebuilt_places_the_same : RebuiltPlacesTheSame
rebuilt_places_the_same s t name ty reply (kept, base, tree, a, b, c, d) =
    (kept, record { ty = built base tree (marks_of kept.ty); committed = false }, a, d, rebuilt_places s.weights kept.ty base tree b)

pub rebuilt_is_taken : RebuiltIsTaken
rebuilt_is_taken w ty base tree told fits few narrow = rebuilt_taken w (entries_of ty) base tree (marks_of ty) told fits few narrow
