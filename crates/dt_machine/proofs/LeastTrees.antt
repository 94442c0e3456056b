-- Refusals of commands on trees, and what is told of a best tree.
use Rattle.std.proofs.Common.{◌≡◌, ℕ, ◌≤◌, ◌<◌, ℤ, pos, negsuc, nat_abs, false, List, [], ◌∷◌, length, Option, Some, None, sym, ap, subst, ◌∙◌, arith, MatchOption}
use Rattle.std.proofs.lemmas.Int.{ints}
use Rattle.std.specs.Option.{option_map, IsSomeAnd}
use Rattle.dt_kinds.specs.Name.{is_left_out}
use Rattle.dt_form.specs.Form.{is_named}
use Rattle.dt_map.specs.declared.entry.Entry.{Entry}
use Rattle.dt_normal.specs.Bests.{IsBestOf}
use Rattle.dt_normal.specs.declared.low.Low.{Low}
use Rattle.dt_offsets.specs.declared.marks.Marks.{Marks}
use Rattle.dt_rebuild.specs.Built.{built}
use Rattle.dt_reply.specs.declared.refusal.Refusal.{Refusal}
use Rattle.dt_reply.specs.declared.refusal.Refusal.TheVariants as refusal
use Rattle.dt_reply.specs.declared.reply.Reply.TheVariants.{Least}
use Rattle.dt_script.specs.declared.command.Command.TheVariants.{Weights as Weigh, Normalise, Rebuild}
use Rattle.dt_tree.specs.declared.node.Node.{Node}
use Rattle.dt_tree.specs.Node.{tree_of}
use Rattle.dt_tree.specs.Tree.{Tree}
use Rattle.dt_tree.specs.Weights.{Weights, AreLight}
use Rattle.dt_type.specs.Basic.{is_basic}
use Rattle.dt_type.specs.Datatype.{entries_of}
use Rattle.dt_type.specs.declared.datatype.Seen.{Seen, out-roll-Seen}
use Rattle.dt_names.specs.declared.kept.Kept.{Kept}
use Rattle.dt_names.specs.declared.stop.Stop.{Stop}
use Rattle.dt_names.specs.declared.stop.Stop.TheVariants.{Refused, NoMemory}
use Rattle.dt_names.specs.Missing.{IsMissing}
use Rattle.dt_names.proofs.WordLemmas.{only_memory, stands}
use Rattle.dt_machine.specs.Best.{IsWithout}
use Rattle.dt_machine.specs.Choice.{IsWeight, AreWeights, weights_by, MayBeTold, cost_told, text_told, tells, AreTooWide}
use Rattle.dt_machine.specs.declared.limits.TheConstants.{MOST_SOUGHT}
use Rattle.dt_machine.specs.declared.outcome.Change.TheVariants as change
use Rattle.dt_machine.specs.Outcome.{CanChange, IsStop}
use Rattle.dt_machine.specs.Refusal.{new_type_row, conditions, IsRefusedBy, IsAllowed, NoMoreTypes}
use Rattle.dt_machine.specs.Row.{◌when◌, IsFirst, IsClear}
use Rattle.dt_machine.specs.State.{State, type_of, is_unknown}
use Rattle.dt_machine.proofs.NamedTypes.{names_known, names_free, names_supported, free_under, can_make}
use Rattle.dt_machine.proofs.Rows.{refused, allowed, behind_three, first_front, some_and, and_some}
use Rattle.dt_machine.proofs.TypeWords.{missing, is_known, is_supported}

-- `weights LEAF VECTOR INDEX PLACE GROUP PART`
module _ (s : State) (leaf vector index place group part : ℤ) where
  pub weights_wrong : (¬ AreWeights leaf vector index place group part) → IsRefusedBy s (Weigh leaf vector index place group part) refusal.BadArgument
  weights_wrong wrong = refused s (Weigh leaf vector index place group part) refusal.BadArgument wrong

  pub weights_allowed : AreWeights leaf vector index place group part → IsAllowed s (Weigh leaf vector index place group part)
  weights_allowed are =
      let none : ¬ (¬ AreWeights leaf vector index place group part) = λ wrong. wrong are in
      allowed s (Weigh leaf vector index place group part) (none, tt)

small : (x : ℤ) → IsWeight x → nat_abs x ≤ 1000000
small (pos n) h = let most = h.1 in omega (arith, ints, most)
small (negsuc n) h = let least = h.0 in absurd (omega (arith, ints, least))

-- six numbers that may be weights are within the limit of weights
pub are_light : (leaf vector index place group part : ℤ) → AreWeights leaf vector index place group part → AreLight (weights_by leaf vector index place group part)
are_light leaf vector index place group part (a, b, c, d, e, f) =
    let la = small leaf a in
    let lb = small vector b in
    let lc = small index c in
    let ld = small place d in
    let le = small group e in
    let lf = small part f in
    omega (arith, la, lb, lc, ld, le, lf)

-- the weights of such numbers, as they are made
pub weighed : (leaf vector index place group part : ℤ) (made : Weights) (found : Option Weights) → AreWeights leaf vector index place group part
    → made ≡ weights_by leaf vector index place group part → MatchOption found (¬ AreLight made) (λ w. w ≡ made)
    → MatchOption found (¬ AreWeights leaf vector index place group part) (λ w. AreWeights leaf vector index place group part × (w ≡ weights_by leaf vector index place group part))
weighed leaf vector index place group part made None are is none = absurd (none (subst AreLight (sym is) (are_light leaf vector index place group part are)))
weighed leaf vector index place group part made (Some w) are is same = (are, same ∙ is)

-- `normalise TYPE`
abbrev HasMany : Kept → Type 0
HasMany kept = MOST_SOUGHT < length (entries_of kept.ty)

not_many : (s : State) (ty : List ℕ) (kept : Kept) → type_of s ty ≡ Some kept → length (entries_of kept.ty) ≤ MOST_SOUGHT → ¬ IsSomeAnd (type_of s ty) HasMany
not_many s ty kept is few h = let many = and_some (type_of s ty) HasMany kept is h in absurd (omega (arith, many, few))

pub normalise_missing : (s : State) (ty : List ℕ) (stop : Stop) → IsMissing s.types ty stop → IsStop s (Normalise ty) stop
normalise_missing s ty = missing s ty (Normalise ty) (refusal.TooManyEntries when IsSomeAnd (type_of s ty) HasMany ∷ []) (λ _ first. first)

pub normalise_many : (s : State) (ty : List ℕ) (kept : Kept) → type_of s ty ≡ Some kept → HasMany kept → IsRefusedBy s (Normalise ty) refusal.TooManyEntries
normalise_many s ty kept is many =
    refused s (Normalise ty) refusal.TooManyEntries (is_known s ty kept is, (is_supported s ty kept is, some_and (type_of s ty) HasMany kept is many))

pub normalise_without : (s : State) (ty : List ℕ) (kept : Kept) → type_of s ty ≡ Some kept → (stop : Stop) → IsWithout (entries_of kept.ty) stop
    → IsStop s (Normalise ty) stop
normalise_without s ty kept is (Refused refusal.TooManyEntries) many = normalise_many s ty kept is many
normalise_without s ty kept is NoMemory h = tt
normalise_without s ty kept is other h = absurd h

pub normalise_allowed : (s : State) (ty : List ℕ) (kept : Kept) → type_of s ty ≡ Some kept → length (entries_of kept.ty) ≤ MOST_SOUGHT → IsAllowed s (Normalise ty)
normalise_allowed s ty kept is few =
    allowed s (Normalise ty) (is_known s ty kept is, (is_supported s ty kept is, (not_many s ty kept is few, tt)))

-- a best tree may be told, and is told with its cost
pub best_told : (w : Weights) (m : List Entry) (base : ℤ) (tree : Option Node) (cost : ℕ) (lows : List Low) → IsBestOf w m base tree cost lows
    → MayBeTold w m base (option_map tree_of tree) × (cost ≡ cost_told w (option_map tree_of tree))
best_told w m base None cost lows b = ((b.none, b.base_zero), b.cost_zero)
best_told w m base (Some node) cost lows b = ((b.first, b.tidy, b.least), b.costs)

pub told_by : (w : Weights) (base : ℤ) (tree : Option Tree) (cost : ℕ) → cost ≡ cost_told w tree → Least cost base (text_told tree) ≡ tells w base tree
told_by w base tree cost is = ap (λ n. Least n base (text_told tree)) is

-- `rebuild NAME = TYPE`
abbrev Names : State → List ℕ → List ℕ → Type 0
Names s name ty = IsClear (new_type_row s name (is_unknown s ty) (is_left_out ty) [])

pub rebuild_names : (s : State) (name ty : List ℕ) (refusal : Refusal) → IsFirst (new_type_row s name (is_unknown s ty) (is_left_out ty) []) refusal
    → IsRefusedBy s (Rebuild name ty) refusal
rebuild_names s name ty refusal first = refused s (Rebuild name ty) refusal (first_front (new_type_row s name (is_unknown s ty) (is_left_out ty) []) (behind_three (conditions s (Rebuild name ty))) refusal first)

-- where the names say nothing against it, memory alone can be wanting of the type
pub rebuild_missing : (s : State) (name ty : List ℕ) → Names s name ty → (stop : Stop) → IsMissing s.types ty stop → IsStop s (Rebuild name ty) stop
rebuild_missing s name ty names (Refused refusal) is =
    absurd (only_memory s.types ty (stands s.types ty (names_known s name (is_unknown s ty) (is_left_out ty) names) (names_supported s name (is_unknown s ty) (is_left_out ty) names)) refusal is)
rebuild_missing s name ty names NoMemory is = tt

module _ (s : State) (name ty : List ℕ) (names : Names s name ty) (kept : Kept) (is : type_of s ty ≡ Some kept) where
  abbrev IsWide : Kept → Type 0
  IsWide kept = AreTooWide (entries_of kept.ty)

  not_wide : (¬ IsWide kept) → ¬ IsSomeAnd (type_of s ty) IsWide
  not_wide narrow h = narrow (and_some (type_of s ty) IsWide kept is h)

  pub rebuild_wide : IsWide kept → IsRefusedBy s (Rebuild name ty) refusal.Overflow
  rebuild_wide wide = refused s (Rebuild name ty) refusal.Overflow (names.0, (names.1.0, (names.1.1.0, some_and (type_of s ty) IsWide kept is wide)))

  pub rebuild_full : (¬ IsWide kept) → NoMoreTypes s → IsRefusedBy s (Rebuild name ty) refusal.TooManyNames
  rebuild_full narrow full = refused s (Rebuild name ty) refusal.TooManyNames (names.0, (names.1.0, (names.1.1.0, (not_wide narrow, full))))

  pub rebuild_many : (¬ IsWide kept) → (¬ NoMoreTypes s) → HasMany kept → IsRefusedBy s (Rebuild name ty) refusal.TooManyEntries
  rebuild_many narrow room many =
      refused s (Rebuild name ty) refusal.TooManyEntries (names.0, (names.1.0, (names.1.1.0, (not_wide narrow, (room, some_and (type_of s ty) HasMany kept is many)))))

  pub rebuild_without : (¬ IsWide kept) → (¬ NoMoreTypes s) → (stop : Stop) → IsWithout (entries_of kept.ty) stop → IsStop s (Rebuild name ty) stop
  rebuild_without narrow room (Refused refusal.TooManyEntries) many = rebuild_many narrow room many
  rebuild_without narrow room NoMemory h = tt
  rebuild_without narrow room other h = absurd h

  pub rebuild_allowed : (¬ IsWide kept) → (¬ NoMoreTypes s) → length (entries_of kept.ty) ≤ MOST_SOUGHT → IsAllowed s (Rebuild name ty)
  rebuild_allowed narrow room few =
      allowed s (Rebuild name ty) (names.0, (names.1.0, (names.1.1.0, (not_wide narrow, (room, (not_many s ty kept is few, tt))))))

  pub rebuild_can : (t : Seen) → is_basic t ≡ false → (¬ NoMoreTypes s) → CanChange (change.AddType name (record { ty = t; committed = false })) s
  rebuild_can t derived room =
      (free_under s name (names_free s name (is_unknown s ty) (is_left_out ty) names), can_make s room, λ basic. sym (sym basic ∙ derived))

-- what is built is no basic type
pub built_derived : (base : ℤ) (tree : Option Tree) (marks : Option Marks) → is_basic (built base tree marks) ≡ false
built_derived base None None = ap (λ layer. is_named layer.form) (out-roll-Seen _)
built_derived base None (Some marks) = ap (λ layer. is_named layer.form) (out-roll-Seen _)
built_derived base (Some tree) None = ap (λ layer. is_named layer.form) (out-roll-Seen _)
built_derived base (Some tree) (Some marks) = ap (λ layer. is_named layer.form) (out-roll-Seen _)
