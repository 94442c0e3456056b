-- What holds of the definitions themselves.
use Rattle.std.specs.Prelude.{◌≡◌, ◌↔◌, ℕ, ◌<◌, ◌≤◌, ℤ, Bool, List, length, Option, Some, None}
use Rattle.std.specs.List.{AllByRecursion}
use Rattle.std.specs.Option.{IsSomeAnd}
use Rattle.dt_map.specs.Limits.{IsInRange}
use Rattle.dt_rebuild.specs.Answer.{IsTaken}
use Rattle.dt_rebuild.specs.Built.{all_forms}
use Rattle.dt_reply.specs.declared.refusal.Refusal.{Refusal}
use Rattle.dt_reply.specs.declared.reply.Reply.{Reply}
use Rattle.dt_reply.specs.declared.reply.Reply.TheVariants.{Least}
use Rattle.dt_script.specs.declared.command.Command.{Command}
use Rattle.dt_script.specs.declared.command.Command.TheVariants.{Normalise, Rebuild}
use Rattle.dt_script.specs.Line.{Does, IsLine}
use Rattle.dt_script.specs.Lines.{script_lines}
use Rattle.dt_tree.specs.Cost.{cost_of}
use Rattle.dt_tree.specs.Tree.{Tree, Denotes}
use Rattle.dt_tree.specs.Weights.{Weights}
use Rattle.dt_type.specs.Datatype.{typemap_of, entries_of, marks_of}
use Rattle.dt_type.specs.declared.datatype.Seen.{Seen}
use Rattle.dt_names.specs.declared.kept.Kept.{Kept}
use Rattle.dt_machine.specs.Answers.{Answers}
use Rattle.dt_machine.specs.Choice.{MayBeTold, AreTooWide}
use Rattle.dt_machine.specs.declared.limits.TheConstants.{MOST_SOUGHT}
use Rattle.dt_machine.specs.Refusal.{conditions, IsRefusedBy, IsAllowed}
use Rattle.dt_machine.specs.Row.{IsFirst, IsClear}
use Rattle.dt_machine.specs.State.{State, type_of, with_type, with_count}
use Rattle.dt_machine.specs.Step.{Performs, Step}

-- what refuses a command is the first condition of its row that holds: no condition of a lesser number does
abbrev pub FirstIsLeast : Type 0
FirstIsLeast = (s : State) (command : Command) (refusal : Refusal) → IsRefusedBy s command refusal ↔ IsFirst (conditions s command) refusal

-- a command is allowed where no condition of its row holds
abbrev pub AllowedIsClear : Type 0
AllowedIsClear = (s : State) (command : Command) → IsAllowed s command ↔ IsClear (conditions s command)

-- the type of which a command tells a least tree
abbrev pub sought : Command → Option (List ℕ)
sought (Normalise ty) = Some ty
sought (Rebuild name ty) = Some ty
sought command = None

-- a line that asks for a least tree of a type that has entries, so that one of several may be chosen
abbrev pub Chooses : State → List ℕ → Type 0
Chooses s line =
    (command : Command) × IsLine line (Does command)
    × IsSomeAnd (sought command) (λ ty. IsSomeAnd (type_of s ty) (λ kept. 0 < length (entries_of kept.ty)))

-- Where nothing is to be chosen a step is a function: two steps from one state by one line have one reply and one state.
abbrev pub StepIsFunction : Type 0
StepIsFunction =
    (s t u : State) (line : List ℕ) (reply other : Reply) → (¬ Chooses s line) → Step s line reply t → Step s line other u → (reply ≡ other) × (t ≡ u)

-- Where no line chooses, whatever the state, two answers to one input are one text, and both are accepted or neither is.
abbrev pub AnswersAreOne : Type 0
AnswersAreOne =
    (input text other : List ℕ) (accepted also : Bool) → AllByRecursion (λ line. (s : State) → ¬ Chooses s line) (script_lines input)
    → Answers input text accepted → Answers input other also → (text ≡ other) × (accepted ≡ also)

-- What is told is least: no tree over leaf, vector, index and struct that stands for the type's entries, from whatever base on, costs less under
-- the weights in force, whichever they are.
abbrev pub ToldIsLeast : Type 0
ToldIsLeast =
    (s t : State) (command : Command) (ty : List ℕ) (reply : Reply) → sought command ≡ Some ty → Performs command s reply t
    → (kept : Kept) × (cost : ℕ) × (base : ℤ) × (text : List ℕ) × (type_of s ty ≡ Some kept) × (reply ≡ Least cost base text)
    × ((y : ℤ) (other : Tree) → Denotes other y (entries_of kept.ty) → cost ≤ cost_of s.weights other)

-- whichever tree `normalise` tells, its cost and its base are the same, and so is the state behind
abbrev pub NormaliseTellsOneCost : Type 0
NormaliseTellsOneCost =
    (s t u : State) (ty : List ℕ) (reply other : Reply) → Performs (Normalise ty) s reply t → Performs (Normalise ty) s other u
    → (t ≡ u) × ((cost : ℕ) × (base : ℤ) × (text also : List ℕ) × (reply ≡ Least cost base text) × (other ≡ Least cost base also))

-- whichever tree it is built from, a rebuilt type has the entries of its type in their order, and its marks
abbrev pub RebuiltPlacesTheSame : Type 0
RebuiltPlacesTheSame =
    (s t : State) (name ty : List ℕ) (reply : Reply) → Performs (Rebuild name ty) s reply t
    → (kept new : Kept) × (type_of s ty ≡ Some kept) × (t ≡ with_count (with_type s name new)) × (typemap_of new.ty ≡ typemap_of kept.ty)

-- no constructor refuses that builds it, where its entries aren't too wide and no more than 1,024
abbrev pub RebuiltIsTaken : Type 0
RebuiltIsTaken =
    (w : Weights) (ty : Seen) (base : ℤ) (tree : Option Tree) → MayBeTold w (entries_of ty) base tree → IsInRange (typemap_of ty)
    → length (entries_of ty) ≤ MOST_SOUGHT → (¬ AreTooWide (entries_of ty)) → AllByRecursion IsTaken (all_forms base tree (marks_of ty))
