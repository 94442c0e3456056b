use Rattle.std.specs.Prelude.{Option, None, Some, ℤ, pos, ◌-ℤ◌, List, [], ◌∷◌, ◌++◌}
use Rattle.dt_kinds.specs.declared.kind.Kind.TheVariants.{Byte}
use Rattle.dt_offsets.specs.declared.marks.Marks.{Marks}
use Rattle.dt_form.specs.declared.form.FormOf.{FormOf}
use Rattle.dt_form.specs.declared.form.FormOf.TheVariants.{Named, Contiguous, Hvector, HindexedBlock, Struct, Resized}
use Rattle.dt_form.specs.declared.form.PartOf.{PartOf}
use Rattle.dt_type.specs.declared.datatype.Seen.{Seen}
use Rattle.dt_type.specs.Form.{result_of}
use Rattle.dt_map.specs.Typemap.{Marked, shift}
use Rattle.dt_tree.specs.Tree.{Tree, leaf, vector, index, group, Parts, no_parts, part, flat}

-- The datatype of a tree, by the constructors that its nodes are called after (MPI 4.1, section 5.1.2).

-- the constructor of a node, over the datatypes of its children
abbrev mutual
  pub form_of_tree : Tree → FormOf Seen
  form_of_tree (leaf kind) = Named kind
  form_of_tree (vector count block stride child) = Hvector (pos count) (pos block) stride (result_of (form_of_tree child))
  form_of_tree (index block places child) = HindexedBlock (pos block) places (result_of (form_of_tree child))
  form_of_tree (group parts) = Struct (typed parts)

  pub typed : Parts → List (PartOf Seen)
  typed no_parts = []
  typed (part block disp child rest) = (record { len = pos block; disp = disp; old = result_of (form_of_tree child) }) ∷ typed rest

abbrev pub type_of_tree : Tree → Seen
type_of_tree tree = result_of (form_of_tree tree)

-- one copy of it, at a base; no tree places nothing
abbrev pub form_at : ℤ → Option Tree → FormOf Seen
form_at base None = Contiguous (pos 0) (result_of (Named Byte))
form_at base (Some tree) = HindexedBlock (pos 1) (base ∷ []) (type_of_tree tree)

-- and with marks, where there are marks (MPI 4.1, section 5.1.7)
abbrev pub marked_by : Marks → FormOf Seen → FormOf Seen
marked_by marks form = Resized marks.lb (marks.ub -ℤ marks.lb) (result_of form)

-- the datatype of a tree from a base on, with its marks
abbrev pub built : ℤ → Option Tree → Option Marks → Seen
built base tree None = result_of (form_at base tree)
built base tree (Some marks) = result_of (marked_by marks (form_at base tree))

-- what it places, told without constructors (law `built_has_entries`)
abbrev pub placed_by : ℤ → Option Tree → Option Marks → Marked
placed_by base None marks = record { entries = []; marks = marks }
placed_by base (Some tree) marks = record { entries = shift base (flat tree); marks = marks }

-- the constructors that make the datatype of a tree: those of a node's children before the node's, from left to right
abbrev mutual
  pub forms_in : Tree → List (FormOf Seen)
  forms_in (leaf kind) = []
  forms_in (vector count block stride child) = forms_in child ++ form_of_tree (vector count block stride child) ∷ []
  forms_in (index block places child) = forms_in child ++ form_of_tree (index block places child) ∷ []
  forms_in (group parts) = forms_among parts ++ form_of_tree (group parts) ∷ []

  pub forms_among : Parts → List (FormOf Seen)
  forms_among no_parts = []
  forms_among (part block disp child rest) = forms_in child ++ forms_among rest

abbrev pub forms_within : Option Tree → List (FormOf Seen)
forms_within None = []
forms_within (Some tree) = forms_in tree

abbrev pub forms_around : Option Marks → FormOf Seen → List (FormOf Seen)
forms_around None form = []
forms_around (Some marks) form = marked_by marks form ∷ []

-- and those that give it its base and its marks
abbrev pub all_forms : ℤ → Option Tree → Option Marks → List (FormOf Seen)
all_forms base tree marks = forms_within tree ++ form_at base tree ∷ forms_around marks (form_at base tree)
