-- what stands round the datatype of a tree: its base, and its marks
use Rattle.std.proofs.Common.{◌≡◌, ◌≤◌, ℤ, pos, ◌-ℤ◌, nat_abs, Option, None, Some, [], ◌∷◌, sym, ap, ◌∙◌, subst, Result, Ok, Err, Bor, arith}
use Rattle.std.proofs.lemmas.Int.{ints}
use mir.Syntax.{w64}
use mir.Val.{to_z, of_z}
use Rattle.std.specs.Option.{option_map}
use Rattle.dt_form.specs.declared.form.FormOf.TheVariants.{HindexedBlock, Resized}
use Rattle.dt_kinds.specs.Displacement.{FitsDisp}
use Rattle.dt_map.specs.Limits.{MarksFit}
use Rattle.dt_offsets.specs.declared.marks.Marks.{Marks}
use Rattle.dt_type.specs.declared.datatype.Seen.{Seen}
use Rattle.dt_type.specs.declared.fault.CtorFault.{CtorFault}
use Rattle.dt_type.specs.Answer.{IsAnswer}
use Rattle.dt_type.specs.Form.{result_of}
use Rattle.dt_tree.specs.declared.node.Node.{Node}
use Rattle.dt_tree.specs.declared.tree.Tree.{Tree as Program}
use Rattle.dt_tree.specs.Node.{tree_of}
use Rattle.dt_tree.specs.Tree.{Tree}
use Rattle.dt_rebuild.specs.Answer.{IsRefusalIn, IsMadeBy, IsAnswerOf}
use Rattle.dt_rebuild.specs.Built.{type_of_tree, forms_in, forms_within, form_at, marked_by, built, all_forms}
use Rattle.dt_rebuild.proofs.Answering.{refused_front, one_more, one_around, refused_inside}

-- a displacement, read back from its bits
pub long_back : (x : ℤ) → nat_abs x ≤ 9223372036854775807 → to_z w64 (of_z w64 x) ≡ x
long_back x small = omega (arith, ints)

-- the tree that is lent, where there is one
abbrev pub lent : Option (Bor Program) → Option Tree
lent tree = option_map (λ t. tree_of t.now) tree

pub lent_is : (tree : Option (Bor Program)) (t : Bor Program) (node : Node) → tree ≡ Some t → node ≡ t.now → lent tree ≡ Some (tree_of node)
lent_is tree t node is same = ap lent is ∙ ap (λ n. Some (tree_of n)) (sym same)

-- at a base
pub at_base : (base b : ℤ) (tree : Option Tree) (t : Tree) (old : Seen) (answer : Result Seen CtorFault) → tree ≡ Some t → IsMadeBy (forms_in t) (type_of_tree t) old → b ≡ base →
    IsAnswer (HindexedBlock (pos 1) (b ∷ []) old) answer → IsAnswerOf (all_forms base tree None) (result_of (form_at base tree)) answer
at_base base b tree t old answer is made same h =
    let form : HindexedBlock (pos 1) (b ∷ []) old ≡ form_at base (Some t) = ap (λ x. HindexedBlock (pos 1) (x ∷ []) old) same ∙ ap (HindexedBlock (pos 1) (base ∷ [])) made.value in
    subst (λ o. IsAnswerOf (all_forms base o None) (result_of (form_at base o)) answer) (sym is)
    (one_more (forms_in t) (form_at base (Some t)) answer made.taken (subst (λ f. IsAnswer f answer) form h))

pub refused_at_base : (base : ℤ) (tree : Option Tree) (t : Tree) (fault : CtorFault) (answer : Result Seen CtorFault) → tree ≡ Some t → IsRefusalIn (forms_in t) fault → answer ≡ Err fault →
    IsAnswerOf (all_forms base tree None) (result_of (form_at base tree)) answer
refused_at_base base tree t fault answer is h e =
    subst (λ o. IsAnswerOf (all_forms base o None) (result_of (form_at base o)) answer) (sym is)
    (subst (IsAnswerOf (all_forms base (Some t) None) (result_of (form_at base (Some t)))) (sym e) (refused_front (forms_in t) (form_at base (Some t) ∷ []) fault h))

-- with marks
pub with_marks : (base b lb extent : ℤ) (tree : Option Tree) (marks : Option Marks) (m : Marks) (bare : Seen) (answer : Result Seen CtorFault) → marks ≡ Some m → b ≡ base →
    IsMadeBy (all_forms b tree None) (result_of (form_at b tree)) bare → lb ≡ m.lb → extent ≡ m.ub -ℤ m.lb → IsAnswer (Resized lb extent bare) answer →
    IsAnswerOf (all_forms base tree marks) (built base tree marks) answer
with_marks base b lb extent tree marks m bare answer is at made_there lower spans h =
    let made = subst (λ x. IsMadeBy (all_forms x tree None) (result_of (form_at x tree)) bare) at made_there in
    let form : Resized lb extent bare ≡ marked_by m (form_at base tree) =
    ap (λ x. Resized x extent bare) lower ∙ (ap (λ x. Resized m.lb x bare) spans ∙ ap (Resized m.lb (m.ub -ℤ m.lb)) made.value) in
    subst (λ o. IsAnswerOf (all_forms base tree o) (built base tree o) answer) (sym is)
    (one_around (forms_within tree) (form_at base tree) (marked_by m (form_at base tree)) bare answer made (subst (λ f. IsAnswer f answer) form h))

refused_more : (base : ℤ) (tree : Option Tree) (marks : Option Marks) (fault : CtorFault) → IsRefusalIn (all_forms base tree None) fault → IsRefusalIn (all_forms base tree marks) fault
refused_more base tree None fault h = h
refused_more base tree (Some m) fault h = refused_inside (forms_within tree) (form_at base tree) (marked_by m (form_at base tree)) fault h

pub refused_bare : (base b : ℤ) (tree : Option Tree) (marks : Option Marks) (fault : CtorFault) (answer : Result Seen CtorFault) → b ≡ base → IsRefusalIn (all_forms b tree None) fault → answer ≡ Err fault →
    IsAnswerOf (all_forms base tree marks) (built base tree marks) answer
refused_bare base b tree marks fault answer at h e =
    subst (IsAnswerOf (all_forms base tree marks) (built base tree marks)) (sym e)
    (refused_more base tree marks fault (subst (λ x. IsRefusalIn (all_forms x tree None) fault) at h))

-- no marks
pub without_marks : (base b : ℤ) (tree : Option Tree) (marks : Option Marks) (bare : Seen) (answer : Result Seen CtorFault) → marks ≡ None → b ≡ base →
    IsMadeBy (all_forms b tree None) (result_of (form_at b tree)) bare → answer ≡ Ok bare → IsAnswerOf (all_forms base tree marks) (built base tree marks) answer
without_marks base b tree marks bare answer is at made e =
    subst (λ o. IsAnswerOf (all_forms base tree o) (built base tree o) answer) (sym is)
    (subst (IsAnswerOf (all_forms base tree None) (built base tree None)) (sym e)
    (subst (λ x. IsMadeBy (all_forms x tree None) (result_of (form_at x tree)) bare) at made))

-- the numbers of marks, read back from their bits
pub marks_fit : (marks : Option Marks) (m : Marks) → MarksFit marks → marks ≡ Some m → FitsDisp m.lb × FitsDisp m.ub
marks_fit marks m fit is = subst MarksFit is fit

pub disp_back : (x : ℤ) → FitsDisp x → to_z w64 (of_z w64 x) ≡ x
disp_back x fits = long_back x (omega (arith, ints, fits.0, fits.1))

pub extent_back : (lb ub : ℤ) → FitsDisp lb → FitsDisp ub → to_z w64 (of_z w64 (to_z w64 (of_z w64 ub) -ℤ to_z w64 (of_z w64 lb))) ≡ ub -ℤ lb
extent_back lb ub low high =
    ap (λ x. to_z w64 (of_z w64 (x -ℤ to_z w64 (of_z w64 lb)))) (disp_back ub high)
    ∙ (ap (λ x. to_z w64 (of_z w64 (ub -ℤ x))) (disp_back lb low) ∙ long_back (ub -ℤ lb) (omega (arith, ints, low.0, low.1, high.0, high.1)))
