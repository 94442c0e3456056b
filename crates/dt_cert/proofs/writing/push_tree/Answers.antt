use Rattle.std.proofs.Common.{[], ◌∷◌, ◌++◌, List, ℕ, ap, ◌∙◌}
use Rattle.dt_tree.specs.Node.{tree_of}
use Rattle.dt_cert.proofs.Joins.{tree_joined}
use Rattle.dt_cert.proofs.writing.push_tree.Goals as goal

pub returns-in_ok-push-in-Some-clause-line : goal.returns-in_ok-push-in-Some-clause-line
returns-in_ok-push-in-Some-clause-line c =
    let before = c.args.out.now.items in
    let text = c.in_ok-text-in-Some.text.items in
    let one = c.in_ok-extend_from_slice-in-Some.ensures.items in
    let two = c.in_ok-extend_from_slice-in-Some-2.ensures.items in
    let last = c.in_ok-push-in-Some.ensures.items in
    let whole = last ∙ (ap (λ (t : List ℕ). t ++ 10 ∷ []) (two ∙ (ap (λ (t : List ℕ). c.extend_from_slice-in-Some.new.self.items ++ t) c.deref.ensures.value ∙ ap (λ (t : List ℕ). t ++ text) one))
    ∙ tree_joined before text (tree_of c.in-Some.tree) c.in_ok-text-in-Some.ensures.1) in
    rw c.in-Some.is whole
