use Rattle.std.proofs.Common.{◌≡◌, ◌++◌, flat_map, length, ap, ◌∙◌, arith}
use Rattle.std.specs.Vec.{vec_len}
use Rattle.dt_tree.specs.Node.{tree_of}
use Rattle.dt_spelling.specs.Spelling.{ended, words_of}
use Rattle.dt_spelling.proofs.Writes.{all_but_last}
use Rattle.dt_spelling.proofs.writing.write_text.Goals as goal

pub returns : goal.returns
returns c =
    let words =
    c.in_ok-push_node.ensures ∙ (ap (λ text. text ++ flat_map ended (words_of (tree_of c.root.result.now))) c.new-text.ensures.items
    ∙ ap (λ node. flat_map ended (words_of (tree_of node))) c.root.ensures.value) in
    let len : length c.push_node.new.out.items ≡ vec_len c.push_node.new.out = omega arith in
    (c.root.ensures.rule, all_but_last (tree_of c.args.tree.now) c.push_node.new.out.items c.pop.new.self.items (vec_len c.push_node.new.out) words len c.pop.ensures.rest)
