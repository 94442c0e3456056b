use Rattle.std.proofs.Common.{ℕ, ◌+◌, ◌-◌, sym, ap, subst, ◌∙◌, arith}
use Rattle.dt_tree.specs.declared.node.Node.{Node}
use Rattle.dt_tree.specs.Node.{tree_of}
use Rattle.dt_spelling.specs.Reading.{Gives, node_at, parts_at, with_parts, words_from, parts_seen, part_seen}
use Rattle.dt_spelling.proofs.Steps.{node_more, node_none, parts_step, seen_push}
use Rattle.dt_spelling.proofs.reading.+nodes.Goals as goal

pub node-returns-then-levels-eq0 : goal.node-returns-then-levels-eq0
node-returns-then-levels-eq0 t c = node_none c.args.levels c.args.spare (words_from c.args.text.now c.args.at) (omega arith)

pub node-returns : goal.node-returns
node-returns t c =
    subst (Gives c.args.text.now (λ (x : Node × ℕ × ℕ). ((tree_of x.0, x.1), words_from c.args.text.now x.2)) c.one.result)
    (sym (node_more c.args.levels (c.args.levels - 1) c.args.spare (words_from c.args.text.now c.args.at) (omega arith))) c.one.ensures

pub parts-parts-preserved : goal.parts-parts-preserved
parts-parts-preserved t c =
    let step = parts_step (node_at c.args.levels) (parts_seen c.parts.parts) (c.args.count - c.parts.counter) (c.args.count - (c.parts.counter + 1)) c.parts.spare c.in_ok-part.left (words_from c.args.text.now c.parts.next) (words_from c.args.text.now c.in_ok-part.after) (part_seen c.in_ok-part.part) (omega arith) c.in_ok-part.ensures in
    c.parts.invariant ∙ (step ∙ ap (λ ps. with_parts ps (parts_at (node_at c.args.levels) (c.args.count - (c.parts.counter + 1)) c.in_ok-part.left (words_from c.args.text.now c.in_ok-part.after)))
    (sym (seen_push c.parts.parts c.in_ok-part.part) ∙ ap parts_seen (sym c.in_ok-push.ensures.ok)))
