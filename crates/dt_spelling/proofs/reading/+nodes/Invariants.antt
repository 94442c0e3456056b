use Rattle.std.proofs.Common.{◌≡◌, ◌+◌, ◌-◌, ◌*◌}
use Rattle.dt_spelling.specs.Reading.{node_at, parts_at, with_parts, words_from, parts_seen}
use Rattle.dt_spelling.proofs.reading.+nodes.Given as goal

abbrev pub decreases-node : goal.decreases-node
decreases-node l = 5 * l.levels

abbrev pub decreases-one : goal.decreases-one
decreases-one l = 5 * l.levels + 4

abbrev pub decreases-vector : goal.decreases-vector
decreases-vector l = 5 * l.levels + 1

abbrev pub decreases-index : goal.decreases-index
decreases-index l = 5 * l.levels + 1

abbrev pub decreases-part : goal.decreases-part
decreases-part l = 5 * l.levels + 1

abbrev pub decreases-parts : goal.decreases-parts
decreases-parts l = 5 * l.levels + 2

abbrev pub decreases-group : goal.decreases-group
decreases-group l = 5 * l.levels + 3

abbrev pub invariant-parts-parts : goal.invariant-parts-parts
invariant-parts-parts l =
    parts_at (node_at l.fn.levels) l.fn.count l.fn.spare (words_from l.text l.fn.at)
    ≡ with_parts (parts_seen l.parts) (parts_at (node_at l.fn.levels) (l.fn.count - l.counter) l.spare (words_from l.text l.next))
