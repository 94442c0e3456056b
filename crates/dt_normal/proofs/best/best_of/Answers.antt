use Rattle.std.proofs.Common.{◌≡◌, ◌<◌, ◌∙◌, ap, subst, length, List, arith}
use Rattle.std.specs.List.{All}
use Rattle.dt_map.specs.declared.entry.Entry.{Entry}
use Rattle.dt_map.specs.Limits.{EntryFits}
use Rattle.dt_tree.specs.Node.{tree_of}
use Rattle.dt_normal.specs.Lows.{AreLeastCosts, listed}
use Rattle.dt_normal.proofs.Ending.{root_cheapest, base_is, cheapest_follows, root_best, nothing_best}
use Rattle.dt_normal.proofs.Validity.{table_of_rows}
use Rattle.dt_normal.proofs.best.best_of.Goals as goal

pub returns-then-whole-eq0 : goal.returns-then-whole-eq0
returns-then-whole-eq0 c =
    let table = table_of_rows c.args.w.now c.in_ok-classes.classes c.in_ok-rows.rows.items c.in_ok-rows.ensures.rows c.in_ok-rows.ensures.each in
    nothing_best c.args.map.now.entries c.in_ok-classes.classes c.in_ok-lows.lows.items table.0 c.in_ok-classes.ensures (omega (arith, c.if-whole-eq0.true, c.len.ensures.value)) (c.in_ok-lows.ensures table.0 table.1)

pub unreachable-requires : goal.unreachable-requires
unreachable-requires c =
    let root = root_cheapest c.args.w.now c.args.map.now.entries c.in_ok-classes.classes c.len.result (tree_of c.in_ok-root.root) c.in_ok-classes.ensures c.len.ensures.value c.in_ok-root.ensures in
    let all : All EntryFits c.args.map.now.entries = subst (All EntryFits) c.entries-entries.ensures.value c.entries-entries.ensures.in_range in
    c.in_default.ensures.1 (cheapest_follows c.args.w.now c.args.map.now.entries (tree_of c.in_ok-root.root) all c.requires root)

pub returns : goal.returns
returns c =
    let root = root_cheapest c.args.w.now c.args.map.now.entries c.in_ok-classes.classes c.len.result (tree_of c.in_ok-root.root) c.in_ok-classes.ensures c.len.ensures.value c.in_ok-root.ensures in
    let table = table_of_rows c.args.w.now c.in_ok-classes.classes c.in_ok-rows.rows.items c.in_ok-rows.ensures.rows c.in_ok-rows.ensures.each in
    let list : c.in_ok-lows.lows.items ≡ listed (length c.args.map.now.entries) table.0 = c.in_ok-lows.ensures table.0 table.1 ∙ ap (λ (l : List Entry). listed (length l) table.0) c.in_ok-classes.ensures in
    let some : 0 < length c.args.map.now.entries = omega (arith, c.if-whole-eq0.false, c.len.ensures.value, ap length c.in_ok-classes.ensures) in
    root_best c.args.w.now c.args.map.now.entries c.in_ok-root.root c.in-Ok.tree _ c.cost.result c.in_ok-lows.lows.items table.0 some root
    (subst (λ (l : List Entry). AreLeastCosts c.args.w.now l table.0) c.in_ok-classes.ensures table.1) (base_is c.args.map.now.entries c.entries-entries.result.now c.entries-entries.ensures.in_range c.entries-entries.ensures.value some)
    c.cost.ensures c.in-Ok.ensures.0 list
