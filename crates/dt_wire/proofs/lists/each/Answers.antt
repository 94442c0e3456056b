use Rattle.std.proofs.Common.{rules, ◌≡◌, ◌+◌, ◌-◌, ◌++◌, [], ◌∷◌, Ok, Err, IsErr, sym, subst, ap, ◌∙◌, arith}
use Rattle.dt_wire.specs.Reading.{list_at}
use Rattle.dt_wire.proofs.Prefixed.{prefixed, list_next, list_stop}
use Rattle.dt_wire.proofs.lists.each.Goals as goal

pub returns-in_err-item : goal.returns-in_err-item
returns-in_err-item g c =
    let stop : g.T.Field.read_at c.items.rest.now ≡ Err c.in_err-item.field-0.0.now = search rules in
    let none = list_stop g.T.Field.read_at c.args.n c.items.counter c.items.rest.now c.in_err-item.field-0.0.now c.items.items (omega arith) stop in
    let all : IsErr (list_at g.T.Field.read_at c.args.n c.args.bytes.now) = subst (λ v. IsErr v) (sym c.items.invariant) none in
    search (rules, all)

pub items-preserved : goal.items-preserved
items-preserved g c =
    let step : g.T.Field.read_at c.items.rest.now ≡ Ok (c.in_ok-item.item, c.in_ok-item.after.now) = search rules in
    let pushed : c.push.new.self ≡ c.items.items ++ c.in_ok-item.item ∷ [] = search rules in
    c.items.invariant
    ∙ (list_next g.T.Field.read_at c.args.n c.items.counter c.items.rest.now c.in_ok-item.after.now c.items.items c.in_ok-item.item (omega arith) step
    ∙ ap (λ xs. prefixed xs (list_at g.T.Field.read_at (c.args.n - (c.items.counter + 1)) c.in_ok-item.after.now)) (sym pushed))
