use Rattle.std.proofs.Common.{ℤ, ◌+ℤ◌, pos, SFits, ap, ◌∙◌, rules}
use Rattle.std.proofs.lemmas.Int.{to_z-of_z}
use Rattle.std.specs.Int.{w64}
use mir.Val.{to_z, of_z}
use Rattle.dt_rows.specs.declared.rows.Rows.{Rows}
use Rattle.dt_kinds.specs.declared.kind.Kind.TheVariants.{Byte}
use Rattle.dt_copy.proofs.naming.named_bytes.Goals as goal

pub returns : goal.returns
returns c =
    let r = c.args.rows.now in
    let fits : SFits w64 r.step = search rules in
    let named : ℤ → ℤ → Rows = λ x step. record { run = record { kind = Byte; disp = x; elements = r.run.bytes; skip = 0; bytes = r.run.bytes }; rows = r.rows; step = step } in
    let first = to_z-of_z w64 c.first_byte.result (record { sfits = c.first_byte.type_inv }) ∙ c.first_byte.ensures ∙ ap (λ z. (r.run.disp +ℤ z) +ℤ pos r.run.skip) (to_z-of_z w64 c.args.origin c.ranges.origin) in
    ap (λ x. named x (to_z w64 (of_z w64 r.step))) first ∙ ap (named ((r.run.disp +ℤ c.args.origin) +ℤ pos r.run.skip)) (to_z-of_z w64 r.step fits)
