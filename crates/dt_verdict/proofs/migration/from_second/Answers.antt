use Rattle.std.proofs.Common.{ℕ, List, ◌++◌, ◌∙◌, ap, codes}
use Rattle.dt_cert.specs.Read.{certificate_in}
use Rattle.dt_verdict.proofs.Renewing.{classes_shown, renewed}
use Rattle.dt_verdict.proofs.migration.from_second.Goals as goal

pub returns : goal.returns
returns c =
    let certificate = certificate_in c.args.c.now in
    let shown = c.requires.shown in
    let now = c.extend_from_slice-2.new.self.items in
    let values = rw (c.deref.ensures.value, c.in_ok-classes.ensures) at c.in_ok-values.ensures in
    classes_shown now certificate shown.writable shown.holds c.requires.version
    (renewed c.args.text.now certificate c.extend_from_slice.new.self.items c.push_lines.new.out.items c.push_values.new.out.items now shown.writable shown.written c.requires.version
    (c.in_ok-extend_from_slice.ensures.items ∙ ap (λ (t : List ℕ). t ++ codes "dtcert 3\n") c.new-now.ensures.items)
    (rw c.entries.ensures.value at c.in_ok-push_lines.ensures)
    (rw (c.deref-2.ensures.value, values) at c.in_ok-push_values.ensures)
    c.in_ok-extend_from_slice-2.ensures.items)
