use Rattle.std.proofs.Common.{◌++◌, [], ◌∷◌, ap, ◌∙◌, codes, ℕ, ℤ, List}
use Rattle.std.specs.Fmt.{signed_decimal}
use Rattle.dt_cert.specs.Text.{text_of_line}
use Rattle.dt_cert.specs.Written.{certificate_of}
use Rattle.dt_cert.proofs.Composing.{IsComposed, base_back, composed, best_members, best_shown}
use Rattle.dt_cert.proofs.writing.write_cert.Goals as goal

pub push_classes-requires : goal.push_classes-requires
push_classes-requires c = record {
  members =
      rw (c.deref.ensures.value, c.in_ok-classes.ensures)
      (best_members c.args.w.now c.args.map.now.entries c.args.best.now.base c.args.best.now.tree c.args.best.now.cost c.args.best.now.lows.items c.requires.best);
}

pub returns : goal.returns
returns c =
    let w = c.args.w.now in
    let m = c.args.map.now.entries in
    let best = c.args.best.now in
    let fit = rw c.entries.ensures.value at c.entries.ensures.in_range in
    let parts : IsComposed (certificate_of w m best) c.extend_from_slice.new.self.items c.push_weights.new.out.items c.push_line.new.out.items c.push_entries.new.out.items c.push_line-2.new.out.items c.push_tree.new.out.items
    c.push_line-3.new.out.items c.push_classes.new.out.items c.extend_from_slice-2.new.self.items =
    record {
      version = c.in_ok-extend_from_slice.ensures.items ∙ ap (λ (t : List ℕ). t ++ codes "dtcert 3\n") c.new-out.ensures.items;
      weights = c.in_ok-push_weights.ensures;
      number = rw c.entries.ensures.value at c.in_ok-push_line.ensures;
      entries = rw c.entries-2.ensures.value at c.in_ok-push_entries.ensures;
      base = c.in_ok-push_line-2.ensures ∙ ap (λ (z : ℤ). c.push_entries.new.out.items ++ text_of_line (codes "base" ∷ signed_decimal z ∷ [])) (base_back w m best.base best.tree best.cost best.lows.items fit c.requires.best);
      tree = c.in_ok-push_tree.ensures.line;
      cost = c.in_ok-push_line-3.ensures;
      values = rw (c.in_ok-classes.ensures, c.deref.ensures.value) at c.in_ok-push_classes.ensures;
      end = c.in_ok-extend_from_slice-2.ensures.items;
    } in
    best_shown w m best.base best.tree best.cost best.lows.items c.extend_from_slice-2.new.self.items c.are_light.ensures c.requires.few fit c.in_ok-push_tree.ensures.rule c.requires.best
    (composed (certificate_of w m best) _ _ _ _ _ _ _ _ _ parts)
