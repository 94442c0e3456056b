use Rattle.std.proofs.Common.{◌≡◌, ◌++◌, ◌∷◌, [], List, sym, subst, ap, ◌∙◌, refl, arith}
use Rattle.dt_layout.specs.Body.{seq, no_parts}
use Rattle.dt_layout.specs.declared.instr.Instr.{Instr}
use Rattle.dt_layout.specs.declared.instr.Instr.TheVariants.{Seq, End}
use Rattle.dt_layout.specs.Program.{IsProgram}
use Rattle.dt_layout.proofs.compiling.nothing.Goals as goal

empty : (old mid new : List Instr) → old ≡ [] → mid ≡ old ++ Seq 0 2 ∷ [] → new ≡ mid ++ End ∷ [] → IsProgram new (seq no_parts)
empty old mid new none first last = record {
  spelled = last ∙ ap (λ s. s ++ End ∷ []) (first ∙ ap (λ s. s ++ Seq 0 2 ∷ []) none);
  shallow = omega arith;
  lawful = tt;
  small = omega arith;
}

pub of-requires : goal.of-requires
of-requires c = (seq no_parts, empty c.new-code.result.items c.push.new.self.items c.push-2.new.self.items c.new-code.ensures.items c.in_ok-push.ensures.items c.in_ok-push-2.ensures.items)

pub returns-clause-stands : goal.returns-clause-stands
returns-clause-stands c =
    let made = empty c.new-code.result.items c.push.new.self.items c.push-2.new.self.items c.new-code.ensures.items c.in_ok-push.ensures.items c.in_ok-push-2.ensures.items in
    (seq no_parts, subst (λ code. IsProgram code (seq no_parts)) (sym c.of.ensures) made, refl)
