use Rattle.std.proofs.Common.{List, ℕ, true, subst, sym, arith}
use Rattle.dt_base.specs.Transfer.{AppendsFront}
use Rattle.std.specs.Io.KnownBytes.{Appends}
use Rattle.dt_machine.specs.Reply.{Responds}
use Rattle.dt_machine.specs.State.{State}
use Rattle.dt_machine.specs.Step.{Step}
use Rattle.dt_call.specs.Progress.{Progress}
use Rattle.dt_call.proofs.RunLemmas.{begun, gone_on, cut_in_reply}
use Rattle.dt_call.proofs.call.run.Goals as goal

pub lines-init : goal.lines-init
lines-init g c =
    let known = g.K.Sink.held c.args.sink.now in
    let P : State → Type 0 = λ s. Progress c.args.input.now c.args.input.now s true known known in
    record {
      progress = subst P (sym c.new-machine.ensures) (begun c.args.input.now known);
      empty = c.new-out.ensures.items;
      faults = omega arith;
    }

pub returns-in_default-write_all-clause-wrote : goal.returns-in_default-write_all-clause-wrote
returns-in_default-write_all-clause-wrote g c =
    let out = c.line.new.out.items in
    let mid = g.K.Sink.held c.lines.sink in
    let new = g.K.Sink.held c.write_all.new.sink in
    let Q : List ℕ → Type 0 = λ before. Responds (λ reply. Step c.lines.machine c.first_line.result.0.now reply c.line.new.self) c.in-Ok.said before out in
    let R : List ℕ → Type 0 = λ piece. AppendsFront mid new piece in
    cut_in_reply c.args.input.now c.lines.rest.now c.first_line.result.0.now c.first_line.result.1.now c.lines.machine c.line.new.self c.lines.accepted c.in-Ok.said
    (g.K.Sink.held c.args.sink.now) mid new out c.lines.invariant.progress c.first_line.ensures.lines
    (subst Q c.lines.invariant.empty c.in-Ok.ensures.step) (subst R c.deref.ensures.value c.in_default-write_all.ensures.front)

pub lines-preserved : goal.lines-preserved
lines-preserved g c =
    let out = c.line.new.out.items in
    let mid = g.K.Sink.held c.lines.sink in
    let new = g.K.Sink.held c.write_all.new.sink in
    let Q : List ℕ → Type 0 = λ before. Responds (λ reply. Step c.lines.machine c.first_line.result.0.now reply c.line.new.self) c.in-Ok.said before out in
    let R : List ℕ → Type 0 = λ piece. Appends mid new piece in
    record {
      progress = gone_on c.args.input.now c.lines.rest.now c.first_line.result.0.now c.first_line.result.1.now c.lines.machine c.line.new.self c.lines.accepted c.in-Ok.said
          (g.K.Sink.held c.args.sink.now) mid new out c.lines.invariant.progress c.first_line.ensures.lines
          (subst Q c.lines.invariant.empty c.in-Ok.ensures.step) (subst R c.deref.ensures.value c.in-Ok-write_all.ensures.bytes);
      empty = c.clear.ensures.items;
      faults = omega (arith, c.lines.invariant.faults, c.in-Ok-write_all.ensures.faults);
    }
