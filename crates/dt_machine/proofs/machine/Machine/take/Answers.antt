use Rattle.std.proofs.Common.{◌≡◌, ◌+◌, ◌≤◌, min, nat_abs, refl, ap, sym, subst, ◌∙◌}
use Rattle.std.proofs.lemmas.Int.{to_z-of_z}
use Rattle.std.specs.Int.{w32}
use Rattle.dt_reply.specs.declared.reply.Reply.TheVariants.{Packed}
use Rattle.dt_script.specs.declared.command.Command.TheVariants.{Take}
use Rattle.dt_sessions.specs.Open.{is_packing, total_in, passed_in, rest_in, next_in}
use Rattle.dt_machine.specs.declared.outcome.Change.TheVariants.{TakeBytes}
use Rattle.dt_machine.specs.State.{session_of}
use Rattle.dt_machine.specs.Step.{taken_by}
use Rattle.dt_machine.proofs.Opening.{found_opened}
use Rattle.dt_machine.proofs.Moving.{take_allowed, take_can, take_performs}
use Rattle.dt_machine.proofs.Outcomes.{outcome_of}
use Rattle.dt_machine.proofs.machine.Machine.take.Goals as goal

pub returns-clause-outcome : goal.returns-clause-outcome
returns-clause-outcome c =
    let s = c.args.self.now in
    let name = c.args.session.now in
    let len = c.args.len in
    let found = c.in-Some.found.now in
    let fit = to_z-of_z w32 len c.ranges.len in
    let (o, at, same) = found_opened (session_of s name) found c.in-Some.ensures in
    let packs = ap is_packing same ∙ (sym c.is_packing.ensures ∙ c.if-not-is_packing.false) in
    let abs : c.unsigned_abs.result ≡ nat_abs len = simp fit at c.unsigned_abs.ensures.value in
    let count : c.taken_of-count.result.0 ≡ taken_by o len =
    c.taken_of-count.ensures.count ∙ (ap (λ n. min n (rest_in found)) abs ∙ ap (λ x. min (nat_abs len) (rest_in x)) (sym same))
    in
    let byte : c.taken_of-count.result.1 ≡ passed_in o.session + taken_by o len =
    c.taken_of-count.ensures.byte
    ∙ (ap (λ n. passed_in found + min n (rest_in found)) abs ∙ ap (λ x. passed_in x + min (nat_abs len) (rest_in x)) (sym same))
    in
    let within : passed_in o.session + taken_by o len ≤ total_in o.session =
    subst (λ b. b ≤ total_in o.session) byte (subst (λ x. c.taken_of-count.result.1 ≤ total_in x) (sym same) c.taken_of-count.ensures.within)
    in
    let (bytes, held, next) = c.in_ok-next_bytes.ensures.bytes o at in
    outcome_of s (Take name len) (Packed (next_in o.session bytes (taken_by o len))) (TakeBytes name (passed_in o.session + taken_by o len) (taken_by o len)) _
    (take_allowed s name len o at packs (simp fit at c.if-len-lt0.false)) (take_can s name len o at packs (passed_in o.session + taken_by o len) (taken_by o len) within)
    (take_performs s name len o at packs bytes held) refl (rw (c.in_ok-name.ensures.same, next, byte, count) refl)
