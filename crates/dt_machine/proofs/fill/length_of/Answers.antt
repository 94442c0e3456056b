use Rattle.std.proofs.Common.{SFits, rules}
use Rattle.std.proofs.lemmas.Int.{to_z-of_z}
use Rattle.std.specs.Int.{w32}
use Rattle.dt_machine.proofs.Fills.{zero_number, count_number}
use Rattle.dt_machine.proofs.fill.length_of.Goals as goal

pub returns-in-Count : goal.returns-in-Count
returns-in-Count c =
    let len : SFits w32 c.in-Count.len = search rules in
    rw c.in-Count.is
    (count_number c.in-Count.len c.not_negative-in-Count.result (simp (to_z-of_z w32 c.in-Count.len len) at c.not_negative-in-Count.ensures))

pub returns-in-Zero : goal.returns-in-Zero
returns-in-Zero c =
    let len : SFits w32 c.in-Zero.len = search rules in
    rw c.in-Zero.is (zero_number c.in-Zero.len c.not_negative.result (simp (to_z-of_z w32 c.in-Zero.len len) at c.not_negative.ensures))
