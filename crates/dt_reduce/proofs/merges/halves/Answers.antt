use Rattle.std.proofs.Common.{◌≡◌, arith}
use Rattle.dt_reduce.proofs.Halving.{next_round, none_missing, halves_bracket}
use Rattle.dt_reduce.proofs.merges.halves.Goals as goal

pub rounds-preserved : goal.rounds-preserved
rounds-preserved c =
    let some = c.rounds-test.true in
    record {
      missing = next_round c.args.n c.rounds.left c.rounds.merges.items c.push_below.new.merges.items c.rounds.invariant.missing some c.in_ok-push_below.ensures;
      some = omega (arith, some);
    }

pub returns-clause-halves : goal.returns-clause-halves
returns-clause-halves c =
    let last : c.rounds.left ≡ 1 = omega arith in
    none_missing c.args.n c.rounds.left c.rounds.merges.items c.rounds.invariant.missing last

pub returns-clause-bracket : goal.returns-clause-bracket
returns-clause-bracket c =
    let last : c.rounds.left ≡ 1 = omega arith in
    halves_bracket (none_missing c.args.n c.rounds.left c.rounds.merges.items c.rounds.invariant.missing last)
