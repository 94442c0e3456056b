use Rattle.std.proofs.Common.{◌-◌, List, length, take, drop, get_or, pos, arith, rules}
use Rattle.dt_offsets.specs.declared.turns.Turns.{Turns}
use Rattle.dt_layout.proofs.Spelled.{rest_is, rest_some, rest_small, times_small, times_all, shorter, closed}
use Rattle.dt_layout.proofs.places.+close.Goals as goal

abbrev no_turns : Turns
no_turns = record { first = pos 0; count = 0; block = 0; jump = pos 0; step = pos 0 }

abbrev behind : List Turns → List Turns
behind ts = take (length ts - 1) (drop 1 ts)

pub close-requires : goal.close-requires
close-requires t c =
    let ts = c.args.levels.now in
    let is = rest_is ts no_turns c.in-len1-up.len_at_least in
    let less = shorter ts (behind ts) (get_or ts 0 no_turns) is in
    let places = c.requires.places in (
      omega (arith, less, c.decreases),
      (
        omega (arith, less, places),
        (
          rest_some ts (behind ts) (get_or ts 0 no_turns) is c.requires.some,
          (
            rest_small ts (behind ts) (get_or ts 0 no_turns) is c.args.sizes.native c.requires.some c.requires.small,
            c.requires.external,
          ),
        ),
      ),
    )

pub seal-requires : goal.seal-requires
seal-requires t c =
    let ts = c.args.levels.now in
    let less = c.in-len1-up.len_at_least in
    let places = c.requires.places in
    let longer = c.in_ok-sizes-in-len1-up.ensures.longer in
    omega (arith, less, places, longer)

pub times-requires-clause-small : goal.times-requires-clause-small
times-requires-clause-small t c =
    let ts = c.args.levels.now in
    let is = rest_is ts no_turns c.in-len1-up.len_at_least in
    times_small ts (behind ts) (get_or ts 0 no_turns) is _ c.args.sizes c.in_ok-sizes-in-len1-up.sizes (search rules) c.requires.small c.in_ok-sizes-in-len1-up.ensures.sizes

pub returns-in_ok-seal-in-len1-up-clause-sizes : goal.returns-in_ok-seal-in-len1-up-clause-sizes
returns-in_ok-seal-in-len1-up-clause-sizes t c =
    let ts = c.args.levels.now in
    let is = rest_is ts no_turns c.in-len1-up.len_at_least in
    times_all ts (behind ts) (get_or ts 0 no_turns) is c.args.sizes c.in_ok-sizes-in-len1-up.sizes c.times.result c.in_ok-sizes-in-len1-up.ensures.sizes c.times.ensures

pub returns-in_ok-seal-in-len1-up-clause-spelled : goal.returns-in_ok-seal-in-len1-up-clause-spelled
returns-in_ok-seal-in-len1-up-clause-spelled t c =
    let ts = c.args.levels.now in
    let is = rest_is ts no_turns c.in-len1-up.len_at_least in
    closed ts (behind ts) (get_or ts 0 no_turns) is c.args.out.now.items c.close.new.out.items c.seal.new.out.items c.args.at _ c.args.sizes c.in_ok-sizes-in-len1-up.sizes
    c.in_ok-sizes-in-len1-up.ensures.spelled c.in_ok-sizes-in-len1-up.ensures.sizes (search rules) c.in_ok-seal-in-len1-up.ensures
