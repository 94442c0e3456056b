use Rattle.std.proofs.Common.{[]}
use Rattle.std.proofs.lemmas.List.Elements.{All-get_or}
use Rattle.dt_map.specs.Limits.{EntryFits}
use Rattle.dt_alike.specs.Step.{entry_at}
use Rattle.dt_normal.proofs.Building.{difference_near}
use Rattle.dt_normal.proofs.nodes.distance.Goals as goal

pub returns-clause-near : goal.returns-clause-near
returns-clause-near c =
    let from = All-get_or EntryFits c.args.entries.now c.args.from (entry_at [] 0) c.requires.from c.requires.fits in
    let to = All-get_or EntryFits c.args.entries.now c.args.to (entry_at [] 0) c.requires.to c.requires.fits in
    difference_near (entry_at c.args.entries.now c.args.to).disp (entry_at c.args.entries.now c.args.from).disp to.0 from.0
