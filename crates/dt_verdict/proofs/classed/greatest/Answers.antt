use Rattle.std.proofs.Common.{◌≡◌, ◌-◌, ◌++◌, [], ◌∷◌, List, get_or, length, take, sym, ap, subst, ◌∙◌, arith}
use Rattle.std.proofs.lemmas.List.{take_more}
use Rattle.std.proofs.lemmas.List.Elements.{All-get_or}
use Rattle.dt_alike.specs.First.{class_of}
use Rattle.dt_normal.specs.declared.low.Low.{Low}
use Rattle.dt_check.specs.Members.{IsMember}
use Rattle.dt_verdict.proofs.Raising.{AreRaised, class_inside, none_raised, one_raised}
use Rattle.dt_verdict.proofs.classed.greatest.Goals as goal

abbrev nothing : Low
nothing = record { from = 0; to = 0; low = 0 }

pub index-requires : goal.index-requires
index-requires c =
    let m = c.args.classes.now in
    let a = get_or c.args.values.now c.values.a-index nothing in
    let member = All-get_or (IsMember m) c.args.values.now c.values.a-index nothing (omega (arith, c.values-test.true)) c.requires.members in
    omega (arith, c.class-class.ensures, class_inside m a.from (a.to - a.from) (omega (arith, member.0), omega (arith, member.0, member.1)), c.values.invariant.each, c.values.greatest.ok.0)

pub index_mut-requires : goal.index_mut-requires
index_mut-requires c =
    let m = c.args.classes.now in
    let a = get_or c.args.values.now c.values.a-index nothing in
    let member = All-get_or (IsMember m) c.args.values.now c.values.a-index nothing (omega (arith, c.values-test.true)) c.requires.members in
    omega (arith, c.class-class.ensures, class_inside m a.from (a.to - a.from) (omega (arith, member.0), omega (arith, member.0, member.1)), c.values.invariant.each, c.values.greatest.ok.0)

pub values-preserved : goal.values-preserved
values-preserved c =
    let m = c.args.classes.now in
    let values = c.args.values.now in
    let a = get_or values c.values.a-index nothing in
    let member = All-get_or (IsMember m) values c.values.a-index nothing (omega (arith, c.values-test.true)) c.requires.members in
    rw (take_more values c.values.a-index nothing (omega (arith, c.values-test.true)))
    (one_raised m (take c.values.a-index values) a c.values.greatest.items c.class-class.result c.index.result.now c.max.result c.values.invariant c.class-class.ensures
    (omega (arith, c.class-class.ensures, class_inside m a.from (a.to - a.from) (omega (arith, member.0), omega (arith, member.0, member.1)))) c.index.ensures c.max.ensures)
