use Rattle.std.proofs.Common.{◌≡◌, ap, ◌∙◌, sym, arith, length, subst, ◌+◌, ◌-◌, get_or, ℕ, ◌<◌, List}
use Rattle.std.specs.Global.{Vec}
use Rattle.std.proofs.lemmas.List.{with_items_is}
use Rattle.dt_check.specs.Rows.{row_at}
use Rattle.dt_check.specs.Sums.{AreLeastSums, AreLowered}
use Rattle.dt_check.proofs.Rowed.{row_read}
use Rattle.dt_check.proofs.Lowering.{one_summed, sums_fit}
use Rattle.dt_check.proofs.sums.least_sums.Goals as goal

-- a row as it was read
row_is : (rows : List (Vec ℕ)) (k : ℕ) (row : Vec ℕ) (items : List ℕ) → k < length rows → row ≡ get_or rows k row → items ≡ row.items → items ≡ row_at rows k
row_is rows k row items lt is same = same ∙ (ap (λ (v : Vec ℕ). v.items) is ∙ sym (row_read rows k row lt))

pub lower-requires-clause-firsts : goal.lower-requires-clause-firsts
lower-requires-clause-firsts c =
    let first = row_is c.args.runs.now c.firsts.k c.index-runs-k.result c.deref.result.now (omega (arith, c.requires.known, c.firsts-test.true)) c.index-runs-k.is c.deref.ensures.value in
    omega (arith, c.firsts-test.true, c.deref_mut.ensures.len, c.firsts.least.ok.0, c.firsts.invariant.each, ap length first, c.requires.runs.row c.firsts.k (omega (arith, c.requires.known, c.firsts-test.true)))

pub lower-requires-clause-rests : goal.lower-requires-clause-rests
lower-requires-clause-rests c =
    let rest = row_is c.args.cuts.now (c.args.len - 2 - c.firsts.k) c.index-cuts-len.result c.deref-in-firsts.result.now (omega (arith, c.requires.known_cuts, c.firsts-test.true)) c.index-cuts-len.is c.deref-in-firsts.ensures.value in
    omega (
      arith,
      c.firsts-test.true,
      c.requires.within,
      c.deref_mut.ensures.len,
      c.firsts.least.ok.0,
      c.firsts.invariant.each,
      ap length rest,
      c.requires.cuts.row (c.args.len - 2 - c.firsts.k) (omega (arith, c.requires.known_cuts, c.firsts-test.true)),
    )

pub lower-requires-clause-fits : goal.lower-requires-clause-fits
lower-requires-clause-fits c =
    let first = row_is c.args.runs.now c.firsts.k c.index-runs-k.result c.deref.result.now (omega (arith, c.requires.known, c.firsts-test.true)) c.index-runs-k.is c.deref.ensures.value in
    let rest = row_is c.args.cuts.now (c.args.len - 2 - c.firsts.k) c.index-cuts-len.result c.deref-in-firsts.result.now (omega (arith, c.requires.known_cuts, c.firsts-test.true)) c.index-cuts-len.is c.deref-in-firsts.ensures.value in
    λ i lt. sums_fit c.args.runs.now c.args.cuts.now c.firsts.k (c.args.len - 2 - c.firsts.k) c.deref.result.now c.deref-in-firsts.result.now c.requires.few_runs c.requires.few_cuts first rest i (c.firsts.k + 1 + i)

pub firsts-preserved : goal.firsts-preserved
firsts-preserved c =
    let first = row_is c.args.runs.now c.firsts.k c.index-runs-k.result c.deref.result.now (omega (arith, c.requires.known, c.firsts-test.true)) c.index-runs-k.is c.deref.ensures.value in
    let rest = row_is c.args.cuts.now (c.args.len - 2 - c.firsts.k) c.index-cuts-len.result c.deref-in-firsts.result.now (omega (arith, c.requires.known_cuts, c.firsts-test.true)) c.index-cuts-len.is c.deref-in-firsts.ensures.value in
    let before = c.firsts.least.items in
    let now = c.lower.new.least in
    let lowered : AreLowered c.deref.result.now c.deref-in-firsts.result.now (c.firsts.k + 1) before now = rw c.deref_mut.ensures.value at c.lower.ensures in
    subst (AreLeastSums c.args.entries c.args.len c.args.runs.now c.args.cuts.now (c.firsts.k + 1)) (sym (with_items_is c.firsts.least now (omega (arith, lowered.each, c.firsts.least.ok.0))))
    (one_summed c.args.entries c.args.len c.firsts.k c.args.runs.now c.args.cuts.now c.deref.result.now c.deref-in-firsts.result.now before now c.requires.some c.requires.within c.firsts-test.true
    c.firsts.invariant first rest lowered)
