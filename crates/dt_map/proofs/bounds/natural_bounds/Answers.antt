use Rattle.std.proofs.Common.{◌≡◌, ◌+ℤ◌, get_or, rules, arith, to_z, of_z, w64, pos}
use Rattle.std.proofs.lemmas.Int.{ints, to_z-of_z}
use Rattle.std.proofs.lemmas.List.Sums.{sum_by_more, sum_by_more_le}
use Rattle.std.proofs.lemmas.List.{take_all}
use Rattle.dt_kinds.specs.declared.kind.Kind.TheVariants.{Byte}
use Rattle.dt_kinds.proofs.Displacements.{same_disp}
use mir.Val.{SFits}
use Rattle.dt_kinds.specs.Kind.{native_size, external_size}
use Rattle.dt_map.specs.declared.entry.Entry.{Entry}
use Rattle.dt_map.specs.Bounds.{end_of}
use Rattle.dt_map.proofs.Extremes.{least_more, greatest_more, alignment_more, size_of-le, external_size_of-le, true_lb-fits, found_true_lb, found_true_ub, true_ub-fits}
use Rattle.dt_map.proofs.bounds.natural_bounds.Goals as goal

abbrev none : Entry
none = record { kind = Byte; disp = pos 0 }

pub overflow_add-size : goal.overflow_add-size
overflow_add-size c =
    omega (arith, sum_by_more_le (λ (e : Entry). native_size e.kind) c.args.entries.now c.entries.e-index none c.entries-test.true, size_of-le c.args.entries.now)

pub overflow_add-ext_size : goal.overflow_add-ext_size
overflow_add-ext_size c =
    omega (arith, sum_by_more_le (λ (e : Entry). external_size e.kind) c.args.entries.now c.entries.e-index none c.entries-test.true, external_size_of-le c.args.entries.now)

pub entries-preserved : goal.entries-preserved
entries-preserved c = record {
  size = omega (arith, sum_by_more (λ (e : Entry). native_size e.kind) c.args.entries.now c.entries.e-index none c.entries-test.true);
  ext_size = omega (arith, sum_by_more (λ (e : Entry). external_size e.kind) c.args.entries.now c.entries.e-index none c.entries-test.true);
  align = omega (arith, alignment_more c.args.entries.now c.entries.e-index none c.entries-test.true);
  low =
      let step = least_more (λ (e : Entry). e.disp) c.args.entries.now c.entries.e-index none c.entries-test.true in
      let at = same_disp (get_or c.args.entries.now c.entries.e-index none).disp (c.requires c.entries.e-index none c.entries-test.true).0 in
      let fits : SFits w64 c.lesser_of.result = search rules in
      let same = to_z-of_z w64 c.lesser_of.result fits in
      cc;
  high =
      let step = greatest_more end_of c.args.entries.now c.entries.e-index none c.entries-test.true in
      let fit = c.requires c.entries.e-index none c.entries-test.true in
      let end : to_z w64 (of_z w64 (to_z w64 (of_z w64 (get_or c.args.entries.now c.entries.e-index none).disp) +ℤ to_z w64 (of_z w64 c.from.result))) ≡ end_of (get_or c.args.entries.now c.entries.e-index none) = omega (arith, ints, fit.0.0, fit.0.1, fit.1.0, fit.1.1) in
      let fits : SFits w64 c.greater_of.result = search rules in
      let same = to_z-of_z w64 c.greater_of.result fits in
      cc;
}

pub natural_end-requires-clause-low : goal.natural_end-requires-clause-low
natural_end-requires-clause-low c =
    let low = found_true_lb c.args.entries.now c.entries.e-index c.entries.low c.unwrap_or-true_lb.result c.entries-test.false c.entries.invariant.low c.unwrap_or-true_lb.ensures in
    let fit = true_lb-fits c.args.entries.now c.requires in
    (omega (arith, ints, low, fit.0, fit.1), omega (arith, ints, low, fit.0, fit.1))

pub natural_end-requires-clause-high : goal.natural_end-requires-clause-high
natural_end-requires-clause-high c =
    let high = found_true_ub c.args.entries.now c.entries.e-index c.entries.high c.unwrap_or-true_ub.result c.entries-test.false c.entries.invariant.high c.unwrap_or-true_ub.ensures in
    let fit = true_ub-fits c.args.entries.now c.requires in
    (omega (arith, ints, high, fit.0, fit.1), omega (arith, ints, high, fit.0, fit.1))

pub returns : goal.returns
returns c =
    let low = found_true_lb c.args.entries.now c.entries.e-index c.entries.low c.unwrap_or-true_lb.result c.entries-test.false c.entries.invariant.low c.unwrap_or-true_lb.ensures in
    let high = found_true_ub c.args.entries.now c.entries.e-index c.entries.high c.unwrap_or-true_ub.result c.entries-test.false c.entries.invariant.high c.unwrap_or-true_ub.ensures in
    let whole = take_all c.entries.e-index c.args.entries.now c.entries-test.false in
    let same_low = to_z-of_z w64 c.unwrap_or-true_lb.result (record { sfits = c.unwrap_or-true_lb.type_inv }) in
    let same_high = to_z-of_z w64 c.unwrap_or-true_ub.result (record { sfits = c.unwrap_or-true_ub.type_inv }) in
    let same_end = to_z-of_z w64 c.natural_end.result (record { sfits = c.natural_end.type_inv }) in
    cc
