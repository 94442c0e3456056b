use Rattle.std.proofs.Common.{◌∙◌, ap, refl, arith}
use Rattle.std.proofs.lemmas.Bool.{false≢true}
use Rattle.dt_map.specs.Limits.{IsInRange}
use Rattle.dt_map.specs.Summary.{Summary}
use Rattle.dt_type.specs.Cover.{covered}
use Rattle.dt_type.specs.Shape.{placed_by}
use Rattle.dt_type.proofs.KnownDigest.{aligned, exact, in_range, out_of_range, marks_in_range}
use Rattle.dt_type.proofs.make.measured.Goals as goal

pub bounds-requires : goal.bounds-requires
bounds-requires c = aligned (covered c.args.cover (placed_by c.args.shape.now)) c.of_covered-digest.result c.of_covered-digest.ensures

pub returns-in_default : goal.returns-in_default
returns-in_default c = λ range.
    false≢true (c.in_default.ensures.in_range.1
    (out_of_range (covered c.args.cover (placed_by c.args.shape.now)) c.of_covered-digest.result c.of_covered-digest.ensures range))

pub returns-then-depth-gt-DEPTH_MAX : goal.returns-then-depth-gt-DEPTH_MAX
returns-then-depth-gt-DEPTH_MAX c =
    let range : IsInRange (covered c.args.cover (placed_by c.args.shape.now)) =
    in_range (covered c.args.cover (placed_by c.args.shape.now)) c.of_covered-digest.result c.of_covered-digest.ensures (c.in-Some.ensures.in_range.0 refl) in
    (range, omega arith)

pub returns-then-weight-gt-WEIGHT_MAX : goal.returns-then-weight-gt-WEIGHT_MAX
returns-then-weight-gt-WEIGHT_MAX c =
    let range : IsInRange (covered c.args.cover (placed_by c.args.shape.now)) =
    in_range (covered c.args.cover (placed_by c.args.shape.now)) c.of_covered-digest.result c.of_covered-digest.ensures (c.in-Some.ensures.in_range.0 refl) in
    (range, omega arith, omega arith)

pub marks-requires : goal.marks-requires
marks-requires c =
    marks_in_range (covered c.args.cover (placed_by c.args.shape.now)) c.of_covered-digest.result c.of_covered-digest.ensures (c.in-Some.ensures.in_range.0 refl)

pub returns : goal.returns
returns c =
    let here = c.in-Some.ensures.in_range.0 refl in
    let m = covered c.args.cover (placed_by c.args.shape.now) in
    let known = c.of_covered-digest.ensures in
    record {
      marks = c.marks.ensures ∙ ap (λ (s : Summary). s.marks) known;
      bounds = c.in-Some.ensures.value ∙ exact m c.of_covered-digest.result known here;
      weight = omega arith;
      depth = omega arith;
      in_range = in_range m c.of_covered-digest.result known here;
      shallow = omega arith;
      light = omega arith;
      olds = c.depth_by-depth.ensures.whole;
    }
