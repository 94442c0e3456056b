use Rattle.std.proofs.Common.{◌*◌, ℤ, drop, length, refl, ap, ◌∙◌, arith}
use Rattle.std.proofs.lemmas.Int.{to_z-of_z}
use Rattle.std.specs.Int.{w64}
use mir.Val.{to_z, of_z}
use Rattle.std.proofs.lemmas.Nat.{mul-le}
use Rattle.dt_kinds.specs.Kind.{native_size}
use Rattle.dt_kinds.proofs.Table.{native_size-pos}
use Rattle.dt_map.specs.Elements.{are_inside}
use Rattle.dt_map.specs.Typemap.{shift}
use Rattle.dt_reduce.specs.Reduced.{reduced}
use Rattle.dt_reduce.proofs.Gathered.{count_bytes, rows_are_reduced}
use Rattle.dt_rows.specs.Rows.{bytes_in, elements_of_rows}
use Rattle.dt_reduce.proofs.rows.join_rows.Goals as goal

pub overflow_mul-count : goal.overflow_mul-count
overflow_mul-count g c =
    let r = c.args.rows.now in
    let n = r.rows * r.run.elements in
    let all = count_bytes r c.requires.whole in
    let least = mul-le n 1 n (native_size r.run.kind) (omega arith) (native_size-pos r.run.kind) in
    let few = c.requires.few in
    omega (arith, all, least, few)

pub returns : goal.returns
returns g c =
    let r = c.args.rows.now in
    let source = c.args.source.now in
    let target = c.args.target.now in
    let x : ℤ = to_z w64 (of_z w64 c.args.source_origin) in
    let y : ℤ = to_z w64 (of_z w64 c.args.target_origin) in
    let here = to_z-of_z w64 c.args.source_origin c.ranges.source_origin in
    let there = to_z-of_z w64 c.args.target_origin c.ranges.target_origin in
    let count = r.rows * r.run.elements in
    c.scatter.ensures
    ∙ rows_are_reduced r c.requires.whole g.L.Law.join x y source target c.gather.new.out c.gather-2.new.out c.join_words.new.target
    (drop (bytes_in r) c.args.words.now) (drop (bytes_in r) c.args.joined.now) (drop (count * native_size r.run.kind) c.gather-2.new.out) count
    (ap (λ z. are_inside (length source) (shift z (elements_of_rows r))) here ∙ c.requires.source)
    (ap (λ z. are_inside (length target) (shift z (elements_of_rows r))) there ∙ c.requires.target)
    refl c.gather.ensures c.gather-2.ensures c.join_words.ensures
    ∙ ap (λ z. reduced g.L.Law.join (shift z (elements_of_rows r)) (shift y (elements_of_rows r)) source target) here
    ∙ ap (λ z. reduced g.L.Law.join (shift c.args.source_origin (elements_of_rows r)) (shift z (elements_of_rows r)) source target) there
