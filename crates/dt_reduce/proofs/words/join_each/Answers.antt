use Rattle.std.proofs.Common.{◌≡◌, ◌+◌, ◌-◌, ◌*◌, ◌++◌, take, drop, length, ap, ◌∙◌, arith}
use Rattle.std.proofs.lemmas.Nat.{mul-le}
use Rattle.dt_kinds.specs.Kind.{native_size}
use Rattle.dt_reduce.specs.Words.{joined_word}
use Rattle.dt_reduce.proofs.Joining.{words_more}
use Rattle.dt_rows.proofs.SettingRows.{rest_of}
use Rattle.dt_reduce.proofs.words.join_each.Goals as goal

pub words-preserved : goal.words-preserved
words-preserved g c =
    let kind = c.args.kind in
    let source = c.args.source.now in
    let mid = c.words.target in
    let at = c.words.i * c.size-size.result in
    let k = length mid - at in
    let wide : at ≡ c.words.i * native_size kind = ap (λ s. c.words.i * s) (c.size-size.ensures ∙ c.requires.size) in
    let less = c.words-test.true in
    let place = mul-le c.words.i (native_size kind) c.args.count (native_size kind) (omega (arith, less)) (omega arith) in
    let room = c.requires.target in
    let same = c.words.auto.target in
    let long : length mid ≡ at + k = omega (arith, wide, place, room, same) in
    words_more g.L.Law.join kind c.words.i at k source c.args.target.now mid c.join_word.new.target c.words.invariant wide long
    (c.join_word.ensures ∙ ap (λ s. joined_word g.L.Law.join kind s (take k (drop at mid)) ++ drop (native_size kind) (take k (drop at mid))) (rest_of source at))
