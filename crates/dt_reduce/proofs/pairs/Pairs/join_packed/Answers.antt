use Rattle.std.proofs.Common.{◌≡◌, ◌+◌, ◌-◌, ◌*◌, ◌++◌, take, drop, length, ap, sym, ◌∙◌, arith, length-drop}
use Rattle.dt_kinds.specs.declared.kind.Rep.TheVariants.{Native}
use Rattle.dt_kinds.specs.Kind.{native_size}
use Rattle.dt_map.specs.Packed.{total}
use Rattle.dt_reduce.specs.Folded.{kinds_of}
use Rattle.dt_reduce.specs.Kept.{joined_packed}
use Rattle.dt_reduce.specs.Words.{joined_words}
use Rattle.dt_reduce.proofs.PackedRows.{run_more, run_step}
use Rattle.dt_rows.proofs.SettingRows.{rest_of}
use Rattle.dt_reduce.proofs.pairs.Pairs.join_packed.Goals as goal

pub join_words-requires-clause-source : goal.join_words-requires-clause-source
join_words-requires-clause-source g c =
    let s = run_step c.args.self.now c.rows.self c.next_rows.new.self c.in-Some.rows c.rows.invariant.passed c.in-Some.ensures.next c.in-Some.ensures.passed in
    let place = s.place in
    let bytes = s.bytes in
    let all = s.all in
    let at = c.rows.invariant.place in
    let long = c.requires.source in
    omega (arith, place, bytes, all, at, long, length-drop c.rows.at c.args.source.now, ap length (rest_of c.args.source.now c.rows.at))

pub join_words-requires-clause-target : goal.join_words-requires-clause-target
join_words-requires-clause-target g c =
    let s = run_step c.args.self.now c.rows.self c.next_rows.new.self c.in-Some.rows c.rows.invariant.passed c.in-Some.ensures.next c.in-Some.ensures.passed in
    let place = s.place in
    let bytes = s.bytes in
    let all = s.all in
    let at = c.rows.invariant.place in
    let long = c.requires.target in
    let same = c.rows.auto.target in
    omega (arith, place, bytes, all, at, long, same, length-drop c.rows.at c.rows.target, ap length (rest_of c.rows.target c.rows.at))

pub rows-smaller : goal.rows-smaller
rows-smaller g c =
    let s = run_step c.args.self.now c.rows.self c.next_rows.new.self c.in-Some.rows c.rows.invariant.passed c.in-Some.ensures.next c.in-Some.ensures.passed in
    let done = s.done in
    let some = s.some in
    let within = s.within in
    omega (arith, done, some, within)

pub rows-preserved : goal.rows-preserved
rows-preserved g c =
    let a = c.args.self.now in
    let r = c.in-Some.rows in
    let n = r.rows * r.run.elements in
    let mid = c.rows.target in
    let at = c.rows.at in
    let k = length mid - at in
    let source = c.args.source.now in
    let old = c.args.target.now in
    let s = run_step a c.rows.self c.next_rows.new.self r c.rows.invariant.passed c.in-Some.ensures.next c.in-Some.ensures.passed in
    let place = s.place in
    let all = s.all in
    let here = c.rows.invariant.place in
    let room = c.requires.target in
    let same = c.rows.auto.target in
    let put = c.join_words.ensures ∙ ap (λ t. joined_words g.L.Law.join r.run.kind n t (take k (drop at mid)) ++ drop (n * native_size r.run.kind) (take k (drop at mid))) (rest_of source at) in
    let more = run_more g.L.Law.join a.elements c.rows.self.done n at k n r.run.kind source old mid c.join_words.new.target s.kind s.number here c.rows.invariant.bytes (omega (arith, place, all, here, room, same)) put in
    record {
      passed = s.passed;
      place = omega (arith, place, here);
      bytes = more ∙ ap (λ d. joined_packed g.L.Law.join (kinds_of (take d a.elements)) source old ++ drop (total Native (take d a.elements)) old) (sym s.done)
          ∙ ap (λ p. joined_packed g.L.Law.join (kinds_of (take c.next_rows.new.self.done a.elements)) source old ++ drop p old) (let to : total Native (take c.next_rows.new.self.done a.elements) ≡ at + r.rows * r.run.bytes = omega (arith, place, here) in to);
      within = s.within;
    }
