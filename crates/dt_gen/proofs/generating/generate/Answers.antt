use Rattle.std.proofs.Common.{◌≡◌, List, ℕ, ◌++◌, codes, sym, ap, ◌∙◌, append_assoc}
use Rattle.dt_gen.specs.Script.{rounds_at, places_at, big_at, script_at}
use Rattle.dt_gen.proofs.generating.generate.Goals as goal

-- rounds, and the line of the last type behind them
joined : (rounds places front back : List ℕ) → ((rounds ++ front) ++ places) ++ back ≡ rounds ++ (front ++ (places ++ back))
joined rounds places front back =
    append_assoc (rounds ++ front) places back ∙ append_assoc rounds front (places ++ back)

pub returns : goal.returns
unfolding script_at big_at
returns c =
    let rounds = (rounds_at 100 0 c.args.n).0 in
    let word = (rounds_at 100 0 c.args.n).1 in
    rw (c.in_ok-extend_from_slice-2.ensures.items, c.in_ok-push_places.ensures.text, c.in_ok-extend_from_slice.ensures.items, c.in_ok-push_rounds.ensures.text, c.in_ok-push_rounds.ensures.moved, c.new-draws.ensures, c.from.ensures, c.new-out.ensures.items)
    (joined rounds (places_at 1024 0 word).0 (codes "type big = indexed_block MPI_SHORT 1") (codes "\nnormalise big\n"))
