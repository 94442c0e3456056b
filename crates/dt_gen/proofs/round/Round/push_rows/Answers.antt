use Rattle.std.proofs.Common.{◌∷◌, [], codes, decimal}
use Rattle.dt_gen.specs.Script.{name, row_step, rows_line}
use Rattle.dt_gen.proofs.Lines.{line_done}
use Rattle.dt_gen.proofs.round.Round.push_rows.Goals as goal

pub returns : goal.returns
unfolding rows_line
returns c =
    let a = c.args in
    let r = a.number in
    rw (c.in_ok-extend_from_slice-2.ensures.items, c.in_ok-push_name-2.ensures, c.in_ok-push_number-2.ensures, c.row_step.ensures.value, c.in_ok-push_word-3.ensures, c.in_ok-push_number.ensures, c.in_ok-push_word-2.ensures, c.in_ok-push_word.ensures, c.in_ok-push_name.ensures, c.in_ok-extend_from_slice.ensures.items)
    (line_done a.out.now.items (codes "type")
    (name (codes "h") r ∷ codes "=" ∷ codes "hvector" ∷ decimal a.self.rows ∷ codes "1" ∷ decimal (row_step a.self) ∷ name (codes "v") r ∷ []))
