use Rattle.std.proofs.Common.{◌∷◌, [], codes}
use Rattle.dt_gen.specs.Script.{name, session_line}
use Rattle.dt_gen.proofs.Lines.{line_done}
use Rattle.dt_gen.proofs.round.push_session.Goals as goal

pub returns : goal.returns
unfolding session_line
returns c =
    let a = c.args in
    let r = a.number in
    rw (c.in_ok-extend_from_slice-2.ensures.items, c.in_ok-push_word-3.ensures, c.in_ok-push_name-3.ensures, c.in_ok-push_name-2.ensures, c.in_ok-push_word-2.ensures, c.in_ok-push_word.ensures, c.in_ok-push_name.ensures, c.in_ok-extend_from_slice.ensures.items)
    (line_done a.out.now.items a.first.now
    (name a.session.now r ∷ codes "native" ∷ codes "1" ∷ name (codes "h") r ∷ name a.buffer.now r ∷ codes "0" ∷ []))
