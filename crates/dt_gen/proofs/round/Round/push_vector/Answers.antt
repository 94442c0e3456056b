use Rattle.std.proofs.Common.{◌∷◌, [], codes, decimal}
use Rattle.dt_kinds.specs.Kind.{name_of}
use Rattle.dt_gen.specs.Script.{name, vector_line}
use Rattle.dt_gen.proofs.Lines.{line_done}
use Rattle.dt_gen.proofs.round.Round.push_vector.Goals as goal

pub returns : goal.returns
unfolding vector_line
returns c =
    let a = c.args in
    let r = a.number in
    let d = a.self in
    rw (c.in_ok-extend_from_slice-2.ensures.items, c.in_ok-push_kind.ensures, c.in_ok-push_number-3.ensures, c.in_ok-push_number-2.ensures, c.in_ok-push_number.ensures, c.in_ok-push_word-2.ensures, c.in_ok-push_word.ensures, c.in_ok-push_name.ensures, c.in_ok-extend_from_slice.ensures.items)
    (line_done a.out.now.items (codes "type")
    (name (codes "v") r ∷ codes "=" ∷ codes "vector" ∷ decimal d.count ∷ decimal d.block ∷ decimal d.stride ∷ name_of d.kind ∷ []))
