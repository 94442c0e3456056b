use Rattle.dt_script.proofs.WordLemmas.{first_word}
use Rattle.dt_script.proofs.words.split_at_blank.Goals as goal

pub returns : goal.returns
returns c f h = rw (c.split_at.ensures.front, c.split_at.ensures.back) (first_word c.args.line.now c.len_before.result c.len_before.ensures.exact f h)
