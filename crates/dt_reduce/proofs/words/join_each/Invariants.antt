use Rattle.std.proofs.Common.{◌≡◌, ◌*◌, ◌++◌, drop}
use Rattle.dt_kinds.specs.Kind.{native_size}
use Rattle.dt_reduce.specs.Words.{joined_words}
use Rattle.dt_reduce.proofs.words.join_each.Given as goal

-- the words up to here were joined
abbrev pub invariant-words : goal.invariant-words
invariant-words g l = l.target ≡ joined_words g.L.Law.join l.kind l.i l.source l.fn.target ++ drop (l.i * native_size l.kind) l.fn.target
