use Rattle.std.proofs.Common.{◌≡◌, ◌++◌, map, flat_map, take}
use Rattle.dt_type.specs.Datatype.{form_of}
use Rattle.dt_reply.specs.Reply.{old_word, spaced}
use Rattle.dt_reply.proofs.arguments.push_olds.Given as goal

abbrev pub invariant-olds : goal.invariant-olds
invariant-olds l = l.out.items ≡ l.initial.out.items ++ flat_map spaced (map (λ t. old_word (form_of t)) (take l.old-index l.olds))
