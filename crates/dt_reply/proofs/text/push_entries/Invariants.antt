use Rattle.std.proofs.Common.{◌≡◌, ◌++◌, map, flat_map, take}
use Rattle.dt_reply.specs.Reply.{entry_word, spaced}
use Rattle.dt_reply.proofs.text.push_entries.Given as goal

abbrev pub invariant-entries : goal.invariant-entries
invariant-entries l = l.out.items ≡ l.initial.out.items ++ flat_map spaced (map entry_word (take l.entry-index l.entries))
