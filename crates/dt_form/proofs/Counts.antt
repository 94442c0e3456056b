-- How long the lists of contents are.
use Rattle.std.proofs.Common.{length-append}
use Rattle.std.proofs.lemmas.List.{length-map}

pub ruleset integers = (length-append, length-map)
