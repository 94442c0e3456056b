use Rattle.std.proofs.Common.{sym, ap, ◌∙◌}
use Rattle.std.specs.Result.{is_ok}
use Rattle.dt_kinds.specs.Name.{kind_of}
use Rattle.dt_names.proofs.WordLemmas.{reserved_is_basic}
use Rattle.dt_names.proofs.types.Types.is_basic.Goals as goal

pub returns-then-is_reserved : goal.returns-then-is_reserved
returns-then-is_reserved c =
    let word = c.args.word.now in
    c.is_ok.ensures.value ∙ ap is_ok (c.of_name.ensures ∙ ap kind_of c.as_bytes.ensures.value)
    ∙ sym (reserved_is_basic c.args.self.now.entries word (sym c.is_reserved.ensures ∙ c.if-is_reserved.true))
