use Rattle.std.specs.Prelude.{ℕ, ◌==◌, cond}
use Rattle.dt_kinds.specs.declared.kind.Kind.{Kind}

-- the first word, or the second one where that is 0
abbrev pub first_some : Kind → ℕ → ℕ → ℕ
first_some kind a b = cond (a == 0) b a
