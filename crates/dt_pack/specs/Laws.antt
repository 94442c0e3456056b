use Rattle.std.specs.Prelude.{◌≡◌, ℕ, ◌+◌, List, ◌++◌}
use Rattle.dt_pack.specs.Session.{Session, next_bytes, after}

-- two takes, one after the other, give the bytes of one take of both sizes, and leave the session where it does
abbrev pub TakesAreJoined : Type 0
TakesAreJoined =
    (s : Session) (buffer : List ℕ) (m n : ℕ)
    → (next_bytes s buffer m ++ next_bytes (after s m) buffer n ≡ next_bytes s buffer (m + n)) × (after (after s m) n ≡ after s (m + n))
