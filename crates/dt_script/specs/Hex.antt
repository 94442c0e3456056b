use Rattle.std.specs.Prelude.{ℕ, if◌then◌else◌, List, [], Option, Some, None, codes}
use Rattle.std.specs.Result.{result_ok}
use Rattle.std.specs.Str.{bytes_eq}
use Rattle.dt_script.specs.Words.{is_empty}
use Rattle.hex.specs.Hex.{decode_of}

-- the bytes that a word spells: none as `-`, else each by two hexadecimal digits of either case. An empty word spells none of these
unfoldable pub hex_of : List ℕ → Option (List ℕ)
hex_of word = if bytes_eq word (codes "-") then Some [] else if is_empty word then None else result_ok (decode_of word)
