-- What the lines of a round mean.
use Rattle.std.proofs.Common.{◌≡◌, ℕ, ◌≤◌, ◌<◌, true, false, pos, List, [], ◌∷◌, codes, decimal, length, refl, arith}
use Rattle.dt_kinds.specs.declared.kind.Rep.TheVariants.{Native}
use Rattle.dt_kinds.specs.Kind.{name_of}
use Rattle.dt_gen.specs.Script.{name, row_step, piece}
use Rattle.dt_script.specs.declared.command.Command.{Command}
use Rattle.dt_script.specs.declared.command.Command.TheVariants.{Define, Commit, Buffer, Pack, Take, Close, Unpack, Give, Normalise}
use Rattle.dt_script.specs.declared.command.Ctor.TheVariants.{Vector, Hvector}
use Rattle.dt_script.specs.declared.command.Fill.TheVariants.{Zero, Count}
use Rattle.dt_script.specs.Command.{IsCommand}
use Rattle.dt_script.specs.Item.{IsName}
use Rattle.dt_script.specs.Line.{begins_with_hash}
use Rattle.dt_script.specs.Name.{is_letter}
use Rattle.hex.specs.Hex.{encode_lower}
use Rattle.dt_accepted.proofs.Rounds.{Round, IsRound, step_small}
use Rattle.dt_accepted.proofs.Spelled.{number_word, int_read, address_read, name_is, name_word, kind_word, kind_name, hex_word, hex_read, piece_bytes, piece_length, one_read, zero_read}
use Rattle.dt_accepted.proofs.Words.{AreWords}

-- a line of words that means a command
pub record Means (first : List ℕ) (words : List (List ℕ)) (command : Command) : Type 0 where
  pub spelled : AreWords (first ∷ words)
  pub plain : begins_with_hash first ≡ false
  pub read : IsCommand (first ∷ words) command

module _ (r : ℕ) (few : r ≤ 99) where
  -- the names of a round
  abbrev vector_name : List ℕ
  vector_name = name (codes "v") r

  abbrev rows_name : List ℕ
  rows_name = name (codes "h") r

  named : (letter : ℕ) → is_letter letter ≡ true → IsName (name (letter ∷ []) r) (name (letter ∷ []) r)
  named letter h = (refl, name_is letter r h few)

  -- the lines of its types
  pub vector_means : (d : Round) → IsRound d
      → Means (codes "type") (vector_name ∷ codes "=" ∷ codes "vector" ∷ decimal d.count ∷ decimal d.block ∷ decimal d.stride ∷ name_of d.kind ∷ [])
      (Define vector_name (Vector (pos d.count) (pos d.block) (pos d.stride) (name_of d.kind)))
  vector_means d is =
      let block : d.block ≤ 7 = omega (arith, is.block) in
      let count = is.count in
      let stride = is.stride in
      record {
        spelled = (
          refl,
          (
            name_word 118 r refl few,
            (
              refl,
              (
                refl,
                (
                  number_word d.count (omega arith),
                  (number_word d.block (omega arith), (number_word d.stride (omega arith), (kind_word d.kind, tt))),
                ),
              ),
            ),
          ),
        );
        plain = refl;
        read = (
          _,
          refl,
          (
            _,
            _,
            refl,
            named 118 refl,
            (
              _,
              refl,
              (
                _,
                refl,
                (
                  _,
                  _,
                  refl,
                  int_read d.count (omega arith),
                  (
                    _,
                    _,
                    refl,
                    int_read d.block (omega arith),
                    (_, _, refl, int_read d.stride (omega arith), (_, _, refl, (refl, kind_name d.kind), refl)),
                  ),
                ),
              ),
            ),
          ),
        );
      }

  pub rows_means : (d : Round) → IsRound d
      → Means (codes "type") (rows_name ∷ codes "=" ∷ codes "hvector" ∷ decimal d.rows ∷ codes "1" ∷ decimal (row_step d) ∷ vector_name ∷ [])
      (Define rows_name (Hvector (pos d.rows) (pos 1) (pos (row_step d)) vector_name))
  rows_means d is =
      let rows = is.rows in
      let step = step_small d is in
      record {
        spelled = (
          refl,
          (
            name_word 104 r refl few,
            (refl, (refl, (number_word d.rows (omega arith), (refl, (number_word (row_step d) (omega arith), (name_word 118 r refl few, tt)))))),
          ),
        );
        plain = refl;
        read = (
          _,
          refl,
          (
            _,
            _,
            refl,
            named 104 refl,
            (
              _,
              refl,
              (
                _,
                refl,
                (
                  _,
                  _,
                  refl,
                  int_read d.rows (omega arith),
                  (
                    _,
                    _,
                    refl,
                    one_read,
                    (_, _, refl, address_read (row_step d) (omega arith), (_, _, refl, named 118 refl, refl)),
                  ),
                ),
              ),
            ),
          ),
        );
      }

  pub commit_means : Means (codes "commit") (rows_name ∷ []) (Commit rows_name)
  commit_means = record {
    spelled = (refl, (name_word 104 r refl few, tt));
    plain = refl;
    read = (_, refl, (_, _, refl, named 104 refl, refl));
  }

  -- of its buffers
  pub counted_means : (len : ℕ) → len ≤ 2147483647 → Means (codes "buffer") (name (codes "b") r ∷ codes "count" ∷ decimal len ∷ []) (Buffer (name (codes "b") r) (Count (pos len)))
  counted_means len le = record {
    spelled = (refl, (name_word 98 r refl few, (refl, (number_word len (omega arith), tt))));
    plain = refl;
    read = (_, refl, (_, _, refl, named 98 refl, (_, refl, (_, _, refl, int_read len le, refl))));
  }

  pub zeros_means : (len : ℕ) → len ≤ 2147483647 → Means (codes "buffer") (name (codes "z") r ∷ codes "zero" ∷ decimal len ∷ []) (Buffer (name (codes "z") r) (Zero (pos len)))
  zeros_means len le = record {
    spelled = (refl, (name_word 122 r refl few, (refl, (number_word len (omega arith), tt))));
    plain = refl;
    read = (_, refl, (_, _, refl, named 122 refl, (_, refl, (_, _, refl, int_read len le, refl))));
  }

  -- of its sessions
  pub pack_means : Means (codes "pack") (name (codes "p") r ∷ codes "native" ∷ codes "1" ∷ rows_name ∷ name (codes "b") r ∷ codes "0" ∷ [])
      (Pack (name (codes "p") r) Native (pos 1) rows_name (name (codes "b") r) (pos 0))
  pack_means = record {
    spelled = (refl, (name_word 112 r refl few, (refl, (refl, (name_word 104 r refl few, (name_word 98 r refl few, (refl, tt)))))));
    plain = refl;
    read = (
      _,
      refl,
      (
        _,
        _,
        refl,
        named 112 refl,
        (
          _,
          _,
          refl,
          refl,
          (
            _,
            _,
            refl,
            one_read,
            (_, _, refl, named 104 refl, (_, _, refl, named 98 refl, (_, _, refl, zero_read, refl))),
          ),
        ),
      ),
    );
  }

  pub unpack_means : Means (codes "unpack") (name (codes "u") r ∷ codes "native" ∷ codes "1" ∷ rows_name ∷ name (codes "z") r ∷ codes "0" ∷ [])
      (Unpack (name (codes "u") r) Native (pos 1) rows_name (name (codes "z") r) (pos 0))
  unpack_means = record {
    spelled = (refl, (name_word 117 r refl few, (refl, (refl, (name_word 104 r refl few, (name_word 122 r refl few, (refl, tt)))))));
    plain = refl;
    read = (
      _,
      refl,
      (
        _,
        _,
        refl,
        named 117 refl,
        (
          _,
          _,
          refl,
          refl,
          (
            _,
            _,
            refl,
            one_read,
            (_, _, refl, named 104 refl, (_, _, refl, named 122 refl, (_, _, refl, zero_read, refl))),
          ),
        ),
      ),
    );
  }

  -- of its turns
  pub take_means : (asked : ℕ) → asked ≤ 2147483647 → Means (codes "take") (name (codes "p") r ∷ decimal asked ∷ []) (Take (name (codes "p") r) (pos asked))
  take_means asked le = record {
    spelled = (refl, (name_word 112 r refl few, (number_word asked (omega arith), tt)));
    plain = refl;
    read = (_, refl, (_, _, refl, named 112 refl, (_, _, refl, int_read asked le, refl)));
  }

  pub give_means : (at len : ℕ) → 0 < len → Means (codes "give") (name (codes "u") r ∷ encode_lower (piece r at len) ∷ []) (Give (name (codes "u") r) (piece r at len))
  give_means at len some =
      let bytes = piece_bytes r at len in
      let size = piece_length r at len in
      let full : 0 < length (piece r at len) = omega (arith, size, some) in
      record {
        spelled = (refl, (name_word 117 r refl few, (hex_word (piece r at len) bytes full, tt)));
        plain = refl;
        read = (_, refl, (_, _, refl, named 117 refl, (_, _, refl, hex_read (piece r at len) bytes full, refl)));
      }

  -- and of its end
  pub close_means : (letter : ℕ) → is_letter letter ≡ true → Means (codes "close") (name (letter ∷ []) r ∷ []) (Close (name (letter ∷ []) r))
  close_means letter h = record {
    spelled = (refl, (name_word letter r h few, tt));
    plain = refl;
    read = (_, refl, (_, _, refl, named letter h, refl));
  }

  pub normalise_means : Means (codes "normalise") (rows_name ∷ []) (Normalise rows_name)
  normalise_means = record {
    spelled = (refl, (name_word 104 r refl few, tt));
    plain = refl;
    read = (_, refl, (_, _, refl, named 104 refl, refl));
  }
