-- The turns of a round are accepted.
use Rattle.std.proofs.Common.{◌≡◌, ℕ, zero, suc, ◌+◌, ◌-◌, ◌≤◌, ◌<◌, min, true, pos, List, [], ◌∷◌, ◌++◌, length, codes, decimal, Some, refl, sym, ap, subst, ◌∙◌, append_assoc, arith}
use Rattle.std.specs.Map.{set_value}
use Rattle.hex.specs.Hex.{encode_lower}
use Rattle.dt_gen.specs.Draws.{draw}
use Rattle.dt_gen.specs.Script.{line, name, piece, turn_lines, turns_at}
use Rattle.dt_pack.specs.Session as pack
use Rattle.dt_sessions.specs.declared.session.Opened.{Opened}
use Rattle.dt_sessions.specs.Open.{packing, unpacking, opened_at, passed_in, opened_given}
use Rattle.dt_sessions.proofs.OpenLemmas.{each_found, length_found}
use Rattle.dt_type.specs.declared.datatype.Seen.{Seen}
use Rattle.dt_unpack.specs.Session as unpack
use Rattle.dt_unpack.proofs.Apart.{length_after}
use Rattle.dt_machine.specs.Pieces.{IsSound, IsSoundIn}
use Rattle.dt_machine.specs.State.{State, buffer_of, session_of, with_count}
use Rattle.dt_machine.specs.Step.{taken_by, with_piece}
use Rattle.dt_names.specs.Names.{under}
use Rattle.dt_accepted.proofs.Commands.{take_means, give_means}
use Rattle.dt_accepted.proofs.Entries.{at}
use Rattle.dt_accepted.proofs.Known.{TypesBefore, BuffersBefore, buffers_written, two, sender, receiver, set_sender, set_receiver}
use Rattle.dt_accepted.proofs.Performing.{good_take, good_give, taken_from}
use Rattle.dt_accepted.proofs.Rounds.{drawn_below}
use Rattle.dt_accepted.proofs.Rules.{Good}
use Rattle.dt_accepted.proofs.Spelled.{piece_length}

-- between the turns of a round, of whose packed bytes so many were given
pub record Turning (r whole given : ℕ) (rows : Seen) (s : State) : Type 0 where
  pub types : TypesBefore (suc r) s.types s.made
  pub stands : under (name (codes "h") r) s.types ≡ Some (record { ty = rows; committed = true })
  pub buffers : BuffersBefore (suc r) s.buffers
  pub sender : pack.Session
  pub receiver : unpack.Session
  pub sessions : s.sessions ≡ two r sender receiver
  pub so_far : receiver.given ≡ given
  pub all : unpack.total_of receiver ≡ whole

module _ (r whole : ℕ) (few : r ≤ 99) (rows : Seen) where
  module _ (given : ℕ) (s : State) (turning : Turning r whole given rows s) where
    sends : session_of s (name (codes "p") r) ≡ Some (packing (name (codes "b") r) turning.sender)
    sends =
        ap (under (name (codes "p") r)) turning.sessions
        ∙ sender r (packing (name (codes "b") r) turning.sender) (unpacking (name (codes "z") r) turning.receiver)

    receives : session_of s (name (codes "u") r) ≡ Some (unpacking (name (codes "z") r) turning.receiver)
    receives =
        ap (under (name (codes "u") r)) turning.sessions
        ∙ receiver r (packing (name (codes "b") r) turning.sender) (unpacking (name (codes "z") r) turning.receiver)

    -- bytes were taken
    taken : (asked : ℕ) → Turning r whole given rows (taken_from s (name (codes "p") r) (packing (name (codes "b") r) turning.sender) asked)
    taken asked =
        let o = packing (name (codes "b") r) turning.sender in
        let byte = passed_in o.session + taken_by o (pos asked) in
        record {
          types = turning.types;
          stands = turning.stands;
          buffers = turning.buffers;
          sender = pack.at_byte turning.sender byte;
          receiver = turning.receiver;
          sessions =
              ap (λ (es : List (List ℕ × Opened)). set_value (at (name (codes "p") r)) es (opened_at o byte)) turning.sessions
              ∙ set_sender r o (unpacking (name (codes "z") r) turning.receiver) (opened_at o byte);
          so_far = turning.so_far;
          all = turning.all;
        }

    -- bytes were given
    kept_length : (piece bytes : List ℕ) → IsSound s → buffer_of s (name (codes "z") r) ≡ Some bytes
        → length (unpack.buffer_after turning.receiver bytes piece) ≡ length bytes
    kept_length piece bytes sound stands =
        let o = unpacking (name (codes "z") r) turning.receiver in
        let known = each_found (λ (o : Opened). IsSoundIn o.session) (at (name (codes "u") r)) s.sessions o sound.sessions receives in
        length_after turning.receiver known.0 known.1 bytes piece (length_found s.buffers s.sessions (name (codes "u") r) o sound.standing receives bytes stands)

    given_more : (piece bytes : List ℕ) → IsSound s → buffer_of s (name (codes "z") r) ≡ Some bytes
        → Turning r whole (given + length piece) rows (with_count (with_piece s (name (codes "u") r) (unpacking (name (codes "z") r) turning.receiver) bytes piece))
    given_more piece bytes sound stands =
        let o = unpacking (name (codes "z") r) turning.receiver in
        record {
          types = turning.types;
          stands = turning.stands;
          buffers =
              buffers_written (suc r) s.buffers (name (codes "z") r) bytes (unpack.buffer_after turning.receiver bytes piece) stands
              (kept_length piece bytes sound stands) turning.buffers;
          sender = turning.sender;
          receiver = unpack.after turning.receiver piece;
          sessions =
              ap (λ (es : List (List ℕ × Opened)). set_value (at (name (codes "u") r)) es (opened_given o piece)) turning.sessions
              ∙ set_receiver r (packing (name (codes "b") r) turning.sender) o (opened_given o piece);
          so_far = ap (λ n. n + length piece) turning.so_far;
          all = turning.all;
        }

  -- a turn
  good_turn : (given asked len : ℕ) (s : State) (rest : List ℕ) → asked ≤ 97 → 0 < len → given + len ≤ whole → IsSound s → Turning r whole given rows s
      → ((t : State) → IsSound t → Turning r whole (given + len) rows t → Good t rest)
      → Good s (turn_lines r asked given len ++ rest)
  unfolding turn_lines
  good_turn given asked len s rest small some within sound turning next =
      let taking = line (codes "take") (name (codes "p") r ∷ decimal asked ∷ []) in
      let giving = line (codes "give") (name (codes "u") r ∷ encode_lower (piece r given len) ∷ []) in
      let p = packing (name (codes "b") r) turning.sender in
      let size = piece_length r given len in
      subst (Good s) (sym (append_assoc taking giving rest))
      (good_take s (codes "take") (name (codes "p") r ∷ decimal asked ∷ []) (name (codes "p") r) p asked (giving ++ rest)
      (take_means r few asked (omega arith)) sound (sends given s turning) refl (λ after.
      let mid = taken_from s (name (codes "p") r) p asked in
      let turned = taken given s turning asked in
      let so_far = turned.so_far in
      let all = turned.all in
      good_give mid (codes "give") (name (codes "u") r ∷ encode_lower (piece r given len) ∷ []) (name (codes "u") r) (name (codes "z") r) turned.receiver (piece r given len) rest
      (give_means r few given len some) after (receives given mid turned) (omega (arith, so_far, all, size, within)) (λ bytes stands then.
      next (with_count (with_piece mid (name (codes "u") r) (unpacking (name (codes "z") r) turned.receiver) bytes (piece r given len))) then
      (subst (λ n. Turning r whole (given + n) rows (with_count (with_piece mid (name (codes "u") r) (unpacking (name (codes "z") r) turned.receiver) bytes (piece r given len)))) size
      (given_more given mid turned (piece r given len) bytes after stands)))))

  -- all of them
  pub good_turns : (turns given left word : ℕ) (s : State) (rest : List ℕ) → given + left ≡ whole → IsSound s → Turning r whole given rows s
      → ((t : State) (now : ℕ) → IsSound t → Turning r whole now rows t → Good t rest)
      → Good s ((turns_at turns r given left word).0 ++ rest)
  unfolding turns_at
  good_turns zero given left word s rest same sound turning next = next s given sound turning
  good_turns (suc turns) given zero word s rest same sound turning next = next s given sound turning
  good_turns (suc turns) given (suc left) word s rest same sound turning next =
      let asked = 1 + (draw 97 word).0 in
      let low = drawn_below 97 word (omega arith) in
      let len = min asked (suc left) in
      let later = (turns_at turns r (given + len) (suc left - len) (draw 97 word).1).0 in
      subst (Good s) (sym (append_assoc (turn_lines r asked given len) later rest))
      (good_turn given asked len s (later ++ rest) (omega (arith, low)) (omega arith) (omega (arith, same)) sound turning (λ t after turned.
      good_turns turns (given + len) (suc left - len) (draw 97 word).1 t rest (omega (arith, same)) after turned next))
