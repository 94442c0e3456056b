use Rattle.std.proofs.Common.{◌≡◌, ◌+◌, ◌++◌, take, length, sym, ap, subst, ◌∙◌, arith}
use Rattle.std.proofs.lemmas.List.{take_all, take_more}
use Rattle.dt_rows.proofs.SettingRows.{rest_of, two_pieces}
use Rattle.dt_unpack.specs.Session.{Session, IsBetween, after, complete}
use Rattle.dt_unpack.proofs.Pieces.{more_given, completes_more, completed_count}
use Rattle.dt_unpack.proofs.Steps.{number_of}
use Rattle.dt_unpack.proofs.session.UnpackSession.give.Goals as goal

pub pieces-preserved-then-is_empty : goal.pieces-preserved-then-is_empty
pieces-preserved-then-is_empty c =
    let s = c.args.self.now in
    let is = c.self.invariant in
    let b : IsBetween s is.before is.rest = subst (λ u. IsBetween u is.before is.rest) c.self.view_is is.between in
    let piece = c.args.piece.now in
    let done = c.pieces.done in
    let before = c.pieces.invariant in
    let taken = c.give_rows-done.result in
    let rest = rest_of piece done in
    let joined = ap (λ bytes. take done piece ++ take taken bytes) rest ∙ two_pieces piece done taken in
    let both = more_given s is.before is.rest b (take done piece) _ (take (done + taken) piece) c.args.buf.now c.pieces.buf c.give_rows-done.new.buf c.pieces.self c.give_rows-done.new.self before.session before.buffer c.give_rows-done.ensures.session c.give_rows-done.ensures.buffer joined in
    record {
      session = both.0;
      buffer = both.1;
      few = (let some = c.give_rows-done.ensures.some in let long = ap length rest in let less = before.few in omega (arith, some, long, less));
    }

pub pieces-preserved : goal.pieces-preserved
pieces-preserved c =
    let s = c.args.self.now in
    let is = c.self.invariant in
    let b : IsBetween s is.before is.rest = subst (λ u. IsBetween u is.before is.rest) c.self.view_is is.between in
    let piece = c.args.piece.now in
    let done = c.pieces.done in
    let before = c.pieces.invariant in
    let less = c.pieces-test.true in
    let joined = sym (take_more piece done 0 less) in
    let both = more_given s is.before is.rest b (take done piece) _ (take (done + 1) piece) c.args.buf.now c.pieces.buf c.give_byte.new.buf c.pieces.self c.give_byte.new.self before.session before.buffer c.give_byte.ensures.session c.give_byte.ensures.buffer joined in
    record { session = both.0; buffer = both.1; few = omega (arith, less) }

pub overflow_sub-result : goal.overflow_sub-result
overflow_sub-result c =
    let first : Session = record { rep = c.self.inside.cursor.rep; elements = c.self.inside.cursor.elements; origin = c.self.inside.origin; buf_len = c.self.inside.buf_len; one = c.self.inside.one; given = c.self.inside.cursor.position; held = c.self.inside.held.items } in
    let last : Session = record { rep = c.self-2.inside.cursor.rep; elements = c.self-2.inside.cursor.elements; origin = c.self-2.inside.origin; buf_len = c.self-2.inside.buf_len; one = c.self-2.inside.one; given = c.self-2.inside.cursor.position; held = c.self-2.inside.held.items } in
    let piece = c.args.piece.now in
    let all : take c.pieces.done piece ≡ piece = take_all c.pieces.done piece (let past = c.pieces-test.false in omega (arith, past)) in
    let ended = c.pieces.invariant.session ∙ ap (after c.args.self.now) all in
    let begun = number_of first c.self.inside.complete c.self.invariant ∙ ap complete c.self.view_is in
    let gone = number_of last c.self-2.inside.complete c.self-2.invariant ∙ ap complete c.self-2.view_is ∙ ap complete ended in
    let more = completes_more c.args.self.now piece in
    omega (arith, begun, gone, more)

pub returns-clause-given : goal.returns-clause-given
returns-clause-given c =
    let first : Session = record { rep = c.self.inside.cursor.rep; elements = c.self.inside.cursor.elements; origin = c.self.inside.origin; buf_len = c.self.inside.buf_len; one = c.self.inside.one; given = c.self.inside.cursor.position; held = c.self.inside.held.items } in
    let last : Session = record { rep = c.self-2.inside.cursor.rep; elements = c.self-2.inside.cursor.elements; origin = c.self-2.inside.origin; buf_len = c.self-2.inside.buf_len; one = c.self-2.inside.one; given = c.self-2.inside.cursor.position; held = c.self-2.inside.held.items } in
    let piece = c.args.piece.now in
    let all : take c.pieces.done piece ≡ piece = take_all c.pieces.done piece (let past = c.pieces-test.false in omega (arith, past)) in
    let ended = c.pieces.invariant.session ∙ ap (after c.args.self.now) all in
    let begun = number_of first c.self.inside.complete c.self.invariant ∙ ap complete c.self.view_is in
    let gone = number_of last c.self-2.inside.complete c.self-2.invariant ∙ ap complete c.self-2.view_is ∙ ap complete ended in
    let count = completed_count c.args.self.now piece in
    (omega (arith, begun, gone, count), c.len.ensures.value ∙ ap (λ (u : Session). length u.held) c.self-2.view_is)
