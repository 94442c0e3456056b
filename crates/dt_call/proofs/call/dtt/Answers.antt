use Rattle.std.proofs.Common.{[], map, string_bytes, sym, ◌∙◌}
use Rattle.dt_call.specs.declared.status.Status.TheVariants.{ReadFault, NoMemory, TooLong}
use Rattle.dt_call.specs.Result.{Gained, IsResult, IsShort}
use Rattle.dt_call.proofs.CallLemmas.{wrong_words, right_words, read_fault_is, too_long_is, no_memory_is, wrote_no_usage, answered, shortened, told_unread, told_read, nothing_written}
use Rattle.dt_call.proofs.WordLemmas.{others}
use Rattle.dt_call.proofs.call.dtt.Goals as goal

pub returns-in_default-clause-usage : goal.returns-in_default-clause-usage
returns-in_default-clause-usage g c = wrong_words (map string_bytes c.args.words.now) (sym c.read_words.ensures ∙ c.in_default.is)

pub returns-in_default-clause-complete : goal.returns-in_default-clause-complete
returns-in_default-clause-complete g c = λ asked ask _ _. others (map string_bytes c.args.words.now) (sym c.read_words.ensures ∙ c.in_default.is) asked ask

pub returns-then-not-reads-clause-answers : goal.returns-then-not-reads-clause-answers
returns-then-not-reads-clause-answers g c = λ answer.
    let old = g.K.Sink.held c.args.sink.now in
    let new = g.K.Sink.held c.answer.new.sink in
    let is = sym c.read_words.ensures ∙ c.in-Some.is in
    told_unread (map string_bytes c.args.words.now) c.in-Some.asked (g.S.Source.left c.args.source.now) old (λ input before. Gained new before (λ text. IsResult (map string_bytes c.args.words.now) input text c.answer.result))
    is (sym c.reads.ensures ∙ c.if-not-reads.true) (answered (map string_bytes c.args.words.now) c.in-Some.asked [] c.answer.result old new is c.answer.ensures.wrote answer)

pub returns-then-not-reads-clause-usage : goal.returns-then-not-reads-clause-usage
returns-then-not-reads-clause-usage g c =
    right_words (map string_bytes c.args.words.now) c.in-Some.asked c.answer.result (sym c.read_words.ensures ∙ c.in-Some.is)
    (wrote_no_usage c.in-Some.asked [] c.answer.result (g.K.Sink.held c.args.sink.now) (g.K.Sink.held c.answer.new.sink) c.answer.ensures.wrote)

pub returns-then-not-reads-clause-front : goal.returns-then-not-reads-clause-front
returns-then-not-reads-clause-front g c = λ cut.
    let old = g.K.Sink.held c.args.sink.now in
    let new = g.K.Sink.held c.answer.new.sink in
    let is = sym c.read_words.ensures ∙ c.in-Some.is in
    told_unread (map string_bytes c.args.words.now) c.in-Some.asked (g.S.Source.left c.args.source.now) old (λ input before. Gained new before (λ text. IsShort (map string_bytes c.args.words.now) input text c.answer.result))
    is (sym c.reads.ensures ∙ c.if-not-reads.true) (shortened (map string_bytes c.args.words.now) c.in-Some.asked [] c.answer.result old new is c.answer.ensures.wrote cut)

pub returns-in-Ok-clause-answers : goal.returns-in-Ok-clause-answers
returns-in-Ok-clause-answers g c = λ answer.
    let input = c.deref.result.now in
    let old = g.K.Sink.held c.args.sink.now in
    let new = g.K.Sink.held c.answer-in-Ok.new.sink in
    let is = sym c.read_words.ensures ∙ c.in-Some.is in
    told_read (map string_bytes c.args.words.now) c.in-Some.asked (g.S.Source.left c.args.source.now) (g.S.Source.left c.read_all.new.source) old input
    (λ input before. Gained new before (λ text. IsResult (map string_bytes c.args.words.now) input text c.answer-in-Ok.result))
    is (sym c.reads.ensures ∙ c.if-not-reads.false) (rw c.deref.ensures.value c.in-Ok.ensures.bytes)
    (answered (map string_bytes c.args.words.now) c.in-Some.asked input c.answer-in-Ok.result old new is c.answer-in-Ok.ensures.wrote answer)

pub returns-in-Ok-clause-usage : goal.returns-in-Ok-clause-usage
returns-in-Ok-clause-usage g c =
    right_words (map string_bytes c.args.words.now) c.in-Some.asked c.answer-in-Ok.result (sym c.read_words.ensures ∙ c.in-Some.is)
    (wrote_no_usage c.in-Some.asked c.deref.result.now c.answer-in-Ok.result (g.K.Sink.held c.args.sink.now) (g.K.Sink.held c.answer-in-Ok.new.sink) c.answer-in-Ok.ensures.wrote)

pub returns-in-Ok-clause-front : goal.returns-in-Ok-clause-front
returns-in-Ok-clause-front g c = λ cut.
    let input = c.deref.result.now in
    let old = g.K.Sink.held c.args.sink.now in
    let new = g.K.Sink.held c.answer-in-Ok.new.sink in
    let is = sym c.read_words.ensures ∙ c.in-Some.is in
    told_read (map string_bytes c.args.words.now) c.in-Some.asked (g.S.Source.left c.args.source.now) (g.S.Source.left c.read_all.new.source) old input
    (λ input before. Gained new before (λ text. IsShort (map string_bytes c.args.words.now) input text c.answer-in-Ok.result))
    is (sym c.reads.ensures ∙ c.if-not-reads.false) (rw c.deref.ensures.value c.in-Ok.ensures.bytes)
    (shortened (map string_bytes c.args.words.now) c.in-Some.asked input c.answer-in-Ok.result old new is c.answer-in-Ok.ensures.wrote cut)

pub returns-in-Err-Fault-clause-usage : goal.returns-in-Err-Fault-clause-usage
returns-in-Err-Fault-clause-usage g c = right_words (map string_bytes c.args.words.now) c.in-Some.asked ReadFault (sym c.read_words.ensures ∙ c.in-Some.is) read_fault_is

pub returns-in-Err-TooLong-clause-usage : goal.returns-in-Err-TooLong-clause-usage
returns-in-Err-TooLong-clause-usage g c = right_words (map string_bytes c.args.words.now) c.in-Some.asked TooLong (sym c.read_words.ensures ∙ c.in-Some.is) too_long_is

pub returns-in-Err-NoMemory-clause-usage : goal.returns-in-Err-NoMemory-clause-usage
returns-in-Err-NoMemory-clause-usage g c = right_words (map string_bytes c.args.words.now) c.in-Some.asked NoMemory (sym c.read_words.ensures ∙ c.in-Some.is) no_memory_is

pub returns-in-Err-NoMemory-clause-front : goal.returns-in-Err-NoMemory-clause-front
returns-in-Err-NoMemory-clause-front g c =
    λ _. nothing_written (map string_bytes c.args.words.now) c.in-Some.asked (g.S.Source.left c.args.source.now) (g.K.Sink.held c.args.sink.now) (sym c.read_words.ensures ∙ c.in-Some.is)
