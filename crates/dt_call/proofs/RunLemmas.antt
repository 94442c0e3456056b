-- A run goes on by one line, ends, or is cut short.
use Rattle.std.proofs.Common.{◌≡◌, ℕ, Bool, true, ◌&&◌, List, [], ◌∷◌, ◌++◌, take, drop, Option, Result, Ok, Err, IfOk, refl, ap, sym, subst, ◌∙◌, append_assoc, take-append-drop}
use Rattle.std.proofs.KnownBytes.{Appends-nil, Appends-trans}
use Rattle.std.proofs.lemmas.List.{append-nil}
use Rattle.std.specs.Io.KnownBytes.{Appends}
use Rattle.dt_base.specs.Transfer.{AppendsFront}
use Rattle.dt_machine.specs.Answers.{Run, Answers, text_of_all, are_accepted}
use Rattle.dt_script.specs.Lines.{script_lines}
use Rattle.dt_machine.specs.Reply.{text_of, is_accepted, Responds}
use Rattle.dt_reply.specs.declared.reply.Reply.{Reply}
use Rattle.dt_machine.specs.State.{State, first_state}
use Rattle.dt_machine.specs.Step.{Step}
use Rattle.dt_kinds.specs.declared.memory.NoMemory as memory
use Rattle.dt_words.specs.declared.Said.{Said}
use Rattle.dt_words.specs.Generated.{IsGenerated}
use Rattle.dt_words.proofs.Runs.{run_more, text_more, accepted_more}
use Rattle.dt_call.specs.declared.status.Status.{Status}
use Rattle.dt_call.specs.declared.status.Status.TheVariants.{Done, Refused, WriteFault, NoMemory}
use Rattle.dt_call.specs.declared.words.Asked.{Asked}
use Rattle.dt_call.specs.declared.words.Asked.TheVariants as form
use Rattle.dt_call.specs.Progress.{Progress, Wrote, WroteSaid}
use Rattle.dt_call.specs.Result.{IsFront, IsFrontOf, IsShortFor, Says}

pub begun : (input : List ℕ) (known : Option (List ℕ)) → Progress input input first_state true known known
begun input known = record { lines = []; replies = []; split = refl; run = refl; written = Appends-nil known; told = refl }

pub gone_on : (input rest line after : List ℕ) (s t : State) (accepted said : Bool) (old mid new : Option (List ℕ)) (out : List ℕ)
    → Progress input rest s accepted old mid → script_lines rest ≡ line ∷ script_lines after
    → Responds (λ reply. Step s line reply t) said [] out → Appends mid new out
    → Progress input after t (accepted && said) old new
gone_on input rest line after s t accepted said old mid new out p cut (reply, step, gives) writes =
    let P : List ℕ → Type 0 = λ x. Appends old new x in
    let Q : List ℕ → Type 0 = λ x. Appends mid new x in
    record {
      lines = p.lines ++ line ∷ [];
      replies = p.replies ++ reply ∷ [];
      split = p.split ∙ ap (λ ls. p.lines ++ ls) cut ∙ sym (append_assoc p.lines (line ∷ []) (script_lines after));
      run = run_more first_state s t p.lines p.replies line reply p.run step;
      written = subst P (sym (text_more p.replies reply)) (Appends-trans old mid new (text_of_all p.replies) (text_of reply) p.written (subst Q gives.text writes));
      told = ap (λ b. b && said) p.told ∙ ap (λ b. are_accepted p.replies && b) gives.answer ∙ sym (accepted_more p.replies reply);
    }

pub ended : (input : List ℕ) (s : State) (accepted : Bool) (old new : Option (List ℕ)) → Progress input [] s accepted old new
    → (text : List ℕ) × Appends old new text × Answers input text accepted
ended input s accepted old new p =
    let P : List (List ℕ) → Type 0 = λ ls. Run first_state ls p.replies s in
    let all : p.lines ≡ script_lines input = sym (p.split ∙ append-nil p.lines) in
    (text_of_all p.replies, p.written, record { replies = p.replies; last = s; run = subst P all p.run; written = refl; told = p.told })

pub cut_short : (input rest : List ℕ) (s : State) (accepted : Bool) (old new : Option (List ℕ)) → Progress input rest s accepted old new
    → (text : List ℕ) × Appends old new text × IsFront input text
cut_short input rest s accepted old new p = (
  text_of_all p.replies,
  p.written,
  record {
    lines = p.lines;
    later = script_lines rest;
    split = p.split;
    replies = p.replies;
    last = s;
    run = p.run;
    unwritten = [];
    written = sym (append-nil (text_of_all p.replies));
  },
)

pub cut_in_reply : (input rest line after : List ℕ) (s t : State) (accepted said : Bool) (old mid new : Option (List ℕ)) (out : List ℕ)
    → Progress input rest s accepted old mid → script_lines rest ≡ line ∷ script_lines after
    → Responds (λ reply. Step s line reply t) said [] out → AppendsFront mid new out
    → (text : List ℕ) × Appends old new text × IsFront input text
cut_in_reply input rest line after s t accepted said old mid new out p cut (reply, step, gives) (n, small, writes) =
    let whole : text_of_all (p.replies ++ reply ∷ []) ≡ text_of_all p.replies ++ take n out ++ drop n out =
    text_more p.replies reply ∙ ap (λ x. text_of_all p.replies ++ x) (sym gives.text ∙ sym (take-append-drop n out))
    ∙ sym (append_assoc (text_of_all p.replies) (take n out) (drop n out)) in (
      text_of_all p.replies ++ take n out,
      Appends-trans old mid new (text_of_all p.replies) (take n out) p.written writes,
      record {
        lines = p.lines ++ line ∷ [];
        later = script_lines after;
        split = p.split ∙ ap (λ ls. p.lines ++ ls) cut ∙ sym (append_assoc p.lines (line ∷ []) (script_lines after));
        replies = p.replies ++ reply ∷ [];
        last = t;
        run = run_more first_state s t p.lines p.replies line reply p.run step;
        unwritten = drop n out;
        written = whole;
      },
    )

-- where nothing was written, that is a front of the replies
nothing_run : (input : List ℕ) → IsFront input []
nothing_run input = record {
  lines = [];
  later = script_lines input;
  split = refl;
  replies = [];
  last = first_state;
  run = refl;
  unwritten = [];
  written = refl;
}

cut_said : (asked : Asked) (input whole : List ℕ) (accepted : Bool) (n : ℕ) → Says asked input whole accepted → IsFrontOf asked input (take n whole)
cut_said asked input whole accepted n says = record {
  accepted = accepted;
  unwritten = drop n whole;
  says = subst (λ x. Says asked input x accepted) (sym (take-append-drop n whole)) says;
}

-- and what belongs to each other word, where memory ran out
pub nothing_short : (asked : Asked) (input : List ℕ) → IsShortFor asked input [] NoMemory
nothing_short form.Run input = nothing_run input
nothing_short (form.Certify name) input = refl
nothing_short form.Check input = refl
nothing_short form.Migrate input = refl
nothing_short (form.Gen n) input = refl

-- another word than `run`
abbrev pub IsNotRun : Asked → Type 0
IsNotRun form.Run = ⊥
IsNotRun (form.Certify name) = Unit {0}
IsNotRun form.Check = Unit {0}
IsNotRun form.Migrate = Unit {0}
IsNotRun (form.Gen n) = Unit {0}

-- a front of what is said
front_said : (asked : Asked) (input whole : List ℕ) (accepted : Bool) (n : ℕ) → IsNotRun asked → Says asked input whole accepted
    → IsShortFor asked input (take n whole) WriteFault
front_said form.Run input whole accepted n not says = absurd not
front_said (form.Certify name) input whole accepted n not says = cut_said (form.Certify name) input whole accepted n says
front_said form.Check input whole accepted n not says = cut_said form.Check input whole accepted n says
front_said form.Migrate input whole accepted n not says = cut_said form.Migrate input whole accepted n says
front_said (form.Gen m) input whole accepted n not says = cut_said (form.Gen m) input whole accepted n says

-- what is said is written, or a front of it, or nothing
wrote_of : (asked : Asked) (input : List ℕ) (said : Result Said memory.NoMemory) (status : Status) (old new : Option (List ℕ)) → IsNotRun asked
    → IfOk said (λ s. Says asked input s.text.items s.accepted) → WroteSaid said status old new → Wrote asked input status old new
wrote_of asked input (Ok s) Done old new not says (accepted, writes) = (s.text.items, writes, subst (Says asked input s.text.items) accepted says)
wrote_of asked input (Ok s) Refused old new not says (accepted, writes) = (s.text.items, writes, subst (Says asked input s.text.items) accepted says)
wrote_of asked input (Ok s) WriteFault old new not says (n, small, writes) =
    (take n s.text.items, writes, front_said asked input s.text.items s.accepted n not says)
wrote_of asked input (Err error) NoMemory old new not says same =
    ([], subst (λ x. Appends old x []) (sym same) (Appends-nil old), nothing_short asked input)
wrote_of asked input said status old new not says wrote = absurd wrote

pub wrote_said : (asked this : Asked) (input : List ℕ) (said : Result Said memory.NoMemory) (status : Status) (old new : Option (List ℕ)) → asked ≡ this → IsNotRun this
    → IfOk said (λ s. Says this input s.text.items s.accepted) → WroteSaid said status old new → Wrote asked input status old new
wrote_said asked this input said status old new is not says wrote =
    subst (λ a. Wrote a input status old new) (sym is) (wrote_of this input said status old new not says wrote)

-- what was counted tells of no refusal
pub counted_is : (n : ℕ) (said : Result Said memory.NoMemory) (status : Status) (old new : Option (List ℕ)) → IfOk said (λ s. IsGenerated n s.text.items s.accepted)
    → WroteSaid said status old new → status ≡ Refused → ⊥
counted_is n (Ok s) status old new told wrote is = let w = subst (λ x. WroteSaid (Ok s) x old new) is wrote in cc (w.0, told.told)
counted_is n (Err error) status old new told wrote is = absurd (subst (λ x. WroteSaid (Err error) x old new) is wrote)
