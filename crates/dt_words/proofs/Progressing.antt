-- A script that is run goes on by one line, and ends.
use Rattle.std.proofs.Common.{◌≡◌, ℕ, Bool, true, false, ◌&&◌, List, [], ◌∷◌, ◌++◌, None, refl, ap, sym, subst, ◌∙◌, append_assoc}
use Rattle.std.proofs.lemmas.List.{append-nil}
use Rattle.dt_machine.specs.Answers.{Run, are_accepted}
use Rattle.dt_machine.specs.State.{State, first_state}
use Rattle.dt_machine.specs.Step.{Step}
use Rattle.dt_reply.specs.Reply.{text_of, is_accepted, Responds}
use Rattle.dt_script.specs.Lines.{script_lines}
use Rattle.dt_words.specs.Script.{Progress, HasRun, first_kept, first_refused, text_if_any}
use Rattle.dt_words.specs.Certified.{IsCertified, Certifies}
use Rattle.dt_words.proofs.Runs.{run_more, accepted_more, first_more, none_refused, some_refused}

pub begun : (input : List ℕ) → Progress input input first_state [] true
begun input = record { lines = []; replies = []; split = refl; run = refl; told = refl; refused = refl }

pub gone_on : (input rest line after : List ℕ) (s t : State) (refusal kept reply : List ℕ) (accepted said : Bool)
    → Progress input rest s refusal accepted → script_lines rest ≡ line ∷ script_lines after
    → Responds (λ reply. Step s line reply t) said [] reply → kept ≡ first_kept accepted said refusal reply
    → Progress input after t kept (accepted && said)
gone_on input rest line after s t refusal kept reply accepted said p cut (r, step, gives) keeps = record {
  lines = p.lines ++ line ∷ [];
  replies = p.replies ++ r ∷ [];
  split = p.split ∙ ap (λ ls. p.lines ++ ls) cut ∙ sym (append_assoc p.lines (line ∷ []) (script_lines after));
  run = run_more first_state s t p.lines p.replies line r p.run step;
  told = ap (λ b. b && said) p.told ∙ ap (λ b. are_accepted p.replies && b) gives.answer ∙ sym (accepted_more p.replies r);
  refused = keeps
      ∙ ap (λ b. first_kept b said refusal reply) p.told
      ∙ ap (λ b. first_kept (are_accepted p.replies) b refusal reply) gives.answer
      ∙ ap (λ x. first_kept (are_accepted p.replies) (is_accepted r) x reply) p.refused
      ∙ ap (λ x. first_kept (are_accepted p.replies) (is_accepted r) (text_if_any (first_refused p.replies)) x) gives.text
      ∙ sym (first_more p.replies r);
}

pub ended : (input : List ℕ) (s : State) (refusal : List ℕ) (accepted : Bool) → Progress input [] s refusal accepted → HasRun input s refusal accepted
ended input s refusal accepted p =
    let P : List (List ℕ) → Type 0 = λ ls. Run first_state ls p.replies s in
    let all : p.lines ≡ script_lines input = sym (p.split ∙ append-nil p.lines) in
    record { replies = p.replies; run = subst P all p.run; told = p.told; refused = p.refused }

-- the first refusal is written where there is one, and what is written behind it where there is none
pub certified_by_refusal : (input name : List ℕ) (s : State) (refusal : List ℕ) → HasRun input s refusal false → IsCertified input name refusal false
certified_by_refusal input name s refusal run =
    let (first, is) = some_refused run.replies (sym run.told) in
    record {
      replies = run.replies;
      last = s;
      run = run.run;
      certifies = subst (λ o. Certifies o s name refusal false) (sym is) (refl, run.refused ∙ ap text_if_any is);
    }

pub certified_behind : (input name text : List ℕ) (s : State) (refusal : List ℕ) (accepted : Bool) → HasRun input s refusal true → Certifies None s name text accepted
    → IsCertified input name text accepted
certified_behind input name text s refusal accepted run certifies = record {
  replies = run.replies;
  last = s;
  run = run.run;
  certifies = subst (λ o. Certifies o s name text accepted) (sym (none_refused run.replies (sym run.told))) certifies;
}
