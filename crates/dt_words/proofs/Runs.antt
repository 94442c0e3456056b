-- A run goes on by one line.
use Rattle.std.proofs.Common.{◌≡◌, ℕ, Bool, true, false, ◌&&◌, not, List, [], ◌∷◌, ◌++◌, Option, Some, None, if◌then◌else◌, refl, ap, sym, subst, ◌∙◌, append_assoc}
use Rattle.std.proofs.Math.Bool.{and-true}
use Rattle.std.proofs.lemmas.Grind.{flat_map-append}
use Rattle.std.proofs.lemmas.List.{append-nil}
use Rattle.std.proofs.lemmas.List.Folds.{list_all-append}
use Rattle.dt_machine.specs.Answers.{Run, text_of_all, are_accepted}
use Rattle.dt_machine.specs.State.{State, first_state}
use Rattle.dt_machine.specs.Step.{Step}
use Rattle.dt_reply.specs.Reply.{text_of, is_accepted}
use Rattle.dt_reply.specs.declared.reply.Reply.{Reply}
use Rattle.dt_words.specs.Script.{first_refused, text_if_any, first_kept}

pub run_more : (s t u : State) (lines : List (List ℕ)) (replies : List Reply) (line : List ℕ) (reply : Reply)
    → Run s lines replies t → Step t line reply u → Run s (lines ++ line ∷ []) (replies ++ reply ∷ []) u
run_more s t u [] [] line reply run step =
    let P : State → Type 0 = λ x. Step x line reply u in (u, subst P run step, refl)
run_more s t u [] (r ∷ rs) line reply run step = absurd run
run_more s t u (l ∷ ls) [] line reply run step = absurd run
run_more s t u (l ∷ ls) (r ∷ rs) line reply (mid, first, later) step = (mid, first, run_more mid t u ls rs line reply later step)

pub text_more : (replies : List Reply) (reply : Reply) → text_of_all (replies ++ reply ∷ []) ≡ text_of_all replies ++ text_of reply
text_more replies reply = flat_map-append text_of replies (reply ∷ []) ∙ ap (λ x. text_of_all replies ++ x) (append-nil (text_of reply))

pub accepted_more : (replies : List Reply) (reply : Reply) → are_accepted (replies ++ reply ∷ []) ≡ (are_accepted replies && is_accepted reply)
accepted_more replies reply = list_all-append is_accepted replies (reply ∷ []) ∙ ap (λ b. are_accepted replies && b) (and-true (is_accepted reply))

-- the text of the first refusal, with one reply more
first_alone : (b : Bool) (reply : Reply) → text_if_any (if b then None else Some reply) ≡ first_kept true b [] (text_of reply)
first_alone true reply = refl
first_alone false reply = refl

first_behind : (b all said : Bool) (first : Reply) (rest more : Option Reply) (text : List ℕ) → text_if_any more ≡ first_kept all said (text_if_any rest) text
    → text_if_any (if b then more else Some first) ≡ first_kept (b && all) said (text_if_any (if b then rest else Some first)) text
first_behind true all said first rest more text same = same
first_behind false all said first rest more text same = refl

pub first_more : (replies : List Reply) (reply : Reply)
    → text_if_any (first_refused (replies ++ reply ∷ []))
    ≡ first_kept (are_accepted replies) (is_accepted reply) (text_if_any (first_refused replies)) (text_of reply)
first_more [] reply = first_alone (is_accepted reply) reply
first_more (r ∷ rs) reply =
    first_behind (is_accepted r) (are_accepted rs) (is_accepted reply) r (first_refused rs) (first_refused (rs ++ reply ∷ [])) (text_of reply) (first_more rs reply)

-- where all are accepted, there is no first refusal, and else there is
none_behind : (b : Bool) (r : Reply) (rs : List Reply) → (are_accepted rs ≡ true → first_refused rs ≡ None) → (b && are_accepted rs) ≡ true
    → (if b then first_refused rs else Some r) ≡ None
none_behind true r rs rest all = rest all
none_behind false r rs rest all = cc

pub none_refused : (replies : List Reply) → are_accepted replies ≡ true → first_refused replies ≡ None
none_refused [] all = refl
none_refused (r ∷ rs) all = none_behind (is_accepted r) r rs (none_refused rs) all

some_behind : (b : Bool) (r : Reply) (rs : List Reply) → (are_accepted rs ≡ false → (first : Reply) × (first_refused rs ≡ Some first)) → (b && are_accepted rs) ≡ false
    → (first : Reply) × ((if b then first_refused rs else Some r) ≡ Some first)
some_behind true r rs rest not = rest not
some_behind false r rs rest not = (r, refl)

pub some_refused : (replies : List Reply) → are_accepted replies ≡ false → (first : Reply) × (first_refused replies ≡ Some first)
some_refused [] not = cc
some_refused (r ∷ rs) not = some_behind (is_accepted r) r rs (some_refused rs) not
