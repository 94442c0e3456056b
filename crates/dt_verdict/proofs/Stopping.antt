-- where reading a text stops
use Rattle.std.proofs.Common.{◌≡◌, List, ℕ, [], ◌∷◌, ◌++◌, Result, Ok, Err, refl, sym, ap, subst, ◌∙◌, append-nil, append_assoc}
use Rattle.dt_spelling.specs.Reading.{Reader}
use Rattle.dt_spelling.specs.Spelling.{Word, Words}
use Rattle.dt_spelling.proofs.Readers.{Good}
use Rattle.dt_verdict.specs.Cut.{lines_in, lines_from}

pub all_lines : (text : List ℕ) → lines_from text 0 ≡ lines_in text
unfolding lines_from
all_lines text = refl

pub record StopsAt (Begin : Words → Type 0) (text : List ℕ) (left : Words) : Type 0 where
  pub before : Words
  pub whole : lines_in text ≡ before ++ left
  pub begun : Begin before
  pub wrong : (next : Word) (after : Words) → left ≡ next ∷ after → ¬ Begin (before ++ next ∷ [])

-- lines that begin what a reader takes are taken, with some lines behind them
pub record GoesOn {A : Type 0} (r : Reader A) (lines : Words) : Type 0 where
  pub behind : Words
  pub value : A
  pub rest : Words
  pub takes : r (lines ++ behind) ≡ Ok (value, rest)

module _ {A : Type 0} (P : A → Words → Type 0) (r : Reader A) (good : Good P r) (Begin : Words → Type 0)
    (begun : (x : A) (before behind : Words) → P x (before ++ behind) → Begin before)
    (again : (before : Words) → Begin before → GoesOn r before) where
  pub stuck : (text : List ℕ) (left : Words) → r (lines_from text 0) ≡ Err left → StopsAt Begin text left
  stuck text left e =
      let h = good.err (lines_from text 0) left e in
      let took = good.ok (h.front ++ h.next ∷ h.more) [] h.value h.goes_on in
      let all : took.front ≡ h.front ++ h.next ∷ h.more = sym (append-nil took.front) ∙ sym took.whole in
      record {
        before = h.front;
        whole = sym (all_lines text) ∙ h.whole;
        begun = begun h.value h.front (h.next ∷ h.more) (subst (P h.value) all took.has);
        wrong = λ next after is b.
            let g = again (h.front ++ next ∷ []) b in
            cc (ap r (sym (append_assoc h.front (next ∷ []) g.behind)) ∙ g.takes, h.wrong next after g.behind is);
      }
