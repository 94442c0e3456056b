-- what a whole text reads as, and which line is wrong
use Rattle.std.proofs.Common.{◌≡◌, ◌⊎◌, inl, inr, ℕ, ◌+◌, ◌-◌, ◌≤◌, Bool, true, false, List, [], ◌∷◌, ◌++◌, map, length, Result, Ok, Err, refl, sym, ap, ◌∙◌, append-nil, append_assoc, length-append, arith}
use Rattle.std.specs.List.{flat_map}
use Rattle.std.proofs.lemmas.List.Folds.{flat_map-map}
use Rattle.dt_spelling.specs.Spelling.{Word, Words}
use Rattle.dt_cert.specs.Certificate.{Certificate}
use Rattle.dt_cert.specs.Shown.{IsWritable}
use Rattle.dt_cert.specs.Text.{line_feed, lines_of, text_of}
use Rattle.dt_verdict.specs.Cut.{ended, lines_in, lines_from}
use Rattle.dt_verdict.specs.declared.read.ReadFault.TheVariants.{Syntax}
use Rattle.dt_verdict.specs.Fault.{IsTextOf, IsBegun, IsRefused}
use Rattle.dt_verdict.specs.Whole.{certificate_at, is_ended, all_of, text_read}
use Rattle.dt_verdict.proofs.Feedless.{lines_free}
use Rattle.dt_verdict.proofs.LineWords.{line_of}
use Rattle.dt_verdict.proofs.Stopping.{StopsAt, GoesOn, all_lines, stuck}
use Rattle.dt_verdict.proofs.TextLines.{ends_so, lines_back, lines_again}
use Rattle.dt_verdict.proofs.WholeAgain.{certificate_again}
use Rattle.dt_verdict.proofs.WholeGoods.{IsText, certificate_good}

-- the text of a certificate and its lines
text_is : (c : Certificate) → text_of c ≡ flat_map ended (map line_of (lines_of c))
text_is c = sym (flat_map-map ended line_of (lines_of c))

text_lines : (c : Certificate) → IsWritable c → lines_in (text_of c) ≡ map line_of (lines_of c)
text_lines c h = ap lines_in (text_is c) ∙ lines_again (map line_of (lines_of c)) (lines_free c h)

ended_front : (line : Word) (lines : Words) → (front : List ℕ) × (flat_map ended (line ∷ lines) ≡ front ++ line_feed ∷ [])
ended_front line [] = (line, append-nil (line ++ line_feed ∷ []))
ended_front line (next ∷ lines) =
    let h = ended_front next lines in (ended line ++ h.0, ap (λ (t : List ℕ). ended line ++ t) h.1 ∙ sym (append_assoc (ended line) h.0 (line_feed ∷ [])))

some_ended : (lines : Words) → 1 ≤ length lines → is_ended (flat_map ended lines) ≡ true
some_ended [] some = absurd (omega arith)
some_ended (line ∷ lines) some = let h = ended_front line lines in ap is_ended h.1 ∙ ends_so h.0

text_ended : (c : Certificate) → is_ended (text_of c) ≡ true
text_ended c = ap is_ended (text_is c) ∙ some_ended (map line_of (lines_of c)) (omega arith)

pub read_again : (text : List ℕ) (c : Certificate) → IsTextOf text c → text_read text ≡ Ok c
unfolding text_read
read_again text c h =
    let lines : lines_from (text_of c) 0 ≡ map line_of (lines_of c) = all_lines (text_of c) ∙ text_lines c h.0 in
    ap text_read h.1
    ∙ (ap (λ b. all_of b (certificate_at (lines_from (text_of c) 0))) (text_ended c)
    ∙ ap (all_of true) (ap certificate_at lines ∙ certificate_again c h.0))

-- what is read
all_ok : (whole : Bool) (read : Result (Certificate × Words) Words) (c : Certificate) → all_of whole read ≡ Ok c → (whole ≡ true) × (read ≡ Ok (c, []))
all_ok true (Ok (d, [])) c e = (refl, cc)
all_ok false (Ok (d, [])) c e = cc
all_ok whole (Ok (d, line ∷ lines)) c e = cc
all_ok whole (Err left) c e = cc

all_err : (whole : Bool) (read : Result (Certificate × Words) Words) (left : Words) → all_of whole read ≡ Err left → (read ≡ Err left) ⊎ ((c : Certificate) × (read ≡ Ok (c, left)))
all_err true (Ok (d, [])) left e = cc
all_err false (Ok (d, [])) left e = let none : [] ≡ left = cc in inr (d, ap (λ (ws : Words). Ok (d, ws)) none)
all_err whole (Ok (d, line ∷ lines)) left e = let same : line ∷ lines ≡ left = cc in inr (d, ap (λ (ws : Words). Ok (d, ws)) same)
all_err whole (Err other) left e = inl cc

pub read_means : (text : List ℕ) (c : Certificate) → text_read text ≡ Ok c → IsTextOf text c
unfolding text_read
read_means text c e =
    let h = all_ok (is_ended text) (certificate_at (lines_from text 0)) c e in
    let took = certificate_good.ok (lines_from text 0) [] c h.1 in
    let lines : lines_in text ≡ map line_of (lines_of c) = sym (all_lines text) ∙ (took.whole ∙ (append-nil took.front ∙ (took.has).0)) in
    ((took.has).1, lines_back text h.0 ∙ (ap (flat_map ended) lines ∙ sym (text_is c)))

-- where reading stops
begun_by : (c : Certificate) (before behind : Words) → IsWritable c → map line_of (lines_of c) ≡ before ++ behind → IsBegun before
begun_by c before behind h is = record { certificate = c; behind = behind; writable = h; written = text_lines c h ∙ is }

goes_on : (before : Words) → IsBegun before → GoesOn certificate_at before
goes_on before b = record {
  behind = b.behind;
  value = b.certificate;
  rest = [];
  takes = ap certificate_at (sym b.written ∙ text_lines b.certificate b.writable) ∙ certificate_again b.certificate b.writable;
}

no_more : (c d : Certificate) (line : Word) (lines : Words) → (let r : Result (Certificate × Words) Words = Ok (c, []) in r ≡ Ok (d, line ∷ lines)) → ⊥
no_more c d line lines e =
    let same : ◌≡◌ {A = Certificate × Words} (c, []) (d, line ∷ lines) = cc in
    absurd (omega (arith, ap (λ (p : Certificate × Words). length p.1) same))

more_behind : (text : List ℕ) (left : Words) (c : Certificate) → certificate_at (lines_from text 0) ≡ Ok (c, left) → StopsAt IsBegun text left
unfolding goes_on
more_behind text left c e =
    let took = certificate_good.ok (lines_from text 0) left c e in
    record {
      before = took.front;
      whole = sym (all_lines text) ∙ took.whole;
      begun = begun_by c took.front [] (took.has).1 (sym (took.has).0 ∙ sym (append-nil took.front));
      wrong = λ next after is b.
          no_more b.certificate c next b.behind
          (sym (goes_on (took.front ++ next ∷ []) b).takes ∙ (ap certificate_at (append_assoc took.front (next ∷ []) b.behind) ∙ took.again (next ∷ b.behind)));
    }

pub stops_at : (text : List ℕ) (left : Words) → text_read text ≡ Err left → StopsAt IsBegun text left
unfolding text_read
stops_at text left e = elim (all_err (is_ended text) (certificate_at (lines_from text 0)) left e) [ inl h ↦ stuck IsText certificate_at certificate_good IsBegun (λ c before behind is. begun_by c before behind is.1 (sym is.0)) goes_on text left h | inr h ↦ more_behind text left h.0 h.1 ]

pub refused : (text : List ℕ) (left : Words) (line : ℕ) → text_read text ≡ Err left → line ≡ length (lines_in text) - length left + 1 → IsRefused text (Syntax line)
refused text left line e place =
    let h = stops_at text left e in (
      λ c is. cc (read_again text c is, e),
      record {
        before = h.before;
        left = left;
        whole = h.whole;
        place = omega (arith, place, ap length h.whole, length-append h.before left);
        begun = h.begun;
        wrong = h.wrong;
      },
    )

pub refused_at : (text : List ℕ) (left : Words) (line : ℕ) → text_read text ≡ Err left → line ≡ length (lines_from text 0) - length left + 1 → IsRefused text (Syntax line)
refused_at text left line e place = refused text left line e (place ∙ ap (λ (ws : Words). length ws - length left + 1) (all_lines text))
