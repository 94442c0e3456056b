-- texts of version 1
use Rattle.std.proofs.Common.{◌≡◌, ℕ, ◌+◌, ◌-◌, Some, Ok, Err, List, [], ◌∷◌, ◌++◌, map, length, codes, bytes_eq, refl, sym, ap, ◌∙◌, append-nil, append_assoc, length-append, arith}
use Rattle.std.specs.List.{AllByRecursion, flat_map}
use Rattle.std.proofs.lemmas.Grind.{flat_map-append}
use Rattle.std.proofs.lemmas.List.Folds.{flat_map-map}
use Rattle.std.proofs.lemmas.Slice.Eq.{bytes_eq-Decides}
use Rattle.dt_map.specs.declared.entry.Entry.{Entry}
use Rattle.dt_tree.specs.Weights.{Weights}
use Rattle.dt_spelling.specs.Reading.{bind, item_at}
use Rattle.dt_spelling.specs.Spelling.{Word, Words}
use Rattle.dt_spelling.proofs.Numbers.{passed}
use Rattle.dt_spelling.proofs.Readers.{Good, bind_good, give_good, item_good}
use Rattle.dt_cert.specs.Text.{text_of_line, weights_line, map_lines}
use Rattle.dt_verdict.specs.Cut.{ended, lines_in, lines_from}
use Rattle.dt_verdict.specs.Lines.{line_as}
use Rattle.dt_verdict.specs.Old.{IsOldOf, IsOldBegun, IsOldRefused, AreAllowed, old_lines, old_at}
use Rattle.dt_verdict.specs.Reading.{is_word, weights_at}
use Rattle.dt_verdict.specs.Whole.{map_at}
use Rattle.dt_verdict.proofs.Feedless.{AreFeedless, old_free}
use Rattle.dt_verdict.proofs.LineGoods.{AreWeights, weights_good, IsMap, map_good, front_line}
use Rattle.dt_verdict.proofs.LineWords.{line_of, weights_again}
use Rattle.dt_verdict.proofs.Stopping.{StopsAt, GoesOn, all_lines, stuck}
use Rattle.dt_verdict.proofs.TextLines.{lines_again, lines_before, lines_and_rest}
use Rattle.dt_verdict.proofs.WholeAgain.{map_again}

-- what is read
abbrev IsFirstLine : Unit {0} → Words → Type 0
IsFirstLine x u = u ≡ codes "dtcert 1" ∷ []

first_means : (line : Word) → is_word (codes "dtcert 1") line ≡ Some tt → line ≡ codes "dtcert 1"
first_means line e = (bytes_eq-Decides line (codes "dtcert 1")).0 (passed (bytes_eq line (codes "dtcert 1")) tt tt e).0

first_good : Good IsFirstLine (item_at (is_word (codes "dtcert 1")))
first_good = item_good IsFirstLine (is_word (codes "dtcert 1")) (codes "dtcert 1") tt refl (λ w y e. ap (λ (l : Word). l ∷ []) (first_means w e))

abbrev IsOldFront : Weights × List Entry → Words → Type 0
IsOldFront x u = (u ≡ map line_of (old_lines x.0 x.1)) × AreAllowed x.0 x.1

old_good : Good IsOldFront old_at
unfolding old_at
old_good =
    bind_good IsFirstLine _ (item_at (is_word (codes "dtcert 1"))) _ first_good (λ version u a.
    bind_good AreWeights _ (item_at (line_as weights_at)) _ weights_good (λ weights v b.
    bind_good IsMap _ map_at _ map_good (λ entries w c.
    give_good (λ x r. IsOldFront x (u ++ (v ++ (w ++ r)))) (weights, entries) (
      front_line u (v ++ (w ++ [])) (codes "dtcert 1") (map line_of (weights_line weights ∷ map_lines entries)) a
          (front_line v (w ++ []) (line_of (weights_line weights)) (map line_of (map_lines entries)) b.0 (append-nil w ∙ c.0)),
      (let few = c.2 in record { light = b.1; few = few; fit = c.1 }),
    ))))

old_again : (w : Weights) (m : List Entry) (behind : Words) → AreAllowed w m → old_at (map line_of (old_lines w m) ++ behind) ≡ Ok ((w, m), behind)
unfolding old_at bind
old_again w m behind h = rw (weights_again w h.light) (rw (map_again m behind h.fit h.few) refl)

-- texts and lines
front_is : (w : Weights) (m : List Entry) → flat_map text_of_line (old_lines w m) ≡ flat_map ended (map line_of (old_lines w m))
front_is w m = sym (flat_map-map ended line_of (old_lines w m))

front_lines : (w : Weights) (m : List Entry) → AreAllowed w m → lines_in (flat_map text_of_line (old_lines w m)) ≡ map line_of (old_lines w m)
front_lines w m h = ap lines_in (front_is w m) ∙ lines_again (map line_of (old_lines w m)) (old_free w m h.light h.few h.fit)

pub old_means : (text : List ℕ) (w : Weights) (m : List Entry) (rest : Words) → old_at (lines_from text 0) ≡ Ok ((w, m), rest) → IsOldOf text w m
old_means text w m rest e =
    let took = old_good.ok (lines_from text 0) rest (w, m) e in
    let all = lines_and_rest text in
    let lines : lines_in text ≡ map line_of (old_lines w m) ++ rest = sym (all_lines text) ∙ (took.whole ∙ ap (λ (ws : Words). ws ++ rest) (took.has).0) in
    record {
      allowed = (took.has).1;
      behind = flat_map ended rest ++ all.0;
      written =
          all.1
          ∙ (ap (λ (ws : Words). flat_map ended ws ++ all.0) lines
          ∙ (ap (λ (t : List ℕ). t ++ all.0) (flat_map-append ended (map line_of (old_lines w m)) rest)
          ∙ (append_assoc (flat_map ended (map line_of (old_lines w m))) (flat_map ended rest) all.0
          ∙ ap (λ (t : List ℕ). t ++ (flat_map ended rest ++ all.0)) (sym (front_is w m)))));
    }

read_again : (text : List ℕ) (w : Weights) (m : List Entry) → (h : IsOldOf text w m) → old_at (lines_from text 0) ≡ Ok ((w, m), lines_in h.behind)
read_again text w m h =
    let lines : lines_in text ≡ map line_of (old_lines w m) ++ lines_in h.behind =
    ap lines_in (h.written ∙ ap (λ (t : List ℕ). t ++ h.behind) (front_is w m)) ∙ lines_before (map line_of (old_lines w m)) h.behind (old_free w m h.allowed.light h.allowed.few h.allowed.fit) in
    ap old_at (all_lines text ∙ lines) ∙ old_again w m (lines_in h.behind) h.allowed

begun_by : (x : Weights × List Entry) (before behind : Words) → IsOldFront x (before ++ behind) → IsOldBegun before
begun_by x before behind h = record { weights = x.0; entries = x.1; behind = behind; allowed = h.1; written = front_lines x.0 x.1 h.1 ∙ sym h.0 }

goes_on : (before : Words) → IsOldBegun before → GoesOn old_at before
goes_on before b = record {
  behind = b.behind;
  value = (b.weights, b.entries);
  rest = [];
  takes =
      ap old_at (sym b.written ∙ (front_lines b.weights b.entries b.allowed ∙ sym (append-nil (map line_of (old_lines b.weights b.entries)))))
      ∙ old_again b.weights b.entries [] b.allowed;
}

pub old_refused : (text : List ℕ) (left : Words) (line : ℕ) → old_at (lines_from text 0) ≡ Err left → line ≡ length (lines_from text 0) - length left + 1 → IsOldRefused text line
old_refused text left line e place =
    let h = stuck IsOldFront old_at old_good IsOldBegun begun_by goes_on text left e in (
      λ w m is. cc (read_again text w m is, e),
      record {
        before = h.before;
        left = left;
        whole = h.whole;
        place = omega (arith, place, ap length (all_lines text), ap length h.whole, length-append h.before left);
        begun = h.begun;
        wrong = h.wrong;
      },
    )
