-- texts and their lines
use Rattle.std.proofs.Common.{◌≡◌, ◌⊎◌, inl, inr, ℕ, ◌-◌, ◌==◌, Bool, true, false, List, [], ◌∷◌, ◌++◌, length, take, drop, refl, sym, ap, ◌∙◌, append-nil, append_assoc, arith}
use Rattle.std.specs.List.{All, AllByRecursion, flat_map, join_with_byte, slice_split, onto_first}
use Rattle.std.proofs.lemmas.List.Splits.{join_with_byte-slice_split, slice_split_at, slice_split-cons_yes, slice_split-cons_no}
use Rattle.std.proofs.lemmas.List.{take-append-drop, length-append}
use Rattle.std.proofs.lemmas.Slice.Eq.{bytes_eq-Decides}
use Rattle.std.proofs.Math.Seq.{drop-append_seam}
use Rattle.dt_cert.specs.Text.{line_feed}
use Rattle.dt_spelling.specs.Spelling.{Word, Words}
use Rattle.dt_verdict.specs.Cut.{all_but_last, ended, lines_in}
use Rattle.dt_verdict.specs.Whole.{is_ended}
use Rattle.dt_verdict.proofs.Cutting.{front_piece}

-- a text that ends with a line feed is its lines
abbrev IsFeed : ℕ → Bool
IsFeed b = b == line_feed

pieces_of : (front : List ℕ) → (first : Word) × (mid : Words) × (slice_split IsFeed (front ++ line_feed ∷ []) ≡ first ∷ (mid ++ [] ∷ []))
pieces_of [] = ([], [], refl)
pieces_of (b ∷ front) = elim (tested (IsFeed b)) [
  | inl is ↦
      let h = pieces_of front in
      ([], h.0 ∷ h.1, slice_split-cons_yes IsFeed b (front ++ line_feed ∷ []) is ∙ ap (λ (ws : Words). [] ∷ ws) h.2)
  | inr not ↦
      let h = pieces_of front in
      (b ∷ h.0, h.1, slice_split-cons_no IsFeed b (front ++ line_feed ∷ []) not ∙ ap (onto_first b) h.2)
]
  where
    tested : (b : Bool) → (b ≡ true) ⊎ (b ≡ false)
    tested true = inl refl
    tested false = inr refl

last_dropped : (first : Word) (mid : Words) → all_but_last (first ∷ (mid ++ [] ∷ [])) ≡ first ∷ mid
last_dropped first [] = refl
last_dropped first (next ∷ mid) = ap (λ (ws : Words). first ∷ ws) (last_dropped next mid)

joined_lines : (first : Word) (mid : Words) → join_with_byte line_feed (first ∷ (mid ++ [] ∷ [])) ≡ flat_map ended (first ∷ mid)
joined_lines first [] = sym (append-nil (first ++ line_feed ∷ []))
joined_lines first (next ∷ mid) = ap (λ (t : List ℕ). first ++ line_feed ∷ t) (joined_lines next mid) ∙ sym (append_assoc first (line_feed ∷ []) (flat_map ended (next ∷ mid)))

pub lines_back : (text : List ℕ) → is_ended text ≡ true → text ≡ flat_map ended (lines_in text)
lines_back text e =
    let front = take (length text - 1) text in
    let is : text ≡ front ++ line_feed ∷ [] =
    sym (take-append-drop (length text - 1) text) ∙ ap (λ (t : List ℕ). front ++ t) ((bytes_eq-Decides (drop (length text - 1) text) (line_feed ∷ [])).0 e) in
    let h = pieces_of front in
    let pieces : slice_split IsFeed text ≡ h.0 ∷ (h.1 ++ [] ∷ []) = ap (slice_split IsFeed) is ∙ h.2 in
    sym (join_with_byte-slice_split line_feed text)
    ∙ (ap (join_with_byte line_feed) pieces
    ∙ (joined_lines h.0 h.1 ∙ ap (flat_map ended) (sym (ap all_but_last pieces ∙ last_dropped h.0 h.1))))

pub ends_so : (front : List ℕ) → is_ended (front ++ line_feed ∷ []) ≡ true
ends_so front =
    let at : length (front ++ line_feed ∷ []) - 1 ≡ length front = omega (arith, length-append front (line_feed ∷ [])) in
    let rest : drop (length (front ++ line_feed ∷ []) - 1) (front ++ line_feed ∷ []) ≡ line_feed ∷ [] = ap (λ n. drop n (front ++ line_feed ∷ [])) at ∙ drop-append_seam front (line_feed ∷ []) in
    (bytes_eq-Decides (drop (length (front ++ line_feed ∷ []) - 1) (front ++ line_feed ∷ [])) (line_feed ∷ [])).1 rest

-- lines without line feeds, ended and cut again
abbrev pub IsFeedless : Word → Type 0
IsFeedless word = All (λ b. (b == line_feed) ≡ false) word

-- and what stands behind them
pub lines_before : (lines : Words) (rest : List ℕ) → AllByRecursion IsFeedless lines → lines_in (flat_map ended lines ++ rest) ≡ lines ++ lines_in rest
lines_before [] rest h = refl
lines_before (line ∷ lines) rest h =
    ap lines_in (append_assoc (ended line) (flat_map ended lines) rest ∙ append_assoc line (line_feed ∷ []) (flat_map ended lines ++ rest))
    ∙ (ap all_but_last (slice_split_at IsFeed line line_feed (flat_map ended lines ++ rest) h.0 refl)
    ∙ (front_piece line (flat_map ended lines ++ rest) ∙ ap (λ (ws : Words). line ∷ ws) (lines_before lines rest h.1)))

pub lines_again : (lines : Words) → AllByRecursion IsFeedless lines → lines_in (flat_map ended lines) ≡ lines
lines_again lines h = ap lines_in (sym (append-nil (flat_map ended lines))) ∙ (lines_before lines [] h ∙ append-nil lines)

-- any text is its lines and what stands behind the last line feed
pieces_joined : (pieces : Words) → (rest : List ℕ) × (join_with_byte line_feed pieces ≡ flat_map ended (all_but_last pieces) ++ rest)
pieces_joined [] = ([], refl)
pieces_joined (piece ∷ []) = (piece, refl)
pieces_joined (piece ∷ next ∷ pieces) =
    let h = pieces_joined (next ∷ pieces) in (
      h.0,
      ap (λ (t : List ℕ). piece ++ line_feed ∷ t) h.1
          ∙ (sym (append_assoc piece (line_feed ∷ []) (flat_map ended (all_but_last (next ∷ pieces)) ++ h.0)) ∙ sym (append_assoc (ended piece) (flat_map ended (all_but_last (next ∷ pieces))) h.0)),
    )

pub lines_and_rest : (text : List ℕ) → (rest : List ℕ) × (text ≡ flat_map ended (lines_in text) ++ rest)
lines_and_rest text =
    let h = pieces_joined (slice_split IsFeed text) in
    (h.0, sym (join_with_byte-slice_split line_feed text) ∙ h.1)
