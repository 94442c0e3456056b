-- What is known of the types, the buffers and the sessions between the lines of a script.
use Rattle.std.proofs.Common.{◌≡◌, ℕ, suc, ◌+◌, ◌*◌, ◌%◌, ◌≤◌, false, cond, pos, nat_abs, List, [], ◌∷◌, length, get_or, codes, Some, None, refl, sym, ap, ◌∙◌, arith}
use Rattle.std.proofs.lemmas.List.{length-map, length-replicate}
use Rattle.std.specs.Map.{set_value, remove_entry}
use Rattle.dt_gen.specs.Script.{name}
use Rattle.dt_names.specs.declared.kept.Kept.{Kept}
use Rattle.dt_names.specs.Names.{under, bytes_in, bytes_of}
use Rattle.dt_offsets.specs.Offsets.{below}
use Rattle.dt_offsets.proofs.Reaches.{length-below}
use Rattle.dt_pack.specs.Session as pack
use Rattle.dt_script.specs.declared.command.Fill.TheVariants.{Zero, Count}
use Rattle.dt_sessions.specs.declared.session.Opened.{Opened}
use Rattle.dt_sessions.specs.Open.{packing, unpacking}
use Rattle.dt_unpack.specs.Session as unpack
use Rattle.dt_accepted.proofs.Entries.{at, more, same_at, other_at, others_stand, one_more, sum_more, set_many, set_free, sum_set, letters_differ, numbers_differ}
use Rattle.dt_accepted.proofs.Vectors.{size_of_pos}

-- two names of a round, of which neither stands from some round on
abbrev pub AreFree : {A : Type 0} → List ℕ → List ℕ → ℕ → List (List ℕ × A) → Type 0
AreFree one other r es = (i : ℕ) → r ≤ i → i ≤ 99 → (under (name one i) es ≡ None) × (under (name other i) es ≡ None)

-- before a round two types of each round before it stand
pub record TypesBefore (r : ℕ) (types : List (List ℕ × Kept)) (made : ℕ) : Type 0 where
  pub few : length types ≤ 2 * r
  pub ever : made ≤ 2 * r
  pub free : AreFree (codes "v") (codes "h") r types
  pub large : under (codes "big") types ≡ None

-- and two buffers
pub record BuffersBefore (r : ℕ) (buffers : List (List ℕ × List ℕ)) : Type 0 where
  pub few : length buffers ≤ 2 * r
  pub held : bytes_in buffers ≤ 3808 * r
  pub free : AreFree (codes "b") (codes "z") r buffers

-- two things under names of a round leave the names of later rounds free
module _ {A : Type 0} (one other : ℕ) (r : ℕ) (few : r ≤ 99) (apart : ¬ (one ≡ other)) (es : List (List ℕ × A)) (x y : A)
    (free : AreFree (one ∷ []) (other ∷ []) r es) where
  pub first_free : under (name (one ∷ []) r) es ≡ None
  first_free = (free r (omega arith) few).0

  pub second_free : under (name (other ∷ []) r) (more es (name (one ∷ []) r) x) ≡ None
  second_free =
      others_stand (name (one ∷ []) r) x (name (other ∷ []) r) (letters_differ other one r r (λ same. apart (sym same))) es ∙ (free r (omega arith) few).1

  pub later_free : AreFree (one ∷ []) (other ∷ []) (suc r) (more (more es (name (one ∷ []) r) x) (name (other ∷ []) r) y)
  later_free i above most =
      let a = name (one ∷ []) r in
      let b = name (other ∷ []) r in
      let apart_i : ¬ (i ≡ r) = λ same. absurd (omega (arith, same, above)) in
      let before = free i (omega arith) most in
      let reversed : ¬ (other ≡ one) = λ same. apart (sym same) in (
        others_stand b y (name (one ∷ []) i) (letters_differ one other i r apart) (more es a x)
            ∙ (others_stand a x (name (one ∷ []) i) (numbers_differ one i r most few apart_i) es ∙ before.0),
        others_stand b y (name (other ∷ []) i) (numbers_differ other i r most few apart_i) (more es a x)
            ∙ (others_stand a x (name (other ∷ []) i) (letters_differ other one i r reversed) es ∙ before.1),
      )

-- the types after those of a round were made, and the second was committed
first_letter : List ℕ → ℕ
first_letter bytes = get_or bytes 0 0

large_differs : (letter r : ℕ) → ¬ (98 ≡ letter) → ¬ (codes "big" ≡ name (letter ∷ []) r)
unfolding first_letter
large_differs letter r differ same = differ (ap first_letter same)

pub types_after : (r : ℕ) (types : List (List ℕ × Kept)) (made : ℕ) (x y z : Kept) → r ≤ 99 → TypesBefore r types made
    → TypesBefore (suc r) (set_value (at (name (codes "h") r)) (more (more types (name (codes "v") r) x) (name (codes "h") r) y) z) (made + 1 + 1)
types_after r types made x y z few before =
    let v = name (codes "v") r in
    let h = name (codes "h") r in
    let all = more (more types v x) h y in
    let one = one_more v x types in
    let two = one_more h y (more types v x) in
    let same = set_many (at h) all z in
    let few_before = before.few in
    let made_before = before.ever in
    let later = later_free 118 104 r few (λ same. absurd (omega (arith, same))) types x y before.free in
    record {
      few = omega (arith, one, two, same, few_before);
      ever = omega (arith, made_before);
      free = λ i above most.
          (set_free (at h) all z (at (name (codes "v") i)) (later i above most).0, set_free (at h) all z (at (name (codes "h") i)) (later i above most).1);
      large =
          set_free (at h) all z (at (codes "big"))
          (others_stand h y (codes "big") (large_differs 104 r (λ same. absurd (omega (arith, same)))) (more types v x)
          ∙ (others_stand v x (codes "big") (large_differs 118 r (λ same. absurd (omega (arith, same)))) types ∙ before.large));
    }

-- the buffers after those of a round were made
pub buffers_after : (r : ℕ) (buffers : List (List ℕ × List ℕ)) (x y : List ℕ) → r ≤ 99 → length x ≤ 1904 → length y ≤ 1904 → BuffersBefore r buffers
    → BuffersBefore (suc r) (more (more buffers (name (codes "b") r) x) (name (codes "z") r) y)
buffers_after r buffers x y few short small before =
    let b = name (codes "b") r in
    let z = name (codes "z") r in
    let one = one_more b x buffers in
    let two = one_more z y (more buffers b x) in
    let more_one = sum_more b x length buffers in
    let more_two = sum_more z y length (more buffers b x) in
    let few_before = before.few in
    let held_before = before.held in
    record {
      few = omega (arith, one, two, few_before);
      held = omega (arith, more_one, more_two, held_before, short, small);
      free = later_free 98 122 r few (λ same. absurd (omega (arith, same))) buffers x y before.free;
    }

-- and after one of them was written to
pub buffers_written : (r : ℕ) (buffers : List (List ℕ × List ℕ)) (name old new : List ℕ) → under name buffers ≡ Some old → length new ≡ length old
    → BuffersBefore r buffers → BuffersBefore r (set_value (at name) buffers new)
buffers_written r buffers name old new stands same before =
    let many = set_many (at name) buffers new in
    let sum = sum_set (at name) length buffers old new stands same in
    let few_before = before.few in
    let held_before = before.held in
    record {
      few = omega (arith, many, few_before);
      held = omega (arith, sum, held_before);
      free = λ i above most. (set_free (at name) buffers new _ (before.free i above most).0, set_free (at name) buffers new _ (before.free i above most).1);
    }

-- how many bytes new buffers have
pub count_length : (len : ℕ) → length (bytes_of (Count (pos len))) ≡ len
count_length len = length-map (below (nat_abs (pos len))) (λ i. i % 256) ∙ (length-below (nat_abs (pos len)) ∙ size_of_pos len)

pub zero_length : (len : ℕ) → length (bytes_of (Zero (pos len))) ≡ len
zero_length len = length-replicate (nat_abs (pos len)) 0 ∙ size_of_pos len

-- the two sessions of a round
abbrev pub two : ℕ → pack.Session → unpack.Session → List (List ℕ × Opened)
two r p u =
    (name (codes "p") r, packing (name (codes "b") r) p) ∷ (name (codes "u") r, unpacking (name (codes "z") r) u) ∷ []

pub opened_two : (r : ℕ) (x y : Opened) → (let es : List (List ℕ × Opened) = [] in more (more es (name (codes "p") r) x) (name (codes "u") r) y)
    ≡ (name (codes "p") r, x) ∷ (name (codes "u") r, y) ∷ []
opened_two r x y = refl

-- what stands under their names, and what is left where something is set there or taken away
module _ (r : ℕ) where
  apart : at (name (codes "p") r) (name (codes "u") r) ≡ false
  apart = other_at (name (codes "p") r) (name (codes "u") r) (letters_differ 112 117 r r (λ same. absurd (omega (arith, same))))

  turned : at (name (codes "u") r) (name (codes "p") r) ≡ false
  turned = other_at (name (codes "u") r) (name (codes "p") r) (letters_differ 117 112 r r (λ same. absurd (omega (arith, same))))

  module _ (x y : Opened) where
    abbrev both : List (List ℕ × Opened)
    both = (name (codes "p") r, x) ∷ (name (codes "u") r, y) ∷ []

    pub sender : under (name (codes "p") r) both ≡ Some x
    sender = ap (λ b. cond b (Some x) (under (name (codes "p") r) ((name (codes "u") r, y) ∷ []))) (same_at (name (codes "p") r) (name (codes "p") r) refl)

    pub receiver : under (name (codes "u") r) both ≡ Some y
    receiver =
        ap (λ b. cond b (Some x) (under (name (codes "u") r) ((name (codes "u") r, y) ∷ []))) turned
        ∙ ap (λ b. cond b (Some y) None) (same_at (name (codes "u") r) (name (codes "u") r) refl)

    pub set_sender : (w : Opened) → set_value (at (name (codes "p") r)) both w ≡ (name (codes "p") r, w) ∷ (name (codes "u") r, y) ∷ []
    set_sender w =
        let rest : List (List ℕ × Opened) = (name (codes "u") r, y) ∷ [] in
        ap (λ b. cond b ((name (codes "p") r, w) ∷ rest) ((name (codes "p") r, x) ∷ set_value (at (name (codes "p") r)) rest w)) (same_at (name (codes "p") r) (name (codes "p") r) refl)

    pub set_receiver : (w : Opened) → set_value (at (name (codes "u") r)) both w ≡ (name (codes "p") r, x) ∷ (name (codes "u") r, w) ∷ []
    set_receiver w =
        let rest : List (List ℕ × Opened) = (name (codes "u") r, y) ∷ [] in
        let none : List (List ℕ × Opened) = [] in
        ap (λ b. cond b ((name (codes "p") r, w) ∷ rest) ((name (codes "p") r, x) ∷ set_value (at (name (codes "u") r)) rest w)) turned
        ∙ ap (λ b. (name (codes "p") r, x) ∷ cond b ((name (codes "u") r, w) ∷ none) ((name (codes "u") r, y) ∷ set_value (at (name (codes "u") r)) none w))
        (same_at (name (codes "u") r) (name (codes "u") r) refl)

    pub without_sender : remove_entry (at (name (codes "p") r)) both ≡ (name (codes "u") r, y) ∷ []
    without_sender =
        let rest : List (List ℕ × Opened) = (name (codes "u") r, y) ∷ [] in
        ap (λ b. cond b rest ((name (codes "p") r, x) ∷ remove_entry (at (name (codes "p") r)) rest)) (same_at (name (codes "p") r) (name (codes "p") r) refl)

    pub alone : under (name (codes "u") r) ((name (codes "u") r, y) ∷ []) ≡ Some y
    alone = ap (λ b. cond b (Some y) None) (same_at (name (codes "u") r) (name (codes "u") r) refl)

    pub without_receiver : (let rest : List (List ℕ × Opened) = (name (codes "u") r, y) ∷ [] in remove_entry (at (name (codes "u") r)) rest) ≡ []
    without_receiver =
        let none : List (List ℕ × Opened) = [] in
        ap (λ b. cond b none ((name (codes "u") r, y) ∷ none)) (same_at (name (codes "u") r) (name (codes "u") r) refl)
