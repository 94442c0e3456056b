-- A buffer is taken out of those that stand, changed, and put back.
use Rattle.std.proofs.Common.{◌≡◌, ℕ, ℤ, List, ◌++◌, length, take, Some, None, refl, sym, ap, subst, ◌∙◌, arith}
use Rattle.std.proofs.lemmas.Map.Steps.{set_value_same}
use Rattle.std.proofs.Math.Seq.{take-append_seam}
use Rattle.std.specs.BTreeMap.{is_at}
use Rattle.std.specs.Cmp.Lexicographic.{slice_cmp}
use Rattle.std.specs.Map.{set_value}
use Rattle.std.specs.Ordering.{nat_cmp}
use Rattle.dt_names.specs.Names.{under}
use Rattle.dt_reduce.proofs.Answering.{merges_have_one_answer}
use Rattle.dt_reduce.specs.declared.fault.AllFault.{AllFault}
use Rattle.dt_reduce.specs.declared.fault.AllFault.TheVariants as all
use Rattle.dt_reduce.specs.Ranks.{Ranked, AreNotReduced, CanReduceAll}
use Rattle.dt_sessions.specs.declared.session.Opened.{Opened}
use Rattle.dt_sessions.specs.Open.{Standing, HoldsOpen, with_bytes}
use Rattle.dt_sessions.proofs.Beside.{found_beside_set}
use Rattle.dt_sessions.proofs.OpenLemmas.{found_set, holds_set, set_twice}

-- the whole slice was written
pub whole : (n : ℕ) (new rest bytes : List ℕ) → n ≡ length new → bytes ≡ take n (new ++ rest) → bytes ≡ new
whole n new rest bytes all is = is ∙ (ap (λ n. take n (new ++ rest)) all ∙ take-append_seam new rest)

module _ (buffers : List (List ℕ × List ℕ)) (name was nothing : List ℕ) (without : List (List ℕ × List ℕ)) (found : under name buffers ≡ Some was)
    (out : without ≡ set_value (is_at (slice_cmp nat_cmp name)) buffers nothing) where
  -- while it is out its name stands, and other buffers stand as they did
  pub stands_out : ¬ (under name without ≡ None)
  stands_out none =
      let there : under name without ≡ Some nothing = ap (under name) out ∙ found_set (is_at (slice_cmp nat_cmp name)) buffers was nothing found in
      let both = sym there ∙ none in cc

  pub others_stand : (other : List ℕ) → ¬ (other ≡ name) → under other without ≡ under other buffers
  others_stand other differ = ap (under other) out ∙ found_beside_set name other buffers nothing (λ same. differ (sym same))

  -- and put back
  module _ (put : List ℕ) (back : List (List ℕ × List ℕ)) (in_place : back ≡ set_value (is_at (slice_cmp nat_cmp name)) without put) where
    set_once : back ≡ set_value (is_at (slice_cmp nat_cmp name)) buffers put
    set_once =
        in_place
        ∙ (ap (λ es. set_value (is_at (slice_cmp nat_cmp name)) es put) out ∙ set_twice (is_at (slice_cmp nat_cmp name)) buffers nothing put)

    pub holds_back : (sessions : List (List ℕ × Opened)) → HoldsOpen buffers sessions → length put ≡ length was → HoldsOpen back sessions
    holds_back sessions holds long = subst (λ es. HoldsOpen es sessions) (sym set_once) (holds_set buffers name was put found long sessions holds)

    module _ (sessions : List (List ℕ × Opened)) (self : Standing) (seen : (let s : Standing = record { buffers = buffers; sessions = sessions } in s) ≡ self) where
      pub stands_changed : (bytes : List ℕ) → put ≡ bytes → (let s : Standing = record { buffers = back; sessions = sessions } in s) ≡ with_bytes self name bytes
      stands_changed bytes is =
          ap (λ es. let s : Standing = record { buffers = es; sessions = sessions } in s) (set_once ∙ ap (set_value (is_at (slice_cmp nat_cmp name)) buffers) is)
          ∙ ap (λ s. with_bytes s name bytes) seen

      pub stands_same : put ≡ was → (let s : Standing = record { buffers = back; sessions = sessions } in s) ≡ self
      stands_same is =
          ap (λ es. let s : Standing = record { buffers = es; sessions = sessions } in s)
          (set_once ∙ (ap (set_value (is_at (slice_cmp nat_cmp name)) buffers) is ∙ set_value_same (is_at (slice_cmp nat_cmp name)) buffers was found))
          ∙ seen

-- what keeps ranks from being reduced that can be is want of memory
pub wants_memory : (r : Ranked) (merges : List ℕ) (origin : ℤ) (len : ℕ) (fault : AllFault) → AreNotReduced r merges origin len fault → CanReduceAll r merges origin len
    → fault ≡ all.NoMemory
wants_memory r merges origin len all.Empty none can = let count = can.placed.bracketed.count in absurd (omega (arith, none, count))
wants_memory r merges origin len (all.BadMerge at) (some, shows) can =
    absurd ((merges_have_one_answer (length r.rows) merges some).1 at shows can.placed.bracketed)
wants_memory r merges origin len all.Outside (bracketed, out) can = absurd (out can.placed.inside)
wants_memory r merges origin len all.Overlap (placed, over) can = absurd (can.apart over)
wants_memory r merges origin len all.NoMemory placed can = refl
