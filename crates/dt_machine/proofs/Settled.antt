-- Copies and reductions leave each buffer as long as it was.
use Rattle.std.proofs.Common.{◌≡◌, ℕ, suc, ◌≤◌, ◌<◌, ℤ, nat_abs, Bool, true, false, List, [], ◌∷◌, take, drop, map, length, inl, inr, slice_get, refl, sym, ap, ◌∙◌, arith}
use Rattle.std.proofs.lemmas.Bool.{cases_lt}
use Rattle.std.proofs.lemmas.List.{length-take}
use Rattle.std.proofs.lemmas.Slice.Eq.{bytes_eq-Decides}
use Rattle.std.specs.Str.{bytes_eq}
use Rattle.dt_copy.proofs.Alike.{some_same}
use Rattle.dt_copy.proofs.Bytes.{length-written}
use Rattle.dt_copy.proofs.Elements.{inside_parts}
use Rattle.dt_copy.proofs.Places.{others_are_kept}
use Rattle.dt_copy.specs.Copied.{copied, signature}
use Rattle.dt_copy.specs.Plan.{Copy, AreInside, CanCopy}
use Rattle.dt_kinds.proofs.Table.{names_differ}
use Rattle.dt_kinds.specs.declared.kind.Kind.{Kind}
use Rattle.dt_kinds.specs.declared.kind.Rep.TheVariants.{Native}
use Rattle.dt_kinds.specs.Kind.{name_of, native_size}
use Rattle.dt_map.specs.declared.entry.Entry.{Entry}
use Rattle.dt_map.specs.Elements.{are_inside, Overlaps}
use Rattle.dt_map.specs.Setting.{set_each, written}
use Rattle.dt_map.specs.Typemap.{Marked}
use Rattle.dt_reduce.specs.Folded.{folded, folded_bytes, words_of}
use Rattle.dt_reduce.specs.Plan.{reduction_of}
use Rattle.dt_reduce.specs.Plan as reduction
use Rattle.dt_reduce.specs.Reduced.{joined_bytes, reduced}
use Rattle.dt_machine.specs.Sides.{Differ}

-- what isn't false is true
true_of : (b : Bool) → (¬ (¬ (b ≡ true))) → b ≡ true
true_of true not = refl
true_of false not = absurd (not (λ is. let apart : false ≡ true = is in cc))

-- kinds that aren't different are the same
one_kind : (a b : Kind) → (¬ (¬ (a ≡ b))) → a ≡ b
one_kind a b not =
    by (bytes_eq (name_of a) (name_of b)) refl
  where
    by : (same : Bool) → bytes_eq (name_of a) (name_of b) ≡ same → a ≡ b
    by true is = names_differ a b ((bytes_eq-Decides (name_of a) (name_of b)).0 is)
    by false is = absurd (not (λ one. let told = (bytes_eq-Decides (name_of a) (name_of b)).1 (ap name_of one) in let apart : true ≡ false = sym told ∙ is in cc))

-- kinds that don't differ at any place of the first
same_kinds : (es fs : List Entry) → length es ≤ length fs
    → ((at : ℕ) → at < length es → ¬ (¬ (slice_get (signature es) at ≡ slice_get (signature fs) at))) → signature es ≡ take (length es) (signature fs)
same_kinds [] fs enough same = refl
same_kinds (e ∷ es) [] enough same = absurd (omega (arith, enough))
same_kinds (e ∷ es) (f ∷ fs) enough same =
    let here : e.kind ≡ f.kind = one_kind e.kind f.kind (λ not. same 0 (omega arith) (λ is. not (some_same e.kind f.kind is))) in
    let rest = same_kinds es fs (omega (arith, enough)) (λ at within. same (suc at) (omega (arith, within))) in
    ap (λ k. k ∷ signature es) here ∙ ap (λ ks. f.kind ∷ ks) rest

-- what none of its conditions keeps from being copied can be copied
pub can_copy : (c : Copy) → (¬ (¬ AreInside c)) → (¬ Overlaps c.target) → (¬ (length c.target < length c.source)) → (¬ Differ c) → CanCopy c
can_copy c inside apart longer differ =
    let enough : length c.source ≤ length c.target =
    elim (cases_lt (length c.target) (length c.source)) [ inl less ↦ absurd (longer less) | inr most ↦ most ] in
    record {
      enough = record {
        settable = record {
          inside = record {
            source = true_of (are_inside c.source_len c.source) (λ not. inside (λ are. not are.source));
            target = true_of (are_inside c.target_len c.target) (λ not. inside (λ are. not are.target));
          };
          apart = apart;
        };
        enough = enough;
      };
      alike = same_kinds c.source c.target enough (λ at within not. differ (at, within, not));
    }

pub length_copied : (c : Copy) (source target : List ℕ) → length source ≡ c.source_len → length target ≡ c.target_len → CanCopy c
    → length (copied c.source c.target source target) ≡ length target
length_copied c source target from to can = (others_are_kept c source target from to can).0

-- setting elements leaves a buffer as long as it was, whatever they are set to
length_set : (fs : List Entry) (buffer images : List ℕ) → are_inside (length buffer) fs ≡ true → length (set_each Native fs buffer images) ≡ length buffer
length_set [] buffer images inside = refl
length_set (f ∷ fs) buffer images inside =
    let (here, others) = inside_parts (length buffer) f fs inside in
    let size = native_size f.kind in
    let ends = here.ends in
    let some = length-take size images in
    let one : length (written buffer (nat_abs f.disp) (take size images)) ≡ length buffer = length-written buffer (nat_abs f.disp) (take size images) (omega (arith, ends, some)) in
    length_set fs (written buffer (nat_abs f.disp) (take size images)) (drop size images) (ap (λ n. are_inside n fs) one ∙ others) ∙ one

-- a buffer whose elements were reduced
pub length_reduced : (join : Kind → ℕ → ℕ → ℕ) (m : Marked) (count : ℕ) (source_origin : ℤ) (source_len : ℕ) (target_origin : ℤ) (source target : List ℕ)
    → (¬ (¬ reduction.AreInside (reduction_of m count source_origin source_len target_origin (length target))))
    → let r = reduction_of m count source_origin source_len target_origin (length target) in length (reduced join r.source r.target source target) ≡ length target
length_reduced join m count source_origin source_len target_origin source target inside =
    let r = reduction_of m count source_origin source_len target_origin (length target) in
    length_set r.target target (joined_bytes join r.source r.target source target)
    (true_of (are_inside (length target) r.target) (λ not. inside (λ are. not are.target)))

-- and one whose elements were set to what ranks come to
pub length_folded : (join : Kind → ℕ → ℕ → ℕ) (fs : List Entry) (buffers : List (List ℕ)) (into : List ℕ) → are_inside (length into) fs ≡ true
    → length (folded join fs (map (words_of fs) buffers) into) ≡ length into
length_folded join fs buffers into inside = length_set fs into (folded_bytes join fs (map (words_of fs) buffers)) inside
