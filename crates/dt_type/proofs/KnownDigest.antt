-- What the digest of a typemap says of its bounds.
use Rattle.std.specs.Prelude.{◌≡◌, ◌≤◌}
use Rattle.std.proofs.Common.{sym, ap, subst, ◌∙◌, arith}
use Rattle.dt_map.specs.Bounds.{bounds_of}
use Rattle.dt_map.specs.Digest.{digest_of}
use Rattle.dt_map.specs.Limits.{AreInRange, IsInRange, MarksFit}
use Rattle.dt_map.specs.Summary.{Summary, bounds_from}
use Rattle.dt_map.specs.Typemap.{Marked}
use Rattle.dt_map.proofs.Digests.{told, tells}
use Rattle.dt_map.proofs.Extremes.{alignment-pos}
use Rattle.dt_type.proofs.EntryFits.{marks_fit}

module _ (m : Marked) (d : Summary) (known : d ≡ digest_of m) where
  pub aligned : 1 ≤ d.align
  aligned = let h = alignment-pos m.entries in let e = ap (λ (s : Summary). s.align) known in omega arith

  pub exact : AreInRange (bounds_from d) → bounds_from d ≡ bounds_of m
  exact range = ap bounds_from known ∙ told m (subst (λ s. AreInRange (bounds_from s)) known range)

  pub in_range : AreInRange (bounds_from d) → IsInRange m
  in_range range = subst AreInRange (exact range) range

  pub out_of_range : IsInRange m → AreInRange (bounds_from d)
  out_of_range range = subst AreInRange (sym (ap bounds_from known ∙ tells m range)) range

  pub marks_in_range : AreInRange (bounds_from d) → MarksFit d.marks
  marks_in_range range = subst MarksFit (sym (ap (λ (s : Summary). s.marks) known)) (marks_fit m.entries m.marks (in_range range))
