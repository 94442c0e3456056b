-- Each element has 1 to 8 bytes.
use Rattle.std.specs.Prelude.{◌≤◌}
use Rattle.std.proofs.Common.{arith, sym, subst}
use Rattle.dt_map.specs.declared.bounds.Bounds.{Bounds}
use Rattle.dt_map.proofs.Counted.{elements_fit, external_fits}
use Rattle.dt_map.proofs.Extremes.{alignment-pos, alignment-le}
use Rattle.dt_type.specs.declared.datatype.Node.{Node}
use Rattle.dt_type.specs.Sound.{Sound, map_of}

pub sound_elements : (n : Node) → Sound n → n.bounds.elements ≤ n.bounds.size
sound_elements n sound = subst (λ (b : Bounds). b.elements ≤ b.size) (sym sound.bounds) (elements_fit (map_of n).entries)

pub sound_alignment : (n : Node) → Sound n → (1 ≤ n.bounds.align) × (n.bounds.align ≤ 8)
sound_alignment n sound =
    subst (λ (b : Bounds). (1 ≤ b.align) × (b.align ≤ 8)) (sym sound.bounds) (omega (arith, alignment-pos (map_of n).entries), alignment-le (map_of n).entries)

pub sound_external : (n : Node) → Sound n → n.bounds.ext_size ≤ n.bounds.size
sound_external n sound = subst (λ (b : Bounds). b.ext_size ≤ b.size) (sym sound.bounds) (external_fits (map_of n).entries)
