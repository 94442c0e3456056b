-- the range of a kind, as a power of two
use Rattle.std.proofs.Common.{◌≡◌, ℕ, ◌+◌, ◌-◌, ◌*◌, ◌%◌, ◌^◌, ◌<◌, ◌≤◌, refl, sym, ap, subst, ◌∙◌, lit≤, arith}
use Rattle.std.proofs.Math.Nat.{mod-lt}
use Rattle.std.proofs.Math.Pow.{pow_pos, mod-mod-pow}
use Rattle.std.proofs.lemmas.Nat.{and_mask}
use Rattle.std.specs.Int.Bits.{bit_and}
use Rattle.dt_kinds.specs.declared.kind.Kind.{Kind}
use Rattle.dt_kinds.specs.declared.kind.Kind.TheVariants.{Byte}
use Rattle.dt_kinds.specs.Kind.{native_size}
use Rattle.dt_ops.specs.Word.{range_of, IsWord}

pub bits_of : Kind → ℕ
bits_of kind = 8 * native_size kind

pub range_is : (kind : Kind) → range_of kind ≡ 2 ^ bits_of kind
unfolding bits_of
range_is Byte = refl
range_is _ = refl

pub few_bits : (kind : Kind) → bits_of kind ≤ 64
unfolding bits_of
few_bits Byte = lit≤ tt
few_bits _ = lit≤ tt

pub some_range : (kind : Kind) → 0 < range_of kind
some_range kind = subst (λ n. 0 < n) (sym (range_is kind)) (pow_pos (bits_of kind))

pub below_range : (kind : Kind) (n : ℕ) → IsWord kind (n % range_of kind)
below_range kind n = mod-lt n (some_range kind)

-- a number kept to 64 bits and then masked by the greatest word
pub masked : (kind : Kind) (n most : ℕ) → most + 1 ≡ range_of kind → bit_and (n % 2 ^ 64) most ≡ n % range_of kind
masked kind n most is =
    let k = bits_of kind in
    let few = few_bits kind in
    let width : 64 ≡ (64 - k) + k = omega (arith, few) in
    let mask : most ≡ 2 ^ k - 1 = (let power = is ∙ range_is kind in omega (arith, power)) in
    ap (bit_and (n % 2 ^ 64)) mask ∙ and_mask (n % 2 ^ 64) k ∙ ap (λ w. n % 2 ^ w % 2 ^ k) width
    ∙ mod-mod-pow n (64 - k) k ∙ ap (λ r. n % r) (sym (range_is kind))
