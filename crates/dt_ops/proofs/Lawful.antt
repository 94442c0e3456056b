-- the laws of the operations
use Rattle.std.proofs.Common.{ℕ, ◌+◌, ◌*◌, ◌%◌, ◌^◌, ◌<◌, sym, ap, subst, ◌∙◌, refl}
use Rattle.std.proofs.Math.Nat.{add_assoc, mul_assoc, add-mod-mod, mod-add-mod}
use Rattle.std.proofs.lemmas.Nat.{mul-mod_first, mul-mod_second, or_lt, xor_lt, and_assoc}
use Rattle.std.specs.Int.Bits.{and_lt, xor_assoc, bit_and, bit_or, bit_xor}
use Rattle.std.specs.Prelude.{int_le}
use Rattle.dt_ops.specs.Joins.{sum_of, prod_of, min_of, max_of, and_of, or_of, xor_of, first_of, last_of}
use Rattle.dt_ops.specs.Laws.{GivesWords, IsAssociative}
use Rattle.dt_ops.specs.Word.{range_of, value_of, IsWord}
use Rattle.dt_ops.proofs.Bits.{or_assoc}
use Rattle.dt_ops.proofs.Choosing.{least, greatest, chosen}
use Rattle.dt_ops.proofs.Range.{bits_of, range_is, below_range}

pub sum_gives_words : GivesWords sum_of
sum_gives_words kind a b wa wb = below_range kind (a + b)

pub sum_associates : IsAssociative sum_of
sum_associates kind a b c wa wb wc =
    let r = range_of kind in
    mod-add-mod (a + b) r c ∙ ap (λ n. n % r) (add_assoc a b c) ∙ sym (add-mod-mod a (b + c) r)

pub prod_gives_words : GivesWords prod_of
prod_gives_words kind a b wa wb = below_range kind (a * b)

pub prod_associates : IsAssociative prod_of
prod_associates kind a b c wa wb wc =
    let r = range_of kind in
    mul-mod_first (a * b) c r ∙ ap (λ n. n % r) (mul_assoc a b c) ∙ sym (mul-mod_second a (b * c) r)

-- what keeps each power of two keeps the words of a kind
bits_give_words : (f : ℕ → ℕ → ℕ) → ((k a b : ℕ) → a < 2 ^ k → b < 2 ^ k → f a b < 2 ^ k) → GivesWords (λ kind a b. f a b)
bits_give_words f keeps kind a b wa wb =
    let is = range_is kind in
    subst (λ n. f a b < n) (sym is) (keeps (bits_of kind) a b (subst (λ n. a < n) is wa) (subst (λ n. b < n) is wb))

pub and_gives_words : GivesWords and_of
and_gives_words = bits_give_words bit_and and_lt

pub and_associates : IsAssociative and_of
and_associates kind a b c wa wb wc = and_assoc c a b

pub or_gives_words : GivesWords or_of
or_gives_words = bits_give_words bit_or or_lt

pub or_associates : IsAssociative or_of
or_associates kind a b c wa wb wc = or_assoc a b c

pub xor_gives_words : GivesWords xor_of
xor_gives_words = bits_give_words bit_xor xor_lt

pub xor_associates : IsAssociative xor_of
xor_associates kind a b c wa wb wc = xor_assoc a b c

pub first_gives_words : GivesWords first_of
first_gives_words kind a b wa wb = wa

pub first_associates : IsAssociative first_of
first_associates kind a b c wa wb wc = refl

pub last_gives_words : GivesWords last_of
last_gives_words kind a b wa wb = wb

pub last_associates : IsAssociative last_of
last_associates kind a b c wa wb wc = refl

pub min_gives_words : GivesWords min_of
min_gives_words kind a b wa wb = chosen (IsWord kind) (int_le (value_of kind a) (value_of kind b)) a b wa wb

pub min_associates : IsAssociative min_of
min_associates kind a b c wa wb wc = least (value_of kind) a b c

pub max_gives_words : GivesWords max_of
max_gives_words kind a b wa wb = chosen (IsWord kind) (int_le (value_of kind a) (value_of kind b)) b a wb wa

pub max_associates : IsAssociative max_of
max_associates kind a b c wa wb wc = greatest (value_of kind) a b c
