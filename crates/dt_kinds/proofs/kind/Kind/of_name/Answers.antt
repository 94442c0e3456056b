use Rattle.std.proofs.Common.{◌≡◌, ℕ, List, Option, Bool, true, false, cond, sym, ap, ◌∙◌, nat_eq}
use Rattle.std.specs.Cmp.Lexicographic.{pointwise}
use Rattle.std.specs.Option.{ok_or}
use Rattle.dt_kinds.specs.declared.kind.Kind.{Kind}
use Rattle.dt_kinds.specs.declared.kind.KindFault.TheVariants.{Unknown}
use Rattle.dt_kinds.specs.Name.{is_left_out, is_long_long_int, kind_in_table}
use Rattle.dt_kinds.proofs.kind.Kind.of_name.Goals as goal

first_of_two : {A : Type 0} (b : Bool) (x y : A) → b ≡ true → x ≡ cond b x y
first_of_two b x y e = ap (λ t. cond t x y) (sym e)

second_of_two : {A : Type 0} (b : Bool) (x y : A) → b ≡ false → y ≡ cond b x y
second_of_two b x y e = ap (λ t. cond t x y) (sym e)

pub returns-then-is_one_of : goal.returns-then-is_one_of
unfolding is_left_out
returns-then-is_one_of c =
    let left : is_left_out c.args.word.now ≡ true = sym c.is_one_of.ensures ∙ c.if-is_one_of.true in
    first_of_two _ _ _ left

pub returns-then-eq : goal.returns-then-eq
unfolding is_left_out is_long_long_int
returns-then-eq c =
    let left : is_left_out c.args.word.now ≡ false = sym c.is_one_of.ensures ∙ c.if-is_one_of.false in
    let name = ap (λ (w : List ℕ). pointwise nat_eq c.args.word.now w) c.as_bytes.ensures.value in
    let other : is_long_long_int c.args.word.now ≡ true = sym name ∙ (sym c.eq.ensures ∙ c.if-eq.true) in
    first_of_two _ _ _ other ∙ second_of_two _ _ _ left

pub returns : goal.returns
unfolding is_left_out is_long_long_int kind_in_table
returns c =
    let left : is_left_out c.args.word.now ≡ false = sym c.is_one_of.ensures ∙ c.if-is_one_of.false in
    let name = ap (λ (w : List ℕ). pointwise nat_eq c.args.word.now w) c.as_bytes.ensures.value in
    let other : is_long_long_int c.args.word.now ≡ false = sym name ∙ (sym c.eq.ensures ∙ c.if-eq.false) in
    let found : kind_in_table c.args.word.now ≡ c.first_named.result = sym c.first_named.ensures in
    c.ok_or.ensures.value ∙ (ap (λ (kind : Option Kind). ok_or kind Unknown) (sym found) ∙ (second_of_two _ _ _ other ∙ second_of_two _ _ _ left))
