-- What a constructor makes of the types that stand.
use Rattle.std.proofs.Common.{◌≡◌, ℕ, zero, suc, ◌+◌, ◌<◌, ℤ, Bool, true, false, List, [], ◌∷◌, ◌++◌, length, take, get_or, Option, Some, None, Result, Ok, Err, refl, sym, ap, subst, ◌∙◌, arith}
use Rattle.std.proofs.lemmas.Bool.{or_parts}
use Rattle.std.proofs.lemmas.Int.{to_z-of_z}
use Rattle.std.proofs.lemmas.List.{take_more}
use Rattle.std.specs.List.{list_any}
use Rattle.std.specs.Option.{option_map, option_and_then, is_none}
use Rattle.dt_type.specs.Answer.{IsCause, IsAnswer}
use Rattle.dt_kinds.specs.Name.{is_left_out}
use Rattle.dt_reply.specs.declared.refusal.Refusal.{Refusal}
use Rattle.dt_reply.specs.declared.refusal.Refusal.TheVariants as refusal
use Rattle.dt_reply.specs.declared.reply.Reply.TheVariants.{Done}
use Rattle.dt_script.specs.declared.command.Command.{Command}
use Rattle.dt_script.specs.declared.command.Command.TheVariants.{Define}
use Rattle.dt_script.specs.declared.command.Ctor.{Ctor}
use Rattle.dt_script.specs.declared.command.Ctor.TheVariants.{Contiguous, Vector, Hvector, Indexed, Hindexed, IndexedBlock, HindexedBlock, Struct, Resized, Dup, Subarray, Darray}
use Rattle.dt_script.specs.declared.command.NamedPart.{NamedPart}
use Rattle.dt_type.specs.declared.datatype.Seen.{Seen, out-roll-Seen}
use Rattle.dt_type.specs.declared.fault.CtorFault.{CtorFault}
use Rattle.dt_type.specs.declared.fault.CtorFault.TheVariants as fault
use Rattle.dt_type.specs.Basic.{is_basic}
use Rattle.dt_form.specs.Form.{is_named}
use Rattle.dt_form.specs.declared.form.AddrBlock.{AddrBlock}
use Rattle.dt_form.specs.declared.form.DistDim.{DistDim}
use Rattle.dt_form.specs.declared.form.FormOf.{FormOf}
use Rattle.dt_form.specs.declared.form.FormOf.TheVariants as form
use Rattle.dt_form.specs.declared.form.IntBlock.{IntBlock}
use Rattle.dt_form.specs.declared.form.Order.{Order}
use Rattle.dt_form.specs.declared.form.PartOf.{PartOf}
use Rattle.dt_form.specs.declared.form.SubDim.{SubDim}
use Rattle.dt_machine.specs.declared.outcome.Change.TheVariants.{AddType}
use Rattle.dt_machine.specs.Made.{part_in, parts_in, form_in, is_committed_by, IsFaultIn, IsAnswerIn}
use Rattle.dt_script.specs.Olds.{any_old}
use Rattle.dt_machine.specs.Outcome.{CanChange, IsStop, changed, stop_by}
use Rattle.dt_machine.specs.Refusal.{new_type_row, conditions, IsRefusedBy, IsAllowed, NoMoreTypes}
use Rattle.dt_machine.specs.Row.{Row, IsFirst, IsClear}
use Rattle.dt_machine.specs.State.{State, type_of, old_of, is_unknown, with_type, with_count}
use Rattle.dt_machine.specs.Step.{Performs}
use Rattle.dt_machine.proofs.NamedTypes.{can_make, free_under, names_free}
use Rattle.dt_machine.proofs.Rows.{refused, allowed, behind_three, first_front}
use Rattle.dt_names.proofs.WordLemmas.{stands}

-- one more part
abbrev joined : Option (PartOf Seen) → Option (List (PartOf Seen)) → Option (List (PartOf Seen))
joined first others = option_and_then (λ part. option_map (λ parts. part ∷ parts) others) first

joined_more : (first : Option (PartOf Seen)) (others more : Option (List (PartOf Seen))) (parts : List (PartOf Seen)) (part : PartOf Seen)
    → joined first others ≡ Some parts → ((ps : List (PartOf Seen)) → others ≡ Some ps → more ≡ Some (ps ++ part ∷ [])) → joined first more ≡ Some (parts ++ part ∷ [])
joined_more None others more parts part all rest = cc
joined_more (Some p) None more parts part all rest = cc
joined_more (Some p) (Some ps) more parts part all rest =
    let same : p ∷ ps ≡ parts = cc in
    ap (joined (Some p)) (rest ps refl) ∙ ap (λ l. Some (l ++ part ∷ [])) same

parts-append : (s : State) (named : List NamedPart) (p : NamedPart) (parts : List (PartOf Seen)) (part : PartOf Seen)
    → parts_in s named ≡ Some parts → part_in s p ≡ Some part → parts_in s (named ++ p ∷ []) ≡ Some (parts ++ part ∷ [])
parts-append s [] p parts part all one = let none : [] ≡ parts = cc in rw one (ap (λ ps. Some (ps ++ part ∷ [])) none)
parts-append s (q ∷ named) p parts part all one =
    joined_more (part_in s q) (parts_in s named) (parts_in s (named ++ p ∷ [])) parts part all (λ ps is. parts-append s named p ps part is one)

pub parts_more : (s : State) (named : List NamedPart) (i : ℕ) (p : NamedPart) (parts : List (PartOf Seen)) (part : PartOf Seen)
    → i < length named → p ≡ get_or named i p → parts_in s (take i named) ≡ Some parts → part_in s p ≡ Some part
    → parts_in s (take (i + 1) named) ≡ Some (parts ++ part ∷ [])
parts_more s named i p parts part lt at all one =
    let taken : take (i + 1) named ≡ take i named ++ p ∷ [] = take_more named i p lt ∙ ap (λ q. take i named ++ q ∷ []) (sym at) in
    ap (parts_in s) taken ∙ parts-append s (take i named) p parts part all one

-- a word among some of which none passes a test doesn't
pub none_at : {A : Type 0} → (test : A → Bool) (xs : List A) (i : ℕ) (x : A) → i < length xs → x ≡ get_or xs i x → list_any test xs ≡ false → test x ≡ false
none_at test [] i x lt at any = absurd (omega (arith, lt))
none_at test (y ∷ ys) zero x lt at any = ap test at ∙ (or_parts (test y) (list_any test ys) any).0
none_at test (y ∷ ys) (suc i) x lt at any = none_at test ys i x (omega (arith, lt)) at (or_parts (test y) (list_any test ys) any).1

-- where all old types are known and none is left out, all stand
all_stand : (s : State) (parts : List NamedPart) → list_any (λ p. is_unknown s p.old) parts ≡ false → list_any (λ p. is_left_out p.old) parts ≡ false
    → list_any (λ p. is_none (type_of s p.old)) parts ≡ false
all_stand s [] known supported = refl
all_stand s (p ∷ parts) known supported =
    let k = or_parts (is_unknown s p.old) (list_any (λ p. is_unknown s p.old) parts) known in
    let o = or_parts (is_left_out p.old) (list_any (λ p. is_left_out p.old) parts) supported in
    rw (stands s.types p.old k.0 o.0) (all_stand s parts k.1 o.1)

pub olds_stand : (s : State) (ctor : Ctor) → any_old (is_unknown s) ctor ≡ false → any_old is_left_out ctor ≡ false
    → any_old (λ word. is_none (type_of s word)) ctor ≡ false
olds_stand s (Contiguous count old) known supported = stands s.types old known supported
olds_stand s (Vector count block stride old) known supported = stands s.types old known supported
olds_stand s (Hvector count block stride old) known supported = stands s.types old known supported
olds_stand s (Indexed old blocks) known supported = stands s.types old known supported
olds_stand s (Hindexed old blocks) known supported = stands s.types old known supported
olds_stand s (IndexedBlock old block disps) known supported = stands s.types old known supported
olds_stand s (HindexedBlock old block disps) known supported = stands s.types old known supported
olds_stand s (Struct parts) known supported = all_stand s parts known supported
olds_stand s (Resized lb extent old) known supported = stands s.types old known supported
olds_stand s (Dup old) known supported = stands s.types old known supported
olds_stand s (Subarray order old dims) known supported = stands s.types old known supported
olds_stand s (Darray size rank order old dims) known supported = stands s.types old known supported

-- the answer of the constructor for the form is its answer over the types that stand
pub answers_in : (s : State) (ctor : Ctor) (form : FormOf Seen) (answer : Result Seen CtorFault) → form_in s ctor ≡ Some form
    → IsAnswer form answer → IsAnswerIn s ctor answer
answers_in s ctor form (Ok made) is h = (form, is, h)
answers_in s ctor form (Err fault.NoMemory) is h = tt
answers_in s ctor form (Err fault.BadArgument) is h = (form, is, h)
answers_in s ctor form (Err fault.Overflow) is h = (form, is, h)
answers_in s ctor form (Err fault.TooDeep) is h = (form, is, h)
answers_in s ctor form (Err fault.TooHeavy) is h = (form, is, h)

-- the same for each constructor
module _ (s : State) (word : List ℕ) (old : Seen) (answer : Result Seen CtorFault) (is : old_of s word ≡ Some old) where
  pub contiguous_in : (count : ℤ) → IsAnswer (form.Contiguous count old) answer → IsAnswerIn s (Contiguous count word) answer
  contiguous_in count h = answers_in s (Contiguous count word) (form.Contiguous count old) answer (ap (option_map (form.Contiguous count)) is) h

  pub vector_in : (count block stride : ℤ) → IsAnswer (form.Vector count block stride old) answer → IsAnswerIn s (Vector count block stride word) answer
  vector_in count block stride h =
      answers_in s (Vector count block stride word) (form.Vector count block stride old) answer (ap (option_map (form.Vector count block stride)) is) h

  pub hvector_in : (count block stride : ℤ) → IsAnswer (form.Hvector count block stride old) answer → IsAnswerIn s (Hvector count block stride word) answer
  hvector_in count block stride h =
      answers_in s (Hvector count block stride word) (form.Hvector count block stride old) answer (ap (option_map (form.Hvector count block stride)) is) h

  pub indexed_in : (blocks : List IntBlock) → IsAnswer (form.Indexed blocks old) answer → IsAnswerIn s (Indexed word blocks) answer
  indexed_in blocks h = answers_in s (Indexed word blocks) (form.Indexed blocks old) answer (ap (option_map (form.Indexed blocks)) is) h

  pub hindexed_in : (blocks : List AddrBlock) → IsAnswer (form.Hindexed blocks old) answer → IsAnswerIn s (Hindexed word blocks) answer
  hindexed_in blocks h = answers_in s (Hindexed word blocks) (form.Hindexed blocks old) answer (ap (option_map (form.Hindexed blocks)) is) h

  pub indexed_block_in : (block : ℤ) (disps : List ℤ) → IsAnswer (form.IndexedBlock block disps old) answer → IsAnswerIn s (IndexedBlock word block disps) answer
  indexed_block_in block disps h =
      answers_in s (IndexedBlock word block disps) (form.IndexedBlock block disps old) answer (ap (option_map (form.IndexedBlock block disps)) is) h

  pub hindexed_block_in : (block : ℤ) (disps : List ℤ) → IsAnswer (form.HindexedBlock block disps old) answer → IsAnswerIn s (HindexedBlock word block disps) answer
  hindexed_block_in block disps h =
      answers_in s (HindexedBlock word block disps) (form.HindexedBlock block disps old) answer (ap (option_map (form.HindexedBlock block disps)) is) h

  pub resized_in : (lb extent : ℤ) → IsAnswer (form.Resized lb extent old) answer → IsAnswerIn s (Resized lb extent word) answer
  resized_in lb extent h = answers_in s (Resized lb extent word) (form.Resized lb extent old) answer (ap (option_map (form.Resized lb extent)) is) h

  pub dup_in : IsAnswer (form.Dup old) answer → IsAnswerIn s (Dup word) answer
  dup_in h = answers_in s (Dup word) (form.Dup old) answer (ap (option_map form.Dup) is) h

  pub subarray_in : (order : Order) (dims : List SubDim) → IsAnswer (form.Subarray dims order old) answer → IsAnswerIn s (Subarray order word dims) answer
  subarray_in order dims h = answers_in s (Subarray order word dims) (form.Subarray dims order old) answer (ap (option_map (form.Subarray dims order)) is) h

  pub darray_in : (size rank : ℤ) (order : Order) (dims : List DistDim) → IsAnswer (form.Darray size rank dims order old) answer
      → IsAnswerIn s (Darray size rank order word dims) answer
  darray_in size rank order dims h =
      answers_in s (Darray size rank order word dims) (form.Darray size rank dims order old) answer (ap (option_map (form.Darray size rank dims order)) is) h

pub struct_in : (s : State) (named : List NamedPart) (parts : List (PartOf Seen)) (answer : Result Seen CtorFault) → parts_in s named ≡ Some parts
    → IsAnswer (form.Struct parts) answer → IsAnswerIn s (Struct named) answer
struct_in s named parts answer is h = answers_in s (Struct named) (form.Struct parts) answer (ap (option_map form.Struct) is) h

pub ruleset in_state = (contiguous_in, vector_in, hvector_in, indexed_in, hindexed_in, indexed_block_in, hindexed_block_in, resized_in, dup_in, subarray_in, darray_in, struct_in, to_z-of_z)

-- no constructor gives a basic type
mapped_derived : {A : Type 0} → (f : A → FormOf Seen) → ((a : A) → is_named (f a) ≡ false) → (from : Option A) (form : FormOf Seen) → option_map f from ≡ Some form
    → is_named form ≡ false
mapped_derived f none None form is = cc
mapped_derived f none (Some a) form is = let same : f a ≡ form = cc in sym (ap is_named same) ∙ none a

form_derived : (s : State) (ctor : Ctor) (form : FormOf Seen) → form_in s ctor ≡ Some form → is_named form ≡ false
form_derived s (Contiguous count old) = mapped_derived _ (λ _. refl) (old_of s old)
form_derived s (Vector count block stride old) = mapped_derived _ (λ _. refl) (old_of s old)
form_derived s (Hvector count block stride old) = mapped_derived _ (λ _. refl) (old_of s old)
form_derived s (Indexed old blocks) = mapped_derived _ (λ _. refl) (old_of s old)
form_derived s (Hindexed old blocks) = mapped_derived _ (λ _. refl) (old_of s old)
form_derived s (IndexedBlock old block disps) = mapped_derived _ (λ _. refl) (old_of s old)
form_derived s (HindexedBlock old block disps) = mapped_derived _ (λ _. refl) (old_of s old)
form_derived s (Struct parts) = mapped_derived _ (λ _. refl) (parts_in s parts)
form_derived s (Resized lb extent old) = mapped_derived _ (λ _. refl) (old_of s old)
form_derived s (Dup old) = mapped_derived _ (λ _. refl) (old_of s old)
form_derived s (Subarray order old dims) = mapped_derived _ (λ _. refl) (old_of s old)
form_derived s (Darray size rank order old dims) = mapped_derived _ (λ _. refl) (old_of s old)

-- `type NAME = CTOR`, of which the form over the types that stands is known
module _ (s : State) (name : List ℕ) (ctor : Ctor) where
  abbrev define : Command
  define = Define name ctor

  abbrev names_row : Row
  names_row = new_type_row s name (any_old (is_unknown s) ctor) (any_old is_left_out ctor) []

  pub define_names : (refusal : Refusal) → IsFirst names_row refusal → IsRefusedBy s define refusal
  define_names refusal first = refused s define refusal (first_front names_row (behind_three (conditions s define)) refusal first)

  -- over one form, the fault of a greater number says that those of lesser numbers don't come
  module _ (names : IsClear names_row) where
    no_fault : (form : FormOf Seen) → form_in s ctor ≡ Some form → (fault : CtorFault) → ¬ IsCause form fault → ¬ IsFaultIn s ctor fault
    no_fault form is fault none (other, same, cause) =
        let both : Some other ≡ Some form = sym same ∙ is in let one : other ≡ form = cc in none (subst (λ f. IsCause f fault) one cause)

    -- the refusal that a fault stands for
    pub define_fault : (fault : CtorFault) → IsAnswerIn s ctor (Err fault) → IsStop s define (stop_by fault)
    define_fault fault.NoMemory is = tt
    define_fault fault.BadArgument is = refused s define refusal.BadArgument (names.0, (names.1.0, (names.1.1.0, is)))
    define_fault fault.Overflow (form, at, cause) =
        refused s define refusal.Overflow
        (names.0, (names.1.0, (names.1.1.0, (no_fault form at fault.BadArgument (λ n. n cause.0), (form, at, cause)))))
    define_fault fault.TooDeep (form, at, cause) =
        refused s define refusal.TooDeep
        (names.0, (names.1.0, (names.1.1.0, (no_fault form at fault.BadArgument (λ n. n cause.0), (no_fault form at fault.Overflow (λ n. n.1 cause.1), (form, at, cause))))))
    define_fault fault.TooHeavy (form, at, cause) =
        refused s define refusal.TooHeavy (
          names.0,
          (
            names.1.0,
            (
              names.1.1.0,
              (
                no_fault form at fault.BadArgument (λ n. n cause.0),
                (
                  no_fault form at fault.Overflow (λ n. n.1 cause.1),
                  (
                    no_fault form at fault.TooDeep (λ n. let low = cause.2 in let high = n.2 in absurd (omega (arith, low, high))),
                    (form, at, cause),
                  ),
                ),
              ),
            ),
          ),
        )

    -- what no fault refuses
    module _ (t : Seen) (made : IsAnswerIn s ctor (Ok t)) where
      abbrev Unfaulted : Type 0 → Type 0
      Unfaulted A =
          (¬ IsFaultIn s ctor fault.BadArgument) × ((¬ IsFaultIn s ctor fault.Overflow) × ((¬ IsFaultIn s ctor fault.TooDeep) × ((¬ IsFaultIn s ctor fault.TooHeavy) × A)))

      unfaulted : {A : Type 0} → A → Unfaulted A
      unfaulted a =
          let (form, is, m) = made in (
            no_fault form is fault.BadArgument (λ n. n m.arguments),
            (
              no_fault form is fault.Overflow (λ n. n.1 m.in_range),
              (
                no_fault form is fault.TooDeep (λ n. let low = m.shallow in let high = n.2 in absurd (omega (arith, low, high))),
                (no_fault form is fault.TooHeavy (λ n. let low = m.light in let high = n.3 in absurd (omega (arith, low, high))), a),
              ),
            ),
          )

      pub define_many : NoMoreTypes s → IsRefusedBy s define refusal.TooManyNames
      define_many many = refused s define refusal.TooManyNames (names.0, (names.1.0, (names.1.1.0, unfaulted many)))

      pub define_allowed : (¬ NoMoreTypes s) → IsAllowed s define
      define_allowed few =
          let last : (¬ NoMoreTypes s) × Unit {0} = (few, tt) in
          allowed s define (names.0, (names.1.0, (names.1.1.0, unfaulted last)))

    pub define_can : (t : Seen) (committed : Bool) → IsAnswerIn s ctor (Ok t) → (¬ NoMoreTypes s) → CanChange (AddType name (record { ty = t; committed = committed })) s
    define_can t committed (form, is, made) more = (
      free_under s name (names_free s name (any_old (is_unknown s) ctor) (any_old is_left_out ctor) names),
      can_make s more,
      λ basic.
          let derived : is_basic t ≡ false = ap is_basic made.value ∙ (ap (λ layer. is_named layer.form) (out-roll-Seen _) ∙ form_derived s ctor form is) in
          let apart : true ≡ false = sym basic ∙ derived in cc,
    )

    -- the new type stands
    pub define_performs : (t : Seen) (committed : Bool) → IsAnswerIn s ctor (Ok t) → committed ≡ is_committed_by s ctor
        → Performs define s Done (with_count (changed (AddType name (record { ty = t; committed = committed })) s))
    define_performs t committed (form, is, made) flag =
        (form, is, refl, ap (λ kept. with_count (with_type s name kept)) (rw (made.value, flag) refl))
