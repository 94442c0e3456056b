-- Setting elements leaves what others hold that have no byte in common with them.
use Rattle.std.proofs.Common.{◌≡◌, ℕ, suc, ◌+◌, ◌-◌, ◌<◌, ◌≤◌, true, ℤ, pos, nat_abs, List, [], ◌∷◌, ◌++◌, drop, length, get_or, sym, ap, subst, ◌∙◌, arith, length-append, length-drop}
use Rattle.std.proofs.lemmas.Bool.{and_parts}
use Rattle.std.proofs.lemmas.Grind.{same_number_lists}
use Rattle.std.proofs.lemmas.Int.{ints}
use Rattle.std.proofs.lemmas.List.{get_or-take, get_or-drop, length-take-le}
use Rattle.std.proofs.lemmas.List.Elements.{All-from_recursion}
use Rattle.std.proofs.Math.Seq.{get_or-append_right}
use Rattle.std.specs.List.{AllByRecursion}
use Rattle.dt_elems.proofs.Clashes.{Lies, lies}
use Rattle.dt_kinds.specs.declared.kind.Rep.TheVariants.{Native}
use Rattle.dt_kinds.specs.Kind.{native_size}
use Rattle.dt_map.specs.declared.entry.Entry.{Entry}
use Rattle.dt_map.specs.Elements.{are_inside, lies_inside, IsByteOf, Overlaps}
use Rattle.dt_map.specs.Packed.{bytes_at, total}
use Rattle.dt_map.specs.Setting.{set_each}
use Rattle.dt_map.proofs.Writing.{setting_keeps_the_rest}

pub size_there : (buffer : List ℕ) (e : Entry) → Lies (length buffer) e → length (bytes_at buffer e) ≡ native_size e.kind
size_there buffer e l =
    let room = l.ends in
    length-take-le (native_size e.kind) (drop (nat_abs e.disp) buffer) (omega (arith, room, length-drop (nat_abs e.disp) buffer))

-- the first elements of those that don't overlap
apart_tail : (e : Entry) (es : List Entry) → (Overlaps (e ∷ es) → ⊥) → Overlaps es → ⊥
apart_tail e es apart (i, j, x, less, within, one, other) = apart (suc i, suc j, x, omega (arith, less), omega (arith, within), one, other)

-- element number j is this one
abbrev Is : List Entry → ℕ → Entry → Type 0
Is fs j f = (d : Entry) → get_or fs j d ≡ f

head_off : (e : Entry) (es fs : List Entry) (j : ℕ) (f : Entry) (x : ℤ) → (Overlaps (e ∷ (es ++ fs)) → ⊥) → j < length fs → Is fs j f → IsByteOf x f → IsByteOf x e → ⊥
head_off e es fs j f x apart within is on_f on_e =
    let there : (d : Entry) → get_or (es ++ fs) (length es + j) d ≡ f = λ d.
    get_or-append_right es fs (length es + j) d (omega arith) ∙ ap (λ k. get_or fs k d) (let back : (length es + j) - length es ≡ j = omega arith in back) ∙ is d in
    apart (0, suc (length es + j), x, omega arith, omega (arith, within, length-append es fs), (λ d. on_e), (λ d. subst (IsByteOf x) (sym (there d)) on_f))

-- no byte of an element of fs is one of an element of es
all_off : (es fs : List Entry) (j : ℕ) (f : Entry) (x : ℤ) → (Overlaps (es ++ fs) → ⊥) → j < length fs → Is fs j f → IsByteOf x f → AllByRecursion (λ e. IsByteOf x e → ⊥) es
all_off [] fs j f x apart within is on = tt
all_off (e ∷ es) fs j f x apart within is on = (head_off e es fs j f x apart within is on, all_off es fs j f x (apart_tail e (es ++ fs) apart) within is on)

module _ (es fs : List Entry) (buffer images : List ℕ) (apart : Overlaps (es ++ fs) → ⊥) (inside : are_inside (length buffer) es ≡ true) (enough : total Native es ≤ length images) where
  abbrev new : List ℕ
  new = set_each Native es buffer images

  pub same_length : length new ≡ length buffer
  same_length = (setting_keeps_the_rest Native es buffer images inside enough).0

  one_kept : (j : ℕ) (f : Entry) → j < length fs → Is fs j f → Lies (length buffer) f → bytes_at new f ≡ bytes_at buffer f
  one_kept j f within is there =
      let there_too : Lies (length new) f = subst (λ n. Lies n f) (sym same_length) there in
      let start = there.starts in
      let at = nat_abs f.disp in
      same_number_lists (bytes_at new f) (bytes_at buffer f) (size_there new f there_too ∙ sym (size_there buffer f there)) (λ k less_there.
      let less : k < native_size f.kind = subst (λ n. k < n) (size_there new f there_too) less_there in
      let on : IsByteOf (pos (at + k)) f = (omega (arith, ints, start), omega (arith, ints, start, less)) in
      get_or-take (native_size f.kind) (drop at new) k 0 less ∙ get_or-drop at new k 0
      ∙ (setting_keeps_the_rest Native es buffer images inside enough).1 (at + k)
      (All-from_recursion (λ e. IsByteOf (pos (at + k)) e → ⊥) es (all_off es fs j f (pos (at + k)) apart within is on))
      ∙ sym (get_or-take (native_size f.kind) (drop at buffer) k 0 less ∙ get_or-drop at buffer k 0))

  kept_from : (j : ℕ) (gs : List Entry) → ((k : ℕ) (d : Entry) → k < length gs → get_or fs (j + k) d ≡ get_or gs k d) → j + length gs ≤ length fs
      → are_inside (length buffer) gs ≡ true → AllByRecursion (λ f. bytes_at new f ≡ bytes_at buffer f) gs
  kept_from j [] same within here = tt
  kept_from j (g ∷ gs) same within here =
      let parts = and_parts (lies_inside (length buffer) g) (are_inside (length buffer) gs) here in
      let first : Is fs j g = λ d. ap (λ k. get_or fs k d) (let add : j ≡ j + 0 = omega arith in add) ∙ same 0 d (omega arith) in (
        one_kept j g (omega (arith, within)) first (lies (length buffer) g parts.0),
        kept_from (suc j) gs
            (λ k d less. ap (λ n. get_or fs n d) (let turn : suc j + k ≡ j + suc k = omega arith in turn) ∙ same (suc k) d (omega (arith, less)))
            (omega (arith, within)) parts.1,
      )

  -- each element of fs holds what it held
  pub others_kept : are_inside (length buffer) fs ≡ true → AllByRecursion (λ f. bytes_at new f ≡ bytes_at buffer f) fs
  others_kept here = kept_from 0 fs (λ k d less. ap (λ n. get_or fs n d) (let none : 0 + k ≡ k = omega arith in none)) (omega arith) here
