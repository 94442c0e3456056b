-- a form is read as the arguments of its constructor, and then its old type
use Rattle.std.proofs.Common.{◌≡◌, ◌≢◌, ℕ, Result, Ok, Err, refl, sym, ap, ◌∙◌, slice_get}
use Rattle.dt_form.specs.declared.envelope.Combiner.{Combiner}
use Rattle.dt_form.specs.declared.envelope.Combiner.TheVariants as tag
use Rattle.dt_form.specs.declared.form.FormOf.{FormOf}
use Rattle.dt_form.specs.declared.form.FormOf.TheVariants as form
use Rattle.dt_type.specs.declared.datatype.Seen.{Seen}
use Rattle.dt_wire.specs.declared.args.Arguments.{Arguments}
use Rattle.dt_wire.specs.declared.args.Arguments.TheVariants.{Contiguous, Vector, Hvector, Indexed, Hindexed, IndexedBlock, HindexedBlock, Subarray, Darray, Resized}
use Rattle.dt_wire.specs.Building.{with_old, arguments_at, in_two}
use Rattle.dt_wire.specs.Reading.{Bytes, Reader, bind, on_ok, ◌>>=◌, give, item_at, map_at, pair_at, int_at, address_at, counted_at, int_block_at, addr_block_at, sub_dim_at, dist_dim_at, orders, behind}

abbrev Alike : {A : Type 0} → Reader A → Reader A → Type 0
Alike r s = (bytes : Bytes) → r bytes ≡ s bytes

abbrev two : {A B : Type 0} → A → B → A × B
two x y = (x, y)

-- one of two things is known
second : {A B C : Type 0} (x : A) (f : Result (B × Bytes) Bytes) (h : A → B → C) → on_ok (on_ok f (λ y. give (two x y))) (λ (p : A × B). give (h p.0 p.1)) ≡ on_ok f (λ y. give (h x y))
second x (Ok y) h = refl
second x (Err left) h = refl

module _ (old : Reader Seen) where
  with_same : {A : Type 0} (x : A) (g : A → Arguments) (h : A → Seen → FormOf Seen) → ((y : A) (t : Seen) → h y t ≡ with_old (g y) t) → (f : Result (Seen × Bytes) Bytes)
      → on_ok f (λ t. give (h x t)) ≡ on_ok f (λ t. give (with_old (g x) t))
  with_same x g h same (Ok t) = ap (λ v. Ok (v, t.1)) (same x t.0)
  with_same x g h same (Err left) = refl

  last_by : {A : Type 0} (e : Result (A × Bytes) Bytes) (g : A → Arguments) (h : A → Seen → FormOf Seen) → ((y : A) (t : Seen) → h y t ≡ with_old (g y) t)
      → on_ok (on_ok e (λ x. old >>= λ t. give (two x t))) (λ (p : A × Seen). give (h p.0 p.1)) ≡ on_ok (on_ok e (λ x. give (g x))) (λ a. map_at (with_old a) old)
  unfolding bind map_at
  last_by (Ok x) g h same = second x.0 (old x.1) h ∙ with_same x.0 g h same (old x.1)
  last_by (Err left) g h same = refl

  last : {A : Type 0} (r : Reader A) (g : A → Arguments) (h : A → Seen → FormOf Seen) → ((y : A) (t : Seen) → h y t ≡ with_old (g y) t)
      → Alike (map_at (λ (p : A × Seen). h p.0 p.1) (pair_at r old)) (in_two (map_at g r) old)
  unfolding bind map_at pair_at
  last r g h same bytes = last_by (r bytes) g h same

  first_by : {A B C : Type 0} (e : Result (A × Bytes) Bytes) (s : Reader B) (q : Reader C) (g : A → C → Arguments) (h : A → B → FormOf Seen)
      → ((x : A) → Alike (map_at (h x) s) (in_two (map_at (g x) q) old))
      → on_ok (on_ok e (λ x. s >>= λ y. give (two x y))) (λ (p : A × B). give (h p.0 p.1)) ≡ on_ok (on_ok (on_ok e (λ x. q >>= λ y. give (two x y))) (λ (p : A × C). give (g p.0 p.1))) (λ a. map_at (with_old a) old)
  unfolding bind map_at
  first_by (Ok x) s q g h same =
      second x.0 (s x.1) h ∙ (same x.0 x.1 ∙ ap (λ v. on_ok v (λ a. map_at (with_old a) old)) (sym (second x.0 (q x.1) g)))
  first_by (Err left) s q g h same = refl

  first : {A B C : Type 0} (r : Reader A) (s : Reader B) (q : Reader C) (g : A → C → Arguments) (h : A → B → FormOf Seen)
      → ((x : A) → Alike (map_at (h x) s) (in_two (map_at (g x) q) old))
      → Alike (map_at (λ (p : A × B). h p.0 p.1) (pair_at r s)) (in_two (map_at (λ (p : A × C). g p.0 p.1) (pair_at r q)) old)
  unfolding bind map_at pair_at
  first r s q g h same bytes = first_by (r bytes) s q g h same

  abbrev pub Split : ℕ → Combiner → Type 0
  Split levels c = Alike (behind levels old c) (in_two (arguments_at c) old)

  split_dup : (levels : ℕ) → Split levels tag.Dup
  unfolding map_at bind
  split_dup levels bytes = refl

  split_contiguous : (levels : ℕ) → Split levels tag.Contiguous
  split_contiguous levels = last int_at (λ n. Contiguous n) (λ n t. form.Contiguous n t) (λ n t. refl)

  split_vector : (levels : ℕ) → Split levels tag.Vector
  split_vector levels =
      first int_at (pair_at int_at (pair_at int_at old)) (pair_at int_at int_at) (λ x y. Vector x y.0 y.1) (λ x y. form.Vector x y.0 y.1.0 y.1.1) (λ x.
      first int_at (pair_at int_at old) int_at (λ y z. Vector x y z) (λ y z. form.Vector x y z.0 z.1) (λ y.
      last int_at (λ z. Vector x y z) (λ z t. form.Vector x y z t) (λ z t. refl)))

  split_hvector : (levels : ℕ) → Split levels tag.Hvector
  split_hvector levels =
      first int_at (pair_at int_at (pair_at address_at old)) (pair_at int_at address_at) (λ x y. Hvector x y.0 y.1) (λ x y. form.Hvector x y.0 y.1.0 y.1.1) (λ x.
      first int_at (pair_at address_at old) address_at (λ y z. Hvector x y z) (λ y z. form.Hvector x y z.0 z.1) (λ y.
      last address_at (λ z. Hvector x y z) (λ z t. form.Hvector x y z t) (λ z t. refl)))

  split_indexed : (levels : ℕ) → Split levels tag.Indexed
  split_indexed levels = last (counted_at int_block_at) (λ xs. Indexed xs) (λ xs t. form.Indexed xs t) (λ xs t. refl)

  split_hindexed : (levels : ℕ) → Split levels tag.Hindexed
  split_hindexed levels = last (counted_at addr_block_at) (λ xs. Hindexed xs) (λ xs t. form.Hindexed xs t) (λ xs t. refl)

  split_indexed_block : (levels : ℕ) → Split levels tag.IndexedBlock
  split_indexed_block levels =
      first int_at (pair_at (counted_at int_at) old) (counted_at int_at) (λ x xs. IndexedBlock x xs) (λ x y. form.IndexedBlock x y.0 y.1) (λ x.
      last (counted_at int_at) (λ xs. IndexedBlock x xs) (λ xs t. form.IndexedBlock x xs t) (λ xs t. refl))

  split_hindexed_block : (levels : ℕ) → Split levels tag.HindexedBlock
  split_hindexed_block levels =
      first int_at (pair_at (counted_at address_at) old) (counted_at address_at) (λ x xs. HindexedBlock x xs) (λ x y. form.HindexedBlock x y.0 y.1) (λ x.
      last (counted_at address_at) (λ xs. HindexedBlock x xs) (λ xs t. form.HindexedBlock x xs t) (λ xs t. refl))

  split_subarray : (levels : ℕ) → Split levels tag.Subarray
  split_subarray levels =
      first (item_at (slice_get orders)) (pair_at (counted_at sub_dim_at) old) (counted_at sub_dim_at) (λ x xs. Subarray xs x) (λ x y. form.Subarray y.0 x y.1) (λ x.
      last (counted_at sub_dim_at) (λ xs. Subarray xs x) (λ xs t. form.Subarray xs x t) (λ xs t. refl))

  split_darray : (levels : ℕ) → Split levels tag.Darray
  split_darray levels =
      first int_at (pair_at int_at (pair_at (item_at (slice_get orders)) (pair_at (counted_at dist_dim_at) old))) (pair_at int_at (pair_at (item_at (slice_get orders)) (counted_at dist_dim_at)))
      (λ s y. Darray s y.0 y.1.1 y.1.0) (λ s y. form.Darray s y.0 y.1.1.0 y.1.0 y.1.1.1) (λ s.
      first int_at (pair_at (item_at (slice_get orders)) (pair_at (counted_at dist_dim_at) old)) (pair_at (item_at (slice_get orders)) (counted_at dist_dim_at))
      (λ r y. Darray s r y.1 y.0) (λ r y. form.Darray s r y.1.0 y.0 y.1.1) (λ r.
      first (item_at (slice_get orders)) (pair_at (counted_at dist_dim_at) old) (counted_at dist_dim_at) (λ o xs. Darray s r xs o) (λ o y. form.Darray s r y.0 o y.1) (λ o.
      last (counted_at dist_dim_at) (λ xs. Darray s r xs o) (λ xs t. form.Darray s r xs o t) (λ xs t. refl))))

  split_resized : (levels : ℕ) → Split levels tag.Resized
  split_resized levels =
      first address_at (pair_at address_at old) address_at (λ x y. Resized x y) (λ x y. form.Resized x y.0 y.1) (λ x.
      last address_at (λ y. Resized x y) (λ y t. form.Resized x y t) (λ y t. refl))

  -- those that have one old type
  pub split : (levels : ℕ) (c : Combiner) → c ≢ tag.Named → c ≢ tag.Struct → Split levels c
  split levels tag.Named not_named not_struct = absurd (not_named refl)
  split levels tag.Dup not_named not_struct = split_dup levels
  split levels tag.Contiguous not_named not_struct = split_contiguous levels
  split levels tag.Vector not_named not_struct = split_vector levels
  split levels tag.Hvector not_named not_struct = split_hvector levels
  split levels tag.Indexed not_named not_struct = split_indexed levels
  split levels tag.Hindexed not_named not_struct = split_hindexed levels
  split levels tag.IndexedBlock not_named not_struct = split_indexed_block levels
  split levels tag.HindexedBlock not_named not_struct = split_hindexed_block levels
  split levels tag.Struct not_named not_struct = absurd (not_struct refl)
  split levels tag.Subarray not_named not_struct = split_subarray levels
  split levels tag.Darray not_named not_struct = split_darray levels
  split levels tag.Resized not_named not_struct = split_resized levels
