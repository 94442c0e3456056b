-- The words of arrays, and of representations, are read exactly where they are spelled so.
use Rattle.std.proofs.Common.{◌≡◌, ℕ, ℤ, true, false, cond, List, ◌∷◌, ◌++◌, Option, Some, None, option_map, refl, ap, sym, subst, ◌∙◌, codes}
use Rattle.std.proofs.lemmas.Slice.Eq.{bytes_eq-Decides}
use Rattle.std.specs.Str.{bytes_eq}
use Rattle.dt_form.specs.declared.form.Dist.{Dist}
use Rattle.dt_form.specs.declared.form.Dist.TheVariants.{Block, Cyclic, Whole}
use Rattle.dt_form.specs.declared.form.DistDim.{DistDim}
use Rattle.dt_form.specs.declared.form.Order.{Order}
use Rattle.dt_form.specs.declared.form.Order.TheVariants.{C, Fortran}
use Rattle.dt_form.specs.declared.form.SubDim.{SubDim}
use Rattle.dt_kinds.specs.declared.kind.Rep.{Rep}
use Rattle.dt_kinds.specs.declared.kind.Rep.TheVariants.{Native, External32}
use Rattle.dt_script.specs.Array.{order_of, dist_of, darg_of}
use Rattle.dt_script.specs.Item.{IsRep, IsOrder, IsDist, IsDarg, IsSubDim, IsDistDim}
use Rattle.dt_script.specs.Number.{int_of}
use Rattle.dt_script.specs.Reading.{cut_of, colon_cut, rep_of, sub_dim_of, dist_dim_of}
use Rattle.dt_script.proofs.CutLemmas.{cut_sound, int_cut}
use Rattle.dt_script.proofs.ReadingLemmas.{bind_some, from_some}

-- a word that spells a value, or another word
pub spelled : {A : Type 0} (Is : List ℕ → A → Type 0) (k w : List ℕ) (x : A) (other : Option A) (y : A) → Is k x
    → cond (bytes_eq w k) (Some x) other ≡ Some y → (other ≡ Some y → Is w y) → Is w y
spelled Is k w x other y is e else =
    elim (bytes_eq w k) as (λ b. (bytes_eq w k ≡ b) → cond b (Some x) other ≡ Some y → Is w y) [
      | true ↦ λ same told.
          from_some (λ y. Is w y) x y told (subst (λ v. Is v x) (sym ((bytes_eq-Decides w k).0 same)) is)
      | false ↦ λ same told. else told
    ] refl e

pub rep_sound : (word : List ℕ) (rep : Rep) → rep_of word ≡ Some rep → IsRep word rep
rep_sound word rep e =
    spelled IsRep (codes "native") word Native _ rep refl e (λ e.
    spelled IsRep (codes "external32") word External32 _ rep refl e (λ e.
    cc))

pub rep_complete : (word : List ℕ) (rep : Rep) → IsRep word rep → rep_of word ≡ Some rep
rep_complete word Native at = rw at refl
rep_complete word External32 at = rw at refl

pub order_sound : (word : List ℕ) (order : Order) → order_of word ≡ Some order → IsOrder word order
order_sound word order e =
    spelled IsOrder (codes "c") word C _ order refl e (λ e.
    spelled IsOrder (codes "fortran") word Fortran _ order refl e (λ e.
    cc))

pub order_complete : (word : List ℕ) (order : Order) → IsOrder word order → order_of word ≡ Some order
order_complete word C at = rw at refl
order_complete word Fortran at = rw at refl

dist_sound : (word : List ℕ) (dist : Dist) → dist_of word ≡ Some dist → IsDist word dist
dist_sound word dist e =
    spelled IsDist (codes "block") word Block _ dist refl e (λ e.
    spelled IsDist (codes "cyclic") word Cyclic _ dist refl e (λ e.
    spelled IsDist (codes "none") word Whole _ dist refl e (λ e.
    cc)))

dist_complete : (word : List ℕ) (dist : Dist) → IsDist word dist → dist_of word ≡ Some dist
dist_complete word Block at = rw at refl
dist_complete word Cyclic at = rw at refl
dist_complete word Whole at = rw at refl

dist_cut : (word behind : List ℕ) (dist : Dist) → IsDist word dist → cut_of 58 (word ++ 58 ∷ behind) ≡ Some (word, behind)
dist_cut word behind Block at = rw at refl
dist_cut word behind Cyclic at = rw at refl
dist_cut word behind Whole at = rw at refl

given : (word : List ℕ) (o : Option ℤ) (darg : Option ℤ) → int_of word ≡ o → option_map Some o ≡ Some darg → IsDarg word darg
given word None darg is e = cc
given word (Some x) darg is e = from_some (λ d. IsDarg word d) (Some x) darg e is

darg_sound : (word : List ℕ) (darg : Option ℤ) → darg_of word ≡ Some darg → IsDarg word darg
unfolding darg_of
darg_sound word darg e =
    spelled IsDarg (codes "-") word None _ darg refl e (λ e. given word (int_of word) darg refl e)

-- a number is never spelled `-` alone
not_dash : (x : ℤ) → ¬ (int_of (codes "-") ≡ Some x)
unfolding int_of
not_dash x e = cc

darg_complete : (word : List ℕ) (darg : Option ℤ) → IsDarg word darg → darg_of word ≡ Some darg
unfolding darg_of
darg_complete word None at = rw at refl
darg_complete word (Some x) is =
    elim (bytes_eq word (codes "-")) as (λ b. (bytes_eq word (codes "-") ≡ b) → cond b (Some None) (option_map Some (int_of word)) ≡ Some (Some x)) [
      | true ↦ λ same.
          let P : List ℕ → Type 0 = λ v. int_of v ≡ Some x in
          absurd (not_dash x (subst P ((bytes_eq-Decides word (codes "-")).0 same) is))
      | false ↦ λ same. rw is refl
    ] refl

darg_cut : (word behind : List ℕ) (darg : Option ℤ) → IsDarg word darg → cut_of 58 (word ++ 58 ∷ behind) ≡ Some (word, behind)
darg_cut word behind None at = rw at refl
darg_cut word behind (Some x) is = int_cut 58 (refl, refl) word behind x is

pub sub_dim_sound : (word : List ℕ) (dim : SubDim) → sub_dim_of word ≡ Some dim → IsSubDim word dim
unfolding sub_dim_of
sub_dim_sound word dim e =
    let (cut, at, t1) = bind_some (colon_cut word) _ dim e in
    let (size, i1, t2) = bind_some (int_of cut.0) _ dim t1 in
    let (pieces, behind, t3) = bind_some (colon_cut cut.1) _ dim t2 in
    let (sub, i2, t4) = bind_some (int_of pieces.0) _ dim t3 in
    let (start, i3, t5) = bind_some (int_of pieces.1) _ dim t4 in
    let made : SubDim = record { size = size; sub = sub; start = start } in
    let word_is = cut_sound 58 word cut at ∙ ap (λ r. cut.0 ++ 58 ∷ r) (cut_sound 58 cut.1 pieces behind) in
    from_some (λ d. IsSubDim word d) made dim t5 (cut.0, pieces.0, pieces.1, word_is, i1, i2, i3)

pub sub_dim_complete : (word : List ℕ) (dim : SubDim) → IsSubDim word dim → sub_dim_of word ≡ Some dim
unfolding sub_dim_of
sub_dim_complete word dim (size, sub, start, at, i1, i2, i3) =
    rw (at, int_cut 58 (refl, refl) size (sub ++ 58 ∷ start) dim.size i1, i1, int_cut 58 (refl, refl) sub start dim.sub i2, i2, i3) refl

pub dist_dim_sound : (word : List ℕ) (dim : DistDim) → dist_dim_of word ≡ Some dim → IsDistDim word dim
unfolding dist_dim_of
dist_dim_sound word dim e =
    let (cut, at, t1) = bind_some (colon_cut word) _ dim e in
    let (gsize, i1, t2) = bind_some (int_of cut.0) _ dim t1 in
    let (pieces, behind, t3) = bind_some (colon_cut cut.1) _ dim t2 in
    let (dist, i2, t4) = bind_some (dist_of pieces.0) _ dim t3 in
    let (last, ends, t5) = bind_some (colon_cut pieces.1) _ dim t4 in
    let (darg, i3, t6) = bind_some (darg_of last.0) _ dim t5 in
    let (psize, i4, t7) = bind_some (int_of last.1) _ dim t6 in
    let made : DistDim = record { gsize = gsize; dist = dist; darg = darg; psize = psize } in
    let tail_is = cut_sound 58 cut.1 pieces behind ∙ ap (λ r. pieces.0 ++ 58 ∷ r) (cut_sound 58 pieces.1 last ends) in
    let word_is = cut_sound 58 word cut at ∙ ap (λ r. cut.0 ++ 58 ∷ r) tail_is in
    from_some (λ d. IsDistDim word d) made dim t7
    (cut.0, pieces.0, last.0, last.1, word_is, i1, dist_sound pieces.0 dist i2, darg_sound last.0 darg i3, i4)

pub dist_dim_complete : (word : List ℕ) (dim : DistDim) → IsDistDim word dim → dist_dim_of word ≡ Some dim
unfolding dist_dim_of
dist_dim_complete word dim (gsize, dist, darg, psize, at, i1, i2, i3, i4) =
    rw (
      at,
      int_cut 58 (refl, refl) gsize (dist ++ 58 ∷ (darg ++ 58 ∷ psize)) dim.gsize i1,
      i1,
      dist_cut dist (darg ++ 58 ∷ psize) dim.dist i2,
      dist_complete dist dim.dist i2,
      darg_cut darg psize dim.darg i3,
      darg_complete darg dim.darg i3,
      i4,
    ) refl
