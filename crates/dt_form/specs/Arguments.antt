use Rattle.std.specs.Prelude.{ℕ, ◌*◌, Option, Some, None, Bool, true, false, ◌&&◌, ◌==◌, ◌*ℤ◌, ◌+ℤ◌, ℤ, pos, nat_abs, int_le, int_lt, List, [], ◌∷◌, map}
use Rattle.std.specs.List.{list_all}
use Rattle.dt_form.specs.declared.form.Dist.{Dist}
use Rattle.dt_form.specs.declared.form.Dist.TheVariants.{Block, Whole}
use Rattle.dt_form.specs.declared.form.DistDim.{DistDim}
use Rattle.dt_form.specs.declared.form.FormOf.{FormOf}
use Rattle.dt_form.specs.declared.form.FormOf.TheVariants.{Contiguous, Vector, Hvector, Indexed, Hindexed, IndexedBlock, HindexedBlock, Struct, Subarray, Darray}
use Rattle.dt_form.specs.declared.form.SubDim.{SubDim}

-- Which arguments the constructors take: for each other list of arguments the answer is BadArgument.

abbrev pub is_count : ℤ → Bool
is_count x = int_le (pos 0) x

abbrev pub is_positive : ℤ → Bool
is_positive x = int_le (pos 1) x

abbrev pub is_listed : {A : Type 0} → List A → Bool
is_listed [] = false
is_listed (x ∷ xs) = true

abbrev pub product : List ℕ → ℕ
product [] = 1
product (n ∷ ns) = n * product ns

-- at least one index is chosen, and none outside the dimension
abbrev pub takes_sub_dim : SubDim → Bool
takes_sub_dim d = is_positive d.sub && is_count d.start && int_le (d.start +ℤ d.sub) d.size

-- a given block length is positive, and in a block dimension long enough for one round
abbrev pub takes_darg : Dist → Option ℤ → ℤ → ℤ → Bool
takes_darg dist None gsize psize = true
takes_darg Block (Some darg) gsize psize = is_positive darg && int_le gsize (darg *ℤ psize)
takes_darg dist (Some darg) gsize psize = is_positive darg

-- a dimension that isn't dealt out has one process
abbrev pub takes_psize : Dist → ℤ → Bool
takes_psize Whole psize = int_le psize (pos 1)
takes_psize dist psize = true

abbrev pub takes_dist_dim : DistDim → Bool
takes_dist_dim d = is_positive d.gsize && is_positive d.psize && takes_darg d.dist d.darg d.gsize d.psize && takes_psize d.dist d.psize

-- the process grid has as many places as there are processes, and the rank is one of them
abbrev pub takes_grid : ℤ → ℤ → List DistDim → Bool
takes_grid size rank dims =
    is_positive size && is_count rank && int_lt rank size && (product (map (λ d. nat_abs d.psize) dims) == nat_abs size)

abbrev pub takes_arguments : {T : Type 0} → FormOf T → Bool
takes_arguments (Contiguous count old) = is_count count
takes_arguments (Vector count block stride old) = is_count count && is_count block
takes_arguments (Hvector count block stride old) = is_count count && is_count block
takes_arguments (Indexed blocks old) = list_all (λ b. is_count b.len) blocks
takes_arguments (Hindexed blocks old) = list_all (λ b. is_count b.len) blocks
takes_arguments (IndexedBlock block disps old) = is_count block
takes_arguments (HindexedBlock block disps old) = is_count block
takes_arguments (Struct parts) = list_all (λ p. is_count p.len) parts
takes_arguments (Subarray dims order old) = is_listed dims && list_all takes_sub_dim dims
takes_arguments (Darray size rank dims order old) = is_listed dims && list_all takes_dist_dim dims && takes_grid size rank dims
takes_arguments _ = true
