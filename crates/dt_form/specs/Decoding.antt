-- The constructor of a combiner with the arguments that its contents list (MPI 4.1, section 5.1.13).
use Rattle.std.specs.Prelude.{ℕ, zero, suc, ◌==◌, ℤ, pos, negsuc, nat_abs, Option, Some, None, if◌then◌else◌, List, [], ◌∷◌, take, drop}
use Rattle.dt_form.specs.declared.contents.ContentsOf.{ContentsOf}
use Rattle.dt_form.specs.declared.envelope.Combiner.{Combiner}
use Rattle.dt_form.specs.declared.envelope.Combiner.TheVariants as combiner
use Rattle.dt_form.specs.declared.form.AddrBlock.{AddrBlock}
use Rattle.dt_form.specs.declared.form.Dist.{Dist}
use Rattle.dt_form.specs.declared.form.Dist.TheVariants.{Block, Cyclic, Whole}
use Rattle.dt_form.specs.declared.form.DistDim.{DistDim}
use Rattle.dt_form.specs.declared.form.FormOf.{FormOf}
use Rattle.dt_form.specs.declared.form.FormOf.TheVariants.{Dup, Contiguous, Vector, Hvector, Indexed, Hindexed, IndexedBlock, HindexedBlock, Struct, Subarray, Darray, Resized}
use Rattle.dt_form.specs.declared.form.IntBlock.{IntBlock}
use Rattle.dt_form.specs.declared.form.Order.{Order}
use Rattle.dt_form.specs.declared.form.Order.TheVariants.{C, Fortran}
use Rattle.dt_form.specs.declared.form.PartOf.{PartOf}
use Rattle.dt_form.specs.declared.form.SubDim.{SubDim}

-- what a number stands for
abbrev pub order_from : ℤ → Order
order_from x = if nat_abs x == 0 then C else Fortran

abbrev pub dist_from : ℤ → Dist
dist_from x = if nat_abs x == 1 then Block else (if nat_abs x == 2 then Cyclic else Whole)

abbrev pub darg_from : ℤ → Option ℤ
darg_from (pos darg) = Some (pos darg)
darg_from (negsuc x) = None

-- the numbers after so many lists of n numbers each, and the list of n numbers that begins there
abbrev pub after : ℕ → ℕ → List ℤ → List ℤ
after zero n numbers = numbers
after (suc lists) n numbers = after lists n (drop n numbers)

abbrev pub list_after : ℕ → ℕ → List ℤ → List ℤ
list_after lists n numbers = take n (after lists n numbers)

-- blocks, parts and dimensions from the lists of their numbers
abbrev pub int_blocks_from : List ℤ → List ℤ → List IntBlock
int_blocks_from (len ∷ lens) (disp ∷ disps) = (record { len = len; disp = disp }) ∷ int_blocks_from lens disps
int_blocks_from _ _ = []

abbrev pub addr_blocks_from : List ℤ → List ℤ → List AddrBlock
addr_blocks_from (len ∷ lens) (disp ∷ disps) = (record { len = len; disp = disp }) ∷ addr_blocks_from lens disps
addr_blocks_from _ _ = []

abbrev pub parts_from : {T : Type 0} → List ℤ → List ℤ → List T → List (PartOf T)
parts_from (len ∷ lens) (disp ∷ disps) (old ∷ olds) = (record { len = len; disp = disp; old = old }) ∷ parts_from lens disps olds
parts_from _ _ _ = []

abbrev pub sub_dims_from : List ℤ → List ℤ → List ℤ → List SubDim
sub_dims_from (size ∷ sizes) (sub ∷ subs) (start ∷ starts) =
    (record { size = size; sub = sub; start = start }) ∷ sub_dims_from sizes subs starts
sub_dims_from _ _ _ = []

abbrev pub dist_dims_from : List ℤ → List ℤ → List ℤ → List ℤ → List DistDim
dist_dims_from (gsize ∷ gsizes) (dist ∷ dists) (darg ∷ dargs) (psize ∷ psizes) =
    (record { gsize = gsize; dist = dist_from dist; darg = darg_from darg; psize = psize }) ∷ dist_dims_from gsizes dists dargs psizes
dist_dims_from _ _ _ _ = []

-- arrays of n dimensions: the order stands after the lists of the dimensions
abbrev pub subarray_from : {T : Type 0} → ℕ → List ℤ → T → List ℤ → Option (FormOf T)
subarray_from n numbers old (order ∷ []) =
    Some (Subarray (sub_dims_from (list_after 0 n numbers) (list_after 1 n numbers) (list_after 2 n numbers)) (order_from order) old)
subarray_from n numbers old _ = None

abbrev pub darray_from : {T : Type 0} → ℤ → ℤ → ℕ → List ℤ → T → List ℤ → Option (FormOf T)
darray_from size rank n numbers old (order ∷ []) =
    let dims = dist_dims_from (list_after 0 n numbers) (list_after 1 n numbers) (list_after 2 n numbers) (list_after 3 n numbers) in
    Some (Darray size rank dims (order_from order) old)
darray_from size rank n numbers old _ = None

-- a combiner with integers, addresses and types, where these are its arguments
abbrev pub form_from : {T : Type 0} → Combiner → List ℤ → List ℤ → List T → Option (FormOf T)
form_from combiner.Dup [] [] (old ∷ []) = Some (Dup old)
form_from combiner.Contiguous (count ∷ []) [] (old ∷ []) = Some (Contiguous count old)
form_from combiner.Vector (count ∷ block ∷ stride ∷ []) [] (old ∷ []) = Some (Vector count block stride old)
form_from combiner.Hvector (count ∷ block ∷ []) (stride ∷ []) (old ∷ []) = Some (Hvector count block stride old)
form_from combiner.Indexed (n ∷ numbers) [] (old ∷ []) =
    Some (Indexed (int_blocks_from (list_after 0 (nat_abs n) numbers) (list_after 1 (nat_abs n) numbers)) old)
form_from combiner.Hindexed (n ∷ lens) disps (old ∷ []) = Some (Hindexed (addr_blocks_from lens disps) old)
form_from combiner.IndexedBlock (n ∷ block ∷ disps) [] (old ∷ []) = Some (IndexedBlock block disps old)
form_from combiner.HindexedBlock (n ∷ block ∷ []) disps (old ∷ []) = Some (HindexedBlock block disps old)
form_from combiner.Struct (n ∷ lens) disps olds = Some (Struct (parts_from lens disps olds))
form_from combiner.Subarray (n ∷ numbers) [] (old ∷ []) = subarray_from (nat_abs n) numbers old (after 3 (nat_abs n) numbers)
form_from combiner.Darray (size ∷ rank ∷ n ∷ numbers) [] (old ∷ []) = darray_from size rank (nat_abs n) numbers old (after 4 (nat_abs n) numbers)
form_from combiner.Resized [] (lb ∷ extent ∷ []) (old ∷ []) = Some (Resized lb extent old)
form_from _ _ _ _ = None

abbrev pub decoded : {T : Type 0} → Combiner → ContentsOf T → Option (FormOf T)
decoded c contents = form_from c contents.integers contents.addresses contents.types
