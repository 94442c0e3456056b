-- Lists of a constructor, from one list for each of their members' numbers: as many members as the shortest list has.
use Rattle.std.specs.Prelude.{ℕ, ◌==◌, ℤ, pos, negsuc, Option, Some, None, Bool, true, false, if◌then◌else◌, List, map}
use Rattle.std.specs.List.{zip}
use Rattle.dt_form.specs.declared.form.AddrBlock.{AddrBlock}
use Rattle.dt_form.specs.declared.form.Dist.{Dist}
use Rattle.dt_form.specs.declared.form.Dist.TheVariants.{Block, Cyclic, Whole}
use Rattle.dt_form.specs.declared.form.DistDim.{DistDim}
use Rattle.dt_form.specs.declared.form.IntBlock.{IntBlock}
use Rattle.dt_form.specs.declared.form.Order.{Order}
use Rattle.dt_form.specs.declared.form.Order.TheVariants.{C, Fortran}
use Rattle.dt_form.specs.declared.form.PartOf.{PartOf}
use Rattle.dt_form.specs.declared.form.SubDim.{SubDim}
use Rattle.dt_space.specs.declared.number.TypeNumber.{TypeNumber}

abbrev pub int_blocks : List ℤ → List ℤ → List IntBlock
int_blocks lens disps = map (λ p. record { len = p.0; disp = p.1 }) (zip lens disps)

abbrev pub addr_blocks : List ℤ → List ℤ → List AddrBlock
addr_blocks lens disps = map (λ p. record { len = p.0; disp = p.1 }) (zip lens disps)

abbrev pub parts : List ℤ → List ℤ → List TypeNumber → List (PartOf TypeNumber)
parts lens disps types = map (λ p. record { len = p.0.0; disp = p.0.1; old = p.1 }) (zip (zip lens disps) types)

abbrev pub sub_dims : List ℤ → List ℤ → List ℤ → List SubDim
sub_dims sizes subs starts = map (λ p. record { size = p.0.0; sub = p.0.1; start = p.1 }) (zip (zip sizes subs) starts)

-- how a dimension is dealt out: in blocks, in turns, or not at all
abbrev pub dist_of : ℤ → Dist
dist_of (pos number) = if number == 1 then Block else (if number == 2 then Cyclic else Whole)
dist_of (negsuc number) = Whole

-- a length of blocks; -1 leaves it to its default
abbrev pub darg_of : ℤ → Option ℤ
darg_of (pos number) = Some (pos number)
darg_of (negsuc number) = if number == 0 then None else Some (negsuc number)

abbrev pub dist_dims : List ℤ → List ℤ → List ℤ → List ℤ → List DistDim
dist_dims gsizes dists dargs psizes =
    map (λ p. record { gsize = p.0.0.0; dist = dist_of p.0.0.1; darg = darg_of p.0.1; psize = p.1 }) (zip (zip (zip gsizes dists) dargs) psizes)

-- the order that a flag tells
abbrev pub order_of : Bool → Order
order_of true = Fortran
order_of false = C
