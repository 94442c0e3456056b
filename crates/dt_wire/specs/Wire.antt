-- Which bytes stand for which form.
use Rattle.std.specs.Prelude.{◌≡◌, ◌<◌, ◌≢◌, ◌^◌, ℕ, zero, suc, ℤ, negsuc, Option, Some, None, List}
use Rattle.std.specs.Int.RustNames.{FitsSigned}
use Rattle.std.specs.List.{AllByRecursion}
use mir.Syntax.{w32, w64}
use Rattle.dt_form.specs.declared.form.DistDim.{DistDim}
use Rattle.dt_form.specs.declared.form.FormOf.{FormOf}
use Rattle.dt_form.specs.declared.form.FormOf.TheVariants.{Named, Dup, Contiguous, Vector, Hvector, Indexed, Hindexed, IndexedBlock, HindexedBlock, Struct, Subarray, Darray, Resized}
use Rattle.dt_form.specs.Form.{olds_of, items_of}
use Rattle.dt_type.specs.declared.datatype.Seen.{Seen}
use Rattle.dt_type.specs.Datatype.{form_of}
use Rattle.dt_type.specs.Form.{result_of}
use Rattle.dt_wire.specs.Spelling.{text_of}

abbrev pub IsInt : ℤ → Type 0
IsInt x = FitsSigned w32 x

abbrev pub IsAddress : ℤ → Type 0
IsAddress x = FitsSigned w64 x

-- a block length that is given isn't -1, which stands for none
abbrev pub IsDarg : Option ℤ → Type 0
IsDarg None = Unit {0}
IsDarg (Some darg) = IsInt darg × (darg ≢ negsuc 0)

abbrev pub IsDistDim : DistDim → Type 0
IsDistDim d = IsInt d.gsize × IsDarg d.darg × IsInt d.psize

-- the arguments of a form are numbers of 32 or of 64 bits
abbrev pub HasArguments : {T : Type 0} → FormOf T → Type 0
HasArguments (Named kind) = Unit {0}
HasArguments (Dup old) = Unit {0}
HasArguments (Contiguous count old) = IsInt count
HasArguments (Vector count block stride old) = IsInt count × IsInt block × IsInt stride
HasArguments (Hvector count block stride old) = IsInt count × IsInt block × IsAddress stride
HasArguments (Indexed blocks old) = AllByRecursion (λ b. IsInt b.len × IsInt b.disp) blocks
HasArguments (Hindexed blocks old) = AllByRecursion (λ b. IsInt b.len × IsAddress b.disp) blocks
HasArguments (IndexedBlock block disps old) = IsInt block × AllByRecursion IsInt disps
HasArguments (HindexedBlock block disps old) = IsInt block × AllByRecursion IsAddress disps
HasArguments (Struct parts) = AllByRecursion (λ p. IsInt p.len × IsAddress p.disp) parts
HasArguments (Subarray dims order old) = AllByRecursion (λ d. IsInt d.size × IsInt d.sub × IsInt d.start) dims
HasArguments (Darray size rank dims order old) = IsInt size × IsInt rank × AllByRecursion IsDistDim dims
HasArguments (Resized lb extent old) = IsAddress lb × IsAddress extent

-- a form of at most so many levels whose arguments have spellings
abbrev pub IsForm : ℕ → FormOf Seen → Type 0
IsForm zero form = ⊥
IsForm (suc levels) form =
    HasArguments form × (items_of form < 2 ^ 32)
    × AllByRecursion (λ old. (old ≡ result_of (form_of old)) × IsForm levels (form_of old)) (olds_of form)

-- the bytes are those of a form nested at most 64 deep
abbrev pub IsWire : List ℕ → FormOf Seen → Type 0
IsWire bytes form = IsForm 64 form × (bytes ≡ text_of form)

-- the arguments on each of so many levels are numbers of 32 or of 64 bits, as those of a program's datatypes are
abbrev pub AreWritten : ℕ → Seen → Type 0
AreWritten zero t = Unit {0}
AreWritten (suc levels) t = HasArguments (form_of t) × AllByRecursion (AreWritten levels) (olds_of (form_of t))
