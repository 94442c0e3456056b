use Rattle.std.specs.Prelude.{◌≡◌, ℤ, Some, None, IsSome, Result, Ok, Err, true, false}
use Rattle.dt_form.specs.declared.contents.ContentsOf.{ContentsOf}
use Rattle.dt_form.specs.Contents.{contents_of, old_at}
use Rattle.dt_form.specs.Form.{olds_of}
use Rattle.dt_type.specs.declared.datatype.Seen.{Seen}
use Rattle.dt_type.specs.declared.fault.ChildFault.{ChildFault}
use Rattle.dt_type.specs.declared.fault.ChildFault.TheVariants as child
use Rattle.dt_type.specs.declared.fault.ContentsFault.{ContentsFault}
use Rattle.dt_type.specs.declared.fault.ContentsFault.TheVariants as contents
use Rattle.dt_type.specs.Basic.{is_basic}
use Rattle.dt_type.specs.Datatype.{form_of}

-- the answer of `contents`: the three lists, and none for a basic type
abbrev pub AreContents : Seen → Result (ContentsOf Seen) ContentsFault → Type 0
AreContents t (Ok c) = (is_basic t ≡ false) × (c ≡ contents_of (form_of t))
AreContents t (Err contents.Named) = is_basic t ≡ true
AreContents t (Err contents.NoMemory) = is_basic t ≡ false

-- the answer of `child`: an old type, and none for a basic type or where there is none of that number
abbrev pub IsChild : Seen → ℤ → Result Seen ChildFault → Type 0
IsChild t k (Ok old) = (is_basic t ≡ false) × (old_at (olds_of (form_of t)) k ≡ Some old)
IsChild t k (Err child.Named) = is_basic t ≡ true
IsChild t k (Err child.NoSuchChild) = (is_basic t ≡ false) × (old_at (olds_of (form_of t)) k ≡ None)
IsChild t k (Err child.NoMemory) = (is_basic t ≡ false) × IsSome (old_at (olds_of (form_of t)) k)
