use Rattle.std.specs.Prelude.{Bool}
use Rattle.dt_form.specs.Form.{is_named}
use Rattle.dt_type.specs.declared.datatype.Seen.{Seen}
use Rattle.dt_type.specs.Datatype.{form_of}

-- whether a type is basic: no constructor made it (MPI 4.1, section 3.2.2)
abbrev pub is_basic : Seen → Bool
is_basic t = is_named (form_of t)
