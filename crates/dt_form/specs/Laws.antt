use Rattle.std.specs.Prelude.{◌≡◌, Some, false, IsTrue}
use Rattle.dt_form.specs.declared.form.FormOf.{FormOf}
use Rattle.dt_form.specs.Arguments.{takes_arguments}
use Rattle.dt_form.specs.Contents.{combiner_of, contents_of}
use Rattle.dt_form.specs.Decoding.{decoded}
use Rattle.dt_form.specs.Form.{is_named}

-- what the combiner and the contents of a constructor's form decode to is that form
abbrev pub ContentsSayTheForm : Type 0 → Type 0
ContentsSayTheForm T =
    (f : FormOf T) → is_named f ≡ false → IsTrue (takes_arguments f) → decoded (combiner_of f) (contents_of f) ≡ Some f
