-- What a reader that takes memory answers.
use Rattle.std.specs.Borrow.{Bor}
use Rattle.std.specs.Prelude.{◌≡◌, Result, Ok, Err, IsErr}
use Rattle.dt_type.specs.declared.fault.CtorFault.TheVariants.{NoMemory}
use Rattle.dt_wire.specs.declared.stop.Stop.{Stop}
use Rattle.dt_wire.specs.declared.stop.Stop.TheVariants.{Bad, Refused}
use Rattle.dt_wire.specs.Reading.{Bytes}

-- what reading gives, bad where it gives nothing, or that memory ran out
abbrev pub Takes : {A : Type 0} → Result (A × Bor Bytes) Stop → Result (A × Bytes) Bytes → Type 0
Takes (Ok x) read = read ≡ Ok (x.0, x.1.now)
Takes (Err Bad) read = IsErr read
Takes (Err (Refused fault)) read = fault ≡ NoMemory
