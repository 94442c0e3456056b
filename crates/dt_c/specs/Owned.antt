-- What a pointer to a space owns.
use Rattle.std.specs.Prelude.{Option, Some, None}
use base.Stored.{Coded}
use base.Fml.{Fml, ftrue}
use denote.RawPtr.{Ptr}
use Rattle.std.specs.Coded.{coded_option}
use Rattle.std.specs.Box.Ownership.{box_owns}
use Rattle.std.specs.Global.{Global}
use Rattle.std.specs.contracts.impls.GlobalAllocator.TheImpl.{ghosts}
use Rattle.dt_space.specs.Space.{Space}
use Rattle.dt_space.specs.contracts.space.Space as row

abbrev pub space_owns : Global → Ptr → Option Space → Fml
space_owns alloc p None = ftrue
space_owns alloc p (Some s) = box_owns (ghosts.dealloc_token alloc) row.the_row p s

-- a space, or none, is stored as the model of a space says
abbrev pub option_code : Coded (Option Space)
option_code = coded_option row.the_row.coded
