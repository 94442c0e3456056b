use Rattle.dt_pack.specs.declared.fault.PackFault.{PackFault}
use Rattle.dt_pack.specs.declared.fault.PackFault.TheVariants as pack
use Rattle.dt_unpack.specs.declared.fault.UnpackFault.{UnpackFault}
use Rattle.dt_unpack.specs.declared.fault.UnpackFault.TheVariants as unpack
use Rattle.dt_registry.specs.declared.fault.AddFault.{AddFault}
use Rattle.dt_registry.specs.declared.fault.AddFault.TheVariants as add
use Rattle.dt_registry.specs.declared.fault.HandleFault.{HandleFault}
use Rattle.dt_registry.specs.declared.fault.HandleFault.TheVariants as handle
use Rattle.dt_type.specs.declared.fault.CtorFault.{CtorFault}
use Rattle.dt_type.specs.declared.fault.CtorFault.TheVariants as ctor
use Rattle.dt_space.specs.declared.fault.SpaceFault.{SpaceFault}
use Rattle.dt_space.specs.declared.fault.SpaceFault.TheVariants.{NoSuchType, BadArgument, Basic, Spent, Overflow, TooDeep, TooHeavy, Outside, Overlap, TooLarge, NoMemory}

-- why a constructor refuses
abbrev pub fault_of : CtorFault → SpaceFault
fault_of ctor.BadArgument = BadArgument
fault_of ctor.Overflow = Overflow
fault_of ctor.TooDeep = TooDeep
fault_of ctor.TooHeavy = TooHeavy
fault_of ctor.NoMemory = NoMemory

-- why no session is opened
abbrev pub pack_fault : PackFault → SpaceFault
pack_fault pack.Outside = Outside
pack_fault pack.TooLarge = TooLarge
pack_fault pack.NoMemory = NoMemory

abbrev pub unpack_fault : UnpackFault → SpaceFault
unpack_fault unpack.Outside = Outside
unpack_fault unpack.Overlap = Overlap
unpack_fault unpack.NoMemory = NoMemory

-- why no number is made, and why nothing is done at one
abbrev pub add_fault : AddFault → SpaceFault
add_fault add.Spent = Spent
add_fault add.NoMemory = NoMemory

abbrev pub handle_fault : HandleFault → SpaceFault
handle_fault handle.Stale = NoSuchType
handle_fault handle.Basic = Basic
