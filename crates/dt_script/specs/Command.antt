-- The line forms as relations between the words of a line and a command, one case for each form.
use Rattle.std.specs.Prelude.{◌≢◌, [], ⊤, codes}
use Rattle.dt_script.specs.declared.command.Command.{Command}
use Rattle.dt_script.specs.declared.command.Command.TheVariants.{Define, Child, Commit, Free, Info, Map, Envelope, Contents, Buffer, Show, Bytes, Elements, Pack, Take, Seek, Close, Unpack, Give, Weights, Normalise, Rebuild, Copy, Export, Import, Reduce, Reduceall}
use Rattle.dt_script.specs.declared.command.Ctor.{Ctor}
use Rattle.dt_script.specs.declared.command.Ctor.TheVariants.{Contiguous, Vector, Hvector, Indexed, Hindexed, IndexedBlock, HindexedBlock, Struct, Resized, Dup, Subarray, Darray}
use Rattle.dt_script.specs.declared.command.Fill.{Fill}
use Rattle.dt_script.specs.declared.command.Fill.TheVariants.{Zero, Count, Hex}
use Rattle.dt_script.specs.Item.{INT, ADDR, NAME, HEX, REP, ORDER, OP, HOW, INT_BLOCK, ADDR_BLOCK, PART, SUB_DIM, DIST_DIM, Words, ◌spell◌, ◌then◌, the, item, each, one_or_more, end}

-- what follows `=` in `type NAME = CTOR`
abbrev pub IsCtor : Words → Ctor → Type 0
IsCtor words (Contiguous count old) = words spell the (codes "contiguous") then item INT count then item NAME old then end
IsCtor words (Vector count block stride old) =
    words spell the (codes "vector") then item INT count then item INT block then item INT stride then item NAME old then end
IsCtor words (Hvector count block stride old) =
    words spell the (codes "hvector") then item INT count then item INT block then item ADDR stride then item NAME old then end
IsCtor words (Indexed old blocks) = words spell the (codes "indexed") then item NAME old then each INT_BLOCK blocks
IsCtor words (Hindexed old blocks) = words spell the (codes "hindexed") then item NAME old then each ADDR_BLOCK blocks
IsCtor words (IndexedBlock old block disps) =
    words spell the (codes "indexed_block") then item NAME old then item INT block then each INT disps
IsCtor words (HindexedBlock old block disps) =
    words spell the (codes "hindexed_block") then item NAME old then item INT block then each ADDR disps
IsCtor words (Struct parts) = words spell the (codes "struct") then each PART parts
IsCtor words (Resized lb extent old) =
    words spell the (codes "resized") then item ADDR lb then item ADDR extent then item NAME old then end
IsCtor words (Dup old) = words spell the (codes "dup") then item NAME old then end
IsCtor words (Subarray order old dims) =
    words spell the (codes "subarray") then item ORDER order then item NAME old then each SUB_DIM dims
IsCtor words (Darray size rank order old dims) =
    words spell the (codes "darray") then item INT size then item INT rank then item ORDER order then item NAME old then each DIST_DIM dims

-- `zero LENGTH`, `count LENGTH` and `hex HEX`
abbrev pub IsFill : Words → Fill → Type 0
IsFill words (Zero len) = words spell the (codes "zero") then item INT len then end
IsFill words (Count len) = words spell the (codes "count") then item INT len then end
IsFill words (Hex bytes) = words spell the (codes "hex") then item HEX bytes then end

-- a line that is neither blank nor a comment
abbrev pub IsCommand : Words → Command → Type 0
IsCommand words (Define name ctor) =
    words spell the (codes "type") then item NAME name then the (codes "=") then λ behind. IsCtor behind ctor
IsCommand words (Child name ty k) =
    words spell the (codes "child") then item NAME name then the (codes "=") then item NAME ty then item INT k then end
IsCommand words (Commit ty) = words spell the (codes "commit") then item NAME ty then end
IsCommand words (Free ty) = words spell the (codes "free") then item NAME ty then end
IsCommand words (Info ty) = words spell the (codes "info") then item NAME ty then end
IsCommand words (Map ty) = words spell the (codes "map") then item NAME ty then end
IsCommand words (Envelope ty) = words spell the (codes "envelope") then item NAME ty then end
IsCommand words (Contents ty) = words spell the (codes "contents") then item NAME ty then end
IsCommand words (Buffer name fill) = words spell the (codes "buffer") then item NAME name then λ behind. IsFill behind fill
IsCommand words (Show buffer) = words spell the (codes "show") then item NAME buffer then end
IsCommand words (Bytes rep count ty buffer origin) =
    words spell the (codes "bytes") then item REP rep then item INT count then item NAME ty then item NAME buffer then item ADDR origin then end
IsCommand words (Elements rep bytes ty) = words spell the (codes "elements") then item REP rep then item ADDR bytes then item NAME ty then end
IsCommand words (Pack name rep count ty buffer origin) =
    words spell the (codes "pack") then item NAME name then item REP rep then item INT count then item NAME ty then item NAME buffer then item ADDR origin then end
IsCommand words (Take session len) = words spell the (codes "take") then item NAME session then item INT len then end
IsCommand words (Seek session byte) = words spell the (codes "seek") then item NAME session then item ADDR byte then end
IsCommand words (Close session) = words spell the (codes "close") then item NAME session then end
IsCommand words (Unpack name rep count ty buffer origin) =
    words spell the (codes "unpack") then item NAME name then item REP rep then item INT count then item NAME ty then item NAME buffer then item ADDR origin then end
IsCommand words (Give session bytes) = words spell the (codes "give") then item NAME session then item HEX bytes then end
IsCommand words (Weights leaf vector index place group part) =
    words spell the (codes "weights") then item INT leaf then item INT vector then item INT index then item INT place then item INT group then item INT part then end
IsCommand words (Normalise ty) = words spell the (codes "normalise") then item NAME ty then end
IsCommand words (Rebuild name ty) = words spell the (codes "rebuild") then item NAME name then the (codes "=") then item NAME ty then end
IsCommand words (Copy source_count source_type source source_origin target_count target_type target target_origin) =
    words spell the (codes "copy")
    then item INT source_count then item NAME source_type then item NAME source then item ADDR source_origin
    then item INT target_count then item NAME target_type then item NAME target then item ADDR target_origin then end
IsCommand words (Export ty) = words spell the (codes "export") then item NAME ty then end
IsCommand words (Import name wire) = words spell the (codes "import") then item NAME name then the (codes "=") then item HEX wire then end
IsCommand words (Reduce op count ty source source_origin target target_origin) =
    words spell the (codes "reduce") then item OP op then item INT count then item NAME ty
    then item NAME source then item ADDR source_origin then item NAME target then item ADDR target_origin then end
IsCommand words (Reduceall op how count ty origin target ranks) =
    words spell the (codes "reduceall") then item OP op then item HOW how then item INT count then item NAME ty
    then item ADDR origin then item NAME target then one_or_more NAME ranks

-- a reduction of ranks has one; no other command asks for ranks
abbrev pub HasRanks : Command → Type 0
HasRanks (Reduceall op how count ty origin target ranks) = ranks ≢ []
HasRanks command = ⊤
