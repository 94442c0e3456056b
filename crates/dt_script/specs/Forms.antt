-- The line forms by description: the words of each in their order, which say how it is read.
use Rattle.std.specs.Prelude.{List, [], ◌∷◌, Option, codes}
use Rattle.dt_script.specs.declared.command.Command.{Command}
use Rattle.dt_script.specs.declared.command.Command.TheVariants.{Define, Child, Commit, Free, Info, Map, Envelope, Contents, Buffer, Show, Bytes, Elements, Pack, Take, Seek, Close, Unpack, Give, Weights, Normalise, Rebuild, Copy, Export, Import, Reduce, Reduceall}
use Rattle.dt_script.specs.declared.command.Ctor.{Ctor}
use Rattle.dt_script.specs.declared.command.Ctor.TheVariants.{Contiguous, Vector, Hvector, Indexed, Hindexed, IndexedBlock, HindexedBlock, Struct, Resized, Dup, Subarray, Darray}
use Rattle.dt_script.specs.declared.command.Fill.{Fill}
use Rattle.dt_script.specs.declared.command.Fill.TheVariants.{Zero, Count, Hex}
use Rattle.dt_script.specs.Command.{IsCtor, IsFill}
use Rattle.dt_script.specs.Item.{INT, ADDR, NAME, HEX, REP, ORDER, OP, HOW, INT_BLOCK, ADDR_BLOCK, PART, SUB_DIM, DIST_DIM, Words}
use Rattle.dt_script.specs.Form.{END, WORD, ◌&◌, EACH, ONE_OR_MORE, REST, Rest, Form, form, any_of}

-- constructors
abbrev pub contiguous : Form Ctor
contiguous = form (codes "contiguous") (INT & NAME & END) Contiguous

abbrev pub vector : Form Ctor
vector = form (codes "vector") (INT & INT & INT & NAME & END) Vector

abbrev pub hvector : Form Ctor
hvector = form (codes "hvector") (INT & INT & ADDR & NAME & END) Hvector

abbrev pub resized : Form Ctor
resized = form (codes "resized") (ADDR & ADDR & NAME & END) Resized

abbrev pub dup : Form Ctor
dup = form (codes "dup") (NAME & END) Dup

abbrev pub indexed : Form Ctor
indexed = form (codes "indexed") (NAME & EACH INT_BLOCK) Indexed

abbrev pub hindexed : Form Ctor
hindexed = form (codes "hindexed") (NAME & EACH ADDR_BLOCK) Hindexed

abbrev pub indexed_block : Form Ctor
indexed_block = form (codes "indexed_block") (NAME & INT & EACH INT) IndexedBlock

abbrev pub hindexed_block : Form Ctor
hindexed_block = form (codes "hindexed_block") (NAME & INT & EACH ADDR) HindexedBlock

abbrev pub parts : Form Ctor
parts = form (codes "struct") (EACH PART) Struct

abbrev pub subarray : Form Ctor
subarray = form (codes "subarray") (ORDER & NAME & EACH SUB_DIM) Subarray

abbrev pub darray : Form Ctor
darray = form (codes "darray") (INT & INT & ORDER & NAME & EACH DIST_DIM) Darray

-- those of arrays; those that list their places, and the former; and all
unfoldable pub array_forms : List (Form Ctor)
array_forms = subarray ∷ darray ∷ []

unfoldable pub listed_forms : List (Form Ctor)
listed_forms = indexed ∷ hindexed ∷ indexed_block ∷ hindexed_block ∷ parts ∷ array_forms

unfoldable pub ctor_forms : List (Form Ctor)
ctor_forms = contiguous ∷ vector ∷ hvector ∷ resized ∷ dup ∷ listed_forms

unfoldable pub ctor_of : Words → Option Ctor
ctor_of words = any_of ctor_forms words

abbrev pub ctors : Rest Ctor
ctors = record { Is = IsCtor; read = ctor_of }

-- what a new buffer holds
abbrev pub zero : Form Fill
zero = form (codes "zero") (INT & END) Zero

abbrev pub count : Form Fill
count = form (codes "count") (INT & END) Count

abbrev pub hex : Form Fill
hex = form (codes "hex") (HEX & END) Hex

unfoldable pub fill_forms : List (Form Fill)
fill_forms = zero ∷ count ∷ hex ∷ []

unfoldable pub fill_of : Words → Option Fill
fill_of words = any_of fill_forms words

abbrev pub fills : Rest Fill
fills = record { Is = IsFill; read = fill_of }

-- commands
abbrev pub define : Form Command
define = form (codes "type") (NAME & WORD (codes "=") (REST Ctor ctors)) Define

abbrev pub child : Form Command
child = form (codes "child") (NAME & WORD (codes "=") (NAME & INT & END)) Child

abbrev pub commit : Form Command
commit = form (codes "commit") (NAME & END) Commit

abbrev pub free : Form Command
free = form (codes "free") (NAME & END) Free

abbrev pub info : Form Command
info = form (codes "info") (NAME & END) Info

abbrev pub map : Form Command
map = form (codes "map") (NAME & END) Map

abbrev pub envelope : Form Command
envelope = form (codes "envelope") (NAME & END) Envelope

abbrev pub contents : Form Command
contents = form (codes "contents") (NAME & END) Contents

abbrev pub buffer : Form Command
buffer = form (codes "buffer") (NAME & REST Fill fills) Buffer

abbrev pub show : Form Command
show = form (codes "show") (NAME & END) Show

abbrev pub bytes : Form Command
bytes = form (codes "bytes") (REP & INT & NAME & NAME & ADDR & END) Bytes

abbrev pub counts : Form Command
counts = form (codes "elements") (REP & ADDR & NAME & END) Elements

abbrev pub pack : Form Command
pack = form (codes "pack") (NAME & REP & INT & NAME & NAME & ADDR & END) Pack

abbrev pub take : Form Command
take = form (codes "take") (NAME & INT & END) Take

abbrev pub seek : Form Command
seek = form (codes "seek") (NAME & ADDR & END) Seek

abbrev pub close : Form Command
close = form (codes "close") (NAME & END) Close

abbrev pub unpack : Form Command
unpack = form (codes "unpack") (NAME & REP & INT & NAME & NAME & ADDR & END) Unpack

abbrev pub give : Form Command
give = form (codes "give") (NAME & HEX & END) Give

abbrev pub weights : Form Command
weights = form (codes "weights") (INT & INT & INT & INT & INT & INT & END) Weights

abbrev pub normalise : Form Command
normalise = form (codes "normalise") (NAME & END) Normalise

abbrev pub rebuild : Form Command
rebuild = form (codes "rebuild") (NAME & WORD (codes "=") (NAME & END)) Rebuild

abbrev pub copy : Form Command
copy = form (codes "copy") (INT & NAME & NAME & ADDR & INT & NAME & NAME & ADDR & END) Copy

abbrev pub export : Form Command
export = form (codes "export") (NAME & END) Export

abbrev pub import : Form Command
import = form (codes "import") (NAME & WORD (codes "=") (HEX & END)) Import

abbrev pub reduce : Form Command
reduce = form (codes "reduce") (OP & INT & NAME & NAME & ADDR & NAME & ADDR & END) Reduce

abbrev pub reduceall : Form Command
reduceall = form (codes "reduceall") (OP & HOW & INT & NAME & ADDR & NAME & ONE_OR_MORE NAME) Reduceall

-- those that reduce; those on copies and wire texts, and the former; those that receive, and these; those on sessions, and these; those on trees, and these; those on buffers and received bytes, and these; those that ask about types, and these; and all
unfoldable pub reduction_forms : List (Form Command)
reduction_forms = reduce ∷ reduceall ∷ []

unfoldable pub copy_forms : List (Form Command)
copy_forms = copy ∷ export ∷ import ∷ reduction_forms

unfoldable pub unpack_forms : List (Form Command)
unpack_forms = unpack ∷ give ∷ copy_forms

unfoldable pub session_forms : List (Form Command)
session_forms = pack ∷ take ∷ seek ∷ close ∷ unpack_forms

unfoldable pub tree_forms : List (Form Command)
tree_forms = weights ∷ normalise ∷ rebuild ∷ session_forms

unfoldable pub buffer_forms : List (Form Command)
buffer_forms = buffer ∷ show ∷ bytes ∷ counts ∷ tree_forms

unfoldable pub question_forms : List (Form Command)
question_forms = info ∷ map ∷ envelope ∷ contents ∷ buffer_forms

unfoldable pub command_forms : List (Form Command)
command_forms = define ∷ child ∷ commit ∷ free ∷ question_forms

unfoldable pub command_of : Words → Option Command
command_of words = any_of command_forms words
