-- What a line does to the state, and what is replied.
use Rattle.std.specs.Prelude.{◌≡◌, ℕ, ◌+◌, min, length, ℤ, nat_abs, false, if◌then◌else◌, List, map, Option, Some, ◌⊎◌}
use Rattle.dt_copy.specs.Copied.{copied}
use Rattle.dt_kinds.specs.declared.kind.Rep.{Rep}
use Rattle.dt_kinds.specs.declared.kind.Rep.TheVariants.{Native}
use Rattle.dt_map.specs.Bounds.{bounds_of}
use Rattle.dt_map.specs.Counts.{received_elements, received_copies}
use Rattle.dt_map.specs.Packed.{packed, total}
use Rattle.dt_reduce.specs.Folded.{folded, words_of}
use Rattle.dt_reduce.specs.Reduced.{reduced}
use Rattle.dt_reply.specs.declared.refusal.Refusal.{Refusal}
use Rattle.dt_reply.specs.declared.refusal.Refusal.TheVariants.{Syntax}
use Rattle.dt_reply.specs.declared.reply.Reply.{Reply}
use Rattle.dt_reply.specs.declared.reply.Reply.TheVariants.{Silent, Done, Packed, Shown, Told, Listed, Described, Contained, Counted, Opened, Given, Closed, Copied, Wire, Reduced, ReducedAll, Refused}
use Rattle.dt_script.specs.declared.command.Command.{Command}
use Rattle.dt_script.specs.declared.command.Command.TheVariants.{Define, Child, Commit, Free, Info, Map, Envelope, Contents, Buffer, Show, Bytes, Elements, Pack, Take, Seek, Close, Unpack, Give, Copy as CopyCommand, Export, Import, Reduce, Reduceall, Weights, Normalise, Rebuild}
use Rattle.dt_script.specs.Name.{begins_with_mpi}
use Rattle.dt_script.specs.Line.{Meaning, Blank, Fault, Does, IsLine}
use Rattle.dt_type.specs.declared.datatype.Seen.{Seen}
use Rattle.dt_form.specs.declared.form.FormOf.{FormOf}
use Rattle.dt_type.specs.Basic.{is_basic}
use Rattle.dt_form.specs.Contents.{old_at, envelope_of, contents_of}
use Rattle.dt_type.specs.Datatype.{typemap_of, entries_of, marks_of, form_of}
use Rattle.dt_form.specs.Form.{olds_of}
use Rattle.dt_type.specs.Form.{result_of}
use Rattle.dt_pack.specs.Session as pack
use Rattle.dt_rebuild.specs.Built.{built}
use Rattle.dt_tree.specs.Tree.{Tree}
use Rattle.dt_names.specs.declared.kept.Kept.{Kept}
use Rattle.dt_sessions.specs.declared.session.Opened as opened
use Rattle.dt_sessions.specs.Open.{total_in, passed_in, rest_in, next_in, receipt_in, packing, unpacking}
use Rattle.dt_machine.specs.Choice.{weights_by, MayBeTold, cost_told, tells}
use Rattle.dt_machine.specs.Made.{form_in, is_committed_by}
use Rattle.dt_machine.specs.Joins.{join_of}
use Rattle.dt_machine.specs.Refusal.{elements_of, IsRefusedBy, IsAllowed}
use Rattle.dt_machine.specs.Sides.{buffers_of}
use Rattle.dt_machine.specs.State.{State, type_of, buffer_of, session_of, with_session, with_moved, with_given, without_session, with_taken, with_received, with_type, with_committed, without_type, with_buffer, with_bytes, with_weights, with_cost, with_count}
use Rattle.dt_names.specs.Names.{bytes_of}
use Rattle.dt_unpack.specs.Session as unpack
use Rattle.dt_wire.specs.Spelling.{text_of}
use Rattle.dt_wire.specs.Wire.{IsWire}

-- a pack session over a type and a buffer of so many bytes, as it is opened
abbrev pub begun : Kept → Rep → ℤ → ℤ → ℕ → pack.Session
begun kept rep count origin len = pack.opened (typemap_of kept.ty) (nat_abs count) rep origin len

-- how many packed bytes are taken: as many as asked for, or as are still to come
abbrev pub taken_by : opened.Opened → ℤ → ℕ
taken_by o len = min (nat_abs len) (rest_in o.session)

-- an unpack session over a type and a buffer of so many bytes, as it is opened
abbrev pub receiving : Kept → Rep → ℤ → ℤ → ℕ → unpack.Session
receiving kept rep count origin len = unpack.opened (typemap_of kept.ty) (nat_abs count) rep origin len

-- the state where a piece was given to the session of a name, whose buffer had these bytes, and was counted
abbrev pub with_piece : State → List ℕ → opened.Opened → List ℕ → List ℕ → State
with_piece s name o bytes piece = with_received (with_given s name o bytes piece) (length piece) (receipt_in o.session piece).completed

-- what a command replies and changes that is not refused
abbrev pub Performs : Command → State → Reply → State → Type 0
-- the new name stands for the type that the constructor gives
Performs (Define name ctor) s reply t =
    (form : FormOf Seen) × (form_in s ctor ≡ Some form) × (reply ≡ Done)
    × (t ≡ with_count (with_type s name (record { ty = result_of form; committed = is_committed_by s ctor })))
-- the new name stands for an old type of the type, which is committed where it is basic
Performs (Child name ty k) s reply t =
    (kept : Kept) × (old : Seen) × (type_of s ty ≡ Some kept) × (old_at (olds_of (form_of kept.ty)) k ≡ Some old) × (reply ≡ Done)
    × (t ≡ with_count (with_type s name (record { ty = old; committed = is_basic old })))
-- the type is committed, as a basic type is already
Performs (Commit ty) s reply t =
    (kept : Kept) × (type_of s ty ≡ Some kept) × (reply ≡ Done) × (t ≡ with_count (if begins_with_mpi ty then s else with_committed s ty kept))
-- the name stands for nothing from now on
Performs (Free ty) s reply t = (reply ≡ Done) × (t ≡ with_count (without_type s ty))
-- the bounds of the type are told, and whether it is committed
Performs (Info ty) s reply t =
    (kept : Kept) × (type_of s ty ≡ Some kept) × (reply ≡ Told (bounds_of (typemap_of kept.ty)) kept.committed) × (t ≡ with_count s)
-- its typemap is listed with the marks
Performs (Map ty) s reply t = (kept : Kept) × (type_of s ty ≡ Some kept) × (reply ≡ Listed (typemap_of kept.ty)) × (t ≡ with_count s)
-- its envelope is told, and its contents are listed
Performs (Envelope ty) s reply t =
    (kept : Kept) × (type_of s ty ≡ Some kept) × (reply ≡ Described (envelope_of (form_of kept.ty))) × (t ≡ with_count s)
Performs (Contents ty) s reply t =
    (kept : Kept) × (type_of s ty ≡ Some kept) × (reply ≡ Contained (contents_of (form_of kept.ty))) × (t ≡ with_count s)
-- the new name stands for the bytes
Performs (Buffer name fill) s reply t = (reply ≡ Done) × (t ≡ with_count (with_buffer s name (bytes_of fill)))
-- the whole buffer is shown
Performs (Show buffer) s reply t = (bytes : List ℕ) × (buffer_of s buffer ≡ Some bytes) × (reply ≡ Shown bytes) × (t ≡ with_count s)
-- the packed bytes are those of the elements, read from the buffer
Performs (Bytes rep count ty buffer origin) s reply t =
    (kept : Kept) × (bytes : List ℕ) × (type_of s ty ≡ Some kept) × (buffer_of s buffer ≡ Some bytes)
    × (reply ≡ Packed (packed rep (elements_of kept count origin) bytes)) × (t ≡ with_count s)
-- the elements and the copies among so many received bytes are told
Performs (Elements rep bytes ty) s reply t =
    (kept : Kept) × (type_of s ty ≡ Some kept)
    × (reply ≡ Counted (received_elements rep (typemap_of kept.ty) (nat_abs bytes)) (received_copies rep (typemap_of kept.ty) (nat_abs bytes)))
    × (t ≡ with_count s)
-- the new name stands for a pack session over the type as it is now, and how many packed bytes there are is told
Performs (Pack name rep count ty buffer origin) s reply t =
    (kept : Kept) × (bytes : List ℕ) × (type_of s ty ≡ Some kept) × (buffer_of s buffer ≡ Some bytes)
    × (reply ≡ Opened (pack.total_of (begun kept rep count origin (length bytes))))
    × (t ≡ with_count (with_session s name (packing buffer (begun kept rep count origin (length bytes)))))
-- the next packed bytes of the session are told, of its buffer as it is now, and it moves past them
Performs (Take session len) s reply t =
    (o : opened.Opened) × (bytes : List ℕ) × (session_of s session ≡ Some o) × (buffer_of s o.buffer ≡ Some bytes)
    × (reply ≡ Packed (next_in o.session bytes (taken_by o len)))
    × (t ≡ with_count (with_taken (with_moved s session o (passed_in o.session + taken_by o len)) (taken_by o len)))
-- the session goes to the packed byte
Performs (Seek session byte) s reply t =
    (o : opened.Opened) × (session_of s session ≡ Some o) × (reply ≡ Done) × (t ≡ with_count (with_moved s session o (nat_abs byte)))
-- the session ends, and where it stood is told
Performs (Close session) s reply t =
    (o : opened.Opened) × (session_of s session ≡ Some o) × (reply ≡ Closed (passed_in o.session) (total_in o.session))
    × (t ≡ with_count (without_session s session))
-- the new name stands for an unpack session over the type as it is now, and how many packed bytes there are is told
Performs (Unpack name rep count ty buffer origin) s reply t =
    (kept : Kept) × (bytes : List ℕ) × (type_of s ty ≡ Some kept) × (buffer_of s buffer ≡ Some bytes)
    × (reply ≡ Opened (unpack.total_of (receiving kept rep count origin (length bytes))))
    × (t ≡ with_count (with_session s name (unpacking buffer (receiving kept rep count origin (length bytes)))))
-- the elements that the piece completes are set in the session's buffer as it is now, and what the piece came to is told
Performs (Give session piece) s reply t =
    (o : opened.Opened) × (bytes : List ℕ) × (session_of s session ≡ Some o) × (buffer_of s o.buffer ≡ Some bytes)
    × (reply ≡ Given (receipt_in o.session piece)) × (t ≡ with_count (with_piece s session o bytes piece))
-- each element of the source is copied to the place of the target's element with the same number, and how many these are is told
Performs (CopyCommand source_count source_type source source_origin target_count target_type target target_origin) s reply t =
    (from onto : Kept) × (old held : List ℕ) × (type_of s source_type ≡ Some from) × (type_of s target_type ≡ Some onto)
    × (buffer_of s source ≡ Some old) × (buffer_of s target ≡ Some held)
    × (let es = elements_of from source_count source_origin in
    let fs = elements_of onto target_count target_origin in
    (reply ≡ Copied (length es) (total Native es)) × (t ≡ with_count (with_bytes s target (copied es fs old held))))
-- the bytes that spell the type's form are told
Performs (Export ty) s reply t = (kept : Kept) × (type_of s ty ≡ Some kept) × (reply ≡ Wire (text_of (form_of kept.ty))) × (t ≡ with_count s)
-- the new name stands for the type of the form that the bytes spell, which is committed where it is basic
Performs (Import name wire) s reply t =
    (form : FormOf Seen) × IsWire wire form × (reply ≡ Done)
    × (t ≡ with_count (with_type s name (record { ty = result_of form; committed = is_basic (result_of form) })))
-- the words of the target's elements become what the source's words and they are joined to, and how many these are is told
Performs (Reduce op count ty source source_origin target target_origin) s reply t =
    (kept : Kept) × (old held : List ℕ) × (type_of s ty ≡ Some kept) × (buffer_of s source ≡ Some old) × (buffer_of s target ≡ Some held)
    × (let es = elements_of kept count source_origin in
    let fs = elements_of kept count target_origin in
    (reply ≡ Reduced (length fs)) × (t ≡ with_count (with_bytes s target (reduced (join_of op) es fs old held))))
-- the words of the target's elements become what the ranks' words of the same number are joined to, in the order of the ranks
Performs (Reduceall op how count ty origin target ranks) s reply t =
    (kept : Kept) × (held : List ℕ) × (buffers : List (List ℕ)) × (type_of s ty ≡ Some kept) × (buffer_of s target ≡ Some held)
    × (buffers_of s ranks ≡ Some buffers)
    × (let fs = elements_of kept count origin in
    (reply ≡ ReducedAll (length fs) (length ranks))
    × (t ≡ with_count (with_bytes s target (folded (join_of op) fs (map (words_of fs) buffers) held))))
-- trees are weighed so from now on
Performs (Weights leaf vector index place group part) s reply t =
    (reply ≡ Done) × (t ≡ with_count (with_weights s (weights_by leaf vector index place group part)))
-- some tree that may be told of the type's entries is told, and its cost is added up
Performs (Normalise ty) s reply t =
    (kept : Kept) × (base : ℤ) × (tree : Option Tree) × (type_of s ty ≡ Some kept) × MayBeTold s.weights (entries_of kept.ty) base tree
    × (reply ≡ tells s.weights base tree) × (t ≡ with_count (with_cost s (cost_told s.weights tree)))
-- such a tree is told, and the new name stands for the type that is built from it, with the marks of the type; it isn't committed
Performs (Rebuild name ty) s reply t =
    (kept : Kept) × (base : ℤ) × (tree : Option Tree) × (type_of s ty ≡ Some kept) × MayBeTold s.weights (entries_of kept.ty) base tree
    × (reply ≡ tells s.weights base tree)
    × (t ≡ with_count (with_type s name (record { ty = built base tree (marks_of kept.ty); committed = false })))

-- a command is refused and changes nothing, or it is performed
abbrev pub Obeys : Command → State → Reply → State → Type 0
Obeys command s reply t =
    ((refusal : Refusal) × IsRefusedBy s command refusal × (reply ≡ Refused refusal) × (t ≡ s))
    ⊎ (IsAllowed s command × Performs command s reply t)

-- a blank or comment line does nothing, and a fault is refused
abbrev pub Meets : Meaning → State → Reply → State → Type 0
Meets Blank s reply t = (reply ≡ Silent) × (t ≡ s)
Meets Fault s reply t = (reply ≡ Refused Syntax) × (t ≡ s)
Meets (Does command) s reply t = Obeys command s reply t

-- one line: what it means is met
abbrev pub Step : State → List ℕ → Reply → State → Type 0
Step s line reply t = (meaning : Meaning) × IsLine line meaning × Meets meaning s reply t
