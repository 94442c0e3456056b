use Rattle.std.proofs.Common.{pos, sym, subst, arith}
use Rattle.dt_layout.proofs.Inside.{inside_is_close}
use Rattle.dt_layout.specs.Program.{StandsFor}
use Rattle.dt_map.specs.Elements.{elements}
use Rattle.dt_type.specs.Datatype.{typemap_of}
use Rattle.dt_unpack.proofs.Opening.{small_in_memory}
use Rattle.dt_unpack.proofs.session.first_cursor.Goals as goal

pub compile-requires-clause-close : goal.compile-requires-clause-close
compile-requires-clause-close c = inside_is_close (typemap_of c.args.ty.now) c.args.count c.args.buf_len c.args.origin c.bounds-bounds.ensures.in_range (omega (arith, c.requires.small)) c.requires.inside

pub compile-requires-clause-small : goal.compile-requires-clause-small
compile-requires-clause-small c = small_in_memory (typemap_of c.args.ty.now) c.args.count c.args.buf_len c.args.origin c.requires.small c.requires.inside c.requires.apart

pub returns-clause-value : goal.returns-clause-value
returns-clause-value c =
    let es = elements (typemap_of c.args.ty.now) c.args.count (pos 0) in
    c.new-2.ensures.start es (subst (λ code. StandsFor code es) (sym c.in_ok-new.ensures.ok) c.in_ok-program.ensures.stands)
