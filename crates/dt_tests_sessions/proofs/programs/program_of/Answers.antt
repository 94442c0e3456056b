use Rattle.std.proofs.Common.{◌≡◌, ◌∙◌, true, pos, sym, arith, rules}
use Rattle.dt_type.specs.Datatype.{typemap_of}
use Rattle.dt_layout.proofs.Inside.{inside_is_close}
use Rattle.dt_tests_sessions.proofs.programs.program_of.Goals as goal

pub compile-requires-clause-close : goal.compile-requires-clause-close
compile-requires-clause-close c =
    let inside : c.span_inside.result ≡ true = search rules in
    inside_is_close (typemap_of c.args.ty.now) c.args.count 576460752303423488 (pos 288230376151711744) c.bounds-bounds.ensures.in_range (omega arith) (sym c.span_inside.ensures ∙ inside)
