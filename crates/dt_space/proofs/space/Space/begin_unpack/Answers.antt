use Rattle.std.proofs.Common.{rules}
use Rattle.dt_space.specs.Fault.{unpack_fault}
use Rattle.dt_space.specs.Packing.{IsReady, IsUnpacking, IsUnpackRefusal}
use Rattle.dt_space.proofs.Packings.{err_so, refuses_at}
use Rattle.dt_space.proofs.space.Space.begin_unpack.Goals as goal

pub returns-in_err-begin : goal.returns-in_err-begin
returns-in_err-begin c =
    let s = c.args.self.now in
    let op = c.args.op in
    let fault = c.in_err-begin.field-0.0 in
    err_so c.from_residual-in_err-begin.result (unpack_fault fault) (λ session. IsReady s op (λ t. IsUnpacking op c.args.len t session)) (IsUnpackRefusal s op c.args.len)
    c.from_residual-in_err-begin.ensures.1 (refuses_at s op c.args.len c.in_ok-ty.ty c.begin.result c.unsigned_abs-count.result _ fault (search rules) (search rules) c.in_err-begin.was c.in_ok-ty.ensures c.begin.ensures.outside c.begin.ensures.overlap)
