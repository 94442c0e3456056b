use Rattle.std.proofs.Common.{rules, ◌≡◌, Err, sym, subst}
use Rattle.std.specs.Prelude.{MatchOption}
use Rattle.dt_type.specs.Form.{result_of}
use Rattle.dt_wire.specs.Building.{calls_of, IsBuilt}
use Rattle.dt_wire.specs.Fault.{IsBadAt, IsText}
use Rattle.dt_wire.specs.Import.{IsWhy, told}
use Rattle.dt_wire.specs.Reading.{map_at, text_at}
use Rattle.dt_wire.proofs.Built.{text_made, text_refused, text_not_bad}
use Rattle.dt_wire.proofs.building.import.Goals as goal

pub unreachable-requires : goal.unreachable-requires
unreachable-requires c =
    let text = subst (λ o. MatchOption o (IsText c.args.bytes.now) (λ at. IsBadAt c.args.bytes.now at)) c.in_default.is c.first_bad.ensures in
    let wrong = subst (λ s. IsBuilt (calls_of 64) (map_at result_of text_at c.args.bytes.now) (Err s)) c.in-Err-Bad.field-0-is c.in-Err-Bad.ensures in
    text_not_bad c.args.bytes.now text wrong

pub returns-in-Ok : goal.returns-in-Ok
returns-in-Ok c =
    let text = subst (λ o. MatchOption o (IsText c.args.bytes.now) (λ at. IsBadAt c.args.bytes.now at)) c.in_default.is c.first_bad.ensures in
    text_made c.args.bytes.now c.in-Ok._behind.now c.in-Ok.datatype text c.in-Ok.ensures

pub returns-in-Err-Refused : goal.returns-in-Err-Refused
returns-in-Err-Refused c =
    let text = subst (λ o. MatchOption o (IsText c.args.bytes.now) (λ at. IsBadAt c.args.bytes.now at)) c.in_default.is c.first_bad.ensures in
    let first = subst (λ s. IsBuilt (calls_of 64) (map_at result_of text_at c.args.bytes.now) (Err s)) c.in-Err-Refused.field-0-is c.in-Err-Refused.ensures in
    let why : c.from.result ≡ told c.in-Err-Refused.fault = search rules in
    subst (IsWhy c.args.bytes.now) (sym why) (text_refused c.args.bytes.now c.in-Err-Refused.fault text first)
