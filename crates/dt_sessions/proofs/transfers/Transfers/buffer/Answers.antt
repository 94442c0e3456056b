use Rattle.std.proofs.Common.{◌≡◌, Some, subst}
use Rattle.std.specs.BTreeMap.{is_at}
use Rattle.std.specs.Cmp.Lexicographic.{slice_cmp}
use Rattle.std.specs.Ordering.{nat_cmp}
use Rattle.dt_names.specs.Names.{under}
use Rattle.dt_sessions.specs.Open.{Standing, IsSmall}
use Rattle.dt_sessions.proofs.OpenLemmas.{each_found}
use Rattle.dt_sessions.proofs.transfers.Transfers.buffer.Goals as goal

pub returns : goal.returns
returns c =
    let at = c.in_ok-bytes.ensures in (
      subst (λ (s : Standing). under c.args.name.now s.buffers ≡ Some c.in_ok-bytes.bytes.now) c.self.view_is at,
      each_found IsSmall (is_at (slice_cmp nat_cmp c.args.name.now)) c.self.inside.buffers c.in_ok-bytes.bytes.now c.self.invariant.small at,
    )
