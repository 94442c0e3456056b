use Rattle.std.proofs.Common.{inl, inr, ap, sym}
use Rattle.dt_cert.specs.Read.{certificate_in, version_of}
use Rattle.dt_verdict.proofs.migration.migrate.Goals as goal
use Rattle.dt_verdict.proofs.migration.migrate.Goals.{in-Segments+in_ok-now-in-Segments, in-Classes+in_ok-now-in-Classes}

pub returns : goal.returns
returns c =
    elim c.match-c.branch [
      | in-Segments+in_ok-now-in-Segments w ↦
          rw w.now-is
          (inr (inl (record {
            certificate = certificate_in c.in_ok-c.c;
            shown = c.in_ok-c.ensures;
            version = ap version_of w.in-Segments.is;
            now_shown = w.in_ok-now-in-Segments.ensures;
          })))
      | in-Classes+in_ok-now-in-Classes w ↦
          rw w.now-is
          (inr (inr (record {
            certificate = certificate_in c.in_ok-c.c;
            shown = c.in_ok-c.ensures;
            version = ap version_of w.in-Classes.is;
            same = w.in_ok-now-in-Classes.ensures.items_if_clones_equal (λ x y e. e);
          })))
    ]
