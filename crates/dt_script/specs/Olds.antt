-- The words of a constructor that name old types.
use Rattle.std.specs.Prelude.{ℕ, Bool, List}
use Rattle.std.specs.List.{list_any}
use Rattle.dt_script.specs.declared.command.Ctor.{Ctor}
use Rattle.dt_script.specs.declared.command.Ctor.TheVariants.{Contiguous, Vector, Hvector, Indexed, Hindexed, IndexedBlock, HindexedBlock, Struct, Resized, Dup, Subarray, Darray}

-- whether a test holds of some word that names an old type
abbrev pub any_old : (List ℕ → Bool) → Ctor → Bool
any_old test (Contiguous count old) = test old
any_old test (Vector count block stride old) = test old
any_old test (Hvector count block stride old) = test old
any_old test (Indexed old blocks) = test old
any_old test (Hindexed old blocks) = test old
any_old test (IndexedBlock old block disps) = test old
any_old test (HindexedBlock old block disps) = test old
any_old test (Struct parts) = list_any (λ p. test p.old) parts
any_old test (Resized lb extent old) = test old
any_old test (Dup old) = test old
any_old test (Subarray order old dims) = test old
any_old test (Darray size rank order old dims) = test old
