-- The words of reductions are read exactly where they are spelled so.
use Rattle.std.proofs.Common.{◌≡◌, ℕ, List, Some, refl, codes}
use Rattle.dt_script.specs.declared.command.How.{How}
use Rattle.dt_script.specs.declared.command.How.TheVariants.{Halves, Left}
use Rattle.dt_script.specs.declared.command.Op.{Op}
use Rattle.dt_script.specs.declared.command.Op.TheVariants.{Sum, Prod, Min, Max, And, Or, Xor, First, Last}
use Rattle.dt_script.specs.Item.{IsOp, IsHow}
use Rattle.dt_script.specs.Reduction.{op_of, how_of}
use Rattle.dt_script.proofs.ArrayLemmas.{spelled}

pub op_sound : (word : List ℕ) (op : Op) → op_of word ≡ Some op → IsOp word op
op_sound word op e =
    spelled IsOp (codes "sum") word Sum _ op refl e (λ e.
    spelled IsOp (codes "prod") word Prod _ op refl e (λ e.
    spelled IsOp (codes "min") word Min _ op refl e (λ e.
    spelled IsOp (codes "max") word Max _ op refl e (λ e.
    spelled IsOp (codes "and") word And _ op refl e (λ e.
    spelled IsOp (codes "or") word Or _ op refl e (λ e.
    spelled IsOp (codes "xor") word Xor _ op refl e (λ e.
    spelled IsOp (codes "first") word First _ op refl e (λ e.
    spelled IsOp (codes "last") word Last _ op refl e (λ e.
    cc)))))))))

pub op_complete : (word : List ℕ) (op : Op) → IsOp word op → op_of word ≡ Some op
op_complete word Sum at = rw at refl
op_complete word Prod at = rw at refl
op_complete word Min at = rw at refl
op_complete word Max at = rw at refl
op_complete word And at = rw at refl
op_complete word Or at = rw at refl
op_complete word Xor at = rw at refl
op_complete word First at = rw at refl
op_complete word Last at = rw at refl

pub how_sound : (word : List ℕ) (how : How) → how_of word ≡ Some how → IsHow word how
how_sound word how e =
    spelled IsHow (codes "halves") word Halves _ how refl e (λ e.
    spelled IsHow (codes "left") word Left _ how refl e (λ e.
    cc))

pub how_complete : (word : List ℕ) (how : How) → IsHow word how → how_of word ≡ Some how
how_complete word Halves at = rw at refl
how_complete word Left at = rw at refl
