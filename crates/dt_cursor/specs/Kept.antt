-- The elements of a program, kept beside it.
use Rattle.std.specs.Prelude.{◌≡◌, ℕ, List}
use Rattle.std.specs.Coded.{Coded, Coded-set, coded_list}
use Rattle.std.proofs.Common.{ap, subst}
use Rattle.std.proofs.Math.Logic.{∥∥₁_elim}
use Rattle.dt_cursor.specs.declared.frames.Frame.{Frame}
use Rattle.dt_cursor.specs.Search.{IsFound}
use Rattle.dt_kinds.specs.declared.kind.Rep.{Rep}
use Rattle.dt_layout.specs.declared.instr.Instr.{Instr}
use Rattle.dt_layout.specs.Program.{StandsFor}
use Rattle.dt_layout.proofs.OneBody.{stands_for_one}
use Rattle.dt_map.specs.declared.entry.Entry.{Entry}
use Rattle.dt_map.specs.Packed.{total}
use Rattle.dt_map.specs.contracts.entry.Entry as row

-- the elements that a program stands for, of which there is one list
abbrev pub ElementsOf : List Instr → Type 0
ElementsOf code = (es : List Entry) × ∥ StandsFor code es ∥₁

pub ElementsOf-prop : (code : List Instr) → IsProp (ElementsOf code)
ElementsOf-prop code a b =
    let entries : Coded (List Entry) = coded_list row.the_row.coded in
    let same : a.0 ≡ b.0 = ∥∥₁_elim a.1 (Coded-set entries a.0 b.0) (λ p. ∥∥₁_elim b.1 (Coded-set entries a.0 b.0) (λ q. stands_for_one code a.0 b.0 p q)) in
    subst (λ fs. (q : ∥ StandsFor code fs ∥₁) → a ≡ (fs, q)) same (λ q. ap (λ p. (let t : ElementsOf code = (a.0, p) in t)) (squash₁ a.1 q)) b.1

-- frames over a program stand at a packed byte of its elements, of which so many bytes lie before in the same element
pub record Stand (code : List Instr) (es : List Entry) (rep : Rep) (bytes position : ℕ) (frames : List Frame) (held : ℕ) : Type 0 where
  pub stands : StandsFor code es
  pub bytes_are : bytes ≡ total rep es
  pub found : IsFound code rep es position frames held
