-- Blocks and parts are read exactly where their words spell them.
use Rattle.std.proofs.Common.{◌≡◌, ℕ, List, ◌∷◌, ◌++◌, Some, refl, ap, ◌∙◌}
use Rattle.dt_form.specs.declared.form.IntBlock.{IntBlock}
use Rattle.dt_form.specs.declared.form.AddrBlock.{AddrBlock}
use Rattle.dt_script.specs.declared.command.NamedPart.{NamedPart}
use Rattle.dt_script.specs.Item.{IsIntBlock, IsAddrBlock, IsPart}
use Rattle.dt_script.specs.Name.{name_of}
use Rattle.dt_script.specs.Number.{int_of, address_of}
use Rattle.dt_script.specs.Reading.{at_sign_cut, int_block_of, address_block_of, part_of}
use Rattle.dt_script.proofs.CutLemmas.{cut_sound, int_cut, address_cut}
use Rattle.dt_script.proofs.ReadingLemmas.{bind_some, from_some, name_some}

pub int_block_sound : (word : List ℕ) (block : IntBlock) → int_block_of word ≡ Some block → IsIntBlock word block
unfolding int_block_of
int_block_sound word block e =
    let (cut, at, t1) = bind_some (at_sign_cut word) _ block e in
    let (len, il, t2) = bind_some (int_of cut.0) _ block t1 in
    let (disp, id, t3) = bind_some (int_of cut.1) _ block t2 in
    let made : IntBlock = record { len = len; disp = disp } in
    from_some (λ b. IsIntBlock word b) made block t3 (cut.0, cut.1, cut_sound 64 word cut at, il, id)

pub int_block_complete : (word : List ℕ) (block : IntBlock) → IsIntBlock word block → int_block_of word ≡ Some block
unfolding int_block_of
int_block_complete word block (len, disp, at, il, id) = rw (at, int_cut 64 (refl, refl) len disp block.len il, il, id) refl

pub address_block_sound : (word : List ℕ) (block : AddrBlock) → address_block_of word ≡ Some block → IsAddrBlock word block
unfolding address_block_of
address_block_sound word block e =
    let (cut, at, t1) = bind_some (at_sign_cut word) _ block e in
    let (len, il, t2) = bind_some (int_of cut.0) _ block t1 in
    let (disp, id, t3) = bind_some (address_of cut.1) _ block t2 in
    let made : AddrBlock = record { len = len; disp = disp } in
    from_some (λ b. IsAddrBlock word b) made block t3 (cut.0, cut.1, cut_sound 64 word cut at, il, id)

pub address_block_complete : (word : List ℕ) (block : AddrBlock) → IsAddrBlock word block → address_block_of word ≡ Some block
unfolding address_block_of
address_block_complete word block (len, disp, at, il, id) = rw (at, int_cut 64 (refl, refl) len disp block.len il, il, id) refl

pub part_sound : (word : List ℕ) (part : NamedPart) → part_of word ≡ Some part → IsPart word part
unfolding part_of
part_sound word part e =
    let (cut, at, t1) = bind_some (at_sign_cut word) _ part e in
    let (len, il, t2) = bind_some (int_of cut.0) _ part t1 in
    let (pieces, behind, t3) = bind_some (at_sign_cut cut.1) _ part t2 in
    let (disp, id, t4) = bind_some (address_of pieces.0) _ part t3 in
    let (old, io, t5) = bind_some (name_of pieces.1) _ part t4 in
    let (same, name) = name_some pieces.1 old io in
    let made : NamedPart = record { len = len; disp = disp; old = old } in
    let word_is = cut_sound 64 word cut at ∙ ap (λ r. cut.0 ++ 64 ∷ r) (cut_sound 64 cut.1 pieces behind ∙ ap (λ r. pieces.0 ++ 64 ∷ r) same) in
    from_some (λ p. IsPart word p) made part t5 (cut.0, pieces.0, word_is, il, id, name)

pub part_complete : (word : List ℕ) (part : NamedPart) → IsPart word part → part_of word ≡ Some part
unfolding part_of
part_complete word part (len, disp, at, il, id, io) =
    rw (at, int_cut 64 (refl, refl) len (disp ++ 64 ∷ part.old) part.len il, il, address_cut 64 (refl, refl) disp part.old part.disp id, id, io) refl
