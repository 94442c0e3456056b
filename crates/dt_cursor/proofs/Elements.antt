-- The element at which frames stand.
use mir.Syntax.{w64}
use mir.Val.{to_z, of_z}
use Rattle.std.specs.Prelude.{◌≡◌, Some, nat_abs, ◌<◌, ◌^◌, List, [], ◌∷◌, slice_get}
use Rattle.std.proofs.Common.{sym, ap, ◌∙◌}
use Rattle.std.proofs.lemmas.Int.{to_z-of_z, fits_signed_from_abs}
use Rattle.dt_cursor.specs.declared.frames.Frame.{Frame}
use Rattle.dt_cursor.specs.Frames.{StandAt}
use Rattle.dt_cursor.proofs.Reading.{head_is}
use Rattle.dt_kinds.specs.declared.kind.Kind.{Kind}
use Rattle.dt_kinds.proofs.Table.{native_size-pos}
use Rattle.dt_layout.specs.Body.{one}
use Rattle.dt_layout.specs.declared.instr.Instr.{Instr}
use Rattle.dt_layout.specs.declared.instr.Instr.TheVariants as variants
use Rattle.dt_map.specs.declared.entry.Entry.{Entry}

same_kind : (k l : Kind) → variants.One k ≡ variants.One l → k ≡ l
same_kind k l e = cc

pub element_here : (code : List Instr) (frames : List Frame) (es : List Entry) (frame : Frame) (kind : Kind) → slice_get frames 0 ≡ Some frame → slice_get code frame.instr ≡ Some (variants.One kind)
    → StandAt code frames es → (let e : Entry = record { kind = kind; disp = to_z w64 (of_z w64 frame.base) } in Some e) ≡ slice_get es 0
element_here code [] es frame kind top got stand = cc
element_here code (f ∷ frames) es frame kind top got stand =
    let same : f ≡ frame = cc in
    let placed = stand.2 in
    let is = same_kind stand.0 kind (head_is code f.instr (one stand.0) f.base placed (variants.One kind) (ap (λ (g : Frame). slice_get code g.instr) same ∙ got)) in
    let near : nat_abs f.base < 2 ^ 63 = placed.offset (native_size-pos stand.0) in
    let back = to_z-of_z w64 f.base (fits_signed_from_abs w64 f.base near) in
    ap (λ x. (let e : Entry = record { kind = kind; disp = x } in Some e)) (ap (λ (g : Frame). to_z w64 (of_z w64 g.base)) (sym same) ∙ back)
    ∙ ap (λ k. (let e : Entry = record { kind = k; disp = f.base } in Some e)) (sym is)
    ∙ ap (λ s. slice_get s 0) (sym stand.5)
