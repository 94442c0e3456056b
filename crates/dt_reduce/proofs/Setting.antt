-- All elements are set at once.
use Rattle.std.proofs.Common.{◌≡◌, ℕ, ◌+◌, ◌-◌, Bool, true, false, List, [], ◌∷◌, ◌++◌, take, drop, length, refl, sym, ap, subst, ◌∙◌, arith, append-nil}
use Rattle.std.proofs.lemmas.List.{take_all}
use Rattle.dt_cursor.specs.Search.{AreHeld}
use Rattle.dt_kinds.specs.declared.kind.Rep.TheVariants.{Native}
use Rattle.dt_kinds.proofs.Table.{native_size-pos}
use Rattle.dt_map.specs.declared.entry.Entry.{Entry}
use Rattle.dt_map.specs.Setting.{set_each}
use Rattle.dt_map.specs.Typemap.{shift}
use Rattle.dt_rows.proofs.SettingRows.{drop_none}
use Rattle.dt_unpack.specs.Session.{Session, placed, total_of, complete, complete_with, completed, buffer_after}
use Rattle.dt_unpack.proofs.Pieces.{done_at, set_completed}

none_held : (es : List Entry) → AreHeld Native 0 es
none_held [] = refl
none_held (e ∷ es) = native_size-pos e.kind

module _ (s : Session) (piece : List ℕ) (native : s.rep ≡ Native) (start : s.given ≡ 0) (all : length piece ≡ total_of s) where
  none_of : (es : List Entry) → AreHeld s.rep 0 es
  none_of es = subst (λ rep. AreHeld rep 0 es) (sym native) (none_held es)

  none_complete : complete s ≡ 0
  none_complete = done_at s.rep s.elements [] s.elements s.given 0 refl (omega (arith, start)) (none_of s.elements)

  all_complete : complete_with s piece ≡ length s.elements
  all_complete = done_at s.rep s.elements s.elements [] (s.given + length piece) 0 (sym (append-nil s.elements)) (omega (arith, start, all)) (none_of [])

  pub all_completed : completed s piece ≡ s.elements
  all_completed =
      ap (λ n. take (n - complete s) (drop (complete s) s.elements)) all_complete
      ∙ ap (λ n. take (length s.elements - n) (drop n s.elements)) none_complete
      ∙ ap (take (length s.elements - 0)) (drop_none s.elements) ∙ take_all (length s.elements - 0) s.elements (omega arith)

  pub all_set : (buffer : List ℕ) → s.held ≡ [] → buffer_after s buffer piece ≡ set_each Native (placed s) buffer piece
  all_set buffer held =
      set_completed s buffer piece
      ∙ ap (λ es. set_each s.rep (shift s.origin es) buffer (s.held ++ piece)) all_completed
      ∙ ap (λ h. set_each s.rep (placed s) buffer (h ++ piece)) held
      ∙ ap (λ rep. set_each rep (placed s) buffer piece) native

-- what isn't outside is inside
pub not_outside : (inside : Bool) → ((inside ≡ true → ⊥) → ⊥) → inside ≡ true
not_outside true within = refl
not_outside false within = absurd (within (λ e. cc e))
