-- Rows that come next of a walk that stands between two elements are the next elements.
use Rattle.std.proofs.Common.{◌≡◌, ℕ, zero, suc, ◌+◌, ◌*◌, ◌^◌, ◌<◌, ◌≤◌, inl, inr, true, ℤ, pos, List, [], ◌∷◌, ◌++◌, take, drop, length, refl, sym, ap, subst, ◌∙◌, lit≤, arith, length-append, length-drop}
use Rattle.std.proofs.lemmas.Bool.{cases_lt}
use Rattle.std.proofs.lemmas.List.{take_at, take-append-drop}
use Rattle.std.proofs.lemmas.List.Sums.{sum_by-cons}
use Rattle.std.proofs.lemmas.Nat.{mul-le}
use Rattle.dt_cursor.specs.Walk.{Walk, AreNext}
use Rattle.dt_elems.proofs.Clashes.{overlaps_from_size}
use Rattle.dt_kinds.specs.declared.kind.Kind.{Kind}
use Rattle.dt_kinds.specs.declared.kind.Kind.TheVariants.{Byte}
use Rattle.dt_kinds.specs.declared.kind.Rep.{Rep}
use Rattle.dt_kinds.specs.declared.kind.Rep.TheVariants.{Native}
use Rattle.dt_kinds.specs.Kind.{native_size, packed_size}
use Rattle.dt_kinds.proofs.Table.{native_size-pos}
use Rattle.dt_map.specs.declared.entry.Entry.{Entry}
use Rattle.dt_map.specs.Elements.{elements, are_inside, Overlaps}
use Rattle.dt_map.specs.Packed.{total}
use Rattle.dt_map.specs.Typemap.{Marked, shift}
use Rattle.dt_map.proofs.Copies.{total-append, total-shift}
use Rattle.dt_reduce.specs.Paired.{Paired, ArePaired, StandsBehind, AreNextRows, next_of}
use Rattle.dt_reduce.proofs.Uniform.{AreOf, of_rows, length-rows}
use Rattle.dt_rows.specs.declared.rows.Rows.{Rows}
use Rattle.dt_rows.specs.Rows.{elements_of_rows, AreRows, bytes_in}
use Rattle.dt_rows.proofs.Operation.{placed_elements}
use Rattle.dt_rows.proofs.Packing.{some_elements}
use Rattle.dt_rows.proofs.SettingRows.{two_pieces}
use Rattle.dt_rows.proofs.Totals.{total_of_rows}

total-cons : (e : Entry) (es : List Entry) → total Native (e ∷ es) ≡ native_size e.kind + total Native es
total-cons e es = sum_by-cons (λ (f : Entry). packed_size Native f.kind) e es

pub small_size : (kind : Kind) → native_size kind ≤ 8
small_size Byte = lit≤ tt
small_size _ = lit≤ tt

-- no more elements than bytes
pub few_elements : (es : List Entry) → length es ≤ total Native es
few_elements [] = omega arith
few_elements (e ∷ es) = let rest = few_elements es in let here = native_size-pos e.kind in omega (arith, rest, here, total-cons e es)

-- a place within the first k elements, in the one behind `before`, is the place behind them
record IsBoundary (before here : List Entry) (k skip : ℕ) : Type 0 where
  none : skip ≡ 0
  first : before ≡ take k (before ++ here)
  last : here ≡ drop k (before ++ here)
  count : k ≡ length before

boundary : (before : List Entry) (h : Entry) (t : List Entry) (k skip : ℕ) → total Native (take k (before ++ h ∷ t)) ≡ total Native before + skip → skip < native_size h.kind
    → IsBoundary before (h ∷ t) k skip
boundary [] h t zero skip place less = record { none = omega (arith, place); first = refl; last = refl; count = refl }
boundary [] h t (suc k) skip place less = absurd (omega (arith, place, less, total-cons h (take k t)))
boundary (b ∷ bs) h t zero skip place less = let some = native_size-pos b.kind in absurd (omega (arith, place, some, total-cons b bs))
boundary (b ∷ bs) h t (suc k) skip place less =
    let rest = boundary bs h t k skip (omega (arith, place, total-cons b (take k (bs ++ h ∷ t)), total-cons b bs)) less in
    record { none = rest.none; first = ap (λ es. b ∷ es) rest.first; last = rest.last; count = ap suc rest.count }

boundary_of : (before here after : List Entry) (kind : Kind) (k skip : ℕ) → AreOf kind here → 0 < length here → total Native (take k (before ++ (here ++ after))) ≡ total Native before + skip
    → skip < native_size kind → IsBoundary before (here ++ after) k skip
boundary_of before [] after kind k skip all some place less = absurd (omega (arith, some))
boundary_of before (h ∷ t) after kind k skip all some place less = boundary before h (t ++ after) k skip place (subst (λ n. skip < native_size n) (sym all.0) less)

-- rows with all bytes of their elements
abbrev pub whole_of : Rows → Rows
whole_of r =
    record {
      run = record { kind = r.run.kind; disp = r.run.disp; elements = r.run.elements; skip = 0; bytes = r.run.elements * native_size r.run.kind };
      rows = r.rows;
      step = r.step;
    }

pub whole_shape : (r : Rows) → AreRows Native r → AreRows Native (whole_of r)
whole_shape r shape =
    let size = native_size-pos r.run.kind in
    let some = some_elements Native r.run shape.run in
    let least = mul-le 1 1 r.run.elements (native_size r.run.kind) some size in
    record {
      some = shape.some;
      run = record { some = omega (arith, least); skip = size; within = omega arith; each = omega (arith, size) };
      whole = λ many. (refl, refl);
    }

-- the elements of rows have at most seven bytes more than the rows name
pub few_whole : (r : Rows) (most : ℕ) → AreRows Native r → bytes_in r ≤ most → r.run.skip ≡ 0 → bytes_in (whole_of r) ≤ most + 8
few_whole r most shape few none =
    let w = r.run.elements * native_size r.run.kind in
    elim (cases_lt 1 r.rows) [
      | inl many ↦ (let same = ap (λ n. r.rows * n) (shape.whole many).1 in omega (arith, few, same))
      | inr one ↦
          let some = shape.some in
          let single : r.rows ≡ 1 = omega (arith, one, some) in
          let named : bytes_in r ≡ 1 * r.run.bytes = ap (λ n. n * r.run.bytes) single in
          let all : r.rows * w ≡ 1 * w = ap (λ n. n * w) single in
          let each = shape.run.each in
          let size = small_size r.run.kind in
          omega (arith, few, none, named, all, each, size)
    ]

-- the bytes of the elements of one row are few, where those that are named are
pub few_each : (r : Rows) (most : ℕ) → AreRows Native r → bytes_in r ≤ most → r.run.elements * native_size r.run.kind ≤ most + 16
few_each r most shape few =
    let named = mul-le 1 r.run.bytes r.rows r.run.bytes shape.some (omega arith) in
    let each = shape.run.each in
    let skip = shape.run.skip in
    let size = small_size r.run.kind in
    omega (arith, few, named, each, skip, size)

-- elements that don't overlap have no more bytes than the buffer in which they lie
pub few_in_memory : (len : ℕ) (x : ℤ) (es : List Entry) → are_inside len (shift x es) ≡ true → (Overlaps (shift x es) → ⊥) → total Native es ≤ len
few_in_memory len x es inside apart =
    let moved = total-shift Native x es in
    elim (cases_lt len (total Native (shift x es))) [
      | inl more ↦ absurd (apart (overlaps_from_size len (shift x es) inside more))
      | inr few ↦ omega (arith, few, moved)
    ]

pub small_in_memory : (m : Marked) (count len : ℕ) (origin : ℤ) → len ≤ 16777216 → are_inside len (elements m count origin) ≡ true → (Overlaps (elements m count origin) → ⊥)
    → total Native (elements m count (pos 0)) ≤ 2 ^ 62
small_in_memory m count len origin small inside apart =
    let placed = placed_elements m count origin in
    let few = few_in_memory len origin (elements m count (pos 0)) (ap (are_inside len) placed ∙ inside) (λ over. apart (subst Overlaps placed over)) in
    omega (arith, few, small)

pub few_of : (p : Paired) → ArePaired p → total Native p.elements ≤ 16777216
few_of p are = let few = few_in_memory p.target_len p.target_origin p.elements are.target are.apart in let small = are.target_small in omega (arith, few, small)

-- what rows that come next are
pub record Names (p : Paired) (r : Rows) : Type 0 where
  pub none : r.run.skip ≡ 0
  pub next : AreNextRows p (whole_of r)
  pub place : total Native (take (p.done + r.rows * r.run.elements) p.elements) ≡ total Native (take p.done p.elements) + bytes_in (whole_of r)
  pub to_come : total Native (take p.done p.elements) + bytes_in (whole_of r) ≤ total Native p.elements
  pub some : 0 < r.rows * r.run.elements

pub names_next : (p : Paired) (w : Walk) (r : Rows) → w.elements ≡ p.elements → StandsBehind p w.rep w.position → AreNext w r → AreRows Native r → Names p r
names_next p w r same stands next shape =
    let n = r.rows * r.run.elements in
    let here = elements_of_rows r in
    let all : p.elements ≡ next.before ++ (here ++ next.after) = sym same ∙ next.all in
    let long = length-rows r in
    let count = mul-le 1 1 r.rows r.run.elements shape.some (some_elements Native r.run shape.run) in
    let place : total Native (take p.done (next.before ++ (here ++ next.after))) ≡ total Native next.before + r.run.skip =
    ap (λ es. total Native (take p.done es)) (sym all) ∙ sym stands.place ∙ next.place ∙ ap (λ rep. total rep next.before + r.run.skip) stands.native in
    let b = boundary_of next.before here next.after r.run.kind p.done r.run.skip (of_rows r) (omega (arith, long, count)) place shape.run.skip in
    let rest : drop p.done p.elements ≡ here ++ next.after = ap (drop p.done) all ∙ sym b.last in
    let named : here ≡ next_of p n p.elements = sym (take_at here next.after n long) ∙ ap (take n) (sym rest) in
    let behind = b.count in
    let sizes = ap length all in
    let bytes = total_of_rows Native r in
    let later : total Native (take (p.done + n) p.elements) ≡ total Native (take p.done p.elements) + bytes_in (whole_of r) =
    ap (total Native) (sym (two_pieces p.elements p.done n)) ∙ total-append Native (take p.done p.elements) (take n (drop p.done p.elements))
    ∙ ap (λ es. total Native (take p.done p.elements) + total Native es) (sym named) ∙ ap (λ k. total Native (take p.done p.elements) + k) bytes in
    let parts = ap (total Native) (sym (take-append-drop (p.done + n) p.elements)) ∙ total-append Native (take (p.done + n) p.elements) (drop (p.done + n) p.elements) in
    record {
      none = b.none;
      next = record {
        shape = whole_shape r shape;
        whole = (refl, refl);
        all = named;
        within = omega (arith, behind, sizes, long, length-append next.before (here ++ next.after), length-append here next.after);
      };
      place = later;
      to_come = omega (arith, later, parts);
      some = omega (arith, count);
    }

-- where all bytes were passed, all elements were
pub all_passed : (es : List Entry) (k : ℕ) → k ≤ length es → total Native (take k es) ≡ total Native es → k ≡ length es
all_passed es k within same =
    let parts = ap (total Native) (sym (take-append-drop k es)) ∙ total-append Native (take k es) (drop k es) in
    let few = few_elements (drop k es) in
    omega (arith, within, same, parts, few, length-drop k es)

-- what holds of elements that were passed by a walk
pub kept_on : (p : Paired) (es : List Entry) (n : ℕ) (rep : Rep) (position : ℕ) → es ≡ p.elements → ArePaired p → p.done + n ≤ length p.elements → rep ≡ Native
    → position ≡ total Native (take (p.done + n) p.elements)
    → let q : Paired = record { elements = es; source_origin = p.source_origin; source_len = p.source_len; target_origin = p.target_origin; target_len = p.target_len; done = p.done + n } in
    ArePaired q × StandsBehind q rep position
kept_on p es n rep position same are within native place =
    let at : List Entry → Paired = λ fs. record { elements = fs; source_origin = p.source_origin; source_len = p.source_len; target_origin = p.target_origin; target_len = p.target_len; done = p.done + n } in
    subst (λ fs. ArePaired (at fs) × StandsBehind (at fs) rep position) (sym same) (
      record { source = are.source; target = are.target; apart = are.apart; source_small = are.source_small; target_small = are.target_small; within = within },
      record { native = native; place = place },
    )

-- what rows come to that a walk names
pub record Passes (p : Paired) (r whole : Rows) : Type 0 where
  pub names : Names p r
  pub is : whole ≡ whole_of r
  pub next : AreNextRows p whole
  pub few : bytes_in whole ≤ 4104
  pub place : total Native (take (p.done + whole.rows * whole.run.elements) p.elements) ≡ total Native (take p.done p.elements) + bytes_in whole
  pub to_come : total Native (take p.done p.elements) + bytes_in whole ≤ total Native p.elements
  pub within : p.done + whole.rows * whole.run.elements ≤ length p.elements
  pub small : total Native p.elements ≤ 16777216
  pub short : length p.elements ≤ 16777216

pub rows_pass : (p : Paired) (w : Walk) (r whole : Rows) → w.elements ≡ p.elements → ArePaired p → StandsBehind p w.rep w.position → AreNext w r → bytes_in r ≤ 4096 → whole ≡ whole_of r → Passes p r whole
rows_pass p w r whole same are stands next few is =
    let shape = subst (λ rep. AreRows rep r) stands.native next.shape in
    let names = names_next p w r same stands next shape in
    let small = few_of p are in
    let more = few_elements p.elements in
    let Is : Rows → Type 0 = λ v.
    AreNextRows p v × (bytes_in v ≤ 4104) × (total Native (take (p.done + v.rows * v.run.elements) p.elements) ≡ total Native (take p.done p.elements) + bytes_in v)
    × (total Native (take p.done p.elements) + bytes_in v ≤ total Native p.elements) × (p.done + v.rows * v.run.elements ≤ length p.elements) in
    let all : Is whole = subst Is (sym is) (names.next, few_whole r 4096 shape few names.none, names.place, names.to_come, names.next.within) in
    record { names = names; is = is; next = all.0; few = all.1; place = all.2; to_come = all.3; within = all.4; small = small; short = omega (arith, small, more) }
