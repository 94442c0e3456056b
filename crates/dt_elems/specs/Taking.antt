use Rattle.std.specs.Prelude.{Option, Some, None, ℕ, ◌+◌, Bool, true, not, cond, List, [], ◌∷◌, ◌++◌, take, drop, nat_abs, replicate}
use Rattle.std.specs.List.{list_any}
use Rattle.dt_kinds.specs.Kind.{native_size}
use Rattle.dt_map.specs.declared.entry.Entry.{Entry}

-- A set of bytes of a buffer, as a mark for each: those that elements were found on so far.

-- whether so many bytes are all free
abbrev pub are_free : List Bool → ℕ → ℕ → Bool
are_free taken start size = not (list_any (λ b. b) (take size (drop start taken)))

-- so many bytes more
abbrev pub with_bytes : List Bool → ℕ → ℕ → List Bool
with_bytes taken start size = take start taken ++ (replicate size true ++ drop (start + size) taken)

-- the bytes of elements more, one element after another, each of which finds its bytes free; none where one doesn't
abbrev pub with_elements : List Bool → List Entry → Option (List Bool)
with_elements taken [] = Some taken
with_elements taken (e ∷ es) =
    cond (are_free taken (nat_abs e.disp) (native_size e.kind)) (with_elements (with_bytes taken (nat_abs e.disp) (native_size e.kind)) es) None
