use Rattle.std.specs.Prelude.{◌≡◌, Some, None, ℕ, suc, ◌*◌, ◌≤◌, ◌<◌, ◌↔◌, ℤ, length}
use Rattle.std.specs.List.{flat_map}
use Rattle.dt_kinds.specs.declared.kind.Rep.{Rep}
use Rattle.dt_offsets.specs.Offsets.{below}
use Rattle.dt_map.specs.Counts.{received_elements, whole_copies, received_copies}
use Rattle.dt_map.specs.Elements.{elements}
use Rattle.dt_map.specs.Packed.{total}
use Rattle.dt_map.specs.Setting.{done}
use Rattle.dt_map.specs.Typemap.{Marked}

-- the copies are the number that, times the bytes of one copy, is the received bytes; so they are undefined where there is none
abbrev pub CopiesAreWhole : Type 0
CopiesAreWhole = (one bytes c : ℕ) → 0 < one → (whole_copies one bytes ≡ Some c) ↔ (c * one ≡ bytes)

-- of a type of size 0 there are no elements, and no copies among no bytes; among some bytes the copies are undefined
abbrev pub NothingReceived : Type 0
NothingReceived =
    (rep : Rep) (m : Marked) (bytes : ℕ) → total rep m.entries ≡ 0 → (received_elements rep m bytes ≡ 0)
    × (received_copies rep m 0 ≡ Some 0) × (received_copies rep m (suc bytes) ≡ None)

-- a signature that is repeated more often has no more elements among the same bytes
abbrev pub RepeatedOften : Type 0
RepeatedOften =
    (rep : Rep) (m : Marked) (bytes times : ℕ) → bytes < times → done rep (flat_map (λ i. m.entries) (below times)) bytes ≡ received_elements rep m bytes

-- as long as bytes go to the elements of an operation, the received elements are those that they complete
abbrev pub ReceivedAreDone : Type 0
ReceivedAreDone =
    (rep : Rep) (m : Marked) (count bytes : ℕ) (origin : ℤ) → bytes ≤ total rep (elements m count origin)
    → done rep (elements m count origin) bytes ≡ received_elements rep m bytes

-- a count never falls when more bytes come
abbrev pub CountsNeverFall : Type 0
CountsNeverFall = (rep : Rep) (m : Marked) (bytes more : ℕ) → bytes ≤ more → received_elements rep m bytes ≤ received_elements rep m more

-- whole copies have all their elements
abbrev pub WholeCopiesHaveAll : Type 0
WholeCopiesHaveAll =
    (rep : Rep) (m : Marked) (bytes c : ℕ) → received_copies rep m bytes ≡ Some c → received_elements rep m bytes ≡ c * length m.entries
