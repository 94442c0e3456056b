-- what functions that pass over bytes answer, as what readers leave
use Rattle.std.proofs.Common.{◌≡◌, ℕ, zero, suc, ◌+◌, ◌*◌, ◌-◌, ◌<◌, ◌≤◌, List, [], ◌∷◌, ◌++◌, length, take, Result, Ok, Err, refl, sym, ap, subst, ◌∙◌, arith}
use Rattle.std.proofs.lemmas.List.{length-append}
use Rattle.std.specs.Int.{cast_signed}
use mir.Syntax.{w32, w64}
use Rattle.byteorder.specs.Endian.{big_number}
use Rattle.byteorder.specs.Numbers.{big_from-take}
use Rattle.dt_form.specs.declared.envelope.Combiner.{Combiner}
use Rattle.dt_wire.specs.Fault.{IsBadAt, IsText}
use Rattle.dt_wire.specs.Reading.{Bytes, Reader, bind, item_at, list_at, map_at, byte_in, number_at, int_at, address_at, tag_in, form_at, text_at}
use Rattle.dt_wire.specs.Skipping.{Skip, erased, times, skip, skip_items, skip_list, skip_part, skip_parts, skip_zeros, skip_layer}
use Rattle.dt_wire.proofs.Erasing.{left_by, left_list, skip_times, past_tag, no_tag}
use Rattle.dt_wire.proofs.Readers.{bind_err}
use Rattle.dt_wire.proofs.Numbers.{one, IsByte, byte_spells, flat_one}
use Rattle.dt_wire.proofs.Refused.{take_front, came_out, stopped, went_on}
use Rattle.dt_wire.proofs.Spells.{map_again, list_good}

-- what was read by a reader that left this
pub read_by : {A : Type 0} (e : Result (A × Bytes) Bytes) (rest : Bytes) → erased e ≡ Ok rest → (x : A) × (e ≡ Ok (x, rest))
read_by {A} (Ok x) rest e = let same : x.1 ≡ rest = cc in (x.0, ap (λ (r : Bytes). Ok (x.0, r)) same)
read_by (Err left) rest e = cc

pub stuck_at : {A : Type 0} (e : Result (A × Bytes) Bytes) (left : Bytes) → erased e ≡ Err left → e ≡ Err left
stuck_at (Ok x) left e = cc
stuck_at (Err other) left e = let same : other ≡ left = cc in ap (λ (r : Bytes). Err r) same

-- so many bytes
abbrev some_at : ℕ → Reader (List ℕ)
some_at n = list_at (item_at byte_in) n

record AreRead (n : ℕ) (bytes rest : Bytes) : Type 0 where
  read : List ℕ
  long : n ≤ length bytes
  goes : some_at n bytes ≡ Ok (read, rest)
  same : big_number n read ≡ big_number n bytes

bytes_read : (n : ℕ) (bytes rest : Bytes) → skip n bytes ≡ Ok rest → AreRead n bytes rest
unfolding skip bind
bytes_read n bytes rest e =
    let h = read_by (some_at n bytes) rest (left_list (item_at byte_in) n bytes ∙ e) in
    let took = (list_good one IsByte (item_at byte_in) byte_spells n).ok bytes rest h.0 h.1 in
    let whole : bytes ≡ h.0 ++ rest = took.whole ∙ ap (λ (t : Bytes). t ++ rest) (took.has.bytes ∙ flat_one h.0) in
    let count = took.has.count in
    let first : take n bytes ≡ h.0 = ap (take n) whole ∙ (ap (λ (k : ℕ). take k (h.0 ++ rest)) (sym count) ∙ take_front h.0 rest) in
    record {
      read = h.0;
      long = omega (arith, ap length whole, length-append h.0 rest, count);
      goes = h.1;
      same = ap (big_number n) (sym first) ∙ big_from-take 0 n n bytes (omega arith);
    }

-- numbers of 32 and of 64 bits
pub record IsRead {A : Type 0} (r : Reader A) (n : ℕ) (value : ℕ → A) (bytes rest : Bytes) : Type 0 where
  pub long : n ≤ length bytes
  pub number : r bytes ≡ Ok (value (big_number n bytes), rest)

number_by : {A : Type 0} (n : ℕ) (value : ℕ → A) (bytes rest : Bytes) → skip n bytes ≡ Ok rest → IsRead (map_at (λ xs. value (big_number n xs)) (some_at n)) n value bytes rest
number_by n value bytes rest e =
    let h = bytes_read n bytes rest e in
    record {
      long = h.long;
      number = map_again (λ xs. value (big_number n xs)) (some_at n) bytes rest h.read h.goes ∙ ap (λ (k : ℕ). Ok (value k, rest)) h.same;
    }

missing_by : {A : Type 0} (n : ℕ) (g : List ℕ → A) (bytes left : Bytes) → skip n bytes ≡ Err left → map_at g (some_at n) bytes ≡ Err left
unfolding skip map_at bind
missing_by n g bytes left e = bind_err (some_at n) _ bytes left (stuck_at (some_at n bytes) left (left_list (item_at byte_in) n bytes ∙ e))

pub number_read : (bytes rest : Bytes) → skip 4 bytes ≡ Ok rest → IsRead number_at 4 (λ n. n) bytes rest
unfolding number_at
number_read bytes rest e = number_by 4 (λ n. n) bytes rest e

pub number_missing : (bytes left : Bytes) → skip 4 bytes ≡ Err left → number_at bytes ≡ Err left
unfolding number_at
number_missing bytes left e = missing_by 4 (big_number 4) bytes left e

pub int_read : (bytes rest : Bytes) → skip 4 bytes ≡ Ok rest → IsRead int_at 4 (cast_signed w32) bytes rest
unfolding int_at
int_read bytes rest e = number_by 4 (cast_signed w32) bytes rest e

pub int_missing : (bytes left : Bytes) → skip 4 bytes ≡ Err left → int_at bytes ≡ Err left
unfolding int_at
int_missing bytes left e = missing_by 4 _ bytes left e

pub address_read : (bytes rest : Bytes) → skip 8 bytes ≡ Ok rest → IsRead address_at 8 (cast_signed w64) bytes rest
unfolding address_at
address_read bytes rest e = number_by 8 (cast_signed w64) bytes rest e

pub address_missing : (bytes left : Bytes) → skip 8 bytes ≡ Err left → address_at bytes ≡ Err left
unfolding address_at
address_missing bytes left e = missing_by 8 _ bytes left e

-- a list of items of one size
pub list_passed : (size n : ℕ) (bytes rest : Bytes) → number_at bytes ≡ Ok (n, rest) → skip_list (skip size) bytes ≡ skip (n * size) rest
unfolding skip_list
list_passed size n bytes rest e = ap (skip_items (skip size)) e ∙ skip_times size n rest

pub list_stuck : (f : Skip) (bytes left : Bytes) → number_at bytes ≡ Err left → skip_list f bytes ≡ Err left
unfolding skip_list
list_stuck f bytes left e = ap (skip_items f) e

pub list_as : (f : Skip) (n : ℕ) (bytes rest : Bytes) → number_at bytes ≡ Ok (n, rest) → skip_list f bytes ≡ times f n rest
unfolding skip_list
list_as f n bytes rest e = ap (skip_items f) e

-- a form, and the parts of a struct, by how many levels are left
pub no_form : (levels : ℕ) (bytes : Bytes) → levels ≡ zero → erased (form_at levels bytes) ≡ Err bytes
unfolding form_at
no_form zero bytes none = refl
no_form (suc levels) bytes none = absurd (omega (arith, none))

pub form_stuck : (levels less : ℕ) (bytes left : Bytes) → levels ≡ suc less → item_at (tag_in less) bytes ≡ Err left → erased (form_at levels bytes) ≡ Err left
form_stuck levels less bytes left more e = ap (λ (n : ℕ). erased (form_at n bytes)) more ∙ no_tag less bytes left e

pub form_passed : (levels less : ℕ) (c : Combiner) (bytes rest : Bytes) → levels ≡ suc less → item_at (tag_in less) bytes ≡ Ok (c, rest)
    → erased (form_at levels bytes) ≡ skip_layer less (left_by (form_at less)) c rest
form_passed levels less c bytes rest more e = ap (λ (n : ℕ). erased (form_at n bytes)) more ∙ past_tag less c bytes rest e

pub no_parts : (levels : ℕ) (f : Skip) (bytes : Bytes) → levels ≡ zero → skip_parts levels f bytes ≡ skip_zeros bytes
unfolding skip_parts
no_parts zero f bytes none = refl
no_parts (suc levels) f bytes none = absurd (omega (arith, none))

pub parts_list : (levels less : ℕ) (f : Skip) (bytes : Bytes) → levels ≡ suc less → skip_parts levels f bytes ≡ skip_list (skip_part f) bytes
unfolding skip_parts
parts_list levels less f bytes more = ap (λ (n : ℕ). skip_parts n f bytes) more

-- what a whole text leaves
pub text_read : (bytes left : Bytes) → erased (text_at bytes) ≡ Ok left → length left ≡ 0 → IsText bytes
text_read bytes [] e none = let h = read_by (text_at bytes) [] e in (h.0, came_out bytes h.0 h.1)
text_read bytes (b ∷ more) e none = absurd (omega (arith, none))

pub record IsPlace (bytes left : Bytes) : Type 0 where
  pub within : length left ≤ length bytes
  pub bad : IsBadAt bytes (length bytes - length left)

place : (bytes left : Bytes) → (at : ℕ) × IsBadAt bytes at × (length bytes ≡ at + length left) → IsPlace bytes left
place bytes left h =
    let long = h.2 in
    let same : h.0 ≡ length bytes - length left = omega (arith, long) in
    record { within = omega (arith, long); bad = subst (λ (at : ℕ). IsBadAt bytes at) same h.1 }

pub text_stuck : (bytes left : Bytes) → erased (text_at bytes) ≡ Err left → IsPlace bytes left
text_stuck bytes left e = place bytes left (stopped bytes left (stuck_at (text_at bytes) left e))

pub text_goes_on : (bytes left : Bytes) → erased (text_at bytes) ≡ Ok left → 0 < length left → IsPlace bytes left
text_goes_on bytes [] e some = absurd (omega (arith, some))
text_goes_on bytes (b ∷ more) e some = let h = read_by (text_at bytes) (b ∷ more) e in place bytes (b ∷ more) (went_on bytes more b h.0 h.1)
