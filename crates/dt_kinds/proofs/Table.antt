-- the laws of the kind table
use Rattle.std.proofs.Common.{◌≡◌, ℕ, ◌≤◌, ◌<◌, inl, inr, Bool, true, false, cond, Option, Some, None, Ok, Err, List, [], ◌∷◌, refl, sym, ap, ◌∙◌, lit≤, lit<, codes, nat_eq}
use Rattle.std.proofs.lemmas.Slice.Eq.{bytes_eq-Decides}
use Rattle.std.proofs.lemmas.Map.Views.{Contains-from_any, list_any-from_Contains}
use Rattle.std.proofs.lemmas.Cmp.{nat_list_eq_equiv}
use Rattle.std.proofs.lemmas.Bool.{eqb-true}
use Rattle.std.specs.List.{Contains, find, list_any}
use Rattle.std.specs.Option.{ok_or}
use Rattle.std.specs.Str.{bytes_eq}
use Rattle.dt_kinds.specs.declared.kind.Kind.{Kind}
use Rattle.dt_kinds.specs.declared.kind.Kind.TheVariants.{Byte, LongLong}
use Rattle.dt_kinds.specs.declared.kind.KindFault.TheVariants.{Unsupported, Unknown}
use Rattle.dt_kinds.specs.Kind.{native_size, external_size, name_of}
use Rattle.dt_kinds.specs.Name.{kind_of, kind_in_table, is_left_out, is_long_long_int, Names, left_out, kinds}
use Rattle.dt_kinds.specs.Laws.{NamesAreRead, LeftOutIsUnsupported, NamesDiffer, SizesArePowers, ExternalIsNoLarger}

pub external_is_no_larger : ExternalIsNoLarger
external_is_no_larger Byte = lit≤ tt
external_is_no_larger _ = lit≤ tt

pub native_size-le : (kind : Kind) → native_size kind ≤ 8
native_size-le Byte = lit≤ tt
native_size-le _ = lit≤ tt

pub external_size-le : (kind : Kind) → external_size kind ≤ 8
external_size-le Byte = lit≤ tt
external_size-le _ = lit≤ tt

pub native_size-pos : (kind : Kind) → 0 < native_size kind
native_size-pos Byte = lit< tt
native_size-pos _ = lit< tt

pub external_size-pos : (kind : Kind) → 0 < external_size kind
external_size-pos Byte = lit< tt
external_size-pos _ = lit< tt

-- each kind's name is read as that kind, by computation
pub reads_name : (kind : Kind) → kind_of (name_of kind) ≡ Ok kind
unfolding is_left_out is_long_long_int kind_in_table
reads_name Byte = refl
reads_name _ = refl

reads_long_long_int : kind_of (codes "MPI_LONG_LONG_INT") ≡ Ok LongLong
unfolding is_left_out is_long_long_int kind_in_table
reads_long_long_int = refl

pub names_differ : NamesDiffer
names_differ a b same =
    let read : Ok a ≡ Ok b = sym (reads_name a) ∙ (ap kind_of same ∙ reads_name b) in
    cc

-- a word that is read as a kind names it
same_word : (a b : List ℕ) → bytes_eq a b ≡ true → a ≡ b
same_word a b e = (bytes_eq-Decides a b).0 e

found_passes : (p : Kind → Bool) (xs : List Kind) (kind : Kind) → find p xs ≡ Some kind → p kind ≡ true
found_passes p [] kind e = cc
found_passes p (x ∷ xs) kind e =
    (elim (p x) as (λ b. p x ≡ b → cond b (Some x) (find p xs) ≡ Some kind → p kind ≡ true) [
      | true ↦ λ h f. let same : x ≡ kind = cc in ap p (sym same) ∙ h
      | false ↦ λ h f. found_passes p xs kind f
    ]) refl e

read_as : (word : List ℕ) (kind : Kind) (left other : Bool) (found : Option Kind) →
    (other ≡ true → word ≡ codes "MPI_LONG_LONG_INT") → ((k : Kind) → found ≡ Some k → word ≡ name_of k) →
    cond left (Err Unsupported) (cond other (Ok LongLong) (ok_or found Unknown)) ≡ Ok kind → Names word kind
read_as word kind true other found second first e = cc
read_as word kind false true found second first e = inr (second refl, cc)
read_as word kind false false None second first e = cc
read_as word kind false false (Some k) second first e = let same : k ≡ kind = cc in inl (first k refl ∙ ap name_of same)

read_names : (word : List ℕ) (kind : Kind) → kind_of word ≡ Ok kind → Names word kind
unfolding is_long_long_int kind_in_table
read_names word kind e =
    read_as word kind (is_left_out word) (is_long_long_int word) (kind_in_table word)
    (λ h. same_word word (codes "MPI_LONG_LONG_INT") h)
    (λ k f. same_word word (name_of k) (found_passes (λ kind. bytes_eq word (name_of kind)) kinds k f))
    e

names_read : (word : List ℕ) (kind : Kind) → Names word kind → kind_of word ≡ Ok kind
names_read word kind (inl e) = ap kind_of e ∙ reads_name kind
names_read word kind (inr h) = ap kind_of h.0 ∙ (reads_long_long_int ∙ ap Ok (sym h.1))

pub names_are_read : NamesAreRead
names_are_read word kind = (read_names word kind, names_read word kind)

-- a word is unsupported exactly where it is left out
unsupported_as : (left other : Bool) (found : Option Kind) →
    cond left (Err Unsupported) (cond other (Ok LongLong) (ok_or found Unknown)) ≡ Err Unsupported → left ≡ true
unsupported_as true other found e = refl
unsupported_as false true found e = cc
unsupported_as false false None e = cc
unsupported_as false false (Some k) e = cc

refused : (word : List ℕ) → is_left_out word ≡ true → kind_of word ≡ Err Unsupported
refused word e = ap (λ b. cond b (Err Unsupported) (cond (is_long_long_int word) (Ok LongLong) (ok_or (kind_in_table word) Unknown))) e

pub left_out_is_unsupported : LeftOutIsUnsupported
unfolding is_left_out
left_out_is_unsupported word = (
  λ e. Contains-from_any {eq = bytes_eq} same_word word left_out (unsupported_as (is_left_out word) (is_long_long_int word) (kind_in_table word) e),
  λ h. refused word (list_any-from_Contains {eq = bytes_eq} nat_list_eq_equiv word left_out h),
)

-- sizes
is_size : (n : ℕ) → list_any (nat_eq n) (1 ∷ 2 ∷ 4 ∷ 8 ∷ []) ≡ true → Contains (1 ∷ 2 ∷ 4 ∷ 8 ∷ []) n
is_size n e = Contains-from_any {eq = nat_eq} eqb-true n (1 ∷ 2 ∷ 4 ∷ 8 ∷ []) e

native_size_is : (kind : Kind) → list_any (nat_eq (native_size kind)) (1 ∷ 2 ∷ 4 ∷ 8 ∷ []) ≡ true
native_size_is Byte = refl
native_size_is _ = refl

external_size_is : (kind : Kind) → list_any (nat_eq (external_size kind)) (1 ∷ 2 ∷ 4 ∷ 8 ∷ []) ≡ true
external_size_is Byte = refl
external_size_is _ = refl

pub sizes_are_powers : SizesArePowers
sizes_are_powers kind = (is_size (native_size kind) (native_size_is kind), is_size (external_size kind) (external_size_is kind))
