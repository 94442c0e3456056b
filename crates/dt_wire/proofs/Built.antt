-- datatypes by their tags, and behind their four bytes
use Rattle.std.proofs.Common.{◌≡◌, inl, inr, ℕ, zero, suc, List, [], ◌∷◌, Ok, Err, IsErr, refl, sym, ap, subst, ◌∙◌, append-nil, arith}
use Rattle.std.specs.List.{AllByRecursion}
use Rattle.dt_form.specs.declared.envelope.Combiner.{Combiner}
use Rattle.dt_form.specs.declared.form.FormOf.{FormOf}
use Rattle.dt_form.specs.declared.form.FormOf.TheVariants as form
use Rattle.dt_form.specs.declared.form.PartOf.{PartOf}
use Rattle.dt_type.specs.Form.{result_of}
use Rattle.dt_type.specs.declared.datatype.Seen.{Seen}
use Rattle.dt_type.specs.declared.fault.CtorFault.{CtorFault}
use Rattle.dt_type.specs.declared.fault.CtorFault.TheVariants as ctor
use Rattle.dt_wire.specs.Building.{with_old, in_two, type_at, calls_of, calls_among, IsBuilt, IsFirstIn, IsReadAs}
use Rattle.dt_wire.specs.Fault.{IsText}
use Rattle.dt_wire.specs.Given.{Takes}
use Rattle.dt_wire.specs.Import.{IsFirstCause, IsImported, IsRefused, IsTaken, IsWhy, calls, told}
use Rattle.dt_wire.specs.Reading.{Bytes, Reader, bind, on_ok, item_at, map_at, list_at, counted_at, part_at, parts_at, behind, number_at, tag_in, zero_in, form_at, one_at, magic_at, text_at}
use Rattle.dt_wire.specs.Skipping.{skip_magic, skip_zeros}
use Rattle.dt_wire.specs.declared.args.Arguments.{Arguments}
use Rattle.dt_wire.specs.declared.stop.Stop.{Stop}
use Rattle.dt_wire.specs.declared.stop.Stop.TheVariants.{Bad, Refused}
use Rattle.dt_wire.proofs.Erasing.{pass_magic, pass_zeros}
use Rattle.dt_wire.proofs.Lefts.{read_by, stuck_at}
use Rattle.dt_wire.proofs.Made.{calls_result, calls_with_old, calls_of_parts, is_error, bind_wrong, map_wrong, map_same, ok_same, stop_map}
use Rattle.dt_wire.proofs.Readers.{bind_ok, bind_err}
use Rattle.dt_wire.proofs.Refused.{text_again}
use Rattle.dt_wire.proofs.Spells.{map_again}

-- arguments, and then an old type
module _ (args : Reader Arguments) (old : Reader Seen) (bytes : Bytes) where
  pub no_arguments : IsErr (args bytes) → IsErr (map_at result_of (in_two args old) bytes)
  unfolding bind
  no_arguments h = map_wrong result_of (in_two args old) bytes (bind_wrong args (λ a. map_at (with_old a) old) bytes h)

  pub behind_arguments : (a : Arguments) (after : Bytes) → args bytes ≡ Ok (a, after) → map_at result_of (in_two args old) bytes ≡ map_at result_of (map_at (with_old a) old) after
  behind_arguments a after e = map_same result_of (in_two args old) (map_at (with_old a) old) bytes after (ap (λ v. on_ok v (λ b. map_at (with_old b) old)) e)

  pub arguments_stop : (levels : ℕ) (stop : Stop) → Takes {A = Arguments} (Err stop) (args bytes) → IsBuilt (calls_of (suc levels)) (map_at result_of (in_two args old) bytes) (Err stop)
  arguments_stop levels Bad h = no_arguments h
  arguments_stop levels (Refused fault) h = inl h

pub old_stop : (levels : ℕ) (args : Reader Arguments) (old : Reader Seen) (a : Arguments) (bytes after : Bytes) (stop : Stop) → args bytes ≡ Ok (a, after) → IsBuilt (calls_of levels) (old after) (Err stop)
    → IsBuilt (calls_of (suc levels)) (map_at result_of (in_two args old) bytes) (Err stop)
old_stop levels args old a bytes after stop e h =
    subst (λ v. IsBuilt (calls_of (suc levels)) v (Err stop)) (sym (behind_arguments args old bytes a after e))
    (stop_map (λ (f : FormOf Seen). calls (suc levels) f) (calls_of (suc levels)) result_of (map_at (with_old a) old) after stop
    (λ f. ([], calls_result (suc levels) f ∙ sym (append-nil (calls (suc levels) f))))
    (stop_map (calls_of levels) (λ (f : FormOf Seen). calls (suc levels) f) (with_old a) old after stop (λ t. (with_old a t ∷ [], calls_with_old levels a t)) h))

pub both_read : (args : Reader Arguments) (old : Reader Seen) (a : Arguments) (bytes after rest : Bytes) (t : Seen) → args bytes ≡ Ok (a, after) → old after ≡ Ok (t, rest)
    → map_at result_of (in_two args old) bytes ≡ Ok (result_of (with_old a t), rest)
both_read args old a bytes after rest t e f =
    behind_arguments args old bytes a after e ∙ map_again result_of (map_at (with_old a) old) after rest (with_old a t) (map_again (with_old a) old after rest t f)

-- parts, and then their struct
pub all_parts_stop : (levels : ℕ) (r : Reader (List (PartOf Seen))) (bytes : Bytes) (stop : Stop) → IsBuilt (calls_among levels) (r bytes) (Err stop)
    → IsBuilt (calls_of (suc levels)) (map_at result_of (map_at (λ ps. form.Struct ps) r) bytes) (Err stop)
all_parts_stop levels r bytes stop h =
    stop_map (λ (f : FormOf Seen). calls (suc levels) f) (calls_of (suc levels)) result_of (map_at (λ ps. form.Struct ps) r) bytes stop
    (λ f. ([], calls_result (suc levels) f ∙ sym (append-nil (calls (suc levels) f))))
    (stop_map (calls_among levels) (λ (f : FormOf Seen). calls (suc levels) f) (λ ps. form.Struct ps) r bytes stop (λ ps. (form.Struct ps ∷ [], calls_of_parts levels ps)) h)

pub all_parts_read : (r : Reader (List (PartOf Seen))) (bytes rest : Bytes) (parts : List (PartOf Seen)) → r bytes ≡ Ok (parts, rest)
    → map_at result_of (map_at (λ ps. form.Struct ps) r) bytes ≡ Ok (result_of (form.Struct parts), rest)
all_parts_read r bytes rest parts e = map_again result_of (map_at (λ ps. form.Struct ps) r) bytes rest (form.Struct parts) (map_again (λ ps. form.Struct ps) r bytes rest parts e)

-- a tag
pub no_level : (levels : ℕ) (bytes : Bytes) → levels ≡ zero → IsErr (type_at levels bytes)
unfolding form_at
no_level zero bytes none = map_wrong result_of (form_at zero) bytes refl
no_level (suc levels) bytes none = absurd (omega (arith, none))

form_wrong : (less : ℕ) (bytes left : Bytes) → item_at (tag_in less) bytes ≡ Err left → IsErr (form_at (suc less) bytes)
unfolding form_at one_at
form_wrong less bytes left e = is_error _ left (bind_err (item_at (tag_in less)) _ bytes left e)

pub tag_wrong : (levels less : ℕ) (bytes left : Bytes) → levels ≡ suc less → item_at (tag_in less) bytes ≡ Err left → IsErr (type_at levels bytes)
tag_wrong levels less bytes left more e = subst (λ n. IsErr (type_at n bytes)) (sym more) (map_wrong result_of (form_at (suc less)) bytes (form_wrong less bytes left e))

form_tagged : (less : ℕ) (c : Combiner) (bytes rest : Bytes) → item_at (tag_in less) bytes ≡ Ok (c, rest) → form_at (suc less) bytes ≡ behind less (type_at less) c rest
unfolding form_at one_at
form_tagged less c bytes rest e = bind_ok (item_at (tag_in less)) _ bytes rest c e

pub tag_read : (levels less : ℕ) (c : Combiner) (bytes rest : Bytes) (answer : _) → levels ≡ suc less → item_at (tag_in less) bytes ≡ Ok (c, rest)
    → IsBuilt (calls_of (suc less)) (map_at result_of (behind less (type_at less) c) rest) answer → IsBuilt (calls_of levels) (type_at levels bytes) answer
tag_read levels less c bytes rest answer more e h =
    subst (λ n. IsBuilt (calls_of n) (type_at n bytes) answer) (sym more)
    (subst (λ v. IsBuilt (calls_of (suc less)) v answer) (sym (map_same result_of (form_at (suc less)) (behind less (type_at less) c) bytes rest (form_tagged less c bytes rest e))) h)

-- the parts of a struct
pub no_zeros : (levels : ℕ) (bytes left : Bytes) → levels ≡ zero → skip_zeros bytes ≡ Err left → IsErr (parts_at levels (type_at levels) bytes)
no_zeros zero bytes left none e = map_wrong _ (list_at (item_at zero_in) 4) bytes (is_error _ left (stuck_at (list_at (item_at zero_in) 4 bytes) left (pass_zeros bytes ∙ e)))
no_zeros (suc levels) bytes left none e = absurd (omega (arith, none))

pub four_zeros : (levels : ℕ) (bytes rest : Bytes) → levels ≡ zero → skip_zeros bytes ≡ Ok rest → parts_at levels (type_at levels) bytes ≡ Ok ([], rest)
four_zeros zero bytes rest none e =
    let h = read_by (list_at (item_at zero_in) 4 bytes) rest (pass_zeros bytes ∙ e) in
    map_again _ (list_at (item_at zero_in) 4) bytes rest h.0 h.1
four_zeros (suc levels) bytes rest none e = absurd (omega (arith, none))

parts_more : (levels less : ℕ) (old : Reader Seen) (bytes : Bytes) → levels ≡ suc less → parts_at levels old bytes ≡ counted_at (part_at old) bytes
parts_more levels less old bytes more = ap (λ n. parts_at n old bytes) more

pub no_number : (levels less : ℕ) (old : Reader Seen) (bytes left : Bytes) → levels ≡ suc less → number_at bytes ≡ Err left → IsErr (parts_at levels old bytes)
unfolding counted_at
no_number levels less old bytes left more e = is_error _ left (parts_more levels less old bytes more ∙ bind_err number_at _ bytes left e)

pub number_parts : (levels less n : ℕ) (old : Reader Seen) (bytes rest : Bytes) → levels ≡ suc less → number_at bytes ≡ Ok (n, rest) → parts_at levels old bytes ≡ list_at (part_at old) n rest
unfolding counted_at
number_parts levels less n old bytes rest more e = parts_more levels less old bytes more ∙ bind_ok number_at _ bytes rest n e

-- four bytes
pub no_magic : (bytes left : Bytes) → skip_magic bytes ≡ Err left → IsErr (map_at result_of text_at bytes)
unfolding text_at
no_magic bytes left e = map_wrong result_of _ bytes (bind_wrong magic_at _ bytes (is_error _ left (stuck_at (magic_at bytes) left (pass_magic bytes ∙ e))))

pub behind_magic : (bytes rest : Bytes) → skip_magic bytes ≡ Ok rest → map_at result_of text_at bytes ≡ type_at 64 rest
unfolding text_at
behind_magic bytes rest e =
    let h = read_by (magic_at bytes) rest (pass_magic bytes ∙ e) in
    map_same result_of _ (form_at 64) bytes rest (bind_ok magic_at _ bytes rest h.0 h.1)

-- a whole text
whole_text : (bytes : Bytes) (h : IsText bytes) → map_at result_of text_at bytes ≡ Ok (result_of h.0, [])
whole_text bytes h =
    map_again result_of text_at bytes [] h.0 (ap text_at (sym (append-nil bytes)) ∙ text_again bytes [] h.0 h.1)

pub text_made : (bytes rest : Bytes) (t : Seen) → IsText bytes → IsReadAs (calls_of 64) (map_at result_of text_at bytes) t rest → IsImported bytes t
text_made bytes rest t h read =
    let whole = whole_text bytes h in
    let same : t ≡ result_of h.0 = (ok_same (map_at result_of text_at bytes) t (result_of h.0) rest [] read.is whole).0 in
    record {
      form = h.0;
      text = h.1;
      taken = subst (λ fs. AllByRecursion IsTaken fs) (ap (calls_of 64) same ∙ calls_result 64 h.0) read.taken;
      value = same;
    }

why : (bytes : Bytes) (fault : CtorFault) → IsRefused bytes fault → IsWhy bytes (told fault)
why bytes ctor.BadArgument h = h
why bytes ctor.Overflow h = h
why bytes ctor.TooDeep h = h
why bytes ctor.TooHeavy h = h
why bytes ctor.NoMemory h = tt

pub text_refused : (bytes : Bytes) (fault : CtorFault) → IsText bytes → IsFirstIn (calls_of 64) (map_at result_of text_at bytes) fault → IsWhy bytes (told fault)
text_refused bytes fault h (inl none) = subst (λ f. IsWhy bytes (told f)) (sym none) tt
text_refused bytes fault h (inr first) =
    why bytes fault (record {
      form = h.0;
      text = h.1;
      first = subst (λ fs. IsFirstCause fs fault) (calls_result 64 h.0) (first (result_of h.0) [] (whole_text bytes h));
    })

pub text_not_bad : (bytes : Bytes) → IsText bytes → ¬ IsErr (map_at result_of text_at bytes)
text_not_bad bytes h wrong = let whole = whole_text bytes h in cc (whole, wrong)
