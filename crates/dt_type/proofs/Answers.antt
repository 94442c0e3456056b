-- What is said of the answers of a constructor.
use Rattle.std.specs.Prelude.{◌≡◌, IsTrue, Result, MatchResult, IsErrOf}
use Rattle.std.proofs.Common.{sym, subst}
use Rattle.std.proofs.lemmas.Int.{to_z-of_z}
use Rattle.dt_map.specs.Typemap.{Marked}
use Rattle.dt_type.specs.declared.datatype.Seen.{Seen}
use Rattle.dt_type.specs.declared.fault.CtorFault.{CtorFault}
use Rattle.dt_type.specs.declared.fault.CtorFault.TheVariants.{BadArgument, Overflow, TooDeep, TooHeavy, NoMemory}
use Rattle.dt_form.specs.declared.form.FormOf.{FormOf}
use Rattle.dt_form.specs.Arguments.{takes_arguments}
use Rattle.dt_type.specs.Answer.{IsMade, IsCause}
use Rattle.dt_type.specs.Form.{map_by}
use Rattle.dt_type.specs.Measure.{IsRefusal}

-- the first limit that is passed is a cause, and want of memory is none
cause_of : (form : FormOf Seen) (fault : CtorFault) → IsTrue (takes_arguments form) → IsRefusal (map_by form) form fault → IsCause form fault
cause_of form BadArgument taken refusal = absurd refusal
cause_of form Overflow taken refusal = (taken, refusal)
cause_of form TooDeep taken refusal = (taken, refusal.0, refusal.1)
cause_of form TooHeavy taken refusal = (taken, refusal.0, refusal.1, refusal.2)
cause_of form NoMemory taken refusal = taken

pub refused : (m : Marked) (form : FormOf Seen) (fault : CtorFault) → m ≡ map_by form → IsTrue (takes_arguments form) → IsRefusal m form fault → IsCause form fault
refused m form fault same taken refusal = cause_of form fault taken (subst (λ (x : Marked). IsRefusal x form fault) same refusal)

pub no_memory : (m : Marked) (form : FormOf Seen) (fault : CtorFault) → IsRefusal m form fault → fault ≡ NoMemory → ⊥
no_memory m form fault refusal e = subst (IsRefusal m form) e refusal

-- where memory ran out
pub ran_out : (form : FormOf Seen) (fault : CtorFault) → IsTrue (takes_arguments form) → fault ≡ NoMemory → IsCause form fault
ran_out form fault taken e = subst (IsCause form) (sym e) taken

-- answers for a form that is the same
pub again : (answer : Result Seen CtorFault) (f g : FormOf Seen) → MatchResult answer (IsMade f) (IsCause f) → f ≡ g → MatchResult answer (IsMade g) (IsCause g)
again answer f g h e = subst (λ x. MatchResult answer (IsMade x) (IsCause x)) e h

-- a fault that has no cause isn't answered
pub never : (form : FormOf Seen) (answer : Result Seen CtorFault) (fault : CtorFault) → MatchResult answer (IsMade form) (IsCause form) → ¬ IsCause form fault → ¬ IsErrOf answer fault
never form answer fault h none e = none (subst (λ r. MatchResult r (IsMade form) (IsCause form)) e h)

-- what the constructors' clauses rest on
pub ruleset answers = (ran_out, again, to_z-of_z)
