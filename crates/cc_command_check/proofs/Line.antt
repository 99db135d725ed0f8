-- What a parse comes to.
use Rattle.std.proofs.Common.{inl, inr, ◌≡◌, ◌⊎◌, ℕ, true, List, Option, Some, None, Result, Ok, Err, IfOk, refl, sym, ap, ◌∙◌}
use Rattle.cc_meaning.specs.declared.fault.Memory.{Memory}
use Rattle.clap.specs.Words.{App, Text, IsAmong, fault_of, takes, is_simple, is_simple_and_free, first_value, found_of, rows_of, matches_of, first_of, HasMatchesOf}
use Rattle.clap.proofs.WalkLemmas.{first_value-rows}
use Rattle.clap.specs.declared.error.kind.ErrorKind.{ErrorKind}
use Rattle.clap.specs.declared.error.kind.ErrorKind.TheVariants as kinds
use Rattle.clap.specs.declared.parser.matches.ArgMatches.{ArgMatches}
use Rattle.cc_command_check.specs.Calls.{Call, check, help, version, faulty, call_of}
use Rattle.cc_command_check.specs.Ends.{call_at, IsEnd}
use Rattle.cc_command_check.specs.CheckLine.{check_app, value_in, CallsFor}
use Rattle.cc_command_check.specs.declared.words.CheckCall.{CheckCall}

pub is_free : is_simple_and_free check_app ≡ true
is_free = refl

pub is_simple_app : is_simple check_app ≡ true
is_simple_app = refl

-- an error that comes to a call is not want of memory
is_told : (kind : ErrorKind) (call : Call) → call_at kind ≡ Some call → kind ≡ kinds.OutOfMemory → ⊥
is_told kind call e m = let bad : None ≡ Some call = sym (ap call_at m) ∙ e in cc

-- and it is never that a file is to be checked
pub is_refusal : (kind : ErrorKind) (file : List ℕ) (main : Option (List ℕ)) → call_at kind ≡ Some (check file main) → ⊥
is_refusal kinds.InvalidValue file main e = cc
is_refusal kinds.UnknownArgument file main e = cc
is_refusal kinds.InvalidSubcommand file main e = cc
is_refusal kinds.NoEquals file main e = cc
is_refusal kinds.ValueValidation file main e = cc
is_refusal kinds.TooManyValues file main e = cc
is_refusal kinds.TooFewValues file main e = cc
is_refusal kinds.WrongNumberOfValues file main e = cc
is_refusal kinds.ArgumentConflict file main e = cc
is_refusal kinds.MissingRequiredArgument file main e = cc
is_refusal kinds.MissingSubcommand file main e = cc
is_refusal kinds.DisplayHelp file main e = cc
is_refusal kinds.DisplayHelpOnMissingArgumentOrSubcommand file main e = cc
is_refusal kinds.DisplayVersion file main e = cc
is_refusal kinds.Io file main e = cc
is_refusal kinds.Format file main e = cc
is_refusal kinds.OutOfMemory file main e = cc

refused_by : (words : List Text) (kind : ErrorKind) (call : Call) → call_at kind ≡ Some call → ((kind ≡ kinds.OutOfMemory) ⊎ IsAmong kind (fault_of check_app words)) → (takes check_app words ≡ true → ⊥) → CallsFor words call
refused_by words kind call e (inl m) t = absurd (is_told kind call e m)
refused_by words kind (check file main) e (inr a) t = absurd (is_refusal kind file main e)
refused_by words kind help e (inr a) t = record { kind = kind; among = a; comes = e; untaken = t }
refused_by words kind version e (inr a) t = record { kind = kind; among = a; comes = e; untaken = t }
refused_by words kind faulty e (inr a) t = record { kind = kind; among = a; comes = e; untaken = t }

pub value_by : (app : App) (words : List Text) (m : ArgMatches) (id : Text) (v : Option Text) → app ≡ check_app → HasMatchesOf app words m → v ≡ first_value (found_of m) id → value_in words id ≡ v
value_by app words m id v is h e =
    let rows : rows_of (found_of m) ≡ matches_of check_app words = (h (ap is_simple is ∙ is_simple_app)).0 ∙ ap (λ a. matches_of a words) is in
    sym (e ∙ first_value-rows (found_of m) id ∙ ap (first_of id) rows)

pub ended : (words : List Text) (kind : ErrorKind) (r : Result CheckCall Memory) → IsEnd kind r → ((kind ≡ kinds.OutOfMemory) ⊎ IsAmong kind (fault_of check_app words)) →
    (takes check_app words ≡ true → kind ≡ kinds.OutOfMemory) → IfOk r (λ call. CallsFor words (call_of call))
ended words kind (Ok call) e k h = refused_by words kind (call_of call) e k (λ t. is_told kind (call_of call) e (h t))
ended words kind (Err memory) e k h = tt
