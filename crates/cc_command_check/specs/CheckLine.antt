-- The words of `check FILE [--main CLASS]`.
use Rattle.std.specs.Prelude.{◌≡◌, ℕ, true, List, [], Option, Some, codes}
use Rattle.clap.specs.Words.{App, Rule, Text, first_of, matches_of, new_app, new_rule, with_rule, fault_of, takes, IsAmong}
use Rattle.clap.specs.declared.builder.action.ArgAction.TheVariants.{Set}
use Rattle.clap.specs.declared.error.kind.ErrorKind.{ErrorKind}
use Rattle.cc_command_check.specs.Calls.{Call, check, help, version, faulty}
use Rattle.cc_command_check.specs.Ends.{call_at}

-- FILE, which must be given
abbrev pub file_rule : Rule
file_rule = record (new_rule (codes "file")) { required = true; action = Some Set }

-- `--main CLASS`
abbrev pub main_rule : Rule
main_rule = record (new_rule (codes "main")) { long = Some (codes "main"); action = Some Set }

-- a command with a version has `--version` beside `--help`
abbrev pub versioned : App → App
versioned app = record app { top = record app.top { has_version = true } }

-- the command, as clap is told of it; the first word is taken for the program's name
abbrev pub check_app : App
check_app = with_rule (with_rule (versioned (new_app (codes "check"))) file_rule) main_rule

-- a value of the words, by the name of its argument
abbrev pub value_in : List Text → List ℕ → Option Text
value_in words id = first_of id (matches_of check_app words)

-- clap doesn't take the words, and refuses them by an error that comes to this
pub record RefusedBy (words : List Text) (call : Call) : Type 0 where
  pub kind : ErrorKind
  pub among : IsAmong kind (fault_of check_app words)
  pub comes : call_at kind ≡ Some call
  pub untaken : takes check_app words ≡ true → ⊥

-- What the words call for: clap takes them, and these are the values; or it finds a mistake in them, or a request for help or for the version.
abbrev pub CallsFor : List Text → Call → Type 0
CallsFor words (check file main) = (fault_of check_app words ≡ []) × (value_in words (codes "file") ≡ Some file) × (value_in words (codes "main") ≡ main)
CallsFor words help = RefusedBy words help
CallsFor words version = RefusedBy words version
CallsFor words faulty = RefusedBy words faulty

-- words call for one thing
abbrev pub OneCall : Type 0
OneCall = (words : List Text) (one other : Call) → CallsFor words one → CallsFor words other → one ≡ other
