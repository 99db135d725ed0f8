-- What words call for.
use Rattle.std.specs.Prelude.{ℕ, List, Option, option_map}
use Rattle.cc_command_check.specs.declared.words.CheckCall.{CheckCall}
use Rattle.cc_command_check.specs.declared.words.CheckCall.TheVariants as given

-- a file is to be checked, by its name and with the main class that is named; or help or the version is to be shown; or there is a mistake
pub data Call : Type 0 where
  check : (file : List ℕ) (main : Option (List ℕ)) → Call
  help : Call
  version : Call
  faulty : Call

-- what the code gives, as bytes
abbrev pub call_of : CheckCall → Call
call_of (given.Check file main) = check file.now (option_map (λ text. text.now) main)
call_of given.Help = help
call_of given.Version = version
call_of given.Faulty = faulty
