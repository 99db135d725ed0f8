-- What a kind of error comes to.
use Rattle.std.specs.Prelude.{◌≡◌, Option, Some, None, Result, Ok, Err}
use Rattle.cc_meaning.specs.declared.fault.Memory.{Memory}
use Rattle.clap.specs.declared.error.kind.ErrorKind.{ErrorKind}
use Rattle.clap.specs.declared.error.kind.ErrorKind.TheVariants as kinds
use Rattle.cc_command_check.specs.Calls.{Call, help, version, faulty, call_of}
use Rattle.cc_command_check.specs.declared.words.CheckCall.{CheckCall}

-- what a mistake or a request comes to; none where there is no memory
abbrev pub call_at : ErrorKind → Option Call
call_at kinds.OutOfMemory = None
call_at kinds.DisplayHelp = Some help
call_at kinds.DisplayVersion = Some version
call_at _ = Some faulty

abbrev pub IsEnd : ErrorKind → Result CheckCall Memory → Type 0
IsEnd kind (Ok call) = call_at kind ≡ Some (call_of call)
IsEnd kind (Err memory) = kind ≡ kinds.OutOfMemory
