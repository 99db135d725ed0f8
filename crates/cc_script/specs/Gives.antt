-- What a reader answers, memory aside.
use Rattle.std.specs.Prelude.{◌≡◌, Result, Ok, Err}
use Rattle.cc_meaning.specs.declared.fault.ScriptFault.{ScriptFault}
use Rattle.cc_meaning.specs.declared.fault.ScriptFault.TheVariants as faults

-- The answer is what was wanted; only want of memory may come instead.
abbrev pub Gives : {A : Type 0} → (wanted answer : Result A ScriptFault) → Type 0
Gives wanted (Ok x) = wanted ≡ Ok x
Gives wanted (Err faults.NotJson) = wanted ≡ Err faults.NotJson
Gives wanted (Err (faults.BadShape at)) = wanted ≡ Err (faults.BadShape at)
Gives wanted (Err (faults.UnknownMethod class place)) = wanted ≡ Err (faults.UnknownMethod class place)
Gives wanted (Err (faults.BadAnswer class place)) = wanted ≡ Err (faults.BadAnswer class place)
Gives wanted (Err faults.Memory) = Unit {0}
