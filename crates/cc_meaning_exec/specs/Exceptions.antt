-- How a method ends, exceptions that the machine makes by itself, and which handler takes one.
use Rattle.std.specs.Prelude.{ℕ, Bool, true, false, cond, List, [], ◌∷◌, Option, Some, None, slice_get}
use Rattle.cc_meaning.specs.declared.program.Catch.{Catch}
use Rattle.cc_meaning.specs.declared.program.Code.{Code}
use Rattle.cc_meaning.specs.declared.program.DexType.{DexType}
use Rattle.cc_meaning.specs.declared.program.Program.{Program}
use Rattle.cc_meaning.specs.declared.report.StopCause.{StopCause}
use Rattle.cc_meaning.specs.declared.script.Script.{Script}
use Rattle.cc_meaning.specs.declared.value.Object.{Object}
use Rattle.cc_meaning.specs.declared.value.Value.{Value}
use Rattle.cc_meaning.specs.BuiltIn.{stack_overflow_error_name}
use Rattle.cc_meaning_typing.specs.Code.{catches_at}
use Rattle.cc_meaning_world.specs.World.{World}
use Rattle.cc_meaning_world.specs.Sorts.{sort_of, type_of}
use Rattle.cc_meaning_world.specs.Casts.{passes}
use Rattle.cc_meaning_world.specs.Acts.{Outcome, Next, Enter, Returns, Throws, Stops, Stuck, Reached, run_act}
use Rattle.cc_meaning_world.specs.Throwing.{throw_new}
use Rattle.cc_meaning_exec.specs.Instructions.{code_of}
use Rattle.cc_meaning_exec.specs.Frames.{Frame}

-- ---- ends

-- How a method ends: with a result or none, with an exception, or with the run's stop. `Jammed` is an operand of the wrong kind, which well-typed code never meets.
pub data End : Type 0 where
  Returned : Option Value → End
  Thrown : (object : ℕ) → End
  Stopped : StopCause → End
  Jammed : End

-- an end, and the world then
pub record Raised : Type 0 where
  pub end : End
  pub world : World

-- steps that go nowhere in a method come to an end
unfoldable pub end_of : Outcome → End
end_of (Returns v) = Returned v
end_of (Throws a) = Thrown a
end_of (Stops c) = Stopped c
end_of (Next pc locals) = Jammed
end_of (Enter m args next) = Jammed
end_of Stuck = Jammed

unfoldable pub raised_by : Reached → Raised
raised_by r = record { end = end_of r.outcome; world = r.world }

-- a new exception of a built-in class is thrown, or there are too few words for it
unfoldable pub new_exception : Script → Program → (name : List ℕ) → World → Raised
new_exception script p name w = raised_by (run_act script p (throw_new p name) w)

-- a method whose frame finds no room throws at its entry
unfoldable pub overflow : Script → Program → World → Raised
overflow script p w = new_exception script p stack_overflow_error_name w

-- ---- handlers

-- a handler takes each exception whose type passes the test of instance-of against its own; one without a type takes all
unfoldable pub takes : Program → Option DexType → DexType → Bool
takes p None thrown = true
takes p (Some named) thrown = passes p false thrown named

-- the address of the first handler that takes a type
unfoldable pub handler_in : Program → List Catch → DexType → Option ℕ
handler_in p [] thrown = None
handler_in p (catch ∷ rest) thrown = cond (takes p catch.kind thrown) (Some catch.at) (handler_in p rest thrown)

unfoldable pub catches_in : Option Code → ℕ → List Catch
catches_in None pc = []
catches_in (Some code) pc = catches_at code pc

unfoldable pub handler_of : Program → List Catch → Option Object → Option ℕ
handler_of p catches None = None
handler_of p catches (Some o) = handler_in p catches (type_of p (sort_of o))

-- where a frame takes an exception that is thrown at its address: at the first handler, of the first try that covers the address, that takes it
unfoldable pub handler_for : Program → World → (object : ℕ) → Frame → Option ℕ
handler_for p w a f = handler_of p (catches_in (code_of p f.method) f.pc) (slice_get w.objects a)
