-- The run of a program on one heap, and its report.
use Rattle.std.specs.Prelude.{ℕ, ◌-◌, List, [], ◌∷◌, ◌++◌, length, map, reverse, Option, Some, None, if◌then◌else◌, replicate, slice_get, slice_set, unwrap_or, codes, encode_utf8_all, option_map}
use Rattle.std.specs.Char.Utf16.{utf16_chars}
use Rattle.std.specs.Str.{bytes_eq}
use Rattle.cc_meaning.specs.declared.value.Value.{Value}
use Rattle.cc_meaning.specs.declared.value.Value.TheVariants as value
use Rattle.cc_meaning.specs.declared.value.Object.{Object}
use Rattle.cc_meaning.specs.declared.value.Object.TheVariants as object
use Rattle.cc_meaning.specs.declared.report.Event.{Event}
use Rattle.cc_meaning.specs.declared.report.Event.TheVariants as event
use Rattle.cc_meaning.specs.declared.report.Ending.{Ending}
use Rattle.cc_meaning.specs.declared.report.Ending.TheVariants as ending
use Rattle.cc_meaning.specs.declared.report.Report.{Report}
use Rattle.cc_meaning.specs.declared.report.Limits.{Limits}
use Rattle.cc_meaning.specs.declared.program.Field.{Field}
use Rattle.cc_meaning.specs.declared.program.Method.{Method}
use Rattle.cc_meaning.specs.declared.program.Program.{Program}
use Rattle.cc_meaning.specs.BuiltIn.{system_out_name}
use Rattle.cc_meaning.specs.Kinds.{kind_of, zero_of}
use Rattle.cc_meaning.specs.Lookup.{class_named}
use Rattle.cc_meaning.specs.Names.{field_name}
use Rattle.cc_meaning_run.specs.World.{Setting, World}
use Rattle.cc_meaning_run.specs.Acts.{Outcome, Returns, Stops, Act, Done, Make, Reached, run_act}
use Rattle.cc_meaning_run.specs.Eval.{End, Returned, Thrown, Stopped, Jammed, Ran, ran, Hook, Go, body, eval_with}
use Rattle.cc_meaning_run.specs.Invocations.{Invocation, Invocations, onlooker, entered}

-- ---- the opening

-- the one object of the stream that is printed to
abbrev pub out_object : ℕ
out_object = 0

-- `System.out` holds its object; any other field holds zero or null before it is written
unfoldable pub opening_static : Program → Field → Value
opening_static p f = if bytes_eq (field_name p f) system_out_name then value.Obj (Some out_object) else zero_of (kind_of f.ty)

-- the one object of a new world is `System.out`
unfoldable pub opening_world : Program → Limits → World
opening_world p limits = record {
  objects = object.Out ∷ [];
  statics = map (opening_static p) p.fields;
  literals = [];
  constants = [];
  counters = record { instructions = limits.instructions; words = limits.words; statuses = replicate (length p.classes) 0 };
  cursors = replicate (length p.classes) 0;
  events = [];
}

-- the arguments of a program are texts, and then the array of them
unfoldable pub make_texts : List (List ℕ) → (List Value → Act) → Act
make_texts [] k = k []
make_texts (units ∷ rest) k = Make (object.Text units) (λ a. make_texts rest (λ vs. k (value.Obj (Some a) ∷ vs)))

-- the class of the array of a program's arguments
unfoldable pub texts_class : Program → ℕ
texts_class p = unwrap_or (class_named (codes "[Ljava/lang/String;") p) 0

unfoldable pub make_args : Program → List (List ℕ) → Act
make_args p texts = make_texts texts (λ vs. Make (object.Array (texts_class p) vs) (λ a. Done (Returns (Some (value.Obj (Some a))))))

-- A class without an initialiser, without stated values and without a superclass of the file is ready once it is started.
unfoldable pub with_ready : World → ℕ → World
with_ready w class = record w { counters = record w.counters { statuses = slice_set w.counters.statuses class 2 } }

unfoldable pub main_class : Program → ℕ
main_class p = of_method (option_map (λ (m : Method). m.class) (slice_get p.methods p.main))
  where
    of_method : Option ℕ → ℕ
    of_method None = 0
    of_method (Some class) = class

-- ---- the run

-- the arguments are made, main's class is started, and then main
unfoldable pub begun : {T : Type 0} → Go T → Setting → Outcome → World → T → Ran T
begun go s (Returns (Some args)) w t = body go s s.program.main (args ∷ []) (record { depth = 0; registers = 0 }) (with_ready w (main_class s.program)) t
begun go s (Stops c) w t = ran (Stopped c) w t
begun go s _ w t = ran Jammed w t

unfoldable pub begin_in : {T : Type 0} → Go T → Setting → Reached → T → Ran T
begin_in go s r t = begun go s r.outcome r.world t

unfoldable pub run_with : {T : Type 0} → Hook T → Setting → List (List ℕ) → Limits → T → Ran T
run_with hook s args limits t = begin_in (eval_with hook s limits.instructions) s (run_act (make_args s.program args) (opening_world s.program limits)) t

-- ---- the report

-- a text in UTF-8, with a question mark for each unit of a pair that has no partner
unfoldable pub utf8_of : List ℕ → List ℕ
utf8_of units = encode_utf8_all (map (λ c. unwrap_or c 63) (utf16_chars units))

-- the output is the UTF-8 of what was printed, each text by itself
unfoldable pub output_of : List Event → List ℕ
output_of [] = []
output_of (event.Print units ∷ rest) = utf8_of units ++ output_of rest
output_of (event.Call m args answer ∷ rest) = output_of rest

unfoldable pub calls_of : List Event → List Event
calls_of [] = []
calls_of (event.Print units ∷ rest) = calls_of rest
calls_of (event.Call m args answer ∷ rest) = event.Call m args answer ∷ calls_of rest

unfoldable pub message_of : World → Value → Option (List ℕ)
message_of w (value.Obj (Some a)) = of_text (slice_get w.objects a)
  where
    of_text : Option Object → Option (List ℕ)
    of_text (Some (object.Text units)) = Some units
    of_text _ = None
message_of w _ = None

-- an exception's class, and its message, which is its first value
unfoldable pub thrown_ending : World → Option Object → Option Ending
thrown_ending w (Some (object.Instance class (first ∷ rest))) = Some (ending.Thrown class (message_of w first))
thrown_ending w (Some (object.Instance class [])) = Some (ending.Thrown class None)
thrown_ending w _ = None

unfoldable pub ending_of : World → End → Option Ending
ending_of w (Returned v) = Some ending.Returned
ending_of w (Thrown a) = thrown_ending w (slice_get w.objects a)
ending_of w (Stopped c) = Some (ending.Stopped c)
ending_of w Jammed = None

-- the report of a world and an ending
unfoldable pub report_in : Limits → World → Ending → Report
report_in limits w e = record {
  out = output_of w.events;
  calls = calls_of w.events;
  ending = e;
  instructions = limits.instructions - w.counters.instructions;
  words = limits.words - w.counters.words;
}

unfoldable pub report_of : {T : Type 0} → Limits → Ran T → Option Report
report_of limits (ran e w t) = option_map (report_in limits w) (ending_of w e)

-- what the run of a program on one heap says; nothing where it meets an operand of the wrong kind
unfoldable pub local : Setting → List (List ℕ) → Limits → Option Report
local s args limits = report_of limits (run_with onlooker s args limits (entered s.program.main (record { depth = 0; registers = 0 }) []))

-- the invocations of that run, in the order of their entries; main's own comes first
unfoldable pub invocations : Setting → List (List ℕ) → Limits → List Invocation
invocations s args limits = kept (run_with onlooker s args limits (entered s.program.main (record { depth = 0; registers = 0 }) []))
  where
    kept : Ran Invocations → List Invocation
    kept (ran e w list) = reverse list
