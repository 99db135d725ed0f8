-- The image of a state at a method's entry and at its end, by the order of its objects.
use Rattle.std.specs.Prelude.{ℕ, suc, ◌==◌, ◌&&◌, not, Bool, true, false, cond, List, [], ◌∷◌, ◌++◌, length, map, drop, filter, Option, Some, None, option_map, slice_get, position, unwrap_or}
use Rattle.std.specs.List.{flat_map, list_any}
use Rattle.std.specs.Str.{bytes_eq}
use Rattle.cc_meaning.specs.declared.value.Value.{Value}
use Rattle.cc_meaning.specs.declared.value.Value.TheVariants as value
use Rattle.cc_meaning.specs.declared.value.Made.{Made}
use Rattle.cc_meaning.specs.declared.value.Object.{Object}
use Rattle.cc_meaning.specs.declared.value.Object.TheVariants as object
use Rattle.cc_meaning.specs.declared.report.Event.{Event}
use Rattle.cc_meaning.specs.declared.report.Event.TheVariants as event
use Rattle.cc_meaning.specs.declared.report.SentCall.{SentCall}
use Rattle.cc_meaning.specs.declared.report.CallEnd.{CallEnd}
use Rattle.cc_meaning.specs.declared.report.CallEnd.TheVariants as end
use Rattle.cc_meaning.specs.declared.program.ClassKind.{ClassKind}
use Rattle.cc_meaning.specs.declared.program.ClassKind.TheVariants as kind
use Rattle.cc_meaning.specs.declared.program.Class.{Class}
use Rattle.cc_meaning.specs.declared.program.Field.{Field}
use Rattle.cc_meaning.specs.declared.program.Program.{Program}
use Rattle.cc_meaning.specs.declared.image.Contents.{Contents}
use Rattle.cc_meaning.specs.declared.image.Contents.TheVariants as contents
use Rattle.cc_meaning.specs.declared.image.RunImage.{RunImage}
use Rattle.cc_meaning.specs.declared.image.BackImage.{BackImage}
use Rattle.cc_meaning.specs.BuiltIn.{system_out_name}
use Rattle.cc_meaning.specs.Names.{field_name}
use Rattle.cc_meaning_run.specs.World.{World, Stack}

-- ---- numbers of objects

-- an object's place in the order, counted from 1
abbrev pub number_in : List ℕ → ℕ → ℕ
number_in order a = suc (unwrap_or (position (λ (b : ℕ). b == a) order) 0)

-- a value with an object's number in the place of the object
abbrev pub numbered : List ℕ → Value → Value
numbered order (value.Int n) = value.Int n
numbered order (value.Long n) = value.Long n
numbered order (value.Obj a) = value.Obj (option_map (number_in order) a)

abbrev pub numbered_made : List ℕ → Made → Made
numbered_made order made = record { what = made.what; number = number_in order made.number }

abbrev pub numbered_object : List ℕ → Object → Object
numbered_object order object.Out = object.Out
numbered_object order (object.Instance class values) = object.Instance class (map (numbered order) values)
numbered_object order (object.Array class values) = object.Array class (map (numbered order) values)
numbered_object order (object.Text units) = object.Text units
numbered_object order (object.Builder units) = object.Builder units
numbered_object order (object.Constant class) = object.Constant class

abbrev pub listed : Option Object → List Object
listed None = []
listed (Some o) = o ∷ []

-- the objects of some places of the order
abbrev pub captured : List ℕ → List Object → List ℕ → List Object
captured order objects places = flat_map (λ (a : ℕ). listed (option_map (numbered_object order) (slice_get objects a))) places

-- ---- statuses and statics

abbrev pub is_of_file : ClassKind → Bool
is_of_file kind.File = true
is_of_file _ = false

-- the statuses of the classes of the file
unfoldable pub file_statuses : List Class → List ℕ → List ℕ
file_statuses [] statuses = []
file_statuses (c ∷ cs) [] = []
file_statuses (c ∷ cs) (s ∷ ss) = cond (is_of_file c.kind) (s ∷ file_statuses cs ss) (file_statuses cs ss)

-- `System.out` isn't sent
abbrev pub is_sent : Program → Field → Bool
is_sent p f = f.is_static && not (bytes_eq (field_name p f) system_out_name)

unfoldable pub sent_statics : Program → List Field → List Value → List Value
sent_statics p [] values = []
sent_statics p (f ∷ fs) [] = []
sent_statics p (f ∷ fs) (v ∷ vs) = cond (is_sent p f) (v ∷ sent_statics p fs vs) (sent_statics p fs vs)

-- ---- the entry of a method

-- the image of a method's entry with these arguments, while so many frames and registers stand
unfoldable pub run_image : Program → World → List ℕ → (method : ℕ) → List Value → Stack → RunImage
run_image p w order method args stack = record {
  method = method;
  instructions = w.counters.instructions;
  words = w.counters.words;
  depth = stack.depth;
  registers = stack.registers;
  statuses = file_statuses p.classes w.counters.statuses;
  args = map (numbered order) args;
  statics = map (numbered order) (sent_statics p p.fields w.statics);
  literals = map (numbered_made order) w.literals;
  constants = map (numbered_made order) w.constants;
  objects = captured order w.objects order;
}

-- ---- the end of a method

abbrev pub numbered_end : List ℕ → CallEnd → CallEnd
numbered_end order (end.Returned v) = end.Returned (option_map (numbered order) v)
numbered_end order (end.Thrown a) = end.Thrown (number_in order a)
numbered_end order (end.Stopped cause) = end.Stopped cause

-- what was made since, by the text or the class
abbrev pub made_since : List Made → List Made → List Made
made_since before after = filter (λ (m : Made). not (list_any (λ (n : Made). n.what == m.what) before)) after

-- the recorded calls among events; prints aren't sent
unfoldable pub sent_calls : List Event → List SentCall
sent_calls [] = []
sent_calls (event.Print units ∷ rest) = sent_calls rest
sent_calls (event.Call method args answer ∷ rest) = record { method = method; args = args } ∷ sent_calls rest

-- what an object that stood before holds; what can't change isn't sent
abbrev pub contents_of : Object → Contents
contents_of object.Out = contents.Nothing
contents_of (object.Instance class values) = contents.Values values
contents_of (object.Array class values) = contents.Values values
contents_of (object.Text units) = contents.Nothing
contents_of (object.Builder units) = contents.Units units
contents_of (object.Constant class) = contents.Nothing

-- the image of a method's end in a world, where the objects of the entry are those of `before`, and the order has the new ones behind them
unfoldable pub back_image : Program → (entry : World) → (before : List ℕ) → World → (order : List ℕ) → CallEnd → BackImage
back_image p entry before w order ending = record {
  ending = numbered_end order ending;
  instructions = w.counters.instructions;
  words = w.counters.words;
  statuses = file_statuses p.classes w.counters.statuses;
  statics = map (numbered order) (sent_statics p p.fields w.statics);
  literals = map (numbered_made order) (made_since entry.literals w.literals);
  constants = map (numbered_made order) (made_since entry.constants w.constants);
  events = sent_calls (drop (length entry.events) w.events);
  old = map contents_of (captured order w.objects before);
  fresh = captured order w.objects (drop (length before) order);
}
