-- The image of a state at a method's entry, by the order of its objects.
use Rattle.std.specs.Prelude.{ℕ, ◌&&◌, not, Bool, cond, List, [], ◌∷◌, ◌++◌, Option, Some}
use Rattle.std.specs.Str.{bytes_eq}
use Rattle.cc_meaning.specs.declared.image.RunImage.{RunImage}
use Rattle.cc_meaning.specs.declared.program.Class.{Class}
use Rattle.cc_meaning.specs.declared.program.Field.{Field}
use Rattle.cc_meaning.specs.declared.program.Program.{Program}
use Rattle.cc_meaning.specs.declared.value.Made.{Made}
use Rattle.cc_meaning.specs.declared.value.Object.{Object}
use Rattle.cc_meaning.specs.declared.value.Value.{Value}
use Rattle.cc_meaning.specs.BuiltIn.{system_out_name}
use Rattle.cc_meaning.specs.Names.{field_name}
use Rattle.cc_meaning_typing.specs.WellTyped.{is_of_file}
use Rattle.cc_meaning_world.specs.World.{World, Stack}
use Rattle.cc_meaning_world.specs.Opening.{out_object}
use Rattle.cc_meaning_migration.specs.Renaming.{if_some, rename_values, rename_mades, copies, number_in}
use Rattle.cc_meaning_migration.specs.Order.{mentions, made_objects, IsOrder, order_of}

-- ---- statuses and statics

-- the statuses of the classes of the file, which alone are started
unfoldable pub file_statuses : List Class → List ℕ → List ℕ
file_statuses (c ∷ cs) (s ∷ ss) = cond (is_of_file c.kind) (s ∷ file_statuses cs ss) (file_statuses cs ss)
file_statuses _ _ = []

-- `System.out` never changes, and isn't sent
unfoldable pub is_sent : Program → Field → Bool
is_sent p f = f.is_static && not (bytes_eq (field_name p f) system_out_name)

-- the values of the statics that are sent, in number order
unfoldable pub sent_statics : Program → List Field → List Value → List Value
sent_statics p (f ∷ fs) (v ∷ vs) = cond (is_sent p f) (v ∷ sent_statics p fs vs) (sent_statics p fs vs)
sent_statics p _ _ = []

-- ---- the order

-- the order of an entry begins with `System.out`
abbrev pub entry_front : List ℕ
entry_front = out_object ∷ []

-- what an entry mentions: its arguments, the statics, the literals and the class constants
unfoldable pub entry_roots : Program → World → List Value → List ℕ
entry_roots p w args = mentions args ++ (mentions (sent_statics p p.fields w.statics) ++ (made_objects w.literals ++ made_objects w.constants))

-- the order of the objects of an entry
abbrev pub IsEntryOrder : Program → World → List Value → List ℕ → Type 0
IsEntryOrder p w args order = IsOrder w.objects entry_front (entry_roots p w args) order

unfoldable pub entry_order : Program → World → List Value → List ℕ
entry_order p w args = order_of w.objects entry_front (entry_roots p w args)

-- ---- the image

unfoldable pub run_by : Program → World → ℕ → Stack → (args statics : List Value) → (literals constants : List Made) → List Object → RunImage
run_by p w m stack args statics literals constants objects = record {
  method = m;
  instructions = w.counters.instructions;
  words = w.counters.words;
  depth = stack.depth;
  registers = stack.registers;
  statuses = file_statuses p.classes w.counters.statuses;
  args = args;
  statics = statics;
  literals = literals;
  constants = constants;
  objects = objects;
}

-- The image of the entry of a method with these arguments, while so many frames and registers stand: each object by its number in the order, and nothing
-- where one has none.
unfoldable pub run_image : Program → World → (order : List ℕ) → (method : ℕ) → List Value → Stack → Option RunImage
run_image p w order m args stack =
    if_some (rename_values (number_in order) args) (λ args'.
    if_some (rename_values (number_in order) (sent_statics p p.fields w.statics)) (λ statics.
    if_some (rename_mades (number_in order) w.literals) (λ literals.
    if_some (rename_mades (number_in order) w.constants) (λ constants.
    if_some (copies (number_in order) w.objects order) (λ objects.
    Some (run_by p w m stack args' statics literals constants objects))))))

-- the image of an entry, by the order that is found
unfoldable pub captured_entry : Program → World → (method : ℕ) → List Value → Stack → Option RunImage
captured_entry p w m args stack = run_image p w (entry_order p w args) m args stack
