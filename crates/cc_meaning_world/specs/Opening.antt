-- The world in which a run begins.
use Rattle.std.specs.Prelude.{ℕ, suc, ◌+◌, sum_by, List, [], ◌∷◌, ◌++◌, length, map, Option, Some, None, cond, replicate, unwrap_or, codes}
use Rattle.std.specs.Str.{bytes_eq}
use Rattle.cc_meaning.specs.declared.program.Field.{Field}
use Rattle.cc_meaning.specs.declared.program.Program.{Program}
use Rattle.cc_meaning.specs.declared.report.Limits.{Limits}
use Rattle.cc_meaning.specs.declared.value.Object.{Object}
use Rattle.cc_meaning.specs.declared.value.Object.TheVariants as object
use Rattle.cc_meaning.specs.declared.value.Value.{Value}
use Rattle.cc_meaning.specs.declared.value.Value.TheVariants as value
use Rattle.cc_meaning.specs.BuiltIn.{system_out_name}
use Rattle.cc_meaning.specs.Kinds.{kind_of, zero_of}
use Rattle.cc_meaning.specs.Lookup.{class_named}
use Rattle.cc_meaning.specs.Names.{field_name}
use Rattle.cc_meaning.specs.Words.{words_of}
use Rattle.cc_meaning_world.specs.World.{World}
use Rattle.cc_meaning_world.specs.Changes.{with_objects}
use Rattle.cc_meaning_world.specs.Acts.{Reached, Returns, arrived, paying}

-- the one object of the stream that is printed to
abbrev pub out_object : ℕ
out_object = 0

-- `System.out` holds its object; any other field holds zero or null before it is written
unfoldable pub opening_static : Program → Field → Value
opening_static p f = cond (bytes_eq (field_name p f) system_out_name) (value.Obj (Some out_object)) (zero_of (kind_of f.ty))

-- The one object of a new world is `System.out`. No class is started, no answer is taken, and nothing is recorded.
unfoldable pub opening_world : Program → Limits → World
opening_world p limits = record {
  objects = object.Out ∷ [];
  statics = map (opening_static p) p.fields;
  literals = [];
  constants = [];
  counters = record { instructions = limits.instructions; words = limits.words; statuses = replicate (length p.classes) 0 };
  cursors = replicate (length p.classes) 0;
  events = [];
}

-- ---- the arguments of a program

-- the class of the array of a program's arguments
unfoldable pub texts_class : Program → ℕ
texts_class p = unwrap_or (class_named (codes "[Ljava/lang/String;") p) 0

-- references to so many objects, numbered from a number on
unfoldable pub numbered : ℕ → List (List ℕ) → List Value
numbered from [] = []
numbered from (text ∷ rest) = value.Obj (Some from) ∷ numbered (suc from) rest

-- the texts, and then the array of them, where so many objects stand before
unfoldable pub argument_objects : Program → ℕ → List (List ℕ) → List Object
argument_objects p before texts = map object.Text texts ++ object.Array (texts_class p) (numbered before texts) ∷ []

-- the arguments of a program are made before anything else, and the words of all of them are paid in one step; what is given is the array
unfoldable pub with_arguments : Program → List (List ℕ) → World → Reached
with_arguments p texts w =
    paying (sum_by words_of (argument_objects p (length w.objects) texts)) w (λ w'.
    arrived (Returns (Some (value.Obj (Some (length w'.objects + length texts))))) (with_objects w' (argument_objects p (length w'.objects) texts)))
