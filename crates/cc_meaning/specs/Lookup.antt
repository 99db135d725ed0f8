-- The class, method or field of a name, and the class that an object is judged by.
use Rattle.std.specs.Prelude.{ℕ, List, Option, Some, position}
use Rattle.std.specs.Str.{bytes_eq}
use Rattle.cc_meaning.specs.declared.program.Class.{Class}
use Rattle.cc_meaning.specs.declared.program.Field.{Field}
use Rattle.cc_meaning.specs.declared.program.Method.{Method}
use Rattle.cc_meaning.specs.declared.program.Program.{Program}
use Rattle.cc_meaning.specs.declared.value.Object.{Object}
use Rattle.cc_meaning.specs.declared.value.Object.TheVariants as object
use Rattle.cc_meaning.specs.BuiltIn.{object_name, string_name, string_builder_name, print_stream_name, system_out_name}
use Rattle.cc_meaning.specs.Names.{field_name, method_name}

-- the number of the class of a name
abbrev pub class_named : List ℕ → Program → Option ℕ
class_named name program = position (λ (class : Class). bytes_eq class.name name) program.classes

-- the number of the method of a name as printed
abbrev pub method_named : List ℕ → Program → Option ℕ
method_named name program = position (λ (method : Method). bytes_eq (method_name program method) name) program.methods

-- the number of the field of a name as printed
abbrev pub field_named : List ℕ → Program → Option ℕ
field_named name program = position (λ (field : Field). bytes_eq (field_name program field) name) program.fields

-- the number of a text
abbrev pub text_numbered : List ℕ → Program → Option ℕ
text_numbered units program = position (λ (text : List ℕ). bytes_eq text units) program.texts

-- the number of the field of the standard output
abbrev pub system_out : Program → Option ℕ
system_out program = field_named system_out_name program

-- the class that an object is judged by, where a call, a cast, a recorded argument or a declared type asks for it
abbrev pub class_of_object : Program → Object → Option ℕ
class_of_object program object.Out = class_named print_stream_name program
class_of_object program (object.Instance class values) = Some class
class_of_object program (object.Array class values) = Some class
class_of_object program (object.Text units) = class_named string_name program
class_of_object program (object.Builder units) = class_named string_builder_name program
class_of_object program (object.Constant class) = class_named object_name program
