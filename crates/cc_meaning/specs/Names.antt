-- Names as they are printed, as UTF-16 units: `Lc;` of a class, `Lc;->name(params)result` of a method, `Lc;->name:type` of a field.
use Rattle.std.specs.Prelude.{ℕ, List, [], ◌++◌, Option, Some, None, slice_get, replicate, codes}
use Rattle.std.specs.List.{flat_map}
use Rattle.cc_meaning.specs.declared.program.Base.{Base}
use Rattle.cc_meaning.specs.declared.program.Base.TheVariants as base
use Rattle.cc_meaning.specs.declared.program.Class.{Class}
use Rattle.cc_meaning.specs.declared.program.DexType.{DexType}
use Rattle.cc_meaning.specs.declared.program.Field.{Field}
use Rattle.cc_meaning.specs.declared.program.Method.{Method}
use Rattle.cc_meaning.specs.declared.program.Program.{Program}

-- a class's name, where there is a class
abbrev pub name_or_none : Option Class → List ℕ
name_or_none (Some class) = class.name
name_or_none None = []

-- the name of the class of a number
abbrev pub class_name : Program → ℕ → List ℕ
class_name program class = name_or_none (slice_get program.classes class)

-- the descriptor of a type with no dimensions
abbrev pub base_descriptor : Program → Base → List ℕ
base_descriptor program base.Boolean = codes "Z"
base_descriptor program base.Byte = codes "B"
base_descriptor program base.Short = codes "S"
base_descriptor program base.Char = codes "C"
base_descriptor program base.Int = codes "I"
base_descriptor program base.Long = codes "J"
base_descriptor program (base.Class class) = class_name program class

-- the descriptor of a type, with one `[` for each dimension
abbrev pub descriptor : Program → DexType → List ℕ
descriptor program type = replicate type.dims 91 ++ base_descriptor program type.base

-- the descriptor of a result, `V` where there is none
abbrev pub result_descriptor : Program → Option DexType → List ℕ
result_descriptor program (Some type) = descriptor program type
result_descriptor program None = codes "V"

-- parameters and a result, as `(IJ)V`
abbrev pub prototype : Program → List DexType → Option DexType → List ℕ
prototype program types answer = codes "(" ++ flat_map (descriptor program) types ++ codes ")" ++ result_descriptor program answer

-- a method's name within its class, as `add(II)I`
abbrev pub member_name : Program → Method → List ℕ
member_name program method = method.name ++ prototype program method.params method.result

-- a method's name, as `Lc;->add(II)I`
abbrev pub method_name : Program → Method → List ℕ
method_name program method = class_name program method.class ++ codes "->" ++ member_name program method

-- a field's name, as `Lc;->size:I`
abbrev pub field_name : Program → Field → List ℕ
field_name program field = class_name program field.class ++ codes "->" ++ field.name ++ codes ":" ++ descriptor program field.ty
