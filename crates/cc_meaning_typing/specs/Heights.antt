-- How far a type is from Object.
use Rattle.std.specs.Prelude.{ℕ, zero, suc, ◌+◌, cond, ◌==◌, length}
use Rattle.cc_meaning.specs.declared.program.Base.{Base}
use Rattle.cc_meaning.specs.declared.program.Base.TheVariants as base
use Rattle.cc_meaning.specs.declared.program.DexType.{DexType}
use Rattle.cc_meaning.specs.declared.program.Program.{Program}
use Rattle.cc_meaning_typing.specs.Hierarchy.{on_value, superclass_of, object_class}
use Rattle.cc_meaning_typing.specs.Types.{class_above}

unfoldable pub height_in : Program → ℕ → ℕ → ℕ
height_in program zero class = 0
height_in program (suc n) class = on_value (superclass_of program class) 0 (λ above. suc (height_in program n above))

-- how many superclasses a class has
unfoldable pub height : Program → ℕ → ℕ
height program class = height_in program (length program.classes) class

unfoldable pub depth_in : Program → ℕ → ℕ → ℕ
depth_in program zero class = 0
depth_in program (suc n) class = cond (class == object_class program) 0 (suc (depth_in program n (class_above program class)))

-- how many of a class's superclasses registers hold
unfoldable pub depth : Program → ℕ → ℕ
depth program class = depth_in program (length program.classes) class

unfoldable pub rank_in : Program → ℕ → Base → ℕ
rank_in program dims (base.Class class) = dims + depth program class
rank_in program zero _ = 1
rank_in program (suc dims) _ = suc dims

-- how many steps a type is below Object
unfoldable pub rank : Program → DexType → ℕ
rank program type = rank_in program type.dims type.base
