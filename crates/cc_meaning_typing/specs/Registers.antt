-- What the verifier knows of a register: which knowledge covers which, what covers two, and what fits a declared type.
use Rattle.std.specs.Prelude.{cond, ◌==◌}
use Rattle.cc_meaning.specs.declared.instruction.Kind.{Kind}
use Rattle.cc_meaning.specs.declared.instruction.Kind.TheVariants as kind
use Rattle.cc_meaning.specs.declared.program.DexType.{DexType}
use Rattle.cc_meaning.specs.declared.program.Program.{Program}
use Rattle.cc_meaning.specs.declared.program.RegType.{RegType}
use Rattle.cc_meaning.specs.declared.program.RegType.TheVariants.{Unset, Int, Zero, LongLow, LongHigh, Reference, Fresh}
use Rattle.cc_meaning.specs.Kinds.{kind_of}
use Rattle.cc_meaning_typing.specs.Types.{held, IsBelow, least_above}

-- The first covers the second: what a register is in the second sense, it is in the first. Nothing is known in the widest sense, and the literal 0 is an int
-- and null.
pub data Covers (program : Program) : RegType → RegType → Type 0 where
  unset : {a : RegType} → Covers program Unset a
  same : {a : RegType} → Covers program a a
  zero_int : Covers program Int Zero
  zero_reference : {type : DexType} → Covers program (Reference type) Zero
  references : {type above : DexType} → IsBelow program type above → Covers program (Reference above) (Reference type)

-- The least that covers both: either of two equal ones, Int for Zero and Int, the reference for Zero and a reference, for two references that of the least
-- type that both are below, and Unset for all others.
unfoldable pub join : Program → RegType → RegType → RegType
join program Int Int = Int
join program Int Zero = Int
join program Zero Int = Int
join program Zero Zero = Zero
join program Zero (Reference type) = Reference type
join program (Reference type) Zero = Reference type
join program (Reference a) (Reference b) = Reference (least_above program a b)
join program LongLow LongLow = LongLow
join program LongHigh LongHigh = LongHigh
join program (Fresh a) (Fresh b) = cond (a == b) (Fresh a) Unset
join program _ _ = Unset

unfoldable pub register_of_kind : Program → DexType → Kind → RegType
register_of_kind program type kind.Object = Reference (held program type)
register_of_kind program type kind.Wide = LongLow
register_of_kind program type _ = Int

-- what a value of a declared type is known as in its first register: an int, the first half of a long, or a reference of the held type
unfoldable pub register_of : Program → DexType → RegType
register_of program type = register_of_kind program type (kind_of type)

-- A register fits a declared type: an int takes Int and Zero, a long its first half, a reference type Zero and each reference whose type is below it as it is
-- held.
abbrev pub Fits : Program → RegType → DexType → Type 0
Fits program a type = Covers program (register_of program type) a
