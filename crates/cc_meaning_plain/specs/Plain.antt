-- Plain files.
use Rattle.std.specs.Prelude.{◌≡◌, ◌≢◌, ◌⊎◌, ℕ, ◌+◌, ◌≤◌, List, [], ◌∷◌, ◌++◌, length, map, All, bit_and, codes}
use Rattle.std.specs.List.Sorted.{IsPermutation}
use Rattle.cc_meaning.specs.Order.{IsRising}
use Rattle.cc_meaning_dex.specs.Numbers.{u32_at}
use Rattle.cc_meaning_dex.specs.Leb128.{SpellsUleb}
use Rattle.cc_meaning_plain.specs.declared.table.Table.TheVariants.{Classes}
use Rattle.cc_meaning_plain.specs.declared.plain.Member.{Member}
use Rattle.cc_meaning_plain.specs.declared.plain.PlainCode.{PlainCode}
use Rattle.cc_meaning_plain.specs.declared.plain.PlainFunction.{PlainFunction}
use Rattle.cc_meaning_plain.specs.declared.plain.Plain.{Plain}
use Rattle.cc_meaning_plain.specs.Tables.{longest_file, IsHeader, HasTables, row_count, row_at}
use Rattle.cc_meaning_plain.specs.Names.{TypeRow, IsMain, IsFunction}
use Rattle.cc_meaning_plain.specs.Code.{Scope, IsOfMain, IsOfFunction, IsPlainCode}

-- no unit begins or ends a pair of UTF-16 without its other half
abbrev pub IsHigh : ℕ → Type 0
IsHigh u = (55296 ≤ u) × (u ≤ 56319)

abbrev pub IsLow : ℕ → Type 0
IsLow u = (56320 ≤ u) × (u ≤ 57343)

abbrev pub IsPaired : List ℕ → Type 0
IsPaired [] = Unit {0}
IsPaired (u ∷ []) = (IsHigh u → ⊥) × (IsLow u → ⊥)
IsPaired (u ∷ v ∷ rest) = ((IsHigh u × IsLow v) × IsPaired rest) ⊎ (((IsHigh u → ⊥) × (IsLow u → ⊥)) × IsPaired (v ∷ rest))

-- a unit that may stand in a class's name: no `;`, `[`, `(`, `)` or `:`
abbrev pub IsNameUnit : ℕ → Type 0
IsNameUnit u = (u ≢ 59) × (u ≢ 91) × (u ≢ 40) × (u ≢ 41) × (u ≢ 58)

-- the descriptor of a class: `L`, a name, and `;`
pub record IsClassDescriptor (units : List ℕ) : Type 0 where
  pub name : List ℕ
  pub form : units ≡ 76 ∷ name ++ 59 ∷ []
  pub some : name ≢ []
  pub plain : All IsNameUnit name
  pub paired : IsPaired name

-- static, and neither native nor abstract
pub record IsStaticCode (flags : ℕ) : Type 0 where
  pub static : bit_and flags 8 ≢ 0
  pub no_native : bit_and flags 256 ≡ 0
  pub no_abstract : bit_and flags 1024 ≡ 0

-- ---- the methods of a class

-- methods stand one after the other from `at` on, each with the difference of its row to the row before
abbrev pub SpellsMembers : List ℕ → ℕ → ℕ → List Member → Type 0
SpellsMembers file at row [] = Unit {0}
SpellsMembers file at row (m ∷ ms) =
    (step after_step after_flags next : ℕ) × (m.method ≡ row + step) × SpellsUleb file at step after_step × SpellsUleb file after_step m.flags after_flags
    × SpellsUleb file after_flags m.code_at next × SpellsMembers file next m.method ms

-- at `at` stands the data of a class without fields and virtual methods, with these direct ones
pub record SpellsClassData (file : List ℕ) (at : ℕ) (members : List Member) : Type 0 where
  pub after_static : ℕ
  pub after_instance : ℕ
  pub after_direct : ℕ
  pub after_counts : ℕ
  pub no_static_fields : SpellsUleb file at 0 after_static
  pub no_instance_fields : SpellsUleb file after_static 0 after_instance
  pub direct : SpellsUleb file after_instance (length members) after_direct
  pub no_virtual : SpellsUleb file after_direct 0 after_counts
  pub listed : SpellsMembers file after_counts 0 members

-- a function's name isn't that of a constructor or an initialiser
abbrev pub IsOrdinaryName : List ℕ → Type 0
IsOrdinaryName name = (name ≢ codes "<init>(I)I") × (name ≢ codes "<clinit>(I)I")

-- a method of the class is this function, whose name and code stand where the class data says
pub record IsFunctionMember (file : List ℕ) (scope : Scope) (member : Member) (function : PlainFunction) : Type 0 where
  pub static : IsStaticCode member.flags
  pub named : IsFunction file scope.class member.method function.name
  pub ordinary : IsOrdinaryName function.name
  pub returns : IsOfFunction function.code.last
  pub code : IsPlainCode file scope member.code_at function.code

-- a method of the class is its `main`
pub record IsMainMember (file : List ℕ) (scope : Scope) (member : Member) (main : PlainCode) : Type 0 where
  pub static : IsStaticCode member.flags
  pub named : IsMain file scope.class member.method
  pub returns : IsOfMain main.last
  pub code : IsPlainCode file scope member.code_at main

-- methods are these functions, one by one
abbrev pub AreFunctions : List ℕ → Scope → List Member → List PlainFunction → Type 0
AreFunctions file scope [] [] = Unit {0}
AreFunctions file scope [] (f ∷ fs) = ⊥
AreFunctions file scope (m ∷ ms) [] = ⊥
AreFunctions file scope (m ∷ ms) (f ∷ fs) = IsFunctionMember file scope m f × AreFunctions file scope ms fs

abbrev pub name_of : PlainFunction → List ℕ
name_of function = function.name

-- what the instructions of a plain file's methods may name
abbrev pub scope_of : Plain → Scope
scope_of plain = record { class = plain.class; functions = map name_of plain.functions }

-- The direct methods of a class, in any order: one `main`, and the functions, no two of one name.
pub record HasMethods (file : List ℕ) (members : List Member) (plain : Plain) : Type 0 where
  pub before : List Member
  pub main : Member
  pub after : List Member
  pub functions : List PlainFunction
  pub listed : members ≡ before ++ main ∷ after
  pub is_main : IsMainMember file (scope_of plain) main plain.main
  pub are_functions : AreFunctions file (scope_of plain) (before ++ after) functions
  pub same : IsPermutation functions plain.functions
  pub in_order : IsRising (map name_of plain.functions)

-- where the one class is defined
abbrev pub class_at : List ℕ → ℕ
class_at file = row_at file Classes 0

-- A plain file: one class without fields, static values and virtual methods, whose direct methods are a static `main` that adds and prints numbers and calls
-- functions, and static functions of an int that add numbers. Its superclass, interfaces, source file and access flags, debug information and all other items
-- are not looked at.
pub record IsPlain (file : List ℕ) (plain : Plain) : Type 0 where
  pub size : length file ≤ longest_file
  pub header : IsHeader file
  pub tables : HasTables file
  pub one_class : row_count file Classes ≡ 1
  pub class : TypeRow file (u32_at file (class_at file)) plain.class
  pub descriptor : IsClassDescriptor plain.class
  pub no_values : u32_at file (class_at file + 28) ≡ 0
  pub some_members : u32_at file (class_at file + 24) ≢ 0
  pub members : List Member
  pub members_stand : SpellsClassData file (u32_at file (class_at file + 24)) members
  pub methods : HasMethods file members plain
