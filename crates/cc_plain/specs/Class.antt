-- The parts of a plain file, in the order in which they are read.
use Rattle.std.specs.Prelude.{◌≡◌, ◌≢◌, ℕ, ◌+◌, ◌≤◌, List, [], ◌∷◌, Some, map, length}
use Rattle.std.specs.List.Sorted.{IsPermutation}
use Rattle.cc_meaning.specs.Order.{IsRising}
use Rattle.cc_meaning_dex.specs.Numbers.{u32_at}
use Rattle.cc_meaning_plain.specs.declared.table.Table.TheVariants.{Methods, Classes}
use Rattle.cc_meaning_plain.specs.declared.plain.Member.{Member}
use Rattle.cc_meaning_plain.specs.declared.plain.PlainFunction.{PlainFunction}
use Rattle.cc_meaning_plain.specs.Tables.{longest_file, IsHeader, HasTables, IsRow, row_count}
use Rattle.cc_meaning_plain.specs.Names.{TypeRow}
use Rattle.cc_meaning_plain.specs.Plain.{SpellsClassData, IsClassDescriptor, class_at, name_of}
use Rattle.cc_meaning_plain.specs.Methods.{AreMethods}

-- a file of one class that has members and no static values
pub record HasOneClass (file : List ℕ) : Type 0 where
  pub size : length file ≤ longest_file
  pub header : IsHeader file
  pub tables : HasTables file
  pub one_class : row_count file Classes ≡ 1
  pub no_values : u32_at file (class_at file + 28) ≡ 0
  pub members : u32_at file (class_at file + 24) ≢ 0

-- the class is named by this descriptor
pub record IsClass (file : List ℕ) (name : List ℕ) : Type 0 where
  pub class : TypeRow file (u32_at file (class_at file)) name
  pub descriptor : IsClassDescriptor name

-- each method is a row of the methods' table
abbrev pub HaveRows : List ℕ → List Member → Type 0
HaveRows file [] = Unit {0}
HaveRows file (m ∷ ms) = IsRow file Methods m.method × HaveRows file ms

-- the class's methods are this `main`, whatever its code, and these functions in the order of their names
pub record HasFunctions (file class : List ℕ) (main : Member) (functions : List PlainFunction) : Type 0 where
  pub members : List Member
  pub stand : SpellsClassData file (u32_at file (class_at file + 24)) members
  pub listed : List PlainFunction
  pub methods : AreMethods file class members (Some main) listed
  pub same : IsPermutation listed functions
  pub in_order : IsRising (map name_of functions)
