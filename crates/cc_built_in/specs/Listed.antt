-- The built-in classes and their methods, as the table of the code lists them.
use Rattle.std.specs.Prelude.{◌≡◌, ◌≤◌, ℕ, Bool, false, List, [], map, length, Option, Some, None, option_map, option_and_then, is_some}
use Rattle.cc_meaning.specs.BuiltIn.{is_built_in, is_built_in_throwable, built_in_superclass}
use Rattle.cc_built_in.specs.BuiltInMethods.{BuiltInMethod, BuiltInMethods, built_in_tables, built_in_member, methods_of_class}
use Rattle.cc_built_in.specs.declared.table.ListedClass.{ListedClass}
use Rattle.cc_built_in.specs.declared.table.ListedMethod.{ListedMethod}

-- a method of the class of this name
unfoldable pub method_of : List ℕ → ListedMethod → BuiltInMethod
method_of class listed = record { class = class; name = listed.name.now; params = map (λ param. param.now) listed.params.now; result = listed.result.now }

-- the names of methods within their class, as printed
abbrev pub members_listed : List ListedMethod → List (List ℕ)
members_listed methods = map (λ (listed : ListedMethod). listed.member.now) methods

-- a class with its methods
unfoldable pub table_of : ListedClass → BuiltInMethods
table_of class = record { class = class.name.now; methods = map (method_of class.name.now) class.methods.now }

abbrev pub superclass_listed : ListedClass → Option (List ℕ)
superclass_listed class = option_map (λ name. name.now) class.superclass

-- These are the methods of a class, in their order, each with its name and types, and so printed. No class has more than PrintStream.
pub record AreMethods (class : List ℕ) (listed : List ListedMethod) (are : List BuiltInMethod) : Type 0 where
  pub methods : map (method_of class) listed ≡ are
  pub members : members_listed listed ≡ map built_in_member are
  pub few : length listed ≤ 11

-- These are the built-in classes in the order of their names, each with its superclass and methods.
pub record AreClasses (classes : List ListedClass) : Type 0 where
  pub tables : map table_of classes ≡ built_in_tables
  pub members : map (λ (class : ListedClass). members_listed class.methods.now) classes ≡ map (λ (table : BuiltInMethods). map built_in_member table.methods) built_in_tables
  pub superclasses : map superclass_listed classes ≡ map (λ (table : BuiltInMethods). built_in_superclass table.class) built_in_tables
  pub throwables : map (λ (class : ListedClass). class.is_throwable) classes ≡ map (λ (table : BuiltInMethods). is_built_in_throwable table.class) built_in_tables

-- what a class has that may not be there
unfoldable pub is_throwable_in : Option ListedClass → Bool
is_throwable_in None = false
is_throwable_in (Some class) = class.is_throwable

unfoldable pub methods_in : Option ListedClass → List ListedMethod
methods_in None = []
methods_in (Some class) = class.methods.now

-- This is the built-in class of a name, none where no built-in class has it.
pub record IsClassOf (name : List ℕ) (class : Option ListedClass) : Type 0 where
  pub there : is_some class ≡ is_built_in name
  pub superclass : option_and_then superclass_listed class ≡ built_in_superclass name
  pub throwable : is_throwable_in class ≡ is_built_in_throwable name
  pub methods : AreMethods name (methods_in class) (methods_of_class name)
