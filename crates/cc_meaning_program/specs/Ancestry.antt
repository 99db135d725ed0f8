-- Where a class of a program comes from, and what stands above it, all by names.
use Rattle.std.specs.Prelude.{◌≡◌, ℕ, ◌-◌, Bool, if◌then◌else◌, List, [], ◌∷◌, ◌++◌, length, drop, map, Option, Some, None, option_map, is_some, find, codes}
use Rattle.std.specs.Str.{bytes_eq}
use Rattle.cc_meaning.specs.declared.file.ClassRow.{ClassRow}
use Rattle.cc_meaning.specs.declared.file.Ids.{Ids}
use Rattle.cc_meaning.specs.declared.program.ClassKind.{ClassKind}
use Rattle.cc_meaning.specs.declared.program.ClassKind.TheVariants.{File, BuiltIn, Outside, OutsideError, Array}
use Rattle.cc_meaning.specs.BuiltIn.{object_name, exception_name, error_name, is_built_in, built_in_superclass}
use Rattle.cc_meaning_dex.specs.Descriptors.{begins_with}
use Rattle.cc_meaning_program.specs.Named.{type_name}

-- ---- where a class comes from

-- the file's definition of a class
unfoldable pub definition_of : Ids → List ℕ → Option ClassRow
definition_of ids name = find (λ (stated : ClassRow). bytes_eq (type_name ids stated.class) name) ids.classes

unfoldable pub is_defined : Ids → List ℕ → Bool
is_defined ids name = is_some (definition_of ids name)

unfoldable pub ends_in : List ℕ → List ℕ → Bool
ends_in suffix name = bytes_eq (drop (length name - length suffix) name) suffix

unfoldable pub is_exception : List ℕ → Bool
is_exception name = ends_in (codes "Exception;") name

unfoldable pub is_error : List ℕ → Bool
is_error name = ends_in (codes "Error;") name

-- a class that is neither built in, nor of the file, nor an array, is outside; by its name it is an exception or an error, or neither
unfoldable pub outside_kind : List ℕ → ClassKind
outside_kind name = if is_exception name then OutsideError else if is_error name then OutsideError else Outside

unfoldable pub kind_of_class : Ids → List ℕ → ClassKind
kind_of_class ids name = if is_built_in name then BuiltIn else if is_defined ids name then File else if begins_with 91 name then Array else outside_kind name

-- ---- what stands above it

unfoldable pub stated_superclass : Ids → Option ClassRow → Option (List ℕ)
stated_superclass ids None = None
stated_superclass ids (Some stated) = option_map (type_name ids) stated.superclass

unfoldable pub superclass_by_kind : Ids → List ℕ → ClassKind → Option (List ℕ)
superclass_by_kind ids name File = stated_superclass ids (definition_of ids name)
superclass_by_kind ids name BuiltIn = built_in_superclass name
superclass_by_kind ids name Outside = Some object_name
superclass_by_kind ids name OutsideError = Some (if is_exception name then exception_name else error_name)
superclass_by_kind ids name Array = Some object_name

-- the superclass of a class, which Object alone hasn't got
unfoldable pub superclass_named : Ids → List ℕ → Option (List ℕ)
superclass_named ids name = superclass_by_kind ids name (kind_of_class ids name)

-- a class, its superclass, and so on up to Object
pub data Ancestry (ids : Ids) : List ℕ → List (List ℕ) → Type 0 where
  top : {name : List ℕ} → superclass_named ids name ≡ None → Ancestry ids name (name ∷ [])
  up : {name above : List ℕ} {rest : List (List ℕ)} → superclass_named ids name ≡ Some above → Ancestry ids above rest → Ancestry ids name (name ∷ rest)

unfoldable pub stated_interfaces : Ids → Option ClassRow → List (List ℕ)
stated_interfaces ids None = []
stated_interfaces ids (Some stated) = map (type_name ids) stated.interfaces

-- the interfaces that a class of the file names itself, in order
unfoldable pub interfaces_named : Ids → List ℕ → List (List ℕ)
interfaces_named ids name = stated_interfaces ids (definition_of ids name)

-- these interfaces, each followed by those above it
pub data Superinterfaces (ids : Ids) : List (List ℕ) → List (List ℕ) → Type 0 where
  none : Superinterfaces ids [] []
  next : {name : List ℕ} {rest above behind : List (List ℕ)} → Superinterfaces ids (interfaces_named ids name) above → Superinterfaces ids rest behind → Superinterfaces ids (name ∷ rest) (name ∷ above ++ behind)
