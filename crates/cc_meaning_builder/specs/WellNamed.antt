-- When all names that a builder was given are well formed.
use Rattle.std.specs.Prelude.{◌≡◌, ◌≢◌, ℕ, true, false, List, [], ◌∷◌, ◌++◌, All, Option, Some, None, Contains, codes}
use Rattle.std.specs.List.{flat_map}
use Rattle.cc_meaning.specs.declared.listing.ListedCatch.{ListedCatch}
use Rattle.cc_meaning.specs.declared.listing.ListedTry.{ListedTry}
use Rattle.cc_meaning.specs.declared.listing.Listing.{Listing}
use Rattle.cc_meaning.specs.declared.listing.RowName.{RowName}
use Rattle.cc_meaning.specs.declared.listing.RowName.TheVariants as row
use Rattle.cc_meaning_dex.specs.Descriptors.{IsClassDescriptor, IsDescriptor, IsPaired, IsValueDescriptor, names_reference}
use Rattle.cc_meaning_dex.specs.CodeItems.{has_flag}
use Rattle.cc_meaning_builder.specs.declared.content.ListedClass.{ListedClass}
use Rattle.cc_meaning_builder.specs.declared.content.ListedField.{ListedField}
use Rattle.cc_meaning_builder.specs.declared.content.ListedMethod.{ListedMethod}
use Rattle.cc_meaning_builder.specs.Named.{all_names}

-- a class or an array
abbrev pub IsReferenceName : List ℕ → Type 0
IsReferenceName name = IsValueDescriptor name × (names_reference name ≡ true)

-- parameters and a result, as `(IJ)V`
pub record IsPrototypeName (name : List ℕ) : Type 0 where
  pub params : List (List ℕ)
  pub result : List ℕ
  pub values : All IsValueDescriptor params
  pub described : IsDescriptor result
  pub form : name ≡ codes "(" ++ (flat_map (λ param. param) params ++ (codes ")" ++ result))

abbrev pub IsWellNamed : RowName → Type 0
IsWellNamed (row.Text units) = Unit {0}
IsWellNamed (row.Class name) = IsDescriptor name
IsWellNamed (row.Field class name kind) = IsReferenceName class × IsPaired name × IsValueDescriptor kind
IsWellNamed (row.Method class name proto) = IsReferenceName class × IsPaired name × IsPrototypeName proto

abbrev pub CatchIsNamed : ListedCatch → Type 0
CatchIsNamed catch = (name : List ℕ) → catch.class ≡ Some name → IsValueDescriptor name

-- there are handlers, what they take is a value, and only the last one takes all
abbrev pub AreCatches : List ListedCatch → Type 0
AreCatches catches = (catches ≢ []) × All CatchIsNamed catches × ((front back : List ListedCatch) (catch : ListedCatch) → catches ≡ front ++ (catch ∷ back) → catch.class ≡ None → back ≡ [])

abbrev pub CodeIsNamed : Option Listing → Type 0
CodeIsNamed None = Unit {0}
CodeIsNamed (Some listing) = All (λ (try : ListedTry). AreCatches try.catches) listing.tries

-- a class that is no array, with classes or arrays above it; only static fields begin with a value
pub record ClassIsNamed (class : ListedClass) : Type 0 where
  pub name : IsClassDescriptor class.name
  pub superclass : (name : List ℕ) → class.superclass ≡ Some name → IsReferenceName name
  pub interfaces : All IsReferenceName class.interfaces
  pub values : (field : ListedField) → Contains class.fields field → has_flag field.flags 8 ≡ false → field.value ≡ None
  pub code : (method : ListedMethod) → Contains class.methods method → CodeIsNamed method.code

pub record WellNamed (content : List ListedClass) : Type 0 where
  pub rows : All IsWellNamed (all_names content)
  pub classes : All ClassIsNamed content
