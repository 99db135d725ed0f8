-- The names of a program's classes and texts.
use Rattle.std.specs.Prelude.{◌≡◌, ◌↔◌, ℕ, ◌<◌, true, List, length, drop, codes, Contains}
use Rattle.cc_meaning.specs.declared.file.Ids.{Ids}
use Rattle.cc_meaning.specs.BuiltIn.{is_built_in}
use Rattle.cc_meaning.specs.Order.{IsRising}
use Rattle.cc_meaning_dex.specs.Descriptors.{dims_of, names_class, names_reference}
use Rattle.cc_meaning_program.specs.Named.{type_name}

-- what stands behind the `[` of a descriptor
unfoldable pub base_name : List ℕ → List ℕ
base_name name = drop (dims_of name) name

-- the array of texts, of which the arguments of `main` are one
unfoldable pub texts_name : List ℕ
texts_name = codes "[Ljava/lang/String;"

-- A class of a program: a class or an array that the file's types list, a class of which one of these arrays is made, a built-in class, or the array of texts.
pub data IsClassName (ids : Ids) : List ℕ → Type 0 where
  listed : {type : ℕ} → type < length ids.types → names_reference (type_name ids type) ≡ true → IsClassName ids (type_name ids type)
  element : {type : ℕ} → type < length ids.types → names_class (base_name (type_name ids type)) ≡ true → IsClassName ids (base_name (type_name ids type))
  built_in : {name : List ℕ} → is_built_in name ≡ true → IsClassName ids name
  texts : IsClassName ids texts_name

-- these names, each once, in rising order
pub record AreClassNames (ids : Ids) (names : List (List ℕ)) : Type 0 where
  pub rise : IsRising names
  pub are : (name : List ℕ) → Contains names name ↔ IsClassName ids name

-- the texts of a file's table, each once, in rising order
pub record AreTexts (ids : Ids) (texts : List (List ℕ)) : Type 0 where
  pub rise : IsRising texts
  pub are : (text : List ℕ) → Contains texts text ↔ Contains ids.texts text

-- both are given by the file alone
abbrev pub OneClassNames : Type 0
OneClassNames = (ids : Ids) (these those : List (List ℕ)) → AreClassNames ids these → AreClassNames ids those → these ≡ those

abbrev pub OneTexts : Type 0
OneTexts = (ids : Ids) (these those : List (List ℕ)) → AreTexts ids these → AreTexts ids those → these ≡ those
