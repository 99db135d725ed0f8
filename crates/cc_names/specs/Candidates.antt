-- What may have the name of a class of a program.
use Rattle.std.specs.Prelude.{◌≡◌, ◌≤◌, ◌↔◌, ◌⊎◌, ℕ, true, if◌then◌else◌, List, [], ◌∷◌, ◌++◌, length, Contains, unwrap_or, slice_get}
use Rattle.cc_meaning.specs.declared.file.Ids.{Ids}
use Rattle.cc_meaning.specs.BuiltIn.{is_built_in}
use Rattle.cc_meaning_dex.specs.Descriptors.{names_class, names_reference}
use Rattle.cc_meaning_program.specs.Named.{text_of}
use Rattle.cc_meaning_program.specs.ClassNames.{base_name, texts_name}
use Rattle.cc_names.specs.declared.classes.Candidate.{Candidate}
use Rattle.cc_names.specs.declared.classes.Candidate.TheVariants.{Whole, Base, Known}

-- These are the names that every program has: those of the 26 built-in classes, and that of the array of texts.
pub record AreKnown (names : List (List ℕ)) : Type 0 where
  pub are : (name : List ℕ) → Contains names name ↔ ((is_built_in name ≡ true) ⊎ (name ≡ texts_name))
  pub few : length names ≤ 27

-- the name of a candidate, where every program has these names
unfoldable pub candidate_name : Ids → List (List ℕ) → Candidate → List ℕ
candidate_name ids known (Whole row) = text_of ids row
candidate_name ids known (Base row) = base_name (text_of ids row)
candidate_name ids known (Known number) = unwrap_or (slice_get known number) []

-- the candidates that a row of texts makes: its text, where that is a class or an array, and what stands behind its `[`, where that is a class
unfoldable pub whole_of : Ids → ℕ → List Candidate
whole_of ids row = if names_reference (text_of ids row) then Whole row ∷ [] else []

unfoldable pub base_of : Ids → ℕ → List Candidate
base_of ids row = if names_class (base_name (text_of ids row)) then Base row ∷ [] else []

unfoldable pub candidates_of : Ids → ℕ → List Candidate
candidates_of ids row = whole_of ids row ++ base_of ids row
