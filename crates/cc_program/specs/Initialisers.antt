-- The methods that classes begin with, by the classes' numbers.
use Rattle.std.specs.Prelude.{◌≡◌, ℕ, true, List, [], length, Option, Some, None, slice_get, codes}
use Rattle.cc_meaning.specs.declared.program.Method.{Method}
use Rattle.cc_meaning_program.specs.Programs.{is_run}

-- a static method with code that is named `<clinit>` and neither takes nor gives anything
pub record Begins (method : Method) : Type 0 where
  pub named : method.name ≡ codes "<clinit>"
  pub takes_none : method.params ≡ []
  pub gives_none : method.result ≡ None
  pub run : is_run (Some method) ≡ true

-- the method of a number begins the class of a number
pub record IsInitialiser (methods : List Method) (class number : ℕ) : Type 0 where
  pub method : Method
  pub there : slice_get methods number ≡ Some method
  pub of_class : method.class ≡ class
  pub begins : Begins method

-- for each of so many classes one that begins it, where there is one
pub record AreInitialisers (methods : List Method) (count : ℕ) (found : List (Option ℕ)) : Type 0 where
  pub all : length found ≡ count
  pub are : (class number : ℕ) → slice_get found class ≡ Some (Some number) → IsInitialiser methods class number
  pub none : (class : ℕ) → slice_get found class ≡ Some None → (number : ℕ) → ¬ IsInitialiser methods class number
