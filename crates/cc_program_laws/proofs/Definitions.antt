-- The first definition of a class, by its number.
use Rattle.std.proofs.Common.{◌≡◌, ℕ, suc, ◌<◌, Bool, true, false, List, [], ◌∷◌, length, Some, slice_get, refl}
use Rattle.std.specs.Prelude.{find, cond}
use Rattle.std.specs.Str.{bytes_eq}
use Rattle.std.proofs.lemmas.Option.{slice_get_within}
use Rattle.std.proofs.lemmas.Slice.Eq.{bytes_eq-Decides}
use Rattle.cc_meaning.specs.declared.file.ClassRow.{ClassRow}
use Rattle.cc_meaning.specs.declared.file.Ids.{Ids}
use Rattle.cc_meaning_program.specs.Named.{type_name}
use Rattle.cc_meaning_program.specs.Definitions.{Defines}
use Rattle.cc_meaning_program.specs.Ancestry.{definition_of}

-- what is found passes the test, and stands somewhere
abbrev IsFound : {A : Type 0} → (A → Bool) → List A → A → Type 0
IsFound test xs x = (number : ℕ) × (slice_get xs number ≡ Some x) × (test x ≡ true)

found : {A : Type 0} (test : A → Bool) (xs : List A) (x : A) → find test xs ≡ Some x → IsFound test xs x
found test [] x is = absurd cc
found {A = A} test (y ∷ ys) x is = from (test y) refl is (λ behind. found test ys x behind)
  where
    from : (passed : Bool) → test y ≡ passed → cond passed (Some y) (find test ys) ≡ Some x → (find test ys ≡ Some x → IsFound test ys x) → IsFound test (y ∷ ys) x
    from true passes same rest = let e : y ≡ x = cc in (0, same, let at : test x ≡ true = cc in at)
    from false fails behind rest = let (number, there, passes) = rest behind in (suc number, there, passes)

-- a definition of a name by its number, with its row
pub record Defined (ids : Ids) (name : List ℕ) (stated : ClassRow) : Type 0 where
  pub number : ℕ
  pub within : number < length ids.classes
  pub there : slice_get ids.classes number ≡ Some stated
  pub defines : Defines ids number name

pub defined : (ids : Ids) (name : List ℕ) (stated : ClassRow) → definition_of ids name ≡ Some stated → Defined ids name stated
unfolding definition_of
defined ids name stated is =
    let (number, there, passes) = found (λ (row : ClassRow). bytes_eq (type_name ids row.class) name) ids.classes stated is in
    record {
      number = number;
      within = slice_get_within ids.classes number stated there;
      there = there;
      defines = record { stated = stated; there = there; named = (bytes_eq-Decides (type_name ids stated.class) name).0 passes };
    }
