-- Interfaces, each followed by those above it.
use Rattle.std.proofs.Common.{◌≡◌, inr, ℕ, suc, List, [], ◌∷◌, ◌++◌, map, Option, Some, None, slice_get, refl, arith}
use Rattle.std.specs.Prelude.{Contains}
use Rattle.cc_meaning.specs.declared.file.ClassRow.{ClassRow}
use Rattle.cc_meaning.specs.declared.file.Ids.{Ids}
use Rattle.cc_meaning.specs.declared.file.RawClass.{RawClass}
use Rattle.cc_meaning_program.specs.Named.{type_name}
use Rattle.cc_meaning_program.specs.Definitions.{Defines}
use Rattle.cc_meaning_program.specs.ClassFaults.{AreSound}
use Rattle.cc_meaning_program.specs.Ancestry.{definition_of, stated_interfaces, interfaces_named, Superinterfaces, none, next}
use Rattle.cc_meaning_program.specs.SoundClimbing.{InterfacesHaveLists}
use Rattle.cc_program_laws.proofs.Upward.{Passes, upward}
use Rattle.cc_program_laws.proofs.Definitions.{defined}

-- these interfaces have the list of those above them
abbrev HaveList : Ids → List (List ℕ) → Type 0
HaveList ids names = (listed : List (List ℕ)) × Superinterfaces ids names listed

-- one more, where its own have a list
one_more : (ids : Ids) (name : List ℕ) (rest : List (List ℕ)) → HaveList ids (interfaces_named ids name) → HaveList ids rest → HaveList ids (name ∷ rest)
one_more ids name rest (above, upper) (behind, others) = (name ∷ above ++ behind, next upper others)

-- what a class names has a list where the first definition's interfaces have one
of_first : (ids : Ids) (name : List ℕ) → ((stated : ClassRow) → definition_of ids name ≡ Some stated → HaveList ids (map (type_name ids) stated.interfaces)) → HaveList ids (interfaces_named ids name)
unfolding interfaces_named stated_interfaces
of_first ids name where_defined = from (definition_of ids name) refl
  where
    from : (found : Option ClassRow) → definition_of ids name ≡ found → HaveList ids (stated_interfaces ids found)
    from None is = ([], none)
    from (Some stated) is = where_defined stated is

-- the interfaces of a definition have a list
abbrev HasList : Ids → ℕ → Type 0
HasList ids number = (stated : ClassRow) → slice_get ids.classes number ≡ Some stated → HaveList ids (map (type_name ids) stated.interfaces)

-- where those of each definition of one of these types have one, so have these
of_types : (ids : Ids) (types : List ℕ) → ((type number : ℕ) → Contains types type → Defines ids number (type_name ids type) → HasList ids number) → HaveList ids (map (type_name ids) types)
of_types ids [] each = ([], none)
of_types ids (type ∷ types) each =
    one_more ids (type_name ids type) (map (type_name ids) types)
    (of_first ids (type_name ids type) (λ stated is.
    let d = defined ids (type_name ids type) stated is in
    each type d.number (0, omega arith, refl) d.defines stated d.there))
    (of_types ids types (λ other number (k, within, is). each other number (suc k, omega (arith, within), is)))

passes : (ids : Ids) → Passes ids (HasList ids)
passes ids number above stated there =
    of_types ids stated.interfaces (λ type other named d. above other (inr (record { stated = stated; there = there; type = type; implemented = named; defined = d })))

of_names : (ids : Ids) (classes : List RawClass) → AreSound ids classes → (names : List (List ℕ)) → HaveList ids names
of_names ids classes sound [] = ([], none)
of_names ids classes sound (name ∷ names) =
    one_more ids name names
    (of_first ids name (λ stated is.
    let d = defined ids name stated is in
    upward ids classes sound (HasList ids) (passes ids) d.number d.within stated d.there))
    (of_names ids classes sound names)

pub interfaces_have_lists : InterfacesHaveLists
interfaces_have_lists = of_names
