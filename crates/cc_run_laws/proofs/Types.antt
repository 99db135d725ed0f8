-- The types of a file's program: of a built-in name, and of a class that is an array.
use Rattle.std.proofs.Common.{unwrap_or, ◌≡◌, ◌≢◌, ℕ, zero, suc, ◌≤◌, Bool, true, false, eqb, ◌||◌, cond, List, [], ◌∷◌, ◌++◌, replicate, Option, Some, None, refl, sym, ap, ◌∙◌, subst, arith, slice_get, slice_index_or}
use Rattle.std.specs.Prelude.{is_some, codes, slice_index, find, if◌then◌else◌}
use Rattle.std.specs.Str.{bytes_eq}
use Rattle.std.proofs.lemmas.Bool.Decides.{Decides-eqb, nat_tests}
use Rattle.std.proofs.lemmas.Option.{get_or_from_slice_get}
use Rattle.cc_meaning.specs.declared.file.ClassRow.{ClassRow}
use Rattle.cc_meaning.specs.declared.file.Ids.{Ids}
use Rattle.cc_meaning.specs.declared.file.RawClass.{RawClass}
use Rattle.cc_meaning.specs.declared.program.Base.{Base}
use Rattle.cc_meaning.specs.declared.program.Base.TheVariants as base
use Rattle.cc_meaning.specs.declared.program.Class.{Class}
use Rattle.cc_meaning.specs.declared.program.ClassKind.TheVariants as origin
use Rattle.cc_meaning.specs.declared.program.DexType.{DexType}
use Rattle.cc_meaning.specs.declared.program.Program.{Program}
use Rattle.cc_meaning.specs.BuiltIn.{is_built_in}
use Rattle.cc_meaning.specs.Lookup.{class_named}
use Rattle.cc_meaning.specs.Names.{name_or_none, class_name, base_descriptor, descriptor}
use Rattle.cc_meaning_dex.specs.Descriptors.{begins_with, names_class}
use Rattle.cc_meaning_program.specs.Ancestry.{definition_of, is_defined, kind_of_class, outside_kind}
use Rattle.cc_meaning_program.specs.ClassFaults.{AreSound}
use Rattle.cc_meaning_program.specs.ClassNames.{texts_name, IsClassName}
use Rattle.cc_meaning_program.specs.Named.{type_name}
use Rattle.cc_meaning_program.specs.Programs.{IsProgram}
use Rattle.cc_meaning_program.specs.Resolved.{names_of}
use Rattle.cc_meaning_program.specs.Rows.{FitTables}
use Rattle.cc_meaning_program.specs.TypeNames.{base_spelled, type_spelled, IsBase, Spells}
use Rattle.cc_meaning_program.proofs.Spelling.{spelled_once}
use Rattle.cc_meaning_typing.specs.Complete.{IsComplete, BaseStands}
use Rattle.cc_meaning_typing.specs.Code.{is_array_of, is_array, brackets, behind_brackets, base_of, type_of_kind, type_of_found, type_of_class}
use Rattle.cc_meaning_typing.specs.Hierarchy.{superclass_in, superclass_of, object_class}
use Rattle.cc_meaning_typing.specs.Types.{typed, class_type}
use Rattle.cc_meaning_world.specs.Sorts.{number_of}
use Rattle.cc_program_laws.proofs.Hierarchy.{numbered}
use Rattle.cc_program_laws.proofs.Lists.{same_bytes, bytes_differ, found_is, found_contained, mapped_found}
use Rattle.cc_run_laws.proofs.BuiltNames.{built_in_begins}
use Rattle.cc_run_laws.proofs.Built.{built, called_so}

-- ---- names

-- no name begins like a class and like an array
pub two_firsts : (name : List ℕ) → names_class name ≡ true → begins_with 91 name ≡ true → ⊥
two_firsts name class array =
    let one : slice_index name 0 ≡ 76 = (Decides-eqb (slice_index name 0) 76).0 class in
    let other : slice_index name 0 ≡ 91 = (Decides-eqb (slice_index name 0) 91).0 array in
    omega (arith, one, other)

-- the name of a class has no bracket in front
class_brackets : (name : List ℕ) → names_class name ≡ true → (brackets name ≡ 0) × (behind_brackets name ≡ name)
unfolding brackets behind_brackets
class_brackets [] e = (refl, refl)
class_brackets (u ∷ us) e =
    let other : eqb u 91 ≡ false = grind (arith, nat_tests) in
    (ap (λ b. cond b (suc (brackets us)) 0) other, ap (λ b. cond b (behind_brackets us) (u ∷ us)) other)

more_brackets : (n : ℕ) (name : List ℕ) → (brackets name ≡ 0) × (behind_brackets name ≡ name) → (brackets (replicate n 91 ++ name) ≡ n) × (behind_brackets (replicate n 91 ++ name) ≡ name)
unfolding brackets behind_brackets
more_brackets zero name e = e
more_brackets (suc n) name e = let r = more_brackets n name e in (ap suc r.0, r.1)

-- what stands behind the brackets has none in front
pub behind_begins : (name : List ℕ) → begins_with 91 (behind_brackets name) ≡ true → ⊥
unfolding behind_brackets
behind_begins [] e = cc
behind_begins (u ∷ us) e = by (eqb u 91) refl e (behind_begins us)
  where
    by : (b : Bool) → eqb u 91 ≡ b → begins_with 91 (cond b (behind_brackets us) (u ∷ us)) ≡ true → (begins_with 91 (behind_brackets us) ≡ true → ⊥) → ⊥
    by true q e rest = rest e
    by false q e rest = cc

-- the base of a name of a class
class_base : (p : Program) (name : List ℕ) → names_class name ≡ true → base_of p name ≡ base.Class (unwrap_or (class_named name p) 0)
unfolding base_of
class_base p name e =
    let no : (letter : List ℕ) → names_class letter ≡ false → bytes_eq name letter ≡ false = λ letter f. bytes_differ name letter (λ q. let r = ap names_class q in cc) in
    rw (no (codes "Z") refl) (rw (no (codes "B") refl) (rw (no (codes "S") refl) (rw (no (codes "C") refl) (rw (no (codes "I") refl) (rw (no (codes "J") refl) refl)))))

-- ---- a program of a file

module _ (ids : Ids) (classes : List RawClass) (asked : Option (List ℕ)) (p : Program) (fit : FitTables ids) (sound : AreSound ids classes) (is : IsProgram ids classes asked p) (whole : IsComplete p) where
  -- a defined class is named as classes are
  defined_begins : (name : List ℕ) → is_defined ids name ≡ true → names_class name ≡ true
  unfolding is_defined definition_of
  defined_begins name e = by (find (λ (stated : ClassRow). bytes_eq (type_name ids stated.class) name) ids.classes) refl e
    where
      by : (o : Option ClassRow) → find (λ (stated : ClassRow). bytes_eq (type_name ids stated.class) name) ids.classes ≡ o → is_some o ≡ true → names_class name ≡ true
      by None q e = absurd cc
      by (Some stated) q e =
          let found = found_is (λ (row : ClassRow). bytes_eq (type_name ids row.class) name) ids.classes stated q in
          subst (λ n. names_class n ≡ true) (same_bytes (type_name ids stated.class) name found.0) (fit.classes found.1.0 stated found.1.1).class.sorted

  -- what begins like an array is one
  pub array_kind : (name : List ℕ) → begins_with 91 name ≡ true → kind_of_class ids name ≡ origin.Array
  unfolding kind_of_class
  array_kind name e = by (is_built_in name) (is_defined ids name) refl refl
    where
      by : (b d : Bool) → is_built_in name ≡ b → is_defined ids name ≡ d → (if b then origin.BuiltIn else if d then origin.File else if begins_with 91 name then origin.Array else outside_kind name) ≡ origin.Array
      by true d q r = absurd (two_firsts name (built_in_begins name q) e)
      by false true q r = absurd (two_firsts name (defined_begins name r) e)
      by false false q r = ap (λ a. if a then origin.Array else outside_kind name) e

  plain_begins : (name : List ℕ) → IsClassName ids name → kind_of_class ids name ≢ origin.Array → names_class name ≡ true
  unfolding texts_name
  plain_begins name (IsClassName.listed {type = type} there named) plain = by (begins_with 76 name) refl named
    where
      by : (b : Bool) → begins_with 76 name ≡ b → (b || begins_with 91 name) ≡ true → names_class name ≡ true
      by true q e = q
      by false q e = absurd (plain (array_kind name e))
  plain_begins name (IsClassName.element {type = type} there named) plain = named
  plain_begins name (IsClassName.built_in b) plain = built_in_begins name b
  plain_begins name IsClassName.texts plain = absurd (plain (array_kind name refl))

  -- a class that is no array is named as classes are
  pub class_begins : (n : ℕ) (c : Class) → slice_get p.classes n ≡ Some c → c.kind ≢ origin.Array → names_class c.name ≡ true
  unfolding names_of
  class_begins n c e plain =
      let there = found_contained (names_of p) n c.name (mapped_found (λ (z : Class). z.name) p.classes n c e) in
      plain_begins c.name ((is.class_names.are c.name).0 there) (λ q. plain ((is.each_class n c e).kind ∙ q))

  -- ---- types that spell

  pub spells_class : (name : List ℕ) → is_built_in name ≡ true → Spells (names_of p) (class_type (number_of p name)) name
  unfolding type_spelled base_spelled names_of
  spells_class name b =
      let one = built p whole name b in
      let at : slice_index_or (names_of p) (number_of p name) [] ≡ name = get_or_from_slice_get (names_of p) (number_of p name) name [] (mapped_found (λ (z : Class). z.name) p.classes (number_of p name) one.class one.there ∙ ap Some one.called) in
      record { spelled = at; based = subst (λ n. names_class n ≡ true) (sym at) (built_in_begins name b); few = omega arith }

  -- what spells the name of a built-in class is that class
  pub class_spelled : (name : List ℕ) (type : DexType) → is_built_in name ≡ true → Spells (names_of p) type name → type ≡ class_type (number_of p name)
  class_spelled name type b s = spelled_once (names_of p) is.class_names.rise type (class_type (number_of p name)) name s (spells_class name b)

  pub spells_number : (type : DexType) (letter : List ℕ) → type_spelled (names_of p) type ≡ letter → IsBase (names_of p) type.base → type.dims ≤ 255 → Spells (names_of p) type letter
  spells_number type letter e b few = record { spelled = e; based = b; few = few }

  pub number_spelled : (kind : Base) (type : DexType) (letter : List ℕ) → IsBase (names_of p) kind → type_spelled (names_of p) (typed 0 kind) ≡ letter → Spells (names_of p) type letter → type ≡ typed 0 kind
  number_spelled kind type letter b e s = spelled_once (names_of p) is.class_names.rise type (typed 0 kind) letter s (record { spelled = e; based = b; few = omega arith })

  -- ---- arrays

  -- what stands for a base of which arrays are made
  base_is : (b : Base) → BaseStands p b → (brackets (base_descriptor p b) ≡ 0) × (behind_brackets (base_descriptor p b) ≡ base_descriptor p b) × (base_of p (base_descriptor p b) ≡ b)
  unfolding brackets behind_brackets base_of names_of
  base_is base.Boolean stands = (refl, refl, refl)
  base_is base.Byte stands = (refl, refl, refl)
  base_is base.Short stands = (refl, refl, refl)
  base_is base.Char stands = (refl, refl, refl)
  base_is base.Int stands = (refl, refl, refl)
  base_is base.Long stands = (refl, refl, refl)
  base_is (base.Class n) (found, there, plain) =
      let name : class_name p n ≡ found.name = ap name_or_none there in
      let begins : names_class (class_name p n) ≡ true = ap names_class name ∙ class_begins n found there plain in
      let none = class_brackets (class_name p n) begins in
      let number : class_named (class_name p n) p ≡ Some n = ap (λ m. class_named m p) name ∙ numbered ids classes asked p fit sound is n found.name (mapped_found (λ (z : Class). z.name) p.classes n found there) in
      (none.0, none.1, class_base p (class_name p n) begins ∙ ap (λ o. base.Class (unwrap_or o 0)) number)

  -- the class of an array's name is of that type, and Object alone is above it
  pub array_is : (type : DexType) (class : ℕ) → is_array type ≡ true → BaseStands p type.base → class_named (descriptor p type) p ≡ Some class → (type_of_class p class ≡ type) × (superclass_of p class ≡ Some (object_class p))
  unfolding is_array is_array_of type_of_class type_of_found type_of_kind superclass_of superclass_in
  array_is type class a stands e =
      let c = called_so p whole (descriptor p type) class e in
      let kind : c.0.kind ≡ origin.Array = (is.each_class class c.0 c.1).kind ∙ (ap (kind_of_class ids) c.2 ∙ array_kind (descriptor p type) (begins type.dims a)) in
      let b = base_is type.base stands in
      let m = more_brackets type.dims (base_descriptor p type.base) (b.0, b.1) in (
        ap (type_of_found p class) c.1 ∙ (ap (λ k. type_of_kind p class k c.0.name) kind
            ∙ (ap (λ n. typed (brackets n) (base_of p (behind_brackets n))) c.2
            ∙ (ap (λ n. typed n (base_of p (behind_brackets (descriptor p type)))) m.0 ∙ ap (λ n. typed type.dims n) (ap (base_of p) m.1 ∙ b.2)))),
        ap superclass_in c.1 ∙ ((whole.classes class c.0 c.1).below.array kind ∙ whole.well_formed.hierarchy.object),
      )
    where
      begins : (n : ℕ) → is_array_of n ≡ true → begins_with 91 (replicate n 91 ++ base_descriptor p type.base) ≡ true
      begins zero e = absurd cc
      begins (suc n) e = refl
