-- A class, its superclass, and so on up to Object.
use Rattle.std.proofs.Common.{◌≡◌, ◌⊎◌, inl, inr, ℕ, Bool, true, false, cond, List, Option, Some, None, slice_get, refl, sym, ap, subst, ◌∙◌}
use Rattle.std.specs.Prelude.{option_map, is_some}
use Rattle.cc_meaning.specs.declared.file.ClassRow.{ClassRow}
use Rattle.cc_meaning.specs.declared.file.Ids.{Ids}
use Rattle.cc_meaning.specs.declared.file.RawClass.{RawClass}
use Rattle.cc_meaning.specs.declared.program.ClassKind.{ClassKind}
use Rattle.cc_meaning.specs.declared.program.ClassKind.TheVariants.{File, BuiltIn, Outside, OutsideError, Array}
use Rattle.cc_meaning.specs.BuiltIn.{is_built_in, object_name, exception_name, error_name}
use Rattle.cc_meaning_dex.specs.Descriptors.{begins_with}
use Rattle.cc_meaning_program.specs.Named.{type_name}
use Rattle.cc_meaning_program.specs.ClassFaults.{AreSound, HasNoSuperclass}
use Rattle.cc_meaning_program.specs.Ancestry.{definition_of, is_defined, is_exception, is_error, outside_kind, kind_of_class, stated_superclass, superclass_by_kind, superclass_named}
use Rattle.cc_meaning_program.specs.SoundClimbing.{ClassesHaveAncestries}
use Rattle.cc_program_laws.proofs.Upward.{Passes, upward}
use Rattle.cc_program_laws.proofs.Definitions.{defined}
use Rattle.cc_program_laws.proofs.BuiltIn.{HasAncestry, one_up, superclass_of_kind, of_built_in, are_built_in}

-- ---- classes that aren't of the file

below_object : (ids : Ids) (name : List ℕ) (kind : ClassKind) → kind_of_class ids name ≡ kind → superclass_by_kind ids name kind ≡ Some object_name → HasAncestry ids name
below_object ids name kind is stated = one_up ids name object_name (superclass_of_kind ids name kind is ∙ stated) (of_built_in ids object_name are_built_in.object)

of_outside_error : (ids : Ids) (name : List ℕ) → kind_of_class ids name ≡ OutsideError → HasAncestry ids name
unfolding superclass_by_kind
of_outside_error ids name is = from (is_exception name) refl
  where
    from : (exception : Bool) → is_exception name ≡ exception → HasAncestry ids name
    from true e = one_up ids name exception_name (superclass_of_kind ids name OutsideError is ∙ ap (λ tested. Some (cond tested exception_name error_name)) e) (of_built_in ids exception_name are_built_in.exception)
    from false e = one_up ids name error_name (superclass_of_kind ids name OutsideError is ∙ ap (λ tested. Some (cond tested exception_name error_name)) e) (of_built_in ids error_name are_built_in.error)

-- ---- whether a class is of the file

-- its first definition
abbrev First : Ids → List ℕ → Type 0
First ids name = (stated : ClassRow) × (definition_of ids name ≡ Some stated)

kind_unless_built_in : (ids : Ids) (name : List ℕ) → is_built_in name ≡ false → kind_of_class ids name ≡ cond (is_defined ids name) File (cond (begins_with 91 name) Array (outside_kind name))
unfolding kind_of_class
kind_unless_built_in ids name other = ap (λ tested. cond tested BuiltIn (cond (is_defined ids name) File (cond (begins_with 91 name) Array (outside_kind name)))) other

outside_defined : (name : List ℕ) → (outside_kind name ≡ Outside) ⊎ (outside_kind name ≡ OutsideError)
unfolding outside_kind
outside_defined name = from (is_exception name) (is_error name)
  where
    from : (exception error : Bool) → (cond exception OutsideError (cond error OutsideError Outside) ≡ Outside) ⊎ (cond exception OutsideError (cond error OutsideError Outside) ≡ OutsideError)
    from true error = inr refl
    from false true = inr refl
    from false false = inl refl

-- by its kind a class is of the file, or has the list of those above it
by_kind : (ids : Ids) (name : List ℕ) → (kind_of_class ids name ≡ File → First ids name → HasAncestry ids name) → HasAncestry ids name
unfolding superclass_by_kind is_defined
by_kind ids name of_file = built_in_or_not (is_built_in name) refl
  where
    known_outside : kind_of_class ids name ≡ outside_kind name → (outside_kind name ≡ Outside) ⊎ (outside_kind name ≡ OutsideError) → HasAncestry ids name
    known_outside is (inl plain) = below_object ids name Outside (is ∙ plain) refl
    known_outside is (inr error) = of_outside_error ids name (is ∙ error)

    array_or_not : (array : Bool) → kind_of_class ids name ≡ cond array Array (outside_kind name) → HasAncestry ids name
    array_or_not true is = below_object ids name Array is refl
    array_or_not false is = known_outside is (outside_defined name)

    defined_or_not : (found : Option ClassRow) → definition_of ids name ≡ found → kind_of_class ids name ≡ cond (is_some found) File (cond (begins_with 91 name) Array (outside_kind name)) → HasAncestry ids name
    defined_or_not (Some stated) there is = of_file is (stated, there)
    defined_or_not None there is = array_or_not (begins_with 91 name) is

    built_in_or_not : (built_in : Bool) → is_built_in name ≡ built_in → HasAncestry ids name
    built_in_or_not true is = of_built_in ids name is
    built_in_or_not false other = defined_or_not (definition_of ids name) refl (kind_unless_built_in ids name other)

-- ---- classes of the file

-- a class of the file whose first definition has this number has the list of those above it
abbrev HasList : Ids → ℕ → Type 0
HasList ids number = (name : List ℕ) (stated : ClassRow) → kind_of_class ids name ≡ File → definition_of ids name ≡ Some stated → slice_get ids.classes number ≡ Some stated → HasAncestry ids name

superclass_stated : (ids : Ids) (name : List ℕ) (stated : ClassRow) (type : ℕ) → kind_of_class ids name ≡ File → definition_of ids name ≡ Some stated → stated.superclass ≡ Some type →
    superclass_named ids name ≡ Some (type_name ids type)
unfolding superclass_by_kind stated_superclass
superclass_stated ids name stated type is found extended =
    superclass_of_kind ids name File is ∙ ap (stated_superclass ids) found ∙ ap (option_map (type_name ids)) extended

passes : (ids : Ids) (classes : List RawClass) → AreSound ids classes → Passes ids (HasList ids)
passes ids classes sound number above name stated is found there = from stated.superclass refl
  where
    lacks : stated.superclass ≡ None → HasNoSuperclass ids stated.superclass
    lacks e = subst (HasNoSuperclass ids) (sym e) tt

    from : (superclass : Option ℕ) → stated.superclass ≡ superclass → HasAncestry ids name
    from None e = absurd (sound.extended number (record { stated = stated; there = there; lacks = lacks e }))
    from (Some type) e =
        one_up ids name (type_name ids type) (superclass_stated ids name stated type is found e)
        (by_kind ids (type_name ids type) (λ of_file (row, first).
        let d = defined ids (type_name ids type) row first in
        above d.number (inl (record { stated = stated; there = there; type = type; extended = e; defined = d.defines })) (type_name ids type) row of_file first d.there))

pub classes_have_ancestries : ClassesHaveAncestries
classes_have_ancestries ids classes sound name =
    by_kind ids name (λ of_file (stated, first).
    let d = defined ids name stated first in
    upward ids classes sound (HasList ids) (passes ids classes sound) d.number d.within name stated of_file first d.there)
