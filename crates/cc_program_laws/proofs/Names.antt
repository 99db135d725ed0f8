-- What names name in a program of a file, and what stands above its classes.
use Rattle.std.proofs.Common.{◌≡◌, ◌⊎◌, inl, inr, ℕ, zero, suc, Bool, true, false, List, [], ◌∷◌, Option, Some, None, cond, refl, sym, ap, ◌∙◌, subst, arith}
use Rattle.std.specs.Prelude.{slice_get, find, drop, option_and_then, option_map, if◌then◌else◌, ◌||◌, is_some}
use Rattle.std.specs.List.{list_any}
use Rattle.std.specs.Str.{bytes_eq}
use Rattle.std.proofs.lemmas.List.Folds.{list_any_at}
use Rattle.cc_meaning.specs.declared.file.ClassRow.{ClassRow}
use Rattle.cc_meaning.specs.declared.file.Ids.{Ids}
use Rattle.cc_meaning.specs.declared.file.RawClass.{RawClass}
use Rattle.cc_meaning.specs.declared.program.ClassKind.TheVariants.{File, BuiltIn, Outside, OutsideError, Array}
use Rattle.cc_meaning.specs.BuiltIn.{BuiltInClass, built_in_plain_classes, built_in_throwables, built_in_classes, built_in_class, built_in_superclass, is_built_in, object_name, throwable_name, exception_name, runtime_exception_name, index_out_of_bounds_exception_name, error_name, linkage_error_name, incompatible_class_change_error_name, virtual_machine_error_name}
use Rattle.cc_meaning_dex.specs.Descriptors.{begins_with}
use Rattle.cc_meaning_program.specs.ClassFaults.{AreSound, HasNoSuperclass}
use Rattle.cc_meaning_program.specs.ClassNames.{IsClassName}
use Rattle.cc_meaning_program.specs.Named.{type_name}
use Rattle.cc_meaning_program.specs.Ancestry.{definition_of, is_defined, is_exception, is_error, kind_of_class, outside_kind, superclass_by_kind, superclass_named, stated_superclass}
use Rattle.cc_meaning_program.specs.Rows.{FitTables}
use Rattle.cc_program_laws.proofs.Lists.{same_bytes, bytes_same, some_same, some_mapped, found_is}

-- ---- built-in classes

abbrev some_class : BuiltInClass
some_class = record { name = []; superclass = None }

pub object_in : is_built_in object_name ≡ true
unfolding built_in_classes built_in_plain_classes built_in_throwables
object_in = list_any_at (λ (class : BuiltInClass). bytes_eq class.name object_name) built_in_classes 0 some_class (omega arith) (bytes_same object_name)

pub throwable_in : is_built_in throwable_name ≡ true
unfolding built_in_classes built_in_plain_classes built_in_throwables
throwable_in = list_any_at (λ (class : BuiltInClass). bytes_eq class.name throwable_name) built_in_classes 5 some_class (omega arith) (bytes_same throwable_name)

pub exception_in : is_built_in exception_name ≡ true
unfolding built_in_classes built_in_plain_classes built_in_throwables
exception_in = list_any_at (λ (class : BuiltInClass). bytes_eq class.name exception_name) built_in_classes 6 some_class (omega arith) (bytes_same exception_name)

pub runtime_exception_in : is_built_in runtime_exception_name ≡ true
unfolding built_in_classes built_in_plain_classes built_in_throwables
runtime_exception_in = list_any_at (λ (class : BuiltInClass). bytes_eq class.name runtime_exception_name) built_in_classes 8 some_class (omega arith) (bytes_same runtime_exception_name)

pub index_out_of_bounds_exception_in : is_built_in index_out_of_bounds_exception_name ≡ true
unfolding built_in_classes built_in_plain_classes built_in_throwables
index_out_of_bounds_exception_in = list_any_at (λ (class : BuiltInClass). bytes_eq class.name index_out_of_bounds_exception_name) built_in_classes 13 some_class (omega arith) (bytes_same index_out_of_bounds_exception_name)

pub error_in : is_built_in error_name ≡ true
unfolding built_in_classes built_in_plain_classes built_in_throwables
error_in = list_any_at (λ (class : BuiltInClass). bytes_eq class.name error_name) built_in_classes 7 some_class (omega arith) (bytes_same error_name)

pub linkage_error_in : is_built_in linkage_error_name ≡ true
unfolding built_in_classes built_in_plain_classes built_in_throwables
linkage_error_in = list_any_at (λ (class : BuiltInClass). bytes_eq class.name linkage_error_name) built_in_classes 19 some_class (omega arith) (bytes_same linkage_error_name)

pub incompatible_class_change_error_in : is_built_in incompatible_class_change_error_name ≡ true
unfolding built_in_classes built_in_plain_classes built_in_throwables
incompatible_class_change_error_in = list_any_at (λ (class : BuiltInClass). bytes_eq class.name incompatible_class_change_error_name) built_in_classes 23 some_class (omega arith) (bytes_same incompatible_class_change_error_name)

pub virtual_machine_error_in : is_built_in virtual_machine_error_name ≡ true
unfolding built_in_classes built_in_plain_classes built_in_throwables
virtual_machine_error_in = list_any_at (λ (class : BuiltInClass). bytes_eq class.name virtual_machine_error_name) built_in_classes 20 some_class (omega arith) (bytes_same virtual_machine_error_name)

-- Object has no superclass, and each other built-in class one that is built in
abbrev HasAbove : BuiltInClass → Type 0
HasAbove class = ((class.superclass ≡ None) × (class.name ≡ object_name)) ⊎ ((above : List ℕ) × (class.superclass ≡ Some above) × (is_built_in above ≡ true))

abbrev AllHave : List BuiltInClass → Type 0
AllHave [] = Unit {0}
AllHave (class ∷ classes) = HasAbove class × AllHave classes

all_have : AllHave built_in_classes
unfolding built_in_classes built_in_plain_classes built_in_throwables
all_have = (inl (refl, refl), (inr (object_name, refl, object_in), (inr (object_name, refl, object_in), (inr (object_name, refl, object_in), (inr (object_name, refl, object_in), (inr (object_name, refl, object_in), (inr (throwable_name, refl, throwable_in), (inr (throwable_name, refl, throwable_in), (inr (exception_name, refl, exception_in), (inr (runtime_exception_name, refl, runtime_exception_in), (inr (runtime_exception_name, refl, runtime_exception_in), (inr (runtime_exception_name, refl, runtime_exception_in), (inr (runtime_exception_name, refl, runtime_exception_in), (inr (runtime_exception_name, refl, runtime_exception_in), (inr (runtime_exception_name, refl, runtime_exception_in), (inr (runtime_exception_name, refl, runtime_exception_in), (inr (runtime_exception_name, refl, runtime_exception_in), (inr (index_out_of_bounds_exception_name, refl, index_out_of_bounds_exception_in), (inr (index_out_of_bounds_exception_name, refl, index_out_of_bounds_exception_in), (inr (error_name, refl, error_in), (inr (error_name, refl, error_in), (inr (linkage_error_name, refl, linkage_error_in), (inr (linkage_error_name, refl, linkage_error_in), (inr (linkage_error_name, refl, linkage_error_in), (inr (incompatible_class_change_error_name, refl, incompatible_class_change_error_in), (inr (virtual_machine_error_name, refl, virtual_machine_error_in), tt))))))))))))))))))))))))))

has_at : (classes : List BuiltInClass) (k : ℕ) (class : BuiltInClass) → AllHave classes → slice_get classes k ≡ Some class → HasAbove class
has_at [] k class all e = absurd cc
has_at (first ∷ rest) zero class all e = subst HasAbove (some_same first class e) all.0
has_at (first ∷ rest) (suc k) class all e = has_at rest k class all.1 e

any_first : {A : Type 0} (test : A → Bool) (y : A) (ys : List A) (r : Bool) → test y ≡ r → (r || list_any test ys) ≡ true → (list_any test ys ≡ true → (x : A) × (find test ys ≡ Some x)) →
    (x : A) × (cond r (Some y) (find test ys) ≡ Some x)
any_first test y ys true is e rest = (y, refl)
any_first test y ys false is e rest = rest e

pub any_found : {A : Type 0} (test : A → Bool) (xs : List A) → list_any test xs ≡ true → (x : A) × (find test xs ≡ Some x)
any_found test [] e = absurd cc
any_found test (y ∷ ys) e = any_first test y ys (test y) refl e (any_found test ys)

-- what is above a built-in class
built_in_above : (name : List ℕ) → is_built_in name ≡ true → ((built_in_superclass name ≡ None) × (name ≡ object_name)) ⊎ ((above : List ℕ) × (built_in_superclass name ≡ Some above) × (is_built_in above ≡ true))
built_in_above name e =
    let test : BuiltInClass → Bool = λ class. bytes_eq class.name name in
    let one = any_found test built_in_classes e in
    let found = found_is test built_in_classes one.0 one.1 in
    from one.0 one.1 (same_bytes one.0.name name found.0) (has_at built_in_classes found.1.0 one.0 all_have found.1.1)
  where
    from : (class : BuiltInClass) → built_in_class name ≡ Some class → class.name ≡ name → HasAbove class →
        ((built_in_superclass name ≡ None) × (name ≡ object_name)) ⊎ ((above : List ℕ) × (built_in_superclass name ≡ Some above) × (is_built_in above ≡ true))
    from class there named (inl (none, object)) = inl (ap (λ found. option_and_then (λ (c : BuiltInClass). c.superclass) found) there ∙ none, sym named ∙ object)
    from class there named (inr (above, extends, built)) = inr (above, ap (λ found. option_and_then (λ (c : BuiltInClass). c.superclass) found) there ∙ extends, built)

-- ---- what is above a class

definition_at : (ids : Ids) (name : List ℕ) (stated : ClassRow) → definition_of ids name ≡ Some stated → (k : ℕ) × (slice_get ids.classes k ≡ Some stated)
unfolding definition_of
definition_at ids name stated e = (found_is (λ (row : ClassRow). bytes_eq (type_name ids row.class) name) ids.classes stated e).1

module _ (ids : Ids) (fit : FitTables ids) where
  stated_above : (o : Option ClassRow) (above : List ℕ) → ((stated : ClassRow) → o ≡ Some stated → (k : ℕ) × (slice_get ids.classes k ≡ Some stated)) → stated_superclass ids o ≡ Some above → IsClassName ids above
  unfolding stated_superclass
  stated_above None above there e = absurd cc
  stated_above (Some stated) above there e =
      let found = there stated refl in
      let type = some_mapped (type_name ids) stated.superclass above e in
      let row = (fit.classes found.0 stated found.1).superclass type.0 type.1 in
      subst (IsClassName ids) type.2 (IsClassName.listed row.there row.sorted)

  outside_above : (name above : List ℕ) (x r : Bool) → is_exception name ≡ x → superclass_by_kind ids name (if x then OutsideError else if r then OutsideError else Outside) ≡ Some above → IsClassName ids above
  unfolding superclass_by_kind
  outside_above name above true r is e =
      let named : exception_name ≡ above = some_same exception_name above (sym (ap (λ b. Some (if b then exception_name else error_name)) is) ∙ e) in
      subst (IsClassName ids) named (IsClassName.built_in exception_in)
  outside_above name above false true is e =
      let named : error_name ≡ above = some_same error_name above (sym (ap (λ b. Some (if b then exception_name else error_name)) is) ∙ e) in
      subst (IsClassName ids) named (IsClassName.built_in error_in)
  outside_above name above false false is e = subst (IsClassName ids) (some_same object_name above e) (IsClassName.built_in object_in)

  above_by : (name above : List ℕ) (b d a : Bool) → is_built_in name ≡ b → superclass_by_kind ids name (if b then BuiltIn else if d then File else if a then Array else outside_kind name) ≡ Some above → IsClassName ids above
  unfolding superclass_by_kind outside_kind
  above_by name above true d a is e = from (built_in_above name is)
    where
      from : ((built_in_superclass name ≡ None) × (name ≡ object_name)) ⊎ ((other : List ℕ) × (built_in_superclass name ≡ Some other) × (is_built_in other ≡ true)) → IsClassName ids above
      from (inl (none, object)) = absurd cc
      from (inr (other, extends, built)) = subst (IsClassName ids) (some_same other above (sym extends ∙ e)) (IsClassName.built_in built)
  above_by name above false true a is e = stated_above (definition_of ids name) above (definition_at ids name) e
  above_by name above false false true is e = subst (IsClassName ids) (some_same object_name above e) (IsClassName.built_in object_in)
  above_by name above false false false is e = outside_above name above (is_exception name) (is_error name) refl e

  -- the superclass of a class is a class of the program
  pub above_is_class : (name above : List ℕ) → superclass_named ids name ≡ Some above → IsClassName ids above
  unfolding superclass_named kind_of_class
  above_is_class name above e = above_by name above (is_built_in name) (is_defined ids name) (begins_with 91 name) refl e

-- ---- the topmost class

module _ (ids : Ids) (classes : List RawClass) (sound : AreSound ids classes) where
  stated_top : (o : Option ClassRow) → is_some o ≡ true → ((stated : ClassRow) → o ≡ Some stated → (k : ℕ) × (slice_get ids.classes k ≡ Some stated)) → stated_superclass ids o ≡ None → ⊥
  unfolding stated_superclass
  stated_top None some there e = cc
  stated_top (Some stated) some there e =
      let found = there stated refl in
      sound.extended found.0 (record { stated = stated; there = found.1; lacks = no_superclass stated.superclass refl e })
    where
      no_superclass : (o : Option ℕ) → stated.superclass ≡ o → option_map (type_name ids) o ≡ None → HasNoSuperclass ids o
      no_superclass None is none = tt
      no_superclass (Some type) is none = absurd cc

  outside_top : (name : List ℕ) (x r : Bool) → superclass_by_kind ids name (if x then OutsideError else if r then OutsideError else Outside) ≡ None → ⊥
  unfolding superclass_by_kind
  outside_top name true r e = cc
  outside_top name false true e = cc
  outside_top name false false e = cc

  top_by : (name : List ℕ) (b d a : Bool) → is_built_in name ≡ b → is_defined ids name ≡ d → superclass_by_kind ids name (if b then BuiltIn else if d then File else if a then Array else outside_kind name) ≡ None → name ≡ object_name
  unfolding superclass_by_kind outside_kind is_defined
  top_by name true d a is has e = from (built_in_above name is)
    where
      from : ((built_in_superclass name ≡ None) × (name ≡ object_name)) ⊎ ((other : List ℕ) × (built_in_superclass name ≡ Some other) × (is_built_in other ≡ true)) → name ≡ object_name
      from (inl (none, object)) = object
      from (inr (other, extends, built)) = absurd cc
  top_by name false true a is has e = absurd (stated_top (definition_of ids name) has (definition_at ids name) e)
  top_by name false false true is has e = absurd cc
  top_by name false false false is has e = absurd (outside_top name (is_exception name) (is_error name) e)

  -- Object alone has none
  pub top_is_object : (name : List ℕ) → superclass_named ids name ≡ None → name ≡ object_name
  unfolding superclass_named kind_of_class
  top_is_object name e = top_by name (is_built_in name) (is_defined ids name) (begins_with 91 name) refl refl e

first_built_in : built_in_superclass object_name ≡ None
unfolding built_in_classes built_in_plain_classes
first_built_in =
    ap
    (λ b. option_and_then (λ (c : BuiltInClass). c.superclass) (cond b (Some (record { name = object_name; superclass = None })) (find (λ (class : BuiltInClass). bytes_eq class.name object_name) (drop 1 built_in_classes))))
    (bytes_same object_name)

pub object_has_none : (ids : Ids) → superclass_named ids object_name ≡ None
unfolding superclass_named superclass_by_kind kind_of_class
object_has_none ids =
    ap (λ b. superclass_by_kind ids object_name (if b then BuiltIn else if is_defined ids object_name then File else if begins_with 91 object_name then Array else outside_kind object_name)) object_in
    ∙ first_built_in
