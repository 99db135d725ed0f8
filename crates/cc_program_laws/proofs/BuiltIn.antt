-- The classes above a built-in class.
use Rattle.std.proofs.Common.{◌≡◌, ℕ, Bool, true, false, cond, ◌||◌, List, [], ◌∷◌, Some, refl, ap, subst, ◌∙◌}
use Rattle.std.specs.List.{list_any, AllByRecursion}
use Rattle.std.specs.Str.{bytes_eq}
use Rattle.std.proofs.lemmas.Slice.Eq.{bytes_eq-Decides}
use Rattle.cc_meaning.specs.declared.file.Ids.{Ids}
use Rattle.cc_meaning.specs.declared.program.ClassKind.{ClassKind}
use Rattle.cc_meaning.specs.declared.program.ClassKind.TheVariants.{File, BuiltIn, Array}
use Rattle.cc_meaning.specs.BuiltIn.{BuiltInClass, built_in_classes, built_in_plain_classes, built_in_throwables, is_built_in, built_in_superclass, object_name, string_name, string_builder_name, system_name, print_stream_name, throwable_name, exception_name, error_name, runtime_exception_name, arithmetic_exception_name, null_pointer_exception_name, array_store_exception_name, class_cast_exception_name, index_out_of_bounds_exception_name, negative_array_size_exception_name, illegal_argument_exception_name, illegal_state_exception_name, array_index_out_of_bounds_exception_name, string_index_out_of_bounds_exception_name, linkage_error_name, virtual_machine_error_name, no_class_def_found_error_name, exception_in_initializer_error_name, incompatible_class_change_error_name, abstract_method_error_name, stack_overflow_error_name}
use Rattle.cc_meaning_dex.specs.Descriptors.{begins_with}
use Rattle.cc_meaning_program.specs.Ancestry.{is_defined, outside_kind, kind_of_class, superclass_by_kind, superclass_named, Ancestry, top, up}

-- a class has the list of the classes above it
abbrev pub HasAncestry : Ids → List ℕ → Type 0
HasAncestry ids name = (ancestors : List (List ℕ)) × Ancestry ids name ancestors

pub one_up : (ids : Ids) (name above : List ℕ) → superclass_named ids name ≡ Some above → HasAncestry ids above → HasAncestry ids name
one_up ids name above is (rest, higher) = (name ∷ rest, up is higher)

pub superclass_of_kind : (ids : Ids) (name : List ℕ) (kind : ClassKind) → kind_of_class ids name ≡ kind → superclass_named ids name ≡ superclass_by_kind ids name kind
unfolding superclass_named
superclass_of_kind ids name kind is = ap (superclass_by_kind ids name) is

kind_of_built_in : (ids : Ids) (name : List ℕ) → is_built_in name ≡ true → kind_of_class ids name ≡ BuiltIn
unfolding kind_of_class
kind_of_built_in ids name is = ap (λ tested. cond tested BuiltIn (cond (is_defined ids name) File (cond (begins_with 91 name) Array (outside_kind name)))) is

superclass_of_built_in : (ids : Ids) (name : List ℕ) → is_built_in name ≡ true → superclass_named ids name ≡ built_in_superclass name
unfolding superclass_by_kind
superclass_of_built_in ids name is = superclass_of_kind ids name BuiltIn (kind_of_built_in ids name is)

-- a built-in class below one that has its list
below_known : (ids : Ids) (above name : List ℕ) → is_built_in name ≡ true → built_in_superclass name ≡ Some above → HasAncestry ids above → HasAncestry ids name
below_known ids above name is stated = one_up ids name above (superclass_of_built_in ids name is ∙ stated)

-- each class of these has the list of those above it
abbrev HaveAncestries : Ids → List BuiltInClass → Type 0
HaveAncestries ids classes = AllByRecursion (λ (class : BuiltInClass). HasAncestry ids class.name) classes

all_built_in : (ids : Ids) → HaveAncestries ids built_in_classes
unfolding built_in_classes built_in_plain_classes built_in_throwables object_name string_name string_builder_name system_name print_stream_name throwable_name exception_name error_name runtime_exception_name arithmetic_exception_name null_pointer_exception_name array_store_exception_name class_cast_exception_name index_out_of_bounds_exception_name negative_array_size_exception_name illegal_argument_exception_name illegal_state_exception_name array_index_out_of_bounds_exception_name string_index_out_of_bounds_exception_name linkage_error_name virtual_machine_error_name no_class_def_found_error_name exception_in_initializer_error_name incompatible_class_change_error_name abstract_method_error_name stack_overflow_error_name
all_built_in ids =
    let object : HasAncestry ids object_name = (object_name ∷ [], top (superclass_of_built_in ids object_name refl)) in
    let throwable = below_known ids object_name throwable_name refl refl object in
    let exception = below_known ids throwable_name exception_name refl refl throwable in
    let error = below_known ids throwable_name error_name refl refl throwable in
    let runtime_exception = below_known ids exception_name runtime_exception_name refl refl exception in
    let index_out_of_bounds_exception = below_known ids runtime_exception_name index_out_of_bounds_exception_name refl refl runtime_exception in
    let linkage_error = below_known ids error_name linkage_error_name refl refl error in
    let virtual_machine_error = below_known ids error_name virtual_machine_error_name refl refl error in
    let incompatible_class_change_error = below_known ids linkage_error_name incompatible_class_change_error_name refl refl linkage_error in (
      object,
      (
        below_known ids object_name string_name refl refl object,
        (
          below_known ids object_name string_builder_name refl refl object,
          (
            below_known ids object_name system_name refl refl object,
            (
              below_known ids object_name print_stream_name refl refl object,
              (
                throwable,
                (
                  exception,
                  (
                    error,
                    (
                      runtime_exception,
                      (
                        below_known ids runtime_exception_name arithmetic_exception_name refl refl runtime_exception,
                        (
                          below_known ids runtime_exception_name null_pointer_exception_name refl refl runtime_exception,
                          (
                            below_known ids runtime_exception_name array_store_exception_name refl refl runtime_exception,
                            (
                              below_known ids runtime_exception_name class_cast_exception_name refl refl runtime_exception,
                              (
                                index_out_of_bounds_exception,
                                (
                                  below_known ids runtime_exception_name negative_array_size_exception_name refl refl runtime_exception,
                                  (
                                    below_known ids runtime_exception_name illegal_argument_exception_name refl refl runtime_exception,
                                    (
                                      below_known ids runtime_exception_name illegal_state_exception_name refl refl runtime_exception,
                                      (
                                        below_known ids index_out_of_bounds_exception_name array_index_out_of_bounds_exception_name refl refl index_out_of_bounds_exception,
                                        (
                                          below_known ids index_out_of_bounds_exception_name string_index_out_of_bounds_exception_name refl refl index_out_of_bounds_exception,
                                          (
                                            linkage_error,
                                            (
                                              virtual_machine_error,
                                              (
                                                below_known ids linkage_error_name no_class_def_found_error_name refl refl linkage_error,
                                                (
                                                  below_known ids linkage_error_name exception_in_initializer_error_name refl refl linkage_error,
                                                  (
                                                    incompatible_class_change_error,
                                                    (
                                                      below_known ids incompatible_class_change_error_name abstract_method_error_name refl refl incompatible_class_change_error,
                                                      (
                                                        below_known ids virtual_machine_error_name stack_overflow_error_name refl refl virtual_machine_error,
                                                        tt,
                                                      ),
                                                    ),
                                                  ),
                                                ),
                                              ),
                                            ),
                                          ),
                                        ),
                                      ),
                                    ),
                                  ),
                                ),
                              ),
                            ),
                          ),
                        ),
                      ),
                    ),
                  ),
                ),
              ),
            ),
          ),
        ),
      ),
    )

one_of_all : (ids : Ids) (name : List ℕ) (classes : List BuiltInClass) → HaveAncestries ids classes → list_any (λ (class : BuiltInClass). bytes_eq class.name name) classes ≡ true → HasAncestry ids name
one_of_all ids name [] all is = absurd cc
one_of_all ids name (class ∷ classes) (here, behind) is = from (bytes_eq class.name name) refl is (λ rest. one_of_all ids name classes behind rest)
  where
    from : (same : Bool) → bytes_eq class.name name ≡ same → (same || list_any (λ (other : BuiltInClass). bytes_eq other.name name) classes) ≡ true →
        (list_any (λ (other : BuiltInClass). bytes_eq other.name name) classes ≡ true → HasAncestry ids name) → HasAncestry ids name
    from true same any rest = subst (HasAncestry ids) ((bytes_eq-Decides class.name name).0 same) here
    from false apart any rest = rest any

pub of_built_in : (ids : Ids) (name : List ℕ) → is_built_in name ≡ true → HasAncestry ids name
of_built_in ids name is = one_of_all ids name built_in_classes (all_built_in ids) is

-- the superclasses of outside classes and of arrays are built in
pub record AreBuiltIn : Type 0 where
  pub object : is_built_in object_name ≡ true
  pub exception : is_built_in exception_name ≡ true
  pub error : is_built_in error_name ≡ true

pub are_built_in : AreBuiltIn
unfolding built_in_classes built_in_plain_classes built_in_throwables object_name string_name string_builder_name system_name print_stream_name throwable_name exception_name error_name
are_built_in = record { object = refl; exception = refl; error = refl }
