-- The names of a program's classes are descriptors, so that a whole name falls apart in one way.
use Rattle.std.proofs.Common.{◌≡◌, inl, inr, ℕ, zero, suc, Bool, true, false, eqb, ◌||◌, List, [], ◌∷◌, ◌++◌, drop, Option, Some, None, refl, sym, ap, ◌∙◌, subst, add-one, arith}
use Rattle.std.specs.Prelude.{unwrap_or, codes}
use Rattle.std.specs.List.{list_any}
use Rattle.std.specs.Str.{bytes_eq}
use Rattle.std.proofs.lemmas.Bool.Decides.{nat_tests}
use Rattle.std.proofs.lemmas.Slice.Eq.{bytes_eq-Decides}
use Rattle.std.proofs.lemmas.List.{append_cancel_left, append_assoc}
use Rattle.cc_meaning.specs.declared.file.Ids.{Ids}
use Rattle.cc_meaning.specs.BuiltIn.{BuiltInClass, built_in_classes, built_in_plain_classes, built_in_throwables, object_name, string_name, string_builder_name, system_name, print_stream_name, throwable_name, exception_name, error_name, runtime_exception_name, arithmetic_exception_name, null_pointer_exception_name, array_store_exception_name, class_cast_exception_name, index_out_of_bounds_exception_name, negative_array_size_exception_name, illegal_argument_exception_name, illegal_state_exception_name, array_index_out_of_bounds_exception_name, string_index_out_of_bounds_exception_name, linkage_error_name, virtual_machine_error_name, no_class_def_found_error_name, exception_in_initializer_error_name, incompatible_class_change_error_name, abstract_method_error_name, stack_overflow_error_name}
use Rattle.cc_meaning_dex.specs.Descriptors.{dims_of, dimensions, is_primitive, names_class, names_reference, IsValue, IsDescriptor}
use Rattle.cc_meaning_dex.specs.Rows.{descriptor_of}
use Rattle.cc_meaning_program.specs.ClassNames.{IsClassName, base_name, texts_name}
use Rattle.cc_meaning_program.specs.Named.{type_name}
use Rattle.cc_meaning_program.specs.Laws.{AreDescriptors}
use Rattle.cc_meaning_program.specs.Resolved.{whole_name}
use Rattle.cc_meaning_program.proofs.Splitting.{lead, to_semicolon, Leads, value_leads, descriptor_leads, same_lead}

-- ---- built-in classes

-- each of these classes' names leads
AllLead : List BuiltInClass → Type 0
AllLead [] = Unit {0}
AllLead (class ∷ classes) = Leads class.name × AllLead classes

one_of : (classes : List BuiltInClass) → AllLead classes → (name : List ℕ) → list_any (λ (class : BuiltInClass). bytes_eq class.name name) classes ≡ true → Leads name
unfolding AllLead
one_of [] all name is = absurd (cc)
one_of (class ∷ classes) all name is = from (bytes_eq class.name name) refl (one_of classes all.1 name)
  where
    from : (b : Bool) → bytes_eq class.name name ≡ b → (list_any (λ (class : BuiltInClass). bytes_eq class.name name) classes ≡ true → Leads name) → Leads name
    from true e others = subst Leads ((bytes_eq-Decides class.name name).0 e) all.0
    from false e others = others (sym (ap (λ b. b || list_any (λ (class : BuiltInClass). bytes_eq class.name name) classes) e) ∙ is)

built_in_lead : AllLead built_in_classes
unfolding built_in_classes built_in_plain_classes built_in_throwables AllLead lead to_semicolon object_name string_name string_builder_name system_name print_stream_name throwable_name exception_name error_name runtime_exception_name arithmetic_exception_name null_pointer_exception_name array_store_exception_name class_cast_exception_name index_out_of_bounds_exception_name negative_array_size_exception_name illegal_argument_exception_name illegal_state_exception_name array_index_out_of_bounds_exception_name string_index_out_of_bounds_exception_name linkage_error_name virtual_machine_error_name no_class_def_found_error_name exception_in_initializer_error_name incompatible_class_change_error_name abstract_method_error_name stack_overflow_error_name
built_in_lead = (λ rest. refl, (λ rest. refl, (λ rest. refl, (λ rest. refl, (λ rest. refl, (λ rest. refl, (λ rest. refl, (λ rest. refl, (λ rest. refl, (λ rest. refl, (λ rest. refl, (λ rest. refl, (λ rest. refl, (λ rest. refl, (λ rest. refl, (λ rest. refl, (λ rest. refl, (λ rest. refl, (λ rest. refl, (λ rest. refl, (λ rest. refl, (λ rest. refl, (λ rest. refl, (λ rest. refl, (λ rest. refl, (λ rest. refl, tt))))))))))))))))))))))))))

texts_lead : Leads texts_name
unfolding texts_name lead to_semicolon
texts_lead rest = refl

-- ---- listed types

not_none : (name : List ℕ) → name ≡ [] → names_reference name ≡ true → ⊥
not_none name none is = absurd (cc)

listed_leads : (ids : Ids) → AreDescriptors ids → (type : ℕ) (o : Option (List ℕ)) → descriptor_of ids type ≡ o → names_reference (unwrap_or o []) ≡ true → Leads (unwrap_or o [])
listed_leads ids are type None e is = absurd (not_none [] refl is)
listed_leads ids are type (Some name) e is = from (are type name e)
  where
    from : IsDescriptor name → Leads name
    from (inl void) = absurd (let no : names_reference name ≡ false = ap names_reference void in cc)
    from (inr value) = descriptor_leads name value

-- what stands behind brackets
behind_dimensions : (dims : ℕ) (base : List ℕ) → dims_of base ≡ 0 → drop (dims_of (dimensions dims ++ base)) (dimensions dims ++ base) ≡ base
unfolding dims_of
behind_dimensions zero base plain = ap (λ n. drop n base) plain
behind_dimensions (suc n) base plain = subst (λ k. drop k (91 ∷ dimensions n ++ base) ≡ base) (sym (add-one (dims_of (dimensions n ++ base)))) (behind_dimensions n base plain)

value_is_plain : (base : List ℕ) → IsValue base → dims_of base ≡ 0
unfolding dims_of
value_is_plain base (inl letter) = subst (λ b. dims_of b ≡ 0) (sym letter.2) (let bracket : eqb letter.0 91 ≡ false = from letter.0 letter.1 in rw bracket refl)
  where
    from : (u : ℕ) → is_primitive u ≡ true → eqb u 91 ≡ false
    from u is = grind (arith, nat_tests)
value_is_plain base (inr class) = ap dims_of class.form

element_leads : (ids : Ids) → AreDescriptors ids → (type : ℕ) (o : Option (List ℕ)) → descriptor_of ids type ≡ o → names_class (base_name (unwrap_or o [])) ≡ true → Leads (base_name (unwrap_or o []))
unfolding base_name dims_of
element_leads ids are type None e is = absurd (let no : names_class (base_name []) ≡ false = refl in cc)
element_leads ids are type (Some name) e is = from (are type name e)
  where
    from : IsDescriptor name → Leads (base_name name)
    from (inl void) = absurd (let no : names_class (base_name name) ≡ false = ap (λ n. names_class (base_name n)) void in cc)
    from (inr value) =
        subst Leads (sym (ap (λ n. drop (dims_of n) n) value.form ∙ behind_dimensions value.dims value.base (value_is_plain value.base value.value))) (value_leads value.base value.value)

-- ---- names of classes

pub class_name_leads : (ids : Ids) → AreDescriptors ids → (name : List ℕ) → IsClassName ids name → Leads name
unfolding type_name
class_name_leads ids are name (IsClassName.listed {type = type} there is) = listed_leads ids are type (descriptor_of ids type) refl is
class_name_leads ids are name (IsClassName.element {type = type} there is) = element_leads ids are type (descriptor_of ids type) refl is
class_name_leads ids are name (IsClassName.built_in is) = one_of built_in_classes built_in_lead name is
class_name_leads ids are name IsClassName.texts = texts_lead

-- ---- whole names

pub same_class : (a b x y : List ℕ) → Leads a → Leads b → whole_name a x ≡ whole_name b y → a ≡ b
unfolding whole_name
same_class a b x y leads also same =
    same_lead a b (codes "->" ++ x) (codes "->" ++ y) leads also (sym (append_assoc a (codes "->") x) ∙ (same ∙ append_assoc b (codes "->") y))

pub same_member : (a b x y : List ℕ) → Leads a → Leads b → whole_name a x ≡ whole_name b y → x ≡ y
unfolding whole_name
same_member a b x y leads also same =
    let class : a ≡ b = same_class a b x y leads also same in
    append_cancel_left (b ++ codes "->") x y (sym (ap (λ c. c ++ codes "->" ++ x) class) ∙ same)
