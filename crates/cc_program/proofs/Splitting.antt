-- A whole name has one class: no descriptor is the beginning of another.
use Rattle.std.proofs.Common.{◌≡◌, ◌≢◌, ◌⊎◌, inl, inr, ℕ, zero, suc, ◌+◌, ◌<◌, Bool, true, false, List, [], ◌∷◌, ◌++◌, length, Some, None, refl, sym, ap, ◌∙◌, subst, arith}
use Rattle.std.specs.Prelude.{slice_get, slice_index, drop, codes, IsTrue, if◌then◌else◌, ◌==◌, ◌&&◌, ◌||◌}
use Rattle.std.specs.List.{list_all, list_any}
use Rattle.std.proofs.lemmas.List.{append_assoc}
use Rattle.std.proofs.lemmas.Bool.Decides.{Decides-eqb}
use Rattle.std.specs.Str.{bytes_eq}
use Rattle.std.proofs.lemmas.Slice.Eq.{bytes_eq-Decides}
use Rattle.cc_meaning.specs.declared.file.Ids.{Ids}
use Rattle.cc_meaning.specs.BuiltIn.{BuiltInClass, built_in_classes, built_in_plain_classes, built_in_throwables, object_name, string_name, string_builder_name, system_name, print_stream_name, throwable_name, exception_name, error_name, runtime_exception_name, arithmetic_exception_name, null_pointer_exception_name, array_store_exception_name, class_cast_exception_name, index_out_of_bounds_exception_name, negative_array_size_exception_name, illegal_argument_exception_name, illegal_state_exception_name, array_index_out_of_bounds_exception_name, string_index_out_of_bounds_exception_name, linkage_error_name, virtual_machine_error_name, no_class_def_found_error_name, exception_in_initializer_error_name, incompatible_class_change_error_name, abstract_method_error_name, stack_overflow_error_name}
use Rattle.cc_meaning_program.specs.ClassNames.{IsClassName, base_name, texts_name}
use Rattle.cc_meaning_program.specs.Named.{type_name}
use Rattle.cc_meaning_program.specs.Rows.{FitTables}
use Rattle.cc_meaning_dex.specs.TableLaws.{DescriptorsAgree}
use Rattle.cc_meaning_dex.specs.Descriptors.{dimensions, dims_of, is_name_unit, is_primitive, is_descriptor, is_class_descriptor, paired_after, names_class, names_reference, begins_with, IsClassDescriptor, IsDescriptor, IsValue, IsValueDescriptor}

-- a descriptor that is none of V
pub record IsOfValue (name : List ℕ) : Type 0 where
  pub dims : ℕ
  pub base : List ℕ
  pub form : name ≡ dimensions dims ++ base
  pub value : IsValue base

both_true : (a b : Bool) → (a && b) ≡ true → (a ≡ true) × (b ≡ true)
both_true true b e = (refl, e)
both_true false b e = absurd cc

-- up to the first `;`
name_front : (these those x y : List ℕ) → list_all is_name_unit these ≡ true → list_all is_name_unit those ≡ true → these ++ 59 ∷ x ≡ those ++ 59 ∷ y → (these ≡ those) × (x ≡ y)
name_front [] [] x y plain other e = (refl, let f : 59 ∷ x ≡ 59 ∷ y = e in cc)
name_front [] (v ∷ those) x y plain other e =
    let head : v ≡ 59 = let f : 59 ∷ x ≡ v ∷ (those ++ 59 ∷ y) = e in cc in
    let bad : is_name_unit 59 ≡ true = subst (λ u. is_name_unit u ≡ true) head (both_true (is_name_unit v) (list_all is_name_unit those) other).0 in
    absurd cc
name_front (u ∷ these) [] x y plain other e =
    let head : u ≡ 59 = let f : u ∷ (these ++ 59 ∷ x) ≡ 59 ∷ y = e in cc in
    let bad : is_name_unit 59 ≡ true = subst (λ v. is_name_unit v ≡ true) head (both_true (is_name_unit u) (list_all is_name_unit these) plain).0 in
    absurd cc
name_front (u ∷ these) (v ∷ those) x y plain other e =
    let f : u ∷ (these ++ 59 ∷ x) ≡ v ∷ (those ++ 59 ∷ y) = e in
    let head : u ≡ v = cc in
    let rest : these ++ 59 ∷ x ≡ those ++ 59 ∷ y = cc in
    let more = name_front these those x y (both_true (is_name_unit u) (list_all is_name_unit these) plain).1 (both_true (is_name_unit v) (list_all is_name_unit those) other).1 rest in
    (ap (λ w. w ∷ these) head ∙ ap (λ ws. v ∷ ws) more.0, more.1)

behind_class : (name x : List ℕ) → (76 ∷ name ++ 59 ∷ []) ++ x ≡ 76 ∷ (name ++ 59 ∷ x)
behind_class name x = ap (λ ws. 76 ∷ ws) (append_assoc name (59 ∷ []) x)

letter_or_class : (u : ℕ) (rest x : List ℕ) → IsTrue (is_primitive u) → u ∷ x ≡ 76 ∷ rest → ⊥
letter_or_class u rest x letter e =
    let head : u ≡ 76 = cc in
    let bad : is_primitive 76 ≡ true = subst (λ v. is_primitive v ≡ true) head letter in
    cc

value_front : (this that x y : List ℕ) → IsValue this → IsValue that → this ++ x ≡ that ++ y → (this ≡ that) × (x ≡ y)
value_front this that x y (inl (u, letter, is)) (inl (v, other, are)) e =
    let f : u ∷ x ≡ v ∷ y = ap (λ ws. ws ++ x) (sym is) ∙ (e ∙ ap (λ ws. ws ++ y) are) in
    let head : u ≡ v = cc in
    let rest : x ≡ y = cc in
    (is ∙ (ap (λ w. w ∷ []) head ∙ sym are), rest)
value_front this that x y (inl (u, letter, is)) (inr class) e =
    absurd (letter_or_class u (class.name ++ 59 ∷ y) x letter (ap (λ ws. ws ++ x) (sym is) ∙ (e ∙ (ap (λ ws. ws ++ y) class.form ∙ behind_class class.name y))))
value_front this that x y (inr class) (inl (v, other, are)) e =
    absurd (letter_or_class v (class.name ++ 59 ∷ x) y other (ap (λ ws. ws ++ y) (sym are) ∙ (sym e ∙ (ap (λ ws. ws ++ x) class.form ∙ behind_class class.name x))))
value_front this that x y (inr one) (inr two) e =
    let f : 76 ∷ (one.name ++ 59 ∷ x) ≡ 76 ∷ (two.name ++ 59 ∷ y) = sym (ap (λ ws. ws ++ x) one.form ∙ behind_class one.name x) ∙ (e ∙ (ap (λ ws. ws ++ y) two.form ∙ behind_class two.name y)) in
    let rest : one.name ++ 59 ∷ x ≡ two.name ++ 59 ∷ y = cc in
    let same = name_front one.name two.name x y one.plain two.plain rest in
    (one.form ∙ (ap (λ n. 76 ∷ n ++ 59 ∷ []) same.0 ∙ sym two.form), same.1)

no_bracket : (base rest x : List ℕ) → IsValue base → base ++ x ≡ 91 ∷ rest → ⊥
no_bracket base rest x (inl (u, letter, is)) e =
    let f : u ∷ x ≡ 91 ∷ rest = ap (λ ws. ws ++ x) (sym is) ∙ e in
    let head : u ≡ 91 = cc in
    let bad : is_primitive 91 ≡ true = subst (λ v. is_primitive v ≡ true) head letter in
    cc
no_bracket base rest x (inr class) e =
    let f : 76 ∷ (class.name ++ 59 ∷ x) ≡ 91 ∷ rest = sym (ap (λ ws. ws ++ x) class.form ∙ behind_class class.name x) ∙ e in
    let bad : false ≡ true = ap (λ (ws : List ℕ). slice_index ws 0 == 91) f in
    absurd cc

dims_front : (n m : ℕ) (this that x y : List ℕ) → IsValue this → IsValue that → dimensions n ++ this ++ x ≡ dimensions m ++ that ++ y → (dimensions n ++ this ≡ dimensions m ++ that) × (x ≡ y)
dims_front zero zero this that x y one two e = value_front this that x y one two e
dims_front zero (suc m) this that x y one two e = absurd (no_bracket this (dimensions m ++ that ++ y) x one e)
dims_front (suc n) zero this that x y one two e = absurd (no_bracket that (dimensions n ++ this ++ x) y two (sym e))
dims_front (suc n) (suc m) this that x y one two e =
    let f : 91 ∷ (dimensions n ++ this ++ x) ≡ 91 ∷ (dimensions m ++ that ++ y) = e in
    let rest : dimensions n ++ this ++ x ≡ dimensions m ++ that ++ y = cc in
    let same = dims_front n m this that x y one two rest in
    (ap (λ ws. 91 ∷ ws) same.0, same.1)

-- what stands behind two descriptors that begin one text
pub one_front : (this that x y : List ℕ) → IsOfValue this → IsOfValue that → this ++ x ≡ that ++ y → (this ≡ that) × (x ≡ y)
one_front this that x y one two e =
    let f : dimensions one.dims ++ one.base ++ x ≡ dimensions two.dims ++ two.base ++ y = ap (λ n. n ++ x) (sym one.form) ∙ (e ∙ ap (λ n. n ++ y) two.form) in
    let same = dims_front one.dims two.dims one.base two.base x y one.value two.value f in
    (one.form ∙ (same.0 ∙ sym two.form), same.1)

-- ---- names of classes

not_void : (name : List ℕ) → names_reference name ≡ true → name ≡ 86 ∷ [] → ⊥
not_void name reference void = let bad : false ≡ true = sym (ap names_reference void) ∙ reference in absurd cc

described : (name : List ℕ) → IsDescriptor name → names_reference name ≡ true → IsOfValue name
described name (inl void) reference = absurd (not_void name reference void)
described name (inr value) reference = record { dims = value.dims; base = value.base; form = value.form; value = value.value }

dims_first : (u : ℕ) (rest : List ℕ) (r : Bool) → (u == 91) ≡ r → IsValue (u ∷ rest) → dims_of (u ∷ rest) ≡ 0
unfolding dims_of
dims_first u rest true is value = absurd (no_bracket (u ∷ rest) (rest ++ []) [] value (ap (λ v. v ∷ (rest ++ [])) ((Decides-eqb u 91).0 is)))
dims_first u rest false is value = ap (λ b. if b then dims_of rest + 1 else 0) is

dims_none : (base : List ℕ) → IsValue base → dims_of base ≡ 0
unfolding dims_of
dims_none [] value = refl
dims_none (u ∷ rest) value = dims_first u rest (u == 91) refl value

dims_are : (dims : ℕ) (base : List ℕ) → IsValue base → dims_of (dimensions dims ++ base) ≡ dims
unfolding dims_of
dims_are zero base value = dims_none base value
dims_are (suc dims) base value = let e = dims_are dims base value in ap (λ n. n + 1) e ∙ (let f : dims + 1 ≡ suc dims = omega arith in f)

drop_dims : (dims : ℕ) (base : List ℕ) → drop dims (dimensions dims ++ base) ≡ base
drop_dims zero base = refl
drop_dims (suc dims) base = drop_dims dims base

base_is : (dims : ℕ) (base : List ℕ) → IsValue base → base_name (dimensions dims ++ base) ≡ base
unfolding base_name
base_is dims base value = ap (λ n. drop n (dimensions dims ++ base)) (dims_are dims base value) ∙ drop_dims dims base

-- each built-in class has a descriptor
abbrev AllDescribed : List BuiltInClass → Type 0
AllDescribed [] = Unit {0}
AllDescribed (class ∷ classes) = ((is_descriptor class.name && names_reference class.name) ≡ true) × AllDescribed classes

all_described : AllDescribed built_in_classes
unfolding built_in_classes built_in_plain_classes built_in_throwables is_descriptor is_class_descriptor dims_of paired_after object_name string_name string_builder_name system_name print_stream_name throwable_name exception_name error_name runtime_exception_name arithmetic_exception_name null_pointer_exception_name array_store_exception_name class_cast_exception_name index_out_of_bounds_exception_name negative_array_size_exception_name illegal_argument_exception_name illegal_state_exception_name array_index_out_of_bounds_exception_name string_index_out_of_bounds_exception_name linkage_error_name virtual_machine_error_name no_class_def_found_error_name exception_in_initializer_error_name incompatible_class_change_error_name abstract_method_error_name stack_overflow_error_name
all_described = (refl, (refl, (refl, (refl, (refl, (refl, (refl, (refl, (refl, (refl, (refl, (refl, (refl, (refl, (refl, (refl, (refl, (refl, (refl, (refl, (refl, (refl, (refl, (refl, (refl, (refl, tt))))))))))))))))))))))))))

described_at : (classes : List BuiltInClass) (k : ℕ) (class : BuiltInClass) → AllDescribed classes → slice_get classes k ≡ Some class → (is_descriptor class.name && names_reference class.name) ≡ true
described_at [] k class all e = absurd cc
described_at (first ∷ rest) zero class all e =
    let same : first ≡ class = cc in
    subst (λ (c : BuiltInClass). (is_descriptor c.name && names_reference c.name) ≡ true) same all.0
described_at (first ∷ rest) (suc k) class all e = described_at rest k class all.1 e

any_at : (classes : List BuiltInClass) (name : List ℕ) → list_any (λ (class : BuiltInClass). bytes_eq class.name name) classes ≡ true → (k : ℕ) × (class : BuiltInClass) × (slice_get classes k ≡ Some class) × (bytes_eq class.name name ≡ true)
any_at [] name e = absurd cc
any_at (first ∷ rest) name e = any_first (bytes_eq first.name name) refl e (any_at rest name)
  where
    any_first : (r : Bool) → bytes_eq first.name name ≡ r → (r || list_any (λ (class : BuiltInClass). bytes_eq class.name name) rest) ≡ true →
        (list_any (λ (class : BuiltInClass). bytes_eq class.name name) rest ≡ true → (k : ℕ) × (class : BuiltInClass) × (slice_get rest k ≡ Some class) × (bytes_eq class.name name ≡ true)) →
        (k : ℕ) × (class : BuiltInClass) × (slice_get (first ∷ rest) k ≡ Some class) × (bytes_eq class.name name ≡ true)
    any_first true is e later = (0, first, refl, is)
    any_first false is e later = let found = later e in (suc found.0, found.1, found.2, found.3)

module _ (ids : Ids) (fit : FitTables ids) (agree : DescriptorsAgree) where
  element_of : (name : List ℕ) → IsDescriptor name → names_class (base_name name) ≡ true → IsOfValue (base_name name)
  unfolding base_name dims_of
  element_of name (inl void) class = let bad : false ≡ true = sym (ap (λ n. names_class (base_name n)) void) ∙ class in absurd cc
  element_of name (inr value) class = record { dims = 0; base = value.base; form = ap base_name value.form ∙ base_is value.dims value.base value.value; value = value.value }

  pub class_is_of_value : (name : List ℕ) → IsClassName ids name → IsOfValue name
  unfolding texts_name is_descriptor is_class_descriptor dims_of paired_after
  class_is_of_value _ (IsClassName.listed {type = row} there reference) = described (type_name ids row) (fit.types row there) reference
  class_is_of_value _ (IsClassName.element {type = row} there class) = element_of (type_name ids row) (fit.types row there) class
  class_is_of_value name (IsClassName.built_in built) =
      let found = any_at built_in_classes name built in
      let both = both_true (is_descriptor found.1.name) (names_reference found.1.name) (described_at built_in_classes found.0 found.1 all_described found.2) in
      subst IsOfValue ((bytes_eq-Decides found.1.name name).0 found.3) (described found.1.name ((agree found.1.name).0 both.0) both.1)
  class_is_of_value _ IsClassName.texts = described texts_name ((agree texts_name).0 refl) refl
