-- The classes of a table by their names.
use Rattle.std.proofs.Common.{◌≡◌, ℕ, zero, suc, Bool, true, false, cond, ◌&&◌, ◌||◌, List, [], ◌∷◌, ◌++◌, map, Option, Some, None, option_map, refl, sym, ap, subst, ◌∙◌, arith, length, nat_lt, ◌≤◌}
use Rattle.std.specs.Prelude.{◌↔◌, find, is_some, option_and_then, Contains}
use Rattle.std.specs.List.{list_all, list_any}
use Rattle.std.specs.Str.{bytes_eq}
use Rattle.std.proofs.lemmas.List.{map-id, length-map}
use Rattle.std.proofs.lemmas.Grind.{common_steps}
use Rattle.std.proofs.lemmas.Slice.Eq.{bytes_eq-Decides}
use Rattle.cc_meaning.specs.BuiltIn.{BuiltInClass, is_built_in, is_built_in_throwable, built_in_superclass, built_in_classes, built_in_plain_classes, built_in_throwables, object_name, string_name, string_builder_name, system_name, print_stream_name, throwable_name, exception_name, error_name, runtime_exception_name, arithmetic_exception_name, null_pointer_exception_name, array_store_exception_name, class_cast_exception_name, index_out_of_bounds_exception_name, negative_array_size_exception_name, illegal_argument_exception_name, illegal_state_exception_name, array_index_out_of_bounds_exception_name, string_index_out_of_bounds_exception_name, linkage_error_name, virtual_machine_error_name, no_class_def_found_error_name, exception_in_initializer_error_name, incompatible_class_change_error_name, abstract_method_error_name, stack_overflow_error_name}
use Rattle.cc_built_in.specs.BuiltInMethods.{BuiltInMethods, built_in_tables, built_in_member, methods_of_table, print_stream_methods, object_methods, string_methods, string_builder_methods, message_methods}
use Rattle.cc_built_in.specs.declared.table.ListedClass.{ListedClass}
use Rattle.cc_built_in.specs.Listed.{AreClasses, IsClassOf, method_of, table_of, members_listed, superclass_listed, is_throwable_in, methods_in}

-- ---- lists side by side

-- what two lists find of which the one's tests and values are the other's
side_by_side : {A B C : Type 0} (f : A → C) (g : B → C) (p : A → Bool) (q : B → Bool) (xs : List A) (ys : List B) → map p xs ≡ map q ys → map f xs ≡ map g ys → option_map f (find p xs) ≡ option_map g (find q ys)
side_by_side f g p q [] [] tests values = refl
side_by_side f g p q [] (y ∷ ys) tests values = absurd cc
side_by_side f g p q (x ∷ xs) [] tests values = absurd cc
side_by_side f g p q (x ∷ xs) (y ∷ ys) tests values = from (p x) refl (cc) (cc) (side_by_side f g p q xs ys (cc) (cc))
  where
    from : (b : Bool) → p x ≡ b → p x ≡ q y → f x ≡ g y → option_map f (find p xs) ≡ option_map g (find q ys) → option_map f (find p (x ∷ xs)) ≡ option_map g (find q (y ∷ ys))
    from true is test value rest =
        ap (λ b. option_map f (cond b (Some x) (find p xs))) is ∙ (ap Some value ∙ sym (ap (λ b. option_map g (cond b (Some y) (find q ys))) (sym test ∙ is)))
    from false is test value rest =
        ap (λ b. option_map f (cond b (Some x) (find p xs))) is ∙ (rest ∙ sym (ap (λ b. option_map g (cond b (Some y) (find q ys))) (sym test ∙ is)))

mapped : {A B C : Type 0} (f : A → B) (g : B → C) (xs : List A) → map (λ x. g (f x)) xs ≡ map g (map f xs)
mapped f g [] = refl
mapped f g (x ∷ xs) = ap (λ ys. g (f x) ∷ ys) (mapped f g xs)

-- ---- what is found passes, and where nothing is found nothing passes

passes : {A : Type 0} (p : A → Bool) (xs : List A) (x : A) → find p xs ≡ Some x → p x ≡ true
passes p [] x found = absurd cc
passes p (y ∷ ys) x found = from (p y) refl (passes p ys x)
  where
    from : (b : Bool) → p y ≡ b → (find p ys ≡ Some x → p x ≡ true) → p x ≡ true
    from true is rest = let same : Some y ≡ Some x = sym (ap (λ b. cond b (Some y) (find p ys)) is) ∙ found in let one : y ≡ x = cc in ap p (sym one) ∙ is
    from false is rest = rest (sym (ap (λ b. cond b (Some y) (find p ys)) is) ∙ found)

found_if : {A : Type 0} (p : A → Bool) (xs : List A) → is_some (find p xs) ≡ list_any p xs
found_if p [] = refl
found_if p (x ∷ xs) = from (p x) refl (found_if p xs)
  where
    from : (b : Bool) → p x ≡ b → is_some (find p xs) ≡ list_any p xs → is_some (find p (x ∷ xs)) ≡ list_any p (x ∷ xs)
    from true is rest = rw is refl
    from false is rest = rw is rest

any_append : {A : Type 0} (p : A → Bool) (xs ys : List A) → list_any p (xs ++ ys) ≡ (list_any p xs || list_any p ys)
any_append p [] ys = refl
any_append p (x ∷ xs) ys = grind (arith, common_steps, any_append p xs ys)

both : (a b : Bool) → (a && b) ≡ true → (a ≡ true) × (b ≡ true)
both true b e = (refl, e)
both false b e = absurd cc

all_pass : {A : Type 0} (p : A → Bool) (q : A → Bool) (xs : List A) (x : A) → list_all q xs ≡ true → find p xs ≡ Some x → q x ≡ true
all_pass p q [] x all found = absurd cc
all_pass p q (y ∷ ys) x all found = from (p y) refl (all_pass p q ys x (both (q y) (list_all q ys) all).1)
  where
    from : (b : Bool) → p y ≡ b → (find p ys ≡ Some x → q x ≡ true) → q x ≡ true
    from true is rest = let same : Some y ≡ Some x = sym (ap (λ b. cond b (Some y) (find p ys)) is) ∙ found in let one : y ≡ x = cc in ap q (sym one) ∙ (both (q y) (list_all q ys) all).0
    from false is rest = rest (sym (ap (λ b. cond b (Some y) (find p ys)) is) ∙ found)

-- ---- the classes of the tables are the built-in classes

abbrev is_of : List ℕ → BuiltInMethods → Bool
is_of name table = bytes_eq table.class name

abbrev has_table : List ℕ → Bool
has_table name = list_any (is_of name) built_in_tables

each_has_table : list_all (λ (class : BuiltInClass). has_table class.name) built_in_classes ≡ true
unfolding built_in_tables built_in_classes built_in_plain_classes built_in_throwables object_name string_name string_builder_name system_name print_stream_name throwable_name exception_name error_name runtime_exception_name arithmetic_exception_name null_pointer_exception_name array_store_exception_name class_cast_exception_name index_out_of_bounds_exception_name negative_array_size_exception_name illegal_argument_exception_name illegal_state_exception_name array_index_out_of_bounds_exception_name string_index_out_of_bounds_exception_name linkage_error_name virtual_machine_error_name no_class_def_found_error_name exception_in_initializer_error_name incompatible_class_change_error_name abstract_method_error_name stack_overflow_error_name
each_has_table = refl

each_is_built_in : list_all (λ (table : BuiltInMethods). is_built_in table.class) built_in_tables ≡ true
unfolding built_in_tables built_in_classes built_in_plain_classes built_in_throwables object_name string_name string_builder_name system_name print_stream_name throwable_name exception_name error_name runtime_exception_name arithmetic_exception_name null_pointer_exception_name array_store_exception_name class_cast_exception_name index_out_of_bounds_exception_name negative_array_size_exception_name illegal_argument_exception_name illegal_state_exception_name array_index_out_of_bounds_exception_name string_index_out_of_bounds_exception_name linkage_error_name virtual_machine_error_name no_class_def_found_error_name exception_in_initializer_error_name incompatible_class_change_error_name abstract_method_error_name stack_overflow_error_name
each_is_built_in = refl

same_name : (a b : List ℕ) → bytes_eq a b ≡ true → a ≡ b
same_name a b e = (bytes_eq-Decides a b).0 e

no_built_in : (name : List ℕ) → find (is_of name) built_in_tables ≡ None → find (λ (class : BuiltInClass). bytes_eq class.name name) built_in_classes ≡ None
no_built_in name none = from (find (λ (class : BuiltInClass). bytes_eq class.name name) built_in_classes) refl
  where
    from : (found : Option BuiltInClass) → find (λ (class : BuiltInClass). bytes_eq class.name name) built_in_classes ≡ found → found ≡ None
    from None is = refl
    from (Some class) is =
        let same : class.name ≡ name = same_name class.name name (passes (λ (class : BuiltInClass). bytes_eq class.name name) built_in_classes class is) in
        let has : has_table class.name ≡ true = all_pass (λ (class : BuiltInClass). bytes_eq class.name name) (λ (class : BuiltInClass). has_table class.name) built_in_classes class each_has_table is in
        let found : is_some (find (is_of name) built_in_tables) ≡ true = found_if (is_of name) built_in_tables ∙ (sym (ap has_table same) ∙ has) in
        absurd (let no : false ≡ true = sym (ap is_some none) ∙ found in cc)

-- ---- the class of a name

second : (a b c : Bool) → c ≡ (a || b) → c ≡ false → b ≡ false
second true b c is fails = absurd (let e : false ≡ true = sym fails ∙ is in cc)
second false b c is fails = sym is ∙ fails

some_is : {C : Type 0} {x y : C} → Some x ≡ Some y → x ≡ y
some_is e = cc

abbrev has_few : BuiltInMethods → Bool
has_few table = nat_lt (length table.methods) 12

each_has_few : list_all has_few built_in_tables ≡ true
unfolding built_in_tables print_stream_methods object_methods string_methods string_builder_methods message_methods
each_has_few = refl

few_of : (methods listed : ℕ) → listed ≡ methods → nat_lt methods 12 ≡ true → listed ≤ 11
few_of methods listed same few = grind arith

module _ (name : List ℕ) where
  nothing : find (is_of name) built_in_tables ≡ None → IsClassOf name None
  unfolding methods_of_table is_throwable_in methods_in built_in_classes
  nothing none =
      let gone = no_built_in name none in
      let isnt : is_built_in name ≡ false = sym (found_if (λ (class : BuiltInClass). bytes_eq class.name name) built_in_classes) ∙ ap is_some gone in
      record {
        there = sym isnt;
        superclass = sym (ap (option_and_then (λ (class : BuiltInClass). class.superclass)) gone);
        throwable = sym (second (list_any (λ (class : BuiltInClass). bytes_eq class.name name) built_in_plain_classes) (is_built_in_throwable name) (is_built_in name) (any_append (λ (class : BuiltInClass). bytes_eq class.name name) built_in_plain_classes built_in_throwables) isnt);
        methods = record { methods = sym (ap methods_of_table none); members = sym (ap (λ table. map built_in_member (methods_of_table table)) none); few = omega arith };
      }

  something : (class : ListedClass) (table : BuiltInMethods) → find (is_of name) built_in_tables ≡ Some table → table_of class ≡ table → members_listed class.methods.now ≡ map built_in_member table.methods →
      superclass_listed class ≡ built_in_superclass table.class → class.is_throwable ≡ is_built_in_throwable table.class → IsClassOf name (Some class)
  unfolding methods_of_table is_throwable_in methods_in table_of
  something class table found is members superclass throwable =
      let same : table.class ≡ name = same_name table.class name (passes (is_of name) built_in_tables table found) in
      let named : class.name.now ≡ name = ap (λ (table : BuiltInMethods). table.class) is ∙ same in
      let known : is_built_in table.class ≡ true = all_pass (is_of name) (λ (table : BuiltInMethods). is_built_in table.class) built_in_tables table each_is_built_in found in
      record {
        there = sym (sym (ap is_built_in same) ∙ known);
        superclass = superclass ∙ ap built_in_superclass same;
        throwable = throwable ∙ ap is_built_in_throwable same;
        methods = record {
          methods = ap (λ n. map (method_of n) class.methods.now) (sym named) ∙ (ap (λ (table : BuiltInMethods). table.methods) is ∙ sym (ap methods_of_table found));
          members = members ∙ sym (ap (λ table. map built_in_member (methods_of_table table)) found);
          few = few_of (length table.methods) (length class.methods.now) (sym (length-map class.methods.now (method_of class.name.now)) ∙ ap (λ (table : BuiltInMethods). length table.methods) is) (all_pass (is_of name) has_few built_in_tables table each_has_few found);
        };
      }

pub class_of : (classes : List ListedClass) (name : List ℕ) (found : Option ListedClass) → AreClasses classes → found ≡ find (λ (class : ListedClass). bytes_eq class.name.now name) classes → IsClassOf name found
unfolding table_of
class_of classes name found are is = from (find (λ (class : ListedClass). bytes_eq class.name.now name) classes) (find (is_of name) built_in_tables) refl refl
  where
    is_named : ListedClass → Bool
    is_named class = bytes_eq class.name.now name

    tests : map is_named classes ≡ map (is_of name) built_in_tables
    tests = mapped table_of (is_of name) classes ∙ ap (map (is_of name)) are.tables

    values : {C : Type 0} (f : ListedClass → C) (g : BuiltInMethods → C) → map f classes ≡ map g built_in_tables → option_map f (find is_named classes) ≡ option_map g (find (is_of name) built_in_tables)
    values f g same = side_by_side f g is_named (is_of name) classes built_in_tables tests same

    tables : option_map table_of (find is_named classes) ≡ option_map (λ table. table) (find (is_of name) built_in_tables)
    tables = values table_of (λ table. table) (are.tables ∙ sym (map-id built_in_tables))

    at : {C : Type 0} (class : ListedClass) (table : BuiltInMethods) → find is_named classes ≡ Some class → find (is_of name) built_in_tables ≡ Some table → (f : ListedClass → C) (g : BuiltInMethods → C) → map f classes ≡ map g built_in_tables → f class ≡ g table
    at class table listed there f g same = some_is (sym (ap (option_map f) listed) ∙ (values f g same ∙ ap (option_map g) there))

    from : (listed : Option ListedClass) (table : Option BuiltInMethods) → find is_named classes ≡ listed → find (is_of name) built_in_tables ≡ table → IsClassOf name found
    from None None listed there = subst (IsClassOf name) (sym (is ∙ listed)) (nothing name there)
    from (Some class) (Some table) listed there =
        subst (IsClassOf name) (sym (is ∙ listed)) (something name class table there
        (at class table listed there table_of (λ table. table) (are.tables ∙ sym (map-id built_in_tables)))
        (at class table listed there (λ (class : ListedClass). members_listed class.methods.now) (λ (table : BuiltInMethods). map built_in_member table.methods) are.members)
        (at class table listed there superclass_listed (λ (table : BuiltInMethods). built_in_superclass table.class) are.superclasses)
        (at class table listed there (λ (class : ListedClass). class.is_throwable) (λ (table : BuiltInMethods). is_built_in_throwable table.class) are.throwables))
    from None (Some table) listed there = absurd (let no : None ≡ Some table = sym (ap (option_map table_of) listed) ∙ (tables ∙ ap (option_map (λ table. table)) there) in cc)
    from (Some class) None listed there = absurd (let no : Some (table_of class) ≡ None = sym (ap (option_map table_of) listed) ∙ (tables ∙ ap (option_map (λ table. table)) there) in cc)

-- ---- the names of the tables

named_if : (tables : List BuiltInMethods) (name : List ℕ) → (list_any (is_of name) tables ≡ true) ↔ Contains (map (λ (table : BuiltInMethods). table.class) tables) name
named_if [] name = (λ is. absurd cc, λ (k, within, is). absurd (omega arith))
named_if (table ∷ tables) name = (λ is. to (bytes_eq table.class name) refl is (named_if tables name).0, λ here. back (bytes_eq table.class name) refl here (named_if tables name).1)
  where
    names : List BuiltInMethods → List (List ℕ)
    names tables = map (λ (table : BuiltInMethods). table.class) tables

    to : (b : Bool) → bytes_eq table.class name ≡ b → (b || list_any (is_of name) tables) ≡ true → (list_any (is_of name) tables ≡ true → Contains (names tables) name) → Contains (names (table ∷ tables)) name
    to true same is rest = (0, omega arith, same_name table.class name same)
    to false same is rest = let (k, within, at) = rest is in (suc k, omega arith, at)

    back : (b : Bool) → bytes_eq table.class name ≡ b → Contains (names (table ∷ tables)) name → (Contains (names tables) name → list_any (is_of name) tables ≡ true) → (b || list_any (is_of name) tables) ≡ true
    back true same here rest = refl
    back false same (zero, within, is) rest = absurd (let e : bytes_eq table.class name ≡ true = (bytes_eq-Decides table.class name).1 is in cc)
    back false same (suc k, within, is) rest = rest (k, omega arith, is)

is_there : (name : List ℕ) → is_built_in name ≡ list_any (is_of name) built_in_tables
is_there name = from (find (is_of name) built_in_tables) refl
  where
    from : (found : Option BuiltInMethods) → find (is_of name) built_in_tables ≡ found → is_built_in name ≡ list_any (is_of name) built_in_tables
    from None none = sym (found_if (λ (class : BuiltInClass). bytes_eq class.name name) built_in_classes) ∙ (ap is_some (no_built_in name none) ∙ (sym (ap is_some none) ∙ found_if (is_of name) built_in_tables))
    from (Some table) found =
        let same : table.class ≡ name = same_name table.class name (passes (is_of name) built_in_tables table found) in
        let known : is_built_in table.class ≡ true = all_pass (is_of name) (λ (table : BuiltInMethods). is_built_in table.class) built_in_tables table each_is_built_in found in
        sym (ap is_built_in same) ∙ (known ∙ (sym (ap is_some found) ∙ found_if (is_of name) built_in_tables))

pub all_named : (name : List ℕ) → Contains (map (λ (table : BuiltInMethods). table.class) built_in_tables) name ↔ (is_built_in name ≡ true)
all_named name = (λ here. is_there name ∙ (named_if built_in_tables name).1 here, λ is. (named_if built_in_tables name).0 (sym (is_there name) ∙ is))

-- the names of classes that are seen as the tables
pub names_of : (classes : List ListedClass) → AreClasses classes → map (λ (class : ListedClass). class.name.now) classes ≡ map (λ (table : BuiltInMethods). table.class) built_in_tables
unfolding table_of
names_of classes are = mapped table_of (λ (table : BuiltInMethods). table.class) classes ∙ ap (map (λ (table : BuiltInMethods). table.class)) are.tables

-- ---- superclasses are built in

abbrev above_is_built_in : Option (List ℕ) → Bool
above_is_built_in None = true
above_is_built_in (Some name) = is_built_in name

each_above : list_all (λ (class : BuiltInClass). above_is_built_in class.superclass) built_in_classes ≡ true
unfolding built_in_classes built_in_plain_classes built_in_throwables object_name string_name string_builder_name system_name print_stream_name throwable_name exception_name error_name runtime_exception_name arithmetic_exception_name null_pointer_exception_name array_store_exception_name class_cast_exception_name index_out_of_bounds_exception_name negative_array_size_exception_name illegal_argument_exception_name illegal_state_exception_name array_index_out_of_bounds_exception_name string_index_out_of_bounds_exception_name linkage_error_name virtual_machine_error_name no_class_def_found_error_name exception_in_initializer_error_name incompatible_class_change_error_name abstract_method_error_name stack_overflow_error_name
each_above = refl

pub superclass_is_built_in : (name superclass : List ℕ) → built_in_superclass name ≡ Some superclass → is_built_in superclass ≡ true
superclass_is_built_in name superclass is = from (find (λ (class : BuiltInClass). bytes_eq class.name name) built_in_classes) refl is
  where
    from : (found : Option BuiltInClass) → find (λ (class : BuiltInClass). bytes_eq class.name name) built_in_classes ≡ found → option_and_then (λ (class : BuiltInClass). class.superclass) found ≡ Some superclass → is_built_in superclass ≡ true
    from None found above = absurd cc
    from (Some class) found above =
        subst (λ o. above_is_built_in o ≡ true) above (all_pass (λ (class : BuiltInClass). bytes_eq class.name name) (λ (class : BuiltInClass). above_is_built_in class.superclass) built_in_classes class each_above found)
