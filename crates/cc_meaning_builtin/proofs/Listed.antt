-- The rows of a class are the methods that the table lists for it.
use Rattle.std.proofs.Common.{◌≡◌, ℕ, zero, suc, Bool, true, false, cond, ◌&&◌, List, [], ◌∷◌, map, Option, Some, None, refl, sym, ap, subst, ◌∙◌, arith}
use Rattle.std.specs.Prelude.{◌↔◌, find, is_some, IsSome, Contains, slice_index_or, if◌then◌else◌}
use Rattle.std.specs.List.{list_all, list_any}
use Rattle.std.specs.Str.{bytes_eq}
use Rattle.std.proofs.lemmas.List.Folds.{Any-from_list_any}
use Rattle.std.proofs.lemmas.List.Sums.{AllPass-from_list_all}
use Rattle.std.proofs.lemmas.Slice.Eq.{bytes_eq-Decides}
use Rattle.cc_meaning.specs.declared.program.Class.{Class}
use Rattle.cc_meaning.specs.declared.program.ClassKind.{ClassKind}
use Rattle.cc_meaning.specs.declared.program.ClassKind.TheVariants as kind
use Rattle.cc_meaning.specs.declared.program.Program.{Program}
use Rattle.cc_meaning.specs.Names.{member_name}
use Rattle.cc_meaning.specs.BuiltIn.{BuiltInClass, built_in_throwables, is_built_in_throwable, object_name, string_name, string_builder_name, system_name, print_stream_name, throwable_name, exception_name, error_name, runtime_exception_name, arithmetic_exception_name, null_pointer_exception_name, array_store_exception_name, class_cast_exception_name, index_out_of_bounds_exception_name, negative_array_size_exception_name, illegal_argument_exception_name, illegal_state_exception_name, array_index_out_of_bounds_exception_name, string_index_out_of_bounds_exception_name, linkage_error_name, virtual_machine_error_name, no_class_def_found_error_name, exception_in_initializer_error_name, incompatible_class_change_error_name, abstract_method_error_name, stack_overflow_error_name}
use Rattle.cc_built_in.specs.BuiltInMethods.{BuiltInMethod, BuiltInMethods, built_in_tables, built_in_member, methods_of_table, methods_of_class, array_methods, print_stream_methods, object_methods, string_methods, string_builder_methods, message_methods}
use Rattle.cc_meaning_builtin.specs.Rows.{MemberRow, object_rows, throwable_rows, message_rows, string_rows, string_builder_rows, print_stream_rows, array_rows, named_rows, rows_of, found_row, built_in, built_in_of}
use Rattle.cc_meaning_builtin.specs.Listing.{methods_listed, JustListedAreBuiltIn}

same_name : (a b : List ℕ) → bytes_eq a b ≡ true → a ≡ b
same_name a b e = (bytes_eq-Decides a b).0 e

-- ---- names that are among others

abbrev is_in : List (List ℕ) → List ℕ → Bool
is_in names name = list_any (λ (other : List ℕ). bytes_eq other name) names

abbrev are_in : List (List ℕ) → List (List ℕ) → Bool
are_in those these = list_all (is_in those) these

contained : (names : List (List ℕ)) (name : List ℕ) → is_in names name ≡ true → Contains names name
contained names name e =
    let any = Any-from_list_any (λ (other : List ℕ). bytes_eq other name) names e in
    (any.0, any.2, subst (λ (d : List ℕ). slice_index_or names any.0 d ≡ d) (same_name any.1 name any.4) any.3)

goes_over : (those these : List (List ℕ)) (name : List ℕ) → are_in those these ≡ true → Contains these name → Contains those name
goes_over those these name all here = contained those name (sym (ap (is_in those) here.2) ∙ AllPass-from_list_all (is_in those) these all here.0 name here.1)

-- ---- rows by their members

abbrev members_of : List MemberRow → List (List ℕ)
members_of rows = map (λ (row : MemberRow). row.member) rows

found_if : (rows : List MemberRow) (member : List ℕ) → IsSome (found_row member rows) ↔ Contains (members_of rows) member
unfolding found_row
found_if [] member = (λ is. absurd cc, λ here. absurd (omega (arith, here.1)))
found_if (row ∷ rows) member =
    let rest = found_if rows member in
    (λ is. to (bytes_eq member row.member) refl is rest.0, λ here. back (bytes_eq member row.member) refl here rest.1)
  where
    to : (b : Bool) → bytes_eq member row.member ≡ b → IsSome (if b then Some row.does else found_row member rows) → (IsSome (found_row member rows) → Contains (members_of rows) member) →
        Contains (members_of (row ∷ rows)) member
    to true same is rest = (0, omega arith, sym (same_name member row.member same))
    to false same is rest = let (k, within, at) = rest is in (suc k, omega arith, at)

    back : (b : Bool) → bytes_eq member row.member ≡ b → Contains (members_of (row ∷ rows)) member → (Contains (members_of rows) member → IsSome (found_row member rows)) →
        IsSome (if b then Some row.does else found_row member rows)
    back true same here rest = refl
    back false same (zero, within, is) rest = absurd (let e : bytes_eq member row.member ≡ true = (bytes_eq-Decides member row.member).1 (sym is) in cc)
    back false same (suc k, within, is) rest = rest (k, omega arith, is)

-- ---- each row is listed

abbrev members_listed : List ℕ → List (List ℕ)
members_listed name = map built_in_member (methods_of_class name)

-- the table lists these rows for the class of a name
abbrev are_listed : List MemberRow → List ℕ → Bool
are_listed rows name = are_in (members_listed name) (members_of rows)

builder_listed : are_listed string_builder_rows string_builder_name ≡ true
unfolding built_in_tables print_stream_methods object_methods string_methods string_builder_methods message_methods methods_of_table built_in_member object_rows throwable_rows message_rows string_rows string_builder_rows print_stream_rows object_name string_name string_builder_name system_name print_stream_name throwable_name exception_name error_name runtime_exception_name arithmetic_exception_name null_pointer_exception_name array_store_exception_name class_cast_exception_name index_out_of_bounds_exception_name negative_array_size_exception_name illegal_argument_exception_name illegal_state_exception_name array_index_out_of_bounds_exception_name string_index_out_of_bounds_exception_name linkage_error_name virtual_machine_error_name no_class_def_found_error_name exception_in_initializer_error_name incompatible_class_change_error_name abstract_method_error_name stack_overflow_error_name
builder_listed = refl

stream_listed : are_listed print_stream_rows print_stream_name ≡ true
unfolding built_in_tables print_stream_methods object_methods string_methods string_builder_methods message_methods methods_of_table built_in_member object_rows throwable_rows message_rows string_rows string_builder_rows print_stream_rows object_name string_name string_builder_name system_name print_stream_name throwable_name exception_name error_name runtime_exception_name arithmetic_exception_name null_pointer_exception_name array_store_exception_name class_cast_exception_name index_out_of_bounds_exception_name negative_array_size_exception_name illegal_argument_exception_name illegal_state_exception_name array_index_out_of_bounds_exception_name string_index_out_of_bounds_exception_name linkage_error_name virtual_machine_error_name no_class_def_found_error_name exception_in_initializer_error_name incompatible_class_change_error_name abstract_method_error_name stack_overflow_error_name
stream_listed = refl

string_listed : are_listed string_rows string_name ≡ true
unfolding built_in_tables print_stream_methods object_methods string_methods string_builder_methods message_methods methods_of_table built_in_member object_rows throwable_rows message_rows string_rows string_builder_rows print_stream_rows object_name string_name string_builder_name system_name print_stream_name throwable_name exception_name error_name runtime_exception_name arithmetic_exception_name null_pointer_exception_name array_store_exception_name class_cast_exception_name index_out_of_bounds_exception_name negative_array_size_exception_name illegal_argument_exception_name illegal_state_exception_name array_index_out_of_bounds_exception_name string_index_out_of_bounds_exception_name linkage_error_name virtual_machine_error_name no_class_def_found_error_name exception_in_initializer_error_name incompatible_class_change_error_name abstract_method_error_name stack_overflow_error_name
string_listed = refl

object_listed : are_listed object_rows object_name ≡ true
unfolding built_in_tables print_stream_methods object_methods string_methods string_builder_methods message_methods methods_of_table built_in_member object_rows throwable_rows message_rows string_rows string_builder_rows print_stream_rows object_name string_name string_builder_name system_name print_stream_name throwable_name exception_name error_name runtime_exception_name arithmetic_exception_name null_pointer_exception_name array_store_exception_name class_cast_exception_name index_out_of_bounds_exception_name negative_array_size_exception_name illegal_argument_exception_name illegal_state_exception_name array_index_out_of_bounds_exception_name string_index_out_of_bounds_exception_name linkage_error_name virtual_machine_error_name no_class_def_found_error_name exception_in_initializer_error_name incompatible_class_change_error_name abstract_method_error_name stack_overflow_error_name
object_listed = refl

message_listed : are_listed message_rows throwable_name ≡ true
unfolding built_in_tables print_stream_methods object_methods string_methods string_builder_methods message_methods methods_of_table built_in_member object_rows throwable_rows message_rows string_rows string_builder_rows print_stream_rows object_name string_name string_builder_name system_name print_stream_name throwable_name exception_name error_name runtime_exception_name arithmetic_exception_name null_pointer_exception_name array_store_exception_name class_cast_exception_name index_out_of_bounds_exception_name negative_array_size_exception_name illegal_argument_exception_name illegal_state_exception_name array_index_out_of_bounds_exception_name string_index_out_of_bounds_exception_name linkage_error_name virtual_machine_error_name no_class_def_found_error_name exception_in_initializer_error_name incompatible_class_change_error_name abstract_method_error_name stack_overflow_error_name
message_listed = refl

throwables_listed : list_all (λ (class : BuiltInClass). are_listed throwable_rows class.name) built_in_throwables ≡ true
unfolding built_in_tables print_stream_methods object_methods string_methods string_builder_methods message_methods methods_of_table built_in_member object_rows throwable_rows message_rows string_rows string_builder_rows print_stream_rows object_name string_name string_builder_name system_name print_stream_name throwable_name exception_name error_name runtime_exception_name arithmetic_exception_name null_pointer_exception_name array_store_exception_name class_cast_exception_name index_out_of_bounds_exception_name negative_array_size_exception_name illegal_argument_exception_name illegal_state_exception_name array_index_out_of_bounds_exception_name string_index_out_of_bounds_exception_name linkage_error_name virtual_machine_error_name no_class_def_found_error_name exception_in_initializer_error_name incompatible_class_change_error_name abstract_method_error_name stack_overflow_error_name built_in_throwables
throwables_listed = refl

moved : (rows : List MemberRow) (name class : List ℕ) → are_listed rows class ≡ true → bytes_eq name class ≡ true → are_listed rows name ≡ true
moved rows name class listed same = ap (are_listed rows) (same_name name class same) ∙ listed

throwable_listed : (name : List ℕ) → is_built_in_throwable name ≡ true → are_listed throwable_rows name ≡ true
throwable_listed name is =
    let any = Any-from_list_any (λ (class : BuiltInClass). bytes_eq class.name name) built_in_throwables is in
    let at = AllPass-from_list_all (λ (class : BuiltInClass). are_listed throwable_rows class.name) built_in_throwables throwables_listed any.0 any.1 any.2 in
    sym (ap (λ (class : BuiltInClass). are_listed throwable_rows class.name) any.3 ∙ ap (are_listed throwable_rows) (same_name any.1.name name any.4)) ∙ at

either : (name : List ℕ) (b : Bool) (rows others : List MemberRow) → (b ≡ true → are_listed rows name ≡ true) → are_listed others name ≡ true → are_listed (if b then rows else others) name ≡ true
either name true rows others here there = here refl
either name false rows others here there = there

rows_listed : (name : List ℕ) → are_listed (named_rows name) name ≡ true
unfolding named_rows
rows_listed name =
    either name (bytes_eq name string_builder_name) _ _ (moved string_builder_rows name string_builder_name builder_listed)
    (either name (bytes_eq name print_stream_name) _ _ (moved print_stream_rows name print_stream_name stream_listed)
    (either name (bytes_eq name string_name) _ _ (moved string_rows name string_name string_listed)
    (either name (bytes_eq name object_name) _ _ (moved object_rows name object_name object_listed)
    (either name (bytes_eq name throwable_name) _ _ (moved message_rows name throwable_name message_listed)
    (either name (is_built_in_throwable name) _ _ (throwable_listed name) refl)))))

-- ---- each method that is listed has a row

abbrev have_rows : List ℕ → List BuiltInMethod → Bool
have_rows name methods = are_in (members_of (named_rows name)) (map built_in_member methods)

each_has_rows : list_all (λ (table : BuiltInMethods). have_rows table.class table.methods) built_in_tables ≡ true
unfolding built_in_tables print_stream_methods object_methods string_methods string_builder_methods message_methods methods_of_table built_in_member object_rows throwable_rows message_rows string_rows string_builder_rows print_stream_rows object_name string_name string_builder_name system_name print_stream_name throwable_name exception_name error_name runtime_exception_name arithmetic_exception_name null_pointer_exception_name array_store_exception_name class_cast_exception_name index_out_of_bounds_exception_name negative_array_size_exception_name illegal_argument_exception_name illegal_state_exception_name array_index_out_of_bounds_exception_name string_index_out_of_bounds_exception_name linkage_error_name virtual_machine_error_name no_class_def_found_error_name exception_in_initializer_error_name incompatible_class_change_error_name abstract_method_error_name stack_overflow_error_name named_rows built_in_throwables
each_has_rows = refl

abbrev is_of : List ℕ → BuiltInMethods → Bool
is_of name table = bytes_eq table.class name

both : (a b : Bool) → (a && b) ≡ true → (a ≡ true) × (b ≡ true)
both true b e = (refl, e)
both false b e = absurd cc

found_has_rows : (tables : List BuiltInMethods) (name : List ℕ) (table : BuiltInMethods) → list_all (λ (table : BuiltInMethods). have_rows table.class table.methods) tables ≡ true →
    find (is_of name) tables ≡ Some table → have_rows name table.methods ≡ true
found_has_rows [] name table all found = absurd cc
found_has_rows (first ∷ tables) name table all found = from (is_of name first) refl found (found_has_rows tables name table (both _ _ all).1)
  where
    from : (b : Bool) → is_of name first ≡ b → cond b (Some first) (find (is_of name) tables) ≡ Some table →
        (find (is_of name) tables ≡ Some table → have_rows name table.methods ≡ true) → have_rows name table.methods ≡ true
    from true is found rest =
        let here : have_rows first.class first.methods ≡ true = (both _ _ all).0 in
        let same : first ≡ table = cc in
        sym (ap (λ (class : List ℕ). have_rows class table.methods) (sym (ap (λ (table : BuiltInMethods). table.class) same) ∙ same_name first.class name is))
        ∙ (sym (ap (λ (table : BuiltInMethods). have_rows table.class table.methods) same) ∙ here)
    from false is found rest = rest found

listed_have_rows : (name : List ℕ) → have_rows name (methods_of_class name) ≡ true
unfolding methods_of_table
listed_have_rows name = from (find (is_of name) built_in_tables) refl
  where
    from : (found : Option BuiltInMethods) → find (is_of name) built_in_tables ≡ found → have_rows name (methods_of_class name) ≡ true
    from None none = ap (λ (table : Option BuiltInMethods). have_rows name (methods_of_table table)) none
    from (Some table) found = ap (λ (table : Option BuiltInMethods). have_rows name (methods_of_table table)) found ∙ found_has_rows built_in_tables name table each_has_rows found

-- ---- the whole

array_rows_listed : (name : List ℕ) → are_in (map built_in_member (array_methods name)) (members_of array_rows) ≡ true
unfolding array_rows array_methods built_in_member object_name
array_rows_listed name = refl

array_methods_have_rows : (name : List ℕ) → are_in (members_of array_rows) (map built_in_member (array_methods name)) ≡ true
unfolding array_rows array_methods built_in_member object_name
array_methods_have_rows name = refl

none_listed : (member : List ℕ) → IsSome (found_row member []) ↔ Contains (map built_in_member []) member
unfolding found_row
none_listed member = (λ is. absurd cc, λ here. absurd (omega (arith, here.1)))

by_kind : (kind : ClassKind) (name member : List ℕ) → IsSome (found_row member (rows_of kind name)) ↔ Contains (map built_in_member (methods_listed kind name)) member
unfolding rows_of methods_listed
by_kind kind.BuiltIn name member =
    let rows = found_if (named_rows name) member in
    (λ is. goes_over _ _ member (rows_listed name) (rows.0 is), λ here. rows.1 (goes_over _ _ member (listed_have_rows name) here))
by_kind kind.Array name member =
    let rows = found_if array_rows member in
    (λ is. goes_over _ _ member (array_rows_listed name) (rows.0 is), λ here. rows.1 (goes_over _ _ member (array_methods_have_rows name) here))
by_kind kind.File name member = none_listed member
by_kind kind.Outside name member = none_listed member
by_kind kind.OutsideError name member = none_listed member

pub just_listed : (p : Program) → JustListedAreBuiltIn p
unfolding built_in built_in_of
just_listed p m class there =
    let all = by_kind class.kind class.name (member_name p m) in
    let same : built_in p m ≡ found_row (member_name p m) (rows_of class.kind class.name) = ap (λ (class : Option Class). built_in_of p class m) there in
    (λ is. all.0 (sym (ap is_some same) ∙ is), λ here. ap is_some same ∙ all.1 here)
