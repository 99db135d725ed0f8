-- The built-in methods have types that are spelled in each program.
use Rattle.std.proofs.Common.{◌≡◌, ◌⊎◌, inl, inr, Bool, true, false, cond, ◌&&◌, ◌||◌, ℕ, zero, suc, List, [], ◌∷◌, Option, Some, None, refl, sym, ap, subst, ◌∙◌, arith}
use Rattle.std.specs.Prelude.{slice_get, slice_index_or, find, codes, Contains}
use Rattle.std.specs.Bool.{beq}
use Rattle.std.specs.List.{list_all}
use Rattle.std.specs.Str.{bytes_eq}
use Rattle.std.proofs.lemmas.Option.{slice_get-get_or, get_or_from_slice_get}
use Rattle.std.proofs.lemmas.Slice.Eq.{bytes_eq-Decides}
use Rattle.cc_meaning.specs.declared.file.Ids.{Ids}
use Rattle.cc_meaning.specs.declared.program.Base.{Base}
use Rattle.cc_meaning.specs.declared.program.Base.TheVariants as base
use Rattle.cc_meaning.specs.declared.program.ClassKind.{ClassKind}
use Rattle.cc_meaning.specs.declared.program.ClassKind.TheVariants as kinds
use Rattle.cc_meaning.specs.BuiltIn.{built_in_classes, built_in_plain_classes, built_in_throwables, is_built_in, object_name, string_name, string_builder_name, system_name, print_stream_name, throwable_name, exception_name, error_name, runtime_exception_name, arithmetic_exception_name, null_pointer_exception_name, array_store_exception_name, class_cast_exception_name, index_out_of_bounds_exception_name, negative_array_size_exception_name, illegal_argument_exception_name, illegal_state_exception_name, array_index_out_of_bounds_exception_name, string_index_out_of_bounds_exception_name, linkage_error_name, virtual_machine_error_name, no_class_def_found_error_name, exception_in_initializer_error_name, incompatible_class_change_error_name, abstract_method_error_name, stack_overflow_error_name}
use Rattle.cc_meaning_dex.specs.Descriptors.{names_class}
use Rattle.cc_meaning_program.specs.ClassNames.{AreClassNames, IsClassName}
use Rattle.cc_meaning_program.specs.TypeNames.{base_spelled, type_spelled}
use Rattle.cc_meaning_program.specs.OwnMembers.{built_in_by_kind, is_constructor}
use Rattle.cc_meaning_program.specs.Members.{ResultSpelled}
use Rattle.cc_built_in.specs.BuiltInMethods.{BuiltInMethod, BuiltInMethods, built_in_tables, print_stream_methods, object_methods, string_methods, string_builder_methods, message_methods, built_in_member, methods_of_table, array_methods}
use Rattle.cc_members.specs.MadeMethods.{IsSpelled, ListedStands}

-- ---- tests

abbrev is_letter : List ℕ → Bool
is_letter text = bytes_eq (codes "C") text || (bytes_eq (codes "I") text || (bytes_eq (codes "J") text || bytes_eq (codes "Z") text))

abbrev is_named : List ℕ → Bool
is_named text = names_class text && is_built_in text

abbrev is_plain : List ℕ → Bool
is_plain text = is_letter text || is_named text

abbrev is_result : List ℕ → Bool
is_result text = bytes_eq text (codes "V") || is_plain text

abbrev is_called_so : BuiltInMethod → Bool
is_called_so listed = beq (is_constructor (built_in_member listed)) (bytes_eq listed.name (codes "<init>"))

abbrev stands : BuiltInMethod → Bool
stands listed = list_all is_plain listed.params && (is_result listed.result && is_called_so listed)

tables_stand : list_all (λ (table : BuiltInMethods). list_all stands table.methods) built_in_tables ≡ true
unfolding built_in_tables print_stream_methods object_methods string_methods string_builder_methods message_methods built_in_member is_constructor built_in_classes built_in_plain_classes built_in_throwables object_name string_name string_builder_name system_name print_stream_name throwable_name exception_name error_name runtime_exception_name arithmetic_exception_name null_pointer_exception_name array_store_exception_name class_cast_exception_name index_out_of_bounds_exception_name negative_array_size_exception_name illegal_argument_exception_name illegal_state_exception_name array_index_out_of_bounds_exception_name string_index_out_of_bounds_exception_name linkage_error_name virtual_machine_error_name no_class_def_found_error_name exception_in_initializer_error_name incompatible_class_change_error_name abstract_method_error_name stack_overflow_error_name
tables_stand = refl

arrays_stand : (class : List ℕ) → list_all stands (array_methods class) ≡ true
unfolding array_methods built_in_member is_constructor built_in_classes built_in_plain_classes built_in_throwables object_name
arrays_stand class = refl

-- ---- what they say of one method

both : (a b : Bool) → (a && b) ≡ true → (a ≡ true) × (b ≡ true)
both true b e = (refl, e)
both false b e = absurd (cc)

either : (a b : Bool) → (a || b) ≡ true → (a ≡ true) ⊎ (b ≡ true)
either true b e = inl refl
either false b e = inr e

same_truth : (a b : Bool) → beq a b ≡ true → a ≡ b
same_truth true true e = refl
same_truth true false e = absurd (cc)
same_truth false true e = absurd (cc)
same_truth false false e = refl

passes_at : {A : Type 0} (test : A → Bool) (xs : List A) (k : ℕ) (x : A) → list_all test xs ≡ true → slice_get xs k ≡ Some x → test x ≡ true
passes_at test [] k x all there = absurd (cc)
passes_at {A} test (y ∷ ys) zero x all there = let same : y ≡ x = cc in subst (λ (z : A). test z ≡ true) same (both (test y) (list_all test ys) all).0
passes_at test (y ∷ ys) (suc k) x all there = passes_at test ys k x (both (test y) (list_all test ys) all).1 there

passes_found : (test : BuiltInMethods → Bool) (like : BuiltInMethods → Bool) (tables : List BuiltInMethods) (found : BuiltInMethods) → list_all test tables ≡ true → find like tables ≡ Some found → test found ≡ true
passes_found test like [] found all is = absurd (cc)
passes_found test like (table ∷ tables) found all is =
    let (first, rest) = both (test table) (list_all test tables) all in
    from (like table) first (passes_found test like tables found rest) is
  where
    from : (b : Bool) → test table ≡ true → (find like tables ≡ Some found → test found ≡ true) → cond b (Some table) (find like tables) ≡ Some found → test found ≡ true
    from true first later is = let same : table ≡ found = cc in subst (λ (t : BuiltInMethods). test t ≡ true) same first
    from false first later is = later is

listed_stands : (kind : ClassKind) (class : List ℕ) (place : ℕ) (listed : BuiltInMethod) → slice_get (built_in_by_kind kind class) place ≡ Some listed → stands listed ≡ true
unfolding built_in_by_kind methods_of_table
listed_stands kinds.BuiltIn class place listed there = from (find (λ (table : BuiltInMethods). bytes_eq table.class class) built_in_tables) refl there
  where
    from : (found : Option BuiltInMethods) → find (λ (table : BuiltInMethods). bytes_eq table.class class) built_in_tables ≡ found → slice_get (methods_of_table found) place ≡ Some listed → stands listed ≡ true
    from None is there = absurd (cc)
    from (Some table) is there =
        passes_at stands table.methods place listed (passes_found (λ (table : BuiltInMethods). list_all stands table.methods) (λ (table : BuiltInMethods). bytes_eq table.class class) built_in_tables table tables_stand is) there
listed_stands kinds.Array class place listed there = passes_at stands (array_methods class) place listed (arrays_stand class) there
listed_stands kinds.File class place listed there = absurd (cc)
listed_stands kinds.Outside class place listed there = absurd (cc)
listed_stands kinds.OutsideError class place listed there = absurd (cc)

-- ---- types

letter : (names : List (List ℕ)) (b : Base) (text : List ℕ) → base_spelled names b ≡ text → ((n : ℕ) → b ≡ base.Class n → ⊥) → IsSpelled names text
unfolding type_spelled
letter names base.Boolean text is plain = (record { dims = 0; base = base.Boolean }, record { spelled = is; based = tt; few = omega arith })
letter names base.Byte text is plain = (record { dims = 0; base = base.Byte }, record { spelled = is; based = tt; few = omega arith })
letter names base.Short text is plain = (record { dims = 0; base = base.Short }, record { spelled = is; based = tt; few = omega arith })
letter names base.Char text is plain = (record { dims = 0; base = base.Char }, record { spelled = is; based = tt; few = omega arith })
letter names base.Int text is plain = (record { dims = 0; base = base.Int }, record { spelled = is; based = tt; few = omega arith })
letter names base.Long text is plain = (record { dims = 0; base = base.Long }, record { spelled = is; based = tt; few = omega arith })
letter names (base.Class n) text is plain = absurd (plain n refl)

letter_spelled : (names : List (List ℕ)) (text : List ℕ) → is_letter text ≡ true → IsSpelled names text
unfolding base_spelled
letter_spelled names text is = from (either (bytes_eq (codes "C") text) _ is)
  where
    spelled : (b : Base) (name : List ℕ) → base_spelled names b ≡ name → ((n : ℕ) → b ≡ base.Class n → ⊥) → bytes_eq name text ≡ true → IsSpelled names text
    spelled b name is plain same = letter names b text (is ∙ (bytes_eq-Decides name text).0 same) plain

    third : (bytes_eq (codes "J") text ≡ true) ⊎ (bytes_eq (codes "Z") text ≡ true) → IsSpelled names text
    third (inl j) = spelled base.Long (codes "J") refl (λ n e. cc) j
    third (inr z) = spelled base.Boolean (codes "Z") refl (λ n e. cc) z

    second : (bytes_eq (codes "I") text ≡ true) ⊎ ((bytes_eq (codes "J") text || bytes_eq (codes "Z") text) ≡ true) → IsSpelled names text
    second (inl i) = spelled base.Int (codes "I") refl (λ n e. cc) i
    second (inr more) = third (either (bytes_eq (codes "J") text) (bytes_eq (codes "Z") text) more)

    from : (bytes_eq (codes "C") text ≡ true) ⊎ ((bytes_eq (codes "I") text || (bytes_eq (codes "J") text || bytes_eq (codes "Z") text)) ≡ true) → IsSpelled names text
    from (inl c) = spelled base.Char (codes "C") refl (λ n e. cc) c
    from (inr more) = second (either (bytes_eq (codes "I") text) (bytes_eq (codes "J") text || bytes_eq (codes "Z") text) more)

-- a class that is among the names is spelled
pub class_spelled : (names : List (List ℕ)) (text : List ℕ) → Contains names text → names_class text ≡ true → IsSpelled names text
unfolding base_spelled type_spelled
class_spelled names text (number, within, is) class =
    let at : slice_index_or names number [] ≡ text = get_or_from_slice_get names number text [] (slice_get-get_or names number text within ∙ ap Some is) in
    (record { dims = 0; base = base.Class number }, record { spelled = at; based = subst (λ n. names_class n ≡ true) (sym at) class; few = omega arith })

plain_spelled : (ids : Ids) (names : List (List ℕ)) (text : List ℕ) → AreClassNames ids names → is_plain text ≡ true → IsSpelled names text
plain_spelled ids names text are is = from (either (is_letter text) (is_named text) is)
  where
    from : (is_letter text ≡ true) ⊎ (is_named text ≡ true) → IsSpelled names text
    from (inl one) = letter_spelled names text one
    from (inr named) = let (class, known) = both (names_class text) (is_built_in text) named in class_spelled names text ((are.are text).1 (IsClassName.built_in {name = text} known)) class

all_plain : (texts : List (List ℕ)) (text : List ℕ) → list_all is_plain texts ≡ true → Contains texts text → is_plain text ≡ true
all_plain texts text all (place, within, is) = passes_at is_plain texts place text all (slice_get-get_or texts place text within ∙ ap Some is)

-- so they stand in each program
pub listed_in_program : (ids : Ids) (names : List (List ℕ)) → AreClassNames ids names → (kind : ClassKind) (class : List ℕ) (place : ℕ) (listed : BuiltInMethod) → slice_get (built_in_by_kind kind class) place ≡ Some listed → ListedStands names listed
listed_in_program ids names are kind class place listed there =
    let (params, rest) = both (list_all is_plain listed.params) (is_result listed.result && is_called_so listed) (listed_stands kind class place listed there) in
    let (result, called) = both (is_result listed.result) (is_called_so listed) rest in
    record {
      params = λ text among. plain_spelled ids names text are (all_plain listed.params text params among);
      result = of_result (either (bytes_eq listed.result (codes "V")) (is_plain listed.result) result);
      constructor = same_truth (is_constructor (built_in_member listed)) (bytes_eq listed.name (codes "<init>")) called;
    }
  where
    of_result : (bytes_eq listed.result (codes "V") ≡ true) ⊎ (is_plain listed.result ≡ true) → ResultSpelled names None listed.result ⊎ IsSpelled names listed.result
    of_result (inl void) = inl ((bytes_eq-Decides listed.result (codes "V")).0 void)
    of_result (inr plain) = inr (plain_spelled ids names listed.result are plain)
