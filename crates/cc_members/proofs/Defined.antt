-- The members that a file defines, and those that a class lists.
use Rattle.std.proofs.Common.{◌≡◌, ◌⊎◌, inl, inr, ℕ, zero, suc, ◌<◌, Bool, true, false, List, [], ◌∷◌, map, get_or, Option, Some, None, slice_get, refl, sym, ap, subst, ◌∙◌, arith}
use Rattle.std.specs.Prelude.{cond, position, find, is_some, option_and_then, if◌then◌else◌, ◌||◌, ◌&&◌, not}
use Rattle.std.specs.List.{list_all}
use Rattle.std.specs.Str.{bytes_eq}
use Rattle.std.proofs.lemmas.List.Quantifiers.{position-Some}
use Rattle.std.proofs.lemmas.Option.{slice_get-get_or}
use Rattle.std.proofs.lemmas.Slice.Eq.{bytes_eq-Decides}
use Rattle.cc_meaning.specs.declared.file.ClassRow.{ClassRow}
use Rattle.cc_meaning.specs.declared.file.Ids.{Ids}
use Rattle.cc_meaning.specs.declared.file.RawClass.{RawClass}
use Rattle.cc_meaning.specs.declared.file.RawField.{RawField}
use Rattle.cc_meaning.specs.declared.file.RawMethod.{RawMethod}
use Rattle.cc_meaning.specs.declared.program.ClassKind.{ClassKind}
use Rattle.cc_meaning.specs.declared.program.ClassKind.TheVariants as kind
use Rattle.cc_meaning.specs.BuiltIn.{is_built_in, built_in_classes, built_in_plain_classes, built_in_throwables, object_name, string_name, string_builder_name, system_name, print_stream_name, throwable_name, exception_name, error_name, runtime_exception_name, arithmetic_exception_name, null_pointer_exception_name, array_store_exception_name, class_cast_exception_name, index_out_of_bounds_exception_name, negative_array_size_exception_name, illegal_argument_exception_name, illegal_state_exception_name, array_index_out_of_bounds_exception_name, string_index_out_of_bounds_exception_name, linkage_error_name, virtual_machine_error_name, no_class_def_found_error_name, exception_in_initializer_error_name, incompatible_class_change_error_name, abstract_method_error_name, stack_overflow_error_name}
use Rattle.cc_meaning_dex.specs.Descriptors.{begins_with, names_class, names_reference}
use Rattle.cc_meaning_program.specs.ClassFaults.{AreSound, IsDuplicate}
use Rattle.cc_meaning_program.specs.ClassNames.{IsClassName}
use Rattle.cc_meaning_program.specs.Definitions.{Defines}
use Rattle.cc_meaning_program.specs.Named.{type_name, method_member, field_member}
use Rattle.cc_built_in.specs.BuiltInMethods.{BuiltInMethod, BuiltInMethods, built_in_tables, print_stream_methods, object_methods, string_methods, string_builder_methods, message_methods, built_in_member, methods_of_table, array_methods}
use Rattle.cc_meaning_program.specs.Ancestry.{kind_of_class, outside_kind, is_exception, is_error, is_defined, definition_of}
use Rattle.cc_meaning_program.specs.OwnMembers.{members_of, method_among, method_defined, method_listed, field_among, field_defined, built_in_by_kind, built_in_methods_of}
use Rattle.cc_meaning_program.specs.OwnerNumbers.{method_in, method_placed, field_in, field_placed}
use Rattle.cc_meaning_program.specs.Rows.{FitTables}

-- ---- searches

pub some_is : {A : Type 0} (x y : A) → Some x ≡ Some y → x ≡ y
some_is x y e = cc

pub same_bytes : (a b : List ℕ) → bytes_eq a b ≡ true → a ≡ b
same_bytes a b e = (bytes_eq-Decides a b).0 e

pub bytes_same : (a b : List ℕ) → a ≡ b → bytes_eq a b ≡ true
bytes_same a b e = (bytes_eq-Decides a b).1 e

-- what is found stands somewhere, and passes
pub find_place : {A : Type 0} (p : A → Bool) (xs : List A) (x : A) → find p xs ≡ Some x → (k : ℕ) × (slice_get xs k ≡ Some x) × (p x ≡ true)
find_place p [] x e = absurd (cc)
find_place {A} p (y ∷ xs) x e = from (p y) refl (find_place p xs x)
  where
    from : (b : Bool) → p y ≡ b → (find p xs ≡ Some x → (k : ℕ) × (slice_get xs k ≡ Some x) × (p x ≡ true)) → (k : ℕ) × (slice_get (y ∷ xs) k ≡ Some x) × (p x ≡ true)
    from true is rests =
        let here : Some y ≡ Some x = sym (ap (λ b. cond b (Some y) (find p xs)) is) ∙ e in
        (0, here, subst (λ z. p z ≡ true) (some_is y x here) is)
    from false is rests = let (k, there, passes) = rests (sym (ap (λ b. cond b (Some y) (find p xs)) is) ∙ e) in (suc k, there, passes)

-- what passes, and nothing before it, is found
pub find_first : {A : Type 0} (p : A → Bool) (xs : List A) (k : ℕ) (x : A) → slice_get xs k ≡ Some x → p x ≡ true → ((j : ℕ) (y : A) → j < k → slice_get xs j ≡ Some y → p y ≡ true → ⊥) → find p xs ≡ Some x
find_first p [] k x there passes none = absurd (cc)
find_first p (y ∷ xs) zero x there passes none =
    let same : y ≡ x = some_is y x there in
    ap (λ b. cond b (Some y) (find p xs)) (subst (λ z. p z ≡ true) (sym same) passes) ∙ there
find_first {A} p (y ∷ xs) (suc k) x there passes none = from (p y) refl (find_first p xs k x there passes (λ j z less at. none (suc j) z (omega arith) at))
  where
    from : (b : Bool) → p y ≡ b → find p xs ≡ Some x → find p (y ∷ xs) ≡ Some x
    from true is rest = absurd (none 0 y (omega arith) refl is)
    from false is rest = ap (λ b. cond b (Some y) (find p xs)) is ∙ rest

-- ---- definitions

passes_class : Ids → List ℕ → ClassRow → Bool
passes_class ids name stated = bytes_eq (type_name ids stated.class) name

-- the members of a class are those of a definition of it
pub record IsDefinition (ids : Ids) (classes : List RawClass) (name : List ℕ) (class : RawClass) : Type 0 where
  pub number : ℕ
  pub defines : Defines ids number name
  pub there : slice_get classes number ≡ Some class

pub definition_from : (ids : Ids) (classes : List RawClass) (name : List ℕ) (class : RawClass) → members_of ids classes name ≡ Some class → IsDefinition ids classes name class
unfolding members_of
definition_from ids classes name class e = from (position (λ (stated : ClassRow). bytes_eq (type_name ids stated.class) name) ids.classes) refl
  where
    none_there : ClassRow
    none_there = record { class = 0; flags = 0; superclass = None; interfaces = []; members_at = 0; values_at = 0 }

    from : (o : Option ℕ) → position (λ (stated : ClassRow). bytes_eq (type_name ids stated.class) name) ids.classes ≡ o → IsDefinition ids classes name class
    from None is = absurd (let none : None ≡ Some class = sym (ap (option_and_then (slice_get classes)) is) ∙ e in cc)
    from (Some number) is =
        let (within, passes, before) = position-Some (λ (stated : ClassRow). bytes_eq (type_name ids stated.class) name) ids.classes number none_there is in
        record {
          number = number;
          defines = record { stated = get_or ids.classes number none_there; there = slice_get-get_or ids.classes number none_there within; named = same_bytes (type_name ids (get_or ids.classes number none_there).class) name passes };
          there = sym (ap (option_and_then (slice_get classes)) is) ∙ e;
        }

-- no members where there is no definition
pub undefined : (ids : Ids) (classes : List RawClass) (name : List ℕ) → ((number : ℕ) → ¬ Defines ids number name) → members_of ids classes name ≡ None
undefined ids classes name none = from (members_of ids classes name) refl
  where
    from : (o : Option RawClass) → members_of ids classes name ≡ o → members_of ids classes name ≡ None
    from None is = is
    from (Some class) is = absurd (let d = definition_from ids classes name class is in none d.number d.defines)

-- a class that is defined is one of a program's
pub defined_is_class : (ids : Ids) (number : ℕ) (name : List ℕ) → FitTables ids → Defines ids number name → IsClassName ids name
defined_is_class ids number name fit d =
    let fits = (fit.classes number d.stated d.there).class in
    subst (IsClassName ids) d.named (IsClassName.listed fits.there (reference (type_name ids d.stated.class) fits.sorted))
  where
    reference : (units : List ℕ) → names_class units ≡ true → names_reference units ≡ true
    reference units e = ap (λ b. b || begins_with 91 units) e

-- ---- members of the file

pub method_defined_at : (ids : Ids) (classes : List RawClass) (name : List ℕ) (class : RawClass) (place : ℕ) (raw : RawMethod) → AreSound ids classes → members_of ids classes name ≡ Some class →
    slice_get class.methods place ≡ Some raw → method_defined ids classes name (method_member ids raw.row) ≡ Some raw
unfolding method_defined method_among
method_defined_at ids classes name class place raw sound members there =
    ap (method_among ids (method_member ids raw.row)) members
    ∙ find_first (λ (method : RawMethod). bytes_eq (method_member ids method.row) (method_member ids raw.row)) class.methods place raw there (bytes_same (method_member ids raw.row) (method_member ids raw.row) refl) none
  where
    none : (j : ℕ) (other : RawMethod) → j < place → slice_get class.methods j ≡ Some other → bytes_eq (method_member ids other.row) (method_member ids raw.row) ≡ true → ⊥
    none j other less at same =
        let d = definition_from ids classes name class members in
        sound.distinct d.number (IsDuplicate.of_method d.there (record {
          earlier = j;
          later = place;
          order = less;
          first = other;
          first_there = at;
          second = raw;
          second_there = there;
          same = same_bytes (method_member ids other.row) (method_member ids raw.row) same;
        }))

pub method_placed_at : (ids : Ids) (classes : List RawClass) (name : List ℕ) (class : RawClass) (place : ℕ) → members_of ids classes name ≡ Some class → method_placed ids classes name place ≡ slice_get class.methods place
unfolding method_placed method_in
method_placed_at ids classes name class place members = ap (method_in place) members

-- a method that is defined has a place
pub record IsMethodAt (ids : Ids) (classes : List RawClass) (name member : List ℕ) (raw : RawMethod) : Type 0 where
  pub class : RawClass
  pub members : members_of ids classes name ≡ Some class
  pub place : ℕ
  pub there : slice_get class.methods place ≡ Some raw
  pub named : method_member ids raw.row ≡ member

pub method_at : (ids : Ids) (classes : List RawClass) (name member : List ℕ) (raw : RawMethod) → method_defined ids classes name member ≡ Some raw → IsMethodAt ids classes name member raw
unfolding method_defined method_among
method_at ids classes name member raw e = from (members_of ids classes name) refl
  where
    from : (o : Option RawClass) → members_of ids classes name ≡ o → IsMethodAt ids classes name member raw
    from None is = absurd (let none : None ≡ Some raw = sym (ap (method_among ids member) is) ∙ e in cc)
    from (Some class) is =
        let found = sym (ap (method_among ids member) is) ∙ e in
        let (place, there, passes) = find_place (λ (method : RawMethod). bytes_eq (method_member ids method.row) member) class.methods raw found in
        record { class = class; members = is; place = place; there = there; named = same_bytes (method_member ids raw.row) member passes }

pub no_method : (ids : Ids) (classes : List RawClass) (name member : List ℕ) → members_of ids classes name ≡ None → method_defined ids classes name member ≡ None
unfolding method_defined method_among
no_method ids classes name member none = ap (method_among ids member) none

-- ---- and fields

pub field_defined_at : (ids : Ids) (classes : List RawClass) (name : List ℕ) (class : RawClass) (place : ℕ) (raw : RawField) → AreSound ids classes → members_of ids classes name ≡ Some class →
    slice_get class.fields place ≡ Some raw → field_defined ids classes name (field_member ids raw.row) ≡ Some raw
unfolding field_defined field_among
field_defined_at ids classes name class place raw sound members there =
    ap (field_among ids (field_member ids raw.row)) members
    ∙ find_first (λ (field : RawField). bytes_eq (field_member ids field.row) (field_member ids raw.row)) class.fields place raw there (bytes_same (field_member ids raw.row) (field_member ids raw.row) refl) none
  where
    none : (j : ℕ) (other : RawField) → j < place → slice_get class.fields j ≡ Some other → bytes_eq (field_member ids other.row) (field_member ids raw.row) ≡ true → ⊥
    none j other less at same =
        let d = definition_from ids classes name class members in
        sound.distinct d.number (IsDuplicate.of_field d.there (record {
          earlier = j;
          later = place;
          order = less;
          first = other;
          first_there = at;
          second = raw;
          second_there = there;
          same = same_bytes (field_member ids other.row) (field_member ids raw.row) same;
        }))

pub field_placed_at : (ids : Ids) (classes : List RawClass) (name : List ℕ) (class : RawClass) (place : ℕ) → members_of ids classes name ≡ Some class → field_placed ids classes name place ≡ slice_get class.fields place
unfolding field_placed field_in
field_placed_at ids classes name class place members = ap (field_in place) members

-- a field that is defined has a place
pub record IsFieldAt (ids : Ids) (classes : List RawClass) (name member : List ℕ) (raw : RawField) : Type 0 where
  pub class : RawClass
  pub members : members_of ids classes name ≡ Some class
  pub place : ℕ
  pub there : slice_get class.fields place ≡ Some raw
  pub named : field_member ids raw.row ≡ member

pub field_at : (ids : Ids) (classes : List RawClass) (name member : List ℕ) (raw : RawField) → field_defined ids classes name member ≡ Some raw → IsFieldAt ids classes name member raw
unfolding field_defined field_among
field_at ids classes name member raw e = from (members_of ids classes name) refl
  where
    from : (o : Option RawClass) → members_of ids classes name ≡ o → IsFieldAt ids classes name member raw
    from None is = absurd (let none : None ≡ Some raw = sym (ap (field_among ids member) is) ∙ e in cc)
    from (Some class) is =
        let found = sym (ap (field_among ids member) is) ∙ e in
        let (place, there, passes) = find_place (λ (field : RawField). bytes_eq (field_member ids field.row) member) class.fields raw found in
        record { class = class; members = is; place = place; there = there; named = same_bytes (field_member ids raw.row) member passes }

pub no_field : (ids : Ids) (classes : List RawClass) (name member : List ℕ) → members_of ids classes name ≡ None → field_defined ids classes name member ≡ None
unfolding field_defined field_among
no_field ids classes name member none = ap (field_among ids member) none

-- ---- built-in members

-- of a list none passes for an earlier one
distinct_by : List (List ℕ) → Bool
distinct_by [] = true
distinct_by (name ∷ names) = list_all (λ (other : List ℕ). not (bytes_eq name other)) names && distinct_by names

both : (a b : Bool) → (a && b) ≡ true → (a ≡ true) × (b ≡ true)
both true true e = (refl, refl)
both true false e = absurd (cc)
both false b e = absurd (cc)

not_true : (b : Bool) → not b ≡ true → b ≡ true → ⊥
not_true true e f = absurd (cc)
not_true false e f = absurd (cc)

all_pass : {A : Type 0} (p : A → Bool) (xs : List A) → list_all p xs ≡ true → (k : ℕ) (x : A) → slice_get xs k ≡ Some x → p x ≡ true
all_pass p [] all k x there = absurd (cc)
all_pass p (y ∷ xs) all zero x there = subst (λ z. p z ≡ true) (some_is y x there) (both (p y) (list_all p xs) all).0
all_pass p (y ∷ xs) all (suc k) x there = all_pass p xs (both (p y) (list_all p xs) all).1 k x there

distinct_at : (methods : List BuiltInMethod) → distinct_by (map built_in_member methods) ≡ true → (j k : ℕ) (other listed : BuiltInMethod) → j < k → slice_get methods j ≡ Some other → slice_get methods k ≡ Some listed →
    built_in_member other ≡ built_in_member listed → ⊥
unfolding distinct_by
distinct_at [] all j k other listed less first second same = absurd (cc)
distinct_at (m ∷ methods) all j zero other listed less first second same = absurd (omega arith)
distinct_at (m ∷ methods) all zero (suc k) other listed less first second same =
    let parts = both (list_all (λ (name : List ℕ). not (bytes_eq (built_in_member m) name)) (map built_in_member methods)) (distinct_by (map built_in_member methods)) all in
    let differs = all_pass (λ (name : List ℕ). not (bytes_eq (built_in_member m) name)) (map built_in_member methods) parts.0 k (built_in_member listed) (mapped methods k listed second) in
    let is : built_in_member m ≡ built_in_member listed = ap built_in_member (some_is m other first) ∙ same in
    not_true (bytes_eq (built_in_member m) (built_in_member listed)) differs (bytes_same (built_in_member m) (built_in_member listed) is)
  where
    mapped : (xs : List BuiltInMethod) (n : ℕ) (x : BuiltInMethod) → slice_get xs n ≡ Some x → slice_get (map built_in_member xs) n ≡ Some (built_in_member x)
    mapped [] n x there = absurd (cc)
    mapped (y ∷ xs) zero x there = ap (λ (z : BuiltInMethod). Some (built_in_member z)) (some_is y x there)
    mapped (y ∷ xs) (suc n) x there = mapped xs n x there
distinct_at (m ∷ methods) all (suc j) (suc k) other listed less first second same =
    distinct_at methods (both (list_all (λ (name : List ℕ). not (bytes_eq (built_in_member m) name)) (map built_in_member methods)) (distinct_by (map built_in_member methods)) all).1 j k other listed (omega arith) first second same

each_distinct : list_all (λ (table : BuiltInMethods). distinct_by (map built_in_member table.methods)) built_in_tables ≡ true
unfolding distinct_by built_in_tables built_in_member print_stream_methods object_methods string_methods string_builder_methods message_methods object_name string_name string_builder_name system_name print_stream_name throwable_name exception_name error_name runtime_exception_name arithmetic_exception_name null_pointer_exception_name array_store_exception_name class_cast_exception_name index_out_of_bounds_exception_name negative_array_size_exception_name illegal_argument_exception_name illegal_state_exception_name array_index_out_of_bounds_exception_name string_index_out_of_bounds_exception_name linkage_error_name virtual_machine_error_name no_class_def_found_error_name exception_in_initializer_error_name incompatible_class_change_error_name abstract_method_error_name stack_overflow_error_name
each_distinct = refl

listed_distinct : (what : ClassKind) (class : List ℕ) → distinct_by (map built_in_member (built_in_by_kind what class)) ≡ true
unfolding built_in_by_kind methods_of_table distinct_by array_methods
listed_distinct kind.File class = refl
listed_distinct kind.Outside class = refl
listed_distinct kind.OutsideError class = refl
listed_distinct kind.Array class = refl
listed_distinct kind.BuiltIn class = from (find (λ (table : BuiltInMethods). bytes_eq table.class class) built_in_tables) refl
  where
    from : (o : Option BuiltInMethods) → find (λ (table : BuiltInMethods). bytes_eq table.class class) built_in_tables ≡ o → distinct_by (map built_in_member (methods_of_table o)) ≡ true
    from None is = refl
    from (Some table) is =
        let (k, there, passes) = find_place (λ (table : BuiltInMethods). bytes_eq table.class class) built_in_tables table is in
        all_pass (λ (table : BuiltInMethods). distinct_by (map built_in_member table.methods)) built_in_tables each_distinct k table there

all_distinct : (ids : Ids) (class : List ℕ) → distinct_by (map built_in_member (built_in_methods_of ids class)) ≡ true
unfolding built_in_methods_of
all_distinct ids class = listed_distinct (kind_of_class ids class) class

-- a listed method is the one of its name
pub method_listed_at : (ids : Ids) (class : List ℕ) (place : ℕ) (listed : BuiltInMethod) → slice_get (built_in_methods_of ids class) place ≡ Some listed → method_listed ids class (built_in_member listed) ≡ Some listed
unfolding method_listed
method_listed_at ids class place listed there =
    find_first (λ (method : BuiltInMethod). bytes_eq (built_in_member method) (built_in_member listed)) (built_in_methods_of ids class) place listed there (bytes_same (built_in_member listed) (built_in_member listed) refl) none
  where
    none : (j : ℕ) (other : BuiltInMethod) → j < place → slice_get (built_in_methods_of ids class) j ≡ Some other → bytes_eq (built_in_member other) (built_in_member listed) ≡ true → ⊥
    none j other less at same = distinct_at (built_in_methods_of ids class) (all_distinct ids class) j place other listed less at there (same_bytes (built_in_member other) (built_in_member listed) same)

-- a listed method has a place
pub listed_at_place : (ids : Ids) (class member : List ℕ) (listed : BuiltInMethod) → method_listed ids class member ≡ Some listed → (place : ℕ) × (slice_get (built_in_methods_of ids class) place ≡ Some listed) × (built_in_member listed ≡ member)
unfolding method_listed
listed_at_place ids class member listed e =
    let (place, there, passes) = find_place (λ (method : BuiltInMethod). bytes_eq (built_in_member method) member) (built_in_methods_of ids class) listed e in
    (place, there, same_bytes (built_in_member listed) member passes)

-- ---- classes that list methods are not of the file

lists_by_kind : (what : ClassKind) (class : List ℕ) (place : ℕ) (listed : BuiltInMethod) → slice_get (built_in_by_kind what class) place ≡ Some listed → (what ≡ kind.BuiltIn) ⊎ (what ≡ kind.Array)
unfolding built_in_by_kind
lists_by_kind kind.File class place listed there = absurd (cc)
lists_by_kind kind.Outside class place listed there = absurd (cc)
lists_by_kind kind.OutsideError class place listed there = absurd (cc)
lists_by_kind kind.BuiltIn class place listed there = inl refl
lists_by_kind kind.Array class place listed there = inr refl

outside_is_not : (name : List ℕ) → outside_kind name ≡ kind.BuiltIn → ⊥
unfolding outside_kind
outside_is_not name e = from (is_exception name) (is_error name) e
  where
    from : (a b : Bool) → (if a then kind.OutsideError else if b then kind.OutsideError else kind.Outside) ≡ kind.BuiltIn → ⊥
    from true b same = absurd (cc)
    from false true same = absurd (cc)
    from false false same = absurd (cc)

built_in_by : (name : List ℕ) (one two three : Bool) → (if one then kind.BuiltIn else if two then kind.File else if three then kind.Array else outside_kind name) ≡ kind.BuiltIn → one ≡ true
built_in_by name true two three e = refl
built_in_by name false true three e = absurd (cc)
built_in_by name false false true e = absurd (cc)
built_in_by name false false false e = absurd (outside_is_not name e)

array_by : (name : List ℕ) (one two three : Bool) → (if one then kind.BuiltIn else if two then kind.File else if three then kind.Array else outside_kind name) ≡ kind.Array → two ≡ false
array_by name true true three e = absurd (cc)
array_by name false true three e = absurd (cc)
array_by name one false three e = refl

find_none : {A : Type 0} (p : A → Bool) (xs : List A) (k : ℕ) (x : A) → find p xs ≡ None → slice_get xs k ≡ Some x → p x ≡ true → ⊥
find_none p [] k x none there passes = absurd (cc)
find_none {A} p (y ∷ xs) k x none there passes = from (p y) refl k there (λ n rest at. find_none p xs n x rest at passes)
  where
    from : (b : Bool) → p y ≡ b → (n : ℕ) → slice_get (y ∷ xs) n ≡ Some x → ((m : ℕ) → find p xs ≡ None → slice_get xs m ≡ Some x → ⊥) → ⊥
    from true is n at rests = absurd (let some : Some y ≡ None = sym (ap (λ b. cond b (Some y) (find p xs)) is) ∙ none in cc)
    from false is zero at rests = absurd (let e : true ≡ false = sym passes ∙ (ap p (sym (some_is y x at)) ∙ is) in cc)
    from false is (suc n) at rests = rests n (sym (ap (λ b. cond b (Some y) (find p xs)) is) ∙ none) at

defined_or_not : (ids : Ids) (number : ℕ) (name : List ℕ) → Defines ids number name → is_defined ids name ≡ false → ⊥
unfolding is_defined definition_of
defined_or_not ids number name d e = from (find (λ (stated : ClassRow). bytes_eq (type_name ids stated.class) name) ids.classes) refl
  where
    from : (o : Option ClassRow) → find (λ (stated : ClassRow). bytes_eq (type_name ids stated.class) name) ids.classes ≡ o → ⊥
    from (Some stated) is = absurd (let no : true ≡ false = sym (ap is_some is) ∙ e in cc)
    from None is = find_none (λ (stated : ClassRow). bytes_eq (type_name ids stated.class) name) ids.classes number d.stated is d.there (bytes_same (type_name ids d.stated.class) name d.named)

-- a class that lists methods is built in or an array, and none of these is of the file
pub not_of_file : (ids : Ids) (classes : List RawClass) (name : List ℕ) (place : ℕ) (listed : BuiltInMethod) → AreSound ids classes → slice_get (built_in_methods_of ids name) place ≡ Some listed → members_of ids classes name ≡ None
unfolding built_in_methods_of kind_of_class
not_of_file ids classes name place listed sound there = undefined ids classes name (λ number d. from number d (lists_by_kind (kind_of_class ids name) name place listed there))
  where
    from : (number : ℕ) → Defines ids number name → (kind_of_class ids name ≡ kind.BuiltIn) ⊎ (kind_of_class ids name ≡ kind.Array) → ⊥
    from number d (inl is) = sound.distinct number (IsDuplicate.of_built_in d (built_in_by name (is_built_in name) (is_defined ids name) (begins_with 91 name) is))
    from number d (inr is) = defined_or_not ids number name d (array_by name (is_built_in name) (is_defined ids name) (begins_with 91 name) is)

-- nor is `System`
system_is : is_built_in system_name ≡ true
unfolding built_in_classes built_in_plain_classes built_in_throwables object_name string_name string_builder_name system_name print_stream_name throwable_name exception_name error_name runtime_exception_name arithmetic_exception_name null_pointer_exception_name array_store_exception_name class_cast_exception_name index_out_of_bounds_exception_name negative_array_size_exception_name illegal_argument_exception_name illegal_state_exception_name array_index_out_of_bounds_exception_name string_index_out_of_bounds_exception_name linkage_error_name virtual_machine_error_name no_class_def_found_error_name exception_in_initializer_error_name incompatible_class_change_error_name abstract_method_error_name stack_overflow_error_name
system_is = refl

pub system_is_class : (ids : Ids) → IsClassName ids system_name
system_is_class ids = IsClassName.built_in system_is

pub no_field_of_system : (ids : Ids) (classes : List RawClass) (member : List ℕ) → AreSound ids classes → field_defined ids classes system_name member ≡ None
no_field_of_system ids classes member sound = no_field ids classes system_name member (undefined ids classes system_name (λ number d. sound.distinct number (IsDuplicate.of_built_in d system_is)))
