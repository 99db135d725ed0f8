-- Definitions of names that are taken, and members that stand twice.
use Rattle.std.proofs.Common.{◌≡◌, ◌⊎◌, inl, inr, ℕ, ◌+◌, ◌<◌, ◌≤◌, true, false, List, length, get_or, map, ltb, Some, None, slice_get, refl, ap, subst, sym, ◌∙◌, arith}
use Rattle.std.specs.Prelude.{◌↔◌, Bool, IsTrue}
use Rattle.std.proofs.lemmas.Bool.{cases_lt}
use Rattle.std.proofs.lemmas.Bool.Decides.{nat_tests}
use Rattle.std.proofs.lemmas.Option.{slice_get-map, slice_get_within, slice_get_cases}
use Rattle.std.specs.Option.{option_map}
use Rattle.cc_meaning.specs.declared.file.Ids.{Ids}
use Rattle.cc_meaning.specs.declared.file.RawClass.{RawClass}
use Rattle.cc_meaning.specs.BuiltIn.{is_built_in}
use Rattle.cc_meaning_program.specs.Named.{field_member, method_member}
use Rattle.cc_meaning_program.specs.Definitions.{Defines}
use Rattle.cc_meaning_program.specs.ClassFaults.{Repeats, IsDuplicate, of_built_in, of_class, of_field, of_method, NoneIs}
use Rattle.cc_hierarchy.specs.Indexes.{IsFirstOf, defined_name}
use Rattle.cc_hierarchy.specs.Judging.{IsTakenName, built_in, defined, RepeatsMember, field, method, HasOneEach}
use Rattle.cc_hierarchy.proofs.Defining.{defines_named, named_defines, defines_within}

-- ---- names that are taken

pub defines_itself : (ids : Ids) (number : ℕ) → number < length ids.classes → Defines ids number (defined_name ids number)
defines_itself ids number within = named_defines ids number (defined_name ids number) within refl

pub same_name : (ids : Ids) (number : ℕ) (this that : List ℕ) → Defines ids number this → Defines ids number that → this ≡ that
same_name ids number this that a b = sym (defines_named ids number this a) ∙ defines_named ids number that b

module _ (ids : Ids) (number : ℕ) (within : number < length ids.classes) where
  pub taken_by_built_in : is_built_in (defined_name ids number) ≡ true → IsTakenName ids number
  taken_by_built_in holds = built_in (defines_itself ids number within) holds

  pub taken_by_first : (first : ℕ) → IsFirstOf ids (defined_name ids number) first → first < number → IsTakenName ids number
  taken_by_first first is less = defined (defines_itself ids number within) less is.defines

  pub not_taken : is_built_in (defined_name ids number) ≡ false → ((earlier : ℕ) → earlier < number → ¬ Defines ids earlier (defined_name ids number)) → ¬ IsTakenName ids number
  not_taken plain before (built_in {name = name} d holds) =
      let both : true ≡ false = sym holds ∙ ap is_built_in (same_name ids number name (defined_name ids number) d (defines_itself ids number within)) ∙ plain in
      cc
  not_taken plain before (defined {name = name} {earlier = earlier} d less again) =
      before earlier less (subst (λ n. Defines ids earlier n) (same_name ids number name (defined_name ids number) d (defines_itself ids number within)) again)

  pub none_before_first : (first : ℕ) → IsFirstOf ids (defined_name ids number) first → number ≤ first → (earlier : ℕ) → earlier < number → ¬ Defines ids earlier (defined_name ids number)
  none_before_first first is high earlier less = is.before earlier (omega arith)

  pub taken_iff : (first : ℕ) → IsFirstOf ids (defined_name ids number) first → is_built_in (defined_name ids number) ≡ false → IsTrue (ltb first number) ↔ IsTakenName ids number
  taken_iff first is plain = (λ less. taken_by_first first is (grind (arith, nat_tests, less)), λ taken. back (cases_lt first number) taken)
    where
      back : (first < number) ⊎ (number ≤ first) → IsTakenName ids number → IsTrue (ltb first number)
      back (inl less) taken = grind (arith, nat_tests, less)
      back (inr high) taken = absurd (not_taken plain (none_before_first first is high) taken)

-- ---- members

pub repeats_mapped : {A : Type 0} (name_of : ℕ → List ℕ) (row_of : A → ℕ) (items : List A) → Repeats name_of (map row_of items) → Repeats (λ item. name_of (row_of item)) items
repeats_mapped {A} name_of row_of items r = from (found r.earlier r.first r.first_there) (found r.later r.second r.second_there)
  where
    found : (place row : ℕ) → slice_get (map row_of items) place ≡ Some row → (item : A) × (slice_get items place ≡ Some item) × (row_of item ≡ row)
    found place row is = cases (slice_get_cases items place).1
      where
        cases : ((x : A) × (place < length items) × (slice_get items place ≡ Some x) × (get_or items place x ≡ x)) ⊎ ((length items ≤ place) × (slice_get items place ≡ None)) → (item : A) × (slice_get items place ≡ Some item) × (row_of item ≡ row)
        cases (inl (x, inside, there, same)) =
            let both : Some (row_of x) ≡ Some row = sym (slice_get-map row_of items place ∙ ap (option_map row_of) there) ∙ is in
            (x, there, cc)
        cases (inr (past, none)) =
            let both : None ≡ Some row = sym (slice_get-map row_of items place ∙ ap (option_map row_of) none) ∙ is in
            absurd cc

    from : (item : A) × (slice_get items r.earlier ≡ Some item) × (row_of item ≡ r.first) → (item : A) × (slice_get items r.later ≡ Some item) × (row_of item ≡ r.second) → Repeats (λ item. name_of (row_of item)) items
    from (x, x_there, x_row) (y, y_there, y_row) = record {
      earlier = r.earlier;
      later = r.later;
      order = r.order;
      first = x;
      first_there = x_there;
      second = y;
      second_there = y_there;
      same = ap name_of x_row ∙ r.same ∙ ap name_of (sym y_row);
    }

pub repeats_of_rows : {A : Type 0} (name_of : ℕ → List ℕ) (row_of : A → ℕ) (items : List A) → Repeats (λ item. name_of (row_of item)) items → Repeats name_of (map row_of items)
repeats_of_rows name_of row_of items r = record {
  earlier = r.earlier;
  later = r.later;
  order = r.order;
  first = row_of r.first;
  first_there = slice_get-map row_of items r.earlier ∙ ap (option_map row_of) r.first_there;
  second = row_of r.second;
  second_there = slice_get-map row_of items r.later ∙ ap (option_map row_of) r.second_there;
  same = r.same;
}

pub mapped_iff : {A : Type 0} (name_of : ℕ → List ℕ) (row_of : A → ℕ) (items : List A) (rows : List ℕ) (found : Bool) → rows ≡ map row_of items → IsTrue found ↔ Repeats name_of rows →
    IsTrue found ↔ Repeats (λ item. name_of (row_of item)) items
mapped_iff name_of row_of items rows found is h = (
  λ e. repeats_mapped name_of row_of items (subst (λ r. Repeats name_of r) is (h.0 e)),
  λ r. h.1 (subst (λ r. Repeats name_of r) (sym is) (repeats_of_rows name_of row_of items r)),
)

pub no_member : (ids : Ids) (class : RawClass) → ¬ Repeats (λ f. field_member ids f.row) class.fields → ¬ Repeats (λ m. method_member ids m.row) class.methods → ¬ RepeatsMember ids class
no_member ids class no_field no_method (field r) = no_field r
no_member ids class no_field no_method (method r) = no_method r

-- ---- definitions

pub duplicate : (ids : Ids) (classes : List RawClass) (number : ℕ) (class : RawClass) → slice_get classes number ≡ Some class → IsTakenName ids number ⊎ RepeatsMember ids class → IsDuplicate ids classes number
duplicate ids classes number class there (inl (built_in d holds)) = of_built_in d holds
duplicate ids classes number class there (inl (defined d less again)) = of_class d less again
duplicate ids classes number class there (inr (field r)) = of_field there r
duplicate ids classes number class there (inr (method r)) = of_method there r

pub no_duplicate : (ids : Ids) (classes : List RawClass) (number : ℕ) (class : RawClass) → slice_get classes number ≡ Some class → ¬ (IsTakenName ids number ⊎ RepeatsMember ids class) → ¬ IsDuplicate ids classes number
no_duplicate ids classes number class there none (of_built_in d holds) = none (inl (built_in d holds))
no_duplicate ids classes number class there none (of_class d less again) = none (inl (defined d less again))
no_duplicate ids classes number class there none (of_field {class = other} is r) =
    let same : other ≡ class = let both : Some other ≡ Some class = sym is ∙ there in cc in
    none (inr (subst (RepeatsMember ids) same (field r)))
no_duplicate ids classes number class there none (of_method {class = other} is r) =
    let same : other ≡ class = let both : Some other ≡ Some class = sym is ∙ there in cc in
    none (inr (subst (RepeatsMember ids) same (method r)))

pub duplicate_within : (ids : Ids) (classes : List RawClass) (number : ℕ) → length classes ≡ length ids.classes → IsDuplicate ids classes number → number < length ids.classes
duplicate_within ids classes number whole (of_built_in {name = name} d holds) = defines_within ids number name d
duplicate_within ids classes number whole (of_class {name = name} d less again) = defines_within ids number name d
duplicate_within ids classes number whole (of_field {class = class} there r) = let within : number < length classes = slice_get_within classes number class there in omega arith
duplicate_within ids classes number whole (of_method {class = class} there r) = let within : number < length classes = slice_get_within classes number class there in omega arith

pub one_each : (ids : Ids) (classes : List RawClass) → NoneIs (IsDuplicate ids classes) → HasOneEach ids
one_each ids classes none this that name a b = from (cases_lt this that) (cases_lt that this)
  where
    from : (this < that) ⊎ (that ≤ this) → (that < this) ⊎ (this ≤ that) → this ≡ that
    from (inl less) other = absurd (none that (of_class b less a))
    from (inr high) (inl less) = absurd (none this (of_class a less b))
    from (inr high) (inr low) = omega arith

pub none_more : (is_so : ℕ → Type 0) (n : ℕ) → ((earlier : ℕ) → earlier < n → ¬ is_so earlier) → ¬ is_so n → (earlier : ℕ) → earlier < n + 1 → ¬ is_so earlier
none_more is_so n before here earlier below so = cases (cases_lt earlier n)
  where
    cases : (earlier < n) ⊎ (n ≤ earlier) → ⊥
    cases (inl less) = before earlier less so
    cases (inr high) =
        let e : earlier ≡ n = omega arith in
        here (subst is_so e so)
