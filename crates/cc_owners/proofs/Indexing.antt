-- The members that a file defines, gathered, sorted and found.
use Rattle.std.proofs.Common.{◌≡◌, ◌≢◌, ◌⊎◌, inl, inr, ℕ, zero, suc, ◌+◌, ◌<◌, ◌≤◌, Bool, true, false, List, [], ◌∷◌, ◌++◌, length, get_or, map, Option, Some, None, slice_get, option_map, option_and_then, refl, sym, ap, subst, ◌∙◌, arith}
use Rattle.std.specs.Prelude.{Contains, position}
use Rattle.std.specs.List.{HoldsAt}
use Rattle.std.specs.List.Sorted.{IsSortedBy, IsNonDecreasingBy, IsPartitionPoint}
use Rattle.std.specs.Str.{bytes_eq}
use Rattle.std.specs.Cmp.Lexicographic.{slice_cmp}
use Rattle.std.specs.Ordering.{nat_cmp, is_lt, ordering_index, ordering_reverse}
use Rattle.std.specs.declared.cmp.Ordering.TheVariants.{Less, Equal, Greater}
use Rattle.std.proofs.lemmas.Bool.{cases_lt}
use Rattle.std.proofs.lemmas.Cmp.{nat_list_cmp_total, tied_itself}
use Rattle.std.proofs.lemmas.List.{length-map}
use Rattle.std.proofs.lemmas.List.Elements.{Contains-append_left, Contains-push, Contains-push_cases}
use Rattle.std.proofs.lemmas.List.Sorted.{searchable_from_sorted}
use Rattle.std.proofs.lemmas.Map.Lookups.{exact_bytes}
use Rattle.std.proofs.lemmas.Option.{slice_get-get_or, slice_get-map, slice_get_within, slice_get_read, get_or_from_slice_get}
use Rattle.std.proofs.lemmas.Slice.Eq.{bytes_eq-Decides}
use Rattle.cc_meaning.specs.declared.file.ClassRow.{ClassRow}
use Rattle.cc_meaning.specs.declared.file.Ids.{Ids}
use Rattle.cc_meaning.specs.declared.file.RawClass.{RawClass}
use Rattle.cc_meaning.specs.declared.file.RawField.{RawField}
use Rattle.cc_meaning.specs.declared.file.RawMethod.{RawMethod}
use Rattle.cc_meaning.specs.Order.{IsRising}
use Rattle.cc_meaning_program.specs.ClassFaults.{AreSound, Repeats, of_field, of_method}
use Rattle.cc_meaning_program.specs.Named.{type_name, field_member, method_member}
use Rattle.cc_meaning_program.specs.OwnMembers.{members_of}
use Rattle.cc_names.specs.InOrder.{AreInOrder}
use Rattle.cc_owners.specs.declared.index.Entry.{Entry}
use Rattle.cc_owners.specs.declared.members.MemberTable.{MemberTable}
use Rattle.cc_owners.specs.declared.members.MemberTable.TheVariants.{Fields, Methods}
use Rattle.cc_owners.specs.Members.{member_of}
use Rattle.cc_owners.specs.Places.{rows_of, place_among, place_of}
use Rattle.cc_owners.specs.Index.{entry_at, entry_name, AreAdded, AreGathered, AreEntries, AreDefinedRows}
use Rattle.cc_owners.proofs.Lists.{some_is}
use Rattle.cc_owners.proofs.Positions.{position_is, position_none}

-- ---- gathering

pub added_none : (definition : ℕ) (rows : List ℕ) (all : List Entry) → AreAdded definition 0 rows all all
added_none definition rows all = record {
  kept = λ entry held. held;
  added = λ place row below there. absurd (omega arith);
  no_more = λ entry held. inl held;
}

pub added_more : (definition at row : ℕ) (rows : List ℕ) (before all after : List Entry) → slice_get rows at ≡ Some row → AreAdded definition at rows before all → after ≡ all ++ entry_at definition at row ∷ [] →
    AreAdded definition (at + 1) rows before after
added_more definition at row rows before all after here so_far is = subst (AreAdded definition (at + 1) rows before) (sym is) (record {
  kept = λ entry held. Contains-append_left all (entry_at definition at row ∷ []) entry (so_far.kept entry held);
  added = λ place other below there. added place other there (cases_lt place at) below;
  no_more = λ entry held. elim (Contains-push_cases all (entry_at definition at row) entry held) [
    | inl old ↦ so_far.no_more entry old
    | inr new ↦ inr (subst (λ (e : Entry). (e.definition ≡ definition) × (slice_get rows e.place ≡ Some e.row)) new (refl, here))
  ];
})
  where
    added : (place other : ℕ) → slice_get rows place ≡ Some other → (place < at) ⊎ (at ≤ place) → place < at + 1 → Contains (all ++ entry_at definition at row ∷ []) (entry_at definition place other)
    added place other there (inl old) below = Contains-append_left all (entry_at definition at row ∷ []) (entry_at definition place other) (so_far.added place other old there)
    added place other there (inr new) below =
        let same : at ≡ place = omega arith in
        let read : slice_get rows at ≡ Some other = subst (λ k. slice_get rows k ≡ Some other) (sym same) there in
        let rows_same : row ≡ other = some_is row other (sym here ∙ read) in
        subst (λ k. Contains (all ++ entry_at definition at row ∷ []) (entry_at definition k other)) same
        (subst (λ r. Contains (all ++ entry_at definition at row ∷ []) (entry_at definition at r)) rows_same (Contains-push all (entry_at definition at row)))

pub gathered_none : (classes : List RawClass) (table : MemberTable) → AreGathered classes table 0 []
gathered_none classes table = record {
  among = λ entry (k, within, is). absurd (omega arith);
  all = λ definition place row class below there stands. absurd (omega arith);
}

pub gathered_more : (classes : List RawClass) (table : MemberTable) (at : ℕ) (class : RawClass) (before after : List Entry) → slice_get classes at ≡ Some class → AreGathered classes table at before →
    AreAdded at (length (rows_of table class)) (rows_of table class) before after → AreGathered classes table (at + 1) after
gathered_more classes table at class before after here so_far more = record {
  among = λ entry held. elim (more.no_more entry held) [
    | inl old ↦ so_far.among entry old
    | inr (same, stands) ↦ record { class = class; there = ap (slice_get classes) same ∙ here; stands = stands }
  ];
  all = λ definition place row other below there stands. all definition place row other there stands (cases_lt definition at) below;
}
  where
    all : (definition place row : ℕ) (other : RawClass) → slice_get classes definition ≡ Some other → slice_get (rows_of table other) place ≡ Some row → (definition < at) ⊎ (at ≤ definition) → definition < at + 1 →
        Contains after (entry_at definition place row)
    all definition place row other there stands (inl old) below = more.kept (entry_at definition place row) (so_far.all definition place row other old there stands)
    all definition place row other there stands (inr new) below =
        let same : at ≡ definition = omega arith in
        let read : slice_get classes at ≡ Some other = subst (λ k. slice_get classes k ≡ Some other) (sym same) there in
        let both : other ≡ class = some_is other class (sym read ∙ here) in
        let mine : slice_get (rows_of table class) place ≡ Some row = subst (λ c. slice_get (rows_of table c) place ≡ Some row) both stands in
        subst (λ k. Contains after (entry_at k place row)) same (more.added place row (slice_get_within (rows_of table class) place row mine) mine)

-- ---- none twice

read_mapped : {A B : Type 0} (f : A → B) (items : List A) (at : ℕ) (row : B) → slice_get (map f items) at ≡ Some row → (x : A) × (slice_get items at ≡ Some x) × (f x ≡ row)
read_mapped {A = A} f items at row there = from (slice_get items at) refl (sym (slice_get-map f items at) ∙ there)
  where
    from : (read : Option A) → slice_get items at ≡ read → option_map f read ≡ Some row → (x : A) × (slice_get items at ≡ Some x) × (f x ≡ row)
    from None e is = absurd cc
    from (Some x) e is = (x, e, some_is (f x) row is)

repeats : {A : Type 0} (f : A → ℕ) (name_of : ℕ → List ℕ) (items : List A) (i j one other : ℕ) → slice_get (map f items) i ≡ Some one → slice_get (map f items) j ≡ Some other → i < j → name_of one ≡ name_of other →
    Repeats (λ x. name_of (f x)) items
repeats f name_of items i j one other here there low same =
    let (x, x_there, x_is) = read_mapped f items i one here in
    let (y, y_there, y_is) = read_mapped f items j other there in
    record { earlier = i; later = j; order = low; first = x; first_there = x_there; second = y; second_there = y_there; same = ap name_of x_is ∙ same ∙ ap name_of (sym y_is) }

-- members at two places of a class have two names
two_names : (ids : Ids) (classes : List RawClass) (table : MemberTable) → AreSound ids classes → (definition : ℕ) (class : RawClass) → slice_get classes definition ≡ Some class → (i j one other : ℕ) →
    slice_get (rows_of table class) i ≡ Some one → slice_get (rows_of table class) j ≡ Some other → i < j → member_of ids table one ≢ member_of ids table other
unfolding rows_of member_of
two_names ids classes Fields sound definition class there i j one other first second low same =
    sound.distinct definition (of_field there (repeats (λ (field : RawField). field.row) (field_member ids) class.fields i j one other first second low same))
two_names ids classes Methods sound definition class there i j one other first second low same =
    sound.distinct definition (of_method there (repeats (λ (method : RawMethod). method.row) (method_member ids) class.methods i j one other first second low same))

-- ---- found

mapped_at : {A B : Type 0} (f : A → B) (xs : List A) (k : ℕ) (d : A) → get_or (map f xs) k (f d) ≡ f (get_or xs k d)
mapped_at f [] k d = refl
mapped_at f (x ∷ xs) zero d = refl
mapped_at f (x ∷ xs) (suc k) d = mapped_at f xs k d

decided : (a b : List ℕ) (tested : Bool) → bytes_eq a b ≡ tested → a ≢ b → tested ≡ false
decided a b true e apart = absurd (apart ((bytes_eq-Decides a b).0 e))
decided a b false e apart = refl

apart_fails : (a b : List ℕ) → a ≢ b → bytes_eq a b ≡ false
apart_fails a b apart = decided a b (bytes_eq a b) refl apart

same_passes : (a b : List ℕ) → a ≡ b → bytes_eq a b ≡ true
same_passes a b e = (bytes_eq-Decides a b).1 e

-- what isn't found among names that rise
module _ {A : Type 0} (name_of : A → List ℕ) (items : List A) (rise : IsRising (map name_of items)) (name : List ℕ) where
  sorted_from : IsSortedBy (λ a b. is_lt (slice_cmp nat_cmp (name_of a) (name_of b))) items
  sorted_from k d low within =
      let less = rise k (k + 1) (name_of d) (omega arith) (omega (arith, within, length-map items name_of)) in
      let turned : is_lt (slice_cmp nat_cmp (get_or (map name_of items) (k + 1) (name_of d)) (get_or (map name_of items) k (name_of d))) ≡ false =
      ap is_lt (nat_list_cmp_total.antisymm (get_or (map name_of items) (k + 1) (name_of d)) (get_or (map name_of items) k (name_of d)) ∙ ap ordering_reverse less) in
      subst (λ a. is_lt (slice_cmp nat_cmp a (name_of (get_or items k d))) ≡ false) (mapped_at name_of items (k + 1) d)
      (subst (λ b. is_lt (slice_cmp nat_cmp (get_or (map name_of items) (k + 1) (name_of d)) b) ≡ false) (mapped_at name_of items k d) turned)

  abbrev Parts : ℕ → Type 0
  Parts end = IsPartitionPoint (λ item. slice_cmp nat_cmp (name_of item) name ≡ Less) (λ item. slice_cmp nat_cmp (name_of item) name ≡ Greater) items end

  nowhere : (end : ℕ) → Parts end → (k : ℕ) (d : A) → k < length items → slice_cmp nat_cmp (name_of (get_or items k d)) name ≡ Equal → (k < end) ⊎ (end ≤ k) → ⊥
  nowhere end split k d within equal (inl below) = absurd (let e : Equal ≡ Less = sym equal ∙ split.0 k d (omega arith) below in cc)
  nowhere end split k d within equal (inr above) = absurd (let e : Equal ≡ Greater = sym equal ∙ split.1 k d above within in cc)

  pub not_held : (end : ℕ) → (IsNonDecreasingBy (λ item. ordering_index (slice_cmp nat_cmp (name_of item) name)) items → Parts end) → Contains (map name_of items) name → ⊥
  not_held end told (k, within, is) =
      let split = told (searchable_from_sorted nat_list_cmp_total name_of items name sorted_from) in
      let (item, there, named) = read_mapped name_of items k name (slice_get_read (map name_of items) (length (map name_of items)) k name refl within (sym is)) in
      let got : get_or items k item ≡ item = get_or_from_slice_get items k item item there in
      let equal : slice_cmp nat_cmp (name_of (get_or items k item)) name ≡ Equal = subst (λ n. slice_cmp nat_cmp n name ≡ Equal) (sym (ap name_of got ∙ named)) (tied_itself nat_list_cmp_total name) in
      nowhere end split k item (slice_get_within items k item there) equal (cases_lt k end)

module _ (ids : Ids) (classes : List RawClass) (table : MemberTable) (entries : List Entry) (sound : AreSound ids classes) (are : AreEntries ids classes table entries) (definition row : ℕ) where
  abbrev searched : List ℕ
  searched = definition ∷ member_of ids table row

  abbrev passes : ℕ → Bool
  passes other = bytes_eq (member_of ids table other) (member_of ids table row)

  of_entry : (entry : Entry) → Contains entries entry → entry_name ids table entry ≡ searched → Some entry.place ≡ place_among ids table (member_of ids table row) (slice_get classes definition)
  unfolding entry_name place_among
  of_entry entry held same =
      let number : entry.definition ≡ definition = cc in
      let member : member_of ids table entry.row ≡ member_of ids table row = cc in
      let stated = are.among entry held in
      let there : slice_get classes definition ≡ Some stated.class = ap (slice_get classes) (sym number) ∙ stated.there in
      let at = position_is passes (rows_of table stated.class) entry.place entry.row stated.stands (same_passes (member_of ids table entry.row) (member_of ids table row) member)
      (λ j other below stands. apart_fails (member_of ids table other) (member_of ids table row)
      (λ e. two_names ids classes table sound definition stated.class there j entry.place other entry.row stands stated.stands below (e ∙ sym member))) in
      subst (λ read. Some entry.place ≡ place_among ids table (member_of ids table row) read) (sym there) (sym at)

  pub found_place : (at : ℕ) (d : Entry) → at < length entries → HoldsAt (λ entry. slice_cmp nat_cmp (entry_name ids table entry) searched ≡ Equal) entries at →
      Some (get_or entries at d).place ≡ place_among ids table (member_of ids table row) (slice_get classes definition)
  found_place at d within equal = of_entry (get_or entries at d) (at, within, get_or_from_slice_get entries at (get_or entries at d) (get_or entries at d) (slice_get-get_or entries at d within)) (exact_bytes (entry_name ids table (get_or entries at d)) searched (equal d))

  pub nothing_found : (end : ℕ) →
      (IsNonDecreasingBy (λ entry. ordering_index (slice_cmp nat_cmp (entry_name ids table entry) searched)) entries → IsPartitionPoint (λ entry. slice_cmp nat_cmp (entry_name ids table entry) searched ≡ Less) (λ entry. slice_cmp nat_cmp (entry_name ids table entry) searched ≡ Greater) entries end) →
      None ≡ place_among ids table (member_of ids table row) (slice_get classes definition)
  unfolding place_among
  nothing_found end told = from (slice_get classes definition) refl
    where
      from : (read : Option RawClass) → slice_get classes definition ≡ read → None ≡ place_among ids table (member_of ids table row) read
      from None e = refl
      from (Some class) e = sym (position_none passes (rows_of table class) (λ j other stands. apart_fails (member_of ids table other) (member_of ids table row)
          (λ same. not_held (entry_name ids table) entries are.rise searched end told (subst (λ m. Contains (map (entry_name ids table) entries) (definition ∷ m)) same (are.all definition j other class e stands)))))

-- ---- sorted

pub entries_sorted : (ids : Ids) (classes : List RawClass) (table : MemberTable) (all entries : List Entry) → AreGathered classes table (length classes) all → AreInOrder (entry_name ids table) all entries → AreEntries ids classes table entries
unfolding entry_name
entries_sorted ids classes table all entries gathered order = record {
  rise = order.rise;
  among = λ entry held. gathered.among entry (order.among entry held);
  all = λ definition place row class there stands. order.named (entry_at definition place row) (gathered.all definition place row class (slice_get_within classes definition class there) there stands);
}

-- ---- defined anywhere

pub rows_sorted : (ids : Ids) (classes : List RawClass) (table : MemberTable) (entries : List Entry) (rows : List ℕ) → AreEntries ids classes table entries → AreInOrder (member_of ids table) (map (λ (entry : Entry). entry.row) entries) rows →
    AreDefinedRows ids classes table rows
unfolding entry_name
rows_sorted ids classes table entries rows are order = record {
  rise = order.rise;
  all = λ definition place row class there stands.
      let (k, within, is) = are.all definition place row class there stands in
      let (entry, at, named) = read_mapped (entry_name ids table) entries k (definition ∷ member_of ids table row)
      (slice_get_read (map (entry_name ids table) entries) (length (map (entry_name ids table) entries)) k (definition ∷ member_of ids table row) refl within (sym is)) in
      let same : member_of ids table entry.row ≡ member_of ids table row = cc in
      let read : slice_get (map (λ (e : Entry). e.row) entries) k ≡ Some entry.row = slice_get-map (λ (e : Entry). e.row) entries k ∙ ap (option_map (λ (e : Entry). e.row)) at in
      let held : Contains (map (λ (e : Entry). e.row) entries) entry.row = (k, slice_get_within (map (λ (e : Entry). e.row) entries) k entry.row read, get_or_from_slice_get (map (λ (e : Entry). e.row) entries) k entry.row entry.row read) in
      subst (Contains (map (member_of ids table) rows)) same (order.named entry.row held);
}

-- where no member of a name is defined, no class has one
pub lacks_all : (ids : Ids) (classes : List RawClass) (table : MemberTable) (rows : List ℕ) (row : ℕ) → AreDefinedRows ids classes table rows → (Contains (map (member_of ids table) rows) (member_of ids table row) → ⊥) → (class : List ℕ) →
    place_of ids classes table class (member_of ids table row) ≡ None
unfolding place_of members_of place_among
lacks_all ids classes table rows row are away class = from (position (λ (stated : ClassRow). bytes_eq (type_name ids stated.class) class) ids.classes)
  where
    in_class : (read : Option RawClass) (definition : ℕ) → slice_get classes definition ≡ read → place_among ids table (member_of ids table row) read ≡ None
    in_class None definition e = refl
    in_class (Some members) definition e = position_none (λ other. bytes_eq (member_of ids table other) (member_of ids table row)) (rows_of table members) (λ j other stands. apart_fails (member_of ids table other) (member_of ids table row)
        (λ same. away (subst (Contains (map (member_of ids table) rows)) same (are.all definition j other members e stands))))

    from : (definition : Option ℕ) → place_among ids table (member_of ids table row) (option_and_then (slice_get classes) definition) ≡ None
    from None = refl
    from (Some definition) = in_class (slice_get classes definition) definition refl
