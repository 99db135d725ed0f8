-- Numbers of 32 bits count what a program has, since the rows of its file bound it.
use Rattle.std.proofs.Common.{◌≡◌, ℕ, zero, suc, ◌+◌, ◌*◌, ◌<◌, ◌≤◌, ◌^◌, Bool, true, false, List, [], ◌∷◌, ◌++◌, length, Option, Some, None, refl, sym, ap, ◌∙◌, subst, arith}
use Rattle.std.specs.Prelude.{slice_get, find, position, option_and_then, codes, nat_le, ◌&&◌, unwrap_or}
use Rattle.std.specs.List.{list_all}
use Rattle.std.specs.Str.{bytes_eq}
use Rattle.std.proofs.lemmas.Bool.Decides.{nat_tests}
use Rattle.std.proofs.lemmas.Option.{slice_get_within}
use Rattle.cc_meaning.specs.declared.file.ClassRow.{ClassRow}
use Rattle.cc_meaning.specs.declared.file.FieldRow.{FieldRow}
use Rattle.cc_meaning.specs.declared.file.Ids.{Ids}
use Rattle.cc_meaning.specs.declared.file.MethodRow.{MethodRow}
use Rattle.cc_meaning.specs.declared.file.RawClass.{RawClass}
use Rattle.cc_meaning.specs.declared.file.RawField.{RawField}
use Rattle.cc_meaning.specs.declared.file.RawMethod.{RawMethod}
use Rattle.cc_meaning.specs.declared.program.Class.{Class}
use Rattle.cc_meaning.specs.declared.program.ClassKind.{ClassKind}
use Rattle.cc_meaning.specs.declared.program.ClassKind.TheVariants.{File, BuiltIn, Outside, OutsideError, Array}
use Rattle.cc_meaning.specs.declared.program.Program.{Program}
use Rattle.cc_meaning.specs.BuiltIn.{BuiltInClass, built_in_classes, built_in_plain_classes, built_in_throwables, system_name}
use Rattle.cc_meaning.specs.Lookup.{class_named}
use Rattle.cc_meaning.specs.Names.{field_name, method_name}
use Rattle.cc_built_in.specs.BuiltInMethods.{BuiltInMethod, BuiltInMethods, built_in_tables, print_stream_methods, object_methods, string_methods, string_builder_methods, message_methods, built_in_member, methods_of_table, array_methods}
use Rattle.cc_meaning_dex.specs.Rows.{IsSameType}
use Rattle.cc_meaning_program.specs.ClassNames.{IsClassName, base_name, texts_name}
use Rattle.cc_meaning_program.specs.Named.{type_name, field_member, field_text, class_of_field, method_member, method_text, class_of_method}
use Rattle.cc_meaning_program.specs.OwnMembers.{built_in_by_kind, built_in_methods_of, members_of, method_among, method_defined, field_among, field_defined, method_listed}
use Rattle.cc_meaning_program.specs.Ancestry.{kind_of_class}
use Rattle.cc_meaning_program.specs.Laws.{OneMethodOwner, OneFieldOwner}
use Rattle.cc_meaning_program.specs.Members.{BelongsMethod, BelongsField, out_member}
use Rattle.cc_meaning_program.specs.Naming.{RowNamesMethod, RowNamesField}
use Rattle.cc_meaning_program.specs.Owners.{FieldOwner, MethodOwner}
use Rattle.cc_meaning_program.specs.Programs.{IsProgram, IsMethodOf, IsFieldOf}
use Rattle.cc_meaning_program.specs.Resolved.{names_of, whole_name}
use Rattle.cc_meaning_program.specs.Rows.{FitClasses, FitTables}
use Rattle.cc_meaning_program.specs.ClassFaults.{AreSound}
use Rattle.cc_meaning_typing.specs.Complete.{HasFewParts}
use Rattle.cc_program_laws.specs.Laws.{HasFewRows}
use Rattle.cc_program_laws.proofs.Lists.{same_bytes, some_same, found_is, position_is, contained_at, found_contained, length_map}
use Rattle.cc_program_laws.proofs.Names.{any_found}
use Rattle.cc_program_laws.proofs.Counts.{few}
use Rattle.cc_program_laws.proofs.Hierarchy.{numbered, in_names}
use Rattle.cc_program_laws.proofs.Standing.{place_within}

-- ---- texts

few_texts : (ids : Ids) (classes : List RawClass) (asked : Option (List ℕ)) (program : Program) → IsProgram ids classes asked program → length program.texts ≤ length ids.texts
few_texts ids classes asked program is =
    few (λ (text : List ℕ). text) (λ text c. slice_get ids.texts c ≡ Some text) (λ x y c one other. some_same x y (sym one ∙ other)) (length ids.texts) program.texts is.texts.rise
    (λ k text there. contained_at ids.texts text ((is.texts.are text).0 (found_contained program.texts k text there))) (λ text c there. slice_get_within ids.texts c text there)

-- ---- classes

data ClassCode (ids : Ids) (name : List ℕ) (c : ℕ) : Type 0 where
  listed : c < length ids.types → name ≡ type_name ids c → ClassCode ids name c
  element : {type : ℕ} → type < length ids.types → c ≡ length ids.types + type → name ≡ base_name (type_name ids type) → ClassCode ids name c
  built_in : {place : ℕ} {class : BuiltInClass} → slice_get built_in_classes place ≡ Some class → place < 26 → c ≡ length ids.types + length ids.types + place → name ≡ class.name → ClassCode ids name c
  texts : c ≡ length ids.types + length ids.types + 26 → name ≡ texts_name → ClassCode ids name c

one_class : (ids : Ids) (x y : List ℕ) (c : ℕ) → ClassCode ids x c → ClassCode ids y c → x ≡ y
one_class ids x y c (ClassCode.listed a e) (ClassCode.listed b f) = e ∙ sym f
one_class ids x y c (ClassCode.listed a e) (ClassCode.element b i f) = absurd (omega (arith, a, i))
one_class ids x y c (ClassCode.listed a e) (ClassCode.built_in there b i f) = absurd (omega (arith, a, i))
one_class ids x y c (ClassCode.listed a e) (ClassCode.texts i f) = absurd (omega (arith, a, i))
one_class ids x y c (ClassCode.element a i e) (ClassCode.listed b f) = absurd (omega (arith, b, i))
one_class ids x y c (ClassCode.element {type = s} a i e) (ClassCode.element {type = t} b j f) = let same : s ≡ t = omega (arith, i, j) in e ∙ (ap (λ t. base_name (type_name ids t)) same ∙ sym f)
one_class ids x y c (ClassCode.element a i e) (ClassCode.built_in there b j f) = absurd (omega (arith, a, i, j))
one_class ids x y c (ClassCode.element a i e) (ClassCode.texts j f) = absurd (omega (arith, a, i, j))
one_class ids x y c (ClassCode.built_in here a i e) (ClassCode.listed b f) = absurd (omega (arith, b, i))
one_class ids x y c (ClassCode.built_in here a i e) (ClassCode.element b j f) = absurd (omega (arith, b, i, j))
one_class ids x y c (ClassCode.built_in {place = s} {class = one} here a i e) (ClassCode.built_in {place = t} {class = other} there b j f) =
    let same : s ≡ t = omega (arith, i, j) in
    let class : one ≡ other = some_same one other (sym here ∙ (ap (slice_get built_in_classes) same ∙ there)) in
    e ∙ (ap (λ (k : BuiltInClass). k.name) class ∙ sym f)
one_class ids x y c (ClassCode.built_in here a i e) (ClassCode.texts j f) = absurd (omega (arith, a, i, j))
one_class ids x y c (ClassCode.texts i e) (ClassCode.listed b f) = absurd (omega (arith, b, i))
one_class ids x y c (ClassCode.texts i e) (ClassCode.element b j f) = absurd (omega (arith, b, i, j))
one_class ids x y c (ClassCode.texts i e) (ClassCode.built_in there b j f) = absurd (omega (arith, b, i, j))
one_class ids x y c (ClassCode.texts i e) (ClassCode.texts j f) = e ∙ sym f

class_below : (ids : Ids) (name : List ℕ) (c : ℕ) → ClassCode ids name c → c < length ids.types + length ids.types + 27
class_below ids name c (ClassCode.listed a e) = omega (arith, a)
class_below ids name c (ClassCode.element a i e) = omega (arith, a, i)
class_below ids name c (ClassCode.built_in there a i e) = omega (arith, a, i)
class_below ids name c (ClassCode.texts i e) = omega (arith, i)

built_in_count : length built_in_classes ≡ 26
unfolding built_in_classes built_in_plain_classes built_in_throwables
built_in_count = refl

class_coded : (ids : Ids) (name : List ℕ) → IsClassName ids name → (c : ℕ) × ClassCode ids name c
class_coded ids _ (IsClassName.listed {type = type} there reference) = (type, ClassCode.listed there refl)
class_coded ids _ (IsClassName.element {type = type} there class) = (length ids.types + type, ClassCode.element there refl refl)
class_coded ids name (IsClassName.built_in built) =
    let one = any_found (λ (class : BuiltInClass). bytes_eq class.name name) built_in_classes built in
    let found = found_is (λ (class : BuiltInClass). bytes_eq class.name name) built_in_classes one.0 one.1 in
    let within : found.1.0 < 26 = subst (λ n. found.1.0 < n) built_in_count (slice_get_within built_in_classes found.1.0 one.0 found.1.1) in
    (length ids.types + length ids.types + found.1.0, ClassCode.built_in found.1.1 within refl (sym (same_bytes one.0.name name found.0)))
class_coded ids _ IsClassName.texts = (length ids.types + length ids.types + 26, ClassCode.texts refl refl)

pub few_classes : (ids : Ids) (classes : List RawClass) (asked : Option (List ℕ)) (program : Program) → IsProgram ids classes asked program → length program.classes ≤ length ids.types + length ids.types + 27
unfolding names_of
few_classes ids classes asked program is =
    let most = few (λ (name : List ℕ). name) (ClassCode ids) (one_class ids) (length ids.types + length ids.types + 27) (names_of program) is.class_names.rise
    (λ k name there. class_coded ids name ((is.class_names.are name).0 (found_contained (names_of program) k name there))) (class_below ids) in
    let long = length_map (λ (class : Class). class.name) program.classes in
    omega (arith, most, long)

-- ---- what the file defines

pub record DefinesMembers (ids : Ids) (classes : List RawClass) (owner : List ℕ) (class : RawClass) : Type 0 where
  pub number : ℕ
  pub stated : ClassRow
  pub defined : slice_get ids.classes number ≡ Some stated
  pub named : type_name ids stated.class ≡ owner
  pub there : slice_get classes number ≡ Some class

members_there : (ids : Ids) (classes : List RawClass) (owner : List ℕ) (class : RawClass) → members_of ids classes owner ≡ Some class → DefinesMembers ids classes owner class
unfolding members_of
members_there ids classes owner class e = from (position (λ (stated : ClassRow). bytes_eq (type_name ids stated.class) owner) ids.classes) refl e
  where
    from : (o : Option ℕ) → position (λ (stated : ClassRow). bytes_eq (type_name ids stated.class) owner) ids.classes ≡ o → option_and_then (slice_get classes) o ≡ Some class → DefinesMembers ids classes owner class
    from None is e = absurd cc
    from (Some number) is e =
        let found = position_is (λ (stated : ClassRow). bytes_eq (type_name ids stated.class) owner) ids.classes number is in
        record { number = number; stated = found.0; defined = found.1; named = same_bytes (type_name ids found.0.class) owner found.2; there = e }

-- the class of a method that the file defines
pub members_found : (ids : Ids) (classes : List RawClass) (owner member : List ℕ) (raw : RawMethod) → method_defined ids classes owner member ≡ Some raw → (class : RawClass) × DefinesMembers ids classes owner class
unfolding method_defined method_among
members_found ids classes owner member raw e = from (members_of ids classes owner) refl e
  where
    from : (o : Option RawClass) → members_of ids classes owner ≡ o → method_among ids member o ≡ Some raw → (class : RawClass) × DefinesMembers ids classes owner class
    from None is e = absurd cc
    from (Some class) is e = (class, members_there ids classes owner class is)

same_type : (ids : Ids) (this that : ℕ) → IsSameType ids this that → type_name ids this ≡ type_name ids that
unfolding type_name
same_type ids this that same = ap (λ o. unwrap_or o []) (same.this_named ∙ sym same.that_named)

module _ (ids : Ids) (classes : List RawClass) (fits : FitClasses ids classes) where
  method_row : (owner member : List ℕ) (raw : RawMethod) → method_defined ids classes owner member ≡ Some raw → (raw.row < length ids.methods) × (whole_name owner member ≡ method_text ids raw.row)
  unfolding method_defined method_among method_text class_of_method whole_name
  method_row owner member raw e = from (members_of ids classes owner) refl e
    where
      from : (o : Option RawClass) → members_of ids classes owner ≡ o → method_among ids member o ≡ Some raw → (raw.row < length ids.methods) × (whole_name owner member ≡ method_text ids raw.row)
      from None is e = absurd cc
      from (Some class) is e =
          let of = members_there ids classes owner class is in
          let found = found_is (λ (method : RawMethod). bytes_eq (method_member ids method.row) member) class.methods raw e in
          let owned = ((fits.members of.number of.stated class of.defined of.there).methods raw (found_contained class.methods found.1.0 raw found.1.1)).owned in
          let name : class_of_method ids (slice_get ids.methods raw.row) ≡ owner = ap (class_of_method ids) owned.there ∙ (sym (same_type ids of.stated.class owned.stated.class owned.same) ∙ of.named) in
          (slice_get_within ids.methods raw.row owned.stated owned.there, ap (λ c. c ++ codes "->" ++ member) (sym name) ∙ ap (λ m. class_of_method ids (slice_get ids.methods raw.row) ++ codes "->" ++ m) (sym (same_bytes (method_member ids raw.row) member found.0)))

  field_row : (owner member : List ℕ) (raw : RawField) → field_defined ids classes owner member ≡ Some raw → (raw.row < length ids.fields) × (whole_name owner member ≡ field_text ids raw.row)
  unfolding field_defined field_among field_text class_of_field whole_name
  field_row owner member raw e = from (members_of ids classes owner) refl e
    where
      from : (o : Option RawClass) → members_of ids classes owner ≡ o → field_among ids member o ≡ Some raw → (raw.row < length ids.fields) × (whole_name owner member ≡ field_text ids raw.row)
      from None is e = absurd cc
      from (Some class) is e =
          let of = members_there ids classes owner class is in
          let found = found_is (λ (field : RawField). bytes_eq (field_member ids field.row) member) class.fields raw e in
          let owned = (fits.members of.number of.stated class of.defined of.there).fields raw (found_contained class.fields found.1.0 raw found.1.1) in
          let name : class_of_field ids (slice_get ids.fields raw.row) ≡ owner = ap (class_of_field ids) owned.there ∙ (sym (same_type ids of.stated.class owned.stated.class owned.same) ∙ of.named) in
          (slice_get_within ids.fields raw.row owned.stated owned.there, ap (λ c. c ++ codes "->" ++ member) (sym name) ∙ ap (λ m. class_of_field ids (slice_get ids.fields raw.row) ++ codes "->" ++ m) (sym (same_bytes (field_member ids raw.row) member found.0)))

-- ---- fields

data FieldCode (ids : Ids) (classes : List RawClass) (name : List ℕ) (c : ℕ) : Type 0 where
  listed : c < length ids.fields → name ≡ field_text ids c → FieldCode ids classes name c
  named : {row : ℕ} {owner member : List ℕ} → RowNamesField ids classes row owner member → c ≡ length ids.fields + row → name ≡ whole_name owner member → FieldCode ids classes name c
  out : c ≡ length ids.fields + length ids.fields → name ≡ whole_name system_name out_member → FieldCode ids classes name c

field_within_rows : (ids : Ids) (classes : List RawClass) (row : ℕ) (owner member : List ℕ) → RowNamesField ids classes row owner member → row < length ids.fields
field_within_rows ids classes row owner member names = slice_get_within ids.fields row names.stated names.there

one_named_field : OneFieldOwner → (ids : Ids) (classes : List RawClass) (row : ℕ) (owner member other within : List ℕ) → RowNamesField ids classes row owner member → RowNamesField ids classes row other within → whole_name owner member ≡ whole_name other within
one_named_field law ids classes row owner member other within one two =
    let stated : one.stated ≡ two.stated = some_same one.stated two.stated (sym one.there ∙ two.there) in
    let same : member ≡ within = sym one.within ∙ two.within in
    let owners : owner ≡ other = law ids classes (type_name ids two.stated.class) within owner other (subst (λ (s : FieldRow). FieldOwner ids classes (type_name ids s.class) within owner) stated (subst (λ m. FieldOwner ids classes (type_name ids one.stated.class) m owner) same one.owned)) two.owned in
    ap (λ o. whole_name o member) owners ∙ ap (whole_name other) same

one_field : OneFieldOwner → (ids : Ids) (classes : List RawClass) (x y : List ℕ) (c : ℕ) → FieldCode ids classes x c → FieldCode ids classes y c → x ≡ y
one_field law ids classes x y c (FieldCode.listed a e) (FieldCode.listed b f) = e ∙ sym f
one_field law ids classes x y c (FieldCode.listed a e) (FieldCode.named names i f) = absurd (omega (arith, a, i))
one_field law ids classes x y c (FieldCode.listed a e) (FieldCode.out i f) = absurd (omega (arith, a, i))
one_field law ids classes x y c (FieldCode.named names i e) (FieldCode.listed b f) = absurd (omega (arith, b, i))
one_field law ids classes x y c (FieldCode.named {row = r} {owner = o} {member = m} names i e) (FieldCode.named {row = s} {owner = p} {member = n} also j f) =
    let same : s ≡ r = omega (arith, i, j) in
    e ∙ (one_named_field law ids classes r o m p n names (subst (λ k. RowNamesField ids classes k p n) same also) ∙ sym f)
one_field law ids classes x y c (FieldCode.named {row = r} {owner = o} {member = m} names i e) (FieldCode.out j f) = let within = field_within_rows ids classes r o m names in absurd (omega (arith, within, i, j))
one_field law ids classes x y c (FieldCode.out i e) (FieldCode.listed b f) = absurd (omega (arith, b, i))
one_field law ids classes x y c (FieldCode.out i e) (FieldCode.named {row = r} {owner = o} {member = m} names j f) = let within = field_within_rows ids classes r o m names in absurd (omega (arith, within, i, j))
one_field law ids classes x y c (FieldCode.out i e) (FieldCode.out j f) = e ∙ sym f

field_below : (ids : Ids) (classes : List RawClass) (name : List ℕ) (c : ℕ) → FieldCode ids classes name c → c < length ids.fields + length ids.fields + 1
field_below ids classes name c (FieldCode.listed a e) = omega (arith, a)
field_below ids classes name c (FieldCode.named {row = r} {owner = o} {member = m} names i e) = let within = field_within_rows ids classes r o m names in omega (arith, within, i)
field_below ids classes name c (FieldCode.out i e) = omega (arith, i)

field_coded : (ids : Ids) (classes : List RawClass) → FitClasses ids classes → (name : List ℕ) → IsFieldOf ids classes name → (c : ℕ) × FieldCode ids classes name c
field_coded ids classes fits name (owner, member, is, BelongsField.defined {raw = raw} defined) = let row = field_row ids classes fits owner member raw defined in (raw.row, FieldCode.listed row.0 (is ∙ row.1))
field_coded ids classes fits name (owner, member, is, BelongsField.out of_system of_out) = (length ids.fields + length ids.fields, FieldCode.out refl (is ∙ (ap (λ o. whole_name o member) of_system ∙ ap (whole_name system_name) of_out)))
field_coded ids classes fits name (owner, member, is, BelongsField.named all there names) = (length ids.fields + names.row, FieldCode.named names.names refl is)

few_fields : OneFieldOwner → (ids : Ids) (classes : List RawClass) (asked : Option (List ℕ)) (program : Program) → FitClasses ids classes → IsProgram ids classes asked program → length program.fields ≤ length ids.fields + length ids.fields + 1
few_fields law ids classes asked program fits is =
    few (field_name program) (λ field c. FieldCode ids classes (field_name program field) c) (λ x y c one other. one_field law ids classes (field_name program x) (field_name program y) c one other) (length ids.fields + length ids.fields + 1) program.fields is.fields_rise
    (λ k field there. field_coded ids classes fits (field_name program field) ((is.fields (field_name program field)).0 (k, field, there, refl))) (λ field c code. field_below ids classes (field_name program field) c code)

-- ---- methods

short : BuiltInMethods → Bool
short table = nat_le (length table.methods) 11

all_short : list_all short built_in_tables ≡ true
unfolding short built_in_tables print_stream_methods object_methods string_methods string_builder_methods message_methods
all_short = refl

short_at : (tables : List BuiltInMethods) (k : ℕ) (table : BuiltInMethods) → list_all short tables ≡ true → slice_get tables k ≡ Some table → short table ≡ true
short_at [] k table all e = absurd cc
short_at (first ∷ rest) zero table all e = from (short first) (list_all short rest) all (ap short (some_same first table e))
  where
    from : (a b : Bool) → (a && b) ≡ true → a ≡ short table → short table ≡ true
    from true b all same = sym same
    from false b all same = absurd cc
short_at (first ∷ rest) (suc k) table all e = short_at rest k table (from (short first) (list_all short rest) all) e
  where
    from : (a b : Bool) → (a && b) ≡ true → b ≡ true
    from true b all = all
    from false b all = absurd cc

few_listed : (of : ClassKind) (owner : List ℕ) → length (built_in_by_kind of owner) ≤ 11
unfolding built_in_by_kind methods_of_table array_methods short
few_listed File owner = omega arith
few_listed BuiltIn owner = from (find (λ (table : BuiltInMethods). bytes_eq table.class owner) built_in_tables) refl
  where
    from : (o : Option BuiltInMethods) → find (λ (table : BuiltInMethods). bytes_eq table.class owner) built_in_tables ≡ o → length (methods_of_table o) ≤ 11
    from None e = omega arith
    from (Some table) e =
        let found = found_is (λ (table : BuiltInMethods). bytes_eq table.class owner) built_in_tables table e in
        let few : nat_le (length table.methods) 11 ≡ true = short_at built_in_tables found.1.0 table all_short found.1.1 in
        grind (arith, nat_tests, few)
few_listed Outside owner = omega arith
few_listed OutsideError owner = omega arith
few_listed Array owner = omega arith

data MethodCode (ids : Ids) (classes : List RawClass) (program : Program) (name : List ℕ) (c : ℕ) : Type 0 where
  listed : c < length ids.methods → name ≡ method_text ids c → MethodCode ids classes program name c
  named : {row : ℕ} {owner member : List ℕ} → RowNamesMethod ids classes row owner member → c ≡ length ids.methods + row → name ≡ whole_name owner member → MethodCode ids classes program name c
  built_in : (owner : List ℕ) (class place : ℕ) {row : BuiltInMethod} → class_named owner program ≡ Some class → slice_get (built_in_methods_of ids owner) place ≡ Some row → c ≡ length ids.methods + length ids.methods + (class * 11 + place) →
      name ≡ whole_name owner (built_in_member row) → MethodCode ids classes program name c

method_within_rows : (ids : Ids) (classes : List RawClass) (row : ℕ) (owner member : List ℕ) → RowNamesMethod ids classes row owner member → row < length ids.methods
method_within_rows ids classes row owner member names = slice_get_within ids.methods row names.stated names.there

place_is_short : (ids : Ids) (owner : List ℕ) (place : ℕ) (row : BuiltInMethod) → slice_get (built_in_methods_of ids owner) place ≡ Some row → place < 11
unfolding built_in_methods_of
place_is_short ids owner place row e =
    let within = slice_get_within (built_in_by_kind (kind_of_class ids owner) owner) place row e in
    let short = few_listed (kind_of_class ids owner) owner in
    omega (arith, within, short)

one_named_method : OneMethodOwner → (ids : Ids) (classes : List RawClass) (row : ℕ) (owner member other within : List ℕ) → RowNamesMethod ids classes row owner member → RowNamesMethod ids classes row other within → whole_name owner member ≡ whole_name other within
one_named_method law ids classes row owner member other within one two =
    let stated : one.stated ≡ two.stated = some_same one.stated two.stated (sym one.there ∙ two.there) in
    let same : member ≡ within = sym one.within ∙ two.within in
    let owners : owner ≡ other = law ids classes (type_name ids two.stated.class) within owner other (subst (λ (s : MethodRow). MethodOwner ids classes (type_name ids s.class) within owner) stated (subst (λ m. MethodOwner ids classes (type_name ids one.stated.class) m owner) same one.owned)) two.owned in
    ap (λ o. whole_name o member) owners ∙ ap (whole_name other) same

one_owner : (program : Program) (owner other : List ℕ) (number : ℕ) → class_named owner program ≡ Some number → class_named other program ≡ Some number → owner ≡ other
one_owner program owner other number one two =
    let here = position_is (λ (class : Class). bytes_eq class.name owner) program.classes number one in
    let there = position_is (λ (class : Class). bytes_eq class.name other) program.classes number two in
    let same : here.0 ≡ there.0 = some_same here.0 there.0 (sym here.1 ∙ there.1) in
    sym (same_bytes here.0.name owner here.2) ∙ (ap (λ (c : Class). c.name) same ∙ same_bytes there.0.name other there.2)

one_built_in : (ids : Ids) (program : Program) (owner other : List ℕ) (class number place spot : ℕ) (row line : BuiltInMethod) → class_named owner program ≡ Some class → class_named other program ≡ Some number → slice_get (built_in_methods_of ids owner) place ≡ Some row →
    slice_get (built_in_methods_of ids other) spot ≡ Some line → class ≡ number → place ≡ spot → whole_name owner (built_in_member row) ≡ whole_name other (built_in_member line)
one_built_in ids program owner other class number place spot row line of_class of_number here there same_class same_place =
    let owners : owner ≡ other = one_owner program owner other number (subst (λ n. class_named owner program ≡ Some n) same_class of_class) of_number in
    let rows : row ≡ line = some_same row line (sym here ∙ (ap (λ o. slice_get (built_in_methods_of ids o) place) owners ∙ (ap (slice_get (built_in_methods_of ids other)) same_place ∙ there))) in
    ap (λ o. whole_name o (built_in_member row)) owners ∙ ap (λ r. whole_name other (built_in_member r)) rows

one_method : OneMethodOwner → (ids : Ids) (classes : List RawClass) (program : Program) (x y : List ℕ) (c : ℕ) → MethodCode ids classes program x c → MethodCode ids classes program y c → x ≡ y
one_method law ids classes program x y c (MethodCode.listed a e) (MethodCode.listed b f) = e ∙ sym f
one_method law ids classes program x y c (MethodCode.listed a e) (MethodCode.named names i f) = absurd (omega (arith, a, i))
one_method law ids classes program x y c (MethodCode.listed a e) (MethodCode.built_in p n k of_class at i f) = absurd (omega (arith, a, i))
one_method law ids classes program x y c (MethodCode.named names i e) (MethodCode.listed b f) = absurd (omega (arith, b, i))
one_method law ids classes program x y c (MethodCode.named {row = r} {owner = o} {member = m} names i e) (MethodCode.named {row = s} {owner = p} {member = n} also j f) =
    let same : s ≡ r = omega (arith, i, j) in
    e ∙ (one_named_method law ids classes r o m p n names (subst (λ k. RowNamesMethod ids classes k p n) same also) ∙ sym f)
one_method law ids classes program x y c (MethodCode.named {row = r} {owner = o} {member = m} names i e) (MethodCode.built_in p n k of_class at j f) = let within = method_within_rows ids classes r o m names in absurd (omega (arith, within, i, j))
one_method law ids classes program x y c (MethodCode.built_in p n k of_class at i e) (MethodCode.listed b f) = absurd (omega (arith, b, i))
one_method law ids classes program x y c (MethodCode.built_in p n k of_class at i e) (MethodCode.named {row = r} {owner = o} {member = m} names j f) = let within = method_within_rows ids classes r o m names in absurd (omega (arith, within, i, j))
one_method law ids classes program x y c (MethodCode.built_in o n k {row = r} of_class at i e) (MethodCode.built_in p m l {row = s} of_other there j f) =
    let low = place_is_short ids o k r at in
    let high = place_is_short ids p l s there in
    let class : n ≡ m = omega (arith, low, high, i, j) in
    let place : k ≡ l = omega (arith, low, high, i, j) in
    e ∙ (one_built_in ids program o p n m k l r s of_class of_other at there class place ∙ sym f)

method_below : (ids : Ids) (classes : List RawClass) (program : Program) (name : List ℕ) (c : ℕ) → MethodCode ids classes program name c → c < length ids.methods + length ids.methods + (length program.classes * 11 + 1)
method_below ids classes program name c (MethodCode.listed a e) = omega (arith, a)
method_below ids classes program name c (MethodCode.named {row = r} {owner = o} {member = m} names i e) = let within = method_within_rows ids classes r o m names in omega (arith, within, i)
method_below ids classes program name c (MethodCode.built_in o n k {row = r} of_class at i e) =
    let low = place_is_short ids o k r at in
    let within = place_within (λ (class : Class). bytes_eq class.name o) program.classes n of_class in
    omega (arith, low, within, i)

module _ (law : OneMethodOwner) (ids : Ids) (classes : List RawClass) (asked : Option (List ℕ)) (program : Program) (fit : FitTables ids) (fits : FitClasses ids classes) (sound : AreSound ids classes) (is : IsProgram ids classes asked program) where
  method_coded : (name : List ℕ) → IsMethodOf ids classes name → (c : ℕ) × MethodCode ids classes program name c
  unfolding method_listed
  method_coded name (owner, member, is_named, BelongsMethod.defined {raw = raw} defined) = let row = method_row ids classes fits owner member raw defined in (raw.row, MethodCode.listed row.0 (is_named ∙ row.1))
  method_coded name (owner, member, is_named, BelongsMethod.built_in {listed = row} class in_table) =
      let place = in_names ids classes asked program fit sound is owner class in
      let number = numbered ids classes asked program fit sound is place.0 owner place.1 in
      let found = found_is (λ (method : BuiltInMethod). bytes_eq (built_in_member method) member) (built_in_methods_of ids owner) row in_table in
      (length ids.methods + length ids.methods + (place.0 * 11 + found.1.0), MethodCode.built_in owner place.0 found.1.0 number found.1.1 refl (is_named ∙ ap (whole_name owner) (sym (same_bytes (built_in_member row) member found.0))))
  method_coded name (owner, member, is_named, BelongsMethod.named all there names) = (length ids.methods + names.row, MethodCode.named names.names refl is_named)

  few_methods : length program.methods ≤ length ids.methods + length ids.methods + (length program.classes * 11 + 1)
  few_methods =
      few (method_name program) (λ method c. MethodCode ids classes program (method_name program method) c) (λ x y c one other. one_method law ids classes program (method_name program x) (method_name program y) c one other)
      (length ids.methods + length ids.methods + (length program.classes * 11 + 1)) program.methods is.methods_rise (λ k method there. method_coded (method_name program method) ((is.methods (method_name program method)).0 (k, method, there, refl)))
      (λ method c code. method_below ids classes program (method_name program method) c code)

  pub few_parts : OneFieldOwner → HasFewRows ids → HasFewParts program
  few_parts fields rows =
      let classes_few = few_classes ids classes asked program is in
      let methods_few = few_methods in
      let fields_few = few_fields fields ids classes asked program fits is in
      let texts_few = few_texts ids classes asked program is in
      let a = rows.texts in
      let b = rows.types in
      let c = rows.fields in
      let d = rows.methods in
      record { methods = omega (arith, classes_few, methods_few, b, d); fields = omega (arith, fields_few, c); texts = omega (arith, texts_few, a) }

  pub few_enough : HasFewRows ids → length program.classes ≤ 2 ^ 32
  few_enough rows = let most = few_classes ids classes asked program is in let b = rows.types in omega (arith, most, b)
