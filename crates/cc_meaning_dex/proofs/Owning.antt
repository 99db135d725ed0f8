-- That the tests of rows say what they are.
use Rattle.std.proofs.Common.{◌≡◌, ℕ, true, List, slice_get, Option, Some, None, refl, sym, ap, ◌∙◌}
use Rattle.std.proofs.lemmas.Slice.Eq.{bytes_eq-Decides}
use Rattle.cc_meaning.specs.declared.file.Ids.{Ids}
use Rattle.cc_meaning.specs.declared.file.FieldRow.{FieldRow}
use Rattle.cc_meaning.specs.declared.file.MethodRow.{MethodRow}
use Rattle.cc_meaning_dex.specs.Rows.{descriptor_of, IsSameType, IsFieldOf, IsMethodOf, same_names, is_same_type, names_field, names_method, is_field_of, is_method_of}

-- ---- one descriptor

named_alike : (a b : Option (List ℕ)) → same_names a b ≡ true → (name : List ℕ) × (a ≡ Some name) × (b ≡ Some name)
named_alike None b e = absurd (cc)
named_alike (Some this) None e = absurd (cc)
named_alike (Some this) (Some that) e = (this, refl, ap Some (sym ((bytes_eq-Decides this that).0 e)))

same_type : (ids : Ids) (this that : ℕ) → is_same_type ids this that ≡ true → IsSameType ids this that
same_type ids this that e =
    let named = named_alike (descriptor_of ids this) (descriptor_of ids that) e in
    record { name = named.0; this_named = named.1; that_named = named.2 }

type_same : (ids : Ids) (this that : ℕ) → IsSameType ids this that → is_same_type ids this that ≡ true
type_same ids this that same =
    ap (λ name. same_names name (descriptor_of ids that)) same.this_named ∙ ap (λ name. same_names (Some same.name) name) same.that_named ∙ (bytes_eq-Decides same.name same.name).1 refl

-- ---- members

field_named : (ids : Ids) (class : ℕ) (row : Option FieldRow) → names_field ids class row ≡ true → (stated : FieldRow) × (row ≡ Some stated) × IsSameType ids class stated.class
field_named ids class None e = absurd (cc)
field_named ids class (Some stated) e = (stated, refl, same_type ids class stated.class e)

pub field_owned : (ids : Ids) (class row : ℕ) → is_field_of ids class row ≡ true → IsFieldOf ids class row
field_owned ids class row e =
    let named = field_named ids class (slice_get ids.fields row) e in
    record { stated = named.0; there = named.1; same = named.2 }

pub owns_field : (ids : Ids) (class row : ℕ) → IsFieldOf ids class row → is_field_of ids class row ≡ true
owns_field ids class row owned = ap (names_field ids class) owned.there ∙ type_same ids class owned.stated.class owned.same

method_named : (ids : Ids) (class : ℕ) (row : Option MethodRow) → names_method ids class row ≡ true → (stated : MethodRow) × (row ≡ Some stated) × IsSameType ids class stated.class
method_named ids class None e = absurd (cc)
method_named ids class (Some stated) e = (stated, refl, same_type ids class stated.class e)

pub method_owned : (ids : Ids) (class row : ℕ) → is_method_of ids class row ≡ true → IsMethodOf ids class row
method_owned ids class row e =
    let named = method_named ids class (slice_get ids.methods row) e in
    record { stated = named.0; there = named.1; same = named.2 }

pub owns_method : (ids : Ids) (class row : ℕ) → IsMethodOf ids class row → is_method_of ids class row ≡ true
owns_method ids class row owned = ap (names_method ids class) owned.there ∙ type_same ids class owned.stated.class owned.same
