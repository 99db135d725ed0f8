-- Values stand for the first fields of a class, which are its static ones.
use Rattle.std.proofs.Common.{◌≡◌, inl, inr, suc, ◌≤◌, Bool, true, false, cond, List, [], ◌∷◌, ◌++◌, length, take, slice_get, Some, refl, sym, ap, ◌∙◌, arith}
use Rattle.std.specs.List.{AllPairs}
use Rattle.cc_meaning.specs.declared.file.Ids.{Ids}
use Rattle.cc_meaning.specs.declared.file.RawField.{RawField}
use Rattle.cc_meaning.specs.declared.program.StaticValue.{StaticValue}
use Rattle.cc_meaning_dex.specs.Classes.{EachPair}
use Rattle.cc_meaning_builder.specs.Built.{SuitsField}
use Rattle.cc_meaning_builder.specs.Forms.{static_fields}
use Rattle.cc_meaning_builder.specs.Members.{FieldBefore}

-- each of these values suits the field at its place, which is static
abbrev pub Fitting : Ids → List RawField → List StaticValue → Type 0
Fitting ids fields [] = Unit {0}
Fitting ids [] (value ∷ values) = ⊥
Fitting ids (field ∷ fields) (value ∷ values) = (field.is_static ≡ true) × SuitsField ids field value × Fitting ids fields values

later_fields : (field : RawField) (fields : List RawField) → AllPairs FieldBefore (field ∷ fields) → AllPairs FieldBefore fields
later_fields field fields pairs i j d less within = pairs (suc i) (suc j) d (omega (arith, less)) (omega (arith, within))

none_later : (field other : RawField) → FieldBefore field other → field.is_static ≡ false → other.is_static ≡ false
none_later field other (inl mixed) off = absurd cc
none_later field other (inr same) off = sym same.0 ∙ off

none_static : (fields : List RawField) (first : RawField) → AllPairs FieldBefore (first ∷ fields) → first.is_static ≡ false → length (static_fields fields) ≡ 0
none_static [] first pairs off = refl
none_static (other ∷ fields) first pairs off =
    let next = none_later first other (pairs 0 1 first (omega arith) (omega arith)) off in
    ap (λ b. length (cond b (other ∷ static_fields fields) (static_fields fields))) next ∙ none_static fields other (later_fields first (other ∷ fields) pairs) next

pub fitting : (ids : Ids) (fields : List RawField) (values : List StaticValue) → AllPairs FieldBefore fields → length values ≤ length (static_fields fields) →
    EachPair (SuitsField ids) (take (length values) (static_fields fields)) values → Fitting ids fields values
fitting ids fields [] pairs few each = tt
fitting ids [] (value ∷ values) pairs few each = absurd (omega (arith, few))
fitting ids (field ∷ fields) (value ∷ values) pairs few each = by field.is_static refl few each (fitting ids fields values (later_fields field fields pairs))
  where
    by : (test : Bool) → field.is_static ≡ test → length (value ∷ values) ≤ length (cond test (field ∷ static_fields fields) (static_fields fields)) →
        EachPair (SuitsField ids) (take (length (value ∷ values)) (cond test (field ∷ static_fields fields) (static_fields fields))) (value ∷ values) →
        (length values ≤ length (static_fields fields) → EachPair (SuitsField ids) (take (length values) (static_fields fields)) values → Fitting ids fields values) →
        Fitting ids (field ∷ fields) (value ∷ values)
    by true is few each rest = (is, each.0, rest (omega (arith, few)) each.1)
    by false is few each rest = absurd (omega (arith, few, none_static fields field pairs is))

pub field_behind : (front fields : List RawField) (field : RawField) → slice_get (front ++ (field ∷ fields)) (length front) ≡ Some field
field_behind [] fields field = refl
field_behind (first ∷ front) fields field = field_behind front fields field
