-- The rows of fields and of methods that names mean.
use Rattle.std.proofs.Common.{◌≡◌, ◌≢◌, ℕ, ◌<◌, List, [], ◌∷◌, length, Option, Some, slice_get, ap, subst, ◌∙◌}
use Rattle.cc_meaning.specs.declared.file.FieldRow.{FieldRow}
use Rattle.cc_meaning.specs.declared.file.Ids.{Ids}
use Rattle.cc_meaning.specs.declared.file.MethodRow.{MethodRow}
use Rattle.cc_meaning_program.specs.Named.{type_name}
use Rattle.cc_meaning_builder.specs.Named.{IsFieldNamed, IsMethodNamed}
use Rattle.cc_meaning_builder.specs.Tables.{field_key, method_key}
use Rattle.cc_tables.specs.Rows.{FieldsFit, FieldsRise, IsOneRow, IsPrototypeNamed, MethodsFit, MethodsRise}
use Rattle.cc_tables.proofs.PrototypeRows.{proto_once}
use Rattle.cc_tables.proofs.Searched.{one_row_by}
use Rattle.cc_tables.proofs.Typed.{names_once, text_once, text_at, text_is, descriptor_some}

-- ---- rows by their numbers

field_by : (a b : FieldRow) → a.class ≡ b.class → a.kind ≡ b.kind → a.name ≡ b.name → a ≡ b
field_by a b class kind name =
    let of : ℕ → ℕ → ℕ → FieldRow = λ c k n. record { class = c; kind = k; name = n } in
    let first : of a.class a.kind a.name ≡ of b.class a.kind a.name = ap (λ c. of c a.kind a.name) class in
    let second : of b.class a.kind a.name ≡ of b.class b.kind a.name = ap (λ k. of b.class k a.name) kind in
    let third : of b.class b.kind a.name ≡ of b.class b.kind b.name = ap (of b.class b.kind) name in
    first ∙ (second ∙ third)

method_by : (a b : MethodRow) → a.class ≡ b.class → a.proto ≡ b.proto → a.name ≡ b.name → a ≡ b
method_by a b class proto name =
    let of : ℕ → ℕ → ℕ → MethodRow = λ c p n. record { class = c; proto = p; name = n } in
    let first : of a.class a.proto a.name ≡ of b.class a.proto a.name = ap (λ c. of c a.proto a.name) class in
    let second : of b.class a.proto a.name ≡ of b.class b.proto a.name = ap (λ p. of b.class p a.name) proto in
    let third : of b.class b.proto a.name ≡ of b.class b.proto b.name = ap (of b.class b.proto) name in
    first ∙ (second ∙ third)

pub field_of_key : (a b : FieldRow) → field_key a ≡ field_key b → a ≡ b
field_of_key a b same =
    let e : a.class ∷ a.name ∷ a.kind ∷ [] ≡ b.class ∷ b.name ∷ b.kind ∷ [] = same in
    let class : a.class ≡ b.class = cc in
    let name : a.name ≡ b.name = cc in
    let kind : a.kind ≡ b.kind = cc in
    field_by a b class kind name

pub method_of_key : (a b : MethodRow) → method_key a ≡ method_key b → a ≡ b
method_of_key a b same =
    let e : a.class ∷ a.name ∷ a.proto ∷ [] ≡ b.class ∷ b.name ∷ b.proto ∷ [] = same in
    let class : a.class ≡ b.class = cc in
    let name : a.name ≡ b.name = cc in
    let proto : a.proto ≡ b.proto = cc in
    method_by a b class proto name

-- a row of types that has this name
abbrev HasType : Ids → List ℕ → ℕ → Type 0
HasType ids name number = (number < length ids.types) × (type_name ids number ≡ name)

abbrev HasText : Ids → List ℕ → ℕ → Type 0
HasText ids text number = slice_get ids.texts number ≡ Some text

-- ---- fields

module _ (ids : Ids) (rise : FieldsRise ids) (fit : FieldsFit ids) (class name kind : List ℕ) where
  pub field_without_class : ((n : ℕ) → HasType ids class n → ⊥) → (number : ℕ) → IsFieldNamed ids class name kind number → ⊥
  field_without_class none number is = none is.stated.class ((fit.each number is.stated is.there).class.there, is.classed)

  pub field_without_kind : ((n : ℕ) → HasType ids kind n → ⊥) → (number : ℕ) → IsFieldNamed ids class name kind number → ⊥
  field_without_kind none number is = none is.stated.kind ((fit.each number is.stated is.there).kind.there, is.kinded)

  pub field_without_name : ((n : ℕ) → HasText ids name n → ⊥) → (number : ℕ) → IsFieldNamed ids class name kind number → ⊥
  field_without_name none number is = none is.stated.name (text_at ids is.stated.name name (fit.each number is.stated is.there).name is.named)

  type_same : (i j : ℕ) (text : List ℕ) → HasType ids text i → HasType ids text j → i ≡ j
  type_same i j text one other = names_once ids rise.types i j text (subst (λ t. t ≢ []) one.1 (descriptor_some (type_name ids i) (fit.types i one.0))) one.1 other.1

  pub field_named : (wanted : FieldRow) (o : Option ℕ) → HasType ids class wanted.class → HasType ids kind wanted.kind → HasText ids name wanted.name →
      IsOneRow (λ n. slice_get ids.fields n ≡ Some wanted) o → IsOneRow (IsFieldNamed ids class name kind) o
  field_named wanted o classed kinded named = one_row_by (λ n. slice_get ids.fields n ≡ Some wanted) (IsFieldNamed ids class name kind) o forth back
    where
      forth : (n : ℕ) → slice_get ids.fields n ≡ Some wanted → IsFieldNamed ids class name kind n
      forth n there = record { stated = wanted; there = there; classed = classed.1; named = text_is ids wanted.name name named; kinded = kinded.1 }

      back : (n : ℕ) → IsFieldNamed ids class name kind n → slice_get ids.fields n ≡ Some wanted
      back n is =
          let fits = fit.each n is.stated is.there in
          let one = type_same is.stated.class wanted.class class (fits.class.there, is.classed) classed in
          let two = type_same is.stated.kind wanted.kind kind (fits.kind.there, is.kinded) kinded in
          let three = text_once ids rise.types.texts is.stated.name wanted.name name (text_at ids is.stated.name name fits.name is.named) named in
          is.there ∙ ap Some (field_by is.stated wanted one two three)

-- ---- methods

module _ (ids : Ids) (rise : MethodsRise ids) (fit : MethodsFit ids) (class name proto : List ℕ) where
  pub method_without_class : ((n : ℕ) → HasType ids class n → ⊥) → (number : ℕ) → IsMethodNamed ids class name proto number → ⊥
  method_without_class none number is = none is.stated.class ((fit.each number is.stated is.there).class.there, is.classed)

  pub method_without_prototype : ((n : ℕ) → IsPrototypeNamed ids proto n → ⊥) → (number : ℕ) → IsMethodNamed ids class name proto number → ⊥
  method_without_prototype none number is = none is.stated.proto ((fit.each number is.stated is.there).proto, is.typed)

  pub method_without_name : ((n : ℕ) → HasText ids name n → ⊥) → (number : ℕ) → IsMethodNamed ids class name proto number → ⊥
  method_without_name none number is = none is.stated.name (text_at ids is.stated.name name (fit.each number is.stated is.there).name is.named)

  class_same : (i j : ℕ) → HasType ids class i → HasType ids class j → i ≡ j
  class_same i j one other = names_once ids rise.protos.types i j class (subst (λ t. t ≢ []) one.1 (descriptor_some (type_name ids i) (fit.protos.types i one.0))) one.1 other.1

  pub method_named : (wanted : MethodRow) (o : Option ℕ) → HasType ids class wanted.class → IsPrototypeNamed ids proto wanted.proto → HasText ids name wanted.name →
      IsOneRow (λ n. slice_get ids.methods n ≡ Some wanted) o → IsOneRow (IsMethodNamed ids class name proto) o
  method_named wanted o classed typed named = one_row_by (λ n. slice_get ids.methods n ≡ Some wanted) (IsMethodNamed ids class name proto) o forth back
    where
      forth : (n : ℕ) → slice_get ids.methods n ≡ Some wanted → IsMethodNamed ids class name proto n
      forth n there = record { stated = wanted; there = there; classed = classed.1; named = text_is ids wanted.name name named; typed = typed.1 }

      back : (n : ℕ) → IsMethodNamed ids class name proto n → slice_get ids.methods n ≡ Some wanted
      back n is =
          let fits = fit.each n is.stated is.there in
          let one = class_same is.stated.class wanted.class (fits.class.there, is.classed) classed in
          let two = proto_once ids rise.protos fit.protos proto is.stated.proto wanted.proto (fits.proto, is.typed) typed in
          let three = text_once ids rise.protos.types.texts is.stated.name wanted.name name (text_at ids is.stated.name name fits.name is.named) named in
          is.there ∙ ap Some (method_by is.stated wanted one two three)
