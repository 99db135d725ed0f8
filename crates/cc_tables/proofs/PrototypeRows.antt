-- The rows of prototypes that names mean.
use Rattle.std.proofs.Common.{◌≡◌, inl, inr, ℕ, suc, ◌<◌, true, false, List, [], ◌∷◌, ◌++◌, length, map, drop, Some, slice_get, refl, sym, ap, subst, ◌∙◌, append_assoc, arith}
use Rattle.std.specs.Prelude.{All, Contains}
use Rattle.std.specs.List.{flat_map}
use Rattle.std.proofs.lemmas.List.Elements.{All-cons}
use Rattle.std.proofs.lemmas.Option.{slice_get_within}
use Rattle.cc_meaning.specs.Order.{IsBefore}
use Rattle.cc_meaning.specs.declared.file.Ids.{Ids}
use Rattle.cc_meaning.specs.declared.file.ProtoRow.{ProtoRow}
use Rattle.cc_meaning_dex.specs.Descriptors.{IsDescriptor, IsValueDescriptor, names_value}
use Rattle.cc_meaning_program.specs.Named.{type_name, prototype_of}
use Rattle.cc_meaning_program.specs.Rows.{IsTypeRow}
use Rattle.cc_meaning_builder.specs.Tables.{prototype_key}
use Rattle.cc_tables.specs.Params.{AreParams, AreTypes, IsKeyed}
use Rattle.cc_tables.specs.Rows.{IsPrototypeNamed, ProtosFit, ProtosRise}
use Rattle.cc_tables.proofs.Searched.{some_at, once, same_some, not_before_itself, found_mapped}
use Rattle.cc_tables.proofs.Splitting.{types_once}
use Rattle.cc_tables.proofs.Typed.{names_once, descriptor_some}

joined_map : (f : ℕ → List ℕ) (rows : List ℕ) → flat_map f rows ≡ flat_map (λ (p : List ℕ). p) (map f rows)
joined_map f [] = refl
joined_map f (row ∷ rows) = ap (λ rest. f row ++ rest) (joined_map f rows)

-- ---- the parts of a name

pub parts : (ids : Ids) (stated : ProtoRow) → prototype_of ids (Some stated) ≡ 40 ∷ (flat_map (type_name ids) stated.params ++ 41 ∷ type_name ids stated.result)
unfolding prototype_of
parts ids stated = ap (λ rest. 40 ∷ rest) (append_assoc (flat_map (type_name ids) stated.params) (41 ∷ []) (type_name ids stated.result))

not_void : (name : List ℕ) → IsDescriptor name → names_value name ≡ true → IsValueDescriptor name
not_void name (inl void) value = absurd (let no : names_value name ≡ false = ap names_value void in let f : true ≡ false = sym value ∙ no in cc)
not_void name (inr is) value = is

pub record IsMeant (ids : Ids) (name : List ℕ) (number : ℕ) : Type 0 where
  pub stated : ProtoRow
  pub there : slice_get ids.protos number ≡ Some stated
  pub result : stated.result < length ids.types
  pub types : AreTypes ids stated.params (type_name ids stated.result) (drop 1 name)

module _ (ids : Ids) (rise : ProtosRise ids) (fit : ProtosFit ids) where
  value_of : (type : ℕ) → IsTypeRow names_value ids type → IsValueDescriptor (type_name ids type)
  value_of type is = not_void (type_name ids type) (fit.types type is.there) is.sorted

  all_values : (params : List ℕ) → ((type : ℕ) → Contains params type → IsTypeRow names_value ids type) → All IsValueDescriptor (map (type_name ids) params)
  all_values [] each = λ k d within. absurd (omega arith)
  all_values (param ∷ params) each =
      All-cons IsValueDescriptor (type_name ids param) (map (type_name ids) params) (value_of param (each param (0, omega arith, refl)))
      (all_values params (λ type here. let (k, within, is) = here in each type (suc k, omega arith, is)))

  all_there : (params : List ℕ) → ((type : ℕ) → Contains params type → IsTypeRow names_value ids type) → All (λ type. type < length ids.types) params
  all_there [] each = λ k d within. absurd (omega arith)
  all_there (param ∷ params) each =
      All-cons (λ type. type < length ids.types) param params (each param (0, omega arith, refl)).there
      (all_there params (λ type here. let (k, within, is) = here in each type (suc k, omega arith, is)))

  pub meant : (name : List ℕ) (number : ℕ) → IsPrototypeNamed ids name number → IsMeant ids name number
  meant name number (within, named) =
      let (stated, there) = some_at ids.protos number within in
      let fits = fit.each number stated there in
      let form : name ≡ 40 ∷ (flat_map (type_name ids) stated.params ++ 41 ∷ type_name ids stated.result) = sym named ∙ (ap (prototype_of ids) there ∙ parts ids stated) in
      let split : drop 1 name ≡ flat_map (λ (p : List ℕ). p) (map (type_name ids) stated.params) ++ 41 ∷ type_name ids stated.result =
      ap (drop 1) form ∙ ap (λ front. front ++ 41 ∷ type_name ids stated.result) (joined_map (type_name ids) stated.params) in
      record {
        stated = stated;
        there = there;
        result = fits.result;
        types = record { there = all_there stated.params fits.params; params = record { values = all_values stated.params fits.params; form = split } };
      }

  result_once : (i j : ℕ) → i < length ids.types → type_name ids i ≡ type_name ids j → i ≡ j
  result_once i j within same = names_once ids rise.types i j (type_name ids i) (descriptor_some (type_name ids i) (fit.types i within)) refl (sym same)

  -- a name is that of one row
  pub key_once : (name : List ℕ) (i j : ℕ) (one : IsMeant ids name i) (other : IsMeant ids name j) → prototype_key one.stated ≡ prototype_key other.stated
  key_once name i j one other =
      let same = types_once ids rise.types one.stated.params other.stated.params _ _ (drop 1 name) one.types other.types in
      let result = result_once one.stated.result other.stated.result one.result same.1 in
      ap (λ r. r ∷ one.stated.params) result ∙ ap (λ ps. other.stated.result ∷ ps) same.0

  pub proto_once : (name : List ℕ) (i j : ℕ) → IsPrototypeNamed ids name i → IsPrototypeNamed ids name j → i ≡ j
  proto_once name i j one other =
      let this = meant name i one in
      let that = meant name j other in
      once IsBefore not_before_itself (map prototype_key ids.protos) rise.rise i j (prototype_key that.stated)
      (found_mapped prototype_key ids.protos i this.stated this.there ∙ ap Some (key_once name i j this that))
      (found_mapped prototype_key ids.protos j that.stated that.there)

proto_by : (a b : ProtoRow) → prototype_key a ≡ prototype_key b → a ≡ b
proto_by a b same =
    let of : ℕ → List ℕ → ProtoRow = λ r ps. record { result = r; params = ps } in
    let e : a.result ∷ a.params ≡ b.result ∷ b.params = same in
    let result : a.result ≡ b.result = cc in
    let params : a.params ≡ b.params = cc in
    let first : of a.result a.params ≡ of b.result a.params = ap (λ r. of r a.params) result in
    let second : of b.result a.params ≡ of b.result b.params = ap (of b.result) params in
    first ∙ second

pub named_there : (ids : Ids) (name : List ℕ) (place : ℕ) (stated : ProtoRow) → slice_get ids.protos place ≡ Some stated → prototype_of ids (Some stated) ≡ name → IsPrototypeNamed ids name place
named_there ids name place stated there named = (slice_get_within ids.protos place stated there, ap (prototype_of ids) there ∙ named)

-- ---- a row that is looked for by the types that a name has

module _ (ids : Ids) (rise : ProtosRise ids) (fit : ProtosFit ids) (name units given : List ℕ) (front : units ≡ drop 1 name)
    (told : (params : List (List ℕ)) (after : List ℕ) → AreParams params after units → given ≡ after) where
  types_at : (number : ℕ) (m : IsMeant ids name number) → AreTypes ids m.stated.params (type_name ids m.stated.result) units
  types_at number m = subst (AreTypes ids m.stated.params (type_name ids m.stated.result)) (sym front) m.types

  given_is : (number : ℕ) (m : IsMeant ids name number) → given ≡ type_name ids m.stated.result
  given_is number m = told (map (type_name ids) m.stated.params) (type_name ids m.stated.result) (types_at number m).params

  pub no_type : ((n : ℕ) → (n < length ids.types) × (type_name ids n ≡ given) → ⊥) → (number : ℕ) → IsPrototypeNamed ids name number → ⊥
  no_type none number is =
      let m = meant ids rise fit name number is in
      none m.stated.result (m.result, sym (given_is number m))

  key_of : (gives : ℕ) → (gives < length ids.types) × (type_name ids gives ≡ given) → (number : ℕ) (m : IsMeant ids name number) → prototype_key m.stated ≡ gives ∷ m.stated.params
  key_of gives has number m = ap (λ r. r ∷ m.stated.params) (sym (result_once ids rise fit gives m.stated.result has.0 (has.1 ∙ given_is number m)))

  pub no_key : (gives : ℕ) → (gives < length ids.types) × (type_name ids gives ≡ given) → ((types after : List ℕ) → AreTypes ids types after units → (n : ℕ) → IsKeyed ids (gives ∷ types) n → ⊥) →
      (number : ℕ) → IsPrototypeNamed ids name number → ⊥
  no_key gives has none number is =
      let m = meant ids rise fit name number is in
      none m.stated.params (type_name ids m.stated.result) (types_at number m) number (m.stated, m.there, key_of gives has number m)

  pub other_name : (gives : ℕ) → (gives < length ids.types) × (type_name ids gives ≡ given) → (place : ℕ) (stated : ProtoRow) → slice_get ids.protos place ≡ Some stated →
      ((types after : List ℕ) → AreTypes ids types after units → IsKeyed ids (gives ∷ types) place) → (prototype_of ids (Some stated) ≡ name → ⊥) → (number : ℕ) → IsPrototypeNamed ids name number → ⊥
  other_name gives has place stated there keyed unlike number is =
      let m = meant ids rise fit name number is in
      let (found, here, same) = keyed m.stated.params (type_name ids m.stated.result) (types_at number m) in
      let one : stated ≡ found = same_some (slice_get ids.protos place) stated found there here in
      let two : found ≡ m.stated = proto_by found m.stated (same ∙ sym (key_of gives has number m)) in
      unlike (ap (λ s. prototype_of ids (Some s)) (one ∙ two) ∙ (sym (ap (prototype_of ids) m.there) ∙ is.1))
