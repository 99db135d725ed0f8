-- Handlers that were added take values, and only the last one takes all.
use Rattle.std.proofs.Common.{◌≡◌, ◌≢◌, ◌⊎◌, inl, inr, ℕ, zero, suc, Bool, true, false, List, [], ◌∷◌, ◌++◌, length, Option, Some, None, refl, sym, ap, subst, ◌∙◌}
use Rattle.std.specs.Prelude.{All, Contains, IsTrue}
use Rattle.std.proofs.lemmas.Bool.{eqb-true}
use Rattle.std.proofs.Math.Dec.{eqb}
use Rattle.std.proofs.lemmas.Option.{slice_get_read}
use Rattle.std.proofs.lemmas.List.Elements.{All-contains}
use Rattle.cc_meaning.specs.declared.file.ClassRow.{ClassRow}
use Rattle.cc_meaning.specs.declared.file.Ids.{Ids}
use Rattle.cc_meaning.specs.declared.file.RawCatch.{RawCatch}
use Rattle.cc_meaning.specs.declared.file.RawCode.{RawCode}
use Rattle.cc_meaning.specs.declared.file.RawMethod.{RawMethod}
use Rattle.cc_meaning.specs.declared.file.RawTry.{RawTry}
use Rattle.cc_meaning.specs.declared.listing.ListedCatch.{ListedCatch}
use Rattle.cc_meaning.specs.declared.listing.ListedTry.{ListedTry}
use Rattle.cc_meaning.specs.declared.listing.Listing.{Listing}
use Rattle.cc_meaning_dex.specs.Descriptors.{IsClassDescriptor, IsValueDescriptor, dimensions, is_primitive, names_value}
use Rattle.cc_meaning_dex.specs.Classes.{EachPair}
use Rattle.cc_meaning_dex.specs.Tries.{IsValueType}
use Rattle.cc_meaning_builder.specs.Laws.{CatchesFit, HandlersFit}
use Rattle.cc_meaning_builder.specs.Members.{HasRawCode, IsCaught, IsRawCatch, IsRawTry}
use Rattle.cc_meaning_builder.specs.WellNamed.{AreCatches, CatchIsNamed, CodeIsNamed}
use Rattle.cc_builder_laws.proofs.Own.{new, described}
use Rattle.cc_builder_laws.proofs.Pairs.{all_of, contained, right, none_right, some_left, split}

some_same : {A : Type 0} {a b : A} → Some a ≡ Some b → a ≡ b
some_same e = cc

none_some : {A : Type 0} (a : A) → None ≡ Some a → ⊥
none_some a e = cc

pub cons_nil : (u : ℕ) (us : List ℕ) → u ∷ us ≡ [] → ⊥
cons_nil u us e = cc

-- ---- a value isn't V, and has a unit

-- a letter is no V
no_void : (u : ℕ) (b : Bool) → eqb u 86 ≡ b → IsTrue (is_primitive u) → b ≡ false
no_void u false e letter = refl
no_void u true e letter = absurd (let same : u ≡ 86 = eqb-true u 86 e in let none : false ≡ true = subst (λ v. is_primitive v ≡ true) same letter in cc)

base_value : (base : List ℕ) → (((u : ℕ) × IsTrue (is_primitive u) × (base ≡ u ∷ [])) ⊎ IsClassDescriptor base) → names_value base ≡ true
base_value base (inl (u, letter, e)) = rw (e, no_void u (eqb u 86) refl letter) refl
base_value base (inr class) = let e = class.form in rw (e) refl

base_some : (base : List ℕ) → (((u : ℕ) × IsTrue (is_primitive u) × (base ≡ u ∷ [])) ⊎ IsClassDescriptor base) → base ≢ []
base_some base (inl (u, letter, e)) none = cons_nil u [] (sym e ∙ none)
base_some base (inr class) none = cons_nil 76 _ (sym class.form ∙ none)

value_by : (dims : ℕ) (base name : List ℕ) → (((u : ℕ) × IsTrue (is_primitive u) × (base ≡ u ∷ [])) ⊎ IsClassDescriptor base) → name ≡ dimensions dims ++ base → names_value name ≡ true
value_by zero base name of form = ap names_value form ∙ base_value base of
value_by (suc dims) base name of form = ap names_value form

some_by : (dims : ℕ) (base name : List ℕ) → (((u : ℕ) × IsTrue (is_primitive u) × (base ≡ u ∷ [])) ⊎ IsClassDescriptor base) → name ≡ dimensions dims ++ base → name ≢ []
some_by zero base name of form none = base_some base of (sym form ∙ none)
some_by (suc dims) base name of form none = cons_nil 91 _ (sym form ∙ none)

is_value : (name : List ℕ) → IsValueDescriptor name → names_value name ≡ true
is_value name value = value_by value.dims value.base name value.value value.form

pub value_some : (name : List ℕ) → IsValueDescriptor name → name ≢ []
value_some name value = some_by value.dims value.base name value.value value.form

-- ---- handlers

module _ (ids : Ids) (classes : List ClassRow) where
  caught : (listed : Option (List ℕ)) (stated : Option ℕ) (type : ℕ) → IsCaught ids listed stated → stated ≡ Some type → ((name : List ℕ) → listed ≡ Some name → IsValueDescriptor name) → IsValueType (new ids classes) type
  caught None stated type is e named = absurd (none_some type (sym is ∙ e))
  caught (Some name) stated type (number, (within, means), is) e named =
      let value = named name refl in
      let same : number ≡ type = some_same (sym is ∙ e) in
      subst (IsValueType (new ids classes)) same (record { name = name; named = described ids classes number name (value_some name value) means; value = is_value name value })

  takes_all : (listed : Option (List ℕ)) (stated : Option ℕ) → IsCaught ids listed stated → stated ≡ None → listed ≡ None
  takes_all None stated is e = refl
  takes_all (Some name) stated (number, means, is) e = absurd (none_some number (sym e ∙ is))

  catches_fit : (listed : List ListedCatch) (catches : List RawCatch) → AreCatches listed → EachPair (IsRawCatch ids) listed catches → CatchesFit (new ids classes) catches
  catches_fit listed catches (some, named, last) pairs = record {
    some = some_left (IsRawCatch ids) listed catches pairs some;
    types = λ catch type among e. type_of catch type among e;
    last = λ front back catch form none. is_last front back catch form none;
  }
    where
      type_of : (catch : RawCatch) (type : ℕ) → Contains catches catch → catch.row ≡ Some type → IsValueType (new ids classes) type
      type_of catch type (place, within, is) e =
          let pair = right (IsRawCatch ids) listed catches pairs place catch (slice_get_read catches (length catches) place catch refl within (sym is)) in
          caught pair.0.class catch.row type pair.2.caught e (All-contains CatchIsNamed listed pair.0 named (contained listed place pair.0 pair.1))

      is_last : (front back : List RawCatch) (catch : RawCatch) → catches ≡ front ++ (catch ∷ back) → catch.row ≡ None → back ≡ []
      is_last front back catch form none =
          let parts = split (IsRawCatch ids) listed catches front back catch pairs form in
          let ends = last parts.front parts.rest parts.item parts.form (takes_all parts.item.class catch.row parts.pair.caught none) in
          none_right (IsRawCatch ids) back (subst (λ rest. EachPair (IsRawCatch ids) rest back) ends parts.behind)

  tries_fit : (listed : List ListedTry) (tries : List RawTry) → All (λ (try : ListedTry). AreCatches try.catches) listed → EachPair (IsRawTry ids) listed tries → All (λ (try : RawTry). CatchesFit (new ids classes) try.catches) tries
  tries_fit listed tries named pairs = all_of _ tries (λ place try there.
      let pair = right (IsRawTry ids) listed tries pairs place try there in
      catches_fit pair.0.catches try.catches (All-contains (λ (try : ListedTry). AreCatches try.catches) listed pair.0 named (contained listed place pair.0 pair.1)) pair.2.catches)

  pub handlers_fit : (number flags : ℕ) (listed : Option Listing) (method : RawMethod) → CodeIsNamed listed → HasRawCode ids number flags listed method.code → HandlersFit (new ids classes) method
  handlers_fit number flags None method named has code e = absurd (none_some code (sym has ∙ e))
  handlers_fit number flags (Some listing) method named (raw, is, has) code e =
      let same : raw ≡ code = some_same (sym is ∙ e) in
      subst (λ (it : RawCode). All (λ (try : RawTry). CatchesFit (new ids classes) try.catches) it.tries) same (tries_fit listing.tries raw.tries named has.tries)
