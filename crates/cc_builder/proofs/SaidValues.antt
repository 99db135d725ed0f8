-- The values of static fields, up to the last that is said.
use Rattle.std.proofs.Common.{◌≡◌, ℕ, ◌+◌, ◌==◌, Bool, true, false, if◌then◌else◌, List, [], ◌∷◌, ◌++◌, length, add-one, take, get_or, cond, ◌<◌, ◌≤◌, Option, Some, None, refl, sym, ap, subst, arith, ◌∙◌}
use Rattle.std.specs.Prelude.{map, is_some}
use Rattle.std.proofs.lemmas.Bool.Decides.{nat_tests}
use Rattle.std.proofs.lemmas.List.{append-nil, length-append, length-map, map-append, take-map, take_all}
use Rattle.std.proofs.lemmas.List.Elements.{filter_more}
use Rattle.std.specs.List.{filter}
use Rattle.cc_meaning.specs.declared.file.Ids.{Ids}
use Rattle.cc_meaning.specs.declared.listing.ListedValue.{ListedValue}
use Rattle.cc_meaning.specs.declared.program.StaticValue.{StaticValue}
use Rattle.cc_meaning_dex.specs.Classes.{EachPair}
use Rattle.cc_meaning_dex.specs.CodeItems.{has_flag}
use Rattle.cc_meaning_builder.specs.declared.content.ListedField.{ListedField}
use Rattle.cc_meaning_builder.specs.Members.{AreRawValues, FieldBegins, count_with, statics_of, value_count}
use Rattle.cc_builder.specs.declared.fields.PlacedField.{PlacedField}
use Rattle.cc_builder.specs.Placed.{IsPlacedField, said_count}
use Rattle.cc_builder.proofs.Pairs.{first_few, given, passing}

positive : (n : ℕ) → 0 < n → (if n == 0 then 0 else n + 1) ≡ n + 1
positive n some = grind (arith, nat_tests)

-- one field more
pub said_more : (fields : List PlacedField) (field : PlacedField) → said_count (fields ++ field ∷ []) ≡ (if field.is_said then length fields + 1 else said_count fields)
unfolding said_count
said_more [] field = by field.is_said
  where
    step : Bool → ℕ
    step said = if said then 1 else 0

    by : (said : Bool) → step said ≡ step said
    by said = refl
said_more (other ∷ fields) field = by other.is_said field.is_said (said_more fields field) ∙ ap (λ n. if field.is_said then n + 1 else said_count (other ∷ fields)) (add-one (length fields))
  where
    step : Bool → ℕ → ℕ
    step said behind = if said then behind + 1 else if behind == 0 then 0 else behind + 1

    by : (here said : Bool) → said_count (fields ++ field ∷ []) ≡ (if said then length fields + 1 else said_count fields) →
        step here (said_count (fields ++ field ∷ [])) ≡ (if said then length fields + 1 + 1 else step here (said_count fields))
    by true true e = ap (λ n. n + 1) e
    by false true e = ap (λ n. if n == 0 then 0 else n + 1) e ∙ positive (length fields + 1) (omega arith)
    by true false e = ap (λ n. n + 1) e
    by false false e = ap (λ n. if n == 0 then 0 else n + 1) e

-- ---- the fields one by one

abbrev statics : List PlacedField → List PlacedField
statics fields = filter (λ field. field.raw.is_static) fields

abbrev values_of : List PlacedField → List StaticValue
values_of fields = map (λ field. field.value) fields

-- what is kept of the fields up to a place: the values of the static ones, and how many there are up to the last that is said
pub record AreKept (fields : List PlacedField) (place : ℕ) (values : List StaticValue) (said : ℕ) : Type 0 where
  pub own : values ≡ map (λ field. field.value) (filter (λ field. field.raw.is_static) (take place fields))
  pub count : said ≡ said_count (filter (λ field. field.raw.is_static) (take place fields))

-- a field that isn't static
pub skipped : (fields : List PlacedField) (place : ℕ) (d : PlacedField) (values : List StaticValue) (said : ℕ) → place < length fields → AreKept fields place values said → (get_or fields place d).raw.is_static ≡ false →
    AreKept fields (place + 1) values said
skipped fields place d values said within before test =
    let front : List PlacedField = statics (take place fields) in
    let at : PlacedField = get_or fields place d in
    let same : statics (take (place + 1) fields) ≡ front =
    filter_more (λ (it : PlacedField). it.raw.is_static) fields place d within ∙ ap (λ b. front ++ cond b (at ∷ []) []) test ∙ append-nil front in
    record { own = before.own ∙ ap values_of (sym same); count = before.count ∙ ap said_count (sym same) }

-- a field that is static, where its value is said and where it isn't
added : (fields : List PlacedField) (place : ℕ) (d : PlacedField) → place < length fields → (get_or fields place d).raw.is_static ≡ true →
    statics (take (place + 1) fields) ≡ statics (take place fields) ++ get_or fields place d ∷ []
added fields place d within test =
    filter_more (λ (it : PlacedField). it.raw.is_static) fields place d within ∙ ap (λ b. statics (take place fields) ++ cond b (get_or fields place d ∷ []) []) test

added_value : (fields : List PlacedField) (place : ℕ) (d : PlacedField) (values new : List StaticValue) → place < length fields → values ≡ values_of (statics (take place fields)) → (get_or fields place d).raw.is_static ≡ true →
    new ≡ values ++ (get_or fields place d).value ∷ [] → new ≡ values_of (statics (take (place + 1) fields))
added_value fields place d values new within before test is =
    let front : List PlacedField = statics (take place fields) in
    let at : PlacedField = get_or fields place d in
    is ∙ ap (λ all. all ++ at.value ∷ []) before ∙ sym (map-append (λ (field : PlacedField). field.value) front (at ∷ [])) ∙ ap values_of (sym (added fields place d within test))

pub said_here : (fields : List PlacedField) (place : ℕ) (d : PlacedField) (values new : List StaticValue) (said count : ℕ) → place < length fields → AreKept fields place values said → (get_or fields place d).raw.is_static ≡ true →
    (get_or fields place d).is_said ≡ true → new ≡ values ++ (get_or fields place d).value ∷ [] → count ≡ length new → AreKept fields (place + 1) new count
said_here fields place d values new said count within before test is_said is counted =
    let front : List PlacedField = statics (take place fields) in
    let at : PlacedField = get_or fields place d in
    let long : count ≡ length front + 1 =
    omega (arith, counted, ap length is, length-append values (at.value ∷ []), ap length before.own, length-map front (λ (field : PlacedField). field.value)) in
    let more : said_count (front ++ at ∷ []) ≡ length front + 1 = said_more front at ∙ ap (λ b. if b then length front + 1 else said_count front) is_said in
    record { own = added_value fields place d values new within before.own test is; count = long ∙ sym more ∙ ap said_count (sym (added fields place d within test)) }

pub unsaid_here : (fields : List PlacedField) (place : ℕ) (d : PlacedField) (values new : List StaticValue) (said : ℕ) → place < length fields → AreKept fields place values said → (get_or fields place d).raw.is_static ≡ true →
    (get_or fields place d).is_said ≡ false → new ≡ values ++ (get_or fields place d).value ∷ [] → AreKept fields (place + 1) new said
unsaid_here fields place d values new said within before test unsaid is =
    let front : List PlacedField = statics (take place fields) in
    let at : PlacedField = get_or fields place d in
    let more : said_count (front ++ at ∷ []) ≡ said_count front = said_more front at ∙ ap (λ b. if b then length front + 1 else said_count front) unsaid in
    record { own = added_value fields place d values new within before.own test is; count = before.count ∙ sym more ∙ ap said_count (sym (added fields place d within test)) }

pub none_kept : (fields : List PlacedField) (values : List StaticValue) → values ≡ [] → AreKept fields 0 values 0
unfolding said_count
none_kept fields values is = record { own = is; count = refl }

-- the values up to the last that is said
pub cut : (fields : List PlacedField) (place : ℕ) (values new : List StaticValue) (said : ℕ) → length fields ≤ place → AreKept fields place values said → new ≡ take said values →
    new ≡ map (λ field. field.value) (take (said_count (filter (λ field. field.raw.is_static) fields)) (filter (λ field. field.raw.is_static) fields))
cut fields place values new said end kept is =
    let whole : take place fields ≡ fields = take_all place fields end in
    let values_are : values ≡ values_of (statics fields) = kept.own ∙ ap (λ all. values_of (statics all)) whole in
    let said_is : said ≡ said_count (statics fields) = kept.count ∙ ap (λ all. said_count (statics all)) whole in
    is ∙ ap (take said) values_are ∙ take-map (λ (field : PlacedField). field.value) said (statics fields) ∙ ap (λ n. values_of (take n (statics fields))) said_is

-- ---- the values that were added

same_counts : (ids : Ids) (class : List ℕ) (listed : List ListedField) (placed : List PlacedField) → EachPair (IsPlacedField ids class) listed placed → value_count listed ≡ said_count placed
unfolding said_count value_count
same_counts ids class [] [] pairs = refl
same_counts ids class [] (field ∷ placed) pairs = absurd pairs
same_counts ids class (field ∷ listed) [] pairs = absurd pairs
same_counts ids class (field ∷ listed) (other ∷ placed) (here, behind) = by field.value other.is_said here.said (value_count listed) (said_count placed) (same_counts ids class listed placed behind)
  where
    by : (value : Option ListedValue) (said : Bool) → said ≡ is_some value → (m n : ℕ) → m ≡ n → count_with value m ≡ (if said then n + 1 else if n == 0 then 0 else n + 1)
    by None true e m n same = absurd cc
    by None false e m n same = ap (λ k. if k == 0 then 0 else k + 1) same
    by (Some value) true e m n same = ap (λ k. k + 1) same
    by (Some value) false e m n same = absurd cc

-- the values of these fields are those of the fields that were added
pub values_begin : (ids : Ids) (class : List ℕ) (listed : List ListedField) (placed : List PlacedField) → EachPair (IsPlacedField ids class) listed placed →
    AreRawValues ids listed (map (λ field. field.value) (take (said_count (filter (λ field. field.raw.is_static) placed)) (filter (λ field. field.raw.is_static) placed)))
values_begin ids class listed placed pairs =
    let statics : List PlacedField = filter (λ field. field.raw.is_static) placed in
    let both : EachPair (IsPlacedField ids class) (statics_of listed) statics =
    passing (IsPlacedField ids class) (λ field. has_flag field.flags 8) (λ field. field.raw.is_static) (λ field other are. sym are.raw.list) listed placed pairs in
    let few : EachPair (IsPlacedField ids class) (take (said_count statics) (statics_of listed)) (take (said_count statics) statics) = first_few (IsPlacedField ids class) (said_count statics) (statics_of listed) statics both in
    let begin : EachPair (FieldBegins ids) (take (said_count statics) (statics_of listed)) (map (λ field. field.value) (take (said_count statics) statics)) =
    given (IsPlacedField ids class) (FieldBegins ids) (λ field. field.value) (λ field other are. are.begins) (take (said_count statics) (statics_of listed)) (take (said_count statics) statics) few in
    subst (λ (count : ℕ). EachPair (FieldBegins ids) (take count (statics_of listed)) (map (λ field. field.value) (take (said_count statics) statics)))
    (sym (same_counts ids class (statics_of listed) statics both)) begin
