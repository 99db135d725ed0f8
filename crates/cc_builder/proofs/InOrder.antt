-- Members by their places stand in the order of a file.
use Rattle.std.proofs.Common.{◌≡◌, inl, inr, ◌⊎◌, ℕ, ◌<◌, ◌≤◌, ◌^◌, Bool, true, false, List, length, get_or, refl, sym, subst, arith}
use Rattle.std.specs.Prelude.{map, None, [], IsPermutation}
use Rattle.std.specs.List.{AllPairs}
use Rattle.std.specs.List.Sorted.{IsNonDecreasingBy}
use Rattle.std.proofs.lemmas.List.{get_or-map, length-map}
use Rattle.std.proofs.lemmas.Option.{slice_get_within}
use Rattle.cc_meaning.specs.declared.file.Ids.{Ids}
use Rattle.cc_meaning.specs.declared.program.StaticValue.TheVariants as static
use Rattle.cc_meaning_dex.specs.Classes.{EachPair}
use Rattle.cc_meaning_builder.specs.declared.content.ListedField.{ListedField}
use Rattle.cc_meaning_builder.specs.declared.content.ListedMethod.{ListedMethod}
use Rattle.cc_meaning_builder.specs.Members.{FieldBefore, MethodBefore}
use Rattle.cc_builder.specs.declared.fields.PlacedField.{PlacedField}
use Rattle.cc_builder.specs.declared.methods.PlacedMethod.{PlacedMethod}
use Rattle.cc_builder.specs.Placed.{IsPlacedField, IsPlacedMethod, AreSortedFields, AreSortedMethods, list_place}
use Rattle.cc_builder.proofs.Pairs.{pair_at, same_length, reordered}

before : (one other : Bool) (row next : ℕ) → next < 2 ^ 32 → list_place one row ≤ list_place other next → ((one ≡ true) × (other ≡ false)) ⊎ ((one ≡ other) × (row ≤ next))
before true true row next small rise = inr (refl, rise)
before true false row next small rise = inl (refl, refl)
before false true row next small rise = absurd (omega (arith, small, rise))
before false false row next small rise = inr (refl, omega (arith, rise))

pub fields_rise : (ids : Ids) (class : List ℕ) (listed : List ListedField) (placed : List PlacedField) → length ids.fields < 2 ^ 32 → EachPair (IsPlacedField ids class) listed placed →
    IsNonDecreasingBy (λ field. list_place field.raw.is_static field.raw.row) placed → AllPairs FieldBefore (map (λ field. field.raw) placed)
fields_rise ids class listed placed few each rise one other d less within =
    let e : PlacedField = record { raw = d; value = static.Null; is_said = false } in
    let size = length-map placed (λ (field : PlacedField). field.raw) in
    let second : other < length placed = omega (arith, size, within) in
    let first : one < length placed = omega (arith, second, less) in
    let l : ListedField = record { name = []; kind = []; flags = 0; value = None } in
    let there = (pair_at (IsPlacedField ids class) listed placed other l e each (omega (arith, same_length (IsPlacedField ids class) listed placed each, second))).raw.named in
    let small : (get_or placed other e).raw.row < 2 ^ 32 = omega (arith, few, slice_get_within ids.fields (get_or placed other e).raw.row there.stated there.there) in
    let ordered = before (get_or placed one e).raw.is_static (get_or placed other e).raw.is_static (get_or placed one e).raw.row (get_or placed other e).raw.row small (rise one other e (omega (arith, less)) second) in
    subst (λ it. FieldBefore it (get_or (map (λ (field : PlacedField). field.raw) placed) other d)) (sym (get_or-map (λ (field : PlacedField). field.raw) placed one e d first))
    (subst (λ it. FieldBefore (get_or placed one e).raw it) (sym (get_or-map (λ (field : PlacedField). field.raw) placed other e d second)) ordered)

pub methods_rise : (ids : Ids) (class : List ℕ) (listed : List ListedMethod) (placed : List PlacedMethod) → length ids.methods < 2 ^ 32 → EachPair (IsPlacedMethod ids class) listed placed →
    IsNonDecreasingBy (λ method. list_place method.raw.is_direct method.raw.row) placed → AllPairs MethodBefore (map (λ method. method.raw) placed)
methods_rise ids class listed placed few each rise one other d less within =
    let e : PlacedMethod = record { raw = d; outs = 0 } in
    let size = length-map placed (λ (method : PlacedMethod). method.raw) in
    let second : other < length placed = omega (arith, size, within) in
    let first : one < length placed = omega (arith, second, less) in
    let l : ListedMethod = record { name = []; proto = []; flags = 0; code = None } in
    let there = (pair_at (IsPlacedMethod ids class) listed placed other l e each (omega (arith, same_length (IsPlacedMethod ids class) listed placed each, second))).raw.named in
    let small : (get_or placed other e).raw.row < 2 ^ 32 = omega (arith, few, slice_get_within ids.methods (get_or placed other e).raw.row there.stated there.there) in
    let ordered = before (get_or placed one e).raw.is_direct (get_or placed other e).raw.is_direct (get_or placed one e).raw.row (get_or placed other e).raw.row small (rise one other e (omega (arith, less)) second) in
    subst (λ it. MethodBefore it (get_or (map (λ (method : PlacedMethod). method.raw) placed) other d)) (sym (get_or-map (λ (method : PlacedMethod). method.raw) placed one e d first))
    (subst (λ it. MethodBefore (get_or placed one e).raw it) (sym (get_or-map (λ (method : PlacedMethod). method.raw) placed other e d second)) ordered)

pub fields_sorted : (ids : Ids) (class : List ℕ) (fields : List ListedField) (placed sorted : List PlacedField) → length ids.fields < 2 ^ 32 → EachPair (IsPlacedField ids class) fields placed → IsPermutation placed sorted →
    IsNonDecreasingBy (λ field. list_place field.raw.is_static field.raw.row) sorted → AreSortedFields ids class fields sorted
fields_sorted ids class fields placed sorted few each order rise =
    let other = reordered (IsPlacedField ids class) fields placed sorted each order in
    record { listed = other.firsts; all = other.all; each = other.each; rise = fields_rise ids class other.firsts sorted few other.each rise }

pub methods_sorted : (ids : Ids) (class : List ℕ) (methods : List ListedMethod) (placed sorted : List PlacedMethod) → length ids.methods < 2 ^ 32 → EachPair (IsPlacedMethod ids class) methods placed → IsPermutation placed sorted →
    IsNonDecreasingBy (λ method. list_place method.raw.is_direct method.raw.row) sorted → AreSortedMethods ids class methods sorted
methods_sorted ids class methods placed sorted few each order rise =
    let other = reordered (IsPlacedMethod ids class) methods placed sorted each order in
    record { listed = other.firsts; all = other.all; each = other.each; rise = methods_rise ids class other.firsts sorted few other.each rise }
