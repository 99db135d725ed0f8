-- Classes, each followed by its interfaces, searched one after the other.
use Rattle.std.proofs.Common.{◌≡◌, ℕ, ◌+◌, ◌≤◌, List, [], ◌∷◌, ◌++◌, length, take, Option, Some, None, slice_get, sym, subst}
use Rattle.std.proofs.lemmas.List.{take_all}
use Rattle.cc_meaning.specs.declared.file.Ids.{Ids}
use Rattle.cc_meaning.specs.declared.file.RawClass.{RawClass}
use Rattle.cc_meaning_program.specs.ClassFaults.{AreSound}
use Rattle.cc_meaning_program.specs.Ancestry.{interfaces_named, Ancestry, top, up}
use Rattle.cc_meaning_program.specs.Searches.{First, NoneOf, FieldOrder}
use Rattle.cc_meaning_program.specs.SoundClimbing.{InterfacesHaveLists}
use Rattle.cc_owners.specs.declared.linked.Linked.{Linked}
use Rattle.cc_owners.specs.declared.place.Found.{Found}
use Rattle.cc_owners.specs.Entered.{AreEntered, IsFoundAbove}
use Rattle.cc_owners.specs.Fields.{WithInterfaces, none, next, IsFoundAt, IsFoundInFieldOrder}
use Rattle.cc_owners.specs.Known.{IsKnown, Has, IsFound}
use Rattle.cc_owners.proofs.Chains.{take_more, take_none}
use Rattle.cc_owners.proofs.Inheriting.{at_place}
use Rattle.cc_owners.proofs.Lists.{together, ends_empty, none_of_both, first_behind, first_in_front}

joined : (ids : Ids) (xs ys above behind : List (List ℕ)) → WithInterfaces ids xs above → WithInterfaces ids ys behind → WithInterfaces ids (xs ++ ys) (above ++ behind)
joined ids _ ys _ behind none others = others
joined ids _ ys _ behind (next {name = name} {rest = rest} {interfaces = i} {behind = b} upper on) others =
    subst (λ l. WithInterfaces ids (name ∷ rest ++ ys) (name ∷ l)) (sym (together i b behind)) (next upper (joined ids rest ys b behind on others))

pub have_lists : (law : InterfacesHaveLists) (ids : Ids) (classes : List RawClass) → AreSound ids classes → (order : List (List ℕ)) → (searched : List (List ℕ)) × WithInterfaces ids order searched
have_lists law ids classes sound [] = ([], none)
have_lists law ids classes sound (name ∷ order) =
    let (interfaces, upper) = law ids classes sound (interfaces_named ids name) in
    let (behind, on) = have_lists law ids classes sound order in
    (name ∷ interfaces ++ behind, next upper on)

pub field_order : (ids : Ids) (name : List ℕ) (order searched : List (List ℕ)) → Ancestry ids name order → WithInterfaces ids order searched → FieldOrder ids name searched
field_order ids name _ _ (top e) (next {name = n} {interfaces = i} upper none) = subst (λ l. FieldOrder ids name (name ∷ l)) (sym (ends_empty i)) (FieldOrder.top e upper)
field_order ids name _ _ (up {above = a} {rest = r} e rest) (next {interfaces = i} {behind = b} upper on) = FieldOrder.up e upper (field_order ids a r b rest on)

-- ---- one class

pub at_class : (law : InterfacesHaveLists) (linked : Linked) → IsKnown linked → (row : ℕ) (marks : List ℕ) (search : ℕ) (name : List ℕ) (found : Found) → slice_get linked.names.now found.class ≡ Some name → IsFound linked row (name ∷ []) found → IsFoundAt linked row marks search name (Some found)
at_class law linked known row marks search name found there f =
    let (interfaces, upper) = law linked.ids.now linked.classes.now known.sound (interfaces_named linked.ids.now name) in
    (interfaces, upper, record { owner = f.owner; there = f.there; first = first_in_front (Has linked row) (name ∷ []) interfaces f.owner f.first; placed = f.placed })

pub at_interfaces : (linked : Linked) (row : ℕ) (marks : List ℕ) (search : ℕ) (name : List ℕ) (found : Option Found) → ¬ Has linked row name → IsFoundAbove linked row marks search (interfaces_named linked.ids.now name) found → IsFoundAt linked row marks search name found
at_interfaces linked row marks search name None lacks (interfaces, upper, clear, entered) = (interfaces, upper, (lacks, clear), entered)
at_interfaces linked row marks search name (Some found) lacks (interfaces, upper, f) = (interfaces, upper, record { owner = f.owner; there = f.there; first = First.later lacks f.first; placed = f.placed })

-- ---- one class after the other

abbrev pub Cleared : Linked → ℕ → List (List ℕ) → Type 0
Cleared linked row order = (searched : List (List ℕ)) × WithInterfaces linked.ids.now order searched × NoneOf (Has linked row) searched

module _ (linked : Linked) (row search : ℕ) (order : List (List ℕ)) where
  pub cleared_none : Cleared linked row (take 0 order)
  cleared_none = subst (Cleared linked row) (sym (take_none order)) ([], none, tt)

  pub cleared_more : (i : ℕ) (name : List ℕ) (marks : List ℕ) → slice_get order i ≡ Some name → Cleared linked row (take i order) → IsFoundAt linked row marks search name None → Cleared linked row (take (i + 1) order)
  cleared_more i name marks there (searched, above, clear) (interfaces, upper, lacks, entered) =
      let one : WithInterfaces linked.ids.now (name ∷ []) (name ∷ interfaces ++ []) = next upper none in
      let mine : WithInterfaces linked.ids.now (name ∷ []) (name ∷ interfaces) = subst (λ l. WithInterfaces linked.ids.now (name ∷ []) (name ∷ l)) (ends_empty interfaces) one in
      subst (Cleared linked row) (sym (take_more order i name there))
      (searched ++ (name ∷ interfaces), joined linked.ids.now (take i order) (name ∷ []) searched (name ∷ interfaces) above mine, none_of_both (Has linked row) searched (name ∷ interfaces) clear lacks)

  pub found_field : (law : InterfacesHaveLists) → IsKnown linked → (i : ℕ) (name : List ℕ) (marks : List ℕ) (found : Found) → slice_get order i ≡ Some name → Cleared linked row (take i order) → IsFoundAt linked row marks search name (Some found) → IsFoundInFieldOrder linked row order (Some found)
  found_field law known i name marks found there (searched, above, clear) (interfaces, upper, f) =
      let p = at_place order i name there in
      let (behind, on) = have_lists law linked.ids.now linked.classes.now known.sound p.tail in (
        searched ++ (name ∷ interfaces ++ behind),
        subst (λ l. WithInterfaces linked.ids.now l (searched ++ (name ∷ interfaces ++ behind))) (sym p.is) (joined linked.ids.now (take i order) (name ∷ p.tail) searched (name ∷ interfaces ++ behind) above (next upper on)),
        record {
          owner = f.owner;
          there = f.there;
          first = first_behind (Has linked row) searched (name ∷ interfaces ++ behind) f.owner clear (first_in_front (Has linked row) (name ∷ interfaces) behind f.owner f.first);
          placed = f.placed;
        },
      )

  pub cleared_all : (i : ℕ) → length order ≤ i → Cleared linked row (take i order) → IsFoundInFieldOrder linked row order None
  cleared_all i past done = subst (Cleared linked row) (take_all i order past) done

pub entered_at : (linked : Linked) (row : ℕ) (marks : List ℕ) (search : ℕ) (name : List ℕ) → IsFoundAt linked row marks search name None → AreEntered linked row marks search
entered_at linked row marks search name (interfaces, upper, lacks, entered) = entered
