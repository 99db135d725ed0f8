-- The interfaces of classes, searched one class after the other.
use Rattle.std.proofs.Common.{◌≡◌, inl, inr, ℕ, zero, suc, ◌+◌, ◌≤◌, List, [], ◌∷◌, ◌++◌, length, take, Option, Some, None, slice_get, refl, sym, ap, subst, ◌∙◌, arith}
use Rattle.std.specs.List.{flat_map}
use Rattle.std.proofs.lemmas.Grind.{flat_map-append}
use Rattle.std.proofs.lemmas.List.{take_all}
use Rattle.std.proofs.lemmas.List.Concat.{flat_map-cons}
use Rattle.cc_meaning_program.specs.Ancestry.{interfaces_named, Superinterfaces}
use Rattle.cc_meaning_program.specs.Searches.{NoneOf}
use Rattle.cc_meaning_program.specs.SoundClimbing.{InterfacesHaveLists}
use Rattle.cc_owners.specs.declared.linked.Linked.{Linked}
use Rattle.cc_owners.specs.declared.place.Found.{Found}
use Rattle.cc_owners.specs.Entered.{AreOlder, OnlyMarked, AreEntered, IsFoundAbove, IsFoundInMethodOrder}
use Rattle.cc_owners.specs.Known.{IsKnown, Has, IsFound}
use Rattle.cc_owners.proofs.Above.{both}
use Rattle.cc_owners.proofs.Inheriting.{at_place}
use Rattle.cc_owners.proofs.Lists.{none_of_both, first_behind, first_in_front}

pub only_both : (first then last : List ℕ) (search : ℕ) → OnlyMarked first search then → OnlyMarked then search last → OnlyMarked first search last
only_both first then last search one two class mark read = elim (two class mark read) [ inl old ↦ one class mark old | inr new ↦ inr new ]

pub entered_fresh : (linked : Linked) (row : ℕ) (marks : List ℕ) (search : ℕ) → AreOlder marks search → AreEntered linked row marks search
entered_fresh linked row marks search older = record {
  named = [];
  searched = [];
  above = Superinterfaces.none;
  clear = tt;
  among = λ class marked. absurd (let less = older class search marked in omega arith);
}

pub entered_of : (linked : Linked) (row : ℕ) (marks : List ℕ) (search : ℕ) (named : List (List ℕ)) → IsFoundAbove linked row marks search named None → AreEntered linked row marks search
entered_of linked row marks search named (searched, above, clear, entered) = entered

pub take_more : (xs : List (List ℕ)) (i : ℕ) (x : List ℕ) → slice_get xs i ≡ Some x → take (i + 1) xs ≡ take i xs ++ x ∷ []
take_more [] i x there = absurd cc
take_more (y ∷ xs) zero x there = let e : y ≡ x = cc in ap (λ h. h ∷ []) e
take_more (y ∷ xs) (suc i) x there =
    let next : suc (i + 1) ≡ suc i + 1 = omega arith in
    ap (λ k. take k (y ∷ xs)) (sym next) ∙ ap (λ l. y ∷ l) (take_more xs i x there)

pub take_none : (xs : List (List ℕ)) → take 0 xs ≡ []
take_none [] = refl
take_none (x ∷ xs) = refl

module _ (linked : Linked) (row search : ℕ) (order : List (List ℕ)) where
  abbrev pub named_of : List (List ℕ) → List (List ℕ)
  named_of classes = flat_map (interfaces_named linked.ids.now) classes

  flat_more : (i : ℕ) (name : List ℕ) → slice_get order i ≡ Some name → named_of (take (i + 1) order) ≡ named_of (take i order) ++ interfaces_named linked.ids.now name
  flat_more i name there =
      ap named_of (take_more order i name there)
      ∙ (flat_map-append (interfaces_named linked.ids.now) (take i order) (name ∷ [])
      ∙ ap (λ l. named_of (take i order) ++ l) (flat_one name))
    where
      flat_one : (n : List ℕ) → named_of (n ∷ []) ≡ interfaces_named linked.ids.now n
      flat_one n = flat_map-cons (interfaces_named linked.ids.now) n [] ∙ ends (interfaces_named linked.ids.now n)
        where
          ends : (xs : List (List ℕ)) → xs ++ [] ≡ xs
          ends [] = refl
          ends (x ∷ xs) = ap (λ l. x ∷ l) (ends xs)

  pub searched_none : (marks : List ℕ) → AreEntered linked row marks search → IsFoundAbove linked row marks search (named_of (take 0 order)) None
  searched_none marks entered = subst (λ l. IsFoundAbove linked row marks search (named_of l) None) (sym (take_none order)) ([], Superinterfaces.none, tt, entered)

  pub searched_more : (i : ℕ) (name : List ℕ) (before after : List ℕ) → slice_get order i ≡ Some name → IsFoundAbove linked row before search (named_of (take i order)) None →
      IsFoundAbove linked row after search (interfaces_named linked.ids.now name) None → IsFoundAbove linked row after search (named_of (take (i + 1) order)) None
  searched_more i name before after there (searched, above, clear, entered) (others, upper, none, now) =
      subst (λ l. IsFoundAbove linked row after search l None) (sym (flat_more i name there))
      (searched ++ others, both linked.ids.now (named_of (take i order)) (interfaces_named linked.ids.now name) searched others above upper, none_of_both (Has linked row) searched others clear none, now)

  pub searched_found : (law : InterfacesHaveLists) → IsKnown linked → (i : ℕ) (name : List ℕ) (before after : List ℕ) (found : Found) → slice_get order i ≡ Some name →
      IsFoundAbove linked row before search (named_of (take i order)) None → IsFoundAbove linked row after search (interfaces_named linked.ids.now name) (Some found) → IsFoundAbove linked row after search (named_of order) (Some found)
  searched_found law known i name before after found there (searched, above, clear, entered) (others, upper, f) =
      let p = at_place order i name there in
      let (behind, on) = law linked.ids.now linked.classes.now known.sound (named_of p.tail) in
      let split : named_of order ≡ named_of (take i order) ++ (interfaces_named linked.ids.now name ++ named_of p.tail) =
      ap named_of p.is ∙ (flat_map-append (interfaces_named linked.ids.now) (take i order) (name ∷ p.tail) ∙ ap (λ l. named_of (take i order) ++ l) (flat_map-cons (interfaces_named linked.ids.now) name p.tail)) in
      subst (λ l. IsFoundAbove linked row after search l (Some found)) (sym split) (
        searched ++ (others ++ behind),
        both linked.ids.now (named_of (take i order)) (interfaces_named linked.ids.now name ++ named_of p.tail) searched (others ++ behind) above
            (both linked.ids.now (interfaces_named linked.ids.now name) (named_of p.tail) others behind upper on),
        record {
          owner = f.owner;
          there = f.there;
          first = first_behind (Has linked row) searched (others ++ behind) f.owner clear (first_in_front (Has linked row) others behind f.owner f.first);
          placed = f.placed;
        },
      )

  pub searched_all : (i : ℕ) (marks : List ℕ) → length order ≤ i → IsFoundAbove linked row marks search (named_of (take i order)) None → IsFoundAbove linked row marks search (named_of order) None
  searched_all i marks past done = subst (λ l. IsFoundAbove linked row marks search (named_of l) None) (take_all i order past) done

  -- ---- behind the classes themselves

  pub found_in_class : (law : InterfacesHaveLists) → IsKnown linked → (found : Found) → IsFound linked row order found → IsFoundInMethodOrder linked row order (Some found)
  found_in_class law known found f =
      let (interfaces, above) = law linked.ids.now linked.classes.now known.sound (named_of order) in
      (interfaces, above, record { owner = f.owner; there = f.there; first = first_in_front (Has linked row) order interfaces f.owner f.first; placed = f.placed })

  pub found_above : (marks : List ℕ) (found : Option Found) → NoneOf (Has linked row) order → IsFoundAbove linked row marks search (named_of order) found → IsFoundInMethodOrder linked row order found
  found_above marks None clear (searched, above, none, entered) = (searched, above, none_of_both (Has linked row) order searched clear none)
  found_above marks (Some found) clear (searched, above, f) =
      (searched, above, record { owner = f.owner; there = f.there; first = first_behind (Has linked row) order searched f.owner clear f.first; placed = f.placed })
