-- A layout by numbers is one by names.
use Rattle.std.proofs.Common.{◌≡◌, ℕ, ◌<◌, Bool, false, List, [], ◌∷◌, ◌++◌, length, reverse, get_or, Option, Some, None, refl, sym, ap, ◌∙◌, subst, arith}
use Rattle.std.specs.Prelude.{slice_get, unwrap_or}
use Rattle.std.specs.List.{flat_map}
use Rattle.std.proofs.lemmas.Grind.{flat_map-append, reverse_onto}
use Rattle.std.proofs.lemmas.List.{append-nil}
use Rattle.std.proofs.lemmas.Option.{slice_get_within, slice_get-get_or}
use Rattle.cc_meaning.specs.declared.file.Ids.{Ids}
use Rattle.cc_meaning.specs.declared.file.RawClass.{RawClass}
use Rattle.cc_meaning.specs.declared.program.Program.{Program}
use Rattle.cc_meaning.specs.Lookup.{class_named}
use Rattle.cc_meaning_program.specs.ClassFaults.{AreSound}
use Rattle.cc_meaning_program.specs.Ancestry.{Ancestry, superclass_named}
use Rattle.cc_meaning_program.specs.Programs.{fields_from, fields_of}
use Rattle.cc_meaning_program.proofs.Once.{ancestry_once}
use Rattle.cc_meaning_program.specs.declared.outline.Outline.{Outline}
use Rattle.cc_meaning_program.specs.SoundClimbing.{ClassesHaveAncestries}
use Rattle.cc_meaning_program.specs.Outlines.{IsNumberOf, AreOutlines}
use Rattle.cc_meaning_program.specs.Plans.{name_at}
use Rattle.cc_program.specs.Layouts.{own_fields, AreOwnFields, superclass_in, superclass_at, HasHeights, IsLayout}

pub own_by_name : (program : Program) (s : Bool) (n : ℕ) (name : List ℕ) → class_named name program ≡ Some n → fields_of program s name ≡ own_fields s program.fields n
unfolding fields_of own_fields
own_by_name program s n name is = ap (λ o. fields_from 0 o s program.fields) is

module _ (ids : Ids) (names : List (List ℕ)) (outlines : List Outline) (are : AreOutlines ids names outlines) where
  outline_at : (n : ℕ) (name : List ℕ) → slice_get names n ≡ Some name → (outline : Outline) × (slice_get outlines n ≡ Some outline)
  outline_at n name there = from (slice_get outlines n) refl
    where
      from : (o : Option Outline) → slice_get outlines n ≡ o → (outline : Outline) × (slice_get outlines n ≡ Some outline)
      from (Some outline) e = (outline, e)
      from None e = absurd (let within : n < length names = slice_get_within names n name there in let all = are.all in past outlines n (omega (arith, within, all)) e)
        where
          past : (xs : List Outline) (k : ℕ) → k < length xs → slice_get xs k ≡ None → ⊥
          past [] k less e = absurd (omega (arith, less))
          past (x ∷ xs) k less e = absurd (let is : slice_get (x ∷ xs) k ≡ Some (get_or (x ∷ xs) k x) = slice_get-get_or (x ∷ xs) k x less in cc)

  -- the superclass of a class by its name and by its number
  above_is : (n : ℕ) (name : List ℕ) → slice_get names n ≡ Some name → IsNumberOf names (superclass_named ids name) (superclass_at outlines n)
  unfolding superclass_at superclass_in
  above_is n name there =
      let outline = outline_at n name there in
      subst (λ o. IsNumberOf names (superclass_named ids name) (superclass_in o)) (sym outline.1) (are.each n name outline.0 there outline.1).superclass

  none_above : (named : Option (List ℕ)) (number : Option ℕ) → IsNumberOf names named number → number ≡ None → named ≡ None
  none_above None number is e = refl
  none_above (Some name) None is e = absurd is
  none_above (Some name) (Some n) is e = absurd (cc)

  some_above : (named : Option (List ℕ)) (number : Option ℕ) (above : ℕ) → IsNumberOf names named number → number ≡ Some above → (name : List ℕ) × (named ≡ Some name) × (slice_get names above ≡ Some name)
  some_above None None above is e = absurd (cc)
  some_above None (Some n) above is e = absurd is
  some_above (Some name) None above is e = absurd is
  some_above (Some name) (Some n) above is e = (name, refl, subst (λ k. slice_get names k ≡ Some name) (some_is n above e) is)
    where
      some_is : (i j : ℕ) → Some i ≡ Some j → i ≡ j
      some_is i j e = cc

  -- ---- layouts

  module _ (program : Program) (number_is : (n : ℕ) (name : List ℕ) → slice_get names n ≡ Some name → class_named name program ≡ Some n) (own : List (List ℕ)) (owned : AreOwnFields false program.fields (length outlines) own) where
    own_is : (n : ℕ) (name : List ℕ) (fields : List ℕ) → slice_get names n ≡ Some name → slice_get own n ≡ Some fields → fields ≡ fields_of program false name
    own_is n name fields there is = owned.each n fields is ∙ sym (own_by_name program false n name (number_is n name there))

    -- the classes above a class, and the fields of all
    pub record IsLaid (name : List ℕ) (layout : List ℕ) : Type 0 where
      pub ancestors : List (List ℕ)
      pub ancestry : Ancestry ids name ancestors
      pub laid : layout ≡ flat_map (fields_of program false) (reverse ancestors)

    pub laid : (n : ℕ) (name layout : List ℕ) → slice_get names n ≡ Some name → IsLayout outlines own n layout → IsLaid name layout
    laid _ name _ there (IsLayout.top {class = n} {fields = fields} none is) = record {
      ancestors = name ∷ [];
      ancestry = Ancestry.top (none_above (superclass_named ids name) (superclass_at outlines n) (above_is n name there) none);
      laid = own_is n name fields there is ∙ sym (append-nil (fields_of program false name));
    }
    laid _ name _ there (IsLayout.under {class = n} {above = above} {inherited = inherited} {fields = fields} up rest is) =
        let top = some_above (superclass_named ids name) (superclass_at outlines n) above (above_is n name there) up in
        let on = laid above top.0 inherited top.2 rest in
        record {
          ancestors = name ∷ on.ancestors;
          ancestry = Ancestry.up top.1 on.ancestry;
          laid = ap (λ xs. xs ++ fields) on.laid
              ∙ (ap (λ ys. flat_map (fields_of program false) (reverse on.ancestors) ++ ys) (own_is n name fields there is ∙ sym (append-nil (fields_of program false name)))
              ∙ (sym (flat_map-append (fields_of program false) (reverse on.ancestors) (name ∷ [])) ∙ ap (flat_map (fields_of program false)) (sym (reverse_onto on.ancestors name []))));
        }

  -- ---- heights

  height_falls : (name above : List ℕ) (ancestors others : List (List ℕ)) → superclass_named ids name ≡ Some above → Ancestry ids name ancestors → Ancestry ids above others → length others < length ancestors
  height_falls name above _ others up (Ancestry.top none) line = absurd (cc)
  height_falls name above _ others up (Ancestry.up {above = next} {rest = rest} is on) line =
      let same : next ≡ above = some_is next above (sym is ∙ up) in
      let one : rest ≡ others = ancestry_once ids above rest others (subst (λ k. Ancestry ids k rest) same on) line in
      let long : length rest ≡ length others = ap length one in
      omega arith
    where
      some_is : (x y : List ℕ) → Some x ≡ Some y → x ≡ y
      some_is x y e = cc

  pub heights : (classes : List RawClass) → ClassesHaveAncestries → AreSound ids classes → HasHeights outlines
  unfolding name_at superclass_at superclass_in
  heights classes have sound = (height, record { there = there; less = less })
    where
      height : ℕ → ℕ
      height n = length (have ids classes sound (name_at names n)).0

      outlined : (n above : ℕ) (o : Option Outline) → slice_get outlines n ≡ o → superclass_in o ≡ Some above → n < length outlines
      outlined n above None e up = absurd (cc)
      outlined n above (Some outline) e up = slice_get_within outlines n outline e

      named : (n above : ℕ) → superclass_at outlines n ≡ Some above → (name : List ℕ) × (slice_get names n ≡ Some name)
      named n above up =
          let within = outlined n above (slice_get outlines n) refl up in
          let all = are.all in
          (get_or names n [], slice_get-get_or names n [] (omega (arith, within, all)))

      there : (n above : ℕ) → superclass_at outlines n ≡ Some above → above < length outlines
      there n above up =
          let name = named n above up in
          let top = some_above (superclass_named ids name.0) (superclass_at outlines n) above (above_is n name.0 name.1) up in
          let within : above < length names = slice_get_within names above top.0 top.2 in
          let all = are.all in
          subst (λ k. above < k) (sym all) within

      less : (n above : ℕ) → superclass_at outlines n ≡ Some above → height above < height n
      less n above up =
          let name = named n above up in
          let top = some_above (superclass_named ids name.0) (superclass_at outlines n) above (above_is n name.0 name.1) up in
          let here : name_at names n ≡ name.0 = ap (λ o. unwrap_or o []) name.1 in
          let high : name_at names above ≡ top.0 = ap (λ o. unwrap_or o []) top.2 in
          let low = have ids classes sound (name_at names n) in
          let up = have ids classes sound (name_at names above) in
          height_falls name.0 top.0 low.0 up.0 top.1 (subst (λ k. Ancestry ids k low.0) here low.1) (subst (λ k. Ancestry ids k up.0) high up.1)
