-- What stands in front is cut off or is no form exactly where the forms say so.
use Rattle.std.proofs.Common.{◌≡◌, ◌≢◌, ℕ, ◌+◌, ◌-◌, ◌*◌, ◌/◌, ◌%◌, ◌<◌, ◌≤◌, ◌⊎◌, Bool, true, false, List, [], ◌∷◌, ◌++◌, length, drop, Some, None, Result, Ok, Err, refl, sym, ap, ◌∙◌, inl, inr, arith}
use Rattle.std.specs.Prelude.{nat_le, ◌==◌, ◌&&◌, ◌||◌, if◌then◌else◌}
use Rattle.std.proofs.lemmas.Bool.{cases_lt, cases_eq}
use Rattle.std.proofs.lemmas.Bool.Decides.{nat_tests}
use Rattle.std.proofs.lemmas.List.{length-append}
use Rattle.cc_meaning.specs.declared.fault.TextFault.{TextFault}
use Rattle.cc_meaning.specs.declared.fault.TextFault.TheVariants.{CutOff, BadForm}
use Rattle.cc_meaning_dex.specs.Mutf8.{Front, IsCut, IsNoForm, two_bytes, three_bytes, unit_form, goes_on, begins_three, front_of_two, front_of_three, front_of}
use Rattle.cc_meaning_dex.specs.TextLaws.{FrontFaults}
use Rattle.cc_meaning_dex.proofs.Forms as forms

cut_from : (bytes : List ℕ) (u next : ℕ) (others : List ℕ) → u < 65536 → unit_form u ≡ bytes ++ next ∷ others → IsCut bytes
cut_from bytes u next others h e = record { unit = u; next = next; others = others; small = h; form = e }

two_is_cut : (at a : ℕ) (bs : List ℕ) → 192 ≤ a → a < 224 → front_of_two at a bs ≡ Err CutOff → IsCut (a ∷ bs)
unfolding front_of_two
two_is_cut at a [] h k e =
    elim (cases_eq a 193) [
      | inl odd ↦ let fails : front_of_two at a [] ≡ Err (BadForm at) = grind (arith, nat_tests) in absurd cc
      | inr even ↦
          let u = (a - 192) * 64 in
          cut_from (a ∷ []) u 128 [] (omega arith)
          (forms.unit_form-two u (two_range a h even) (omega arith) ∙ forms.two_bytes_are a 128 u h (omega arith) (omega arith) (omega arith))
    ]
  where
    two_range : (a : ℕ) → 192 ≤ a → a ≢ 193 → ((a - 192) * 64 ≡ 0) ⊎ (128 ≤ (a - 192) * 64)
    two_range a h n = elim (cases_eq a 192) [ inl same ↦ inl (omega arith) | inr other ↦ inr (omega arith) ]
two_is_cut at a (b ∷ bs) h k e =
    let u = (a - 192) * 64 + (b - 128) in
    let same : CutOff ≡ BadForm at = forms.if-fault (goes_on b && (u == 0 || nat_le 128 u)) (Some (u, 2)) (BadForm at) CutOff e in
    absurd cc

three_is_cut : (at a : ℕ) (bs : List ℕ) → 224 ≤ a → a < 240 → front_of_three at a bs ≡ Err CutOff → IsCut (a ∷ bs)
unfolding front_of_three
three_is_cut at a [] h k e =
    let u = (a - 224) * 4096 + 2048 in
    cut_from (a ∷ []) u 160 (128 ∷ []) (omega arith)
    (forms.unit_form-three u (omega arith) ∙ forms.three_bytes_are a 160 128 u h (omega arith) (omega arith) (omega arith) (omega arith) (omega arith))
three_is_cut at a (b ∷ []) h k e = by_test (begins_three a b) refl e
  where
    by_test : (t : Bool) → begins_three a b ≡ t → (let r : Result Front TextFault = if t then Err CutOff else Err (BadForm at) in r) ≡ Err CutOff → IsCut (a ∷ b ∷ [])
    by_test true t f =
        let begins = forms.begins_three-is a b t in
        let u = (a - 224) * 4096 + (b - 128) * 64 in
        cut_from (a ∷ b ∷ []) u 128 [] (omega (arith, begins.1))
        (forms.unit_form-three u (omega (arith, begins.0, begins.2)) ∙ forms.three_bytes_are a b 128 u h begins.0 begins.1 (omega arith) (omega arith) (omega arith))
    by_test false t f = absurd cc
three_is_cut at a (b ∷ c ∷ cs) h k e =
    let u = (a - 224) * 4096 + (b - 128) * 64 + (c - 128) in
    let same : CutOff ≡ BadForm at = forms.if-fault (begins_three a b && goes_on c) (Some (u, 3)) (BadForm at) CutOff e in
    absurd cc

pub front_is_cut : (at : ℕ) (bytes : List ℕ) → front_of at bytes ≡ Err CutOff → IsCut bytes
front_is_cut at [] e = cut_from [] 1 1 [] (omega arith) (forms.unit_form-one 1 (omega arith) (omega arith))
front_is_cut at (a ∷ bs) e =
    elim (cases_lt a 128) [
      | inl low ↦ elim (cases_eq a 0) [
        | inl nought ↦ absurd (cc (forms.front_of-zero at a bs nought))
        | inr some ↦ absurd (cc (forms.front_of-one at a bs (omega arith) low))
      ]
      | inr above ↦ elim (cases_lt a 192) [
        | inl stray ↦ absurd (cc (forms.front_of-stray at a bs above stray))
        | inr above192 ↦ elim (cases_lt a 224) [
          | inl two ↦ two_is_cut at a bs above192 two (sym (forms.front_of-two at a bs above192 two) ∙ e)
          | inr above224 ↦ elim (cases_lt a 240) [
            | inl three ↦ three_is_cut at a bs above224 three (sym (forms.front_of-three at a bs above224 three) ∙ e)
            | inr high ↦ absurd (cc (forms.front_of-high at a bs high))
          ]
        ]
      ]
    ]

-- the front of a cut form
two_none : (at a : ℕ) → a ≢ 193 → front_of_two at a [] ≡ Err CutOff
unfolding front_of_two
two_none at a n = grind (arith, nat_tests)

three_none : (at a : ℕ) → front_of_three at a [] ≡ Err CutOff
unfolding front_of_three
three_none at a = refl

three_begun : (at a b : ℕ) → begins_three a b ≡ true → front_of_three at a (b ∷ []) ≡ Err CutOff
unfolding front_of_three
three_begun at a b h = rw h

cut_one : (at u next : ℕ) (bytes others : List ℕ) → u ∷ [] ≡ bytes ++ next ∷ others → front_of at bytes ≡ Err CutOff
cut_one at u next [] others e = forms.front_of-nil at
cut_one at u next (a ∷ bs) others e = absurd (omega (arith, ap length e, length-append bs (next ∷ others)))

cut_two : (at u next : ℕ) (bytes others : List ℕ) → (u ≡ 0) ⊎ (128 ≤ u) → u < 2048 → two_bytes u ≡ bytes ++ next ∷ others → front_of at bytes ≡ Err CutOff
cut_two at u next [] others t h e = forms.front_of-nil at
cut_two at u next (a ∷ []) others t h e =
    let first : a ≡ 192 + u / 64 = cc in
    forms.front_of-two at a [] (omega arith) (omega arith) ∙ two_none at a (apart t)
  where
    apart : (u ≡ 0) ⊎ (128 ≤ u) → a ≢ 193
    apart (inl nought) same = let first : a ≡ 192 + u / 64 = cc in omega arith
    apart (inr large) same = let first : a ≡ 192 + u / 64 = cc in omega arith
cut_two at u next (a ∷ b ∷ bs) others t h e = absurd (omega (arith, ap length e, length-append bs (next ∷ others)))

cut_three : (at u next : ℕ) (bytes others : List ℕ) → 2048 ≤ u → u < 65536 → three_bytes u ≡ bytes ++ next ∷ others → front_of at bytes ≡ Err CutOff
cut_three at u next [] others h k e = forms.front_of-nil at
cut_three at u next (a ∷ []) others h k e =
    let first : a ≡ 224 + u / 4096 = cc in
    forms.front_of-three at a [] (omega arith) (omega arith) ∙ three_none at a
cut_three at u next (a ∷ b ∷ []) others h k e =
    let first : a ≡ 224 + u / 4096 = cc in
    let second : b ≡ 128 + u / 64 % 64 = cc in
    let on : goes_on b ≡ true = forms.goes_on-true b (omega arith) (omega arith) in
    let enough : 32 ≤ (a - 224) * 64 + (b - 128) = omega arith in
    let test : nat_le 32 ((a - 224) * 64 + (b - 128)) ≡ true = grind (arith, nat_tests) in
    let begins : begins_three a b ≡ true = simp (on, test) in
    forms.front_of-three at a (b ∷ []) (omega arith) (omega arith) ∙ three_begun at a b begins
cut_three at u next (a ∷ b ∷ c ∷ cs) others h k e = absurd (omega (arith, ap length e, length-append cs (next ∷ others)))

pub cut_is_front : (at : ℕ) (bytes : List ℕ) → IsCut bytes → front_of at bytes ≡ Err CutOff
cut_is_front at bytes c =
    elim (cases_lt c.unit 2048) [
      | inl low ↦ elim (cases_lt c.unit 128) [
        | inl small ↦ elim (cases_eq c.unit 0) [
          | inl nought ↦ cut_two at c.unit c.next bytes c.others (inl nought) low (sym (forms.unit_form-two c.unit (inl nought) low) ∙ c.form)
          | inr some ↦ cut_one at c.unit c.next bytes c.others (sym (forms.unit_form-one c.unit (omega arith) small) ∙ c.form)
        ]
        | inr large ↦ cut_two at c.unit c.next bytes c.others (inr large) low (sym (forms.unit_form-two c.unit (inr large) low) ∙ c.form)
      ]
      | inr high ↦ cut_three at c.unit c.next bytes c.others high c.small (sym (forms.unit_form-three c.unit high) ∙ c.form)
    ]

pub bad_is_none : (at : ℕ) (bytes : List ℕ) → front_of at bytes ≡ Err (BadForm at) → IsNoForm bytes
bad_is_none at bytes e = record {
  whole = λ u rest h same. let found = ap (front_of at) same ∙ forms.front_of-unit at u rest h in absurd cc;
  cut = λ c. let found = cut_is_front at bytes c in absurd cc;
  end = λ rest same. let found = ap (front_of at) same ∙ forms.front_of-end at rest in absurd cc;
}

pub none_is_bad : (at : ℕ) (bytes : List ℕ) → IsNoForm bytes → front_of at bytes ≡ Err (BadForm at)
unfolding forms.Found
none_is_bad at bytes n = by_front (front_of at bytes) refl
  where
    by_fault : (fault : TextFault) → front_of at bytes ≡ Err fault → (fault ≡ CutOff) ⊎ (fault ≡ BadForm at) → front_of at bytes ≡ Err (BadForm at)
    by_fault fault e (inl cut) = absurd (n.cut (front_is_cut at bytes (e ∙ ap Err cut)))
    by_fault fault e (inr bad) = e ∙ ap Err bad

    by_sound : (f : Front) → ((f ≡ None) × (bytes ≡ 0 ∷ drop 1 bytes)) ⊎ forms.Found bytes f → front_of at bytes ≡ Err (BadForm at)
    by_sound f (inl h) = absurd (n.end (drop 1 bytes) h.1)
    by_sound f (inr h) = absurd (n.whole h.0 (drop h.1 bytes) h.3.small h.3.form)

    by_front : (r : Result Front TextFault) → front_of at bytes ≡ r → front_of at bytes ≡ Err (BadForm at)
    by_front (Err fault) e = by_fault fault e (forms.front-fault at bytes fault e)
    by_front (Ok f) e = by_sound f (forms.front_of-sound at bytes f e)

pub front_faults : FrontFaults
front_faults = record {
  cut = λ at bytes. (front_is_cut at bytes, cut_is_front at bytes);
  bad = λ at bytes. (bad_is_none at bytes, none_is_bad at bytes);
}
