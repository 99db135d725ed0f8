-- A name is found behind what stands before it, and a text's units come character by character.
use Rattle.std.proofs.Common.{◌≡◌, ◌≢◌, below_more, ℕ, ◌+◌, ◌<◌, ◌≤◌, List, ◌∷◌, ◌++◌, length, drop, Option, Some, None, refl, sym, ap, subst, ◌∙◌, slice_index_or, Bor}
use Rattle.std.specs.Prelude.{MatchOption, slice_get}
use Rattle.std.specs.List.{flat_map}
use Rattle.std.proofs.lemmas.List.{append_assoc, append-nil, append_cancel_left, drop_more}
use Rattle.std.proofs.lemmas.Option.{slice_get_read}
use Rattle.std.proofs.Math.ListN.{drop_of_length-le}
use Rattle.cc_meaning_plain.specs.declared.plain.PlainFunction.{PlainFunction}

some_same : {A : Type 0} {a b : A} → Some a ≡ Some b → a ≡ b
some_same e = cc

-- ---- what is behind a front

module _ (s p : List ℕ) (shape : List ℕ → List ℕ) where
  pub no_front : ((rest : List ℕ) → s ≢ p ++ rest) → (n : List ℕ) → s ≡ p ++ shape n → ⊥
  no_front none n e = none (shape n) e

  pub in_front : (x : List ℕ) → s ≡ p ++ x → (r : Option (Bor (List ℕ))) → MatchOption r ((n : List ℕ) → x ≢ shape n) (λ y. x ≡ shape y.now)
      → MatchOption r ((n : List ℕ) → s ≡ p ++ shape n → ⊥) (λ y. s ≡ p ++ shape y.now)
  in_front x h None none = λ n e. none n (append_cancel_left p x (shape n) (sym h ∙ e))
  in_front x h (Some y) m = h ∙ ap (λ l. p ++ l) m

-- ---- the units of a text

-- the units that are there, and those of the characters from place i on, are the whole
abbrev pub Spells : (ℕ → List ℕ) → List ℕ → List ℕ → ℕ → List ℕ → Type 0
Spells f units cs i whole = units ++ flat_map f (drop i cs) ≡ whole

pub spells_more : (f : ℕ → List ℕ) (units units' cs whole : List ℕ) (i c : ℕ) → (i < length cs) × (c ≡ slice_index_or cs i c) → units' ≡ units ++ f c → Spells f units cs i whole → Spells f units' cs (i + 1) whole
spells_more f units units' cs whole i c here e spells =
    let next : drop i cs ≡ c ∷ drop (i + 1) cs = drop_more cs i c here.0 ∙ ap (λ (x : ℕ). x ∷ drop (i + 1) cs) (sym here.1) in
    ap (λ (l : List ℕ). l ++ flat_map f (drop (i + 1) cs)) e ∙ append_assoc units (f c) (flat_map f (drop (i + 1) cs))
    ∙ ap (λ (rest : List ℕ). units ++ flat_map f rest) (sym next) ∙ spells

pub spells_all : (f : ℕ → List ℕ) (units cs whole : List ℕ) (i : ℕ) → length cs ≤ i → Spells f units cs i whole → units ≡ whole
spells_all f units cs whole i h spells = sym (append-nil units) ∙ ap (λ (rest : List ℕ). units ++ flat_map f rest) (sym (drop_of_length-le cs h)) ∙ spells

-- ---- a function of another name

pub stands_at : (items functions : List PlainFunction) (i : ℕ) (function : PlainFunction) → items ≡ functions → i < length items → function ≡ slice_index_or items i function → slice_get functions i ≡ Some function
stands_at items functions i function same within is = subst (λ (l : List PlainFunction). slice_get l i ≡ Some function) same (slice_get_read items (length items) i function refl within is)

module _ (functions : List PlainFunction) (name : List ℕ) where
  abbrev pub NoneBelow : ℕ → Type 0
  NoneBelow i = (k : ℕ) (function : PlainFunction) → k < i → slice_get functions k ≡ Some function → function.name ≡ name → ⊥

  pub one_place_more : (i : ℕ) (here : PlainFunction) → NoneBelow i → slice_get functions i ≡ Some here → here.name ≢ name → NoneBelow (i + 1)
  one_place_more i here below stands other k function l at same =
      let P : ℕ → Type 0 = λ k. (f : PlainFunction) → slice_get functions k ≡ Some f → f.name ≡ name → ⊥ in
      let here_too : P i = λ f at same. other (ap (λ (f : PlainFunction). f.name) (some_same (sym stands ∙ at)) ∙ same) in
      below_more P i (λ k m f. below k f m) here_too k l function at same
