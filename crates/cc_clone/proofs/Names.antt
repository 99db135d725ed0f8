-- The UTF-8 of units, character by character.
use Rattle.std.proofs.Common.{◌≡◌, ◌↔◌, refl, arith, ℕ, ◌<◌, ◌≤◌, List, [], ◌∷◌, ◌++◌, length, drop, slice_index_or, Option, Some, None, map, sym, ap, ◌∙◌, encode_utf8, encode_utf8_all, unwrap_or}
use Rattle.std.specs.Option.{SomeIff, IsSome}
use Rattle.std.specs.Char.Utf16.{utf16_chars, lone_unit_char, surrogate_pair_char}
use Rattle.std.proofs.lemmas.List.{append_cancel_left}
use Rattle.std.proofs.str.Utf16.{IsPair, lone_unit_char_low, lone_unit_char_high, lone_unit_char_surrogate, utf16_chars-drop_lone, utf16_chars-drop_pair}
use Rattle.cc_meaning_run.specs.Local.{utf8_of}

-- the characters, with a question mark for half a pair
abbrev marked : List (Option ℕ) → List ℕ
marked cs = encode_utf8_all (map (λ c. unwrap_or c 63) cs)

-- a made character is the one of the number
pub made : (r : Option ℕ) (P : Type 0) (v d : ℕ) → SomeIff r P v → IsSome r → unwrap_or r d ≡ v
made None P v d h some = absurd cc
made (Some x) P v d h some = h.1

module _ (units : List ℕ) where
  abbrev high : ℕ
  high = slice_index_or units 0 0

  abbrev low : ℕ
  low = slice_index_or units 1 0

  pub lone : (c : ℕ) → 0 < length units → (IsPair high low → ⊥) → unwrap_or (lone_unit_char high) 63 ≡ c → utf8_of units ≡ encode_utf8 c ++ utf8_of (drop 1 units)
  unfolding utf8_of
  lone c some apart is =
      ap marked (utf16_chars-drop_lone units 0 some apart)
      ∙ ap (λ (x : ℕ). encode_utf8 x ++ marked (utf16_chars (drop 1 units))) is

  pub pair : 1 < length units → IsPair high low → utf8_of units ≡ encode_utf8 (surrogate_pair_char high low) ++ utf8_of (drop 2 units)
  unfolding utf8_of
  pair both is = ap marked (utf16_chars-drop_pair units 0 both is)

  pub below : high < 0xD800 → unwrap_or (lone_unit_char high) 63 ≡ high
  below h = ap (λ (o : Option ℕ). unwrap_or o 63) (lone_unit_char_low high h)

  pub above : 0xE000 ≤ high → unwrap_or (lone_unit_char high) 63 ≡ high
  above h = ap (λ (o : Option ℕ). unwrap_or o 63) (lone_unit_char_high high h)

  pub half : 0xD800 ≤ high → high < 0xE000 → unwrap_or (lone_unit_char high) 63 ≡ 63
  half from to = ap (λ (o : Option ℕ). unwrap_or o 63) (lone_unit_char_surrogate high from to)

pub no_units : utf8_of [] ≡ []
unfolding utf8_of utf16_chars
no_units = refl

-- there is no second unit
pub no_second : (units : List ℕ) → length units < 2 → slice_index_or units 1 0 ≡ 0
no_second [] short = refl
no_second (u ∷ []) short = refl
no_second (u ∷ v ∷ units) short = absurd (omega arith)

-- a text and the UTF-8 of units begin with one character, and so are alike where what is left is
pub both_go_on : (text rest units after front : List ℕ) → text ≡ front ++ rest → utf8_of units ≡ front ++ utf8_of after → (rest ≡ utf8_of after) ↔ (text ≡ utf8_of units)
both_go_on text rest units after front e f = (
  (λ same. e ∙ ap (λ (xs : List ℕ). front ++ xs) same ∙ sym f),
  (λ same. append_cancel_left front rest (utf8_of after) (sym e ∙ same ∙ f)),
)
