-- Code that a file spells is small, since a number of 32 bits counts its units.
use Rattle.std.proofs.Common.{◌≡◌, ℕ, zero, suc, ◌+◌, ◌<◌, ◌^◌, List, [], ◌∷◌, length, get_or, Option, Some, None, subst, arith}
use Rattle.std.specs.Prelude.{slice_get}
use Rattle.cc_meaning.specs.declared.file.Ids.{Ids}
use Rattle.cc_meaning.specs.declared.file.RawCode.{RawCode}
use Rattle.cc_meaning_dex.specs.Numbers.{u16_at, u32_at}
use Rattle.cc_meaning_dex.specs.Tries.{HasCode}
use Rattle.cc_meaning_dex.specs.Classes.{EachPair, SpellsClass, SpellsSoundMethod}
use Rattle.cc_meaning_program.specs.CodeSizes.{SpelledCodeIsSmall}

word_below : (file : List ℕ) (at : ℕ) → ((place : ℕ) → get_or file place 0 < 256) → u32_at file at < 2 ^ 32
unfolding u16_at u32_at
word_below file at bytes = omega (arith, bytes at, bytes (at + 1), bytes (at + 2), bytes (at + 2 + 1))

-- what goes with an item
pair_of : {A B : Type 0} (holds : A → B → Type 0) (xs : List A) (ys : List B) → EachPair holds xs ys → (place : ℕ) (y : B) → slice_get ys place ≡ Some y → (x : A) × holds x y
pair_of holds [] [] each place y e = absurd cc
pair_of holds [] (z ∷ ys) each place y e = absurd each
pair_of holds (x ∷ xs) [] each place y e = absurd each
pair_of {A} {B} holds (x ∷ xs) (z ∷ ys) each zero y e = let same : z ≡ y = cc in (x, subst (λ (it : B). holds x it) same each.0)
pair_of holds (x ∷ xs) (z ∷ ys) each (suc place) y e = pair_of holds xs ys each.1 place y e

small_code : (file : List ℕ) (ids : Ids) (at : ℕ) (stated : Option RawCode) (code : RawCode) → ((place : ℕ) → get_or file place 0 < 256) → HasCode file ids at stated → stated ≡ Some code → length code.units < 2 ^ 32
small_code file ids at None code bytes has e = absurd cc
small_code file ids at (Some other) code bytes has e =
    let same : other ≡ code = cc in
    let all = has.1.units.all in
    let below = word_below file (at + 12) bytes in
    subst (λ (it : RawCode). length it.units < 2 ^ 32) same (omega (arith, all, below))

pub spelled_code_is_small : SpelledCodeIsSmall
spelled_code_is_small file ids classes bytes spells number class there place method found code stands =
    let of_class = pair_of (SpellsClass file ids) ids.classes classes spells number class there in
    let of_method = pair_of (SpellsSoundMethod file ids) of_class.1.members.methods class.methods of_class.1.methods place method found in
    small_code file ids of_method.0.code_at method.code code bytes of_method.1.spelled.code stands
