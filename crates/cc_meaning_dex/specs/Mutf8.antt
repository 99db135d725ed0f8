-- Texts in MUTF-8, as the Dalvik Executable format has them: each unit of 16 bits in a form of one to three bytes, and a zero byte at the end.
use Rattle.std.specs.Prelude.{◌≡◌, ◌≢◌, ℕ, zero, suc, ◌+◌, ◌-◌, ◌*◌, ◌/◌, ◌%◌, ◌<◌, Bool, ◌&&◌, ◌||◌, if◌then◌else◌, nat_lt, nat_le, ◌==◌, List, [], ◌∷◌, ◌++◌, length, drop, All, Option, Some, None, Result, Ok, Err}
use Rattle.cc_meaning.specs.declared.fault.TextFault.{TextFault}
use Rattle.cc_meaning.specs.declared.fault.TextFault.TheVariants.{CutOff, BadForm, BadCount}
use Rattle.cc_meaning_dex.specs.Numbers.{Stands}

abbrev pub two_bytes : ℕ → List ℕ
two_bytes u = (192 + u / 64) ∷ (128 + u % 64) ∷ []

abbrev pub three_bytes : ℕ → List ℕ
three_bytes u = (224 + u / 4096) ∷ (128 + u / 64 % 64) ∷ (128 + u % 64) ∷ []

-- the form of a unit: 0001 to 007f in one byte, 0000 and 0080 to 07ff in two, all others in three
unfoldable pub unit_form : ℕ → List ℕ
unit_form u = if u == 0 then two_bytes u else if nat_lt u 128 then u ∷ [] else if nat_lt u 2048 then two_bytes u else three_bytes u

-- the forms of the units, one after the other
unfoldable pub mutf8_bytes : List ℕ → List ℕ
mutf8_bytes [] = []
mutf8_bytes (u ∷ us) = unit_form u ++ mutf8_bytes us

-- the bytes from `at` to before `next` spell these units of 16 bits: their forms and a zero byte
pub record SpellsMutf8 (bytes : List ℕ) (at : ℕ) (units : List ℕ) (next : ℕ) : Type 0 where
  pub small : All (λ u. u < 65536) units
  pub stands : Stands bytes at (mutf8_bytes units ++ 0 ∷ [])
  pub end : next ≡ at + length (mutf8_bytes units) + 1

-- the forms of these units of 16 bits stand from `at` to before `place`
pub record FormsStand (bytes : List ℕ) (at : ℕ) (units : List ℕ) (place : ℕ) : Type 0 where
  pub small : All (λ u. u < 65536) units
  pub stands : Stands bytes at (mutf8_bytes units)
  pub end : place ≡ at + length (mutf8_bytes units)

-- these bytes are all that stands of a form: at least one more byte belongs to it
pub record IsCut (bytes : List ℕ) : Type 0 where
  pub unit : ℕ
  pub next : ℕ
  pub others : List ℕ
  pub small : unit < 65536
  pub form : unit_form unit ≡ bytes ++ next ∷ others

-- no form stands in front of these bytes, whole or cut, and no zero byte
pub record IsNoForm (bytes : List ℕ) : Type 0 where
  pub whole : (u : ℕ) (rest : List ℕ) → u < 65536 → bytes ≢ unit_form u ++ rest
  pub cut : ¬ IsCut bytes
  pub end : (rest : List ℕ) → bytes ≢ 0 ∷ rest

-- What stands in front: the zero byte, or a unit and how many bytes its form takes.
abbrev pub Front : Type 0
Front = Option (ℕ × ℕ)

-- a byte that isn't the first of its form
abbrev pub goes_on : ℕ → Bool
goes_on b = nat_le 128 b && nat_lt b 192

-- a form of two bytes, by its first byte and what follows it. The form would spell 0000 or 0080 to 07ff: no form begins with 193
unfoldable pub front_of_two : ℕ → ℕ → List ℕ → Result Front TextFault
front_of_two at a [] = if a == 193 then Err (BadForm at) else Err CutOff
front_of_two at a (b ∷ bs) =
    let u = (a - 192) * 64 + (b - 128) in
    if goes_on b && (u == 0 || nat_le 128 u) then Ok (Some (u, 2)) else Err (BadForm at)

-- the first two bytes of a form of three, which spells 0800 or more
abbrev pub begins_three : ℕ → ℕ → Bool
begins_three a b = goes_on b && nat_le 32 ((a - 224) * 64 + (b - 128))

-- a form of three bytes, by its first byte and what follows it
unfoldable pub front_of_three : ℕ → ℕ → List ℕ → Result Front TextFault
front_of_three at a [] = Err CutOff
front_of_three at a (b ∷ []) = if begins_three a b then Err CutOff else Err (BadForm at)
front_of_three at a (b ∷ c ∷ cs) =
    if begins_three a b && goes_on c then Ok (Some ((a - 224) * 4096 + (b - 128) * 64 + (c - 128), 3)) else Err (BadForm at)

-- what stands in front of these bytes, which begin at `at`
unfoldable pub front_of : ℕ → List ℕ → Result Front TextFault
front_of at [] = Err CutOff
front_of at (a ∷ bs) =
    if a == 0 then Ok None
    else if nat_lt a 128 then Ok (Some (a, 1))
    else if nat_lt a 192 then Err (BadForm at)
    else if nat_lt a 224 then front_of_two at a bs
    else if nat_lt a 240 then front_of_three at a bs
    else Err (BadForm at)

-- a text behind a unit
abbrev pub behind_unit : ℕ → Result (List ℕ × ℕ) TextFault → Result (List ℕ × ℕ) TextFault
behind_unit u (Ok text) = Ok (u ∷ text.0, text.1)
behind_unit u (Err fault) = Err fault

-- the text in front of these bytes, which begin at `at`, and the place after it, by at most `steps` forms
unfoldable pub text_within : ℕ → ℕ → List ℕ → Result (List ℕ × ℕ) TextFault
text_within zero at bytes = Err CutOff
text_within (suc steps) at bytes =
    elim (front_of at bytes) [
      | Err fault ↦ Err fault
      | Ok front ↦ elim front [
        | None ↦ Ok ([], at + 1)
        | Some form ↦ behind_unit form.0 (text_within steps (at + form.1) (drop form.1 bytes))
      ]
    ]

-- the same of any number of forms, since each takes a byte
unfoldable pub text_of : ℕ → List ℕ → Result (List ℕ × ℕ) TextFault
text_of at bytes = text_within (suc (length bytes)) at bytes

unfoldable pub counted : ℕ → Result (List ℕ × ℕ) TextFault → Result (List ℕ × ℕ) TextFault
counted count (Err fault) = Err fault
counted count (Ok text) = if length text.0 == count then Ok text else Err BadCount

-- the text of that many units at `at`, and the place after it. Faults go from left to right: `BadForm` at the first byte of what is no form,
-- `CutOff` where all is well formed up to the end of the bytes, `BadCount` where the text is well formed and has another number of units
unfoldable pub mutf8_at : List ℕ → ℕ → ℕ → Result (List ℕ × ℕ) TextFault
mutf8_at bytes at count = counted count (text_of at (drop at bytes))
