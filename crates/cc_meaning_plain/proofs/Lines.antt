-- What a print tells, in the output of a run.
use Rattle.std.proofs.Common.{◌≡◌, ℕ, zero, suc, ◌^◌, ◌<◌, ◌≤◌, ℤ, false, List, [], ◌∷◌, ◌++◌, length, Some, refl, sym, ap, ◌∙◌, arith, nat_le, map, unwrap_or, encode_utf8_all}
use Rattle.std.specs.Fmt.{signed_decimal}
use Rattle.std.specs.Char.Utf16.{utf16_chars}
use Rattle.std.specs.Str.{IsAscii}
use Rattle.std.specs.Int.Signed.{mag}
use Rattle.std.proofs.lemmas.List.{append-nil, append_assoc, length-append}
use Rattle.std.proofs.lemmas.Fmt.{length_signed_le, IsAscii-signed}
use Rattle.std.proofs.lemmas.Str.{encodes-IsAscii, IsAscii-append}
use Rattle.std.proofs.lemmas.Bool.Decides.{nat_tests}
use Rattle.cc_meaning.specs.declared.report.Event.{Event}
use Rattle.cc_meaning.specs.declared.report.Event.TheVariants as event
use Rattle.cc_meaning_run.specs.Instructions.{line_of}
use Rattle.cc_meaning_run.specs.Local.{utf8_of, output_of, calls_of}
use Rattle.cc_meaning_plain.proofs.Running.{Fits32}

-- ---- a line

small : (n : ℤ) → Fits32 n → mag n < 2 ^ 31
small n f = f.sfits

-- a line has at most twelve units
pub line_is_short : (n : ℤ) → Fits32 n → length (line_of n) ≤ 12
unfolding line_of
line_is_short n f =
    let m = small n f in
    let d : length (signed_decimal n) ≤ 11 = length_signed_le 10 n (omega arith) (omega arith) in
    omega (arith, length-append (signed_decimal n) (10 ∷ []))

-- every unit is below 128
abbrev Ascii : List ℕ → Type 0
Ascii [] = Unit {0}
Ascii (u ∷ us) = (u < 128) × Ascii us

ascii_each : (us : List ℕ) → IsAscii us → Ascii us
ascii_each [] h = tt
ascii_each (u ∷ us) h = (h 0, ascii_each us (λ i. h (suc i)))

not_over : (bound u : ℕ) → u < bound → nat_le bound u ≡ false
not_over bound u h = grind (arith, nat_tests)

units_are_characters : (us : List ℕ) → Ascii us → utf16_chars us ≡ map Some us
unfolding utf16_chars
units_are_characters [] h = refl
units_are_characters (u ∷ []) h = rw (not_over 55296 u (omega (arith, h.0))) refl
units_are_characters (u ∷ v ∷ rest) h = rw (not_over 55296 u (omega (arith, h.0)), units_are_characters (v ∷ rest) h.1) refl

all_some : (us : List ℕ) → map (λ c. unwrap_or c 63) (map Some us) ≡ us
all_some [] = refl
all_some (u ∷ us) = ap (λ rest. u ∷ rest) (all_some us)

text_is_itself : (us : List ℕ) → IsAscii us → utf8_of us ≡ us
unfolding utf8_of
text_is_itself us h = ap (λ cs. encode_utf8_all (map (λ c. unwrap_or c 63) cs)) (units_are_characters us (ascii_each us h)) ∙ ap encode_utf8_all (all_some us) ∙ encodes-IsAscii us h

line_feed_is_ascii : IsAscii (10 ∷ [])
line_feed_is_ascii zero = omega arith
line_feed_is_ascii (suc i) = omega arith

pub line_is_itself : (n : ℤ) → Fits32 n → utf8_of (line_of n) ≡ line_of n
unfolding line_of
line_is_itself n f =
    let m = small n f in
    text_is_itself (signed_decimal n ++ 10 ∷ []) (IsAscii-append (signed_decimal n) (10 ∷ []) (IsAscii-signed n (omega arith)) line_feed_is_ascii)

pub output-append : (es : List Event) (units : List ℕ) → output_of (es ++ event.Print units ∷ []) ≡ output_of es ++ utf8_of units
unfolding output_of
output-append [] units = append-nil (utf8_of units)
output-append (event.Print us ∷ es) units = ap (λ l. utf8_of us ++ l) (output-append es units) ∙ sym (append_assoc (utf8_of us) (output_of es) (utf8_of units))
output-append (event.Call m args answer ∷ es) units = output-append es units

pub calls-append : (es : List Event) (units : List ℕ) → calls_of (es ++ event.Print units ∷ []) ≡ calls_of es
unfolding calls_of
calls-append [] units = refl
calls-append (event.Print us ∷ es) units = calls-append es units
calls-append (event.Call m args answer ∷ es) units = ap (λ l. event.Call m args answer ∷ l) (calls-append es units)
