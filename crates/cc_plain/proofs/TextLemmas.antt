-- Which numbers and names a text item spells.
use Rattle.std.proofs.Common.{◌≡◌, ◌≢◌, ◌↔◌, ℕ, ◌+◌, ◌<◌, Bool, true, false, ◌&&◌, ◌==◌, nat_lt, List, [], ◌∷◌, ◌++◌, length, Option, Some, None, Result, MatchOption, IfOk, All, IsTrue, codes, refl, sym, subst, arith}
use Rattle.std.specs.List.{list_all}
use Rattle.std.proofs.lemmas.Bool.Decides.{nat_tests}
use Rattle.std.proofs.lemmas.List.Elements.{All-nil, All-cons}
use Rattle.std.specs.declared.alloc.AllocError.{AllocError}
use Rattle.std.proofs.lemmas.Result.{IfOk-weaker}
use Rattle.cc_meaning_dex.specs.Numbers.{u16_at, u32_at, Stands}
use Rattle.cc_meaning_dex.specs.Leb128.{SpellsUleb}
use Rattle.cc_meaning_dex.specs.Mutf8.{unit_form, mutf8_bytes}
use Rattle.cc_meaning_dex.specs.Texts.{SpellsText}
use Rattle.cc_meaning_dex.specs.TextLaws.{OneUleb}
use Rattle.cc_meaning_plain.specs.declared.table.Table.TheVariants.{Texts, Types, Methods}
use Rattle.cc_meaning_plain.specs.Tables.{row_at, IsRow}
use Rattle.cc_meaning_plain.specs.Names.{TextRow, TypeRow, PrototypeRow, IsFunction}
use Rattle.cc_meaning_plain.specs.Laws.{TypeOnce}
use Rattle.cc_plain.specs.Ascii.{is_ascii_unit, IsAsciiName}

both_true : (a b : Bool) → (a && b) ≡ true → (a ≡ true) × (b ≡ true)
both_true true b e = (refl, e)
both_true false b e = absurd (cc)

ascii_unit : (u : ℕ) → is_ascii_unit u ≡ true → (0 < u) × (u < 128)
ascii_unit u h = let both = both_true (nat_lt 0 u) (nat_lt u 128) h in (grind (arith, nat_tests), grind (arith, nat_tests))

unit_form-ascii : (u : ℕ) → 0 < u → u < 128 → unit_form u ≡ u ∷ []
unfolding unit_form
unit_form-ascii u some few =
    let none : (u == 0) ≡ false = grind (arith, nat_tests) in
    let small : nat_lt u 128 ≡ true = grind (arith, nat_tests) in
    rw (none, small)

-- the forms of a name of ASCII are its bytes
pub mutf8_bytes-ascii : (name : List ℕ) → IsAsciiName name → mutf8_bytes name ≡ name
unfolding mutf8_bytes
mutf8_bytes-ascii [] h = refl
mutf8_bytes-ascii (u ∷ us) h =
    let both = both_true (is_ascii_unit u) (list_all is_ascii_unit us) h in
    let unit = ascii_unit u both.0 in
    rw (unit_form-ascii u unit.0 unit.1, mutf8_bytes-ascii us both.1)

pub small_units : (name : List ℕ) → IsAsciiName name → All (λ u. u < 65536) name
small_units [] h = All-nil (λ u. u < 65536)
small_units (u ∷ us) h =
    let both = both_true (is_ascii_unit u) (list_all is_ascii_unit us) h in
    let unit = ascii_unit u both.0 in
    All-cons (λ u. u < 65536) u us (omega arith) (small_units us both.1)

-- nothing spells a text where no number stands
pub no_text : (file : List ℕ) (at : ℕ) (units : List ℕ) → ((n next : ℕ) → SpellsUleb file at n next → ⊥) → SpellsText file at units → ⊥
no_text file at units none text = none (length units) text.place text.count

pub other_count : OneUleb → (file : List ℕ) (at n next : ℕ) (units : List ℕ) → SpellsUleb file at n next → n ≢ length units → SpellsText file at units → ⊥
other_count one file at n next units number other text =
    other (one file at n (length units) next text.place number text.count).0

-- the text of a name is its count, its bytes and a zero byte
pub text_from_bytes : (file : List ℕ) (at place : ℕ) (name : List ℕ) → IsAsciiName name → SpellsUleb file at (length name) place → Stands file place (name ++ 0 ∷ []) → SpellsText file at name
text_from_bytes file at place name ascii number stands =
    record {
      place = place;
      next = place + length (mutf8_bytes name) + 1;
      count = number;
      text = record {
        small = small_units name ascii;
        stands = subst (λ bytes. Stands file place (bytes ++ 0 ∷ [])) (sym (mutf8_bytes-ascii name ascii)) stands;
        end = refl;
      };
    }

pub bytes_from_text : OneUleb → (file : List ℕ) (at n place : ℕ) (name : List ℕ) → IsAsciiName name → SpellsUleb file at n place → SpellsText file at name → Stands file place (name ++ 0 ∷ [])
bytes_from_text one file at n place name ascii number text =
    let same = one file at n (length name) place text.place number text.count in
    let stands = subst (λ bytes. Stands file text.place (bytes ++ 0 ∷ [])) (mutf8_bytes-ascii name ascii) text.text.stands in
    subst (λ p. Stands file p (name ++ 0 ∷ [])) (sym same.1) stands

-- ---- texts of any units

-- a text is there just where one is spelled, or it is told that there is none
abbrev pub Reads : (List ℕ → Type 0) → Option (List ℕ) → Type 0
Reads P read = MatchOption read ((units : List ℕ) → P units → ⊥) (λ units. P units)

reads_like : (P Q : List ℕ → Type 0) → ((units : List ℕ) → P units → Q units) → ((units : List ℕ) → Q units → P units) → (read : Option (List ℕ)) → Reads P read → Reads Q read
reads_like P Q to from None none = λ units q. none units (from units q)
reads_like P Q to from (Some units) p = to units p

pub text_row_read : (file : List ℕ) (row : ℕ) (r : Result (Option (List ℕ)) AllocError) → IsRow file Texts row →
    IfOk r (Reads (SpellsText file (u32_at file (row_at file Texts row)))) → IfOk r (Reads (TextRow file row))
text_row_read file row r stands read =
    IfOk-weaker r (Reads (SpellsText file (u32_at file (row_at file Texts row)))) (Reads (TextRow file row))
    (λ found. reads_like (SpellsText file (u32_at file (row_at file Texts row))) (TextRow file row)
    (λ units text. record { row_stands = stands; text = text }) (λ units row. row.text) found) read

pub type_row_read : (file : List ℕ) (row : ℕ) (r : Result (Option (List ℕ)) AllocError) → IsRow file Types row →
    IfOk r (Reads (TextRow file (u32_at file (row_at file Types row)))) → IfOk r (Reads (TypeRow file row))
type_row_read file row r stands read =
    IfOk-weaker r (Reads (TextRow file (u32_at file (row_at file Types row)))) (Reads (TypeRow file row))
    (λ found. reads_like (TextRow file (u32_at file (row_at file Types row))) (TypeRow file row)
    (λ units descriptor. record { row_stands = stands; descriptor = descriptor }) (λ units row. row.descriptor) found) read

-- a row of types has this descriptor just if it is the one that it was read to have
pub named_is : TypeOnce → (file : List ℕ) (row : ℕ) (found name : List ℕ) (is : Bool) → TypeRow file row found → IsTrue is ↔ (found ≡ name) → IsTrue is ↔ TypeRow file row name
named_is one file row found name is type same =
    (λ e. subst (λ units. TypeRow file row units) (same.0 e) type, λ other. same.1 (one file row found name type other))

-- ---- a function's name

pub function_read : (file class : List ℕ) (row : ℕ) (r : Result (Option (List ℕ)) AllocError) → IsRow file Methods row → TypeRow file (u16_at file (row_at file Methods row)) class →
    PrototypeRow file (u16_at file (row_at file Methods row + 2)) (codes "I") (codes "I") →
    IfOk r (λ read. MatchOption read ((units : List ℕ) → TextRow file (u32_at file (row_at file Methods row + 4)) units → ⊥)
    (λ typed. (units : List ℕ) × TextRow file (u32_at file (row_at file Methods row + 4)) units × (typed ≡ units ++ codes "(I)I"))) →
    IfOk r (Reads (IsFunction file class row))
function_read file class row r stands belongs prototype read = IfOk-weaker r _ (Reads (IsFunction file class row)) from read
  where
    from : (read : Option (List ℕ)) → MatchOption read ((units : List ℕ) → TextRow file (u32_at file (row_at file Methods row + 4)) units → ⊥)
        (λ typed. (units : List ℕ) × TextRow file (u32_at file (row_at file Methods row + 4)) units × (typed ≡ units ++ codes "(I)I")) → Reads (IsFunction file class row) read
    from None none = λ name is. none is.bare is.method.called
    from (Some typed) h =
        record {
          bare = h.0;
          method = record { row_stands = stands; belongs = belongs; prototype = prototype; called = h.1 };
          whole = h.2;
        }
