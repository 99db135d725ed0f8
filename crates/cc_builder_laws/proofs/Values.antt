-- A value of a field's kind is spelled where it is written.
use Rattle.std.proofs.Common.{◌≡◌, ◌⊎◌, inl, inr, ℕ, ◌+◌, ◌/◌, ◌%◌, ◌^◌, ◌<◌, ◌≤◌, ℤ, pos, negsuc, Bool, true, false, cond, List, [], ◌∷◌, length, Some, refl, sym, ap, subst, ◌∙◌, arith}
use Rattle.std.proofs.lemmas.Bool.Decides.{nat_tests}
use Rattle.cc_meaning.specs.declared.file.Ids.{Ids}
use Rattle.cc_meaning.specs.declared.program.StaticValue.{StaticValue}
use Rattle.cc_meaning.specs.declared.program.StaticValue.TheVariants as static
use Rattle.cc_meaning_dex.specs.Numbers.{Stands}
use Rattle.cc_meaning_dex.specs.declared.items.ValueKind.{ValueKind}
use Rattle.cc_meaning_dex.specs.declared.items.ValueKind.TheVariants as kind
use Rattle.cc_meaning_dex.specs.Values.{little_at, signed_little_at, HeadStands, NumberStands, SignedStands, SpellsValue}
use Rattle.cc_meaning_builder.specs.Built.{SuitsKind}
use Rattle.cc_meaning_builder.specs.Forms.{little_form, signed_form, is_unit, is_within, value_form}
use Rattle.cc_meaning_builder.specs.Laws.{StandsApart}
use Rattle.cc_meaning_builder.specs.Written.{IsSmallValue}
use Rattle.cc_builder_laws.specs.Standing.{StandsWithin}
use Rattle.cc_builder_laws.proofs.ValueNumbers.{byte_there, byte_within, little_length, little_written, extended, is_inside, remainder, remainder_of_pos, remainder_below, sign_kept}

-- ---- first bytes, and numbers behind them

head_written : StandsWithin → (file : List ℕ) (at b : ℕ) → Stands file at (b ∷ []) → HeadStands file at (b % 32) (b / 32)
head_written within file at b stands =
    let there = byte_there file at b stands in
    record { within = byte_within within file at b stands; lower = ap (λ n. n % 32) there; upper = ap (λ n. n / 32) there }

number_written : StandsApart → StandsWithin → (file : List ℕ) (at b most argument n : ℕ) → b / 32 ≡ argument → argument + 1 ≤ most → Stands file at (b ∷ little_form (argument + 1) n) →
    NumberStands file at (b % 32) most argument (at + length (b ∷ little_form (argument + 1) n))
number_written apart within file at b most argument n is few stands =
    let parts = apart file at (b ∷ []) (little_form (argument + 1) n) stands in
    let wide = little_length (argument + 1) n in
    record {
      head = subst (λ k. HeadStands file at (b % 32) k) is (head_written within file at b parts.0);
      few = few;
      within = omega (arith, wide, within file at (b ∷ little_form (argument + 1) n) stands (λ none. absurd cc));
      end = omega (arith, wide);
    }

number_read : StandsApart → (file : List ℕ) (at b size n : ℕ) → n < 256 ^ size → Stands file at (b ∷ little_form size n) → little_at file (at + 1) size ≡ n
number_read apart file at b size n small stands = little_written apart file (at + 1) size n small (apart file at (b ∷ []) (little_form size n) stands).1

-- with a sign
signed_written : StandsApart → StandsWithin → (file : List ℕ) (at b most argument half full : ℕ) (n : ℤ) → b / 32 ≡ argument → argument + 1 ≤ most → full ≡ 256 ^ (argument + 1) → half + half ≡ full →
    is_inside half n ≡ true → Stands file at (b ∷ little_form (argument + 1) (remainder full n)) →
    NumberStands file at (b % 32) most argument (at + length (b ∷ little_form (argument + 1) (remainder full n))) × (extended half full (little_at file (at + 1) (argument + 1)) ≡ n)
signed_written apart within file at b most argument half full n is few wide twice test stands =
    let below = subst (λ k. remainder full n < k) wide (remainder_below half full n twice test) in
    let value = number_read apart file at b (argument + 1) (remainder full n) below stands in
    (number_written apart within file at b most argument (remainder full n) is few stands, ap (extended half full) value ∙ sign_kept half full n twice test)

-- ---- values by their kinds

abbrev Spelled : List ℕ → Ids → ValueKind → ℕ → StaticValue → List ℕ → Type 0
Spelled file ids kind at value form = SpellsValue file (length ids.texts) kind at value (at + length form)

boolean_written : StandsWithin → (file : List ℕ) (ids : Ids) (at : ℕ) (n : ℤ) → (n ≡ pos 0) ⊎ (n ≡ pos 1) → Stands file at (value_form (Some kind.Boolean) (static.Int n)) →
    Spelled file ids kind.Boolean at (static.Int n) (value_form (Some kind.Boolean) (static.Int n))
unfolding value_form
boolean_written within file ids at n (inl is) stands =
    subst (λ m. Stands file at (value_form (Some kind.Boolean) (static.Int m)) → Spelled file ids kind.Boolean at (static.Int m) (value_form (Some kind.Boolean) (static.Int m))) (sym is)
    (λ there. (0, head_written within file at 31 there, omega arith, refl, refl)) stands
boolean_written within file ids at n (inr is) stands =
    subst (λ m. Stands file at (value_form (Some kind.Boolean) (static.Int m)) → Spelled file ids kind.Boolean at (static.Int m) (value_form (Some kind.Boolean) (static.Int m))) (sym is)
    (λ there. (1, head_written within file at 63 there, omega arith, refl, refl)) stands

-- a value of either of two forms is that of the first where the test holds
chosen : (file : List ℕ) (at : ℕ) (holds : List ℕ → Type 0) (test : Bool) (this that : List ℕ) → test ≡ true → (Stands file at this → holds this) → Stands file at (cond test this that) → holds (cond test this that)
chosen file at holds true this that is written stands = written stands
chosen file at holds false this that is written stands = absurd cc

byte_written : StandsApart → StandsWithin → (file : List ℕ) (at : ℕ) (n : ℤ) → is_within 7 n ≡ true → Stands file at (0 ∷ signed_form 1 n) → SignedStands file 0 1 at (static.Int n) (at + length (0 ∷ signed_form 1 n))
byte_written apart within file at n test stands =
    let both = signed_written apart within file at 0 1 0 128 256 n refl (omega arith) refl refl test stands in
    (0, both.0, sym (ap static.Int both.1))

short_written : StandsApart → StandsWithin → (file : List ℕ) (at : ℕ) (n : ℤ) → is_within 15 n ≡ true → Stands file at (34 ∷ signed_form 2 n) → SignedStands file 2 2 at (static.Int n) (at + length (34 ∷ signed_form 2 n))
short_written apart within file at n test stands =
    let both = signed_written apart within file at 34 2 1 32768 65536 n refl (omega arith) refl refl test stands in
    (1, both.0, sym (ap static.Int both.1))

int_written : StandsApart → StandsWithin → (file : List ℕ) (at : ℕ) (n : ℤ) → is_within 31 n ≡ true → Stands file at (100 ∷ signed_form 4 n) → SignedStands file 4 4 at (static.Int n) (at + length (100 ∷ signed_form 4 n))
int_written apart within file at n test stands =
    let both = signed_written apart within file at 100 4 3 2147483648 4294967296 n refl (omega arith) refl refl test stands in
    (3, both.0, sym (ap static.Int both.1))

long_written : StandsApart → StandsWithin → (file : List ℕ) (at : ℕ) (n : ℤ) → is_within 63 n ≡ true → Stands file at (230 ∷ signed_form 8 n) →
    (argument : ℕ) × NumberStands file at 6 8 argument (at + length (230 ∷ signed_form 8 n)) × (static.Long n ≡ static.Long (signed_little_at file (at + 1) (argument + 1)))
long_written apart within file at n test stands =
    let both = signed_written apart within file at 230 8 7 9223372036854775808 18446744073709551616 n refl (omega arith) refl refl test stands in
    (7, both.0, sym (ap static.Long both.1))

char_written : StandsApart → StandsWithin → (file : List ℕ) (at : ℕ) (n : ℤ) → is_unit n ≡ true → Stands file at (35 ∷ signed_form 2 n) →
    (argument : ℕ) × NumberStands file at 3 2 argument (at + length (35 ∷ signed_form 2 n)) × (static.Int n ≡ static.Int (pos (little_at file (at + 1) (argument + 1))))
char_written apart within file at (pos k) test stands =
    let same = remainder_of_pos 65536 k in
    let small : k < 65536 = grind (arith, nat_tests) in
    let value = number_read apart file at 35 2 (remainder 65536 (pos k)) (omega (arith, same, small)) stands in
    (1, number_written apart within file at 35 2 1 (remainder 65536 (pos k)) refl (omega arith) stands, sym (ap (λ m. static.Int (pos m)) (value ∙ same)))
char_written apart within file at (negsuc k) test stands = absurd cc

text_written : StandsApart → StandsWithin → (file : List ℕ) (texts at row : ℕ) → row < texts → row < 2 ^ 32 → Stands file at (119 ∷ little_form 4 row) →
    (argument : ℕ) × NumberStands file at 23 4 argument (at + length (119 ∷ little_form 4 row)) × (little_at file (at + 1) (argument + 1) < texts) × (static.Text row ≡ static.Text (little_at file (at + 1) (argument + 1)))
text_written apart within file texts at row there small stands =
    let value : little_at file (at + 1) 4 ≡ row = number_read apart file at 119 4 row small stands in
    (3, number_written apart within file at 119 4 3 row refl (omega arith) stands, subst (λ k. k < texts) (sym value) there, sym (ap static.Text value))

pub value_written : StandsApart → StandsWithin → (file : List ℕ) (ids : Ids) (kind : ValueKind) (at : ℕ) (value : StaticValue) → SuitsKind ids (Some kind) value → IsSmallValue value →
    Stands file at (value_form (Some kind) value) → Spelled file ids kind at value (value_form (Some kind) value)
unfolding value_form
value_written apart within file ids kind.Boolean at (static.Int n) suits small stands = boolean_written within file ids at n suits stands
value_written apart within file ids kind.Byte at (static.Int n) suits small stands =
    chosen file at (Spelled file ids kind.Byte at (static.Int n)) (is_within 7 n) (0 ∷ signed_form 1 n) (100 ∷ signed_form 4 n) suits (byte_written apart within file at n suits) stands
value_written apart within file ids kind.Short at (static.Int n) suits small stands =
    chosen file at (Spelled file ids kind.Short at (static.Int n)) (is_within 15 n) (34 ∷ signed_form 2 n) (100 ∷ signed_form 4 n) suits (short_written apart within file at n suits) stands
value_written apart within file ids kind.Char at (static.Int n) suits small stands =
    chosen file at (Spelled file ids kind.Char at (static.Int n)) (is_unit n) (35 ∷ signed_form 2 n) (100 ∷ signed_form 4 n) suits (char_written apart within file at n suits) stands
value_written apart within file ids kind.Int at (static.Int n) suits small stands = int_written apart within file at n suits stands
value_written apart within file ids kind.Long at (static.Long n) suits small stands = long_written apart within file at n suits stands
value_written apart within file ids kind.Text at (static.Text row) suits small stands = inr (text_written apart within file (length ids.texts) at row suits small stands)
value_written apart within file ids kind.Text at static.Null suits small stands = inl (head_written within file at 30 stands, refl, refl)
value_written apart within file ids kind.Reference at static.Null suits small stands = (head_written within file at 30 stands, refl, refl)
value_written apart within file ids kind at value suits small stands = absurd suits
