-- Text items, `string_data_item` of the Dalvik Executable format: a count of units in ULEB128, and the text in MUTF-8 with its zero byte.
use Rattle.std.specs.Prelude.{ℕ, List, length, Option, Some, None, Result, Ok, Err}
use Rattle.cc_meaning.specs.declared.fault.LebFault.{LebFault}
use Rattle.cc_meaning.specs.declared.fault.TextFault.{TextFault}
use Rattle.cc_meaning.specs.declared.fault.LebFault.TheVariants as leb
use Rattle.cc_meaning.specs.declared.fault.TextFault.TheVariants as fault
use Rattle.cc_meaning_dex.specs.Leb128.{SpellsUleb, uleb_at}
use Rattle.cc_meaning_dex.specs.Mutf8.{SpellsMutf8, mutf8_at}

-- at `at` stands the item of a text of these units; `place` is where its MUTF-8 begins, and `next` is the place after the item
pub record SpellsText (file : List ℕ) (at : ℕ) (units : List ℕ) : Type 0 where
  pub place : ℕ
  pub next : ℕ
  pub count : SpellsUleb file at (length units) place
  pub text : SpellsMutf8 file place units next

-- a text whose count is faulty: it is cut off with its count, and a count that is too big is no count
abbrev pub text_counted : List ℕ → Result (ℕ × ℕ) LebFault → Result (List ℕ × ℕ) TextFault
text_counted file (Ok count) = mutf8_at file count.1 count.0
text_counted file (Err leb.CutOff) = Err fault.CutOff
text_counted file (Err leb.TooBig) = Err fault.BadCount

-- the text item at `at`, and the place after it. `CutOff`: it is well formed up to the end of the file
unfoldable pub text_item_at : List ℕ → ℕ → Result (List ℕ × ℕ) TextFault
text_item_at file at = text_counted file (uleb_at file at)

abbrev pub units_of : Result (List ℕ × ℕ) TextFault → Option (List ℕ)
units_of (Ok text) = Some text.0
units_of (Err reason) = None

-- the units of the text item at `at`, where there is one
unfoldable pub text_at : List ℕ → ℕ → Option (List ℕ)
text_at file at = units_of (text_item_at file at)
