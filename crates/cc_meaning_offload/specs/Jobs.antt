-- What a Hello asks of a clone, and the verdict on it.
use Rattle.std.specs.Prelude.{◌≡◌, ◌<◌, ◌^◌, ℕ, List, [], ◌∷◌, ◌++◌, length, replicate, Option, Some, None, Result, Ok, Err}
use Rattle.std.specs.Int.{w32, to_be_bytes}
use Rattle.std.specs.Str.{IsUtf8}
use Rattle.serde_json.specs.Data.{Data}
use Rattle.serde_json.specs.Read.{read}
use Rattle.cc_meaning.specs.declared.program.Program.{Program}
use Rattle.cc_meaning.specs.declared.script.Script.{Script}
use Rattle.cc_meaning_program.specs.Asked.{asked_class}
use Rattle.cc_meaning_program.specs.Reading.{SpellsProgram}
use Rattle.cc_meaning_typing.specs.Faults.{FitsWidth}
use Rattle.cc_meaning_typing.specs.WellTyped.{WellTyped}
use Rattle.cc_meaning_script.specs.Script.{SaysScript}
use Rattle.cc_meaning_migration.specs.declared.image.Version.{Version}
use Rattle.cc_meaning_migration.specs.Spelling.{byte_of_version}

-- ---- jobs

-- What a clone works on: a program and its script, the version of the images, and how many answers of each class were taken.
pub record Job : Type 0 where
  pub version : Version
  pub program : Program
  pub script : Script
  pub cursors : List ℕ

-- at first no answer was taken
abbrev pub new_job : Version → Program → Script → Job
new_job v p script = record { version = v; program = p; script = script; cursors = replicate (length p.classes) 0 }

-- ---- the payload of a Hello

-- bytes with their length in four bytes before them
abbrev pub with_length : List ℕ → List ℕ
with_length bytes = to_be_bytes w32 (length bytes) ++ bytes

-- The version, the main class, the file and the script, one after the other, and nothing behind. The main class is a text in UTF-8, and empty where none is named.
pub record SpellsHello (payload : List ℕ) (v : Version) (main file script : List ℕ) : Type 0 where
  pub spelled : payload ≡ byte_of_version v ∷ with_length main ++ (with_length file ++ with_length script)
  pub main_is_short : length main < 2 ^ 32
  pub file_is_short : length file < 2 ^ 32
  pub script_is_short : length script < 2 ^ 32
  pub main_is_text : IsUtf8 main

abbrev pub IsHello : List ℕ → Type 0
IsHello payload = (v : Version) × (main : List ℕ) × (file : List ℕ) × (script : List ℕ) × SpellsHello payload v main file script

-- the main class that a Hello asks for
abbrev pub named_main : List ℕ → Option (List ℕ)
named_main [] = None
named_main (byte ∷ rest) = Some (byte ∷ rest)

-- ---- what its parts come to

-- the file spells this program with that main class
abbrev pub Gives : (main file : List ℕ) → Program → Type 0
Gives main file p = SpellsProgram file (asked_class (named_main main)) p

-- the program is well typed, and none of its methods is too wide
abbrev pub IsSound : Program → Type 0
IsSound p = WellTyped p × FitsWidth p

-- the text of a script is JSON, and says this of the program
pub record Says (p : Program) (text : List ℕ) (script : Script) : Type 0 where
  pub is_text : IsUtf8 text
  pub value : Data
  pub is_json : read text ≡ Some value
  pub says : SaysScript p value script

-- what a file, with a main class that is named or not, and the text of a script give: a program that is well typed, and its script
pub record IsRead (main file text : List ℕ) (p : Program) (script : Script) : Type 0 where
  pub given : Gives main file p
  pub sound : IsSound p
  pub scripted : Says p text script

-- ---- the verdict

-- A Hello is accepted with its job. Else it is refused, by the first of these that applies: with 64 where it is malformed or of another version, with 65 where the
-- file spells no program, with 68 where that isn't well typed or is too wide, and with 66 where the script isn't one of the program.
pub data IsJudged (payload : List ℕ) : Result Job ℕ → Type 0 where
  accepted : {v : Version} {main file text : List ℕ} {p : Program} {script : Script} → SpellsHello payload v main file text →
      IsRead main file text p script → IsJudged payload (Ok (new_job v p script))
  malformed : (IsHello payload → ⊥) → IsJudged payload (Err 64)
  no_program : {v : Version} {main file text : List ℕ} → SpellsHello payload v main file text → ((p : Program) → Gives main file p → ⊥) → IsJudged payload (Err 65)
  unsound : {v : Version} {main file text : List ℕ} {p : Program} → SpellsHello payload v main file text → Gives main file p → (IsSound p → ⊥) → IsJudged payload (Err 68)
  no_script : {v : Version} {main file text : List ℕ} {p : Program} → SpellsHello payload v main file text → Gives main file p → IsSound p →
      ((script : Script) → Says p text script → ⊥) → IsJudged payload (Err 66)
