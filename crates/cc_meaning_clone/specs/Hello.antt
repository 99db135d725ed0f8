-- What a clone makes of a Hello: a version, the name of the main class, a file and a script, each of these three with its length before it.
use Rattle.std.specs.Prelude.{◌≡◌, ◌⊎◌, ℕ, List, [], ◌∷◌, ◌++◌, ◌<◌, ◌^◌, length, codes, Result, Ok, Err}
use Rattle.std.specs.Int.{w32, to_be_bytes}
use Rattle.std.specs.Str.{IsUtf8}
use Rattle.cc_meaning_run.specs.Local.{utf8_of}
use Rattle.cc_meaning_nodes.specs.Clone.{version}
use Rattle.cc_meaning_plain.specs.declared.plain.Plain.{Plain}
use Rattle.cc_meaning_plain.specs.Plain.{IsPlain}
use Rattle.cc_meaning_plain.specs.Laws.{PlainOnce}

-- a text of bytes with its length in four bytes before it
abbrev pub with_length : List ℕ → List ℕ
with_length bytes = to_be_bytes w32 (length bytes) ++ bytes

-- the bytes begin with this text and its length, and this is behind it
pub record BeginsWith (bytes text rest : List ℕ) : Type 0 where
  pub spelled : bytes ≡ with_length text ++ rest
  pub is_short : length text < 2 ^ 32

-- the payload of a Hello: the main class is a text in UTF-8, empty where none is named, and nothing stands behind the script
pub record SpellsHello (payload main file script : List ℕ) : Type 0 where
  pub spelled : payload ≡ version ∷ with_length main ++ (with_length file ++ with_length script)
  pub main_is_short : length main < 2 ^ 32
  pub file_is_short : length file < 2 ^ 32
  pub script_is_short : length script < 2 ^ 32
  pub main_is_text : IsUtf8 main

-- the one script of plain files, which has no classes
abbrev pub no_script : List ℕ
no_script = codes "{\"classes\":[]}"

-- the class that is named is the file's, or none is named
abbrev pub NamesMain : List ℕ → Plain → Type 0
NamesMain main plain = (main ≡ []) ⊎ (main ≡ utf8_of plain.class)

-- a Hello with this plain file
pub record IsHelloOf (payload : List ℕ) (plain : Plain) : Type 0 where
  pub main : List ℕ
  pub file : List ℕ
  pub script : List ℕ
  pub spells : SpellsHello payload main file script
  pub is_plain : IsPlain file plain
  pub names_main : NamesMain main plain
  pub no_classes : script ≡ no_script

abbrev pub IsHello : List ℕ → Type 0
IsHello payload = (main file script : List ℕ) × SpellsHello payload main file script

-- a Hello is accepted with its plain file; it is refused with 64 where it is malformed or of another version, and with 80 where it is of another form
pub data IsJudged (payload : List ℕ) : Result Plain ℕ → Type 0 where
  accepted : (plain : Plain) → IsHelloOf payload plain → IsJudged payload (Ok plain)
  malformed : (IsHello payload → ⊥) → IsJudged payload (Err 64)
  of_another_form : IsHello payload → ((plain : Plain) → IsHelloOf payload plain → ⊥) → IsJudged payload (Err 80)

-- ---- laws

-- bytes begin with one text at most
abbrev pub TextOnce : Type 0
TextOnce = (bytes text rest other_text other_rest : List ℕ) → BeginsWith bytes text rest → BeginsWith bytes other_text other_rest →
    (text ≡ other_text) × (rest ≡ other_rest)

-- a payload is a Hello in one way at most
abbrev pub HelloOnce : Type 0
HelloOnce = (payload main file script other_main other_file other_script : List ℕ) →
    SpellsHello payload main file script → SpellsHello payload other_main other_file other_script →
    (main ≡ other_main) × (file ≡ other_file) × (script ≡ other_script)

-- a Hello that is refused is refused with one status, and accepted with no file
abbrev pub RefusedOnce : Type 0
RefusedOnce = (payload : List ℕ) (status : ℕ) (other : Result Plain ℕ) → IsJudged payload (Err status) → IsJudged payload other → other ≡ Err status

-- where a file is plain in one way at most, there is one verdict on a Hello at most
abbrev pub JudgedOnce : Type 0
JudgedOnce = PlainOnce → (payload : List ℕ) (first second : Result Plain ℕ) → IsJudged payload first → IsJudged payload second → first ≡ second
