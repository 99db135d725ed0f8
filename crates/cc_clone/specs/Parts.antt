-- The parts of a Hello.
use Rattle.std.specs.Prelude.{◌≡◌, ℕ, List}
use Rattle.cc_meaning_plain.specs.declared.plain.Plain.{Plain}
use Rattle.cc_meaning_plain.specs.Laws.{AreBytes}
use Rattle.cc_meaning_plain.specs.Plain.{IsPlain}
use Rattle.cc_meaning_clone.specs.Hello.{NamesMain, no_script}

-- a plain file, its class or none, and no classes
pub record FitsHello (main file script : List ℕ) (plain : Plain) : Type 0 where
  pub is_plain : IsPlain file plain
  pub names_main : NamesMain main plain
  pub no_classes : script ≡ no_script

-- some bytes are this plain file
abbrev pub IsOfFile : Plain → Type 0
IsOfFile plain = (file : List ℕ) × AreBytes file × IsPlain file plain
