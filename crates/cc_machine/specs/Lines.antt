-- What printing a line does.
use Rattle.std.specs.Prelude.{◌≡◌, ℕ, ◌+◌, ◌<◌, List, ◌++◌, length}
use Rattle.cc_machine.specs.declared.progress.Progress.{Progress}

-- a line was printed, and its words were taken
pub record Printed (old : Progress) (line : List ℕ) (new : Progress) : Type 0 where
  pub words : old.words ≡ 2 + length line + new.words
  pub text : new.text ≡ old.text ++ line
  pub others : new ≡ record old { text = new.text; words = new.words }

-- too few words are left for a line, and nothing was done
pub record TooFewWords (old : Progress) (line : List ℕ) (new : Progress) : Type 0 where
  pub few : old.words < 2 + length line
  pub same : new ≡ old
