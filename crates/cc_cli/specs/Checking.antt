-- The words that call for `check`, and what its call is told of the outside.
use Rattle.std.specs.Prelude.{ℕ, Bool, false, List, [], ◌∷◌, codes}
use Rattle.std.specs.Str.{bytes_eq}
use Rattle.cc_command_check.specs.Checks as checks
use Rattle.cc_cli.specs.Runs.{Outside}

-- the first word is `check`
abbrev pub is_check : List (List ℕ) → Bool
is_check [] = false
is_check (command ∷ words) = bytes_eq command (codes "check")

-- all of the outside but the link
abbrev pub without_link : Outside → checks.Outside
without_link o = record { known = o.known; counts = o.counts; out = o.out; notes = o.notes }

-- what `check` says; the link is left alone
abbrev pub ChecksAlone : List (List ℕ) → Outside → ℕ → Outside → (uncalled untouched : Type 0) → Type 0
ChecksAlone words old status new uncalled untouched = checks.Checks words (without_link old) status (without_link new) uncalled × untouched
