-- What is shown of a command where it is asked for.
use Rattle.std.specs.Prelude.{ℕ, List, [], ◌∷◌, ◌++◌, codes}

-- the help on `check`
abbrev pub check_help : List ℕ
check_help = codes "Reads a DEX file and verifies it." ++ 10 ∷ 10 ∷ codes "Usage: clonecloud check [--main CLASS] FILE" ++ 10 ∷ []

-- the program's name and version
abbrev pub version : List ℕ
version = codes "clonecloud 0.1.0" ++ 10 ∷ []
