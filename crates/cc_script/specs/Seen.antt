-- A set of the texts that were seen.
use Rattle.std.specs.Prelude.{◌≡◌, ℕ, List, String, false}
use Rattle.std.specs.HashSet.{HashSet, contains_text}
use Rattle.std.specs.declared.alloc.Global.{Global}
use Rattle.std.specs.declared.hash.FoldHasher.{FoldHasher}
use Rattle.std.specs.declared.hash.BuildHasherDefault.{BuildHasherDefault}
use Rattle.cc_meaning_script.specs.declared.listed.ListedAnswer.{ListedAnswer}
use Rattle.cc_meaning_script.specs.Listed.{is_among, is_answered, repeats}

abbrev pub Texts : Type 0
Texts = HashSet (String Global) (BuildHasherDefault FoldHasher)

-- the set has these texts and no others
abbrev pub Holds : List (List ℕ) → Texts → Type 0
Holds texts set = (text : List ℕ) → contains_text set text ≡ is_among text texts

-- no member stands twice, and the set has them and no others
abbrev pub HoldsMembers : List ListedAnswer → Texts → Type 0
HoldsMembers pairs set = (repeats pairs ≡ false) × ((text : List ℕ) → contains_text set text ≡ is_answered text pairs)
