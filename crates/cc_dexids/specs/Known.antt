-- What is known of the texts and types that were read.
use Rattle.std.specs.Prelude.{◌≡◌, ◌<◌, ℕ, List}
use Rattle.cc_meaning_dex.specs.declared.table.Table.TheVariants.{Texts, Types}
use Rattle.cc_meaning_dex.specs.Tables.{row_count, IsLaidOut}
use Rattle.cc_meaning_dex.specs.Faults.{text_units}
use Rattle.cc_meaning_dex.specs.Ids.{EachSpelled, TextSpelled, TypeSpelled}

-- a text that was read is the one by which later rows are judged
pub record TextRead (file : List ℕ) (row : ℕ) (units : List ℕ) : Type 0 where
  pub spelled : TextSpelled file row units
  pub found : units ≡ text_units file row

-- a type that was read names a text that is there
pub record TypeRead (file : List ℕ) (row : ℕ) (text : ℕ) : Type 0 where
  pub spelled : TypeSpelled file row text
  pub within : text < row_count file Texts

-- the texts and types of a file are read
pub record IsKnown (file : List ℕ) (texts : List (List ℕ)) (types : List ℕ) : Type 0 where
  pub laid_out : IsLaidOut file
  pub texts_read : EachSpelled texts (row_count file Texts) (TextRead file)
  pub types_read : EachSpelled types (row_count file Types) (TypeRead file)
