-- Worked examples of the texts of partitions.
use Rattle.std.specs.Prelude.{◌≡◌, ℕ, List, [], ◌∷◌, codes, Some, None, Ok, Err}
use Rattle.serde_json.specs.Data.{Data, number, unsigned, string, array, object, Items, no_items, item, no_members, member}
use Rattle.cc_meaning.specs.declared.fault.PartitionFault.TheVariants.{NotJson, BadShape, UnknownMethod, NotMovable}
use Rattle.cc_meaning_calls.specs.Texts.{partition_of, IsWritten}
use Rattle.cc_meaning_calls.specs.WorkedPrograms.{diamond}
use Rattle.cc_meaning_calls.specs.WorkedPlaces.{moving}

abbrev pub texts : List (List ℕ) → Items
texts [] = no_items
texts (text ∷ rest) = item (string text) (texts rest)

abbrev pub names_moved : List (List ℕ) → Data
names_moved names = object (member (codes "moved") (array (texts names)) no_members)

-- f, g and h of the diamond are its candidates
abbrev pub candidates : List ℕ
candidates = 0 ∷ 1 ∷ 2 ∷ []

-- The shape is judged before any name, and the first name that isn't a candidate's is told by its place. The methods stand in number order.
pub record TextsHold : Type 0 where
  pub read : partition_of diamond candidates (Some (names_moved (codes "LA;->g()V" ∷ codes "LA;->f()V" ∷ []))) ≡ Ok (moving (0 ∷ 1 ∷ []))
  pub unknown : partition_of diamond candidates (Some (names_moved (codes "LA;->f()V" ∷ codes "LA;->q()V" ∷ []))) ≡ Err (UnknownMethod 1)
  pub main : partition_of diamond candidates (Some (names_moved (codes "LA;->main()V" ∷ codes "LA;->q()V" ∷ []))) ≡ Err (NotMovable 0)
  pub twice : partition_of diamond candidates (Some (names_moved (codes "LA;->q()V" ∷ codes "LA;->q()V" ∷ []))) ≡ Err BadShape
  pub no_list : partition_of diamond candidates (Some (object (member (codes "moved") (number (unsigned 1)) no_members))) ≡ Err BadShape
  pub no_json : partition_of diamond candidates None ≡ Err NotJson
  pub written : IsWritten diamond (moving (0 ∷ [])) (codes "{\"moved\":[\"LA;->f()V\"]}")
