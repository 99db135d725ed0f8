-- What the text of a partition says: `{"moved":[..]}` with the names of the methods that it moves.
use Rattle.std.specs.Prelude.{◌≡◌, ℕ, suc, ◌==◌, ◌||◌, Bool, false, List, [], ◌∷◌, filter, codes, Option, Some, None, option_and_then, Result, Ok, Err, slice_get, if◌then◌else◌}
use Rattle.std.specs.List.{list_any}
use Rattle.serde_json.specs.Data.{Data, string, array, object, Items, no_items, item, no_members, member}
use Rattle.serde_json.specs.Find.{get, as_array}
use Rattle.serde_json.specs.Written.{compact_text}
use Rattle.cc_meaning.specs.declared.fault.PartitionFault.{PartitionFault}
use Rattle.cc_meaning.specs.declared.fault.PartitionFault.TheVariants.{NotJson, BadShape, UnknownMethod, NotMovable}
use Rattle.cc_meaning.specs.declared.profile.Partition.{Partition}
use Rattle.cc_meaning.specs.declared.program.Method.{Method}
use Rattle.cc_meaning.specs.declared.program.Program.{Program}
use Rattle.cc_meaning.specs.Lookup.{method_named}
use Rattle.cc_meaning.specs.Names.{method_name}
use Rattle.cc_units.specs.Units.{units_of}
use Rattle.cc_meaning_script.specs.Listed.{size_of, texts_of, is_among, capped}

-- ---- the names

-- the texts of an array at the one key `moved`
unfoldable pub named_in : Data → Option (List (List ℕ))
named_in value = if size_of value == 1 then option_and_then texts_of (option_and_then as_array (get (codes "moved") value)) else None

-- a text stands twice
unfoldable pub repeats : List (List ℕ) → Bool
repeats [] = false
repeats (text ∷ rest) = is_among text rest || repeats rest

unfoldable pub is_in : ℕ → List ℕ → Bool
is_in m methods = list_any (λ other. other == m) methods

unfoldable pub movable_or : (candidates : List ℕ) → (place : ℕ) → Option ℕ → Result ℕ PartitionFault
movable_or candidates place None = Err (UnknownMethod (capped place))
movable_or candidates place (Some m) = if is_in m candidates then Ok m else Err (NotMovable (capped place))

-- The method that a text at a place names: one of the program, and a candidate.
unfoldable pub moved_at : Program → (candidates : List ℕ) → (place : ℕ) → List ℕ → Result ℕ PartitionFault
moved_at p candidates place text = movable_or candidates place (method_named (units_of text) p)

unfoldable pub then_rest : Result ℕ PartitionFault → Result (List ℕ) PartitionFault → Result (List ℕ) PartitionFault
then_rest (Err fault) rest = Err fault
then_rest (Ok m) (Err fault) = Err fault
then_rest (Ok m) (Ok rest) = Ok (m ∷ rest)

-- the methods that texts from a place on name, or the fault of the first place that has one
unfoldable pub moved_from : Program → (candidates : List ℕ) → (place : ℕ) → List (List ℕ) → Result (List ℕ) PartitionFault
moved_from p candidates place [] = Ok []
moved_from p candidates place (text ∷ rest) = then_rest (moved_at p candidates place text) (moved_from p candidates (suc place) rest)

-- ---- reading

-- the partition that moves these methods, which it lists in their order as candidates, by number
unfoldable pub moving : (candidates moved : List ℕ) → Partition
moving candidates moved = record { moved = filter (λ m. is_in m moved) candidates }

unfoldable pub partition_or : (candidates : List ℕ) → Result (List ℕ) PartitionFault → Result Partition PartitionFault
partition_or candidates (Ok moved) = Ok (moving candidates moved)
partition_or candidates (Err fault) = Err fault

unfoldable pub partition_of_names : Program → (candidates : List ℕ) → Option (List (List ℕ)) → Result Partition PartitionFault
partition_of_names p candidates None = Err BadShape
partition_of_names p candidates (Some texts) = if repeats texts then Err BadShape else partition_or candidates (moved_from p candidates 0 texts)

-- What the value of a text says of a program with these candidates: the shape is judged first, in which no name stands twice, and then place by place whether the
-- program has the method and whether it is a candidate.
unfoldable pub partition_of : Program → (candidates : List ℕ) → Option Data → Result Partition PartitionFault
partition_of p candidates None = Err NotJson
partition_of p candidates (Some value) = partition_of_names p candidates (named_in value)

-- ---- writing

-- a text in UTF-8 spells a name, where the name has one
abbrev pub SpellsName : List ℕ → (text : List ℕ) → Type 0
SpellsName name text = units_of text ≡ name

-- texts spell the names of methods, one by one
pub data SpellNames (p : Program) : List ℕ → Items → Type 0 where
  none : SpellNames p [] no_items
  next : {m : ℕ} {method : Method} {text : List ℕ} {rest : List ℕ} {items : Items} → slice_get p.methods m ≡ Some method → SpellsName (method_name p method) text
      → SpellNames p rest items → SpellNames p (m ∷ rest) (item (string text) items)

-- a text is the compact one of a partition, with the names of its methods in number order
abbrev pub IsWritten : Program → Partition → (text : List ℕ) → Type 0
IsWritten p partition text = (items : Items) × SpellNames p partition.moved items × (text ≡ compact_text (object (member (codes "moved") (array items) no_members)))
