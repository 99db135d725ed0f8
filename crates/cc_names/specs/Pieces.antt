-- Texts that are given piece by piece, and the pieces of the whole names of methods and fields.
use Rattle.std.specs.Prelude.{ℕ, List, [], ◌∷◌, ◌++◌, map, drop, Option, Some, None, slice_get, codes}
use Rattle.std.specs.List.{flat_map}
use Rattle.cc_meaning.specs.declared.file.Ids.{Ids}
use Rattle.cc_meaning.specs.declared.file.FieldRow.{FieldRow}
use Rattle.cc_meaning.specs.declared.file.MethodRow.{MethodRow}
use Rattle.cc_meaning.specs.declared.file.ProtoRow.{ProtoRow}
use Rattle.cc_meaning_program.specs.Named.{text_of, type_name}

-- the text that these pieces are
abbrev pub joined : List (List ℕ) → List ℕ
joined pieces = flat_map (λ (piece : List ℕ). piece) pieces

-- the rest of a piece, and the pieces from a number on
abbrev pub joined_from : List (List ℕ) → List ℕ → ℕ → List ℕ
joined_from pieces rest next = rest ++ joined (drop next pieces)

-- ---- methods

unfoldable pub prototype_pieces : Ids → Option ProtoRow → List (List ℕ)
prototype_pieces ids None = []
prototype_pieces ids (Some prototype) = codes "(" ∷ map (type_name ids) prototype.params ++ codes ")" ∷ type_name ids prototype.result ∷ []

unfoldable pub method_pieces : Ids → Option MethodRow → List (List ℕ)
method_pieces ids None = codes "->" ∷ []
method_pieces ids (Some method) = type_name ids method.class ∷ codes "->" ∷ text_of ids method.name ∷ prototype_pieces ids (slice_get ids.protos method.proto)

-- ---- fields

unfoldable pub field_pieces : Ids → Option FieldRow → List (List ℕ)
field_pieces ids None = codes "->" ∷ []
field_pieces ids (Some field) = type_name ids field.class ∷ codes "->" ∷ text_of ids field.name ∷ codes ":" ∷ type_name ids field.kind ∷ []
