-- The whole names of members that are told by a class's number and a row or a place.
use Rattle.std.specs.Prelude.{ℕ, zero, suc, List, [], ◌∷◌, Option, Some, None, slice_get, codes}
use Rattle.cc_meaning.specs.declared.file.FieldRow.{FieldRow}
use Rattle.cc_meaning.specs.declared.file.Ids.{Ids}
use Rattle.cc_meaning.specs.declared.file.MethodRow.{MethodRow}
use Rattle.cc_meaning_program.specs.Named.{text_of, type_name, field_member, method_member}
use Rattle.cc_meaning_program.specs.Resolved.{whole_name}
use Rattle.cc_meaning_program.specs.Plans.{name_at}
use Rattle.cc_names.specs.Pieces.{prototype_pieces}
use Rattle.cc_members.specs.declared.named.Member.{Member}
use Rattle.cc_members.specs.declared.named.Member.TheVariants.{Method, Field, Listed, Missing}
use Rattle.cc_members.specs.declared.named.Named.{Named}
use Rattle.cc_members.specs.ListedNames.{listed_text}

-- ---- names within a class

unfoldable pub member_text : Ids → List (List (List ℕ)) → Member → List ℕ
member_text ids listed (Method row) = method_member ids row
member_text ids listed (Field row) = field_member ids row
member_text ids listed (Listed table place) = listed_text listed table place
member_text ids listed Missing = []

-- the same in pieces
unfoldable pub method_pieces : Ids → Option MethodRow → List (List ℕ)
method_pieces ids None = []
method_pieces ids (Some method) = text_of ids method.name ∷ prototype_pieces ids (slice_get ids.protos method.proto)

unfoldable pub field_pieces : Ids → Option FieldRow → List (List ℕ)
field_pieces ids None = []
field_pieces ids (Some field) = text_of ids field.name ∷ codes ":" ∷ type_name ids field.kind ∷ []

unfoldable pub member_pieces : Ids → List (List (List ℕ)) → Member → List (List ℕ)
member_pieces ids listed (Method row) = method_pieces ids (slice_get ids.methods row)
member_pieces ids listed (Field row) = field_pieces ids (slice_get ids.fields row)
member_pieces ids listed (Listed table place) = listed_text listed table place ∷ []
member_pieces ids listed Missing = []

-- ---- whole names

unfoldable pub named_text : Ids → List (List ℕ) → List (List (List ℕ)) → Named → List ℕ
named_text ids names listed named = whole_name (name_at names named.owner) (member_text ids listed named.member)

unfoldable pub named_pieces : Ids → List (List ℕ) → List (List (List ℕ)) → Named → List (List ℕ)
named_pieces ids names listed named = name_at names named.owner ∷ codes "->" ∷ member_pieces ids listed named.member

-- the first of two, or the other
unfoldable pub side : Named → Named → ℕ → Named
side one other zero = one
side one other (suc n) = other
