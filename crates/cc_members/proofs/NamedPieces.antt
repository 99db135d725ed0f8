-- The pieces of the whole names of members.
use Rattle.std.proofs.Common.{◌≡◌, ℕ, List, [], ◌∷◌, ◌++◌, map, take, Option, Some, None, slice_get, refl, sym, ap, ◌∙◌, append_assoc}
use Rattle.std.specs.Prelude.{codes}
use Rattle.std.specs.List.{flat_map}
use Rattle.std.proofs.lemmas.Grind.{flat_map-append}
use Rattle.std.proofs.lemmas.List.{append-nil}
use Rattle.cc_meaning.specs.declared.file.Ids.{Ids}
use Rattle.cc_meaning.specs.declared.file.FieldRow.{FieldRow}
use Rattle.cc_meaning.specs.declared.file.MethodRow.{MethodRow}
use Rattle.cc_meaning.specs.declared.file.ProtoRow.{ProtoRow}
use Rattle.cc_meaning_program.specs.Named.{text_of, type_name, prototype_of, method_within, method_member, field_within, field_member}
use Rattle.cc_meaning_program.specs.Resolved.{whole_name}
use Rattle.cc_meaning_program.specs.Plans.{name_at}
use Rattle.cc_names.specs.Pieces.{joined, prototype_pieces}
use Rattle.cc_members.specs.declared.named.Member.{Member}
use Rattle.cc_members.specs.declared.named.Member.TheVariants.{Method, Field, Listed, Missing}
use Rattle.cc_members.specs.declared.named.Named.{Named}
use Rattle.cc_members.specs.ListedNames.{listed_text}
use Rattle.cc_members.specs.Named.{method_pieces, field_pieces, member_pieces, member_text, named_pieces, named_text}

joined_map : (f : ℕ → List ℕ) (rows : List ℕ) → joined (map f rows) ≡ flat_map f rows
joined_map f [] = refl
joined_map f (row ∷ rows) = ap (λ rest. f row ++ rest) (joined_map f rows)

four : (a b c d : List ℕ) → a ++ (b ++ (c ++ d)) ≡ a ++ b ++ c ++ d
four a b c d = simp append_assoc

prototype_joined : (ids : Ids) (prototype : Option ProtoRow) → joined (prototype_pieces ids prototype) ≡ prototype_of ids prototype
unfolding prototype_pieces prototype_of
prototype_joined ids None = refl
prototype_joined ids (Some prototype) =
    let result = type_name ids prototype.result in
    let params = flat_map (type_name ids) prototype.params in
    let parts = flat_map-append (λ (piece : List ℕ). piece) (map (type_name ids) prototype.params) (codes ")" ∷ result ∷ []) in
    ap (λ rest. codes "(" ++ rest) (parts ∙ ap (λ front. front ++ (codes ")" ++ (result ++ []))) (joined_map (type_name ids) prototype.params)
    ∙ ap (λ gives. params ++ (codes ")" ++ gives)) (append-nil result))
    ∙ four (codes "(") params (codes ")") result

method_joined : (ids : Ids) (method : Option MethodRow) → joined (method_pieces ids method) ≡ method_within ids method
unfolding method_pieces method_within
method_joined ids None = refl
method_joined ids (Some method) = ap (λ rest. text_of ids method.name ++ rest) (prototype_joined ids (slice_get ids.protos method.proto))

field_joined : (ids : Ids) (field : Option FieldRow) → joined (field_pieces ids field) ≡ field_within ids field
unfolding field_pieces field_within
field_joined ids None = refl
field_joined ids (Some field) =
    let name = text_of ids field.name in
    let kind = type_name ids field.kind in
    ap (λ rest. name ++ (codes ":" ++ rest)) (append-nil kind) ∙ sym (append_assoc name (codes ":") kind)

member_joined : (ids : Ids) (listed : List (List (List ℕ))) (member : Member) → joined (member_pieces ids listed member) ≡ member_text ids listed member
unfolding member_pieces member_text method_member field_member
member_joined ids listed (Method row) = method_joined ids (slice_get ids.methods row)
member_joined ids listed (Field row) = field_joined ids (slice_get ids.fields row)
member_joined ids listed (Listed table place) = append-nil (listed_text listed table place)
member_joined ids listed Missing = refl

pub named_joined : (ids : Ids) (names : List (List ℕ)) (listed : List (List (List ℕ))) (named : Named) → joined (named_pieces ids names listed named) ≡ named_text ids names listed named
unfolding named_pieces named_text whole_name
named_joined ids names listed named =
    let class = name_at names named.owner in
    ap (λ rest. class ++ (codes "->" ++ rest)) (member_joined ids listed named.member) ∙ sym (append_assoc class (codes "->") (member_text ids listed named.member))

-- members of one class begin with its name
pub same_owner : (ids : Ids) (names : List (List ℕ)) (listed : List (List (List ℕ))) (one other : Named) → one.owner ≡ other.owner →
    take 2 (named_pieces ids names listed one) ≡ take 2 (named_pieces ids names listed other)
unfolding named_pieces
same_owner ids names listed one other same = ap (λ (owner : ℕ). name_at names owner ∷ (45 ∷ 62 ∷ []) ∷ []) same
