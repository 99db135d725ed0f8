-- The pieces of the whole names of methods and fields.
use Rattle.std.proofs.Common.{◌≡◌, ◌≢◌, ℕ, zero, suc, ◌+◌, ◌-◌, ◌<◌, ◌≤◌, List, [], ◌∷◌, ◌++◌, length, map, get_or, take, Option, Some, None, slice_get, refl, sym, ap, ◌∙◌, append_assoc, arith}
use Rattle.std.specs.Prelude.{codes}
use Rattle.std.specs.List.{flat_map}
use Rattle.std.proofs.lemmas.Grind.{flat_map-append}
use Rattle.std.proofs.lemmas.List.{length-map, get_or-map, append-nil}
use Rattle.std.proofs.lemmas.Option.{slice_get-get_or}
use Rattle.cc_meaning.specs.declared.file.Ids.{Ids}
use Rattle.cc_meaning.specs.declared.file.FieldRow.{FieldRow}
use Rattle.cc_meaning.specs.declared.file.MethodRow.{MethodRow}
use Rattle.cc_meaning.specs.declared.file.ProtoRow.{ProtoRow}
use Rattle.cc_meaning_program.specs.Named.{text_of, type_name, prototype_of, class_of_method, method_within, method_member, method_text, class_of_field, field_within, field_member, field_text}
use Rattle.cc_names.specs.Pieces.{joined, prototype_pieces, method_pieces, field_pieces}

-- ---- places

front_get : {A : Type 0} (xs ys : List A) (k : ℕ) → k < length xs → slice_get (xs ++ ys) k ≡ slice_get xs k
front_get [] ys k within = absurd (omega arith)
front_get (x ∷ xs) ys zero within = refl
front_get (x ∷ xs) ys (suc k) within = front_get xs ys k (omega arith)

back_get : {A : Type 0} (xs ys : List A) (j k : ℕ) → k ≡ length xs + j → slice_get (xs ++ ys) k ≡ slice_get ys j
back_get [] ys j k place = let same : k ≡ j = omega arith in ap (slice_get ys) same
back_get (x ∷ xs) ys j zero place = absurd (omega arith)
back_get (x ∷ xs) ys j (suc k) place = back_get xs ys j k (omega arith)

behind_first : {A : Type 0} (x : A) (xs : List A) (at : ℕ) → at ≢ 0 → slice_get (x ∷ xs) at ≡ slice_get xs (at - 1)
behind_first x xs zero some = absurd (some refl)
behind_first x xs (suc n) some = let same : n ≡ suc n - 1 = omega arith in ap (slice_get xs) same

-- ---- parameters, between two pieces and before a last one

pub at_param : (f : ℕ → List ℕ) (params : List ℕ) (first second last : List ℕ) (at param : ℕ) → at ≢ 0 → at - 1 < length params → param ≡ get_or params (at - 1) param →
    slice_get (first ∷ map f params ++ second ∷ last ∷ []) at ≡ Some (f param)
at_param f params first second last at param some within is =
    let inside : at - 1 < length (map f params) = omega (arith, within, length-map params f) in
    behind_first first (map f params ++ second ∷ last ∷ []) at some ∙ front_get (map f params) (second ∷ last ∷ []) (at - 1) inside
    ∙ slice_get-get_or (map f params) (at - 1) (f param) inside ∙ ap Some (get_or-map f params (at - 1) param (f param) within ∙ ap f (sym is))

pub at_close : (f : ℕ → List ℕ) (params : List ℕ) (first second last : List ℕ) (at : ℕ) → at ≢ 0 → at - 1 ≡ length params →
    slice_get (first ∷ map f params ++ second ∷ last ∷ []) at ≡ Some second
at_close f params first second last at some place =
    behind_first first (map f params ++ second ∷ last ∷ []) at some ∙ back_get (map f params) (second ∷ last ∷ []) 0 (at - 1) (omega (arith, place, length-map params f))

pub at_result : (f : ℕ → List ℕ) (params : List ℕ) (first second last : List ℕ) (at : ℕ) → at ≢ 0 → at - 1 ≢ length params → length params ≤ at - 1 → at - 1 - 1 ≡ length params →
    slice_get (first ∷ map f params ++ second ∷ last ∷ []) at ≡ Some last
at_result f params first second last at some behind past place =
    behind_first first (map f params ++ second ∷ last ∷ []) at some ∙ back_get (map f params) (second ∷ last ∷ []) 1 (at - 1) (omega (arith, place, behind, past, length-map params f))

pub at_none : (f : ℕ → List ℕ) (params : List ℕ) (first second last : List ℕ) (at : ℕ) → at ≢ 0 → length params ≤ at - 1 → at - 1 ≢ length params → at - 1 - 1 ≢ length params →
    slice_get (first ∷ map f params ++ second ∷ last ∷ []) at ≡ None
at_none f params first second last at some past behind further =
    let j = at - 1 - length params in
    behind_first first (map f params ++ second ∷ last ∷ []) at some ∙ back_get (map f params) (second ∷ last ∷ []) j (at - 1) (omega (arith, past, length-map params f)) ∙ nothing j (omega (arith, past, behind, further))
  where
    nothing : (n : ℕ) → 2 ≤ n → slice_get (second ∷ last ∷ []) n ≡ None
    nothing zero two = absurd (omega arith)
    nothing (suc zero) two = absurd (omega arith)
    nothing (suc (suc zero)) two = refl
    nothing (suc (suc (suc n))) two = refl

-- ---- joined

joined_map : (f : ℕ → List ℕ) (rows : List ℕ) → joined (map f rows) ≡ flat_map f rows
joined_map f [] = refl
joined_map f (row ∷ rows) = ap (λ rest. f row ++ rest) (joined_map f rows)

four : (a b c d : List ℕ) → a ++ (b ++ (c ++ d)) ≡ a ++ b ++ c ++ d
four a b c d = simp append_assoc

prototype_joined : (ids : Ids) (prototype : Option ProtoRow) → joined (prototype_pieces ids prototype) ≡ prototype_of ids prototype
unfolding prototype_pieces prototype_of
prototype_joined ids None = refl
prototype_joined ids (Some prototype) =
    let result = type_name ids prototype.result in
    let params = flat_map (type_name ids) prototype.params in
    let parts = flat_map-append (λ (piece : List ℕ). piece) (map (type_name ids) prototype.params) (codes ")" ∷ result ∷ []) in
    ap (λ rest. codes "(" ++ rest) (parts ∙ ap (λ front. front ++ (codes ")" ++ (result ++ []))) (joined_map (type_name ids) prototype.params)
    ∙ ap (λ gives. params ++ (codes ")" ++ gives)) (append-nil result))
    ∙ four (codes "(") params (codes ")") result

method_joined : (ids : Ids) (method : Option MethodRow) → joined (method_pieces ids method) ≡ class_of_method ids method ++ codes "->" ++ method_within ids method
unfolding method_pieces class_of_method method_within
method_joined ids None = refl
method_joined ids (Some method) =
    let of_class = type_name ids method.class in
    let within = text_of ids method.name ++ prototype_of ids (slice_get ids.protos method.proto) in
    ap (λ rest. of_class ++ (codes "->" ++ (text_of ids method.name ++ rest))) (prototype_joined ids (slice_get ids.protos method.proto)) ∙ sym (append_assoc of_class (codes "->") within)

pub method_named : (ids : Ids) (row : ℕ) → joined (method_pieces ids (slice_get ids.methods row)) ≡ method_text ids row
unfolding method_text method_member
method_named ids row = method_joined ids (slice_get ids.methods row)

field_joined : (ids : Ids) (field : Option FieldRow) → joined (field_pieces ids field) ≡ class_of_field ids field ++ codes "->" ++ field_within ids field
unfolding field_pieces class_of_field field_within
field_joined ids None = refl
field_joined ids (Some field) =
    let of_class = type_name ids field.class in
    let name = text_of ids field.name in
    let kind = type_name ids field.kind in
    ap (λ rest. of_class ++ (codes "->" ++ (name ++ (codes ":" ++ rest)))) (append-nil kind)
    ∙ ap (λ within. of_class ++ (codes "->" ++ within)) (sym (append_assoc name (codes ":") kind))
    ∙ sym (append_assoc of_class (codes "->") (name ++ codes ":" ++ kind))

pub field_named : (ids : Ids) (row : ℕ) → joined (field_pieces ids (slice_get ids.fields row)) ≡ field_text ids row
unfolding field_text field_member
field_named ids row = field_joined ids (slice_get ids.fields row)

-- ---- methods and fields that name the same

pub same_class : (ids : Ids) (here there : MethodRow) → here.class ≡ there.class → take 2 (method_pieces ids (Some here)) ≡ take 2 (method_pieces ids (Some there))
unfolding method_pieces
same_class ids here there class = ap (λ (row : ℕ). type_name ids row ∷ (45 ∷ 62 ∷ []) ∷ []) class

pub same_name : (ids : Ids) (here there : MethodRow) → here.class ≡ there.class → here.name ≡ there.name → take 3 (method_pieces ids (Some here)) ≡ take 3 (method_pieces ids (Some there))
unfolding method_pieces
same_name ids here there class name =
    ap (λ (row : ℕ). type_name ids row ∷ (45 ∷ 62 ∷ []) ∷ text_of ids here.name ∷ []) class ∙ ap (λ (row : ℕ). type_name ids there.class ∷ (45 ∷ 62 ∷ []) ∷ text_of ids row ∷ []) name

pub same_all : (ids : Ids) (here there : MethodRow) (n : ℕ) → here.class ≡ there.class → here.name ≡ there.name → here.proto ≡ there.proto →
    take n (method_pieces ids (Some here)) ≡ take n (method_pieces ids (Some there))
unfolding method_pieces
same_all ids here there n class name proto =
    let of : ℕ → ℕ → ℕ → List (List ℕ) = λ c t p. type_name ids c ∷ (45 ∷ 62 ∷ []) ∷ text_of ids t ∷ prototype_pieces ids (slice_get ids.protos p) in
    let first : of here.class here.name here.proto ≡ of there.class here.name here.proto = ap (λ c. of c here.name here.proto) class in
    let second : of there.class here.name here.proto ≡ of there.class there.name here.proto = ap (λ t. of there.class t here.proto) name in
    let third : of there.class there.name here.proto ≡ of there.class there.name there.proto = ap (of there.class there.name) proto in
    ap (take n) (first ∙ second ∙ third)

pub same_class_of_field : (ids : Ids) (here there : FieldRow) → here.class ≡ there.class → take 2 (field_pieces ids (Some here)) ≡ take 2 (field_pieces ids (Some there))
unfolding field_pieces
same_class_of_field ids here there class = ap (λ (row : ℕ). type_name ids row ∷ (45 ∷ 62 ∷ []) ∷ []) class

pub same_field_name : (ids : Ids) (here there : FieldRow) → here.class ≡ there.class → here.name ≡ there.name → take 4 (field_pieces ids (Some here)) ≡ take 4 (field_pieces ids (Some there))
unfolding field_pieces
same_field_name ids here there class name =
    ap (λ (row : ℕ). type_name ids row ∷ (45 ∷ 62 ∷ []) ∷ text_of ids here.name ∷ (58 ∷ []) ∷ []) class
    ∙ ap (λ (row : ℕ). type_name ids there.class ∷ (45 ∷ 62 ∷ []) ∷ text_of ids row ∷ (58 ∷ []) ∷ []) name
