-- What is of floating point, by tests and flags.
use Rattle.std.proofs.Common.{◌≡◌, ◌≢◌, ◌↔◌, ℕ, zero, suc, ◌+◌, ◌<◌, ◌≤◌, inl, inr, Bool, true, false, List, [], ◌∷◌, ◌++◌, length, drop, get_or, Option, Some, None, refl, sym, ap, ◌∙◌, subst, add-one, arith}
use Rattle.std.specs.Prelude.{slice_get, unwrap_or, ◌==◌, IsTrue}
use Rattle.std.specs.List.{list_any}
use Rattle.std.proofs.lemmas.Bool.{cases_lt}
use Rattle.std.proofs.lemmas.Bool.Decides.{nat_tests}
use Rattle.std.proofs.lemmas.List.Folds.{Any-from_list_any, list_any-from_Any}
use Rattle.std.proofs.lemmas.Option.{slice_get_past, slice_get_within, slice_get-get_or}
use Rattle.cc_meaning.specs.declared.file.FieldRow.{FieldRow}
use Rattle.cc_meaning.specs.declared.file.Ids.{Ids}
use Rattle.cc_meaning.specs.declared.file.MethodRow.{MethodRow}
use Rattle.cc_meaning.specs.declared.file.ProtoRow.{ProtoRow}
use Rattle.cc_meaning_dex.specs.Descriptors.{dims_of}
use Rattle.cc_meaning_program.specs.Named.{type_name, text_of}
use Rattle.cc_meaning_program.specs.ClassNames.{base_name}
use Rattle.cc_meaning_program.specs.References.{IsFloating, FieldFloats, MethodFloats}
use Rattle.cc_bodies.specs.Floats.{PrototypeFloats, ProtoFloats, FlagsSay}

-- ---- descriptors

pub base_empty : base_name [] ≡ []
unfolding base_name dims_of
base_empty = refl

pub base_behind : (name : List ℕ) → 0 < length name → get_or name 0 0 ≡ 91 → base_name (drop 1 name) ≡ base_name name
unfolding base_name dims_of
base_behind [] h e = absurd (omega arith)
base_behind (u ∷ us) h e =
    let dims : dims_of (u ∷ us) ≡ dims_of us + 1 = rw e (grind (arith, nat_tests)) in
    let same : drop (dims_of (u ∷ us)) (u ∷ us) ≡ drop (suc (dims_of us)) (u ∷ us) = ap (λ (n : ℕ). drop n (u ∷ us)) (dims ∙ add-one (dims_of us)) in
    sym same

pub base_here : (name : List ℕ) → get_or name 0 0 ≢ 91 → base_name name ≡ name
unfolding base_name dims_of
base_here [] e = refl
base_here (u ∷ us) e =
    let dims : dims_of (u ∷ us) ≡ 0 = grind (arith, nat_tests) in
    ap (λ (n : ℕ). drop n (u ∷ us)) dims

pub some_units : (base : List ℕ) (empty : Bool) → empty ≡ (length base == 0) → empty ≡ false → 0 < length base
some_units [] empty e f = absurd cc
some_units (u ∷ us) empty e f = omega arith

pub base_of_none : (base : List ℕ) (empty : Bool) → empty ≡ (length base == 0) → empty ≡ true → base_name base ≡ base
base_of_none [] empty e t = base_empty
base_of_none (u ∷ us) empty e t = let none : (length (u ∷ us) == 0) ≡ false = grind (arith, nat_tests) in absurd cc

one_unit : (base : List ℕ) (unit : ℕ) → length base ≡ 1 → get_or base 0 0 ≡ unit → base ≡ unit ∷ []
one_unit [] unit h e = absurd (omega arith)
one_unit (u ∷ []) unit h e = ap (λ (v : ℕ). v ∷ []) e
one_unit (u ∷ v ∷ us) unit h e = absurd (omega arith)

pub is_single : (name base : List ℕ) → base ≡ base_name name → length base ≡ 1 → get_or base 0 0 ≡ 70 → IsFloating name
is_single name base is h e = IsFloating.single (sym is ∙ one_unit base 70 h e)

pub is_double : (name base : List ℕ) → base ≡ base_name name → length base ≡ 1 → get_or base 0 0 ≡ 68 → IsFloating name
is_double name base is h e = IsFloating.double (sym is ∙ one_unit base 68 h e)

-- a base of another length, or another unit
pub not_one : (name base : List ℕ) → base ≡ base_name name → length base ≢ 1 → ¬ IsFloating name
not_one name base is h (IsFloating.single e) = h (ap length (is ∙ e))
not_one name base is h (IsFloating.double e) = h (ap length (is ∙ e))

pub not_these : (name base : List ℕ) → base ≡ base_name name → get_or base 0 0 ≢ 70 → get_or base 0 0 ≢ 68 → ¬ IsFloating name
not_these name base is f d (IsFloating.single e) = f (ap (λ (units : List ℕ). get_or units 0 0) (is ∙ e))
not_these name base is f d (IsFloating.double e) = d (ap (λ (units : List ℕ). get_or units 0 0) (is ∙ e))

-- ---- flags

pub flag_at : List Bool → ℕ → Bool
flag_at flags row = unwrap_or (slice_get flags row) false

pub record FlagsBefore (is_so : ℕ → Type 0) (flags : List Bool) (count : ℕ) : Type 0 where
  pub as_many : length flags ≡ count
  pub say : (row : ℕ) → row < count → IsTrue (unwrap_or (slice_get flags row) false) ↔ is_so row

pub no_flags : (is_so : ℕ → Type 0) → FlagsBefore is_so [] 0
no_flags is_so = record { as_many = refl; say = λ row h. absurd (omega arith) }

flag_kept : (flags : List Bool) (flag : Bool) (row : ℕ) → row < length flags → slice_get (flags ++ flag ∷ []) row ≡ slice_get flags row
flag_kept [] flag row h = absurd (omega arith)
flag_kept (f ∷ flags) flag zero h = refl
flag_kept (f ∷ flags) flag (suc row) h = flag_kept flags flag row (omega arith)

flag_last : (flags : List Bool) (flag : Bool) → slice_get (flags ++ flag ∷ []) (length flags) ≡ Some flag
flag_last [] flag = refl
flag_last (f ∷ flags) flag = flag_last flags flag

flag_length : (flags : List Bool) (flag : Bool) → length (flags ++ flag ∷ []) ≡ length flags + 1
flag_length [] flag = refl
flag_length (f ∷ flags) flag = let rest = flag_length flags flag in omega arith

pub more_flags : (is_so : ℕ → Type 0) (flags : List Bool) (count : ℕ) (flag : Bool) → (IsTrue flag ↔ is_so count) → FlagsBefore is_so flags count → FlagsBefore is_so (flags ++ flag ∷ []) (count + 1)
more_flags is_so flags count flag one so_far =
    let as_many = so_far.as_many in
    record {
      as_many = flag_length flags flag ∙ ap (λ (n : ℕ). n + 1) as_many;
      say = λ row h. elim (cases_lt row count) [
        | inl first ↦ subst (λ (found : Option Bool). IsTrue (unwrap_or found false) ↔ is_so row) (sym (flag_kept flags flag row (omega arith))) (so_far.say row first)
        | inr last ↦
            let here : count ≡ row = omega arith in
            let at : slice_get (flags ++ flag ∷ []) row ≡ Some flag = ap (slice_get (flags ++ flag ∷ [])) (sym here ∙ sym as_many) ∙ flag_last flags flag in
            subst (λ (found : Option Bool). IsTrue (unwrap_or found false) ↔ is_so row) (sym at) (subst (λ (n : ℕ). IsTrue flag ↔ is_so n) here one)
      ];
    }

no_flag : (flags : List Bool) (row : ℕ) → length flags ≤ row → ¬ IsTrue (unwrap_or (slice_get flags row) false)
no_flag flags row h t =
    let none : unwrap_or (slice_get flags row) false ≡ false = ap (λ (found : Option Bool). unwrap_or found false) (slice_get_past flags row h) in
    absurd cc

pub all_flags : (is_so : ℕ → Type 0) (flags : List Bool) (count : ℕ) → ((row : ℕ) → count ≤ row → ¬ is_so row) → FlagsBefore is_so flags count → FlagsSay is_so flags
all_flags is_so flags count none so_far = λ row. elim (cases_lt row count) [
  | inl within ↦ so_far.say row within
  | inr past ↦
      let as_many = so_far.as_many in
      (λ t. absurd (no_flag flags row (omega arith) t), λ f. absurd (none row past f))
]

pub flag_says : (is_so : ℕ → Type 0) (flags : List Bool) (row : ℕ) (flag : Bool) → FlagsSay is_so flags → flag ≡ unwrap_or (slice_get flags row) false → IsTrue flag ↔ is_so row
flag_says is_so flags row flag say is = (λ t. (say row).0 (sym is ∙ t), λ f. is ∙ (say row).1 f)

-- ---- rows

pub type_here : (ids : Ids) (row text : ℕ) → slice_get ids.types row ≡ Some text → type_name ids row ≡ text_of ids text
unfolding type_name text_of
type_here ids row text e = rw e refl

pub no_type_floats : (ids : Ids) (row : ℕ) → length ids.types ≤ row → ¬ IsFloating (type_name ids row)
unfolding type_name base_name dims_of
no_type_floats ids row h =
    let none : type_name ids row ≡ [] = rw (slice_get_past ids.types row h) refl in
    not_one (type_name ids row) [] (sym base_empty ∙ ap base_name (sym none)) (λ e. absurd (omega arith))

pub no_proto_floats : (ids : Ids) (row : ℕ) → length ids.protos ≤ row → ¬ ProtoFloats ids row
no_proto_floats ids row h floats =
    let within = slice_get_within ids.protos row floats.stated floats.there in
    omega arith

pub proto_here : (ids : Ids) (row : ℕ) (stated : ProtoRow) (flag : Bool) → slice_get ids.protos row ≡ Some stated → (IsTrue flag ↔ PrototypeFloats ids stated) → IsTrue flag ↔ ProtoFloats ids row
proto_here ids row stated flag there says = (
  λ t. record { stated = stated; there = there; floats = says.0 t },
  λ (floats : ProtoFloats ids row).
      let other = floats.there in
      let same : floats.stated ≡ stated = cc in
      says.1 (subst (PrototypeFloats ids) same floats.floats),
)

pub prototype_by_result : (ids : Ids) (prototype : ProtoRow) (flags : List Bool) (flag : Bool) → FlagsSay (λ row. IsFloating (type_name ids row)) flags →
    flag ≡ unwrap_or (slice_get flags prototype.result) false → IsTrue flag → IsTrue flag ↔ PrototypeFloats ids prototype
prototype_by_result ids prototype flags flag say is t = (λ u. PrototypeFloats.by_result ((say prototype.result).0 (sym is ∙ t)), λ f. t)

pub prototype_by_parameter : (ids : Ids) (prototype : ProtoRow) (flags : List Bool) (flag other : Bool) → FlagsSay (λ row. IsFloating (type_name ids row)) flags →
    flag ≡ unwrap_or (slice_get flags prototype.result) false → flag ≡ false → other ≡ list_any (λ row. unwrap_or (slice_get flags row) false) prototype.params →
    IsTrue other ↔ PrototypeFloats ids prototype
prototype_by_parameter ids prototype flags flag other say is f any = (found, back)
  where
    found : IsTrue other → PrototypeFloats ids prototype
    found t =
        let test : ℕ → Bool = λ row. unwrap_or (slice_get flags row) false in
        let some = Any-from_list_any test prototype.params (sym any ∙ t) in
        PrototypeFloats.by_parameter {type = some.1} (some.0, some.2, some.3) ((say some.1).0 some.4)

    back : PrototypeFloats ids prototype → IsTrue other
    back (PrototypeFloats.by_result floats) = let t : flag ≡ true = is ∙ (say prototype.result).1 floats in absurd cc
    back (PrototypeFloats.by_parameter {type = type} in_list floats) =
        let test : ℕ → Bool = λ row. unwrap_or (slice_get flags row) false in
        any ∙ list_any-from_Any test prototype.params (in_list.0, type, in_list.1, in_list.2, (say type).1 floats)

-- ---- members

pub field_by_class : (ids : Ids) (row : ℕ) (stated : FieldRow) (flag : Bool) → slice_get ids.fields row ≡ Some stated → (IsTrue flag ↔ IsFloating (type_name ids stated.class)) → flag ≡ true → IsTrue flag ↔ FieldFloats ids row
field_by_class ids row stated flag there says t = (λ u. FieldFloats.by_class there (says.0 u), λ f. t)

pub field_by_kind : (ids : Ids) (row : ℕ) (stated : FieldRow) (flag other : Bool) → slice_get ids.fields row ≡ Some stated → (IsTrue flag ↔ IsFloating (type_name ids stated.class)) → flag ≡ false →
    (IsTrue other ↔ IsFloating (type_name ids stated.kind)) → IsTrue other ↔ FieldFloats ids row
field_by_kind ids row stated flag other there says f kinds = (λ u. FieldFloats.by_kind there (kinds.0 u), back)
  where
    back : FieldFloats ids row → IsTrue other
    back (FieldFloats.by_class {stated = same} there' floats) =
        let is : same ≡ stated = cc in
        let t = says.1 (subst (λ (it : FieldRow). IsFloating (type_name ids it.class)) is floats) in
        absurd cc
    back (FieldFloats.by_kind {stated = same} there' floats) =
        let is : same ≡ stated = cc in
        kinds.1 (subst (λ (it : FieldRow). IsFloating (type_name ids it.kind)) is floats)

pub no_field : (ids : Ids) (row : ℕ) → slice_get ids.fields row ≡ None → ¬ FieldFloats ids row
no_field ids row none (FieldFloats.by_class there floats) = absurd cc
no_field ids row none (FieldFloats.by_kind there floats) = absurd cc

pub method_by_class : (ids : Ids) (row : ℕ) (stated : MethodRow) (flag : Bool) → slice_get ids.methods row ≡ Some stated → (IsTrue flag ↔ IsFloating (type_name ids stated.class)) → flag ≡ true → IsTrue flag ↔ MethodFloats ids row
method_by_class ids row stated flag there says t = (λ u. MethodFloats.by_class there (says.0 u), λ f. t)

pub method_by_proto : (ids : Ids) (row : ℕ) (stated : MethodRow) (flag other : Bool) → slice_get ids.methods row ≡ Some stated → (IsTrue flag ↔ IsFloating (type_name ids stated.class)) → flag ≡ false →
    (IsTrue other ↔ ProtoFloats ids stated.proto) → IsTrue other ↔ MethodFloats ids row
method_by_proto ids row stated flag other there says f protos = (λ u. found (protos.0 u), back)
  where
    by : (prototype : ProtoRow) → slice_get ids.protos stated.proto ≡ Some prototype → PrototypeFloats ids prototype → MethodFloats ids row
    by prototype at (PrototypeFloats.by_result floats) = MethodFloats.by_result there at floats
    by prototype at (PrototypeFloats.by_parameter in_list floats) = MethodFloats.by_parameter there at in_list floats

    found : ProtoFloats ids stated.proto → MethodFloats ids row
    found floats = by floats.stated floats.there floats.floats

    back : MethodFloats ids row → IsTrue other
    back (MethodFloats.by_class {stated = same} there' floats) =
        let is : same ≡ stated = cc in
        let t = says.1 (subst (λ (it : MethodRow). IsFloating (type_name ids it.class)) is floats) in
        absurd cc
    back (MethodFloats.by_result {stated = same} {prototype = prototype} there' at floats) =
        let is : same ≡ stated = cc in
        protos.1 (record { stated = prototype; there = ap (λ (it : MethodRow). slice_get ids.protos it.proto) (sym is) ∙ at; floats = PrototypeFloats.by_result floats })
    back (MethodFloats.by_parameter {stated = same} {prototype = prototype} there' at in_list floats) =
        let is : same ≡ stated = cc in
        protos.1 (record { stated = prototype; there = ap (λ (it : MethodRow). slice_get ids.protos it.proto) (sym is) ∙ at; floats = PrototypeFloats.by_parameter in_list floats })

pub no_method : (ids : Ids) (row : ℕ) → slice_get ids.methods row ≡ None → ¬ MethodFloats ids row
no_method ids row none (MethodFloats.by_class there floats) = absurd cc
no_method ids row none (MethodFloats.by_result there at floats) = absurd cc
no_method ids row none (MethodFloats.by_parameter there at in_list floats) = absurd cc

-- ---- one more row

pub type_flag : (ids : Ids) (items : List ℕ) (number : ℕ) (name : List ℕ) (flag : Bool) → items ≡ ids.types → number < length items → name ≡ text_of ids (get_or items number 0) →
    (IsTrue flag ↔ IsFloating name) → IsTrue flag ↔ IsFloating (type_name ids number)
type_flag ids items number name flag same h is says =
    let there : slice_get ids.types number ≡ Some (get_or items number 0) = ap (λ (xs : List ℕ). slice_get xs number) (sym same) ∙ slice_get-get_or items number 0 h in
    subst (λ (units : List ℕ). IsTrue flag ↔ IsFloating units) (is ∙ sym (type_here ids number (get_or items number 0) there)) says

pub proto_flag : (ids : Ids) (items : List ProtoRow) (row : ℕ) (stated : ProtoRow) (flag : Bool) → items ≡ ids.protos → slice_get items row ≡ Some stated →
    (IsTrue flag ↔ PrototypeFloats ids stated) → IsTrue flag ↔ ProtoFloats ids row
proto_flag ids items row stated flag same there says = proto_here ids row stated flag (ap (λ (xs : List ProtoRow). slice_get xs row) (sym same) ∙ there) says
