-- That lists of members are spelled where they are written.
use Rattle.std.proofs.Common.{◌≡◌, ℕ, ◌+◌, ◌-◌, ◌^◌, ◌<◌, ◌≤◌, Bool, List, [], ◌∷◌, ◌++◌, length, All, refl, subst, arith, length-append}
use Rattle.std.proofs.lemmas.List.Elements.{All-head, All-tail}
use Rattle.cc_meaning.specs.declared.file.Ids.{Ids}
use Rattle.cc_meaning.specs.declared.file.RawField.{RawField}
use Rattle.cc_meaning_dex.specs.Numbers.{Stands}
use Rattle.cc_meaning_dex.specs.declared.items.StatedMethod.{StatedMethod}
use Rattle.cc_meaning_dex.specs.Members.{FieldStands, MethodStands}
use Rattle.cc_meaning_dex.specs.Rows.{IsFieldOf, IsMethodOf}
use Rattle.cc_meaning_dex.specs.Sequences.{ListStands}
use Rattle.cc_meaning_builder.specs.Forms.{uleb_form, fields_form, methods_form}
use Rattle.cc_builder_laws.proofs.Following.{cursor, FollowBytes, list_stands}
use Rattle.cc_builder_laws.specs.Lower.{Lower}
use Rattle.cc_builder_laws.proofs.Ordered.{Rises}

behind : (before row : ℕ) → before ≤ row → row ≡ before + (row - before)
behind before row rises = omega arith

-- ---- fields

pub record FieldFits (ids : Ids) (class : ℕ) (field : RawField) : Type 0 where
  pub number : field.row < 2 ^ 32
  pub access : field.flags < 2 ^ 32
  pub owned : IsFieldOf ids class field.row

fields_follow : Lower → (file : List ℕ) (ids : Ids) (class : ℕ) (is_static : Bool) (at before : ℕ) (fields : List RawField) → All (FieldFits ids class) fields →
    All (λ field. field.is_static ≡ is_static) fields → Rises (λ field. field.row) before fields → Stands file at (fields_form before fields) →
    FollowBytes (FieldStands file ids class is_static) (cursor at before) fields (length (fields_form before fields))
unfolding fields_form
fields_follow low file ids class is_static at before [] fit agree rises stands = (cursor at before, refl, omega arith)
fields_follow low file ids class is_static at before (field ∷ fields) fit agree rises stands =
    let fits = All-head (FieldFits ids class) field fields fit in
    let step = low.apart file at (uleb_form (field.row - before)) (uleb_form field.flags ++ fields_form field.row fields) stands in
    let place : ℕ = at + length (uleb_form (field.row - before)) in
    let flags = low.apart file place (uleb_form field.flags) (fields_form field.row fields) step.1 in
    let next : ℕ = place + length (uleb_form field.flags) in
    let others = fields_follow low file ids class is_static next field.row fields (All-tail (FieldFits ids class) field fields fit)
    (All-tail (λ (other : RawField). other.is_static ≡ is_static) field fields agree) rises.1 flags.1 in
    let same = behind before field.row rises.0 in
    let first : FieldStands file ids class is_static (cursor at before) field (cursor next field.row) = record {
      difference = field.row - before;
      place = place;
      step = low.uleb file at (field.row - before) (omega (arith, fits.number)) step.0;
      flags = low.uleb file place field.flags fits.access flags.0;
      row = same;
      fits = subst (λ row. row < 2 ^ 32) same fits.number;
      owned = subst (IsFieldOf ids class) same fits.owned;
      list = All-head (λ (other : RawField). other.is_static ≡ is_static) field fields agree;
      behind = same;
    } in
    (others.0, (cursor next field.row, first, others.1), simp length-append (omega (arith, others.2)))

pub fields_stand : Lower → (file : List ℕ) (ids : Ids) (class : ℕ) (is_static : Bool) (at : ℕ) (fields : List RawField) → All (FieldFits ids class) fields →
    All (λ field. field.is_static ≡ is_static) fields → Rises (λ field. field.row) 0 fields → Stands file at (fields_form 0 fields) →
    ListStands (FieldStands file ids class is_static) (length fields) at fields (at + length (fields_form 0 fields))
fields_stand low file ids class is_static at fields fit agree rises stands =
    list_stands (FieldStands file ids class is_static) at fields (length (fields_form 0 fields)) (fields_follow low file ids class is_static at 0 fields fit agree rises stands)

-- ---- methods

pub record MethodFits (ids : Ids) (class : ℕ) (method : StatedMethod) : Type 0 where
  pub number : method.row < 2 ^ 32
  pub access : method.flags < 2 ^ 32
  pub place : method.code_at < 2 ^ 32
  pub owned : IsMethodOf ids class method.row

methods_follow : Lower → (file : List ℕ) (ids : Ids) (class : ℕ) (is_direct : Bool) (at before : ℕ) (methods : List StatedMethod) → All (MethodFits ids class) methods →
    All (λ method. method.is_direct ≡ is_direct) methods → Rises (λ method. method.row) before methods → Stands file at (methods_form before methods) →
    FollowBytes (MethodStands file ids class is_direct) (cursor at before) methods (length (methods_form before methods))
unfolding methods_form
methods_follow low file ids class is_direct at before [] fit agree rises stands = (cursor at before, refl, omega arith)
methods_follow low file ids class is_direct at before (method ∷ methods) fit agree rises stands =
    let fits = All-head (MethodFits ids class) method methods fit in
    let step = low.apart file at (uleb_form (method.row - before)) (uleb_form method.flags ++ (uleb_form method.code_at ++ methods_form method.row methods)) stands in
    let flags_at : ℕ = at + length (uleb_form (method.row - before)) in
    let flags = low.apart file flags_at (uleb_form method.flags) (uleb_form method.code_at ++ methods_form method.row methods) step.1 in
    let code_place : ℕ = flags_at + length (uleb_form method.flags) in
    let code = low.apart file code_place (uleb_form method.code_at) (methods_form method.row methods) flags.1 in
    let next : ℕ = code_place + length (uleb_form method.code_at) in
    let others = methods_follow low file ids class is_direct next method.row methods (All-tail (MethodFits ids class) method methods fit)
    (All-tail (λ (other : StatedMethod). other.is_direct ≡ is_direct) method methods agree) rises.1 code.1 in
    let same = behind before method.row rises.0 in
    let first : MethodStands file ids class is_direct (cursor at before) method (cursor next method.row) = record {
      difference = method.row - before;
      flags_at = flags_at;
      code_place = code_place;
      step = low.uleb file at (method.row - before) (omega (arith, fits.number)) step.0;
      flags = low.uleb file flags_at method.flags fits.access flags.0;
      code = low.uleb file code_place method.code_at fits.place code.0;
      row = same;
      fits = subst (λ row. row < 2 ^ 32) same fits.number;
      owned = subst (IsMethodOf ids class) same fits.owned;
      list = All-head (λ (other : StatedMethod). other.is_direct ≡ is_direct) method methods agree;
      behind = same;
    } in
    (others.0, (cursor next method.row, first, others.1), simp length-append (omega (arith, others.2)))

pub methods_stand : Lower → (file : List ℕ) (ids : Ids) (class : ℕ) (is_direct : Bool) (at : ℕ) (methods : List StatedMethod) → All (MethodFits ids class) methods →
    All (λ method. method.is_direct ≡ is_direct) methods → Rises (λ method. method.row) 0 methods → Stands file at (methods_form 0 methods) →
    ListStands (MethodStands file ids class is_direct) (length methods) at methods (at + length (methods_form 0 methods))
methods_stand low file ids class is_direct at methods fit agree rises stands =
    list_stands (MethodStands file ids class is_direct) at methods (length (methods_form 0 methods)) (methods_follow low file ids class is_direct at 0 methods fit agree rises stands)
