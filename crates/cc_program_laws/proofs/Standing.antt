-- What a program of a file names is there.
use Rattle.std.proofs.Common.{◌≡◌, ◌≢◌, inl, inr, ℕ, zero, suc, ◌<◌, ◌≤◌, Bool, true, false, List, [], ◌∷◌, ◌++◌, length, map, Option, Some, None, refl, sym, ap, ◌∙◌, subst, arith}
use Rattle.std.specs.Prelude.{slice_get, position, option_and_then, if◌then◌else◌, slice_index, slice_index_or, unwrap_or, replicate}
use Rattle.std.proofs.lemmas.Bool.{cases_lt}
use Rattle.std.proofs.lemmas.Bool.Decides.{Decides-eqb}
use Rattle.std.proofs.lemmas.Option.{slice_get_within, slice_get_past}
use Rattle.cc_meaning.specs.declared.file.Ids.{Ids}
use Rattle.cc_meaning.specs.declared.file.RawClass.{RawClass}
use Rattle.cc_meaning.specs.declared.file.RawCode.{RawCode}
use Rattle.cc_meaning.specs.declared.file.RawMethod.{RawMethod}
use Rattle.cc_meaning.specs.declared.instruction.Insn.{Insn}
use Rattle.cc_meaning.specs.declared.instruction.Insn.TheVariants as insn
use Rattle.cc_meaning.specs.declared.instruction.MethodRef.{MethodRef}
use Rattle.cc_meaning.specs.declared.instruction.MethodRef.TheVariants as ref
use Rattle.cc_meaning.specs.declared.instruction.TypeRef.{TypeRef}
use Rattle.cc_meaning.specs.declared.instruction.TypeRef.TheVariants as type
use Rattle.cc_meaning.specs.declared.program.Base.{Base}
use Rattle.cc_meaning.specs.declared.program.Base.TheVariants as base
use Rattle.cc_meaning.specs.declared.program.Class.{Class}
use Rattle.cc_meaning.specs.declared.program.ClassKind.{ClassKind}
use Rattle.cc_meaning.specs.declared.program.ClassKind.TheVariants.{File, BuiltIn, Outside, OutsideError, Array}
use Rattle.cc_meaning.specs.declared.program.Code.{Code}
use Rattle.cc_meaning.specs.declared.program.DexType.{DexType}
use Rattle.cc_meaning.specs.declared.program.Field.{Field}
use Rattle.cc_meaning.specs.declared.program.Method.{Method}
use Rattle.cc_meaning.specs.declared.program.MethodKind.{MethodKind}
use Rattle.cc_meaning.specs.declared.program.MethodKind.TheVariants as kinds
use Rattle.cc_meaning.specs.declared.program.Program.{Program}
use Rattle.cc_meaning.specs.BuiltIn.{is_built_in}
use Rattle.cc_meaning.specs.Lookup.{class_named}
use Rattle.cc_meaning.specs.Names.{name_or_none}
use Rattle.cc_meaning_dex.specs.Descriptors.{begins_with, names_class, names_reference}
use Rattle.cc_meaning_program.specs.ClassFaults.{AreSound}
use Rattle.cc_meaning_program.specs.ClassNames.{IsClassName}
use Rattle.cc_meaning_program.specs.Named.{type_name}
use Rattle.cc_meaning_program.specs.References.{reference_of, named_type, named_method}
use Rattle.cc_meaning_program.specs.TypeNames.{base_spelled, type_spelled, IsBase, Spells}
use Rattle.cc_meaning_program.specs.Ancestry.{is_defined, is_exception, is_error, kind_of_class, outside_kind}
use Rattle.cc_meaning_program.specs.Members.{CatchKind, CodeResolved, IsField, IsMethod, KindResolved, Pairs, ResultSpelled}
use Rattle.cc_meaning_program.specs.Programs.{IsProgram}
use Rattle.cc_meaning_program.specs.Resolved.{names_of, TypeResolved, MethodResolved, FieldResolved, InsnResolved}
use Rattle.cc_meaning_program.proofs.Alike.{descriptor_by_names}
use Rattle.cc_meaning_program.specs.Rows.{FitTables}
use Rattle.cc_meaning_typing.specs.Complete.{BaseStands, TypeStands, AnyTypeStands, ArrayStands, NamedStands, CalledStands, InsnStands, CodeStands, MethodStands, FieldStands}
use Rattle.cc_program_laws.proofs.Lists.{some_same, position_is}
use Rattle.cc_program_laws.proofs.Raw.{IsRaw, all_raw}
use Rattle.cc_program_laws.proofs.WellFormed.{pair_at, resolved_code}
use Rattle.cc_program_laws.proofs.Hierarchy.{numbered, in_names}

-- ---- places

pub place_within : {A : Type 0} (test : A → Bool) (xs : List A) (k : ℕ) → position test xs ≡ Some k → k < length xs
place_within test xs k e = let found = position_is test xs k e in slice_get_within xs k found.0 found.1

-- ---- where a class comes from, by its name

kind_by : (name : List ℕ) (b d a x r : Bool) → ClassKind
kind_by name true d a x r = BuiltIn
kind_by name false true a x r = File
kind_by name false false true x r = Array
kind_by name false false false true r = OutsideError
kind_by name false false false false true = OutsideError
kind_by name false false false false false = Outside

kind_is : (ids : Ids) (name : List ℕ) → kind_of_class ids name ≡ kind_by name (is_built_in name) (is_defined ids name) (begins_with 91 name) (is_exception name) (is_error name)
unfolding kind_of_class outside_kind kind_by
kind_is ids name = from (is_built_in name) (is_defined ids name) (begins_with 91 name) (is_exception name) (is_error name)
  where
    from : (b d a x r : Bool) → (if b then BuiltIn else if d then File else if a then Array else if x then OutsideError else if r then OutsideError else Outside) ≡ kind_by name b d a x r
    from true d a x r = refl
    from false true a x r = refl
    from false false true x r = refl
    from false false false true r = refl
    from false false false false true = refl
    from false false false false false = refl

pub array_begins : (ids : Ids) (name : List ℕ) → kind_of_class ids name ≡ Array → begins_with 91 name ≡ true
unfolding kind_by
array_begins ids name e = from (is_built_in name) (is_defined ids name) (begins_with 91 name) (is_exception name) (is_error name) (sym (kind_is ids name) ∙ e)
  where
    from : (b d a x r : Bool) → kind_by name b d a x r ≡ Array → a ≡ true
    from true d a x r e = absurd cc
    from false true a x r e = absurd cc
    from false false true x r e = refl
    from false false false true r e = absurd cc
    from false false false false true e = absurd cc
    from false false false false false e = absurd cc

pub built_in_listed : (ids : Ids) (name : List ℕ) → kind_of_class ids name ≡ BuiltIn → is_built_in name ≡ true
unfolding kind_by
built_in_listed ids name e = from (is_built_in name) (is_defined ids name) (begins_with 91 name) (is_exception name) (is_error name) (sym (kind_is ids name) ∙ e)
  where
    from : (b d a x r : Bool) → kind_by name b d a x r ≡ BuiltIn → b ≡ true
    from true d a x r e = refl
    from false true a x r e = absurd cc
    from false false true x r e = absurd cc
    from false false false true r e = absurd cc
    from false false false false true e = absurd cc
    from false false false false false e = absurd cc

pub file_defined : (ids : Ids) (name : List ℕ) → kind_of_class ids name ≡ File → is_defined ids name ≡ true
unfolding kind_by
file_defined ids name e = from (is_built_in name) (is_defined ids name) (begins_with 91 name) (is_exception name) (is_error name) (sym (kind_is ids name) ∙ e)
  where
    from : (b d a x r : Bool) → kind_by name b d a x r ≡ File → d ≡ true
    from true d a x r e = absurd cc
    from false true a x r e = refl
    from false false true x r e = absurd cc
    from false false false true r e = absurd cc
    from false false false false true e = absurd cc
    from false false false false false e = absurd cc

pub built_in_kind : (ids : Ids) (name : List ℕ) → is_built_in name ≡ true → kind_of_class ids name ≡ BuiltIn
unfolding kind_by
built_in_kind ids name e = kind_is ids name ∙ ap (λ b. kind_by name b (is_defined ids name) (begins_with 91 name) (is_exception name) (is_error name)) e

pub file_kind : (ids : Ids) (name : List ℕ) → is_built_in name ≡ false → is_defined ids name ≡ true → kind_of_class ids name ≡ File
unfolding kind_by
file_kind ids name other defined =
    kind_is ids name
    ∙ (ap (λ b. kind_by name b (is_defined ids name) (begins_with 91 name) (is_exception name) (is_error name)) other
    ∙ ap (λ d. kind_by name false d (begins_with 91 name) (is_exception name) (is_error name)) defined)

two_firsts : (name : List ℕ) → names_class name ≡ true → begins_with 91 name ≡ true → ⊥
two_firsts name class array =
    let one : slice_index name 0 ≡ 76 = (Decides-eqb (slice_index name 0) 76).0 class in
    let other : slice_index name 0 ≡ 91 = (Decides-eqb (slice_index name 0) 91).0 array in
    omega (arith, one, other)

-- what goes with an item of the first list
first_at : {A B : Type 0} {holds : A → B → Type 0} (xs : List A) (ys : List B) → Pairs holds xs ys → (k : ℕ) (x : A) → slice_get xs k ≡ Some x → (y : B) × holds x y
first_at _ _ Pairs.none k x e = absurd cc
first_at {holds = holds} _ _ (Pairs.next {x = w} {y = y} one rest) zero x e = (y, subst (λ v. holds v y) (some_same w x e) one)
first_at _ _ (Pairs.next {xs = xs} {ys = ys} one rest) (suc k) x e = first_at xs ys rest k x e

name_at : (classes : List Class) (k : ℕ) → name_or_none (slice_get classes k) ≡ slice_index_or (map (λ (class : Class). class.name) classes) k []
name_at [] k = refl
name_at (class ∷ classes) zero = refl
name_at (class ∷ classes) (suc k) = name_at classes k

type_missing : (ids : Ids) (row : ℕ) → length ids.types ≤ row → type_name ids row ≡ []
unfolding type_name
type_missing ids row beyond = ap (λ o. unwrap_or (option_and_then (slice_get ids.texts) o) []) (slice_get_past ids.types row beyond)

-- ---- a program of a file

module _ (ids : Ids) (classes : List RawClass) (asked : Option (List ℕ)) (program : Program) (fit : FitTables ids) (sound : AreSound ids classes) (is : IsProgram ids classes asked program) where
  base_stands : (b : Base) → IsBase (names_of program) b → BaseStands program b
  unfolding names_of
  base_stands base.Boolean based = tt
  base_stands base.Byte based = tt
  base_stands base.Short based = tt
  base_stands base.Char based = tt
  base_stands base.Int based = tt
  base_stands base.Long based = tt
  base_stands (base.Class class) based = from (slice_get program.classes class) refl (subst (λ n. names_class n ≡ true) (sym (name_at program.classes class)) based)
    where
      from : (o : Option Class) → slice_get program.classes class ≡ o → names_class (name_or_none o) ≡ true → (found : Class) × (slice_get program.classes class ≡ Some found) × (found.kind ≢ Array)
      from None there named = absurd (let no : names_class [] ≡ false = refl in cc)
      from (Some found) there named = (found, there, λ array. two_firsts found.name named (array_begins ids found.name (sym (is.each_class class found there).kind ∙ array)))

  pub type_stands : (type : DexType) (text : List ℕ) → Spells (names_of program) type text → TypeStands program type
  type_stands type text spells = record { few = spells.few; base = base_stands type.base spells.based }

  result_stands : (answer : Option DexType) (text : List ℕ) → ResultSpelled (names_of program) answer text → AnyTypeStands program answer
  result_stands None text spells = tt
  result_stands (Some type) text spells = type_stands type text spells

  -- an array that instructions name is listed among the types
  array_listed : (row : ℕ) (named : DexType) → Spells (names_of program) named (type_name ids row) → 0 < named.dims → IsClassName ids (type_name ids row)
  unfolding type_spelled
  array_listed row named spells some = IsClassName.listed there (front named.dims some (sym spells.spelled))
    where
      front : (n : ℕ) → 0 < n → type_name ids row ≡ replicate n 91 ++ base_spelled (names_of program) named.base → names_reference (type_name ids row) ≡ true
      front zero less e = absurd (omega (arith, less))
      front (suc n) less e = ap names_reference e

      none : type_name ids row ≡ [] → (n : ℕ) → 0 < n → type_name ids row ≡ replicate n 91 ++ base_spelled (names_of program) named.base → ⊥
      none empty zero less e = omega (arith, less)
      none empty (suc n) less e = absurd cc

      there : row < length ids.types
      there = elim (cases_lt row (length ids.types)) [
        | inl within ↦ within
        | inr beyond ↦ absurd (none (type_missing ids row beyond) named.dims some (sym spells.spelled))
      ]

  array_stands : (row : ℕ) (named : DexType) → Spells (names_of program) named (type_name ids row) → ArrayStands program named
  array_stands row named spells some =
      let place = in_names ids classes asked program fit sound is (type_name ids row) (array_listed row named spells some) in
      (place.0, subst (λ n. class_named n program ≡ Some place.0) (sym (descriptor_by_names program named ∙ spells.spelled)) (numbered ids classes asked program fit sound is place.0 (type_name ids row) place.1))

  -- ---- instructions

  named_stands : (named known : TypeRef) → TypeResolved ids program named known → NamedStands program known
  named_stands _ _ (TypeResolved.named {row = row} {known = known} spells) = (type_stands known (type_name ids row) spells, array_stands row known spells)

  called_stands : (named known : MethodRef) → MethodResolved ids classes program named known → CalledStands program known
  called_stands _ _ (MethodResolved.named {class = class} {number = number} there of_class names is_method) = (place_within _ program.classes class of_class, place_within _ program.methods number is_method)

  field_within : (row number : ℕ) → FieldResolved ids classes program row number → number < length program.fields
  field_within row number resolved = place_within _ program.fields number resolved.numbered

  -- what names nothing stands
  idle_stands : (made : Insn) → IsRaw made → reference_of made ≡ None → InsnStands program made
  unfolding reference_of named_type named_method
  idle_stands insn.Nop raw e = tt
  idle_stands (insn.Move kind to from) raw e = tt
  idle_stands (insn.MoveResult kind to) raw e = tt
  idle_stands (insn.MoveException to) raw e = tt
  idle_stands insn.ReturnVoid raw e = tt
  idle_stands (insn.Return kind from) raw e = tt
  idle_stands (insn.ConstInt to value) raw e = tt
  idle_stands (insn.ConstLong to value) raw e = tt
  idle_stands (insn.ConstText to text) raw e = absurd cc
  idle_stands (insn.ConstClass to (type.Row row)) raw e = absurd cc
  idle_stands (insn.ConstClass to (type.Known known)) raw e = absurd raw
  idle_stands (insn.Monitor enter object) raw e = tt
  idle_stands (insn.CheckCast object (type.Row row)) raw e = absurd cc
  idle_stands (insn.CheckCast object (type.Known known)) raw e = absurd raw
  idle_stands (insn.InstanceOf to object (type.Row row)) raw e = absurd cc
  idle_stands (insn.InstanceOf to object (type.Known known)) raw e = absurd raw
  idle_stands (insn.ArrayLength to array) raw e = tt
  idle_stands (insn.NewInstance to (type.Row row)) raw e = absurd cc
  idle_stands (insn.NewInstance to (type.Known known)) raw e = absurd raw
  idle_stands (insn.NewArray to size (type.Row row)) raw e = absurd cc
  idle_stands (insn.NewArray to size (type.Known known)) raw e = absurd raw
  idle_stands (insn.FilledNewArray (type.Row row) args) raw e = absurd cc
  idle_stands (insn.FilledNewArray (type.Known known) args) raw e = absurd raw
  idle_stands (insn.FillArray array target) raw e = tt
  idle_stands (insn.Throw object) raw e = tt
  idle_stands (insn.Goto target) raw e = tt
  idle_stands (insn.Switch packed value target) raw e = tt
  idle_stands (insn.CompareLong to left right) raw e = tt
  idle_stands (insn.If test left right target) raw e = tt
  idle_stands (insn.IfZero test value target) raw e = tt
  idle_stands (insn.ArrayGet kind to array index) raw e = tt
  idle_stands (insn.ArrayPut kind from array index) raw e = tt
  idle_stands (insn.FieldGet kind to object field) raw e = absurd cc
  idle_stands (insn.FieldPut kind from object field) raw e = absurd cc
  idle_stands (insn.StaticGet kind to field) raw e = absurd cc
  idle_stands (insn.StaticPut kind from field) raw e = absurd cc
  idle_stands (insn.Invoke how (ref.Row row) args) raw e = absurd cc
  idle_stands (insn.Invoke how (ref.Known class method) args) raw e = absurd raw
  idle_stands (insn.IntUnary op to from) raw e = tt
  idle_stands (insn.LongUnary op to from) raw e = tt
  idle_stands (insn.Convert op to from) raw e = tt
  idle_stands (insn.IntOp op to left right) raw e = tt
  idle_stands (insn.LongOp op to left right) raw e = tt
  idle_stands (insn.IntLit op reversed to left literal) raw e = tt
  idle_stands (insn.PackedPayload first targets) raw e = tt
  idle_stands (insn.SparsePayload keys targets) raw e = tt
  idle_stands (insn.ArrayPayload width bytes) raw e = tt

  insn_stands : (raw made : Insn) → IsRaw raw → InsnResolved ids classes program raw made → InsnStands program made
  insn_stands _ _ raw (InsnResolved.same {other = other} none) = idle_stands other raw none
  insn_stands _ _ raw (InsnResolved.text {number = number} text) = place_within _ program.texts number text
  insn_stands _ _ raw (InsnResolved.class {named = named} {known = known} is) = named_stands named known is
  insn_stands _ _ raw (InsnResolved.cast {named = named} {known = known} is) = named_stands named known is
  insn_stands _ _ raw (InsnResolved.instance {named = named} {known = known} is) = named_stands named known is
  insn_stands _ _ raw (InsnResolved.object {named = named} {known = known} is) = named_stands named known is
  insn_stands _ _ raw (InsnResolved.array {named = named} {known = known} is) = named_stands named known is
  insn_stands _ _ raw (InsnResolved.filled {named = named} {known = known} is) = named_stands named known is
  insn_stands _ _ raw (InsnResolved.field_read {row = row} {number = number} is) = field_within row number is
  insn_stands _ _ raw (InsnResolved.field_written {row = row} {number = number} is) = field_within row number is
  insn_stands _ _ raw (InsnResolved.static_read {row = row} {number = number} is) = field_within row number is
  insn_stands _ _ raw (InsnResolved.static_written {row = row} {number = number} is) = field_within row number is
  insn_stands _ _ raw (InsnResolved.call {named = named} {known = known} is) = called_stands named known is

  -- ---- code

  catch_stands : (row : Option ℕ) (kind : Option DexType) → CatchKind ids program row kind → AnyTypeStands program kind
  catch_stands None None is = tt
  catch_stands None (Some type) is = absurd is
  catch_stands (Some row) None is = absurd is
  catch_stands (Some row) (Some type) spells = type_stands type (type_name ids row) spells

  code_stands : (raw : RawCode) (code : Code) → CodeResolved ids classes program raw code → CodeStands program code
  code_stands raw code resolved = record {
    insns = λ k placed e.
        let old = pair_at resolved.decoded code.insns resolved.insns k placed e in
        insn_stands old.0.insn placed.insn (all_raw raw.units resolved.decoded resolved.instructions k old.0 old.1) old.2.insn;
    catches = λ k n try catch there found.
        let old = pair_at raw.tries code.tries resolved.tries k try there in
        let of = pair_at old.0.catches try.catches old.2.catches n catch found in
        catch_stands of.0.row catch.kind of.2.kind;
  }

  kind_stands : (raw : RawMethod) (kind : MethodKind) (code : Code) → KindResolved ids classes program raw kind → kind ≡ kinds.Code code → CodeStands program code
  kind_stands raw kind code resolved e = let of = resolved_code ids classes program raw kind code resolved e in code_stands of.0 code of.2

  -- ---- members

  params_stand : (params : List DexType) (texts : List (List ℕ)) → Pairs (Spells (names_of program)) params texts → (k : ℕ) (type : DexType) → slice_get params k ≡ Some type → TypeStands program type
  params_stand params texts spelled k type e = let of = first_at params texts spelled k type e in type_stands type of.0 of.1

  method_stands : (owner member : List ℕ) (method : Method) → class_named owner program ≡ Some method.class → IsMethod ids classes program owner member method → MethodStands program method
  method_stands owner member method of_class (IsMethod.defined {raw = raw} defined named static virtual kind) = record {
    class = place_within _ program.classes method.class of_class;
    params = params_stand method.params _ named.params;
    result = result_stands method.result _ named.result;
    code = λ code e. kind_stands raw method.kind code kind e;
  }
  method_stands owner member method of_class (IsMethod.built_in missing listed name params result static virtual kind) = record {
    class = place_within _ program.classes method.class of_class;
    params = params_stand method.params _ params;
    result = result_stands method.result _ result;
    code = λ code e. absurd cc;
  }
  method_stands owner member method of_class (IsMethod.outside missing unlisted all first refers named static virtual kind) = record {
    class = place_within _ program.classes method.class of_class;
    params = params_stand method.params _ named.params;
    result = result_stands method.result _ named.result;
    code = λ code e. absurd cc;
  }

  pub methods_stand : (k : ℕ) (method : Method) → slice_get program.methods k ≡ Some method → MethodStands program method
  methods_stand k method e = let each = is.each_method k method e in method_stands each.0 each.1 method each.2 each.4

  field_type : (owner member : List ℕ) (field : Field) → IsField ids classes program owner member field → TypeStands program field.ty
  field_type owner member field (IsField.defined defined named static) = type_stands field.ty _ named.ty
  field_type owner member field (IsField.out of_system of_out missing name spells static) = type_stands field.ty _ spells
  field_type owner member field (IsField.outside other missing all first refers named static) = type_stands field.ty _ named.ty

  pub fields_stand : (k : ℕ) (field : Field) → slice_get program.fields k ≡ Some field → FieldStands program field
  fields_stand k field e = let each = is.each_field k field e in record { class = place_within _ program.classes field.class each.2; ty = field_type each.0 each.1 field each.4 }
