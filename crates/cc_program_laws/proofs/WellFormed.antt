-- Each program of a file is well formed.
use Rattle.std.proofs.Common.{◌≡◌, inl, inr, ℕ, zero, suc, ◌+◌, ◌<◌, ◌^◌, Bool, true, false, List, [], ◌∷◌, ◌++◌, length, map, cond, Option, Some, None, refl, sym, ap, ◌∙◌, subst, arith}
use Rattle.std.specs.Prelude.{slice_get, slice_index, ◌==◌, IsTrue, option_and_then, position}
use Rattle.std.specs.Str.{bytes_eq}
use Rattle.std.proofs.lemmas.Bool.Decides.{Decides-eqb}
use Rattle.std.proofs.lemmas.Option.{slice_get-get_or}
use Rattle.cc_meaning.specs.declared.file.ClassRow.{ClassRow}
use Rattle.cc_meaning.specs.declared.file.Ids.{Ids}
use Rattle.cc_meaning.specs.declared.file.RawClass.{RawClass}
use Rattle.cc_meaning.specs.declared.file.RawCode.{RawCode}
use Rattle.cc_meaning.specs.declared.file.RawMethod.{RawMethod}
use Rattle.cc_meaning.specs.declared.program.Class.{Class}
use Rattle.cc_meaning.specs.declared.program.Code.{Code}
use Rattle.cc_meaning.specs.declared.program.Method.{Method}
use Rattle.cc_meaning.specs.declared.program.MethodKind.{MethodKind}
use Rattle.cc_meaning.specs.declared.program.MethodKind.TheVariants as kinds
use Rattle.cc_meaning.specs.declared.program.Program.{Program}
use Rattle.cc_meaning.specs.BuiltIn.{BuiltInClass, is_built_in, built_in_classes, built_in_plain_classes, built_in_throwables, object_name, string_name, string_builder_name, system_name, print_stream_name, throwable_name, exception_name, error_name, runtime_exception_name, arithmetic_exception_name, null_pointer_exception_name, array_store_exception_name, class_cast_exception_name, index_out_of_bounds_exception_name, negative_array_size_exception_name, illegal_argument_exception_name, illegal_state_exception_name, array_index_out_of_bounds_exception_name, string_index_out_of_bounds_exception_name, linkage_error_name, virtual_machine_error_name, no_class_def_found_error_name, exception_in_initializer_error_name, incompatible_class_change_error_name, abstract_method_error_name, stack_overflow_error_name}
use Rattle.cc_meaning_dex.specs.Descriptors.{dimensions, IsDescriptor, IsValue, is_primitive}
use Rattle.cc_meaning_program.specs.ClassNames.{IsClassName, base_name, texts_name}
use Rattle.cc_meaning_program.specs.CodeSizes.{HaveFewUnits}
use Rattle.cc_meaning_program.specs.Instructions.{AreLaidOut, InstructionsLaidOut}
use Rattle.cc_meaning_program.specs.Named.{type_name, method_member}
use Rattle.cc_meaning_program.specs.OwnMembers.{method_defined, method_among, members_of}
use Rattle.cc_meaning_program.specs.Members.{CodeResolved, IsMethod, KindResolved, Pairs}
use Rattle.cc_meaning_program.specs.Resolved.{names_of}
use Rattle.cc_meaning_program.specs.Rows.{FitTables}
use Rattle.cc_meaning_typing.specs.Code.{brackets}
use Rattle.cc_meaning_typing.specs.WellFormed.{IsLaidOut}
use Rattle.cc_program_laws.specs.Laws.{ProgramsAreWellFormed}
use Rattle.cc_program_laws.proofs.Names.{any_found}
use Rattle.cc_program_laws.proofs.Lists.{found_contained, some_same, found_is, rising_unmapped, mapped_found, same_bytes}
use Rattle.cc_program_laws.proofs.Hierarchy.{hierarchy}

-- ---- code

-- what goes with an item, and with none
pub pair_at : {A B : Type 0} {holds : A → B → Type 0} (xs : List A) (ys : List B) → Pairs holds xs ys → (k : ℕ) (y : B) → slice_get ys k ≡ Some y → (x : A) × (slice_get xs k ≡ Some x) × holds x y
pair_at _ _ Pairs.none k y e = absurd cc
pair_at {holds = holds} _ _ (Pairs.next {x = x} {y = z} one rest) zero y e = (x, refl, subst (λ w. holds x w) (some_same z y e) one)
pair_at _ _ (Pairs.next {xs = xs} {ys = ys} one rest) (suc k) y e = pair_at xs ys rest k y e

laid_out_code : InstructionsLaidOut → (ids : Ids) (classes : List RawClass) (program : Program) (raw : RawCode) (code : Code) → length raw.units < 2 ^ 32 → CodeResolved ids classes program raw code → IsLaidOut code
laid_out_code law ids classes program raw code few is =
    let laid : AreLaidOut is.decoded (length raw.units) = law raw.units is.decoded is.instructions in
    record {
      begins = λ placed e. let old = pair_at is.decoded code.insns is.insns 0 placed e in old.2.at ∙ laid.begins old.0 old.1;
      follows = λ k placed next here there.
          let old = pair_at is.decoded code.insns is.insns k placed here in
          let behind = pair_at is.decoded code.insns is.insns (suc k) next there in
          behind.2.at ∙ (laid.follows k old.0 behind.0 old.1 behind.1 ∙ (ap (λ a. a + old.0.units) (sym old.2.at) ∙ ap (λ u. placed.at + u) (sym old.2.units)));
      takes = λ k placed e.
          let old = pair_at is.decoded code.insns is.insns k placed e in
          let some = laid.takes k old.0 old.1 in
          let units = old.2.units in
          omega (arith, some, units);
      fits = λ k placed e.
          let old = pair_at is.decoded code.insns is.insns k placed e in
          let within = laid.within k old.0 old.1 in
          let units = old.2.units in
          let at = old.2.at in
          omega (arith, within, units, at, few);
    }

-- a method that the file defines is one of its class data
pub defined_there : (ids : Ids) (classes : List RawClass) (owner member : List ℕ) (raw : RawMethod) → method_defined ids classes owner member ≡ Some raw → (number : ℕ) × (class : RawClass) × (place : ℕ) × (slice_get classes number ≡ Some class) × (slice_get class.methods place ≡ Some raw)
unfolding method_defined members_of method_among
defined_there ids classes owner member raw e = from (position (λ (stated : ClassRow). bytes_eq (type_name ids stated.class) owner) ids.classes) e
  where
    of_class : (o : Option RawClass) (number : ℕ) → slice_get classes number ≡ o → method_among ids member o ≡ Some raw → (n : ℕ) × (class : RawClass) × (place : ℕ) × (slice_get classes n ≡ Some class) × (slice_get class.methods place ≡ Some raw)
    of_class None number there e = absurd cc
    of_class (Some class) number there e =
        let found = found_is (λ (method : RawMethod). bytes_eq (method_member ids method.row) member) class.methods raw e in
        (number, class, found.1.0, there, found.1.1)

    from : (o : Option ℕ) → method_among ids member (option_and_then (slice_get classes) o) ≡ Some raw → (n : ℕ) × (class : RawClass) × (place : ℕ) × (slice_get classes n ≡ Some class) × (slice_get class.methods place ≡ Some raw)
    from None e = absurd cc
    from (Some number) e = of_class (slice_get classes number) number refl e

pub resolved_code : (ids : Ids) (classes : List RawClass) (program : Program) (raw : RawMethod) (kind : MethodKind) (code : Code) → KindResolved ids classes program raw kind → kind ≡ kinds.Code code → (units : RawCode) × (raw.code ≡ Some units) × CodeResolved ids classes program units code
resolved_code ids classes program raw _ code (KindResolved.native flag) e = absurd cc
resolved_code ids classes program raw _ code (KindResolved.abstract other flag) e = absurd cc
resolved_code ids classes program raw _ code (KindResolved.code {units = units} {code = mine} native abstract there is) e =
    let same : mine ≡ code = cc in
    (units, there, subst (λ c. CodeResolved ids classes program units c) same is)

laid_out_method : InstructionsLaidOut → (ids : Ids) (classes : List RawClass) (program : Program) (owner member : List ℕ) (method : Method) (code : Code) → HaveFewUnits classes → IsMethod ids classes program owner member method → method.kind ≡ kinds.Code code → IsLaidOut code
laid_out_method law ids classes program owner member method code few (IsMethod.defined {raw = raw} defined named static virtual kind) e =
    let there = defined_there ids classes owner member raw defined in
    let resolved = resolved_code ids classes program raw method.kind code kind e in
    laid_out_code law ids classes program resolved.0 code (few there.0 there.1 there.3 there.2 raw there.4 resolved.0 resolved.1) resolved.2
laid_out_method law ids classes program owner member method code few (IsMethod.built_in missing listed name params result static virtual kind) e = absurd cc
laid_out_method law ids classes program owner member method code few (IsMethod.outside missing unlisted all first refers named static virtual kind) e = absurd cc

-- ---- dimensions

-- as many as stand in front
brackets_front : (dims : ℕ) (base : List ℕ) → brackets base ≡ 0 → brackets (dimensions dims ++ base) ≡ dims
unfolding brackets
brackets_front zero base none = none
brackets_front (suc dims) base none = ap suc (brackets_front dims base none)

brackets_none : (first : ℕ) (rest : List ℕ) → (first == 91) ≡ false → brackets (first ∷ rest) ≡ 0
unfolding brackets
brackets_none first rest other = ap (λ b. cond b (suc (brackets rest)) 0) other

letter_brackets : (unit : ℕ) (r : Bool) → (unit == 91) ≡ r → IsTrue (is_primitive unit) → brackets (unit ∷ []) ≡ 0
letter_brackets unit true is letter = let e : is_primitive 91 ≡ true = subst (λ u. is_primitive u ≡ true) ((Decides-eqb unit 91).0 is) letter in absurd cc
letter_brackets unit false is letter = brackets_none unit [] is

value_brackets : (base : List ℕ) → IsValue base → brackets base ≡ 0
value_brackets base (inl (unit, letter, is)) = ap brackets is ∙ letter_brackets unit (unit == 91) refl letter
value_brackets base (inr class) = ap brackets class.form ∙ brackets_none 76 (class.name ++ 59 ∷ []) refl

-- a name that begins with `L` is of no array
class_brackets : (name : List ℕ) → slice_index name 0 ≡ 76 → brackets name ≡ 0
unfolding brackets
class_brackets [] e = refl
class_brackets (unit ∷ units) e = brackets_none unit units (let same : unit ≡ 76 = e in ap (λ u. u == 91) same)

abbrev AllBegin : List BuiltInClass → Type 0
AllBegin [] = Unit {0}
AllBegin (class ∷ classes) = (slice_index class.name 0 ≡ 76) × AllBegin classes

all_begin : AllBegin built_in_classes
unfolding built_in_classes built_in_plain_classes built_in_throwables object_name string_name string_builder_name system_name print_stream_name throwable_name exception_name error_name runtime_exception_name arithmetic_exception_name null_pointer_exception_name array_store_exception_name class_cast_exception_name index_out_of_bounds_exception_name negative_array_size_exception_name illegal_argument_exception_name illegal_state_exception_name array_index_out_of_bounds_exception_name string_index_out_of_bounds_exception_name linkage_error_name virtual_machine_error_name no_class_def_found_error_name exception_in_initializer_error_name incompatible_class_change_error_name abstract_method_error_name stack_overflow_error_name
all_begin = (refl, (refl, (refl, (refl, (refl, (refl, (refl, (refl, (refl, (refl, (refl, (refl, (refl, (refl, (refl, (refl, (refl, (refl, (refl, (refl, (refl, (refl, (refl, (refl, (refl, (refl, tt))))))))))))))))))))))))))

begins_at : (classes : List BuiltInClass) (k : ℕ) (class : BuiltInClass) → AllBegin classes → slice_get classes k ≡ Some class → slice_index class.name 0 ≡ 76
begins_at [] k class all e = absurd cc
begins_at (first ∷ rest) zero class all e = subst (λ (c : BuiltInClass). slice_index c.name 0 ≡ 76) (some_same first class e) all.0
begins_at (first ∷ rest) (suc k) class all e = begins_at rest k class all.1 e

built_in_begins : (name : List ℕ) → is_built_in name ≡ true → slice_index name 0 ≡ 76
built_in_begins name e =
    let one = any_found (λ (class : BuiltInClass). bytes_eq class.name name) built_in_classes e in
    let found = found_is (λ (class : BuiltInClass). bytes_eq class.name name) built_in_classes one.0 one.1 in
    subst (λ n. slice_index n 0 ≡ 76) (same_bytes one.0.name name found.0) (begins_at built_in_classes found.1.0 one.0 all_begin found.1.1)

described_brackets : (name : List ℕ) → IsDescriptor name → brackets name < 256
described_brackets name (inl void) = let none : brackets name ≡ 0 = ap brackets void ∙ brackets_none 86 [] refl in omega (arith, none)
described_brackets name (inr value) =
    let dims : brackets name ≡ value.dims = ap brackets value.form ∙ brackets_front value.dims value.base (value_brackets value.base value.value) in
    let few = value.few in
    omega (arith, dims, few)

few_brackets : (ids : Ids) → FitTables ids → (name : List ℕ) → IsClassName ids name → brackets name < 256
unfolding texts_name brackets
few_brackets ids fit _ (IsClassName.listed {type = row} there reference) = described_brackets (type_name ids row) (fit.types row there)
few_brackets ids fit _ (IsClassName.element {type = row} there class) =
    let none : brackets (base_name (type_name ids row)) ≡ 0 = class_brackets (base_name (type_name ids row)) ((Decides-eqb (slice_index (base_name (type_name ids row)) 0) 76).0 class) in
    omega (arith, none)
few_brackets ids fit name (IsClassName.built_in built) = let none : brackets name ≡ 0 = class_brackets name (built_in_begins name built) in omega (arith, none)
few_brackets ids fit _ IsClassName.texts = omega arith

-- ---- the whole

pub programs_are_well_formed : InstructionsLaidOut → ProgramsAreWellFormed
unfolding names_of
programs_are_well_formed law ids classes asked program fit sound few fits is = record {
  hierarchy = hierarchy ids classes asked program fit sound is;
  classes_rise = rising_unmapped (λ (class : Class). class.name) program.classes is.class_names.rise;
  classes_fit = fits;
  few_dimensions = λ k d within.
      let there = slice_get-get_or program.classes k d within in
      let named = mapped_found (λ (class : Class). class.name) program.classes k _ there in
      few_brackets ids fit _ ((is.class_names.are _).0 (found_contained (map (λ (class : Class). class.name) program.classes) k _ named));
  laid_out = λ m method code there coded.
      let each = is.each_method m method there in
      laid_out_method law ids classes program each.0 each.1 method code few each.4 coded;
}
