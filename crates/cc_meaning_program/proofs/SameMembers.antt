-- A member of two programs of one file, by its class and its name, is the same in both.
use Rattle.std.proofs.Common.{◌≡◌, ℕ, Bool, List, ◌++◌, map, Option, Some, None, refl, sym, ap, ◌∙◌, subst}
use Rattle.std.specs.Prelude.{slice_get, not}
use Rattle.cc_meaning.specs.declared.file.FieldRow.{FieldRow}
use Rattle.cc_meaning.specs.declared.file.Ids.{Ids}
use Rattle.cc_meaning.specs.declared.file.MethodRow.{MethodRow}
use Rattle.cc_meaning.specs.declared.file.ProtoRow.{ProtoRow}
use Rattle.cc_meaning.specs.declared.file.RawClass.{RawClass}
use Rattle.cc_meaning.specs.declared.file.RawCode.{RawCode}
use Rattle.cc_meaning.specs.declared.file.RawField.{RawField}
use Rattle.cc_meaning.specs.declared.file.RawMethod.{RawMethod}
use Rattle.cc_meaning.specs.declared.program.DexType.{DexType}
use Rattle.cc_meaning.specs.declared.program.Field.{Field}
use Rattle.cc_meaning.specs.declared.program.Method.{Method}
use Rattle.cc_meaning.specs.declared.program.MethodKind.{MethodKind}
use Rattle.cc_meaning.specs.declared.program.Placed.{Placed}
use Rattle.cc_meaning.specs.declared.program.Program.{Program}
use Rattle.cc_meaning.specs.BuiltIn.{print_stream_name}
use Rattle.cc_built_in.specs.BuiltInMethods.{BuiltInMethod}
use Rattle.cc_meaning_dex.specs.CodeItems.{has_flag}
use Rattle.cc_meaning_program.specs.declared.reference.Reference.TheVariants as reference
use Rattle.cc_meaning_program.specs.Instructions.{OneReading}
use Rattle.cc_meaning_program.specs.Named.{text_of, type_name}
use Rattle.cc_meaning_program.specs.References.{reference_of}
use Rattle.cc_meaning_program.specs.TypeNames.{Spells, SpelledOnce}
use Rattle.cc_meaning_program.specs.Members.{Pairs, KindResolved, ResultSpelled, IsNamedBy, FieldIsNamedBy, IsMethod, IsField, how_invoked, is_static_call, is_virtual_call}
use Rattle.cc_meaning_program.specs.Naming.{BodyIs, MethodsAre, ClassesAre, NamesMethod, NamesField}
use Rattle.cc_meaning_program.specs.Resolved.{names_of}
use Rattle.cc_meaning_program.specs.Searches.{First}
use Rattle.cc_meaning_program.proofs.Once.{first_once}
use Rattle.cc_meaning_program.proofs.SameCode.{Agree, three_parts, types_once, result_once, type_once, kind_once}

some_is : {A : Type 0} (x y : A) → Some x ≡ Some y → x ≡ y
some_is x y e = cc

-- ---- all instructions of a file

module _ (reading : OneReading) where
  body_once : (code : Option RawCode) (these those : List Placed) → BodyIs code these → BodyIs code those → these ≡ those
  body_once None these those one two = one ∙ sym two
  body_once (Some code) these those one two = reading code.units these those one two

  methods_once : (methods : List RawMethod) (these those : List Placed) → MethodsAre methods these → MethodsAre methods those → these ≡ those
  methods_once _ _ _ MethodsAre.none MethodsAre.none = refl
  methods_once _ _ _ (MethodsAre.next {method = m} {methods = ms} a b one rest) (MethodsAre.next c d two others) =
      ap (λ x. x ++ b) (body_once m.code a c one two) ∙ ap (λ y. c ++ y) (methods_once ms b d rest others)

  pub classes_once : (classes : List RawClass) (these those : List Placed) → ClassesAre classes these → ClassesAre classes those → these ≡ those
  classes_once _ _ _ ClassesAre.none ClassesAre.none = refl
  classes_once _ _ _ (ClassesAre.next {class = c} {classes = cs} a b one rest) (ClassesAre.next d e two others) =
      ap (λ x. x ++ b) (methods_once c.methods a d one two) ∙ ap (λ y. d ++ y) (classes_once cs b e rest others)

-- ---- a method

abbrev method_of : ℕ → List ℕ → List DexType → Option DexType → Bool → Bool → MethodKind → Method
method_of class name params result is_static is_virtual kind = record { class = class; name = name; params = params; result = result; is_static = is_static; is_virtual = is_virtual; kind = kind }

same_method : (a b : Method) → a.class ≡ b.class → a.name ≡ b.name → a.params ≡ b.params → a.result ≡ b.result → a.is_static ≡ b.is_static → a.is_virtual ≡ b.is_virtual → a.kind ≡ b.kind → a ≡ b
same_method a b class name params result is_static is_virtual kind =
    three_parts (λ c n p. method_of c n p a.result a.is_static a.is_virtual a.kind) class name params
    ∙ (three_parts (λ r s v. method_of b.class b.name b.params r s v a.kind) result is_static is_virtual ∙ ap (method_of b.class b.name b.params b.result b.is_static b.is_virtual) kind)

abbrev field_of : ℕ → List ℕ → DexType → Bool → Field
field_of class name ty is_static = record { class = class; name = name; ty = ty; is_static = is_static }

same_field : (a b : Field) → a.class ≡ b.class → a.name ≡ b.name → a.ty ≡ b.ty → a.is_static ≡ b.is_static → a ≡ b
same_field a b class name ty is_static = ap (λ c. field_of c a.name a.ty a.is_static) class ∙ three_parts (field_of b.class) name ty is_static

module _ (once : SpelledOnce) (reading : OneReading) (ids : Ids) (classes : List RawClass) (this that : Program) (agree : Agree ids classes this that) where
  -- what a row says of a method
  record SaysOne (a b : Method) : Type 0 where
    name : a.name ≡ b.name
    params : a.params ≡ b.params
    result : a.result ≡ b.result

  row_says_one : (row : ℕ) (a b : Method) → IsNamedBy ids this row a → IsNamedBy ids that row b → SaysOne a b
  row_says_one row a b one two =
      let stated : one.stated ≡ two.stated = some_is one.stated two.stated (sym one.there ∙ two.there) in
      let prototype : one.prototype ≡ two.prototype = some_is one.prototype two.prototype (sym one.typed ∙ (ap (λ (s : MethodRow). slice_get ids.protos s.proto) stated ∙ two.typed)) in
      record {
        name = one.name ∙ (ap (λ (s : MethodRow). text_of ids s.name) stated ∙ sym two.name);
        params = types_once once reading ids classes this that agree a.params b.params (map (type_name ids) two.prototype.params) (subst (λ (p : ProtoRow). Pairs (Spells (names_of this)) a.params (map (type_name ids) p.params)) prototype one.params) two.params;
        result = result_once once reading ids classes this that agree a.result b.result (type_name ids two.prototype.result) (subst (λ (p : ProtoRow). ResultSpelled (names_of this) a.result (type_name ids p.result)) prototype one.result) two.result;
      }

  pub method_once : (owner member : List ℕ) (a b : Method) → a.class ≡ b.class → IsMethod ids classes this owner member a → IsMethod ids classes that owner member b → a ≡ b
  method_once owner member a b class (IsMethod.defined {raw = x} there named static virtual kind) (IsMethod.defined {raw = y} here named_here static_here virtual_here kind_here) =
      let raw : x ≡ y = some_is x y (sym there ∙ here) in
      let says = row_says_one y.row a b (subst (λ (r : RawMethod). IsNamedBy ids this r.row a) raw named) named_here in
      same_method a b class says.name says.params says.result (static ∙ (ap (λ (r : RawMethod). has_flag r.flags 8) raw ∙ sym static_here)) (virtual ∙ (ap (λ (r : RawMethod). not r.is_direct) raw ∙ sym virtual_here))
      (kind_once once reading ids classes this that agree y a.kind b.kind (subst (λ (r : RawMethod). KindResolved ids classes this r a.kind) raw kind) kind_here)
  method_once owner member a b class (IsMethod.defined there named static virtual kind) (IsMethod.built_in undefined listed name params result static_here virtual_here kind_here) = absurd (cc)
  method_once owner member a b class (IsMethod.defined there named static virtual kind) (IsMethod.outside undefined unlisted all first refers named_here static_here virtual_here kind_here) = absurd (cc)
  method_once owner member a b class (IsMethod.built_in undefined listed name params result static virtual kind) (IsMethod.defined there named static_here virtual_here kind_here) = absurd (cc)
  method_once owner member a b class (IsMethod.built_in {listed = x} undefined listed name params result static virtual kind) (IsMethod.built_in {listed = y} also here name_here params_here result_here static_here virtual_here kind_here) =
      let row : x ≡ y = some_is x y (sym listed ∙ here) in
      same_method a b class (name ∙ (ap (λ (m : BuiltInMethod). m.name) row ∙ sym name_here))
      (types_once once reading ids classes this that agree a.params b.params y.params (subst (λ (m : BuiltInMethod). Pairs (Spells (names_of this)) a.params m.params) row params) params_here)
      (result_once once reading ids classes this that agree a.result b.result y.result (subst (λ (m : BuiltInMethod). ResultSpelled (names_of this) a.result m.result) row result) result_here)
      (static ∙ sym static_here) (virtual ∙ sym virtual_here) (kind ∙ sym kind_here)
  method_once owner member a b class (IsMethod.built_in undefined listed name params result static virtual kind) (IsMethod.outside also unlisted all first refers named static_here virtual_here kind_here) = absurd (cc)
  method_once owner member a b class (IsMethod.outside undefined unlisted all first refers named static virtual kind) (IsMethod.defined there named_here static_here virtual_here kind_here) = absurd (cc)
  method_once owner member a b class (IsMethod.outside undefined unlisted all first refers named static virtual kind) (IsMethod.built_in also listed name params result static_here virtual_here kind_here) = absurd (cc)
  method_once owner member a b class (IsMethod.outside {all = these} {first = x} {row = r} undefined unlisted all first refers named static virtual kind) (IsMethod.outside {all = those} {first = y} {row = s} also none all_here first_here refers_here named_here static_here virtual_here kind_here) =
      let insns : these ≡ those = classes_once reading classes these those all all_here in
      let placed : x ≡ y = first_once those x y (subst (λ (l : List Placed). First (NamesMethod ids classes owner member) l x) insns first) first_here in
      let row : r ≡ s = method_row r s (some_is (reference.Method r) (reference.Method s) (sym refers ∙ (ap (λ (p : Placed). reference_of p.insn) placed ∙ refers_here))) in
      let says = row_says_one s a b (subst (λ n. IsNamedBy ids this n a) row named) named_here in
      same_method a b class says.name says.params says.result
      (static ∙ (ap (λ (p : Placed). is_static_call (how_invoked p.insn)) placed ∙ sym static_here)) (virtual ∙ (ap (λ (p : Placed). is_virtual_call (how_invoked p.insn)) placed ∙ sym virtual_here)) (kind ∙ sym kind_here)
    where
      method_row : (m n : ℕ) → reference.Method m ≡ reference.Method n → m ≡ n
      method_row m n e = cc

  -- what a row says of a field
  record SaysField (a b : Field) : Type 0 where
    name : a.name ≡ b.name
    ty : a.ty ≡ b.ty

  row_says_field : (row : ℕ) (a b : Field) → FieldIsNamedBy ids this row a → FieldIsNamedBy ids that row b → SaysField a b
  row_says_field row a b one two =
      let stated : one.stated ≡ two.stated = some_is one.stated two.stated (sym one.there ∙ two.there) in
      record {
        name = one.name ∙ (ap (λ (s : FieldRow). text_of ids s.name) stated ∙ sym two.name);
        ty = type_once once reading ids classes this that agree a.ty b.ty (type_name ids two.stated.kind) (subst (λ (s : FieldRow). Spells (names_of this) a.ty (type_name ids s.kind)) stated one.ty) two.ty;
      }

  pub field_once : (owner member : List ℕ) (a b : Field) → a.class ≡ b.class → IsField ids classes this owner member a → IsField ids classes that owner member b → a ≡ b
  field_once owner member a b class (IsField.defined {raw = x} there named static) (IsField.defined {raw = y} here named_here static_here) =
      let raw : x ≡ y = some_is x y (sym there ∙ here) in
      let says = row_says_field y.row a b (subst (λ (r : RawField). FieldIsNamedBy ids this r.row a) raw named) named_here in
      same_field a b class says.name says.ty (static ∙ (ap (λ (r : RawField). r.is_static) raw ∙ sym static_here))
  field_once owner member a b class (IsField.defined there named static) (IsField.out is_owner is_member undefined name ty static_here) = absurd (cc)
  field_once owner member a b class (IsField.defined there named static) (IsField.outside other undefined all first refers named_here static_here) = absurd (cc)
  field_once owner member a b class (IsField.out is_owner is_member undefined name ty static) (IsField.defined there named static_here) = absurd (cc)
  field_once owner member a b class (IsField.out is_owner is_member undefined name ty static) (IsField.out also_owner also_member also name_here ty_here static_here) =
      same_field a b class (name ∙ sym name_here) (type_once once reading ids classes this that agree a.ty b.ty print_stream_name ty ty_here) (static ∙ sym static_here)
  field_once owner member a b class (IsField.out is_owner is_member undefined name ty static) (IsField.outside other also all first refers named static_here) = absurd (other is_member is_owner)
  field_once owner member a b class (IsField.outside other undefined all first refers named static) (IsField.defined there named_here static_here) = absurd (cc)
  field_once owner member a b class (IsField.outside other undefined all first refers named static) (IsField.out is_owner is_member also name ty static_here) = absurd (other is_member is_owner)
  field_once owner member a b class (IsField.outside {all = these} {first = x} {row = r} other undefined all first refers named static) (IsField.outside {all = those} {first = y} {row = s} another also all_here first_here refers_here named_here static_here) =
      let insns : these ≡ those = classes_once reading classes these those all all_here in
      let placed : x ≡ y = first_once those x y (subst (λ (l : List Placed). First (NamesField ids classes owner member) l x) insns first) first_here in
      let row : r ≡ s = field_row r s (some_is (reference.Field r) (reference.Field s) (sym refers ∙ (ap (λ (p : Placed). reference_of p.insn) placed ∙ refers_here))) in
      let says = row_says_field s a b (subst (λ n. FieldIsNamedBy ids this n a) row named) named_here in
      same_field a b class says.name says.ty (static ∙ sym static_here)
    where
      field_row : (m n : ℕ) → reference.Field m ≡ reference.Field n → m ≡ n
      field_row m n e = cc
