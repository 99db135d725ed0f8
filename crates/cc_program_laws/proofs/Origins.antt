-- Where the classes of a program of a file stand, and its built-in classes and methods.
use Rattle.std.proofs.Common.{◌≡◌, ◌≢◌, ◌⊎◌, inl, inr, ℕ, zero, suc, ◌<◌, Bool, true, false, List, [], ◌∷◌, length, map, cond, Option, Some, None, refl, sym, ap, ◌∙◌, subst, arith}
use Rattle.std.specs.Prelude.{slice_get, find, position, option_and_then, option_map, is_some, if◌then◌else◌}
use Rattle.std.specs.Str.{bytes_eq}
use Rattle.std.proofs.lemmas.Option.{slice_get_within}
use Rattle.cc_meaning.specs.declared.file.ClassRow.{ClassRow}
use Rattle.cc_meaning.specs.declared.file.Ids.{Ids}
use Rattle.cc_meaning.specs.declared.file.RawClass.{RawClass}
use Rattle.cc_meaning.specs.declared.file.RawMethod.{RawMethod}
use Rattle.cc_meaning.specs.declared.instruction.Kind.{Kind}
use Rattle.cc_meaning.specs.declared.instruction.Kind.TheVariants as kind
use Rattle.cc_meaning.specs.declared.program.Class.{Class}
use Rattle.cc_meaning.specs.declared.program.ClassKind.{ClassKind}
use Rattle.cc_meaning.specs.declared.program.ClassKind.TheVariants.{File, BuiltIn, Outside, OutsideError, Array}
use Rattle.cc_meaning.specs.declared.program.Code.{Code}
use Rattle.cc_meaning.specs.declared.program.DexType.{DexType}
use Rattle.cc_meaning.specs.declared.program.Field.{Field}
use Rattle.cc_meaning.specs.declared.program.Method.{Method}
use Rattle.cc_meaning.specs.declared.program.MethodKind.{MethodKind}
use Rattle.cc_meaning.specs.declared.program.MethodKind.TheVariants as kinds
use Rattle.cc_meaning.specs.declared.program.Program.{Program}
use Rattle.cc_meaning.specs.declared.program.StaticValue.{StaticValue}
use Rattle.cc_meaning.specs.BuiltIn.{is_built_in, exception_name, error_name}
use Rattle.cc_meaning.specs.Kinds.{kind_of}
use Rattle.cc_meaning.specs.Lookup.{class_named}
use Rattle.cc_meaning.specs.Names.{class_name, name_or_none, descriptor, result_descriptor}
use Rattle.cc_built_in.specs.BuiltInMethods.{BuiltInMethod, BuiltInMethods, built_in_tables, built_in_member, methods_of_table, array_methods}
use Rattle.cc_meaning_dex.specs.Descriptors.{begins_with}
use Rattle.cc_meaning_dex.specs.CodeItems.{has_flag}
use Rattle.cc_meaning_program.specs.ClassFaults.{AreSound, HasNoSuperclass, IsClosed, IsDuplicate}
use Rattle.cc_meaning_program.specs.ClassNames.{IsClassName}
use Rattle.cc_meaning_program.specs.Definitions.{is_interface}
use Rattle.cc_meaning_program.specs.Named.{type_name}
use Rattle.cc_meaning_program.specs.TypeNames.{Spells}
use Rattle.cc_meaning_program.specs.Ancestry.{definition_of, is_defined, is_exception, kind_of_class, stated_superclass, superclass_by_kind, superclass_named, interfaces_named}
use Rattle.cc_meaning_program.specs.OwnMembers.{built_in_by_kind, built_in_methods_of, members_of, method_among, method_defined, method_listed}
use Rattle.cc_meaning_program.specs.Members.{IsMethod, KindResolved, Pairs, ResultSpelled}
use Rattle.cc_meaning_program.specs.Programs.{AreValues, IsProgram, ValueIs, ValueResolved, has_class_flag, is_run, static_with_code, zero_of_field, zero_value, fields_of}
use Rattle.cc_meaning_program.specs.Resolved.{names_of}
use Rattle.cc_meaning_program.proofs.Alike.{descriptor_by_names}
use Rattle.cc_meaning_program.specs.Rows.{FitTables}
use Rattle.cc_meaning_typing.specs.Complete.{ClassStands, HasBuiltIn, IsBelowAnother, IsBuiltInMethod, IsOpen, IsRow, ValueStands, copy_row}
use Rattle.cc_program_laws.proofs.Lists.{same_bytes, bytes_same, some_same, found_is, position_is, found_mapped, mapped_found, at_place, found_contained}
use Rattle.cc_program_laws.proofs.Hierarchy.{numbered, in_names, class_at}
use Rattle.cc_program_laws.proofs.Standing.{place_within, array_begins, built_in_listed, built_in_kind, file_kind, file_defined}

-- ---- options and lists

after_some : {A B : Type 0} (f : A → Option B) (o : Option A) (y : B) → option_and_then f o ≡ Some y → (x : A) × (o ≡ Some x) × (f x ≡ Some y)
after_some f None y e = absurd cc
after_some f (Some x) y e = (x, refl, e)

kept : (b : Bool) (number k : ℕ) → cond b (Some number) None ≡ Some k → (b ≡ true) × (number ≡ k)
kept true number k e = (refl, some_same number k e)
kept false number k e = absurd cc

found_some : {A : Type 0} (test : A → Bool) (xs : List A) (k : ℕ) (x : A) → slice_get xs k ≡ Some x → test x ≡ true → is_some (find test xs) ≡ true
found_some test [] k x e passes = absurd cc
found_some test (y ∷ ys) zero x e passes = ap (λ b. is_some (cond b (Some y) (find test ys))) (ap test (some_same y x e) ∙ passes)
found_some test (y ∷ ys) (suc k) x e passes = from (test y) (found_some test ys k x e passes)
  where
    from : (b : Bool) → is_some (find test ys) ≡ true → is_some (cond b (Some y) (find test ys)) ≡ true
    from true rest = refl
    from false rest = rest

-- ---- definitions

module _ (ids : Ids) (classes : List RawClass) (sound : AreSound ids classes) where
  -- a class of the file is of kind File
  pub defined_kind : (name : List ℕ) (number : ℕ) (stated : ClassRow) → slice_get ids.classes number ≡ Some stated → type_name ids stated.class ≡ name → kind_of_class ids name ≡ File
  unfolding is_defined definition_of
  defined_kind name number stated there named =
      file_kind ids name (other (is_built_in name) refl) (found_some (λ (row : ClassRow). bytes_eq (type_name ids row.class) name) ids.classes number stated there (ap (λ n. bytes_eq n name) named ∙ bytes_same name))
    where
      other : (b : Bool) → is_built_in name ≡ b → is_built_in name ≡ false
      other true e = absurd (sound.distinct number (IsDuplicate.of_built_in (record { stated = stated; there = there; named = named }) e))
      other false e = e

  definition_there : (name : List ℕ) (stated : ClassRow) → definition_of ids name ≡ Some stated → (number : ℕ) × (slice_get ids.classes number ≡ Some stated) × (type_name ids stated.class ≡ name)
  unfolding definition_of
  definition_there name stated e =
      let found = found_is (λ (row : ClassRow). bytes_eq (type_name ids row.class) name) ids.classes stated e in
      (found.1.0, found.1.1, same_bytes (type_name ids stated.class) name found.0)

  -- only a class of the file has flags
  pub no_flag : (flag : ℕ) (name : List ℕ) → kind_of_class ids name ≢ File → has_class_flag flag (definition_of ids name) ≡ false
  unfolding has_class_flag
  no_flag flag name other = from (definition_of ids name) refl
    where
      from : (o : Option ClassRow) → definition_of ids name ≡ o → has_class_flag flag o ≡ false
      from None e = refl
      from (Some stated) e = let there = definition_there name stated e in absurd (other (defined_kind name there.0 stated there.1 there.2))

  -- the class that a method is defined in is one of the file
  pub owner_kind : (owner member : List ℕ) (raw : RawMethod) → method_defined ids classes owner member ≡ Some raw → kind_of_class ids owner ≡ File
  unfolding method_defined members_of method_among
  owner_kind owner member raw e = from (position (λ (stated : ClassRow). bytes_eq (type_name ids stated.class) owner) ids.classes) refl e
    where
      from : (o : Option ℕ) → position (λ (stated : ClassRow). bytes_eq (type_name ids stated.class) owner) ids.classes ≡ o → method_among ids member (option_and_then (slice_get classes) o) ≡ Some raw → kind_of_class ids owner ≡ File
      from None is e = absurd cc
      from (Some number) is e =
          let found = position_is (λ (stated : ClassRow). bytes_eq (type_name ids stated.class) owner) ids.classes number is in
          defined_kind owner number found.0 found.1 (same_bytes (type_name ids found.0.class) owner found.2)

-- ---- a program of a file

module _ (ids : Ids) (classes : List RawClass) (asked : Option (List ℕ)) (program : Program) (fit : FitTables ids) (sound : AreSound ids classes) (is : IsProgram ids classes asked program) where
  numbered_class : List ℕ → Option ℕ
  numbered_class name = class_named name program

  -- the superclass by the kind of the class
  superclass_by : (number : ℕ) (class : Class) (of : ClassKind) → slice_get program.classes number ≡ Some class → class.kind ≡ of → class.superclass ≡ option_and_then (λ name. class_named name program) (superclass_by_kind ids class.name of)
  unfolding superclass_named
  superclass_by number class of there kind =
      let each = is.each_class number class there in
      each.superclass ∙ ap (λ k. option_and_then (λ name. class_named name program) (superclass_by_kind ids class.name k)) (sym each.kind ∙ kind)

  open_class : (type above : ℕ) (parent : Class) → (IsClosed ids (type_name ids type) → ⊥) → slice_get program.classes above ≡ Some parent → parent.name ≡ type_name ids type → IsOpen parent
  unfolding has_class_flag is_interface
  open_class type above parent closed there named = record {
    no_array = λ array. closed (IsClosed.array (subst (λ n. begins_with 91 n ≡ true) named (array_begins ids parent.name (sym (is.each_class above parent there).kind ∙ array))));
    no_interface = (is.each_class above parent there).is_interface ∙ (ap (λ n. has_class_flag 512 (definition_of ids n)) named ∙ flagged (definition_of ids (type_name ids type)) refl);
    no_text = λ text. closed (IsClosed.string (sym named ∙ text));
    no_builder = λ builder. closed (IsClosed.builder (sym named ∙ builder));
  }
    where
      unflagged : (stated : ClassRow) (b : Bool) → has_flag stated.flags 512 ≡ b → definition_of ids (type_name ids type) ≡ Some stated → b ≡ false
      unflagged stated true flag e =
          let at = definition_there ids classes sound (type_name ids type) stated e in
          absurd (closed (IsClosed.interface (record { number = at.0; stated = stated; there = at.1; named = at.2; flagged = flag })))
      unflagged stated false flag e = refl

      flagged : (o : Option ClassRow) → definition_of ids (type_name ids type) ≡ o → has_class_flag 512 o ≡ false
      flagged None e = refl
      flagged (Some stated) e = let none = unflagged stated (has_flag stated.flags 512) refl e in none

  file_below : (number : ℕ) (class : Class) → slice_get program.classes number ≡ Some class → class.kind ≡ File → (above : ℕ) × (parent : Class) × (class.superclass ≡ Some above) × (slice_get program.classes above ≡ Some parent) × IsOpen parent
  unfolding superclass_by_kind stated_superclass is_defined
  file_below number class there kind = from (definition_of ids class.name) refl (superclass_by number class File there kind)
    where
      Found : Type 0
      Found = (above : ℕ) × (parent : Class) × (class.superclass ≡ Some above) × (slice_get program.classes above ≡ Some parent) × IsOpen parent

      below : (stated : ClassRow) (k : ℕ) (o : Option ℕ) → slice_get ids.classes k ≡ Some stated → stated.superclass ≡ o → class.superclass ≡ option_and_then (λ name. class_named name program) (option_map (type_name ids) o) → Found
      below stated k None at none e = absurd (sound.extended k (record { stated = stated; there = at; lacks = subst (HasNoSuperclass ids) (sym none) tt }))
      below stated k (Some type) at some e =
          let row = (fit.classes k stated at).superclass type some in
          let place = in_names ids classes asked program fit sound is (type_name ids type) (IsClassName.listed row.there row.sorted) in
          let parent = class_at ids classes asked program fit sound is place.0 (type_name ids type) place.1 in
          (place.0, parent.0, e ∙ numbered ids classes asked program fit sound is place.0 (type_name ids type) place.1, parent.1, open_class type place.0 parent.0 (λ closed. sound.extended k (record { stated = stated; there = at; lacks = subst (HasNoSuperclass ids) (sym some) closed })) parent.1 parent.2)

      defined : is_some (definition_of ids class.name) ≡ true
      defined = file_defined ids class.name (sym (is.each_class number class there).kind ∙ kind)

      from : (o : Option ClassRow) → definition_of ids class.name ≡ o → class.superclass ≡ option_and_then (λ name. class_named name program) (stated_superclass ids o) → Found
      from None is_none e = absurd (let none : is_some (definition_of ids class.name) ≡ false = ap is_some is_none in let some = defined in cc)
      from (Some stated) is_some e = let at = definition_there ids classes sound class.name stated is_some in below stated at.0 stated.superclass at.1 refl e

  outside_error_below : (number : ℕ) (class : Class) → slice_get program.classes number ≡ Some class → class.kind ≡ OutsideError → (class.superclass ≡ class_named exception_name program) ⊎ (class.superclass ≡ class_named error_name program)
  unfolding superclass_by_kind
  outside_error_below number class there kind = from (is_exception class.name) (superclass_by number class OutsideError there kind)
    where
      from : (b : Bool) → class.superclass ≡ option_and_then (λ name. class_named name program) (Some (if b then exception_name else error_name)) → (class.superclass ≡ class_named exception_name program) ⊎ (class.superclass ≡ class_named error_name program)
      from true e = inl e
      from false e = inr e

  is_below : (number : ℕ) (class : Class) → slice_get program.classes number ≡ Some class → IsBelowAnother program class
  unfolding superclass_by_kind
  is_below number class there = record {
    of_file = file_below number class there;
    built_in = superclass_by number class BuiltIn there;
    outside = superclass_by number class Outside there;
    outside_error = outside_error_below number class there;
    array = superclass_by number class Array there;
  }

  -- ---- values

  zero_stands : (o : Option Field) → ValueStands program (zero_of_field o)
  unfolding zero_of_field zero_value
  zero_stands None = tt
  zero_stands (Some field) = from (kind_of field.ty)
    where
      from : (k : Kind) → ValueStands program (zero_value k)
      from kind.Plain = tt
      from kind.Wide = tt
      from kind.Object = tt
      from kind.Boolean = tt
      from kind.Byte = tt
      from kind.Char = tt
      from kind.Short = tt

  value_stands : (field : Option Field) (listed : Option StaticValue) (held : StaticValue) → ValueIs ids program field listed held → ValueStands program held
  value_stands field None held is_zero = subst (ValueStands program) (sym is_zero) (zero_stands field)
  value_stands field (Some _) _ ValueResolved.int = tt
  value_stands field (Some _) _ ValueResolved.long = tt
  value_stands field (Some _) _ ValueResolved.null = tt
  value_stands field (Some _) _ (ValueResolved.text {number = number} text) = place_within _ program.texts number text

  values_stand : (class : List ℕ) (fields : List ℕ) (values : List StaticValue) → AreValues ids classes program class fields values → (k : ℕ) (value : StaticValue) → slice_get values k ≡ Some value → ValueStands program value
  values_stand class fields values are k value e =
      let within = slice_get_within values k value e in
      let few = are.few in
      let field = at_place fields k (omega (arith, within, few)) in
      value_stands (slice_get program.fields field.0) _ value (are.each k field.0 value field.1 e)

  -- ---- classes

  class_within : (name : List ℕ) (number : ℕ) → class_named name program ≡ Some number → number < length program.classes
  class_within name number e = place_within _ program.classes number e

  pub class_stands : (number : ℕ) (class : Class) → slice_get program.classes number ≡ Some class → ClassStands program class
  unfolding static_with_code
  class_stands number class there =
      let each = is.each_class number class there in
      record {
        superclass = λ above e. let by = after_some (λ name. class_named name program) (superclass_named ids class.name) above (sym each.superclass ∙ e) in class_within by.0 above by.2;
        interfaces = λ k interface e.
            let mapped : slice_get (map (λ name. class_named name program) (interfaces_named ids class.name)) k ≡ Some (Some interface) = sym (ap (λ xs. slice_get xs k) each.interfaces) ∙ mapped_found Some class.interfaces k interface e in
            let by = found_mapped (λ name. class_named name program) (interfaces_named ids class.name) k (Some interface) mapped in
            class_within by.0 interface by.2;
        initialiser = λ method e.
            let by = after_some (λ number. cond (is_run (slice_get program.methods number)) (Some number) None) _ method (sym each.initialiser ∙ e) in
            subst (λ n. n < length program.methods) (kept (is_run (slice_get program.methods by.0)) by.0 method by.2).1 (place_within _ program.methods by.0 by.1);
        values = values_stand class.name (fields_of program true class.name) class.values each.values;
        only_file = λ other. each.is_interface ∙ no_flag ids classes sound 512 class.name (λ file. other (each.kind ∙ file));
        below = is_below number class there;
      }

  pub has_built_in : (name : List ℕ) → is_built_in name ≡ true → HasBuiltIn program name
  has_built_in name built =
      let place = in_names ids classes asked program fit sound is name (IsClassName.built_in built) in
      let class = class_at ids classes asked program fit sound is place.0 name place.1 in
      (place.0, class.0, numbered ids classes asked program fit sound is place.0 name place.1, class.1, class.2, (is.each_class place.0 class.0 class.1).kind ∙ (ap (kind_of_class ids) class.2 ∙ built_in_kind ids name built))

  pub only_built_in : (number : ℕ) (class : Class) → slice_get program.classes number ≡ Some class → class.kind ≡ BuiltIn → is_built_in class.name ≡ true
  only_built_in number class there kind = built_in_listed ids class.name (sym (is.each_class number class there).kind ∙ kind)

  -- ---- methods

  -- the class of a method, by its name
  pub owner_at : (owner : List ℕ) (number : ℕ) → class_named owner program ≡ Some number → (class : Class) × (slice_get program.classes number ≡ Some class) × (class.name ≡ owner)
  owner_at owner number e = let found = position_is (λ (class : Class). bytes_eq class.name owner) program.classes number e in (found.0, found.1, same_bytes found.0.name owner found.2)

  code_owner : (owner member : List ℕ) (method : Method) → class_named owner program ≡ Some method.class → IsMethod ids classes program owner member method → (method.kind ≡ kinds.BuiltIn → ⊥) → (method.kind ≡ kinds.Outside → ⊥) → (class : Class) × (slice_get program.classes method.class ≡ Some class) × (class.kind ≡ File)
  code_owner owner member method of_class (IsMethod.defined {raw = raw} defined named static virtual kind) no_row no_outside =
      let class = owner_at owner method.class of_class in
      (class.0, class.1, (is.each_class method.class class.0 class.1).kind ∙ (ap (kind_of_class ids) class.2 ∙ owner_kind ids classes sound owner member raw defined))
  code_owner owner member method of_class (IsMethod.built_in missing listed name params result static virtual kind) no_row no_outside = absurd (no_row kind)
  code_owner owner member method of_class (IsMethod.outside missing unlisted all first refers named static virtual kind) no_row no_outside = absurd (no_outside kind)

  pub code_is_owned : (number : ℕ) (method : Method) (code : Code) → slice_get program.methods number ≡ Some method → method.kind ≡ kinds.Code code → (class : Class) × (slice_get program.classes method.class ≡ Some class) × (class.kind ≡ File)
  code_is_owned number method code there kind = let each = is.each_method number method there in code_owner each.0 each.1 method each.2 each.4 (λ row. cc) (λ outside. cc)

  -- ---- the table of built-in methods

  descriptors_are : (types : List DexType) (texts : List (List ℕ)) → Pairs (Spells (names_of program)) types texts → map (descriptor program) types ≡ texts
  descriptors_are _ _ Pairs.none = refl
  descriptors_are _ _ (Pairs.next {x = type} {y = text} {xs = types} {ys = texts} spells rest) =
      ap (λ d. d ∷ map (descriptor program) types) (descriptor_by_names program type ∙ spells.spelled) ∙ ap (λ ds. text ∷ ds) (descriptors_are types texts rest)

  result_is : (answer : Option DexType) (text : List ℕ) → ResultSpelled (names_of program) answer text → result_descriptor program answer ≡ text
  result_is None text void = sym void
  result_is (Some type) text spells = descriptor_by_names program type ∙ spells.spelled

  name_is : (number : ℕ) (class : Class) → slice_get program.classes number ≡ Some class → class_name program number ≡ class.name
  name_is number class there = ap name_or_none there

  row_by : (owner : List ℕ) (method : Method) (class : Class) (row : BuiltInMethod) (place : ℕ) (of : ClassKind) → slice_get program.classes method.class ≡ Some class → class.name ≡ owner → class.kind ≡ of → slice_get (built_in_by_kind of owner) place ≡ Some row → IsRow program row method → IsBuiltInMethod program method
  unfolding built_in_by_kind array_methods methods_of_table
  row_by owner method class row place BuiltIn there named kind at is_row = from (find (λ (table : BuiltInMethods). bytes_eq table.class owner) built_in_tables) refl at
    where
      from : (o : Option BuiltInMethods) → find (λ (table : BuiltInMethods). bytes_eq table.class owner) built_in_tables ≡ o → slice_get (methods_of_table o) place ≡ Some row → IsBuiltInMethod program method
      from None e at = absurd cc
      from (Some table) e at =
          let found = found_is (λ (table : BuiltInMethods). bytes_eq table.class owner) built_in_tables table e in
          IsBuiltInMethod.listed (found_contained built_in_tables found.1.0 table found.1.1) (same_bytes table.class owner found.0 ∙ (sym named ∙ sym (name_is method.class class there))) (found_contained table.methods place row at) is_row
  row_by owner method class row zero Array there named kind at is_row =
      let same : copy_row owner ≡ row = some_same (copy_row owner) row at in
      IsBuiltInMethod.copies there kind (subst (λ (r : BuiltInMethod). IsRow program r method) (sym same ∙ ap copy_row (sym named)) is_row)
  row_by owner method class row (suc place) Array there named kind at is_row = absurd cc
  row_by owner method class row place File there named kind at is_row = absurd cc
  row_by owner method class row place Outside there named kind at is_row = absurd cc
  row_by owner method class row place OutsideError there named kind at is_row = absurd cc

  row_of : (owner member : List ℕ) (method : Method) → class_named owner program ≡ Some method.class → IsMethod ids classes program owner member method → method.kind ≡ kinds.BuiltIn → IsBuiltInMethod program method
  unfolding method_listed built_in_methods_of
  row_of owner member method of_class (IsMethod.defined {raw = raw} defined named static virtual kind) e = absurd (no_row raw method.kind kind e)
    where
      no_row : (raw : RawMethod) (k : MethodKind) → KindResolved ids classes program raw k → k ≡ kinds.BuiltIn → ⊥
      no_row raw _ (KindResolved.native flag) e = cc
      no_row raw _ (KindResolved.abstract other flag) e = cc
      no_row raw _ (KindResolved.code native abstract there is) e = cc
  row_of owner member method of_class (IsMethod.built_in {listed = listed} missing is_listed name params result static virtual kind) e =
      let class = owner_at owner method.class of_class in
      let found = found_is (λ (row : BuiltInMethod). bytes_eq (built_in_member row) member) (built_in_by_kind (kind_of_class ids owner) owner) listed is_listed in
      row_by owner method class.0 listed found.1.0 (kind_of_class ids owner) class.1 class.2 ((is.each_class method.class class.0 class.1).kind ∙ ap (kind_of_class ids) class.2) found.1.1
      (record { name = name; params = descriptors_are method.params listed.params params; result = result_is method.result listed.result result; dynamic = static })
  row_of owner member method of_class (IsMethod.outside missing unlisted all first refers named static virtual kind) e = absurd cc

  pub rows_are : (number : ℕ) (method : Method) → slice_get program.methods number ≡ Some method → method.kind ≡ kinds.BuiltIn → IsBuiltInMethod program method
  rows_are number method there kind = let each = is.each_method number method there in row_of each.0 each.1 method each.2 each.4 kind
