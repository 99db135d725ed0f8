-- What is written for classes that were added is read again.
use Rattle.std.proofs.Common.{◌≡◌, ◌≢◌, ℕ, List, [], Some, refl, sym, ap, subst, ◌∙◌}
use Rattle.std.specs.Prelude.{All, Contains, IsPermutation, slice_get}
use Rattle.std.proofs.lemmas.List.Elements.{All-contains}
use Rattle.std.proofs.lemmas.List.Sorted.{Contains-permutation, IsPermutation-sym}
use Rattle.cc_meaning.specs.declared.fault.DexFault.{DexFault}
use Rattle.cc_meaning.specs.declared.fault.DexFault.TheVariants as fault
use Rattle.cc_meaning.specs.declared.file.ClassRow.{ClassRow}
use Rattle.cc_meaning.specs.declared.file.Ids.{Ids}
use Rattle.cc_meaning.specs.declared.file.RawClass.{RawClass}
use Rattle.cc_meaning.specs.declared.file.RawMethod.{RawMethod}
use Rattle.cc_meaning.specs.declared.program.StaticValue.{StaticValue}
use Rattle.cc_meaning_dex.specs.declared.items.Members.{Members}
use Rattle.cc_meaning_dex.specs.declared.items.StatedMethod.{StatedMethod}
use Rattle.cc_meaning_dex.specs.Causes.{IsCause, IsFirstCause, LacksCode, LacksTries}
use Rattle.cc_meaning_dex.specs.Classes.{SpellsClass, SpellsClasses, SpellsSoundMethod}
use Rattle.cc_meaning_dex.specs.CodeItems.{HasSoundCode}
use Rattle.cc_meaning_dex.specs.ClassLaws.{MembersAgree}
use Rattle.cc_meaning_dex.specs.Members.{SpellsMembers}
use Rattle.cc_meaning_dex.specs.Rows.{IsFieldOf, IsMethodOf}
use Rattle.cc_meaning_dex.specs.Tries.{SpellsMethod}
use Rattle.cc_meaning_dex.specs.Values.{SpellsValues}
use Rattle.cc_meaning_dex.specs.Ids.{SpellsIds}
use Rattle.cc_meaning_builder.specs.declared.content.ListedClass.{ListedClass}
use Rattle.cc_meaning_builder.specs.declared.content.ListedMethod.{ListedMethod}
use Rattle.cc_meaning_builder.specs.Built.{HasSuitedCode, HasSuitedTries, HasSuitedValues, IsAdded, IsReadAgain, IsSuited, SpellsOuts}
use Rattle.cc_meaning_program.specs.Rows.{FitTables}
use Rattle.cc_meaning_builder.specs.Laws.{HandlersFit, NamesArePaired, MembersAreOwn, WrittenCode, WrittenMembers, WrittenTables, WrittenTries, WrittenValues, members_with}
use Rattle.cc_meaning_builder.specs.Members.{AreRawClasses, IsRawClass, IsRawField, IsRawMethod}
use Rattle.cc_meaning_builder.specs.Tables.{AreTables, IsClassRow}
use Rattle.cc_meaning_builder.specs.WellNamed.{ClassIsNamed, WellNamed}
use Rattle.cc_meaning_builder.specs.Written.{AreMembersWritten, ClassFitsFormat, FitsFormat, IsClassWritten, IsMethodWritten, IsSameClass, IsSmallMethod, IsWritten, MethodFitsFormat, MethodsPass}
use Rattle.cc_builder_laws.proofs.AddedHandlers.{cons_nil, handlers_fit}
use Rattle.cc_builder_laws.proofs.Own.{new, same_ids, new_fit, new_paired, field_of, method_of}
use Rattle.cc_builder_laws.proofs.Pairs.{all_of, contained, left, right, mapped}

some_same : {A : Type 0} {a b : A} → Some a ≡ Some b → a ≡ b
some_same e = cc

module _ (of_tables : WrittenTables) (of_members : WrittenMembers) (of_code : WrittenCode) (of_tries : WrittenTries) (of_values : WrittenValues) (agree : MembersAgree)
    (content : List ListedClass) (ids : Ids) (classes : List RawClass) (outs : List (List ℕ)) (file : List ℕ) (named : WellNamed content) (tables : AreTables content ids) (members : AreRawClasses content ids classes)
    (fits : FitsFormat file ids classes) (written : IsWritten ids classes outs file) where
  abbrev pub read : Ids
  read = written.written

  -- the tables that are read differ from these in the definitions
  of_new : (P : Ids → Type 0) → P (new ids read.classes) → P read
  of_new P p = subst P (sym (same_ids read ids written.same)) p

  spelled : SpellsIds file read
  spelled =
      of_tables file read (of_new FitTables (new_fit ids read.classes tables.fit written.same.classes)) (of_new NamesArePaired (new_paired ids read.classes content named tables)) written.header written.tables written.spelled

  -- a class: its definition as it is read and as it was made, what was added, and what is written
  record Class (place : ℕ) (stated : ClassRow) (class : RawClass) : Type 0 where
    pub listed : ListedClass
    pub made : ClassRow
    pub added : slice_get content place ≡ Some listed
    pub there : slice_get classes place ≡ Some class
    pub row : IsClassRow ids listed made
    pub same : IsSameClass stated made
    pub raw : IsRawClass ids listed class
    pub stands : IsClassWritten file read stated class
    pub is_named : ClassIsNamed listed

  class_at : (place : ℕ) (stated : ClassRow) → slice_get read.classes place ≡ Some stated → (class : RawClass) × Class place stated class
  class_at place stated e =
      let stands = left (IsClassWritten file read) read.classes classes written.members place stated e in
      let same = left IsSameClass read.classes ids.classes written.same.classes place stated e in
      let raw = right (IsRawClass ids) content classes members place stands.0 stands.1 in
      let row = left (IsClassRow ids) content ids.classes tables.classes place raw.0 raw.1 in
      let one : row.0 ≡ same.0 = some_same (sym row.1 ∙ same.1) in (
        stands.0,
        record {
          listed = raw.0;
          made = same.0;
          added = raw.1;
          there = stands.1;
          row = subst (IsClassRow ids raw.0) one row.2;
          same = same.2;
          raw = raw.2;
          stands = stands.2;
          is_named = All-contains ClassIsNamed content raw.0 named.classes (contained content place raw.0 raw.1);
        },
      )

  module _ (place : ℕ) (stated : ClassRow) (class : RawClass) (of : Class place stated class) where
    abbrev methods : List StatedMethod
    methods = of.stands.members.methods

    some_name : of.listed.name ≢ []
    some_name none = cons_nil 76 _ (sym of.is_named.name.form ∙ none)

    own : MembersAreOwn read stated.class class
    own = record {
      each_field = all_of _ class.fields (λ k field there.
          let pair = right (IsRawField ids of.listed.name) of.raw.fields class.fields of.raw.each_field k field there in
          of_new (λ r. IsFieldOf r stated.class field.row)
          (subst (λ type. IsFieldOf (new ids read.classes) type field.row) (sym of.same.class)
          (field_of ids read.classes of.made.class of.listed.name pair.0.name pair.0.kind field.row some_name of.row.class pair.2.named)));
      each_method = all_of _ class.methods (λ k method there.
          let pair = right (IsRawMethod ids of.listed.name) of.raw.methods class.methods of.raw.each_method k method there in
          of_new (λ r. IsMethodOf r stated.class method.row)
          (subst (λ type. IsMethodOf (new ids read.classes) type method.row) (sym of.same.class)
          (method_of ids read.classes of.made.class of.listed.name pair.0.name pair.0.proto method.row some_name of.row.class pair.2.named)));
      fields_rise = of.raw.fields_rise;
      methods_rise = of.raw.methods_rise;
    }

    -- the members that are spelled are those that are written
    only_written : (these : AreMembersWritten file stated class) (other : Members) → SpellsMembers file read stated other → other ≡ members_with class these.methods
    only_written these other is =
        some_same
        (sym ((agree file read stated other).1 is)
        ∙ (agree file read stated (members_with class these.methods)).1 (of_members file read stated class fits.short of.stands.small own these))

    spells : SpellsMembers file read stated (members_with class methods)
    spells = of_members file read stated class fits.short of.stands.small own of.stands.members

    only : (other : Members) → SpellsMembers file read stated other → other ≡ members_with class methods
    only other is = only_written of.stands.members other is

    small : (k : ℕ) (method : RawMethod) → slice_get class.methods k ≡ Some method → IsSmallMethod method
    small k method there = All-contains IsSmallMethod class.methods method of.stands.small.each_method (contained class.methods k method there)

    fit : (k : ℕ) (method : RawMethod) → slice_get class.methods k ≡ Some method → MethodFitsFormat method
    fit k method there =
        All-contains MethodFitsFormat class.methods method (All-contains ClassFitsFormat classes class fits.members (contained classes place class of.there)) (contained class.methods k method there)

    handlers : (k : ℕ) (method : RawMethod) → slice_get class.methods k ≡ Some method → HandlersFit read method
    handlers k method there =
        let pair = right (IsRawMethod ids of.listed.name) of.raw.methods class.methods of.raw.each_method k method there in
        of_new (λ r. HandlersFit r method)
        (handlers_fit ids read.classes method.row method.flags pair.0.code method
        (of.is_named.code pair.0 (among of.raw.methods of.listed.methods pair.0 of.raw.all_methods (contained of.raw.methods k pair.0 pair.1))) pair.2.code)
      where
        among : (those these : List ListedMethod) (method : ListedMethod) → IsPermutation these those → Contains those method → Contains these method
        among those these method same is = Contains-permutation those these method (IsPermutation-sym these those same) is

    code_of : (k : ℕ) (item : StatedMethod) (method : RawMethod) → slice_get class.methods k ≡ Some method → IsMethodWritten file item method → HasSuitedCode read method → HasSoundCode file read item
    code_of k item method there stands suited = of_code file read item method fits.short (small k method there) (fit k method there) stands suited

    tries_of : (k : ℕ) (item : StatedMethod) (method : RawMethod) → slice_get class.methods k ≡ Some method → IsMethodWritten file item method → HasSuitedTries method → SpellsMethod file read item method
    tries_of k item method there stands suited = of_tries file read item method fits.short (small k method there) (fit k method there) stands (handlers k method there) suited

    -- ---- faults

    lacks_code : (all : List StatedMethod) (number : ℕ) → all ≡ methods → LacksCode file read all number → IsAdded read classes (fault.BadCode number)
    lacks_code all number same lacks =
        let pair = left (IsMethodWritten file) methods class.methods of.stands.members.each lacks.place lacks.method (subst (λ ms. slice_get ms lacks.place ≡ Some lacks.method) same lacks.first.there) in (
          class,
          pair.0,
          contained classes place class of.there,
          contained class.methods lacks.place pair.0 pair.1,
          sym pair.2.row ∙ lacks.named,
          (λ suited. lacks.first.lacks (code_of lacks.place lacks.method pair.0 pair.1 pair.2 suited)),
        )

    lacks_tries : (all : List StatedMethod) (number : ℕ) → all ≡ methods → LacksTries file read all number → IsAdded read classes (fault.BadTry number)
    lacks_tries all number same lacks =
        let pair = left (IsMethodWritten file) methods class.methods of.stands.members.each lacks.place lacks.method (subst (λ ms. slice_get ms lacks.place ≡ Some lacks.method) same lacks.first.there) in (
          class,
          pair.0,
          contained classes place class of.there,
          contained class.methods lacks.place pair.0 pair.1,
          sym pair.2.row ∙ lacks.named,
          (λ suited. lacks.first.lacks (pair.0, tries_of lacks.place lacks.method pair.0 pair.1 pair.2 suited)),
        )

    values_of : HasSuitedValues read class → (all : Members) → all ≡ members_with class methods → ((values : List StaticValue) → ¬ SpellsValues file read all.fields stated.values_at values) → ⊥
    values_of suited all same lacks =
        lacks class.values
        (subst (λ (it : Members). SpellsValues file read it.fields stated.values_at class.values) (sym same) (of_values file read stated class fits.short of.stands.small of.raw.fields_rise of.stands.values suited))

    added : (reason : DexFault) → IsCause file read place stated reason → IsAdded read classes reason
    added (fault.BadClassData number) cause = absurd (cause.1 (members_with class methods) spells)
    added (fault.BadCode number) (all, is, lacks) = lacks_code all.methods number (ap (λ (it : Members). it.methods) (only all is)) lacks
    added (fault.BadTry number) (all, is, lacks) = lacks_tries all.methods number (ap (λ (it : Members). it.methods) (only all is)) lacks
    added (fault.BadValue number) (same, all, is, lacks) = (class, subst (λ n. slice_get classes n ≡ Some class) (sym same) of.there, (λ suited. values_of suited all (only all is) lacks.lacks))
    added fault.NotDex035 cause = absurd cause
    added fault.BadSize cause = absurd cause
    added (fault.BadChecksum a b) cause = absurd cause
    added fault.BadSignature cause = absurd cause
    added (fault.OutOfFile at) cause = absurd cause
    added (fault.BadIndex table number) cause = absurd cause
    added (fault.BadText number) cause = absurd cause
    added fault.TooLarge cause = absurd cause
    added fault.Memory cause = absurd cause

    -- ---- where it suits

    suited_class : IsSuited read class → SpellsClass file read stated class
    suited_class suited = record {
      members = members_with class methods;
      spelled = spells;
      fields = refl;
      methods = mapped (IsMethodWritten file) (SpellsSoundMethod file read) methods class.methods of.stands.members.each (λ k item method is_item there stands. record {
        sound = code_of k item method there stands (All-contains (HasSuitedCode read) class.methods method suited.code (contained class.methods k method there));
        spelled = tries_of k item method there stands (All-contains HasSuitedTries class.methods method suited.tries (contained class.methods k method there));
      });
      values = of_values file read stated class fits.short of.stands.small of.raw.fields_rise of.stands.values suited.values;
    }

  faults : (reason : DexFault) → IsFirstCause file read reason → IsAdded read classes reason
  faults reason cause = let of = class_at cause.number cause.stated cause.first.there in added cause.number cause.stated of.0 of.1 reason cause.cause

  suits : All (IsSuited read) classes → SpellsClasses file read classes
  suits suited = mapped (IsClassWritten file read) (SpellsClass file read) read.classes classes written.members (λ place stated class is_stated there stands.
      let of = class_at place stated is_stated in
      let one : of.0 ≡ class = some_same (sym of.1.there ∙ there) in
      subst (SpellsClass file read stated) one
      (suited_class place stated of.0 of.1 (All-contains (IsSuited read) classes of.0 suited (contained classes place of.0 of.1.there))))

  passes : SpellsOuts file read outs
  passes place stated passed members is_stated is_passed is =
      let of = class_at place stated is_stated in
      let these = written.passed place stated is_stated of.0 passed of.1.there is_passed in
      let same = ap (λ (it : Members). it.methods) (only_written place stated of.0 of.1 these.members members is) in
      subst (λ methods. MethodsPass file methods passed) (sym same) these.passed

  pub is_read_again : IsReadAgain ids classes outs file
  is_read_again = record {
    read = read;
    same = written.same;
    spelled = spelled;
    faults = faults;
    suited = suits;
    passed = passes;
    sections = written.sections;
  }
