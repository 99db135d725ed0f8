-- Each built-in method of a file's program is a row of the table, with the types that the row's text says.
use Rattle.std.proofs.Common.{unwrap_or, ◌≡◌, ℕ, zero, suc, true, false, cond, List, [], ◌∷◌, ◌++◌, replicate, Option, Some, None, refl, sym, ap, ◌∙◌, subst, slice_get}
use Rattle.std.specs.Prelude.{codes}
use Rattle.std.specs.List.{flat_map}
use Rattle.std.proofs.lemmas.List.{append_assoc}
use Rattle.std.specs.Str.{bytes_eq}
use Rattle.cc_meaning.specs.declared.file.Ids.{Ids}
use Rattle.cc_meaning.specs.declared.file.RawClass.{RawClass}
use Rattle.cc_meaning.specs.declared.file.RawMethod.{RawMethod}
use Rattle.cc_meaning.specs.declared.program.Base.{Base}
use Rattle.cc_meaning.specs.declared.program.Base.TheVariants as base
use Rattle.cc_meaning.specs.declared.program.Class.{Class}
use Rattle.cc_meaning.specs.declared.program.ClassKind.{ClassKind}
use Rattle.cc_meaning.specs.declared.program.ClassKind.TheVariants as origin
use Rattle.cc_meaning.specs.declared.program.DexType.{DexType}
use Rattle.cc_meaning.specs.declared.program.Method.{Method}
use Rattle.cc_meaning.specs.declared.program.MethodKind.{MethodKind}
use Rattle.cc_meaning.specs.declared.program.MethodKind.TheVariants as kinds
use Rattle.cc_meaning.specs.declared.program.Program.{Program}
use Rattle.cc_meaning.specs.BuiltIn.{is_built_in, object_name, string_name, string_builder_name}
use Rattle.cc_meaning.specs.Lookup.{class_named}
use Rattle.cc_meaning.specs.Names.{descriptor, result_descriptor, prototype, member_name}
use Rattle.cc_built_in.specs.BuiltInMethods.{BuiltInMethod, built_in_member, array_methods, built_in_method}
use Rattle.cc_meaning_dex.specs.Descriptors.{begins_with, names_class}
use Rattle.cc_meaning_program.specs.Ancestry.{kind_of_class}
use Rattle.cc_meaning_program.specs.ClassFaults.{AreSound}
use Rattle.cc_meaning_program.specs.Members.{Pairs, ResultSpelled, KindResolved, IsMethod}
use Rattle.cc_meaning_program.specs.OwnMembers.{built_in_by_kind, built_in_methods_of, method_listed}
use Rattle.cc_meaning_program.specs.Programs.{IsProgram}
use Rattle.cc_meaning_program.specs.Resolved.{names_of}
use Rattle.cc_meaning_program.specs.Rows.{FitTables}
use Rattle.cc_meaning_program.specs.TypeNames.{base_spelled, type_spelled, IsBase, Spells}
use Rattle.cc_meaning_program.proofs.Alike.{descriptor_by_names}
use Rattle.cc_meaning_typing.specs.Complete.{IsComplete}
use Rattle.cc_meaning_typing.specs.Code.{string_type, throwable_type, brackets, behind_brackets, base_of, type_of_kind, type_of_found, type_of_class}
use Rattle.cc_meaning_typing.specs.Hierarchy.{object_class}
use Rattle.cc_meaning_typing.specs.Types.{typed, class_type, object_type, held, IsBelow}
use Rattle.cc_meaning_rows.specs.declared.builtin.BuiltIn.{BuiltIn}
use Rattle.cc_meaning_rows.specs.declared.builtin.BuiltIn.TheVariants as row
use Rattle.cc_meaning_rows.specs.declared.builtin.Printed.{Printed}
use Rattle.cc_meaning_rows.specs.declared.builtin.Printed.TheVariants as form
use Rattle.cc_meaning_rows.specs.Rows.{array_rows, named_rows, rows_of, found_row, built_in_of, built_in}
use Rattle.cc_meaning_fits.specs.Premises.{printed_type, Signature, HasRow}
use Rattle.cc_meaning_world.specs.Sorts.{number_of}
use Rattle.cc_program_laws.proofs.Lists.{some_same, found_is}
use Rattle.cc_program_laws.proofs.Names.{object_in}
use Rattle.cc_program_laws.proofs.Origins.{owner_at}
use Rattle.cc_program_laws.proofs.Standing.{array_begins, built_in_listed}
use Rattle.cc_run_laws.proofs.BuiltNames.{string_in, builder_in}
use Rattle.cc_run_laws.proofs.Throwables.{below_as_type}
use Rattle.cc_run_laws.proofs.Types.{class_spelled, number_spelled}
use Rattle.cc_run_laws.proofs.RowTexts.{printed_text, Texts, row_says}

-- five lists behind one another
in_front : (a b c d e : List ℕ) → a ++ b ++ c ++ d ++ e ≡ a ++ (b ++ c ++ d ++ e)
in_front a b c d e = ap (λ z. z ++ d ++ e) (append_assoc a b c) ∙ (ap (λ z. z ++ e) (append_assoc a (b ++ c) d) ∙ append_assoc a (b ++ c ++ d) e)

apart : false ≡ true → ⊥
apart e = cc

-- the copying of an array is found by its name
clone_row : (class : List ℕ) → found_row (built_in_member (built_in_method class (codes "clone") [] object_name)) array_rows ≡ Some row.CloneArray
unfolding built_in_member object_name array_rows found_row
clone_row class = refl

first_bracket : (name : List ℕ) → begins_with 91 name ≡ true → (d : ℕ) × (brackets name ≡ suc d)
unfolding brackets
first_bracket [] e = absurd cc
first_bracket (u ∷ us) e = (brackets us, ap (λ b. cond b (suc (brackets us)) 0) e)

module _ (ids : Ids) (classes : List RawClass) (asked : Option (List ℕ)) (p : Program) (fit : FitTables ids) (sound : AreSound ids classes) (is : IsProgram ids classes asked p) (whole : IsComplete p) where
  -- ---- types by their texts

  abbrev Are : List DexType → List (List ℕ) → Type 0
  Are types texts = Pairs (Spells (names_of p)) types texts

  -- whatever spells this text is this type
  abbrev Only : List ℕ → DexType → Type 0
  Only text type = (t : DexType) → Spells (names_of p) t text → t ≡ type

  none : (types : List DexType) (texts : List (List ℕ)) → Are types texts → texts ≡ [] → types ≡ []
  none _ _ Pairs.none e = refl
  none _ _ (Pairs.next s rest) e = absurd cc

  one : (text : List ℕ) (type : DexType) → Only text type → (types : List DexType) (texts : List (List ℕ)) → Are types texts → texts ≡ text ∷ [] → types ≡ type ∷ []
  one text type only _ _ Pairs.none e = absurd cc
  one text type only _ _ (Pairs.next {x = t} {y = u} {xs = ts} {ys = us} s rest) e =
      let first : u ≡ text = cc in
      let others : us ≡ [] = cc in
      ap (λ z. z ∷ ts) (only t (subst (Spells (names_of p) t) first s)) ∙ ap (λ zs. type ∷ zs) (none ts us rest others)

  -- no type spells V
  no_void : (type : DexType) → Spells (names_of p) type (codes "V") → ⊥
  unfolding type_spelled base_spelled
  no_void type s = by type.dims type.base s.spelled s.based
    where
      by : (n : ℕ) (b : Base) → replicate n 91 ++ base_spelled (names_of p) b ≡ codes "V" → IsBase (names_of p) b → ⊥
      by (suc n) b e based = apart (ap (begins_with 86) e)
      by zero base.Boolean e based = apart (ap (begins_with 86) e)
      by zero base.Byte e based = apart (ap (begins_with 86) e)
      by zero base.Short e based = apart (ap (begins_with 86) e)
      by zero base.Char e based = apart (ap (begins_with 86) e)
      by zero base.Int e based = apart (ap (begins_with 86) e)
      by zero base.Long e based = apart (ap (begins_with 86) e)
      by zero (base.Class n) e based = apart (sym (ap names_class e) ∙ based)

  no_result : (r : Option DexType) (text : List ℕ) → ResultSpelled (names_of p) r text → text ≡ codes "V" → r ≡ None
  no_result None text s e = refl
  no_result (Some t) text s e = absurd (no_void t (subst (Spells (names_of p) t) e s))

  a_result : (wanted : List ℕ) (type : DexType) → Only wanted type → begins_with 86 wanted ≡ false → (r : Option DexType) (text : List ℕ) → ResultSpelled (names_of p) r text → text ≡ wanted → r ≡ Some type
  a_result wanted type only other None text s e = absurd (let q = ap (begins_with 86) (sym s ∙ e) in cc)
  a_result wanted type only other (Some t) text s e = ap Some (only t (subst (Spells (names_of p) t) e s))

  string_only : Only string_name (string_type p)
  unfolding string_type number_of
  string_only t s = class_spelled ids classes asked p fit sound is whole string_name t string_in s

  object_only : Only object_name (object_type p)
  unfolding object_class number_of
  object_only t s = class_spelled ids classes asked p fit sound is whole object_name t object_in s

  builder_only : Only string_builder_name (class_type (number_of p string_builder_name))
  builder_only t s = class_spelled ids classes asked p fit sound is whole string_builder_name t builder_in s

  boolean_only : Only (codes "Z") (typed 0 base.Boolean)
  unfolding type_spelled base_spelled
  boolean_only t s = number_spelled ids classes asked p fit sound is whole base.Boolean t (codes "Z") tt refl s

  char_only : Only (codes "C") (typed 0 base.Char)
  unfolding type_spelled base_spelled
  char_only t s = number_spelled ids classes asked p fit sound is whole base.Char t (codes "C") tt refl s

  int_only : Only (codes "I") (typed 0 base.Int)
  unfolding type_spelled base_spelled
  int_only t s = number_spelled ids classes asked p fit sound is whole base.Int t (codes "I") tt refl s

  long_only : Only (codes "J") (typed 0 base.Long)
  unfolding type_spelled base_spelled
  long_only t s = number_spelled ids classes asked p fit sound is whole base.Long t (codes "J") tt refl s

  printed_only : (f : Printed) → Only (printed_text f) (printed_type p f)
  unfolding printed_text printed_type
  printed_only form.Boolean = boolean_only
  printed_only form.Char = char_only
  printed_only form.Int = int_only
  printed_only form.Long = long_only
  printed_only form.Text = string_only

  -- ---- what a row says of a method

  class_is : (owner name : List ℕ) (c : Method) → class_named owner p ≡ Some c.class → owner ≡ name → c.class ≡ number_of p name
  unfolding number_of
  class_is owner name c of_class e = sym (ap (λ o. unwrap_or o 0) (ap (λ n. class_named n p) (sym e) ∙ of_class))

  said : (does : BuiltIn) (owner : List ℕ) (l : BuiltInMethod) (c : Method) → is_built_in owner ≡ true → class_named owner p ≡ Some c.class → Are c.params l.params → ResultSpelled (names_of p) c.result l.result → Texts does owner l → Signature p does c
  unfolding object_name string_name string_builder_name
  said row.Construct owner l c b at ps r t = (none c.params l.params ps t.0, no_result c.result l.result r t.1)
  said row.ConstructThrowable owner l c b at ps r t = (none c.params l.params ps t.0, no_result c.result l.result r t.1, subst (λ z. IsBelow p (held p (type_of_class p z)) (throwable_type p)) (sym (class_is owner owner c at refl)) (below_as_type p whole owner b t.2))
  said row.ConstructThrowableWith owner l c b at ps r t =
      (one string_name (string_type p) string_only c.params l.params ps t.0, no_result c.result l.result r t.1, subst (λ z. IsBelow p (held p (type_of_class p z)) (throwable_type p)) (sym (class_is owner owner c at refl)) (below_as_type p whole owner b t.2))
  said row.Message owner l c b at ps r t =
      (none c.params l.params ps t.0, a_result string_name (string_type p) string_only refl c.result l.result r t.1, subst (λ z. IsBelow p (held p (type_of_class p z)) (throwable_type p)) (sym (class_is owner owner c at refl)) (below_as_type p whole owner b t.2))
  said row.IsSameObject owner l c b at ps r t = (one object_name (object_type p) object_only c.params l.params ps t.0, a_result (codes "Z") (typed 0 base.Boolean) boolean_only refl c.result l.result r t.1)
  said row.TextLength owner l c b at ps r t = (none c.params l.params ps t.0, a_result (codes "I") (typed 0 base.Int) int_only refl c.result l.result r t.1, class_is owner string_name c at t.2)
  said row.CharAt owner l c b at ps r t = (one (codes "I") (typed 0 base.Int) int_only c.params l.params ps t.0, a_result (codes "C") (typed 0 base.Char) char_only refl c.result l.result r t.1, class_is owner string_name c at t.2)
  said row.IsEqualText owner l c b at ps r t = (one object_name (object_type p) object_only c.params l.params ps t.0, a_result (codes "Z") (typed 0 base.Boolean) boolean_only refl c.result l.result r t.1, class_is owner string_name c at t.2)
  said row.ConstructBuilder owner l c b at ps r t = (one string_name (string_type p) string_only c.params l.params ps t.0, no_result c.result l.result r t.1, class_is owner string_builder_name c at t.2)
  said (row.Append f) owner l c b at ps r t =
      (one (printed_text f) (printed_type p f) (printed_only f) c.params l.params ps t.0, a_result string_builder_name (class_type (number_of p string_builder_name)) builder_only refl c.result l.result r t.1, class_is owner string_builder_name c at t.2)
  said row.BuiltText owner l c b at ps r t = (none c.params l.params ps t.0, a_result string_name (string_type p) string_only refl c.result l.result r t.1, class_is owner string_builder_name c at t.2)
  said (row.Print f) owner l c b at ps r t = (one (printed_text f) (printed_type p f) (printed_only f) c.params l.params ps t.0, no_result c.result l.result r t.1)
  said (row.PrintLine f) owner l c b at ps r t = (one (printed_text f) (printed_type p f) (printed_only f) c.params l.params ps t.0, no_result c.result l.result r t.1)
  said row.EndLine owner l c b at ps r t = (none c.params l.params ps t.0, no_result c.result l.result r t.1)
  said row.CloneArray owner l c b at ps r t = absurd t

  -- ---- a method's name within its class is its row's

  flat_is : (types : List DexType) (texts : List (List ℕ)) → Are types texts → flat_map (descriptor p) types ≡ flat_map (λ text. text) texts
  flat_is _ _ Pairs.none = refl
  flat_is _ _ (Pairs.next {x = t} {y = text} {xs = types} {ys = texts} s rest) =
      ap (λ d. d ++ flat_map (descriptor p) types) (descriptor_by_names p t ∙ s.spelled) ∙ ap (λ ds. text ++ ds) (flat_is types texts rest)

  result_is : (r : Option DexType) (text : List ℕ) → ResultSpelled (names_of p) r text → result_descriptor p r ≡ text
  result_is None text void = sym void
  result_is (Some type) text s = descriptor_by_names p type ∙ s.spelled

  member_is : (c : Method) (l : BuiltInMethod) → c.name ≡ l.name → Are c.params l.params → ResultSpelled (names_of p) c.result l.result → member_name p c ≡ built_in_member l
  unfolding built_in_member
  member_is c l name ps r =
      ap (λ n. n ++ prototype p c.params c.result) name
      ∙ (ap (λ d. l.name ++ d) (ap (λ f. codes "(" ++ f ++ codes ")" ++ result_descriptor p c.result) (flat_is c.params l.params ps)
      ∙ ap (λ d. codes "(" ++ flat_map (λ text. text) l.params ++ codes ")" ++ d) (result_is c.result l.result r))
      ∙ sym (in_front l.name (codes "(") (flat_map (λ text. text) l.params) (codes ")") l.result))

  -- ---- rows

  by_row : (owner : List ℕ) (c : Method) (l : BuiltInMethod) (k : ℕ) (of : ClassKind) (class : Class) → slice_get p.classes c.class ≡ Some class → class.name ≡ owner → kind_of_class ids owner ≡ of → class.kind ≡ of → class_named owner p ≡ Some c.class →
      slice_get (built_in_by_kind of owner) k ≡ Some l → c.name ≡ l.name → Are c.params l.params → ResultSpelled (names_of p) c.result l.result → c.is_static ≡ false → HasRow p c
  unfolding built_in_by_kind array_methods built_in built_in_of rows_of array_rows found_row object_name type_of_class type_of_found type_of_kind
  by_row owner c l k origin.BuiltIn class there called from kind at e name ps r dynamic =
      let says = row_says owner k l e in
      record {
        does = says.0;
        is = ap (λ o. built_in_of p o c) there
            ∙ (ap (λ m. found_row m (rows_of class.kind class.name)) (member_is c l name ps r)
            ∙ (ap (λ z. found_row (built_in_member l) (rows_of z class.name)) kind
            ∙ (ap (λ n. found_row (built_in_member l) (named_rows n)) called ∙ says.1)));
        signature = said says.0 owner l c (built_in_listed ids owner from) at ps r says.2;
        dynamic = dynamic;
      }
  by_row owner c l zero origin.Array class there called from kind at e name ps r dynamic =
      let same : l ≡ built_in_method owner (codes "clone") [] object_name = sym (some_same (built_in_method owner (codes "clone") [] object_name) l e) in
      let params : l.params ≡ [] = ap (λ (z : BuiltInMethod). z.params) same in
      let result : l.result ≡ object_name = ap (λ (z : BuiltInMethod). z.result) same in
      let n = array_begins ids owner from in
      let element = array_element class.name (subst (λ z. begins_with 91 z ≡ true) (sym called) n) in
      record {
        does = row.CloneArray;
        is = ap (λ o. built_in_of p o c) there
            ∙ (ap (λ m. found_row m (rows_of class.kind class.name)) (member_is c l name ps r)
            ∙ (ap (λ z. found_row (built_in_member l) (rows_of z class.name)) kind
            ∙ clone_found l same));
        signature = (
          none c.params l.params ps params,
          a_result object_name (object_type p) object_only refl c.result l.result r result,
          (
            typed element.0 (base_of p (behind_brackets class.name)),
            ap (type_of_found p c.class) there ∙ (ap (λ z. type_of_kind p c.class z class.name) kind ∙ ap (λ d. typed d (base_of p (behind_brackets class.name))) element.1),
          ),
        );
        dynamic = dynamic;
      }
    where
      clone_found : (l : BuiltInMethod) → l ≡ built_in_method owner (codes "clone") [] object_name → found_row (built_in_member l) array_rows ≡ Some row.CloneArray
      clone_found l e = ap (λ z. found_row (built_in_member z) array_rows) e ∙ clone_row owner

      array_element : (name : List ℕ) → begins_with 91 name ≡ true → (d : ℕ) × (brackets name ≡ suc d)
      array_element name e = first_bracket name e
  by_row owner c l (suc k) origin.Array class there called from kind at e name ps r dynamic = absurd cc
  by_row owner c l k origin.File class there called from kind at e name ps r dynamic = absurd cc
  by_row owner c l k origin.Outside class there called from kind at e name ps r dynamic = absurd cc
  by_row owner c l k origin.OutsideError class there called from kind at e name ps r dynamic = absurd cc

  by_method : (owner member : List ℕ) (c : Method) → class_named owner p ≡ Some c.class → c.kind ≡ kinds.BuiltIn → IsMethod ids classes p owner member c → HasRow p c
  unfolding method_listed built_in_methods_of
  by_method owner member c at k (IsMethod.defined {raw = raw} defined named static virtual kind) = absurd (no_row raw c.kind kind k)
    where
      no_row : (raw : RawMethod) (k : MethodKind) → KindResolved ids classes p raw k → k ≡ kinds.BuiltIn → ⊥
      no_row raw _ (KindResolved.native flag) e = cc
      no_row raw _ (KindResolved.abstract other flag) e = cc
      no_row raw _ (KindResolved.code native abstract there resolved) e = cc
  by_method owner member c at k (IsMethod.built_in {listed = listed} missing is_listed name params result static virtual kind) =
      let class = owner_at ids classes asked p fit sound is owner c.class at in
      let found = found_is (λ (l : BuiltInMethod). bytes_eq (built_in_member l) member) (built_in_by_kind (kind_of_class ids owner) owner) listed is_listed in
      by_row owner c listed found.1.0 (kind_of_class ids owner) class.0 class.1 class.2 refl ((is.each_class c.class class.0 class.1).kind ∙ ap (kind_of_class ids) class.2) at found.1.1 name params result static
  by_method owner member c at k (IsMethod.outside missing unlisted all first refers named static virtual kind) = absurd cc

  pub rows : (m : ℕ) (callee : Method) → slice_get p.methods m ≡ Some callee → callee.kind ≡ kinds.BuiltIn → HasRow p callee
  rows m c there k = let each = is.each_method m c there in by_method each.0 each.1 c each.2 k each.4
