-- The stated values of a file's classes fit their fields.
use Rattle.std.proofs.Common.{unwrap_or, ◌≡◌, inl, inr, ℕ, zero, suc, ◌+◌, ◌<◌, Bool, true, false, ◌&&◌, cond, List, [], ◌∷◌, ◌++◌, length, replicate, Option, Some, None, position, refl, sym, ap, ◌∙◌, subst, arith, slice_get}
use Rattle.std.specs.Prelude.{◌==◌, codes, find, option_and_then, slice_index, if◌then◌else◌}
use Rattle.std.specs.Str.{bytes_eq}
use Rattle.std.proofs.lemmas.Bool.Decides.{Decides-eqb, nat_tests}
use Rattle.std.proofs.lemmas.List.{append_assoc}
use Rattle.std.proofs.lemmas.List.Quantifiers.{position-Some}
use Rattle.std.proofs.lemmas.Option.{get_or_from_slice_get}
use Rattle.cc_meaning.specs.declared.file.ClassRow.{ClassRow}
use Rattle.cc_meaning.specs.declared.file.FieldRow.{FieldRow}
use Rattle.cc_meaning.specs.declared.file.Ids.{Ids}
use Rattle.cc_meaning.specs.declared.file.RawClass.{RawClass}
use Rattle.cc_meaning.specs.declared.file.RawField.{RawField}
use Rattle.cc_meaning.specs.declared.instruction.Kind.{Kind}
use Rattle.cc_meaning.specs.declared.instruction.Kind.TheVariants as sort
use Rattle.cc_meaning.specs.declared.program.Base.{Base}
use Rattle.cc_meaning.specs.declared.program.Base.TheVariants as base
use Rattle.cc_meaning.specs.declared.program.Class.{Class}
use Rattle.cc_meaning.specs.declared.program.DexType.{DexType}
use Rattle.cc_meaning.specs.declared.program.Field.{Field}
use Rattle.cc_meaning.specs.declared.program.Program.{Program}
use Rattle.cc_meaning.specs.declared.program.RegType.TheVariants as reg
use Rattle.cc_meaning.specs.declared.program.StaticValue.{StaticValue}
use Rattle.cc_meaning.specs.declared.program.StaticValue.TheVariants as static
use Rattle.cc_meaning.specs.BuiltIn.{string_name}
use Rattle.cc_meaning.specs.Kinds.{kind_of_base, kind_of}
use Rattle.cc_meaning.specs.Lookup.{class_named}
use Rattle.cc_meaning.specs.Names.{name_or_none, class_name, descriptor, field_name}
use Rattle.cc_meaning_dex.specs.Classes.{EachPair, SpellsClass, SpellsClasses}
use Rattle.cc_meaning_dex.specs.Descriptors.{names_class}
use Rattle.cc_meaning_dex.specs.Rows.{descriptor_of}
use Rattle.cc_meaning_dex.specs.Sequences.{Follow, begin, ◌>>=◌}
use Rattle.cc_meaning_dex.specs.Values.{kind_by, kind_of as value_kind, field_kind, SpellsValue, ValueStands}
use Rattle.cc_meaning_dex.specs.declared.items.Cursor.{Cursor}
use Rattle.cc_meaning_dex.specs.declared.items.ValueKind.{ValueKind}
use Rattle.cc_meaning_dex.specs.declared.items.ValueKind.TheVariants as values
use Rattle.cc_meaning_program.specs.ClassFaults.{AreSound}
use Rattle.cc_meaning_program.specs.Members.{FieldIsNamedBy, IsField}
use Rattle.cc_meaning_program.specs.Named.{type_name, field_member}
use Rattle.cc_meaning_program.specs.OwnMembers.{members_of, field_among, field_defined}
use Rattle.cc_meaning_program.specs.Programs.{IsProgram, ValueIs, ValueResolved, fields_from, fields_of, is_number, same_truth, value_among, value_listed, field_within_class, zero_value, zero_of_field}
use Rattle.cc_meaning_program.specs.Resolved.{names_of, whole_name}
use Rattle.cc_meaning_program.specs.Rows.{FitTables}
use Rattle.cc_meaning_program.specs.TypeNames.{base_spelled, type_spelled, IsBase, Spells}
use Rattle.cc_meaning_program.proofs.Leading.{same_member}
use Rattle.cc_meaning_typing.specs.Complete.{IsComplete}
use Rattle.cc_meaning_typing.specs.Code.{string_type}
use Rattle.cc_meaning_typing.specs.Registers.{register_of_kind, register_of}
use Rattle.cc_meaning_typing.specs.Types.{typed, held}
use Rattle.cc_meaning_typing.proofs.Tree.{test_eq}
use Rattle.cc_meaning_exec.specs.Starts.{statics_from, stated_in}
use Rattle.cc_meaning_fits.specs.Premises.{StatedFits, StatedIn, AllStated}
use Rattle.cc_meaning_world.specs.Sorts.{number_of}
use Rattle.cc_program_laws.proofs.Hierarchy.{numbered}
use Rattle.cc_program_laws.proofs.Lists.{same_bytes, some_same, position_is, mapped_found}
use Rattle.cc_run_laws.proofs.BuiltNames.{string_in}
use Rattle.cc_run_laws.proofs.Built.{called_so}
use Rattle.cc_run_laws.proofs.Layouts.{declared_in, same_number}
use Rattle.cc_run_laws.proofs.Mains.{named_leads}
use Rattle.cc_run_laws.proofs.Members.{In}
use Rattle.cc_run_laws.proofs.Types.{class_spelled}

-- ---- lists

turned : (a b : ℕ) → (a == b) ≡ (b == a)
turned a b = elim (test_eq a b) [
  | inl t ↦ t.0 ∙ sym (ap (λ z. z == a) (sym t.1) ∙ (ap (λ z. a == z) t.1 ∙ t.0))
  | inr t ↦ t.0 ∙ sym (elim (test_eq b a) [ inl s ↦ absurd (t.1 (sym s.1)) | inr s ↦ s.0 ])
]

same_statics : (n from : ℕ) (fields : List Field) → fields_from from (Some n) true fields ≡ statics_from n from fields
unfolding fields_from is_number same_truth statics_from
same_statics n from [] = refl
same_statics n from (x ∷ xs) =
    let rest = same_statics n (suc from) xs in
    ap (λ b. cond b (from ∷ fields_from (suc from) (Some n) true xs) (fields_from (suc from) (Some n) true xs)) (both x.is_static (n == x.class) (x.class == n) (turned n x.class))
    ∙ ap (λ fs. cond (x.is_static && (x.class == n)) (from ∷ fs) fs) rest
  where
    both : (s a b : Bool) → a ≡ b → (a && same_truth s true) ≡ (s && b)
    both true true b e = e
    both true false b e = e
    both false true b e = refl
    both false false b e = refl

all_stated : (p : Program) (fs : List ℕ) (vs : List StaticValue) → ((k f : ℕ) (v : StaticValue) → slice_get fs k ≡ Some f → slice_get vs k ≡ Some v → StatedIn p (slice_get p.fields f) v) → AllStated p fs vs
all_stated p [] vs each = tt
all_stated p (f ∷ fs) [] each = tt
all_stated p (f ∷ fs) (v ∷ vs) each = (each 0 f v refl refl, all_stated p fs vs (λ k g w a b. each (suc k) g w a b))

none_stated : (p : Program) (fs : List ℕ) → AllStated p fs []
none_stated p [] = tt
none_stated p (f ∷ fs) = tt

nothing : {A : Type 0} {x : A} → None ≡ Some x → ⊥
nothing e = cc

in_place : (f : ℕ) (fs : List ℕ) (k : ℕ) → slice_get fs k ≡ Some f → In f fs
in_place f [] k e = absurd cc
in_place f (g ∷ gs) zero e = inl (sym (some_same g f e))
in_place f (g ∷ gs) (suc k) e = inr (in_place f gs k e)

find_at : {A : Type 0} (test : A → Bool) (xs : List A) (k : ℕ) (x : A) → slice_get xs k ≡ Some x → test x ≡ true → ((j : ℕ) (y : A) → j < k → slice_get xs j ≡ Some y → test y ≡ false) → find test xs ≡ Some x
find_at test [] k x e t before = absurd cc
find_at test (y ∷ ys) zero x e t before = ap (λ b. cond b (Some y) (find test ys)) (ap test (some_same y x e) ∙ t) ∙ e
find_at test (y ∷ ys) (suc k) x e t before =
    ap (λ b. cond b (Some y) (find test ys)) (before 0 y (omega arith) refl) ∙ find_at test ys k x e t (λ j z less at. before (suc j) z (omega (arith, less)) at)

-- what is found stands at the first place
found_at : {A : Type 0} (test : A → Bool) (xs : List A) (k : ℕ) → position test xs ≡ Some k → (x : A) × (slice_get xs k ≡ Some x) × (find test xs ≡ Some x) × (test x ≡ true)
found_at test xs k e =
    let found = position_is test xs k e in
    let first = position-Some test xs k found.0 e in
    (found.0, found.1, find_at test xs k found.0 found.1 found.2 (λ j y less at. ap test (sym (get_or_from_slice_get xs j y found.0 at)) ∙ first.2 j less), found.2)

each_pair_at : {A B : Type 0} (holds : A → B → Type 0) (xs : List A) (ys : List B) → EachPair holds xs ys → (k : ℕ) (x : A) (y : B) → slice_get xs k ≡ Some x → slice_get ys k ≡ Some y → holds x y
each_pair_at holds [] ys pairs k x y a b = absurd cc
each_pair_at holds (v ∷ vs) [] pairs k x y a b = absurd cc
each_pair_at holds (v ∷ vs) (w ∷ ws) pairs zero x y a b = subst (λ z. holds z y) (some_same v x a) (subst (holds v) (some_same w y b) pairs.0)
each_pair_at holds (v ∷ vs) (w ∷ ws) pairs (suc k) x y a b = each_pair_at holds vs ws pairs.1 k x y a b

-- ---- the values of a file

-- the value at a place, with the row that it is for
value_at : (file : List ℕ) (ids : Ids) (fields : List RawField) (from : Cursor) (vs : List StaticValue) (end : Cursor) (k : ℕ) (v : StaticValue) → Follow (ValueStands file ids fields) from vs end → slice_get vs k ≡ Some v → (at next : Cursor) × ValueStands file ids fields at v next × (at.row ≡ from.row + k)
value_at file ids fields from [] end k v follow e = absurd cc
value_at file ids fields from (w ∷ ws) end zero v follow e = (from, follow.0, subst (λ z. ValueStands file ids fields from z follow.0) (some_same w v e) follow.1, omega arith)
value_at file ids fields from (w ∷ ws) end (suc k) v follow e =
    let r = value_at file ids fields follow.0 ws end k v follow.2 e in
    let next = follow.1.behind in
    let row = r.3 in
    (r.0, r.1, r.2, omega (arith, next, row))

-- what a value of a kind is
abbrev ListedFits : Program → DexType → StaticValue → Type 0
ListedFits p type (static.Int n) = register_of p type ≡ reg.Int
ListedFits p type (static.Long n) = register_of p type ≡ reg.LongLow
ListedFits p type static.Null = register_of p type ≡ reg.Reference (held p type)
ListedFits p type (static.Text row) = type ≡ string_type p

-- what a kind of values says of a type
abbrev Kinded : Program → DexType → ValueKind → Type 0
Kinded p type values.Boolean = register_of p type ≡ reg.Int
Kinded p type values.Byte = register_of p type ≡ reg.Int
Kinded p type values.Short = register_of p type ≡ reg.Int
Kinded p type values.Char = register_of p type ≡ reg.Int
Kinded p type values.Int = register_of p type ≡ reg.Int
Kinded p type values.Long = register_of p type ≡ reg.LongLow
Kinded p type values.Text = (register_of p type ≡ reg.Reference (held p type)) × (type ≡ string_type p)
Kinded p type values.Reference = register_of p type ≡ reg.Reference (held p type)

value_fits : (p : Program) (type : DexType) (file : List ℕ) (texts : ℕ) (kind : ValueKind) (at : ℕ) (v : StaticValue) (next : ℕ) → Kinded p type kind → SpellsValue file texts kind at v next → ListedFits p type v
value_fits p type file texts values.Boolean at v next k (flag, head, few, is, end) = subst (ListedFits p type) (sym is) k
value_fits p type file texts values.Byte at v next k (argument, number, is) = subst (ListedFits p type) (sym is) k
value_fits p type file texts values.Short at v next k (argument, number, is) = subst (ListedFits p type) (sym is) k
value_fits p type file texts values.Char at v next k (argument, number, is) = subst (ListedFits p type) (sym is) k
value_fits p type file texts values.Int at v next k (argument, number, is) = subst (ListedFits p type) (sym is) k
value_fits p type file texts values.Long at v next k (argument, number, is) = subst (ListedFits p type) (sym is) k
value_fits p type file texts values.Text at v next k (inl (head, is, end)) = subst (ListedFits p type) (sym is) k.0
value_fits p type file texts values.Text at v next k (inr (argument, number, less, is)) = subst (ListedFits p type) (sym is) k.1
value_fits p type file texts values.Reference at v next k (head, is, end) = subst (ListedFits p type) (sym is) k

-- a zero fits its type
zero_fits : (p : Program) (type : DexType) → StatedFits p type (zero_value (kind_of type))
unfolding zero_value register_of register_of_kind
zero_fits p type = by (kind_of type) refl
  where
    by : (k : Kind) → kind_of type ≡ k → StatedFits p type (zero_value k)
    by sort.Plain e = ap (register_of_kind p type) e
    by sort.Wide e = ap (register_of_kind p type) e
    by sort.Object e = ap (register_of_kind p type) e
    by sort.Boolean e = ap (register_of_kind p type) e
    by sort.Byte e = ap (register_of_kind p type) e
    by sort.Char e = ap (register_of_kind p type) e
    by sort.Short e = ap (register_of_kind p type) e

-- an array is a reference
pub array_register : (p : Program) (n : ℕ) (b : Base) → register_of p (typed (suc n) b) ≡ reg.Reference (held p (typed (suc n) b))
unfolding register_of register_of_kind
array_register p n b =
    let some : (suc n == 0) ≡ false = grind (arith, nat_tests) in
    ap (λ t. register_of_kind p (typed (suc n) b) (cond t (kind_of_base b) sort.Object)) some

-- ---- a program of a file

module _ (file : List ℕ) (ids : Ids) (classes : List RawClass) (asked : Option (List ℕ)) (p : Program) (spelled : SpellsClasses file ids classes) (fit : FitTables ids) (sound : AreSound ids classes) (is : IsProgram ids classes asked p) (whole : IsComplete p) where
  -- a reference type, by what its descriptor is
  object_fits : (type : DexType) (text : List ℕ) (kind : ValueKind) → Spells (names_of p) type text → register_of p type ≡ reg.Reference (held p type) → (b : Bool) → bytes_eq text string_name ≡ b → Some (if b then values.Text else values.Reference) ≡ Some kind → Kinded p type kind
  unfolding string_type number_of
  object_fits type text kind s r true b k = subst (Kinded p type) (some_same values.Text kind k) (r, class_spelled ids classes asked p fit sound is whole string_name type string_in (subst (Spells (names_of p) type) (same_bytes text string_name b) s))
  object_fits type text kind s r false b k = subst (Kinded p type) (some_same values.Reference kind k) r

  by_parts : (n : ℕ) (b : Base) (text : List ℕ) (kind : ValueKind) → text ≡ replicate n 91 ++ base_spelled (names_of p) b → IsBase (names_of p) b → Spells (names_of p) (typed n b) text → value_kind text ≡ Some kind → Kinded p (typed n b) kind
  unfolding base_spelled value_kind register_of register_of_kind
  by_parts (suc n) b text kind d based s e = object_fits (typed (suc n) b) text kind s (array_register p n b) (bytes_eq text string_name) refl (sym (ap (λ f. kind_by f text) (ap (λ z. slice_index z 0) d)) ∙ e)
  by_parts zero base.Boolean text kind d based s e = subst (Kinded p (typed 0 base.Boolean)) (some_same values.Boolean kind (sym (ap value_kind d) ∙ e)) refl
  by_parts zero base.Byte text kind d based s e = subst (Kinded p (typed 0 base.Byte)) (some_same values.Byte kind (sym (ap value_kind d) ∙ e)) refl
  by_parts zero base.Short text kind d based s e = subst (Kinded p (typed 0 base.Short)) (some_same values.Short kind (sym (ap value_kind d) ∙ e)) refl
  by_parts zero base.Char text kind d based s e = subst (Kinded p (typed 0 base.Char)) (some_same values.Char kind (sym (ap value_kind d) ∙ e)) refl
  by_parts zero base.Int text kind d based s e = subst (Kinded p (typed 0 base.Int)) (some_same values.Int kind (sym (ap value_kind d) ∙ e)) refl
  by_parts zero base.Long text kind d based s e = subst (Kinded p (typed 0 base.Long)) (some_same values.Long kind (sym (ap value_kind d) ∙ e)) refl
  by_parts zero (base.Class n) text kind d based s e =
      let first : slice_index text 0 ≡ 76 = (Decides-eqb (slice_index text 0) 76).0 (ap names_class d ∙ based) in
      object_fits (typed 0 (base.Class n)) text kind s refl (bytes_eq text string_name) refl (sym (ap (λ f. kind_by f text) first) ∙ e)

  -- the kind of a type's values, by its descriptor
  kind_fits : (type : DexType) (text : List ℕ) (kind : ValueKind) → Spells (names_of p) type text → value_kind text ≡ Some kind → Kinded p type kind
  unfolding type_spelled
  kind_fits type text kind s e = by_parts type.dims type.base text kind (sym s.spelled) s.based s e

  -- what a row of fields says of the kind of its values
  row_kind : (row : ℕ) (stated : FieldRow) (kind : ValueKind) → slice_get ids.fields row ≡ Some stated → field_kind ids row ≡ Some kind → value_kind (type_name ids stated.kind) ≡ Some kind
  unfolding type_name
  row_kind row stated kind there e = by (descriptor_of ids stated.kind) (sym (ap (λ o. o >>= (λ (z : FieldRow). descriptor_of ids z.kind >>= (λ units. value_kind units))) there) ∙ e)
    where
      by : (o : Option (List ℕ)) → (o >>= (λ units. value_kind units)) ≡ Some kind → value_kind (unwrap_or o []) ≡ Some kind
      by None e = absurd cc
      by (Some units) e = e

  -- ---- the values that a class lists

  -- a class's members and values, as the file spells them
  members_spelled : (name : List ℕ) (class : RawClass) → members_of ids classes name ≡ Some class → (stated : ClassRow) × SpellsClass file ids stated class
  unfolding members_of
  members_spelled name class e = from (position (λ (stated : ClassRow). bytes_eq (type_name ids stated.class) name) ids.classes) refl e
    where
      from : (o : Option ℕ) → position (λ (stated : ClassRow). bytes_eq (type_name ids stated.class) name) ids.classes ≡ o → option_and_then (slice_get classes) o ≡ Some class → (stated : ClassRow) × SpellsClass file ids stated class
      from None at e = absurd cc
      from (Some k) at e =
          let found = position_is (λ (stated : ClassRow). bytes_eq (type_name ids stated.class) name) ids.classes k at in
          (found.0, each_pair_at (SpellsClass file ids) ids.classes classes spelled k found.0 class found.1 e)

  -- the value at a place of a class is spelled for the field there
  value_for : (stated : ClassRow) (class : RawClass) (k : ℕ) (v : StaticValue) (raw : RawField) → SpellsClass file ids stated class → slice_get class.values k ≡ Some v → slice_get class.fields k ≡ Some raw → (kind : ValueKind) × (from next : ℕ) × (field_kind ids raw.row ≡ Some kind) × SpellsValue file (length ids.texts) kind from v next
  value_for stated class k v raw s e f = elim s.values [
    | inl none ↦ absurd (let q = ap (λ vs. slice_get vs k) none.1 in cc)
    | inr some ↦ (
        let r = value_at file ids s.members.fields (begin some.1.place) class.values some.1.listed.end k v some.1.listed.each e in
        let row : r.0.row ≡ k = (let z = r.3 in omega arith) in
        let same : r.2.field ≡ raw = some_same r.2.field raw (sym r.2.there ∙ (ap (slice_get s.members.fields) row ∙ (ap (λ fs. slice_get fs k) (sym s.fields) ∙ f))) in
        (r.2.kind, r.0.at, r.1.at, ap (λ (z : RawField). field_kind ids z.row) (sym same) ∙ r.2.kinded, r.2.spelled))
  ]

  -- ---- a field and the row that it is of

  -- the name of a field within its class
  within_class : (f : ℕ) (field : Field) (n : ℕ) (c : Class) → slice_get p.fields f ≡ Some field → field.class ≡ n → slice_get p.classes n ≡ Some c → (raw : RawClass) → members_of ids classes c.name ≡ Some raw → (k : ℕ) (x : RawField) → find (λ (z : RawField). bytes_eq (field_member ids z.row) (field_within_class p field)) raw.fields ≡ Some x → FieldIsNamedBy ids p x.row field
  unfolding whole_name field_within_class field_defined field_among names_of
  within_class f field n c there of at raw members k x found =
      let each = is.each_field f field there in
      let own = called_so p whole each.0 field.class each.2 in
      let same : own.0 ≡ c = some_same own.0 c (sym own.1 ∙ (ap (slice_get p.classes) of ∙ at)) in
      let owner : each.0 ≡ c.name = sym own.2 ∙ ap (λ (z : Class). z.name) same in
      let name : class_name p field.class ≡ c.name = ap name_or_none (ap (slice_get p.classes) of ∙ at) in
      let number = numbered ids classes asked p fit sound is n c.name (mapped_found (λ (z : Class). z.name) p.classes n c at) in
      let full : field_name p field ≡ whole_name c.name (field_within_class p field) =
      ap (λ o. o ++ codes "->" ++ field.name ++ codes ":" ++ descriptor p field.ty) name
      ∙ (ap (λ z. z ++ descriptor p field.ty) (append_assoc (c.name ++ codes "->") field.name (codes ":")) ∙ append_assoc (c.name ++ codes "->") (field.name ++ codes ":") (descriptor p field.ty)) in
      let left = named_leads ids classes asked p fit sound is whole each.0 field.class each.2 in
      let right = named_leads ids classes asked p fit sound is whole c.name n number in
      let member : each.1 ≡ field_within_class p field = same_member each.0 c.name each.1 (field_within_class p field) left right (sym each.3 ∙ full) in
      by each.0 each.1 owner member each.4
    where
      found_so : field_defined ids classes c.name (field_within_class p field) ≡ Some x
      found_so = ap (field_among ids (field_within_class p field)) members ∙ found

      defined_so : (owner member : List ℕ) → owner ≡ c.name → member ≡ field_within_class p field → field_defined ids classes owner member ≡ Some x
      defined_so owner member o m = ap (λ z. field_defined ids classes z member) o ∙ (ap (field_defined ids classes c.name) m ∙ found_so)

      by : (owner member : List ℕ) → owner ≡ c.name → member ≡ field_within_class p field → IsField ids classes p owner member field → FieldIsNamedBy ids p x.row field
      by owner member o m (IsField.defined {raw = r} defined named static) =
          let same : r ≡ x = some_same r x (sym defined ∙ defined_so owner member o m) in
          subst (λ (z : RawField). FieldIsNamedBy ids p z.row field) same named
      by owner member o m (IsField.out of_system of_out missing called spells static) = absurd (nothing (sym missing ∙ defined_so owner member o m))
      by owner member o m (IsField.outside other missing all first refers named static) = absurd (nothing (sym missing ∙ defined_so owner member o m))

  after_some : {A B : Type 0} (f : A → Option B) (o : Option A) (y : B) → option_and_then f o ≡ Some y → (x : A) × (o ≡ Some x) × (f x ≡ Some y)
  after_some f None y e = absurd cc
  after_some f (Some x) y e = (x, refl, e)

  -- a value that is listed for a field fits its type
  listed_fits : (f : ℕ) (field : Field) (n : ℕ) (c : Class) (v : StaticValue) → slice_get p.fields f ≡ Some field → field.class ≡ n → slice_get p.classes n ≡ Some c → value_listed ids classes p c.name (Some field) ≡ Some v → ListedFits p field.ty v
  unfolding value_listed value_among
  listed_fits f field n c v there of at e = by (members_of ids classes c.name) refl e
    where
      by : (o : Option RawClass) → members_of ids classes c.name ≡ o → value_among ids (field_within_class p field) o ≡ Some v → ListedFits p field.ty v
      by None m e = absurd cc
      by (Some raw) m e =
          let place = after_some (slice_get raw.values) (position (λ (z : RawField). bytes_eq (field_member ids z.row) (field_within_class p field)) raw.fields) v e in
          let x = found_at (λ (z : RawField). bytes_eq (field_member ids z.row) (field_within_class p field)) raw.fields place.0 place.1 in
          let named = within_class f field n c there of at raw m place.0 x.0 x.2 in
          let spells = members_spelled c.name raw m in
          let value = value_for spells.0 raw place.0 v x.0 spells.1 place.2 x.1 in
          let kind = row_kind x.0.row named.stated value.0 named.there value.3 in
          value_fits p field.ty file (length ids.texts) value.0 value.1 v value.2 (kind_fits field.ty (type_name ids named.stated.kind) value.0 named.ty kind) value.4

  -- so does the value that the program holds for it
  held_fits : (type : DexType) (v held : StaticValue) → ListedFits p type v → ValueResolved ids p v held → StatedFits p type held
  held_fits type _ _ fits ValueResolved.int = fits
  held_fits type _ _ fits ValueResolved.long = fits
  held_fits type _ _ fits ValueResolved.null = fits
  held_fits type _ _ fits (ValueResolved.text number) = fits

  value_stated : (f : ℕ) (field : Field) (n : ℕ) (c : Class) (held : StaticValue) → slice_get p.fields f ≡ Some field → field.class ≡ n → slice_get p.classes n ≡ Some c → ValueIs ids p (Some field) (value_listed ids classes p c.name (Some field)) held → StatedFits p field.ty held
  unfolding zero_of_field
  value_stated f field n c held there of at e = by (value_listed ids classes p c.name (Some field)) refl e
    where
      by : (o : Option StaticValue) → value_listed ids classes p c.name (Some field) ≡ o → ValueIs ids p (Some field) o held → StatedFits p field.ty held
      by None q e = subst (StatedFits p field.ty) (sym e) (zero_fits p field.ty)
      by (Some v) q e = held_fits field.ty v held (listed_fits f field n c v there of at q) e

  one_stated : (n : ℕ) (c : Class) → slice_get p.classes n ≡ Some c → AllStated p (statics_from n 0 p.fields) c.values
  unfolding fields_of names_of is_number
  one_stated n c at =
      let are = (is.each_class n c at).values in
      let number : class_named c.name p ≡ Some n = numbered ids classes asked p fit sound is n c.name (mapped_found (λ (z : Class). z.name) p.classes n c at) in
      let same : fields_of p true c.name ≡ statics_from n 0 p.fields = ap (λ o. fields_from 0 o true p.fields) number ∙ same_statics n 0 p.fields in
      subst (λ fs. AllStated p fs c.values) same (all_stated p (fields_of p true c.name) c.values (λ k f v e w.
      let declared = declared_in p true c.name f (in_place f (fields_of p true c.name) k e) in
      let owned : is_number (Some n) declared.field.class ≡ true = ap (λ o. is_number o declared.field.class) (sym number) ∙ declared.owned in
      let of : declared.field.class ≡ n = sym (same_number n declared.field.class owned) in
      let held : ValueIs ids p (Some declared.field) (value_listed ids classes p c.name (Some declared.field)) v = subst (λ o. ValueIs ids p o (value_listed ids classes p c.name o) v) declared.there (are.each k f v e w) in
      subst (λ o. StatedIn p o v) (sym declared.there) (value_stated f declared.field n c v declared.there of at held)))

  pub stated : (class : ℕ) → AllStated p (statics_from class 0 p.fields) (stated_in (slice_get p.classes class))
  unfolding stated_in
  stated class = by (slice_get p.classes class) refl
    where
      by : (o : Option Class) → slice_get p.classes class ≡ o → AllStated p (statics_from class 0 p.fields) (stated_in o)
      by None e = none_stated p (statics_from class 0 p.fields)
      by (Some c) e = one_stated class c e
