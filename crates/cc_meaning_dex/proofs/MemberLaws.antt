-- That the members of a class are read exactly where they are spelled.
use Rattle.std.proofs.Common.{◌≡◌, ◌≢◌, inl, inr, ℕ, ◌+◌, ◌^◌, ◌<◌, Bool, true, false, cond, eqb, nat_lt, List, ◌++◌, Some, None, refl, sym, ap, subst, ◌∙◌, arith}
use Rattle.std.proofs.lemmas.Bool.Decides.{nat_tests}
use Rattle.cc_meaning.specs.declared.file.Ids.{Ids}
use Rattle.cc_meaning.specs.declared.file.ClassRow.{ClassRow}
use Rattle.cc_meaning.specs.declared.file.RawField.{RawField}
use Rattle.cc_meaning_dex.specs.TextLaws.{UlebAgrees}
use Rattle.cc_meaning_dex.specs.declared.items.Cursor.{Cursor}
use Rattle.cc_meaning_dex.specs.declared.items.StatedMethod.{StatedMethod}
use Rattle.cc_meaning_dex.specs.declared.items.Members.{Members}
use Rattle.cc_meaning_dex.specs.Sequences.{◌>>=◌, number_at, ListStands, list_at}
use Rattle.cc_meaning_dex.specs.Rows.{is_field_of, is_method_of}
use Rattle.cc_meaning_dex.specs.Members.{FieldStands, MethodStands, SpellsClassData, no_members, SpellsMembers, row_behind, only_if, field_at, method_at, fields_at, methods_at, class_data_at, members_of}
use Rattle.cc_meaning_dex.specs.ClassLaws.{MembersAgree}
use Rattle.cc_meaning_dex.proofs.Sequencing.{bind_some, some_is, number_spelled, number_read, ItemAgrees, list_stands, list_read}
use Rattle.cc_meaning_dex.proofs.Owning.{field_owned, owns_field, method_owned, owns_method}

-- ---- rows

pub row_fits : (difference before row : ℕ) → row_behind difference before ≡ Some row → (row ≡ before + difference) × (before + difference < 2 ^ 32)
row_fits difference before row e = cases (nat_lt (before + difference) (2 ^ 32)) refl e
  where
    cases : (test : Bool) → nat_lt (before + difference) (2 ^ 32) ≡ test → cond test (Some (before + difference)) None ≡ Some row → (row ≡ before + difference) × (before + difference < 2 ^ 32)
    cases true t e = (sym (some_is (before + difference) row e), grind (arith, nat_tests))
    cases false t e = absurd (cc)

pub fits_row : (difference before : ℕ) → before + difference < 2 ^ 32 → row_behind difference before ≡ Some (before + difference)
fits_row difference before fits =
    let test : nat_lt (before + difference) (2 ^ 32) ≡ true = grind (arith, nat_tests) in
    ap (λ b. cond b (Some (before + difference)) None) test

pub only_true : {A : Type 0} (test : Bool) (read item : A) → only_if test read ≡ Some item → (test ≡ true) × (read ≡ item)
only_true true read item e = (refl, some_is read item e)
only_true false read item e = absurd (cc)

pub true_only : {A : Type 0} (test : Bool) (read : A) → test ≡ true → only_if test read ≡ Some read
true_only true read e = refl
true_only false read e = absurd (cc)

-- ---- fields

field_stands : UlebAgrees → (file : List ℕ) (ids : Ids) (class : ℕ) (is_static : Bool) (from : Cursor) (read : RawField × Cursor) →
    field_at file ids class is_static from ≡ Some read → FieldStands file ids class is_static from read.0 read.1
unfolding field_at
field_stands agrees file ids class is_static from read e =
    let made : ℕ → ℕ → ℕ → RawField × Cursor = λ row flags next. (record { row = row; flags = flags; is_static = is_static }, record { at = next; row = row }) in
    let difference = bind_some (number_at file from.at) (λ difference. number_at file difference.1 >>= λ flags. row_behind difference.0 from.row >>= λ row. only_if (is_field_of ids class row) (made row flags.0 flags.1)) read e in
    let flags = bind_some (number_at file difference.0.1) (λ flags. row_behind difference.0.0 from.row >>= λ row. only_if (is_field_of ids class row) (made row flags.0 flags.1)) read difference.2 in
    let row = bind_some (row_behind difference.0.0 from.row) (λ row. only_if (is_field_of ids class row) (made row flags.0.0 flags.0.1)) read flags.2 in
    let owned = only_true (is_field_of ids class row.0) (made row.0 flags.0.0 flags.0.1) read row.2 in
    let fits = row_fits difference.0.0 from.row row.0 row.1 in
    subst (λ (r : RawField × Cursor). FieldStands file ids class is_static from r.0 r.1) owned.1
    (record {
      difference = difference.0.0;
      place = difference.0.1;
      step = number_spelled agrees file from.at difference.0 difference.1;
      flags = number_spelled agrees file difference.0.1 flags.0 flags.1;
      row = fits.0;
      fits = fits.1;
      owned = field_owned ids class (from.row + difference.0.0) (subst (λ r. is_field_of ids class r ≡ true) fits.0 owned.0);
      list = refl;
      behind = fits.0;
    })

field_from : ℕ → ℕ → Bool → RawField
field_from row flags is_static = record { row = row; flags = flags; is_static = is_static }

cursor_from : ℕ → ℕ → Cursor
cursor_from at row = record { at = at; row = row }

same_field : (a b : RawField) → a.row ≡ b.row → a.flags ≡ b.flags → a.is_static ≡ b.is_static → a ≡ b
unfolding field_from
same_field a b row flags list = ap (λ x. field_from x a.flags a.is_static) row ∙ ap (λ x. field_from b.row x a.is_static) flags ∙ ap (field_from b.row b.flags) list

pub same_cursor : (a b : Cursor) → a.at ≡ b.at → a.row ≡ b.row → a ≡ b
unfolding cursor_from
same_cursor a b at row = ap (λ x. cursor_from x a.row) at ∙ ap (cursor_from b.at) row

stands_field : UlebAgrees → (file : List ℕ) (ids : Ids) (class : ℕ) (is_static : Bool) (from : Cursor) (field : RawField) (next : Cursor) →
    FieldStands file ids class is_static from field next → field_at file ids class is_static from ≡ Some (field, next)
unfolding field_at
stands_field agrees file ids class is_static from field next s =
    let row = from.row + s.difference in
    let made : RawField = record { row = row; flags = field.flags; is_static = is_static } in
    let after : Cursor = record { at = next.at; row = row } in
    let same : made ≡ field = same_field made field (sym s.row) refl (sym s.list) in
    let behind : after ≡ next = same_cursor after next refl (sym s.behind) in
    rw (number_read agrees file from.at s.difference s.place s.step, number_read agrees file s.place field.flags next.at s.flags, fits_row s.difference from.row s.fits)
    (true_only (is_field_of ids class row) (made, after) (owns_field ids class row s.owned) ∙ ap (λ f. Some (f, after)) same ∙ ap (λ n. Some (field, n)) behind)

field_agrees : UlebAgrees → (file : List ℕ) (ids : Ids) (class : ℕ) (is_static : Bool) → ItemAgrees (field_at file ids class is_static) (FieldStands file ids class is_static)
field_agrees agrees file ids class is_static from field next = (field_stands agrees file ids class is_static from (field, next), stands_field agrees file ids class is_static from field next)

-- ---- methods

method_stands : UlebAgrees → (file : List ℕ) (ids : Ids) (class : ℕ) (is_direct : Bool) (from : Cursor) (read : StatedMethod × Cursor) →
    method_at file ids class is_direct from ≡ Some read → MethodStands file ids class is_direct from read.0 read.1
unfolding method_at
method_stands agrees file ids class is_direct from read e =
    let made : ℕ → ℕ → ℕ → ℕ → StatedMethod × Cursor = λ row flags code next. (record { row = row; flags = flags; is_direct = is_direct; code_at = code }, record { at = next; row = row }) in
    let difference = bind_some (number_at file from.at) (λ difference. number_at file difference.1 >>= λ flags. number_at file flags.1 >>= λ code. row_behind difference.0 from.row >>= λ row. only_if (is_method_of ids class row) (made row flags.0 code.0 code.1)) read e in
    let flags = bind_some (number_at file difference.0.1) (λ flags. number_at file flags.1 >>= λ code. row_behind difference.0.0 from.row >>= λ row. only_if (is_method_of ids class row) (made row flags.0 code.0 code.1)) read difference.2 in
    let code = bind_some (number_at file flags.0.1) (λ code. row_behind difference.0.0 from.row >>= λ row. only_if (is_method_of ids class row) (made row flags.0.0 code.0 code.1)) read flags.2 in
    let row = bind_some (row_behind difference.0.0 from.row) (λ row. only_if (is_method_of ids class row) (made row flags.0.0 code.0.0 code.0.1)) read code.2 in
    let owned = only_true (is_method_of ids class row.0) (made row.0 flags.0.0 code.0.0 code.0.1) read row.2 in
    let fits = row_fits difference.0.0 from.row row.0 row.1 in
    subst (λ (r : StatedMethod × Cursor). MethodStands file ids class is_direct from r.0 r.1) owned.1
    (record {
      difference = difference.0.0;
      flags_at = difference.0.1;
      code_place = flags.0.1;
      step = number_spelled agrees file from.at difference.0 difference.1;
      flags = number_spelled agrees file difference.0.1 flags.0 flags.1;
      code = number_spelled agrees file flags.0.1 code.0 code.1;
      row = fits.0;
      fits = fits.1;
      owned = method_owned ids class (from.row + difference.0.0) (subst (λ r. is_method_of ids class r ≡ true) fits.0 owned.0);
      list = refl;
      behind = fits.0;
    })

method_from : ℕ → ℕ → Bool → ℕ → StatedMethod
method_from row flags is_direct code = record { row = row; flags = flags; is_direct = is_direct; code_at = code }

same_method : (a b : StatedMethod) → a.row ≡ b.row → a.flags ≡ b.flags → a.is_direct ≡ b.is_direct → a.code_at ≡ b.code_at → a ≡ b
unfolding method_from
same_method a b row flags list code =
    ap (λ x. method_from x a.flags a.is_direct a.code_at) row ∙ ap (λ x. method_from b.row x a.is_direct a.code_at) flags
    ∙ ap (λ x. method_from b.row b.flags x a.code_at) list ∙ ap (method_from b.row b.flags b.is_direct) code

stands_method : UlebAgrees → (file : List ℕ) (ids : Ids) (class : ℕ) (is_direct : Bool) (from : Cursor) (method : StatedMethod) (next : Cursor) →
    MethodStands file ids class is_direct from method next → method_at file ids class is_direct from ≡ Some (method, next)
unfolding method_at
stands_method agrees file ids class is_direct from method next s =
    let row = from.row + s.difference in
    let made : StatedMethod = record { row = row; flags = method.flags; is_direct = is_direct; code_at = method.code_at } in
    let after : Cursor = record { at = next.at; row = row } in
    let same : made ≡ method = same_method made method (sym s.row) refl (sym s.list) refl in
    let behind : after ≡ next = same_cursor after next refl (sym s.behind) in
    rw (number_read agrees file from.at s.difference s.flags_at s.step, number_read agrees file s.flags_at method.flags s.code_place s.flags, number_read agrees file s.code_place method.code_at next.at s.code, fits_row s.difference from.row s.fits)
    (true_only (is_method_of ids class row) (made, after) (owns_method ids class row s.owned) ∙ ap (λ m. Some (m, after)) same ∙ ap (λ n. Some (method, n)) behind)

method_agrees : UlebAgrees → (file : List ℕ) (ids : Ids) (class : ℕ) (is_direct : Bool) → ItemAgrees (method_at file ids class is_direct) (MethodStands file ids class is_direct)
method_agrees agrees file ids class is_direct from method next = (method_stands agrees file ids class is_direct from (method, next), stands_method agrees file ids class is_direct from method next)

-- ---- class data

-- two lists of fields, one behind the other
record TwoFieldLists (file : List ℕ) (ids : Ids) (class statics instances at : ℕ) (fields : List RawField) (next : ℕ) : Type 0 where
  static_fields : List RawField
  instances_at : ℕ
  static_list : ListStands (FieldStands file ids class true) statics at static_fields instances_at
  instance_fields : List RawField
  instance_list : ListStands (FieldStands file ids class false) instances instances_at instance_fields next
  both : fields ≡ static_fields ++ instance_fields

fields_stand : UlebAgrees → (file : List ℕ) (ids : Ids) (class statics instances at : ℕ) (read : List RawField × ℕ) →
    fields_at file ids class statics instances at ≡ Some read → TwoFieldLists file ids class statics instances at read.0 read.1
unfolding fields_at
fields_stand agrees file ids class statics instances at read e =
    let first = bind_some (list_at (field_at file ids class true) statics at) (λ first. list_at (field_at file ids class false) instances first.1 >>= λ second. Some (first.0 ++ second.0, second.1)) read e in
    let second = bind_some (list_at (field_at file ids class false) instances first.0.1) (λ second. Some (first.0.0 ++ second.0, second.1)) read first.2 in
    subst (λ (r : List RawField × ℕ). TwoFieldLists file ids class statics instances at r.0 r.1) (some_is (first.0.0 ++ second.0.0, second.0.1) read second.2)
    (record {
      static_fields = first.0.0;
      instances_at = first.0.1;
      static_list = list_stands (field_at file ids class true) (FieldStands file ids class true) (field_agrees agrees file ids class true) statics at first.0 first.1;
      instance_fields = second.0.0;
      instance_list = list_stands (field_at file ids class false) (FieldStands file ids class false) (field_agrees agrees file ids class false) instances first.0.1 second.0 second.1;
      both = refl;
    })

fields_read : UlebAgrees → (file : List ℕ) (ids : Ids) (class statics instances at instances_at next : ℕ) (static_fields instance_fields : List RawField) →
    ListStands (FieldStands file ids class true) statics at static_fields instances_at → ListStands (FieldStands file ids class false) instances instances_at instance_fields next →
    fields_at file ids class statics instances at ≡ Some (static_fields ++ instance_fields, next)
unfolding fields_at
fields_read agrees file ids class statics instances at instances_at next static_fields instance_fields first second =
    rw (
      list_read (field_at file ids class true) (FieldStands file ids class true) (field_agrees agrees file ids class true) statics at static_fields instances_at first,
      list_read (field_at file ids class false) (FieldStands file ids class false) (field_agrees agrees file ids class false) instances instances_at instance_fields next second,
    ) refl

-- two lists of methods, one behind the other
record TwoMethodLists (file : List ℕ) (ids : Ids) (class directs virtuals at : ℕ) (methods : List StatedMethod) (next : ℕ) : Type 0 where
  direct_methods : List StatedMethod
  virtuals_at : ℕ
  direct_list : ListStands (MethodStands file ids class true) directs at direct_methods virtuals_at
  virtual_methods : List StatedMethod
  virtual_list : ListStands (MethodStands file ids class false) virtuals virtuals_at virtual_methods next
  both : methods ≡ direct_methods ++ virtual_methods

methods_stand : UlebAgrees → (file : List ℕ) (ids : Ids) (class directs virtuals at : ℕ) (read : List StatedMethod × ℕ) →
    methods_at file ids class directs virtuals at ≡ Some read → TwoMethodLists file ids class directs virtuals at read.0 read.1
unfolding methods_at
methods_stand agrees file ids class directs virtuals at read e =
    let first = bind_some (list_at (method_at file ids class true) directs at) (λ first. list_at (method_at file ids class false) virtuals first.1 >>= λ second. Some (first.0 ++ second.0, second.1)) read e in
    let second = bind_some (list_at (method_at file ids class false) virtuals first.0.1) (λ second. Some (first.0.0 ++ second.0, second.1)) read first.2 in
    subst (λ (r : List StatedMethod × ℕ). TwoMethodLists file ids class directs virtuals at r.0 r.1) (some_is (first.0.0 ++ second.0.0, second.0.1) read second.2)
    (record {
      direct_methods = first.0.0;
      virtuals_at = first.0.1;
      direct_list = list_stands (method_at file ids class true) (MethodStands file ids class true) (method_agrees agrees file ids class true) directs at first.0 first.1;
      virtual_methods = second.0.0;
      virtual_list = list_stands (method_at file ids class false) (MethodStands file ids class false) (method_agrees agrees file ids class false) virtuals first.0.1 second.0 second.1;
      both = refl;
    })

methods_read : UlebAgrees → (file : List ℕ) (ids : Ids) (class directs virtuals at virtuals_at next : ℕ) (direct_methods virtual_methods : List StatedMethod) →
    ListStands (MethodStands file ids class true) directs at direct_methods virtuals_at → ListStands (MethodStands file ids class false) virtuals virtuals_at virtual_methods next →
    methods_at file ids class directs virtuals at ≡ Some (direct_methods ++ virtual_methods, next)
unfolding methods_at
methods_read agrees file ids class directs virtuals at virtuals_at next direct_methods virtual_methods first second =
    rw (
      list_read (method_at file ids class true) (MethodStands file ids class true) (method_agrees agrees file ids class true) directs at direct_methods virtuals_at first,
      list_read (method_at file ids class false) (MethodStands file ids class false) (method_agrees agrees file ids class false) virtuals virtuals_at virtual_methods next second,
    ) refl

class_data_spelled : UlebAgrees → (file : List ℕ) (ids : Ids) (class at : ℕ) (members : Members) → class_data_at file ids class at ≡ Some members → SpellsClassData file ids class at members
unfolding class_data_at
class_data_spelled agrees file ids class at members e =
    let made : List RawField → List StatedMethod → Members = λ fields methods. record { fields = fields; methods = methods } in
    let statics = bind_some (number_at file at) (λ statics. number_at file statics.1 >>= λ instances. number_at file instances.1 >>= λ directs. number_at file directs.1 >>= λ virtuals. fields_at file ids class statics.0 instances.0 virtuals.1 >>= λ fields. methods_at file ids class directs.0 virtuals.0 fields.1 >>= λ methods. Some (made fields.0 methods.0)) members e in
    let instances = bind_some (number_at file statics.0.1) (λ instances. number_at file instances.1 >>= λ directs. number_at file directs.1 >>= λ virtuals. fields_at file ids class statics.0.0 instances.0 virtuals.1 >>= λ fields. methods_at file ids class directs.0 virtuals.0 fields.1 >>= λ methods. Some (made fields.0 methods.0)) members statics.2 in
    let directs = bind_some (number_at file instances.0.1) (λ directs. number_at file directs.1 >>= λ virtuals. fields_at file ids class statics.0.0 instances.0.0 virtuals.1 >>= λ fields. methods_at file ids class directs.0 virtuals.0 fields.1 >>= λ methods. Some (made fields.0 methods.0)) members instances.2 in
    let virtuals = bind_some (number_at file directs.0.1) (λ virtuals. fields_at file ids class statics.0.0 instances.0.0 virtuals.1 >>= λ fields. methods_at file ids class directs.0.0 virtuals.0 fields.1 >>= λ methods. Some (made fields.0 methods.0)) members directs.2 in
    let fields = bind_some (fields_at file ids class statics.0.0 instances.0.0 virtuals.0.1) (λ fields. methods_at file ids class directs.0.0 virtuals.0.0 fields.1 >>= λ methods. Some (made fields.0 methods.0)) members virtuals.2 in
    let methods = bind_some (methods_at file ids class directs.0.0 virtuals.0.0 fields.0.1) (λ methods. Some (made fields.0.0 methods.0)) members fields.2 in
    let f = fields_stand agrees file ids class statics.0.0 instances.0.0 virtuals.0.1 fields.0 fields.1 in
    let m = methods_stand agrees file ids class directs.0.0 virtuals.0.0 fields.0.1 methods.0 methods.1 in
    subst (λ (r : Members). SpellsClassData file ids class at r) (some_is (made fields.0.0 methods.0.0) members methods.2)
    (record {
      statics = statics.0.0;
      instances = instances.0.0;
      directs = directs.0.0;
      virtuals = virtuals.0.0;
      statics_at = virtuals.0.1;
      counts = record {
        instances_at = statics.0.1;
        directs_at = instances.0.1;
        virtuals_at = directs.0.1;
        static_fields = number_spelled agrees file at statics.0 statics.1;
        instance_fields = number_spelled agrees file statics.0.1 instances.0 instances.1;
        direct_methods = number_spelled agrees file instances.0.1 directs.0 directs.1;
        virtual_methods = number_spelled agrees file directs.0.1 virtuals.0 virtuals.1;
      };
      static_fields = f.static_fields;
      instances_at = f.instances_at;
      static_list = f.static_list;
      instance_fields = f.instance_fields;
      directs_at = fields.0.1;
      instance_list = f.instance_list;
      direct_methods = m.direct_methods;
      virtuals_at = m.virtuals_at;
      direct_list = m.direct_list;
      virtual_methods = m.virtual_methods;
      end = methods.0.1;
      virtual_list = m.virtual_list;
      fields = f.both;
      methods = m.both;
    })

members_from : List RawField → List StatedMethod → Members
members_from fields methods = record { fields = fields; methods = methods }

same_members : (a b : Members) → a.fields ≡ b.fields → a.methods ≡ b.methods → a ≡ b
unfolding members_from
same_members a b fields methods = ap (λ x. members_from x a.methods) fields ∙ ap (members_from b.fields) methods

class_data_read : UlebAgrees → (file : List ℕ) (ids : Ids) (class at : ℕ) (members : Members) → SpellsClassData file ids class at members → class_data_at file ids class at ≡ Some members
unfolding class_data_at
class_data_read agrees file ids class at members s =
    let c = s.counts in
    let made : Members = record { fields = s.static_fields ++ s.instance_fields; methods = s.direct_methods ++ s.virtual_methods } in
    rw (
      number_read agrees file at s.statics c.instances_at c.static_fields,
      number_read agrees file c.instances_at s.instances c.directs_at c.instance_fields,
      number_read agrees file c.directs_at s.directs c.virtuals_at c.direct_methods,
      number_read agrees file c.virtuals_at s.virtuals s.statics_at c.virtual_methods,
      fields_read agrees file ids class s.statics s.instances s.statics_at s.instances_at s.directs_at s.static_fields s.instance_fields s.static_list s.instance_list,
      methods_read agrees file ids class s.directs s.virtuals s.directs_at s.virtuals_at s.end s.direct_methods s.virtual_methods s.direct_list s.virtual_list,
    )
    (ap Some (same_members made members (sym s.fields) (sym s.methods)))

-- ---- the members of a class

members_spelled : UlebAgrees → (file : List ℕ) (ids : Ids) (class : ClassRow) (members : Members) → members_of file ids class ≡ Some members → SpellsMembers file ids class members
unfolding members_of
members_spelled agrees file ids class members e = cases (eqb class.members_at 0) refl e
  where
    cases : (test : Bool) → eqb class.members_at 0 ≡ test → cond test (Some no_members) (class_data_at file ids class.class class.members_at) ≡ Some members → SpellsMembers file ids class members
    cases true t e = inl (grind (arith, nat_tests), sym (some_is no_members members e))
    cases false t e = inr (some class.members_at t, class_data_spelled agrees file ids class.class class.members_at members e)
      where
        some : (at : ℕ) → eqb at 0 ≡ false → at ≢ 0
        some at t e = absurd (let u : eqb at 0 ≡ true = grind (arith, nat_tests) in cc)

members_read : UlebAgrees → (file : List ℕ) (ids : Ids) (class : ClassRow) (members : Members) → SpellsMembers file ids class members → members_of file ids class ≡ Some members
unfolding members_of
members_read agrees file ids class members (inl none) = rw none.0 (ap Some (sym none.1))
members_read agrees file ids class members (inr some) =
    let test : eqb class.members_at 0 ≡ false = other class.members_at some.0 in
    rw test (class_data_read agrees file ids class.class class.members_at members some.1)
  where
    other : (at : ℕ) → at ≢ 0 → eqb at 0 ≡ false
    other at h = grind (arith, nat_tests)

pub members_agree : UlebAgrees → MembersAgree
members_agree agrees file ids class members = (members_spelled agrees file ids class members, members_read agrees file ids class members)
