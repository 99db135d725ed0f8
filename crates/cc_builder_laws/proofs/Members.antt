-- That the members of a class are spelled where they are written.
use Rattle.std.proofs.Common.{◌≡◌, ◌≢◌, ◌⊎◌, inl, inr, ℕ, zero, suc, ◌+◌, ◌^◌, ◌<◌, ◌≤◌, Bool, true, false, List, [], ◌∷◌, ◌++◌, length, All, Option, Some, None, refl, sym, ap, subst, ◌∙◌, arith, length-append}
use Rattle.std.specs.Prelude.{AllPairs, slice_index_or, not}
use Rattle.std.specs.List.{flat_map}
use Rattle.std.proofs.lemmas.List.Elements.{All-filter, filter_passes}
use Rattle.cc_meaning.specs.declared.file.Ids.{Ids}
use Rattle.cc_meaning.specs.declared.file.RawClass.{RawClass}
use Rattle.cc_meaning.specs.declared.file.RawCode.{RawCode}
use Rattle.cc_meaning.specs.declared.file.RawField.{RawField}
use Rattle.cc_meaning.specs.declared.file.RawMethod.{RawMethod}
use Rattle.cc_meaning_dex.specs.Leb128.{SpellsUleb}
use Rattle.cc_meaning_dex.specs.Numbers.{Stands}
use Rattle.cc_meaning_dex.specs.Tables.{longest_file}
use Rattle.cc_meaning_dex.specs.declared.items.Members.{Members}
use Rattle.cc_meaning_dex.specs.declared.items.StatedMethod.{StatedMethod}
use Rattle.cc_meaning_dex.specs.Classes.{EachPair}
use Rattle.cc_meaning_dex.specs.Members.{CountsStand, SpellsClassData, SpellsMembers}
use Rattle.cc_meaning_dex.specs.Rows.{IsFieldOf, IsMethodOf}
use Rattle.cc_meaning_builder.specs.Forms.{uleb_form, fields_form, methods_form, static_fields, instance_fields, direct_methods, virtual_methods, member_counts, class_data_form}
use Rattle.cc_meaning_builder.specs.Laws.{MembersAreOwn, WrittenMembers, members_with}
use Rattle.cc_meaning_builder.specs.Members.{FieldBefore, MethodBefore}
use Rattle.cc_meaning_builder.specs.Written.{CodeWritten, IsMethodWritten, IsSmallClass, IsSmallField, IsSmallMethod}
use Rattle.cc_builder_laws.specs.Lower.{Lower}
use Rattle.cc_builder_laws.proofs.MemberParts.{is_shorter}
use Rattle.cc_builder_laws.proofs.MemberLists.{FieldFits, MethodFits, fields_stand, methods_stand}
use Rattle.cc_builder_laws.proofs.Ordered.{in_two, fronts_rise, backs_lack, backs_rise}
use Rattle.cc_builder_laws.proofs.Sizes.{fields_size, methods_size}

-- ---- class data

abbrev StatedBefore : StatedMethod → StatedMethod → Type 0
StatedBefore one other = ((one.is_direct ≡ true) × (other.is_direct ≡ false)) ⊎ ((one.is_direct ≡ other.is_direct) × (one.row ≤ other.row))

pub record DataFits (ids : Ids) (class : ℕ) (fields : List RawField) (methods : List StatedMethod) : Type 0 where
  pub each_field : All (FieldFits ids class) fields
  pub each_method : All (MethodFits ids class) methods
  pub fields_rise : AllPairs FieldBefore fields
  pub methods_rise : AllPairs StatedBefore methods

abbrev counts_form : ℕ → ℕ → ℕ → ℕ → List ℕ
counts_form statics instances directs virtuals = flat_map uleb_form (statics ∷ instances ∷ directs ∷ virtuals ∷ [])

counts_stand : Lower → (file : List ℕ) (at statics instances directs virtuals : ℕ) → statics < 2 ^ 32 → instances < 2 ^ 32 → directs < 2 ^ 32 → virtuals < 2 ^ 32 →
    Stands file at (counts_form statics instances directs virtuals) → CountsStand file at statics instances directs virtuals (at + length (counts_form statics instances directs virtuals))
counts_stand low file at statics instances directs virtuals first second third fourth stands =
    let one = low.apart file at (uleb_form statics) (uleb_form instances ++ (uleb_form directs ++ (uleb_form virtuals ++ []))) stands in
    let instances_at : ℕ = at + length (uleb_form statics) in
    let two = low.apart file instances_at (uleb_form instances) (uleb_form directs ++ (uleb_form virtuals ++ [])) one.1 in
    let directs_at : ℕ = instances_at + length (uleb_form instances) in
    let three = low.apart file directs_at (uleb_form directs) (uleb_form virtuals ++ []) two.1 in
    let virtuals_at : ℕ = directs_at + length (uleb_form directs) in
    let four = low.apart file virtuals_at (uleb_form virtuals) [] three.1 in
    let next : virtuals_at + length (uleb_form virtuals) ≡ at + length (counts_form statics instances directs virtuals) = simp length-append (omega arith) in
    record {
      instances_at = instances_at;
      directs_at = directs_at;
      virtuals_at = virtuals_at;
      static_fields = low.uleb file at statics first one.0;
      instance_fields = low.uleb file instances_at instances second two.0;
      direct_methods = low.uleb file directs_at directs third three.0;
      virtual_methods = subst (SpellsUleb file virtuals_at virtuals) next (low.uleb file virtuals_at virtuals fourth four.0);
    }

few_fields : Lower → (file : List ℕ) (at : ℕ) (fields : List RawField) → length file ≤ longest_file → Stands file at (fields_form 0 fields) → length fields < 2 ^ 32
few_fields low file at fields short stands = omega (arith, fields_size low 0 fields, is_shorter low file at (fields_form 0 fields) stands)

few_methods : Lower → (file : List ℕ) (at : ℕ) (methods : List StatedMethod) → length file ≤ longest_file → Stands file at (methods_form 0 methods) → length methods < 2 ^ 32
few_methods low file at methods short stands = omega (arith, methods_size low 0 methods, is_shorter low file at (methods_form 0 methods) stands)

class_data : Lower → (file : List ℕ) (ids : Ids) (class at : ℕ) (fields : List RawField) (methods : List StatedMethod) → length file ≤ longest_file → DataFits ids class fields methods →
    Stands file at (class_data_form fields methods) → SpellsClassData file ids class at (record { fields = fields; methods = methods })
unfolding class_data_form
class_data low file ids class at fields methods short fit stands =
    let statics = static_fields fields in
    let instances = instance_fields fields in
    let directs = direct_methods methods in
    let virtuals = virtual_methods methods in
    let counts = low.apart file at (flat_map uleb_form (member_counts fields methods)) (fields_form 0 statics ++ (fields_form 0 instances ++ (methods_form 0 directs ++ methods_form 0 virtuals))) stands in
    let statics_at : ℕ = at + length (flat_map uleb_form (member_counts fields methods)) in
    let one = low.apart file statics_at (fields_form 0 statics) (fields_form 0 instances ++ (methods_form 0 directs ++ methods_form 0 virtuals)) counts.1 in
    let instances_at : ℕ = statics_at + length (fields_form 0 statics) in
    let two = low.apart file instances_at (fields_form 0 instances) (methods_form 0 directs ++ methods_form 0 virtuals) one.1 in
    let directs_at : ℕ = instances_at + length (fields_form 0 instances) in
    let three = low.apart file directs_at (methods_form 0 directs) (methods_form 0 virtuals) two.1 in
    let virtuals_at : ℕ = directs_at + length (methods_form 0 directs) in
    let is_static : RawField → Bool = λ field. field.is_static in
    let field_row : RawField → ℕ = λ field. field.row in
    let is_direct : StatedMethod → Bool = λ method. method.is_direct in
    let method_row : StatedMethod → ℕ = λ method. method.row in
    record {
      statics = length statics;
      instances = length instances;
      directs = length directs;
      virtuals = length virtuals;
      statics_at = statics_at;
      counts = counts_stand low file at (length statics) (length instances) (length directs) (length virtuals)
          (few_fields low file statics_at statics short one.0) (few_fields low file instances_at instances short two.0)
          (few_methods low file directs_at directs short three.0) (few_methods low file virtuals_at virtuals short three.1) counts.0;
      static_fields = statics;
      instances_at = instances_at;
      static_list = fields_stand low file ids class true statics_at statics (All-filter is_static (FieldFits ids class) fields fit.each_field)
          (filter_passes is_static fields) (fronts_rise is_static field_row fields fit.fields_rise) one.0;
      instance_fields = instances;
      directs_at = directs_at;
      instance_list = fields_stand low file ids class false instances_at instances (All-filter (λ field. not (is_static field)) (FieldFits ids class) fields fit.each_field)
          (backs_lack is_static fields) (backs_rise is_static field_row fields fit.fields_rise) two.0;
      direct_methods = directs;
      virtuals_at = virtuals_at;
      direct_list = methods_stand low file ids class true directs_at directs (All-filter is_direct (MethodFits ids class) methods fit.each_method)
          (filter_passes is_direct methods) (fronts_rise is_direct method_row methods fit.methods_rise) three.0;
      virtual_methods = virtuals;
      end = virtuals_at + length (methods_form 0 virtuals);
      virtual_list = methods_stand low file ids class false virtuals_at virtuals (All-filter (λ method. not (is_direct method)) (MethodFits ids class) methods fit.each_method)
          (backs_lack is_direct methods) (backs_rise is_direct method_row methods fit.methods_rise) three.1;
      fields = in_two is_static field_row fields fit.fields_rise;
      methods = in_two is_direct method_row methods fit.methods_rise;
    }

-- ---- what is known of the methods that are written

blank : RawMethod
blank = record { row = 0; flags = 0; is_direct = true; code = None }

pair_at : {A B : Type 0} (holds : A → B → Type 0) (xs : List A) (ys : List B) → EachPair holds xs ys → (k : ℕ) (d : A) (e : B) → k < length xs → (k < length ys) × holds (slice_index_or xs k d) (slice_index_or ys k e)
pair_at holds [] ys each k d e within = absurd (omega (arith, within))
pair_at holds (x ∷ xs) [] each k d e within = absurd each
pair_at holds (x ∷ xs) (y ∷ ys) each zero d e within = (omega arith, each.0)
pair_at holds (x ∷ xs) (y ∷ ys) each (suc k) d e within =
    let there = pair_at holds xs ys each.1 k d e (omega (arith, within)) in
    (omega (arith, there.0), there.1)

place_small : (file : List ℕ) (at : ℕ) (code : Option RawCode) → CodeWritten file at code → at < 2 ^ 32
place_small file at None none = omega (arith, none)
place_small file at (Some code) some = some.1

method_fits : (file : List ℕ) (ids : Ids) (class : ℕ) (stated : StatedMethod) (method : RawMethod) → IsMethodWritten file stated method → IsSmallMethod method → IsMethodOf ids class method.row → MethodFits ids class stated
method_fits file ids class stated method written small owned = record {
  number = omega (arith, small.number, written.row);
  access = omega (arith, small.access, written.flags);
  place = place_small file stated.code_at method.code written.code;
  owned = subst (IsMethodOf ids class) (sym written.row) owned;
}

stated_before : (file : List ℕ) (one other : StatedMethod) (first second : RawMethod) → IsMethodWritten file one first → IsMethodWritten file other second → MethodBefore first second → StatedBefore one other
stated_before file one other first second this that (inl (with, without)) = inl (this.list ∙ with, that.list ∙ without)
stated_before file one other first second this that (inr (same, less)) = inr (this.list ∙ same ∙ sym that.list, omega (arith, less, this.row, that.row))

field_fits : (ids : Ids) (class : ℕ) (field : RawField) → IsSmallField field → IsFieldOf ids class field.row → FieldFits ids class field
field_fits ids class field small owned = record { number = small.number; access = small.access; owned = owned }

data_fits : (file : List ℕ) (ids : Ids) (type : ℕ) (class : RawClass) (methods : List StatedMethod) → IsSmallClass class → MembersAreOwn ids type class → EachPair (IsMethodWritten file) methods class.methods →
    DataFits ids type class.fields methods
data_fits file ids type class methods small own each = record {
  each_field = λ k d within. field_fits ids type (slice_index_or class.fields k d) (small.each_field k d within) (own.each_field k d within);
  each_method = λ k d within.
      let (there, written) = at k d within in
      method_fits file ids type (slice_index_or methods k d) (slice_index_or class.methods k blank) written (small.each_method k blank there) (own.each_method k blank there);
  fields_rise = own.fields_rise;
  methods_rise = λ i j d less within.
      let (first, this) = at i d (omega (arith, less, within)) in
      let (second, that) = at j d within in
      stated_before file (slice_index_or methods i d) (slice_index_or methods j d) (slice_index_or class.methods i blank) (slice_index_or class.methods j blank) this that (own.methods_rise i j blank less second);
}
  where
    at : (k : ℕ) (d : StatedMethod) → k < length methods → (k < length class.methods) × IsMethodWritten file (slice_index_or methods k d) (slice_index_or class.methods k blank)
    at k d within = pair_at (IsMethodWritten file) methods class.methods each k d blank within

-- ---- the law

none_written : {A B : Type 0} (holds : A → B → Type 0) (xs : List A) (ys : List B) → ys ≡ [] → EachPair holds xs ys → xs ≡ []
none_written holds [] ys none each = refl
none_written holds (x ∷ xs) [] none each = absurd each
none_written holds (x ∷ xs) (y ∷ ys) none each = absurd (cc)

listed : List RawField → List StatedMethod → Members
listed fields methods = record { fields = fields; methods = methods }

pub written_members : Lower → WrittenMembers
unfolding listed
written_members low file ids stated class short small own written = cases written.members
  where
    cases : ((stated.members_at ≡ 0) × (class.fields ≡ []) × (class.methods ≡ [])) ⊎ ((stated.members_at ≢ 0) × Stands file stated.members_at (class_data_form class.fields written.methods)) →
        SpellsMembers file ids stated (members_with class written.methods)
    cases (inl (none, fields, methods)) =
        let empty = none_written (IsMethodWritten file) written.methods class.methods methods written.each in
        inl (none, ap (λ fs. listed fs written.methods) fields ∙ ap (listed []) empty)
    cases (inr (some, stands)) = inr (some, class_data low file ids stated.class stated.members_at class.fields written.methods short (data_fits file ids stated.class class written.methods small own written.each) stands)
