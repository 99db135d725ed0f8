-- Tables that differ in where the members and the values of classes stand.
use Rattle.std.proofs.Common.{◌≡◌, ℕ, List, [], ◌∷◌, ◌++◌, length, Bool, None, inl, inr, refl, sym, ap, subst, ◌∙◌}
use Rattle.std.specs.Prelude.{Contains}
use Rattle.cc_meaning.specs.declared.file.ClassRow.{ClassRow}
use Rattle.cc_meaning.specs.declared.file.Ids.{Ids}
use Rattle.cc_meaning.specs.declared.file.RawClass.{RawClass}
use Rattle.cc_meaning.specs.declared.file.RawField.{RawField}
use Rattle.cc_meaning.specs.declared.program.StaticValue.{StaticValue}
use Rattle.cc_meaning_dex.specs.Descriptors.{IsDescriptor, names_class}
use Rattle.cc_meaning_dex.specs.Numbers.{Stands}
use Rattle.cc_meaning_dex.specs.Classes.{EachPair}
use Rattle.cc_meaning_dex.specs.Values.{field_kind}
use Rattle.cc_meaning_program.specs.Named.{type_name}
use Rattle.cc_meaning_program.specs.Rows.{ClassFits, FitTables, IsTypeRow}
use Rattle.cc_meaning_builder.specs.Forms.{each_value_form, value_form, values_form, uleb_form}
use Rattle.cc_meaning_builder.specs.Written.{IsClassWritten, IsSameClass}
use Rattle.cc_dex_writer.proofs.ItemsStanding.{left}

abbrev pub placed : Ids → List ClassRow → Ids
placed ids rows = record ids { classes = rows }

same_name : (ids : Ids) (rows : List ClassRow) (type : ℕ) → type_name (placed ids rows) type ≡ type_name ids type
unfolding type_name
same_name ids rows type = refl

same_sort : {sort : List ℕ → Bool} (ids : Ids) (rows : List ClassRow) (type : ℕ) → IsTypeRow sort ids type → IsTypeRow sort (placed ids rows) type
same_sort {sort = sort} ids rows type row = record { there = row.there; sorted = ap sort (same_name ids rows type) ∙ row.sorted }

same_class : (ids : Ids) (rows : List ClassRow) (row stated : ClassRow) → IsSameClass row stated → ClassFits ids stated → ClassFits (placed ids rows) row
same_class ids rows row stated same fits = record {
  class = same_sort ids rows row.class (subst (λ type. IsTypeRow names_class ids type) (sym same.class) fits.class);
  superclass = λ type is. same_sort ids rows type (fits.superclass type (sym same.superclass ∙ is));
  interfaces = λ type among. same_sort ids rows type (fits.interfaces type (subst (λ types. Contains types type) same.interfaces among));
}

-- the rows of these tables fit too
pub fit_placed : (ids : Ids) (rows : List ClassRow) → EachPair IsSameClass rows ids.classes → FitTables ids → FitTables (placed ids rows)
fit_placed ids rows same fit = record {
  types = λ row within. subst IsDescriptor (sym (same_name ids rows row)) (fit.types row within);
  protos = λ row prototype there. let fits = fit.protos row prototype there in record { result = fits.result; params = λ type among. same_sort ids rows type (fits.params type among) };
  fields = λ row field there. let fits = fit.fields row field there in record { class = same_sort ids rows field.class fits.class; kind = same_sort ids rows field.kind fits.kind; name = fits.name };
  methods = λ row method there. let fits = fit.methods row method there in record { class = same_sort ids rows method.class fits.class; proto = fits.proto; name = fits.name };
  classes = λ row class there.
      let (stated, is, alike) = left IsSameClass rows ids.classes same row class there in
      same_class ids rows class stated alike (fit.classes row stated is);
}

same_each : (ids : Ids) (rows : List ClassRow) (fields : List RawField) (values : List StaticValue) → each_value_form (placed ids rows) fields values ≡ each_value_form ids fields values
unfolding each_value_form
same_each ids rows [] [] = refl
same_each ids rows (field ∷ fields) [] = refl
same_each ids rows [] (value ∷ values) = ap (λ rest. value_form None value ++ rest) (same_each ids rows [] values)
same_each ids rows (field ∷ fields) (value ∷ values) = ap (λ rest. value_form (field_kind ids field.row) value ++ rest) (same_each ids rows fields values)

same_values : (ids : Ids) (rows : List ClassRow) (fields : List RawField) (values : List StaticValue) → values_form (placed ids rows) fields values ≡ values_form ids fields values
unfolding values_form
same_values ids rows fields values = ap (λ rest. uleb_form (length values) ++ rest) (same_each ids rows fields values)

same_written : (file : List ℕ) (ids : Ids) (rows : List ClassRow) (stated : ClassRow) (class : RawClass) → IsClassWritten file ids stated class → IsClassWritten file (placed ids rows) stated class
same_written file ids rows stated class written = record {
  small = written.small;
  members = written.members;
  values = elim written.values [ inl none ↦ inl none | inr some ↦ inr (some.0, subst (λ part. Stands file stated.values_at part) (sym (same_values ids rows class.fields class.values)) some.1) ];
}

-- classes that are written for the one tables are written for the others
pub all_written : (file : List ℕ) (ids : Ids) (all rows : List ClassRow) (classes : List RawClass) → EachPair (IsClassWritten file ids) rows classes → EachPair (IsClassWritten file (placed ids all)) rows classes
all_written file ids all [] [] pairs = tt
all_written file ids all [] (class ∷ classes) pairs = absurd pairs
all_written file ids all (row ∷ rows) [] pairs = absurd pairs
all_written file ids all (row ∷ rows) (class ∷ classes) (here, pairs) = (same_written file ids all row class here, all_written file ids all rows classes pairs)
