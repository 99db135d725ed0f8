-- The rows, members and handlers of classes that were added, in tables with other offsets.
use Rattle.std.proofs.Common.{◌≡◌, ◌≢◌, ℕ, Bool, List, [], Option, Some, None, refl, sym, ap, subst, ◌∙◌}
use Rattle.std.specs.Prelude.{Contains, unwrap_or}
use Rattle.std.proofs.lemmas.Option.{slice_get_within}
use Rattle.std.proofs.lemmas.List.Elements.{All-contains}
use Rattle.cc_meaning.specs.declared.file.ClassRow.{ClassRow}
use Rattle.cc_meaning.specs.declared.file.FieldRow.{FieldRow}
use Rattle.cc_meaning.specs.declared.file.Ids.{Ids}
use Rattle.cc_meaning.specs.declared.file.MethodRow.{MethodRow}
use Rattle.cc_meaning.specs.declared.listing.RowName.TheVariants as row
use Rattle.cc_meaning_dex.specs.Descriptors.{IsDescriptor, IsPaired}
use Rattle.cc_meaning_dex.specs.Classes.{EachPair}
use Rattle.cc_meaning_dex.specs.Rows.{descriptor_of, IsFieldOf, IsMethodOf}
use Rattle.cc_meaning_program.specs.Named.{text_of, type_name}
use Rattle.cc_meaning_program.specs.Rows.{IsTypeRow, ClassFits, FitTables}
use Rattle.cc_meaning_builder.specs.declared.content.ListedClass.{ListedClass}
use Rattle.cc_meaning_builder.specs.Laws.{NamesArePaired}
use Rattle.cc_meaning_builder.specs.Named.{all_names, IsFieldNamed, IsMethodNamed}
use Rattle.cc_meaning_builder.specs.Tables.{AreTables}
use Rattle.cc_meaning_builder.specs.WellNamed.{IsWellNamed, WellNamed}
use Rattle.cc_meaning_builder.specs.Written.{AreSameTables, IsSameClass}
use Rattle.cc_builder_laws.proofs.Pairs.{left}

some_same : {A : Type 0} {a b : A} → Some a ≡ Some b → a ≡ b
some_same e = cc

-- tables with other definitions
abbrev pub with_classes : Ids → List ClassRow → Ids
with_classes ids classes = record ids { classes = classes }

pub same_ids : (read ids : Ids) → AreSameTables read ids → read ≡ with_classes ids read.classes
same_ids read ids same =
    let t = same.texts in
    let y = same.types in
    let p = same.protos in
    let f = same.fields in
    let m = same.methods in
    rw (t, y, p, f, m) refl

module _ (ids : Ids) (classes : List ClassRow) where
  abbrev pub new : Ids
  new = with_classes ids classes

  pub text_same : (text : ℕ) → text_of new text ≡ text_of ids text
  unfolding text_of
  text_same text = refl

  pub name_same : (type : ℕ) → type_name new type ≡ type_name ids type
  unfolding type_name
  name_same type = refl

  type_row : (sort : List ℕ → Bool) (type : ℕ) → IsTypeRow sort ids type → IsTypeRow sort new type
  type_row sort type fits = record { there = fits.there; sorted = ap sort (name_same type) ∙ fits.sorted }

  class_fits : (stated : ClassRow) → ClassFits ids stated → (other : ClassRow) → IsSameClass other stated → ClassFits new other
  class_fits stated fits other same = record {
    class = subst (IsTypeRow _ new) (sym same.class) (type_row _ stated.class fits.class);
    superclass = λ type e. type_row _ type (fits.superclass type (sym same.superclass ∙ e));
    interfaces = λ type among. type_row _ type (fits.interfaces type (subst (λ all. Contains all type) same.interfaces among));
  }

  pub new_fit : FitTables ids → EachPair IsSameClass classes ids.classes → FitTables new
  new_fit fit same = record {
    types = λ type within. subst IsDescriptor (sym (name_same type)) (fit.types type within);
    protos = λ number prototype there. let fits = fit.protos number prototype there in record { result = fits.result; params = λ type among. type_row _ type (fits.params type among) };
    fields = λ number field there. let fits = fit.fields number field there in record { class = type_row _ field.class fits.class; kind = type_row _ field.kind fits.kind; name = fits.name };
    methods = λ number method there. let fits = fit.methods number method there in record { class = type_row _ method.class fits.class; proto = fits.proto; name = fits.name };
    classes = λ number other there. let pair = left IsSameClass classes ids.classes same number other there in class_fits pair.0 (fit.classes number pair.0 pair.1) other pair.2;
  }

  pub new_paired : (content : List ListedClass) → WellNamed content → AreTables content ids → NamesArePaired new
  new_paired content named tables = record {
    of_fields = λ number field there.
        let need = tables.needed.fields number (slice_get_within ids.fields number field there) in
        let same : need.meant.stated ≡ field = some_same (sym need.meant.there ∙ there) in
        let paired : IsPaired need.name = (All-contains IsWellNamed (all_names content) (row.Field need.class need.name need.kind) named.rows need.listed).1 in
        subst IsPaired (sym need.meant.named ∙ ap (λ (it : FieldRow). text_of ids it.name) same ∙ sym (text_same field.name)) paired;
    of_methods = λ number method there.
        let need = tables.needed.methods number (slice_get_within ids.methods number method there) in
        let same : need.meant.stated ≡ method = some_same (sym need.meant.there ∙ there) in
        let paired : IsPaired need.name = (All-contains IsWellNamed (all_names content) (row.Method need.class need.name need.proto) named.rows need.listed).1 in
        subst IsPaired (sym need.meant.named ∙ ap (λ (it : MethodRow). text_of ids it.name) same ∙ sym (text_same method.name)) paired;
  }

  -- ---- the types of members

  -- a row of types with a name
  named_by : (name : Option (List ℕ)) (wanted : List ℕ) → wanted ≢ [] → unwrap_or name [] ≡ wanted → name ≡ Some wanted
  named_by None wanted some e = absurd (some (sym e))
  named_by (Some name) wanted some e = ap Some e

  pub described : (type : ℕ) (name : List ℕ) → name ≢ [] → type_name ids type ≡ name → descriptor_of new type ≡ Some name
  unfolding type_name
  described type name some e = named_by (descriptor_of ids type) name some e

  pub field_of : (type : ℕ) (class name kind : List ℕ) (number : ℕ) → class ≢ [] → type_name ids type ≡ class → IsFieldNamed ids class name kind number → IsFieldOf new type number
  field_of type class name kind number some is meant = record {
    stated = meant.stated;
    there = meant.there;
    same = record { name = class; this_named = described type class some is; that_named = described meant.stated.class class some meant.classed };
  }

  pub method_of : (type : ℕ) (class name proto : List ℕ) (number : ℕ) → class ≢ [] → type_name ids type ≡ class → IsMethodNamed ids class name proto number → IsMethodOf new type number
  method_of type class name proto number some is meant = record {
    stated = meant.stated;
    there = meant.there;
    same = record { name = class; this_named = described type class some is; that_named = described meant.stated.class class some meant.classed };
  }
