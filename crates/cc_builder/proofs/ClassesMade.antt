-- Classes in a file's form, one after the other.
use Rattle.std.proofs.Common.{◌≡◌, ℕ, ◌+◌, ◌<◌, ◌≤◌, List, [], ◌∷◌, ◌++◌, length, take, get_or, sym, subst, ◌∙◌}
use Rattle.std.proofs.lemmas.List.{take_more, take_all}
use Rattle.cc_meaning.specs.declared.file.Ids.{Ids}
use Rattle.cc_meaning.specs.declared.file.RawClass.{RawClass}
use Rattle.cc_meaning.specs.declared.listing.RowName.{RowName}
use Rattle.cc_meaning.specs.declared.listing.RowName.TheVariants as row
use Rattle.std.specs.Prelude.{Contains, map}
use Rattle.std.specs.List.{AllPairs, filter, flat_map}
use Rattle.cc_meaning_dex.specs.Classes.{EachPair}
use Rattle.cc_meaning_builder.specs.declared.content.ListedClass.{ListedClass}
use Rattle.cc_meaning_builder.specs.Members.{AreOuts, AreRawClasses, AreRawValues, FieldBefore, HasOuts, IsRawField, IsRawMethod, MethodBefore, outs_of}
use Rattle.cc_meaning_builder.specs.Named.{all_names, class_names, field_names, listed_names, method_names}
use Rattle.cc_meaning_builder.specs.WellNamed.{IsWellNamed, WellNamed}
use Rattle.cc_builder.specs.Known.{AreKnown, HasRows}
use Rattle.cc_builder.specs.Placed.{AreSortedFields, AreSortedMethods, IsPlacedField, IsPlacedMethod, said_count}
use Rattle.cc_builder.specs.declared.fields.PlacedField.{PlacedField}
use Rattle.cc_builder.specs.declared.methods.PlacedMethod.{PlacedMethod}
use Rattle.cc_builder.proofs.KnownNames.{left, right}
use Rattle.cc_builder.proofs.Pairs.{given, same_values}
use Rattle.cc_builder.proofs.SaidValues.{values_begin}

pub pushed : (ids : Ids) (content : List ListedClass) (classes : List RawClass) (all : List (List ℕ)) (listed : ListedClass) (class : RawClass) (outs : List ℕ) →
    AreOuts ids content classes all → HasOuts ids listed class outs → AreOuts ids (content ++ listed ∷ []) (classes ++ class ∷ []) (all ++ outs ∷ [])
pushed ids [] [] [] listed class outs are has = (has, tt)
pushed ids [] [] (x ∷ all) listed class outs are has = absurd are
pushed ids [] (x ∷ classes) all listed class outs are has = absurd are
pushed ids (x ∷ content) [] all listed class outs are has = absurd are
pushed ids (x ∷ content) (y ∷ classes) [] listed class outs are has = absurd are
pushed ids (x ∷ content) (y ∷ classes) (z ∷ all) listed class outs are has = (are.0, pushed ids content classes all listed class outs are.1 has)

pub one_more : (ids : Ids) (content : List ListedClass) (place : ℕ) (classes : List RawClass) (all : List (List ℕ)) (listed : ListedClass) (class : RawClass) (outs : List ℕ) →
    AreOuts ids (take place content) classes all → place < length content → listed ≡ get_or content place listed → HasOuts ids listed class outs → AreOuts ids (take (place + 1) content) (classes ++ class ∷ []) (all ++ outs ∷ [])
one_more ids content place classes all listed class outs are within is has =
    subst (λ some. AreOuts ids some (classes ++ class ∷ []) (all ++ outs ∷ [])) (sym (take_more content place listed within))
    (subst (λ it. AreOuts ids (take place content ++ it ∷ []) (classes ++ class ∷ []) (all ++ outs ∷ [])) is (pushed ids (take place content) classes all listed class outs are has))

pub whole : (ids : Ids) (content : List ListedClass) (place : ℕ) (classes : List RawClass) (all : List (List ℕ)) → AreOuts ids (take place content) classes all → length content ≤ place → AreOuts ids content classes all
whole ids content place classes all are end = subst (λ some. AreOuts ids some classes all) (take_all place content end) are

-- the classes without what their code passes
pub without_outs : (ids : Ids) (content : List ListedClass) (classes : List RawClass) (all : List (List ℕ)) → AreOuts ids content classes all → AreRawClasses content ids classes
without_outs ids [] [] [] are = tt
without_outs ids [] [] (x ∷ all) are = absurd are
without_outs ids [] (x ∷ classes) all are = absurd are
without_outs ids (x ∷ content) [] all are = absurd are
without_outs ids (x ∷ content) (y ∷ classes) [] are = absurd are
without_outs ids (x ∷ content) (y ∷ classes) (z ∷ all) are = (are.0.members, without_outs ids content classes all are.1)

-- names that are well formed and have rows are known
pub known : (ids : Ids) (content : List ListedClass) → WellNamed content → HasRows content ids → AreKnown ids (all_names content)
known ids content named rows = record {
  tables = rows.tables;
  each = λ name there. let found = rows.named name there in record { formed = formed name there; number = found.0; meant = found.1 };
}
  where
    formed : (name : RowName) → Contains (all_names content) name → IsWellNamed name
    formed name (place, within, is) = subst IsWellNamed is (named.rows place name within)

-- ---- one class

-- a class of these members
pub class_made : (ids : Ids) (class : ListedClass) (fields : List PlacedField) (methods : List PlacedMethod) (raw : RawClass) (outs : List ℕ) →
    AreSortedFields ids class.name class.fields fields → AreSortedMethods ids class.name class.methods methods →
    raw.fields ≡ map (λ field. field.raw) fields → raw.methods ≡ map (λ method. method.raw) methods →
    raw.values ≡ map (λ field. field.value) (take (said_count (filter (λ field. field.raw.is_static) fields)) (filter (λ field. field.raw.is_static) fields)) →
    outs ≡ map (λ method. method.outs) methods → HasOuts ids class raw outs
class_made ids class fields methods raw outs has_fields has_methods are_fields are_methods are_values are_outs = record {
  members = record {
    fields = has_fields.listed;
    all_fields = has_fields.all;
    each_field = subst (λ all. EachPair (IsRawField ids class.name) has_fields.listed all) (sym are_fields)
        (given (IsPlacedField ids class.name) (IsRawField ids class.name) (λ field. field.raw) (λ field other are. are.raw) has_fields.listed fields has_fields.each);
    fields_rise = subst (λ all. AllPairs FieldBefore all) (sym are_fields) has_fields.rise;
    methods = has_methods.listed;
    all_methods = has_methods.all;
    each_method = subst (λ all. EachPair (IsRawMethod ids class.name) has_methods.listed all) (sym are_methods)
        (given (IsPlacedMethod ids class.name) (IsRawMethod ids class.name) (λ method. method.raw) (λ method other are. are.raw) has_methods.listed methods has_methods.each);
    methods_rise = subst (λ all. AllPairs MethodBefore all) (sym are_methods) has_methods.rise;
    values = subst (λ all. AreRawValues ids has_fields.listed all) (sym are_values) (values_begin ids class.name has_fields.listed fields has_fields.each);
  };
  passed = are_outs ∙ same_values (IsPlacedMethod ids class.name) (λ method. method.outs) outs_of (λ method other are. are.outs) has_methods.listed methods has_methods.each;
}

of_members : (ids : Ids) (class : ListedClass) → AreKnown ids (listed_names class) → AreKnown ids (flat_map (field_names class.name) class.fields ++ flat_map (method_names class.name) class.methods)
of_members ids class known =
    right ids (map row.Class class.interfaces) (flat_map (field_names class.name) class.fields ++ flat_map (method_names class.name) class.methods)
    (right ids (row.Class class.name ∷ class_names class.superclass) (map row.Class class.interfaces ++ (flat_map (field_names class.name) class.fields ++ flat_map (method_names class.name) class.methods)) known)

-- the names of the fields and of the methods of a class
pub of_fields : (ids : Ids) (class : ListedClass) → AreKnown ids (listed_names class) → AreKnown ids (flat_map (field_names class.name) class.fields)
of_fields ids class known = left ids (flat_map (field_names class.name) class.fields) (flat_map (method_names class.name) class.methods) (of_members ids class known)

pub of_methods : (ids : Ids) (class : ListedClass) → AreKnown ids (listed_names class) → AreKnown ids (flat_map (method_names class.name) class.methods)
of_methods ids class known = right ids (flat_map (field_names class.name) class.fields) (flat_map (method_names class.name) class.methods) (of_members ids class known)
