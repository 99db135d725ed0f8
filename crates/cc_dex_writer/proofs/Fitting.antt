-- Rows that name what is there have room in the slots of the format.
use Rattle.std.proofs.Common.{◌≡◌, ◌⊎◌, inl, inr, ℕ, zero, suc, ◌<◌, ◌≤◌, List, [], ◌∷◌, ◌++◌, length, get_or, Some, None, slice_get, unwrap_or, ap, subst, ◌∙◌, arith}
use Rattle.std.specs.Prelude.{option_and_then}
use Rattle.std.proofs.lemmas.Option.{slice_get_within, slice_get_cases}
use Rattle.cc_meaning.specs.declared.file.Ids.{Ids}
use Rattle.cc_meaning_dex.specs.Descriptors.{dimensions, IsDescriptor, IsValue}
use Rattle.cc_meaning_program.specs.Named.{text_of, type_name}
use Rattle.cc_dex_writer.specs.Laws.{FittingRowsAreSmall}

-- no descriptor is empty
not_empty : IsDescriptor [] → ⊥
not_empty (inl is) = absurd cc
not_empty (inr value) = from value.dims value.base value.form value.value
  where
    from : (dims : ℕ) (base : List ℕ) → [] ≡ dimensions dims ++ base → IsValue base → ⊥
    from zero base is (inl (u, primitive, one)) = let both : [] ≡ u ∷ [] = is ∙ one in absurd cc
    from zero base is (inr class) = let both : [] ≡ 76 ∷ class.name ++ 59 ∷ [] = is ∙ class.form in absurd cc
    from (suc dims) base is value = absurd cc

-- a row of types names a text that is there
text_there : (ids : Ids) (row text : ℕ) → slice_get ids.types row ≡ Some text → IsDescriptor (type_name ids row) → text < length ids.texts
unfolding text_of type_name
text_there ids row text is described = from (slice_get_cases ids.texts text).1
  where
    same : type_name ids row ≡ text_of ids text
    same = ap (λ stated. unwrap_or (option_and_then (slice_get ids.texts) stated) []) is

    from : ((item : List ℕ) × (text < length ids.texts) × (slice_get ids.texts text ≡ Some item) × (get_or ids.texts text item ≡ item)) ⊎ ((length ids.texts ≤ text) × (slice_get ids.texts text ≡ None)) → text < length ids.texts
    from (inl (item, inside, found, at)) = inside
    from (inr (past, none)) = absurd (not_empty (subst IsDescriptor (same ∙ ap (λ found. unwrap_or found []) none) described))

pub fitting_rows_are_small : FittingRowsAreSmall
fitting_rows_are_small ids fits few_texts few_types few_protos wide = record {
  types = λ row text is. omega (arith, few_texts, text_there ids row text is (fits.types row (slice_get_within ids.types row text is)));
  protos = λ row proto is. let fit = fits.protos row proto is in omega (arith, few_types, fit.result);
  fields = λ row field is.
      let fit = fits.fields row field is in
      record { class = omega (arith, few_types, fit.class.there); kind = omega (arith, few_types, fit.kind.there); name = omega (arith, few_texts, fit.name) };
  methods = λ row method is.
      let fit = fits.methods row method is in
      record { class = omega (arith, few_types, fit.class.there); proto = omega (arith, few_protos, fit.proto); name = omega (arith, few_texts, fit.name) };
  classes = λ row class is.
      let fit = fits.classes row class is in
      let own = wide row class is in
      record {
        class = omega (arith, few_types, fit.class.there);
        flags = own.flags;
        superclass = λ type super. omega (arith, few_types, (fit.superclass type super).there);
        members_at = own.members_at;
        values_at = own.values_at;
      };
}
