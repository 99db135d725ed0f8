-- The whole names of methods from their parts.
use Rattle.std.proofs.Common.{◌≡◌, ℕ, List, [], ◌∷◌, ◌++◌, map, Option, Some, None, refl, sym, ap, ◌∙◌, append_assoc}
use Rattle.std.specs.Prelude.{slice_get, codes}
use Rattle.std.specs.List.{flat_map}
use Rattle.cc_meaning.specs.declared.file.Ids.{Ids}
use Rattle.cc_meaning.specs.declared.file.MethodRow.{MethodRow}
use Rattle.cc_meaning.specs.declared.file.ProtoRow.{ProtoRow}
use Rattle.cc_meaning.specs.declared.program.DexType.{DexType}
use Rattle.cc_meaning.specs.declared.program.Method.{Method}
use Rattle.cc_meaning.specs.declared.program.Program.{Program}
use Rattle.cc_meaning.specs.Names.{descriptor, result_descriptor, prototype, member_name, method_name}
use Rattle.cc_meaning_program.specs.Named.{text_of, type_name, prototype_of, method_within, method_member}
use Rattle.cc_meaning_program.specs.TypeNames.{Spells}
use Rattle.cc_meaning_program.specs.Members.{Pairs, ResultSpelled}
use Rattle.cc_built_in.specs.BuiltInMethods.{BuiltInMethod, built_in_member}
use Rattle.cc_meaning_program.specs.Resolved.{names_of, whole_name}
use Rattle.cc_meaning_program.specs.Plans.{name_at}
use Rattle.cc_members.proofs.ByNumber.{class_named_at, spelled_by_names}

-- the texts of parameters, one behind the other
abbrev pub joined : List (List ℕ) → List ℕ
joined texts = flat_map (λ (text : List ℕ). text) texts

pub joined_names : {A : Type 0} (name : A → List ℕ) (xs : List A) → flat_map name xs ≡ joined (map name xs)
joined_names name [] = refl
joined_names name (x ∷ xs) = ap (λ rest. name x ++ rest) (joined_names name xs)

-- a name within a class from its parts
abbrev pub method_text : List ℕ → List (List ℕ) → List ℕ → List ℕ
method_text name params result = name ++ (codes "(" ++ joined params ++ codes ")" ++ result)

module _ (program : Program) (names : List (List ℕ)) (are : names_of program ≡ names) where
  params_spelled : (types : List DexType) (texts : List (List ℕ)) → Pairs (Spells names) types texts → flat_map (descriptor program) types ≡ joined texts
  params_spelled _ _ Pairs.none = refl
  params_spelled _ _ (Pairs.next {x = ty} {y = text} {xs = types} {ys = texts} first rest) =
      ap (λ n. n ++ flat_map (descriptor program) types) (spelled_by_names program names are ty text first) ∙ ap (λ n. text ++ n) (params_spelled types texts rest)

  result_is : (result : Option DexType) (text : List ℕ) → ResultSpelled names result text → result_descriptor program result ≡ text
  result_is None text void = sym void
  result_is (Some ty) text spells = spelled_by_names program names are ty text spells

  pub method_named : (method : Method) (name : List ℕ) (params : List (List ℕ)) (result : List ℕ) → method.name ≡ name → Pairs (Spells names) method.params params → ResultSpelled names method.result result →
      method_name program method ≡ whole_name (name_at names method.class) (method_text name params result)
  unfolding whole_name
  method_named method name params result is spell results =
      let class = class_named_at program names are method.class in
      let types = params_spelled method.params params spell in
      let last = result_is method.result result results in
      ap (λ n. n ++ codes "->" ++ member_name program method) class
      ∙ (ap (λ n. name_at names method.class ++ codes "->" ++ (n ++ prototype program method.params method.result)) is
      ∙ (ap (λ n. name_at names method.class ++ codes "->" ++ (name ++ (codes "(" ++ n ++ codes ")" ++ result_descriptor program method.result))) types
      ∙ ap (λ n. name_at names method.class ++ codes "->" ++ (name ++ (codes "(" ++ joined params ++ codes ")" ++ n))) last))

-- the name within its class that a row gives
pub row_member : (ids : Ids) (row : ℕ) (stated : MethodRow) (prototype : ProtoRow) → slice_get ids.methods row ≡ Some stated → slice_get ids.protos stated.proto ≡ Some prototype →
    method_text (text_of ids stated.name) (map (type_name ids) prototype.params) (type_name ids prototype.result) ≡ method_member ids row
unfolding method_member method_within prototype_of
row_member ids row stated prototype there typed =
    ap (λ n. text_of ids stated.name ++ (codes "(" ++ n ++ codes ")" ++ type_name ids prototype.result)) (sym (joined_names (type_name ids) prototype.params))
    ∙ (ap (λ (o : Option ProtoRow). text_of ids stated.name ++ prototype_of ids o) (sym typed) ∙ ap (method_within ids) (sym there))

-- that of a built-in method
pub listed_text : (listed : BuiltInMethod) → method_text listed.name listed.params listed.result ≡ built_in_member listed
unfolding built_in_member
listed_text listed = grouped listed.name (codes "(") (joined listed.params) (codes ")") listed.result
  where
    grouped : (a b c d e : List ℕ) → a ++ (b ++ c ++ d ++ e) ≡ a ++ b ++ c ++ d ++ e
    grouped a b c d e = simp append_assoc
