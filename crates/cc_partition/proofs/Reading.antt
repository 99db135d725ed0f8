-- What a text is found to say is what it says.
use Rattle.std.proofs.Common.{◌≡◌, ◌≢◌, ℕ, List, ◌++◌, Option, Some, None, sym, ap, subst, ◌∙◌}
use Rattle.std.specs.Prelude.{MatchOption, All, codes, slice_get}
use Rattle.std.specs.Str.{IsUtf8}
use Rattle.std.proofs.lemmas.List.{append_cancel_left, append_cancel_right}
use Rattle.cc_meaning_plain.specs.declared.plain.PlainFunction.{PlainFunction}
use Rattle.cc_meaning_plain.specs.declared.plain.Plain.{Plain}
use Rattle.cc_partition.specs.Partition.{units_of, method_name, IsUnescaped, SpellsName, IsNamed, nothing_moved, opening, closing, IsPartition, moves_none, moves_one}

pub named_place : (plain : Plain) (text units name : List ℕ) → units ≡ units_of text → units ≡ plain.class ++ (codes "->" ++ name) → (place : Option ℕ)
    → MatchOption place ((i : ℕ) (function : PlainFunction) → slice_get plain.functions i ≡ Some function → function.name ≡ name → ⊥)
    (λ i. (function : PlainFunction) × (slice_get plain.functions i ≡ Some function) × (function.name ≡ name))
    → IsNamed plain text place
named_place plain text units name same behind None none = λ i function at e.
    none i function at (sym (append_cancel_left (codes "->") _ _ (append_cancel_left plain.class _ _ (sym behind ∙ same ∙ e))))
named_place plain text units name same behind (Some i) some =
    (some.0, some.1, sym same ∙ behind ∙ ap (λ (n : List ℕ). plain.class ++ (codes "->" ++ n)) (sym some.2))

pub not_of_class : (plain : Plain) (text units : List ℕ) → units ≡ units_of text → ((name : List ℕ) → units ≡ plain.class ++ (codes "->" ++ name) → ⊥) → IsNamed plain text None
not_of_class plain text units same none i function at e = none function.name (same ∙ e)

module _ (plain : Plain) (text : List ℕ) where
  -- the text doesn't move nothing, and moves no function that it names
  pub says_nothing : text ≢ nothing_moved
      → ((name : List ℕ) (i : ℕ) (function : PlainFunction) → slice_get plain.functions i ≡ Some function → SpellsName name (method_name plain function) → text ≡ opening ++ (name ++ closing) → ⊥)
      → (moved : Option ℕ) → IsPartition plain text moved → ⊥
  says_nothing some none moved (moves_none e) = some e
  says_nothing some none moved (moves_one i function name at spells e) = none name i function at spells e

  pub not_quoted : text ≢ nothing_moved → ((name : List ℕ) → text ≡ opening ++ (name ++ closing) → ⊥) → (moved : Option ℕ) → IsPartition plain text moved → ⊥
  not_quoted some none = says_nothing some (λ name i function at spells e. none name e)

  module _ (quoted : List ℕ) (is_quoted : text ≡ opening ++ (quoted ++ closing)) where
    same_name : (name : List ℕ) → text ≡ opening ++ (name ++ closing) → name ≡ quoted
    same_name name e = append_cancel_right name quoted closing (append_cancel_left opening _ _ (sym e ∙ is_quoted))

    pub no_text : text ≢ nothing_moved → (IsUtf8 quoted → All IsUnescaped quoted → ⊥) → (moved : Option ℕ) → IsPartition plain text moved → ⊥
    no_text some none = says_nothing some (λ name i function at spells e.
        none (subst IsUtf8 (same_name name e) spells.utf8) (subst (λ (n : List ℕ). All IsUnescaped n) (same_name name e) spells.unescaped))

    pub no_function : text ≢ nothing_moved → IsNamed plain quoted None → (moved : Option ℕ) → IsPartition plain text moved → ⊥
    no_function some none = says_nothing some (λ name i function at spells e. none i function at (ap units_of (sym (same_name name e)) ∙ spells.spelled))

    pub a_function : IsUtf8 quoted → All IsUnescaped quoted → (i : ℕ) → IsNamed plain quoted (Some i) → IsPartition plain text (Some i)
    a_function utf8 unescaped i named = moves_one i named.0 quoted named.1 (record { utf8 = utf8; spelled = named.2; unescaped = unescaped }) is_quoted
