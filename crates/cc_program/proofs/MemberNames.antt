-- The method that begins a class is the one of its whole name.
use Rattle.std.proofs.Common.{◌≡◌, ℕ, zero, suc, Bool, true, false, List, [], ◌∷◌, ◌++◌, replicate, Option, Some, None, refl, sym, ap, ◌∙◌, subst, arith}
use Rattle.std.specs.Prelude.{slice_index_or, codes, not, ◌==◌, ◌&&◌}
use Rattle.std.specs.List.{flat_map, list_all}
use Rattle.std.proofs.lemmas.Bool.Decides.{nat_tests}
use Rattle.std.proofs.lemmas.List.{append_assoc}
use Rattle.cc_meaning.specs.declared.file.Ids.{Ids}
use Rattle.cc_meaning.specs.declared.file.RawClass.{RawClass}
use Rattle.cc_meaning.specs.declared.program.Base.{Base}
use Rattle.cc_meaning.specs.declared.program.Base.TheVariants as base
use Rattle.cc_meaning.specs.declared.program.DexType.{DexType}
use Rattle.cc_meaning.specs.declared.program.Method.{Method}
use Rattle.cc_meaning.specs.declared.program.Program.{Program}
use Rattle.cc_meaning.specs.Names.{descriptor, result_descriptor, prototype, member_name}
use Rattle.cc_meaning_dex.specs.Descriptors.{begins_with, names_class}
use Rattle.cc_meaning_program.specs.TypeNames.{base_spelled, type_spelled, IsBase, Spells}
use Rattle.cc_meaning_program.specs.Members.{Pairs, ResultSpelled, IsMethod}
use Rattle.cc_meaning_program.specs.Programs.{is_run}
use Rattle.cc_meaning_program.specs.Resolved.{names_of}
use Rattle.cc_meaning_program.proofs.Alike.{descriptor_by_names}
use Rattle.cc_program.specs.Initialisers.{Begins}

-- ---- texts that are taken apart

abbrev pub other_unit : ℕ → ℕ → Bool
other_unit u x = not (x == u)

first_is_other : (u : ℕ) (rest : List ℕ) → list_all (other_unit u) (u ∷ rest) ≡ true → ⊥
first_is_other u rest e = absurd (let here : (u == u) ≡ true = grind (arith, nat_tests) in cc)

within_front : (u : ℕ) (xs ys : List ℕ) → list_all (other_unit u) (xs ++ u ∷ ys) ≡ true → ⊥
within_front u [] ys e = first_is_other u ys e
within_front u (x ∷ xs) ys e = within_front u xs ys (behind (other_unit u x) (list_all (other_unit u) (xs ++ u ∷ ys)) e)
  where
    behind : (a b : Bool) → (a && b) ≡ true → b ≡ true
    behind true b e = e
    behind false b e = absurd (cc)

-- what stands before the only unit of its kind, and behind it
pub around : (u : ℕ) (front rest xs ys : List ℕ) → list_all (other_unit u) front ≡ true → list_all (other_unit u) rest ≡ true → xs ++ u ∷ ys ≡ front ++ u ∷ rest → (xs ≡ front) × (ys ≡ rest)
around u [] rest [] ys before after e = (refl, cc)
around u (f ∷ fs) rest [] ys before after e = absurd (let same : u ≡ f = cc in first_is_other u fs (subst (λ k. list_all (other_unit u) (k ∷ fs) ≡ true) (sym same) before))
around u [] rest (x ∷ xs) ys before after e = absurd (let tail : xs ++ u ∷ ys ≡ rest = cc in within_front u xs ys (subst (λ zs. list_all (other_unit u) zs ≡ true) (sym tail) after))
around u (f ∷ fs) rest (x ∷ xs) ys before after e =
    let head : x ≡ f = cc in
    let tail : xs ++ u ∷ ys ≡ fs ++ u ∷ rest = cc in
    let on = around u fs rest xs ys (behind (other_unit u f) (list_all (other_unit u) fs) before) after tail in
    (ap (λ k. k ∷ xs) head ∙ ap (λ zs. f ∷ zs) on.0, on.1)
  where
    behind : (a b : Bool) → (a && b) ≡ true → b ≡ true
    behind true b e = e
    behind false b e = absurd (cc)

-- ---- descriptors that are spelled

none_class : (name : List ℕ) → name ≡ [] → names_class name ≡ true → ⊥
none_class name e is = absurd (let no : names_class name ≡ false = ap names_class e in cc)

void_class : (name : List ℕ) → name ≡ codes "V" → names_class name ≡ true → ⊥
void_class name e is = absurd (let no : names_class name ≡ false = ap names_class e in cc)

base_is_some : (names : List (List ℕ)) (b : Base) → IsBase names b → base_spelled names b ≡ [] → ⊥
unfolding base_spelled
base_is_some names base.Boolean is e = absurd (cc)
base_is_some names base.Byte is e = absurd (cc)
base_is_some names base.Short is e = absurd (cc)
base_is_some names base.Char is e = absurd (cc)
base_is_some names base.Int is e = absurd (cc)
base_is_some names base.Long is e = absurd (cc)
base_is_some names (base.Class class) is e = none_class (slice_index_or names class []) e is

other_first : (text : List ℕ) → begins_with 86 text ≡ false → text ≡ codes "V" → ⊥
other_first text other e = absurd (let yes : begins_with 86 text ≡ true = ap (begins_with 86) e in cc)

base_is_value : (names : List (List ℕ)) (b : Base) → IsBase names b → base_spelled names b ≡ codes "V" → ⊥
unfolding base_spelled
base_is_value names base.Boolean is e = other_first (codes "Z") refl e
base_is_value names base.Byte is e = other_first (codes "B") refl e
base_is_value names base.Short is e = other_first (codes "S") refl e
base_is_value names base.Char is e = other_first (codes "C") refl e
base_is_value names base.Int is e = other_first (codes "I") refl e
base_is_value names base.Long is e = other_first (codes "J") refl e
base_is_value names (base.Class class) is e = void_class (slice_index_or names class []) e is

spelled_some : (names : List (List ℕ)) (type : DexType) (text : List ℕ) → Spells names type text → type_spelled names type ≡ [] → ⊥
unfolding type_spelled
spelled_some names type text spells e = from type.dims e
  where
    from : (n : ℕ) → replicate n 91 ++ base_spelled names type.base ≡ [] → ⊥
    from zero e = base_is_some names type.base spells.based e
    from (suc n) e = absurd (cc)

spelled_value : (names : List (List ℕ)) (type : DexType) (text : List ℕ) → Spells names type text → type_spelled names type ≡ codes "V" → ⊥
unfolding type_spelled
spelled_value names type text spells e = from type.dims e
  where
    from : (n : ℕ) → replicate n 91 ++ base_spelled names type.base ≡ codes "V" → ⊥
    from zero e = base_is_value names type.base spells.based e
    from (suc n) e = other_first (91 ∷ replicate n 91 ++ base_spelled names type.base) refl e

-- ---- methods that take and give nothing

module _ (program : Program) where
  no_params : (types : List DexType) (texts : List (List ℕ)) → Pairs (Spells (names_of program)) types texts → flat_map (descriptor program) types ≡ [] → types ≡ []
  no_params _ _ Pairs.none e = refl
  no_params _ _ (Pairs.next {x = type} {y = text} {xs = types} spells rest) e =
      absurd (spelled_some (names_of program) type text spells (sym (descriptor_by_names program type) ∙ first (descriptor program type) (flat_map (descriptor program) types) e))
    where
      first : (xs ys : List ℕ) → xs ++ ys ≡ [] → xs ≡ []
      first [] ys e = refl
      first (x ∷ xs) ys e = absurd (cc)

  no_result : (answer : Option DexType) (text : List ℕ) → ResultSpelled (names_of program) answer text → result_descriptor program answer ≡ codes "V" → answer ≡ None
  no_result None text spells e = refl
  no_result (Some type) text spells e = absurd (spelled_value (names_of program) type text spells (sym (descriptor_by_names program type) ∙ e))

  -- a method's types are spelled
  record IsSpelled (method : Method) : Type 0 where
    params : List (List ℕ)
    taken : Pairs (Spells (names_of program)) method.params params
    answer : List ℕ
    given : ResultSpelled (names_of program) method.result answer

  spelled : (ids : Ids) (classes : List RawClass) (owner member : List ℕ) (method : Method) → IsMethod ids classes program owner member method → IsSpelled method
  spelled ids classes owner member method (IsMethod.defined there named static virtual kind) = record { params = _; taken = named.params; answer = _; given = named.result }
  spelled ids classes owner member method (IsMethod.built_in undefined listed name params result static virtual kind) = record { params = _; taken = params; answer = _; given = result }
  spelled ids classes owner member method (IsMethod.outside undefined unlisted all first refers named static virtual kind) = record { params = _; taken = named.params; answer = _; given = named.result }

  pub begins_by_name : (ids : Ids) (classes : List RawClass) (owner member : List ℕ) (method : Method) → IsMethod ids classes program owner member method → is_run (Some method) ≡ true → member_name program method ≡ codes "<clinit>()V" → Begins method
  begins_by_name ids classes owner member method is run named =
      let types = spelled ids classes owner member method is in
      let opened = around 40 (codes "<clinit>") (codes ")V") method.name ((flat_map (descriptor program) method.params ++ codes ")") ++ result_descriptor program method.result) refl refl named in
      let close = around 41 [] (codes "V") (flat_map (descriptor program) method.params) (result_descriptor program method.result) refl refl (sym (append_assoc (flat_map (descriptor program) method.params) (codes ")") (result_descriptor program method.result)) ∙ opened.1) in
      record {
        named = opened.0;
        takes_none = no_params method.params types.params types.taken close.0;
        gives_none = no_result method.result types.answer types.given close.1;
        run = run;
      }

  pub member_by_begins : (method : Method) → Begins method → member_name program method ≡ codes "<clinit>()V"
  member_by_begins method begins =
      ap (λ n. n ++ prototype program method.params method.result) begins.named
      ∙ (ap (λ ps. codes "<clinit>" ++ prototype program ps method.result) begins.takes_none ∙ ap (λ r. codes "<clinit>" ++ prototype program [] r) begins.gives_none)
