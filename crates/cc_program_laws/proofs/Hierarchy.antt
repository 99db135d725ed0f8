-- The classes of a program lead to Object.
use Rattle.std.proofs.Common.{◌≡◌, ℕ, zero, suc, ◌<◌, ◌≤◌, Bool, true, false, eqb, List, [], ◌∷◌, length, Option, Some, None, refl, sym, ap, ◌∙◌, subst, arith}
use Rattle.std.specs.Prelude.{slice_get, option_and_then, unwrap_or, ◌==◌, ◌||◌}
use Rattle.std.specs.List.{list_any, IsDistinct, AllByRecursion}
use Rattle.std.specs.Str.{bytes_eq}
use Rattle.std.proofs.lemmas.Bool.Decides.{Decides-eqb}
use Rattle.std.proofs.lemmas.Map.Steps.{length-le_from_distinct_below}
use Rattle.std.proofs.lemmas.Option.{slice_get_within}
use Rattle.cc_meaning.specs.declared.file.Ids.{Ids}
use Rattle.cc_meaning.specs.declared.file.RawClass.{RawClass}
use Rattle.cc_meaning.specs.declared.program.Class.{Class}
use Rattle.cc_meaning.specs.declared.program.Program.{Program}
use Rattle.cc_meaning.specs.BuiltIn.{object_name}
use Rattle.cc_meaning.specs.Lookup.{class_named}
use Rattle.cc_meaning_program.specs.ClassFaults.{AreSound}
use Rattle.cc_meaning_program.specs.ClassNames.{IsClassName}
use Rattle.cc_meaning_program.specs.Ancestry.{superclass_named, Ancestry}
use Rattle.cc_meaning_program.specs.Programs.{IsProgram}
use Rattle.cc_meaning_program.specs.Resolved.{names_of}
use Rattle.cc_meaning_program.specs.Rows.{FitTables}
use Rattle.cc_meaning_typing.specs.Hierarchy.{IsHierarchy, climb, object_class, superclass_in, superclass_of, on_value}
use Rattle.cc_program_laws.proofs.Lists.{some_same, place_of_name, position_map, found_mapped, mapped_found, contained_at, length_map, at_place}
use Rattle.cc_program_laws.proofs.Names.{above_is_class, top_is_object, object_has_none, object_in}

-- ---- one ancestry for each class

ancestry_once : (ids : Ids) (name : List ℕ) (these those : List (List ℕ)) → Ancestry ids name these → Ancestry ids name those → these ≡ those
ancestry_once ids name _ _ (Ancestry.top e) (Ancestry.top f) = refl
ancestry_once ids name _ _ (Ancestry.top e) (Ancestry.up f rest) = absurd (cc)
ancestry_once ids name _ _ (Ancestry.up e rest) (Ancestry.top f) = absurd (cc)
ancestry_once ids name _ _ (Ancestry.up {above = a} {rest = r} e rest) (Ancestry.up {above = b} {rest = s} f others) =
    ap (λ tail. name ∷ tail) (ancestry_once ids a r s rest (subst (λ above. Ancestry ids above s) (sym (some_same a b (sym e ∙ f))) others))

-- ---- the numbers of ancestors

-- each number is that of the name in its place
abbrev Numbered : List (List ℕ) → List ℕ → List (List ℕ) → Type 0
Numbered names [] [] = Unit {0}
Numbered names (number ∷ numbers) (name ∷ given) = (slice_get names number ≡ Some name) × Numbered names numbers given
Numbered names _ _ = ⊥

as_long : (names : List (List ℕ)) (numbers : List ℕ) (given : List (List ℕ)) → Numbered names numbers given → length numbers ≡ length given
as_long names [] [] n = refl
as_long names [] (x ∷ xs) n = absurd n
as_long names (k ∷ ks) [] n = absurd n
as_long names (k ∷ ks) (x ∷ xs) n = ap suc (as_long names ks xs n.1)

-- what stands above an ancestor
record Above (ids : Ids) (names : List (List ℕ)) (most number : ℕ) : Type 0 where
  name : List ℕ
  there : slice_get names number ≡ Some name
  line : List (List ℕ)
  ancestry : Ancestry ids name line
  short : length line ≤ most

higher : (ids : Ids) (names : List (List ℕ)) (most more number : ℕ) → most ≤ more → Above ids names most number → Above ids names more number
higher ids names most more number less a = record { name = a.name; there = a.there; line = a.line; ancestry = a.ancestry; short = let s = a.short in omega (arith, s, less) }

-- a number among those of ancestors has an ancestry that is no longer
among : (ids : Ids) (names : List (List ℕ)) (name : List ℕ) (ancestors : List (List ℕ)) (numbers : List ℕ) (number : ℕ) → Ancestry ids name ancestors → Numbered names numbers ancestors →
    list_any (λ other. number == other) numbers ≡ true → Above ids names (length ancestors) number
among ids names name _ [] number (Ancestry.top e) numbered any = absurd numbered
among ids names name _ (k ∷ []) number (Ancestry.top e) numbered any = first (number == k) refl any
  where
    first : (r : Bool) → (number == k) ≡ r → (r || false) ≡ true → Above ids names 1 number
    first true is any = record { name = name; there = subst (λ j. slice_get names j ≡ Some name) (sym ((Decides-eqb number k).0 is)) numbered.0; line = name ∷ []; ancestry = Ancestry.top e; short = omega arith }
    first false is any = absurd cc
among ids names name _ (k ∷ j ∷ ks) number (Ancestry.top e) numbered any = absurd numbered.1
among ids names name _ [] number (Ancestry.up e rest) numbered any = absurd numbered
among ids names name _ (k ∷ ks) number (Ancestry.up {above = a} {rest = tail} e rest) numbered any =
    from (number == k) refl any (λ later. higher ids names (length tail) (suc (length tail)) number (omega arith) (among ids names a tail ks number rest numbered.1 later))
  where
    from : (r : Bool) → (number == k) ≡ r → (r || list_any (λ other. number == other) ks) ≡ true → (list_any (λ other. number == other) ks ≡ true → Above ids names (suc (length tail)) number) → Above ids names (suc (length tail)) number
    from true is any later = record { name = name; there = subst (λ j. slice_get names j ≡ Some name) (sym ((Decides-eqb number k).0 is)) numbered.0; line = name ∷ tail; ancestry = Ancestry.up e rest; short = omega arith }
    from false is any later = later any

other_first : (number k : ℕ) (rest : Bool) (r : Bool) → (number == k) ≡ r → ((r || rest) ≡ true → ⊥) → ((number == k) ≡ false) × (rest ≡ true → ⊥)
other_first number k rest true is none = absurd (none refl)
other_first number k rest false is none = (is, none)

pub others : (number : ℕ) (numbers : List ℕ) → (list_any (λ other. number == other) numbers ≡ true → ⊥) → AllByRecursion (λ other. (number == other) ≡ false) numbers
others number [] none = tt
others number (k ∷ ks) none =
    let first = other_first number k (list_any (λ other. number == other) ks) (number == k) refl none in
    (first.0, others number ks first.1)

no_loop : (ids : Ids) (names : List (List ℕ)) (name : List ℕ) (line : List (List ℕ)) (k most : ℕ) → slice_get names k ≡ Some name → Ancestry ids name line → most < length line → Above ids names most k → ⊥
no_loop ids names name line k most there ancestry less above =
    let same : above.name ≡ name = some_same above.name name (sym above.there ∙ there) in
    let once : above.line ≡ line = ancestry_once ids name above.line line (subst (λ n. Ancestry ids n above.line) same above.ancestry) ancestry in
    let long : length above.line ≡ length line = ap length once in
    let short = above.short in
    omega (arith, less, long, short)

-- no class stands above itself, so ancestors have different numbers
distinct : (ids : Ids) (names : List (List ℕ)) (name : List ℕ) (ancestors : List (List ℕ)) (numbers : List ℕ) → Ancestry ids name ancestors → Numbered names numbers ancestors → IsDistinct eqb numbers
unfolding IsDistinct
distinct ids names name _ [] (Ancestry.top e) numbered = absurd numbered
distinct ids names name _ (k ∷ []) (Ancestry.top e) numbered = (tt, tt)
distinct ids names name _ (k ∷ j ∷ ks) (Ancestry.top e) numbered = absurd numbered.1
distinct ids names name _ [] (Ancestry.up e rest) numbered = absurd numbered
distinct ids names name _ (k ∷ ks) (Ancestry.up {above = a} {rest = tail} e rest) numbered = (
  others k ks (λ any. no_loop ids names name (name ∷ tail) k (length tail) numbered.0 (Ancestry.up e rest) (omega arith) (among ids names a tail ks k rest numbered.1 any)),
  distinct ids names a tail ks rest numbered.1,
)

-- ---- a program of a file

module _ (ids : Ids) (classes : List RawClass) (asked : Option (List ℕ)) (program : Program) (fit : FitTables ids) (sound : AreSound ids classes) (is : IsProgram ids classes asked program) where
  names : List (List ℕ)
  names = names_of program

  -- a name's number, and the number of the class of a name
  pub numbered : (k : ℕ) (name : List ℕ) → slice_get (names_of program) k ≡ Some name → class_named name program ≡ Some k
  unfolding names_of
  numbered k name e = position_map (λ n. bytes_eq n name) (λ (class : Class). class.name) program.classes ∙ place_of_name (names_of program) k name is.class_names.rise e

  pub in_names : (name : List ℕ) → IsClassName ids name → (k : ℕ) × (slice_get (names_of program) k ≡ Some name)
  in_names name class = contained_at (names_of program) name ((is.class_names.are name).1 class)

  -- the class of a number that has a name
  pub class_at : (k : ℕ) (name : List ℕ) → slice_get (names_of program) k ≡ Some name → (class : Class) × (slice_get program.classes k ≡ Some class) × (class.name ≡ name)
  unfolding names_of
  class_at k name e = found_mapped (λ (class : Class). class.name) program.classes k name e

  superclass_is : (k : ℕ) (name : List ℕ) → slice_get (names_of program) k ≡ Some name → superclass_of program k ≡ option_and_then (λ above. class_named above program) (superclass_named ids name)
  unfolding superclass_of superclass_in
  superclass_is k name e =
      let found = class_at k name e in
      ap superclass_in found.1
      ∙ ((is.each_class k found.0 found.1).superclass
      ∙ ap (λ n. option_and_then (λ above. class_named above program) (superclass_named ids n)) found.2)

  chain : (name : List ℕ) (ancestors : List (List ℕ)) (k : ℕ) → slice_get (names_of program) k ≡ Some name → Ancestry ids name ancestors → (numbers : List ℕ) × Numbered (names_of program) numbers ancestors
  chain name _ k there (Ancestry.top e) = (k ∷ [], (there, tt))
  chain name _ k there (Ancestry.up {above = a} {rest = tail} e rest) =
      let above = in_names a (above_is_class ids fit name a e) in
      let further = chain a tail above.0 above.1 rest in
      (k ∷ further.0, (there, further.1))

  number_below : (q : ℕ) (most : ℕ) → Above ids (names_of program) most q → q < length program.classes
  unfolding names_of
  number_below q most above =
      let within = slice_get_within (names_of program) q above.name above.there in
      let long = length_map (λ (class : Class). class.name) program.classes in
      omega (arith, within, long)

  -- a class has no more ancestors than there are classes
  few_ancestors : (name : List ℕ) (ancestors : List (List ℕ)) (k : ℕ) → slice_get (names_of program) k ≡ Some name → Ancestry ids name ancestors → length ancestors ≤ length program.classes
  few_ancestors name ancestors k there ancestry =
      let all = chain name ancestors k there ancestry in
      let long = as_long (names_of program) all.0 ancestors all.1 in
      let few = length-le_from_distinct_below all.0 (length program.classes) (distinct ids (names_of program) name ancestors all.0 ancestry all.1)
      (λ q any. number_below q (length ancestors) (among ids (names_of program) name ancestors all.0 q ancestry all.1 any)) in
      omega (arith, long, few)

  object_at : (k : ℕ) × (slice_get (names_of program) k ≡ Some object_name)
  object_at = in_names object_name (IsClassName.built_in object_in)

  object_is : object_class program ≡ object_at.0
  unfolding object_class
  object_is = ap (λ (o : Option ℕ). unwrap_or o 0) (numbered object_at.0 object_name object_at.1)

  stays : (n k : ℕ) → superclass_of program k ≡ None → climb program n k ≡ k
  unfolding climb on_value
  stays zero k none = refl
  stays (suc n) k none = ap (λ o. on_value o k (λ above. climb program n above)) none

  climbs : (n : ℕ) (name : List ℕ) (ancestors : List (List ℕ)) (k : ℕ) → slice_get (names_of program) k ≡ Some name → Ancestry ids name ancestors → length ancestors ≤ suc n → climb program n k ≡ object_class program
  unfolding climb on_value object_class
  climbs n name _ k there (Ancestry.top e) few =
      let object : name ≡ object_name = top_is_object ids classes sound name e in
      let found : class_named object_name program ≡ Some k = subst (λ m. class_named m program ≡ Some k) object (numbered k name there) in
      let same : object_class program ≡ k = ap (λ (o : Option ℕ). unwrap_or o 0) found in
      stays n k (superclass_is k name there ∙ ap (λ o. option_and_then (λ above. class_named above program) o) e) ∙ sym same
  climbs zero name _ k there (Ancestry.up {above = a} {rest = tail} e rest) few = absurd (nothing_above a tail rest (omega (arith, few)))
    where
      nothing_above : (a : List ℕ) (tail : List (List ℕ)) → Ancestry ids a tail → length tail ≤ 0 → ⊥
      nothing_above a _ (Ancestry.top f) none = omega (arith, none)
      nothing_above a _ (Ancestry.up f more) none = omega (arith, none)
  climbs (suc n) name _ k there (Ancestry.up {above = a} {rest = tail} e rest) few =
      let above = in_names a (above_is_class ids fit name a e) in
      let step : superclass_of program k ≡ Some above.0 = superclass_is k name there ∙ (ap (λ o. option_and_then (λ up. class_named up program) o) e ∙ numbered above.0 a above.1) in
      ap (λ o. on_value o k (λ up. climb program n up)) step ∙ climbs n a tail above.0 above.1 rest (omega (arith, few))

  pub hierarchy : IsHierarchy program
  unfolding object_class names_of
  hierarchy = record {
    object = numbered object_at.0 object_name object_at.1 ∙ ap Some (sym object_is);
    top = ap (superclass_of program) object_is ∙ (superclass_is object_at.0 object_name object_at.1 ∙ ap (λ o. option_and_then (λ up. class_named up program) o) (object_has_none ids));
    leads = λ k within.
        let found = at_place program.classes k within in
        let class = is.each_class k found.0 found.1 in
        let there = mapped_found (λ (one : Class). one.name) program.classes k found.0 found.1 in
        let few = few_ancestors found.0.name class.ancestors k there class.ancestry in
        climbs (length program.classes) found.0.name class.ancestors k there class.ancestry (omega (arith, few));
  }
