-- Members of a script among the names of a program's methods.
use Rattle.std.proofs.Common.{◌≡◌, ℕ, ◌<◌, ◌∷◌, ◌++◌, Bool, false, List, [], length, map, get_or, Option, Some, None, slice_get, refl, ap, sym, ◌∙◌, subst, arith}
use Rattle.std.specs.Prelude.{option_and_then, position, codes}
use Rattle.std.specs.List.{position_or_len}
use Rattle.std.specs.Str.{bytes_eq}
use Rattle.std.proofs.lemmas.Grind.{common_steps}
use Rattle.std.proofs.lemmas.List.{get_or-map, length-map}
use Rattle.cc_meaning.specs.declared.program.Method.{Method}
use Rattle.cc_meaning.specs.declared.program.MethodKind.TheVariants.{Native}
use Rattle.cc_meaning.specs.declared.program.Program.{Program}
use Rattle.cc_meaning.specs.Lookup.{method_named}
use Rattle.cc_meaning.specs.Names.{method_name}
use Rattle.cc_meaning.specs.Order.{IsBefore, IsRising, MethodsRise}
use Rattle.cc_units.specs.Units.{units_of}
use Rattle.cc_meaning_script.specs.Script.{scripted_named, if_scripted}
use Rattle.cc_script.specs.Named.{name_place}

first_map : {A B : Type 0} (f : A → B) (p : B → Bool) (xs : List A) → position_or_len p (map f xs) ≡ position_or_len (λ x. p (f x)) xs
first_map f p [] = refl
first_map f p (x ∷ xs) = grind (arith, common_steps, first_map f p xs)

position_map : {A B : Type 0} (f : A → B) (p : B → Bool) (xs : List A) → position p (map f xs) ≡ position (λ x. p (f x)) xs
position_map f p xs = rw (first_map f p xs, length-map xs f) refl

blank : Method
blank = record { class = 0; name = []; params = []; result = None; is_static = false; is_virtual = false; kind = Native }

pub rising_names : (p : Program) (names : List (List ℕ)) → names ≡ map (method_name p) p.methods → MethodsRise p → IsRising names
rising_names p names e rise = subst IsRising (sym e) rises
  where
    rises : IsRising (map (method_name p) p.methods)
    rises i j d below within =
        let inside : j < length p.methods = omega (arith, within, length-map p.methods (method_name p)) in
        let before : IsBefore (method_name p (get_or p.methods i blank)) (method_name p (get_or p.methods j blank)) = rise i j blank below inside in
        rw (get_or-map (method_name p) p.methods i blank d (omega (arith, below, inside)), get_or-map (method_name p) p.methods j blank d inside) before

place_is : (p : Program) (names : List (List ℕ)) (name : List ℕ) → names ≡ map (method_name p) p.methods → name_place names name ≡ method_named name p
place_is p names name e = ap (λ ns. name_place ns name) e ∙ position_map (method_name p) (λ other. bytes_eq other name) p.methods

pub scripted_is : (p : Program) (names : List (List ℕ)) (class member name : List ℕ) (at : ℕ) (answer : Option ℕ) → names ≡ map (method_name p) p.methods →
    name ≡ units_of class ++ codes "->" ++ units_of member → Some at ≡ name_place names name → answer ≡ if_scripted at (slice_get p.methods at) → answer ≡ scripted_named p class member
scripted_is p names class member name at answer e same found is =
    is ∙ ap (option_and_then (λ m. if_scripted m (slice_get p.methods m))) (found ∙ place_is p names name e ∙ ap (λ n. method_named n p) same)

pub no_name : (p : Program) (names : List (List ℕ)) (class member name : List ℕ) → names ≡ map (method_name p) p.methods →
    name ≡ units_of class ++ codes "->" ++ units_of member → None ≡ name_place names name → None ≡ scripted_named p class member
no_name p names class member name e same none =
    ap (option_and_then (λ m. if_scripted m (slice_get p.methods m))) (none ∙ place_is p names name e ∙ ap (λ n. method_named n p) same)

pub within_names : (p : Program) (names : List (List ℕ)) (name : List ℕ) (at : ℕ) → names ≡ map (method_name p) p.methods → Some at ≡ name_place names name → at < length p.methods
within_names p names name at e found = position_within (λ other. bytes_eq other name) names at found (ap length e ∙ length-map p.methods (method_name p))
  where
    position_below : (f : List ℕ → Bool) (xs : List (List ℕ)) (at : ℕ) → Some at ≡ position f xs → at < length xs
    position_below f xs at found = grind (arith, common_steps, found)

    position_within : (f : List ℕ → Bool) (xs : List (List ℕ)) (at : ℕ) → Some at ≡ position f xs → length xs ≡ length p.methods → at < length p.methods
    position_within f xs at found same = omega (arith, position_below f xs at found, same)
