-- Two programs of one file have the same methods and fields by name.
use Rattle.std.proofs.Common.{◌≡◌, ℕ, ◌<◌, List, length, map, get_or, Option, Some, None, refl, sym, ap, ◌∙◌, subst, arith}
use Rattle.std.specs.Prelude.{Contains, AllPairs, slice_get, option_map, position}
use Rattle.std.specs.Str.{bytes_eq}
use Rattle.std.proofs.lemmas.Option.{slice_get-map, slice_get_within, slice_get-get_or, get_or_from_slice_get}
use Rattle.cc_meaning.specs.declared.file.Ids.{Ids}
use Rattle.cc_meaning.specs.declared.file.RawClass.{RawClass}
use Rattle.cc_meaning.specs.declared.program.Program.{Program}
use Rattle.cc_meaning.specs.Lookup.{method_named, field_named}
use Rattle.cc_meaning.specs.Names.{method_name, field_name}
use Rattle.cc_meaning.specs.Order.{IsBefore, IsRising}
use Rattle.cc_meaning_program.proofs.Rising.{one_rising}
use Rattle.cc_meaning_program.specs.Programs.{IsProgram}
use Rattle.cc_meaning_program.proofs.Alike.{length_map, position_map}

-- ---- lists of names

some_mapped : {A B : Type 0} (f : A → B) (o : Option A) (y : B) → option_map f o ≡ Some y → (x : A) × (o ≡ Some x) × (f x ≡ y)
some_mapped f (Some x) y e = (x, refl, cc)
some_mapped f None y e = absurd (cc)

pub found_mapped : {A B : Type 0} (f : A → B) (xs : List A) (k : ℕ) (y : B) → slice_get (map f xs) k ≡ Some y → (x : A) × (slice_get xs k ≡ Some x) × (f x ≡ y)
found_mapped f xs k y e = some_mapped f (slice_get xs k) y (sym (slice_get-map f xs k) ∙ e)

at_place : {A B : Type 0} (f : A → B) (xs : List A) (k : ℕ) (d : B) → k < length (map f xs) → (x : A) × (slice_get xs k ≡ Some x) × (f x ≡ get_or (map f xs) k d)
at_place f xs k d within = found_mapped f xs k (get_or (map f xs) k d) (slice_get-get_or (map f xs) k d within)

pub rising_map : {A : Type 0} (f : A → List ℕ) (xs : List A) → AllPairs (λ x y. IsBefore (f x) (f y)) xs → IsRising (map f xs)
rising_map {A} f xs rise i j d below within =
    let long = length_map f xs in
    let first = at_place f xs i d (omega arith) in
    let second = at_place f xs j d within in
    let before : IsBefore (f (get_or xs i first.0)) (f (get_or xs j first.0)) = rise i j first.0 below (omega arith) in
    let left : f (get_or xs i first.0) ≡ get_or (map f xs) i d = ap f (get_or_from_slice_get xs i first.0 first.0 first.1) ∙ first.2 in
    let right : f (get_or xs j first.0) ≡ get_or (map f xs) j d = ap f (get_or_from_slice_get xs j second.0 first.0 second.1) ∙ second.2 in
    subst (λ n. IsBefore n (get_or (map f xs) j d)) left (subst (λ n. IsBefore (f (get_or xs i first.0)) n) right before)

pub contains_found : {A : Type 0} (f : A → List ℕ) (xs : List A) (y : List ℕ) → Contains (map f xs) y → (k : ℕ) × (x : A) × (slice_get xs k ≡ Some x) × (f x ≡ y)
contains_found f xs y (k, within, is) = let found = at_place f xs k y within in (k, found.0, found.1, found.2 ∙ is)

pub found_contains : {A : Type 0} (f : A → List ℕ) (xs : List A) (y : List ℕ) (k : ℕ) (x : A) → slice_get xs k ≡ Some x → f x ≡ y → Contains (map f xs) y
found_contains f xs y k x there is =
    let mapped : slice_get (map f xs) k ≡ Some (f x) = slice_get-map f xs k ∙ ap (option_map f) there in
    let within : k < length (map f xs) = slice_get_within (map f xs) k (f x) mapped in
    (k, within, get_or_from_slice_get (map f xs) k (f x) y mapped ∙ is)

-- ---- two programs

module _ (ids : Ids) (classes : List RawClass) (asked : Option (List ℕ)) (this that : Program) (one : IsProgram ids classes asked this) (two : IsProgram ids classes asked that) where
  pub same_methods : map (method_name this) this.methods ≡ map (method_name that) that.methods
  same_methods =
      one_rising (map (method_name this) this.methods) (map (method_name that) that.methods) (rising_map (method_name this) this.methods one.methods_rise) (rising_map (method_name that) that.methods two.methods_rise) (λ name. (
        λ here.
            let found = contains_found (method_name this) this.methods name here in
            let there = (two.methods name).1 ((one.methods name).0 found) in
            found_contains (method_name that) that.methods name there.0 there.1 there.2 there.3,
        λ there.
            let found = contains_found (method_name that) that.methods name there in
            let here = (one.methods name).1 ((two.methods name).0 found) in
            found_contains (method_name this) this.methods name here.0 here.1 here.2 here.3,
      ))

  pub same_fields : map (field_name this) this.fields ≡ map (field_name that) that.fields
  same_fields =
      one_rising (map (field_name this) this.fields) (map (field_name that) that.fields) (rising_map (field_name this) this.fields one.fields_rise) (rising_map (field_name that) that.fields two.fields_rise) (λ name. (
        λ here.
            let found = contains_found (field_name this) this.fields name here in
            let there = (two.fields name).1 ((one.fields name).0 found) in
            found_contains (field_name that) that.fields name there.0 there.1 there.2 there.3,
        λ there.
            let found = contains_found (field_name that) that.fields name there in
            let here = (one.fields name).1 ((two.fields name).0 found) in
            found_contains (field_name this) this.fields name here.0 here.1 here.2 here.3,
      ))

  pub same_method_number : (name : List ℕ) → method_named name this ≡ method_named name that
  same_method_number name =
      position_map (λ n. bytes_eq n name) (method_name this) this.methods
      ∙ (ap (λ ns. position (λ n. bytes_eq n name) ns) same_methods ∙ sym (position_map (λ n. bytes_eq n name) (method_name that) that.methods))

  pub same_field_number : (name : List ℕ) → field_named name this ≡ field_named name that
  same_field_number name =
      position_map (λ n. bytes_eq n name) (field_name this) this.fields
      ∙ (ap (λ ns. position (λ n. bytes_eq n name) ns) same_fields ∙ sym (position_map (λ n. bytes_eq n name) (field_name that) that.fields))
