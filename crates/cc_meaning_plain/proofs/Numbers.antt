-- The numbers of a plain file's methods in its program: each method stands at its own.
use Rattle.std.proofs.Common.{◌≡◌, ℕ, zero, suc, ◌+◌, ◌<◌, ◌≤◌, Bool, true, false, cond, List, [], ◌∷◌, ◌++◌, length, map, Option, Some, refl, sym, ap, ◌∙◌, subst, arith, nat_lt, slice_get, option_map, codes}
use Rattle.std.specs.List.{flat_map}
use Rattle.std.proofs.lemmas.List.{length-append}
use Rattle.std.proofs.lemmas.Option.{slice_get-map}
use Rattle.std.proofs.lemmas.Bool.Decides.{nat_tests}
use Rattle.cc_meaning.specs.declared.program.Method.{Method}
use Rattle.cc_built_in.specs.BuiltInMethods.{BuiltInMethod, BuiltInMethods, built_in_tables, built_in_methods, print_stream_methods, print_of, is_before, methods_before}
use Rattle.cc_meaning_plain.specs.declared.plain.PlainFunction.{PlainFunction}
use Rattle.cc_meaning_plain.specs.declared.plain.Plain.{Plain}
use Rattle.cc_meaning_plain.specs.Program.{splice, shifted, main_name, before_main, first_method, println_place, println_number, built_in_of, main_of, function_of, methods_of_file, clone_of, methods_of, program_of}
use Rattle.cc_meaning_plain.specs.Laws.{NumbersMethods}

-- ---- a list with another put into it

module _ {A : Type 0} where
  get_front : (xs ys : List A) (i : ℕ) (x : A) → slice_get xs i ≡ Some x → slice_get (xs ++ ys) i ≡ Some x
  get_front [] ys i x e = cc
  get_front (y ∷ xs) ys zero x e = e
  get_front (y ∷ xs) ys (suc i) x e = get_front xs ys i x e

  get_behind : (xs ys : List A) (i k : ℕ) → k ≡ length xs + i → slice_get (xs ++ ys) k ≡ slice_get ys i
  get_behind [] ys i k e = let here : k ≡ i = omega arith in ap (λ (j : ℕ). slice_get ys j) here
  get_behind (x ∷ xs) ys i zero e = absurd (omega arith)
  get_behind (x ∷ xs) ys i (suc k) e = get_behind xs ys i k (omega arith)

  -- what was put in stands from the place on
  get_put : (list more : List A) (n i k : ℕ) (x : A) → k ≡ n + i → n ≤ length list → slice_get more i ≡ Some x → slice_get (splice n more list) k ≡ Some x
  get_put list more zero i k x is le e = let here : k ≡ i = omega arith in subst (λ (j : ℕ). slice_get (more ++ list) j ≡ Some x) (sym here) (get_front more list i x e)
  get_put [] more (suc n) i k x is le e = absurd (omega arith)
  get_put (y ∷ list) more (suc n) i zero x is le e = absurd (omega arith)
  get_put (y ∷ list) more (suc n) i (suc k) x is le e = get_put list more n i k x (omega arith) (omega arith) e

  -- what stood before the place stays
  get_kept : (list more : List A) (n i : ℕ) (x : A) → i < n → slice_get list i ≡ Some x → slice_get (splice n more list) i ≡ Some x
  get_kept list more zero i x lt e = absurd (omega arith)
  get_kept [] more (suc n) i x lt e = cc
  get_kept (y ∷ list) more (suc n) zero x lt e = e
  get_kept (y ∷ list) more (suc n) (suc i) x lt e = get_kept list more n i x (omega arith) e

  -- what stood from the place on stands behind what was put in
  get_moved : (list more : List A) (n i k : ℕ) (x : A) → n ≤ i → k ≡ i + length more → slice_get list i ≡ Some x → slice_get (splice n more list) k ≡ Some x
  get_moved list more zero i k x le is e = get_behind more list i k (omega arith) ∙ e
  get_moved [] more (suc n) i k x le is e = cc
  get_moved (y ∷ list) more (suc n) zero k x le is e = absurd (omega arith)
  get_moved (y ∷ list) more (suc n) (suc i) zero x le is e = absurd (omega arith)
  get_moved (y ∷ list) more (suc n) (suc i) (suc k) x le is e = get_moved list more n i k x (omega arith) (omega arith) e

  get_shifted : (list more : List A) (n i : ℕ) (x : A) → slice_get list i ≡ Some x → slice_get (splice n more list) (shifted n (length more) i) ≡ Some x
  get_shifted list more n i x e = by_test (nat_lt i n) refl
    where
      by_test : (before : Bool) → nat_lt i n ≡ before → slice_get (splice n more list) (cond before i (i + length more)) ≡ Some x
      by_test true is = get_kept list more n i x (grind (arith, nat_tests)) e
      by_test false is = get_moved list more n i (i + length more) x (grind (arith, nat_tests)) refl e

  length_put : (list more : List A) (n : ℕ) → n ≤ length list → length (splice n more list) ≡ length more + length list
  length_put list more zero le = length-append more list
  length_put [] more (suc n) le = absurd (omega arith)
  length_put (y ∷ list) more (suc n) le = omega (arith, length_put list more n (omega arith))

-- ---- places

before_main_is_in : (fs : List PlainFunction) → before_main fs ≤ length fs
unfolding before_main
before_main_is_in [] = omega arith
before_main_is_in (f ∷ fs) = elim (is_before f.name main_name) as (λ (b : Bool). cond b (suc (before_main fs)) 0 ≤ suc (length fs)) [ true ↦ omega (arith, before_main_is_in fs) | false ↦ omega arith ]

abbrev methods_in : BuiltInMethods → List BuiltInMethod
methods_in table = table.methods

methods_before_are_in : (tables : List BuiltInMethods) (name : List ℕ) → methods_before tables name ≤ length (flat_map methods_in tables)
unfolding methods_before
methods_before_are_in [] name = omega arith
methods_before_are_in (table ∷ rest) name =
    let more = methods_before_are_in rest name in
    let all = length-append table.methods (flat_map methods_in rest) in
    elim (is_before table.class name) as (λ (b : Bool). cond b (length table.methods) 0 + methods_before rest name ≤ length (table.methods ++ flat_map methods_in rest)) [ true ↦ omega (arith, more, all) | false ↦ omega (arith, more, all) ]

length-map : {A B : Type 0} (f : A → B) (xs : List A) → length (map f xs) ≡ length xs
length-map f [] = refl
length-map f (x ∷ xs) = ap suc (length-map f xs)

module _ (plain : Plain) where
  abbrev built_in_list : List Method
  built_in_list = map built_in_of built_in_methods

  pub first_is_in : first_method plain ≤ length built_in_list
  unfolding built_in_methods
  first_is_in = omega (arith, methods_before_are_in built_in_tables plain.class, length-map built_in_of built_in_methods)

  pub before_main_is_in_list : before_main plain.functions ≤ length (map (function_of plain) plain.functions)
  before_main_is_in_list = omega (arith, before_main_is_in plain.functions, length-map (function_of plain) plain.functions)

  -- a method of the file stands behind those of the classes whose names come before
  of_file : (i : ℕ) (method : Method) → slice_get (methods_of_file plain) i ≡ Some method → slice_get (program_of plain).methods (first_method plain + i) ≡ Some method
  unfolding program_of methods_of
  of_file i method e = get_front _ _ (first_method plain + i) method (get_put built_in_list (methods_of_file plain) (first_method plain) i (first_method plain + i) method refl first_is_in e)

  some_function : (i : ℕ) (f : PlainFunction) → slice_get plain.functions i ≡ Some f → slice_get (map (function_of plain) plain.functions) i ≡ Some (function_of plain f)
  some_function i f e = slice_get-map (function_of plain) plain.functions i ∙ ap (λ (o : Option PlainFunction). option_map (function_of plain) o) e

  main_stands : slice_get (methods_of_file plain) (before_main plain.functions) ≡ Some (main_of plain)
  main_stands = get_put (map (function_of plain) plain.functions) (main_of plain ∷ []) (before_main plain.functions) 0 (before_main plain.functions) (main_of plain) (omega arith) before_main_is_in_list refl

  pub numbers_methods : NumbersMethods plain
  numbers_methods = record {
    main = of_file (before_main plain.functions) (main_of plain) main_stands;
    functions = λ i f e. of_file _ (function_of plain f) (get_shifted (map (function_of plain) plain.functions) (main_of plain ∷ []) (before_main plain.functions) i (function_of plain f) (some_function i f e));
  }

  abbrev pub println_method : BuiltInMethod
  println_method = print_of (codes "println") (codes "I")

  println_in_list : slice_get built_in_list println_place ≡ Some (built_in_of println_method)
  unfolding built_in_methods built_in_tables print_stream_methods
  println_in_list = refl

  count_of_file : length (methods_of_file plain) ≡ suc (length plain.functions)
  count_of_file = omega (arith, length_put (map (function_of plain) plain.functions) (main_of plain ∷ []) (before_main plain.functions) before_main_is_in_list, length-map (function_of plain) plain.functions)

  -- and so does `println(I)V`
  pub numbers_println : slice_get (program_of plain).methods (println_number plain) ≡ Some (built_in_of println_method)
  unfolding program_of methods_of
  numbers_println =
      subst (λ (count : ℕ). slice_get (splice (first_method plain) (methods_of_file plain) built_in_list ++ clone_of ∷ []) (shifted (first_method plain) count println_place) ≡ Some (built_in_of println_method)) count_of_file
      (get_front _ _ (shifted (first_method plain) (length (methods_of_file plain)) println_place) (built_in_of println_method)
      (get_shifted built_in_list (methods_of_file plain) (first_method plain) println_place (built_in_of println_method) println_in_list))
