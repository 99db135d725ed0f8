-- No method of a plain file's program has code but those of the file.
use Rattle.std.proofs.Common.{◌≡◌, ◌⊎◌, inl, inr, ℕ, zero, suc, ◌+◌, ◌<◌, ◌≤◌, Bool, true, false, cond, List, [], ◌∷◌, ◌++◌, length, map, Option, Some, None, refl, sym, ap, ◌∙◌, subst, arith, nat_lt, slice_get, option_map}
use Rattle.std.proofs.lemmas.Option.{slice_get-map}
use Rattle.std.proofs.lemmas.Bool.Decides.{nat_tests}
use Rattle.cc_meaning.specs.declared.program.Code.{Code}
use Rattle.cc_meaning.specs.declared.program.Method.{Method}
use Rattle.cc_meaning_run.specs.Instructions.{code_of_kind}
use Rattle.cc_built_in.specs.BuiltInMethods.{BuiltInMethod, built_in_methods}
use Rattle.cc_meaning_plain.specs.declared.plain.PlainFunction.{PlainFunction}
use Rattle.cc_meaning_plain.specs.declared.plain.Plain.{Plain}
use Rattle.cc_meaning_plain.specs.Program.{splice, shifted, before_main, first_method, main_number, function_number, built_in_of, main_of, function_of, methods_of_file, clone_of, methods_of, program_of}
use Rattle.cc_meaning_plain.specs.Laws.{OnlyFileHasCode}
use Rattle.cc_meaning_plain.proofs.Numbers.{first_is_in, before_main_is_in_list}

-- ---- where an element of joined lists stands

first_stays : (n count : ℕ) → 0 ≡ shifted (suc n) count 0
first_stays n count = let less : nat_lt 0 (suc n) ≡ true = grind (arith, nat_tests) in sym (ap (λ (b : Bool). cond b 0 (0 + count)) less)

suc_less : (j n : ℕ) → nat_lt (suc j) (suc n) ≡ nat_lt j n
suc_less j n = by (nat_lt j n) refl
  where
    by : (b : Bool) → nat_lt j n ≡ b → nat_lt (suc j) (suc n) ≡ b
    by true is = grind (arith, nat_tests)
    by false is = grind (arith, nat_tests)

one_more : (n count j : ℕ) → suc (shifted n count j) ≡ shifted (suc n) count (suc j)
one_more n count j = by (nat_lt j n) ∙ sym (ap (λ (b : Bool). cond b (suc j) (suc j + count)) (suc_less j n))
  where
    by : (b : Bool) → suc (cond b j (j + count)) ≡ cond b (suc j) (suc j + count)
    by true = refl
    by false = omega arith

module _ {A : Type 0} where
  -- in the first list, or in the second
  in_append : (xs ys : List A) (k : ℕ) (x : A) → slice_get (xs ++ ys) k ≡ Some x →
      (slice_get xs k ≡ Some x) ⊎ ((j : ℕ) × (k ≡ length xs + j) × (slice_get ys j ≡ Some x))
  in_append [] ys k x e = inr (k, omega arith, e)
  in_append (y ∷ xs) ys zero x e = inl e
  in_append (y ∷ xs) ys (suc k) x e = further (in_append xs ys k x e)
    where
      further : ((slice_get xs k ≡ Some x) ⊎ ((j : ℕ) × (k ≡ length xs + j) × (slice_get ys j ≡ Some x))) →
          ((slice_get xs k ≡ Some x) ⊎ ((j : ℕ) × (suc k ≡ suc (length xs) + j) × (slice_get ys j ≡ Some x)))
      further (inl here) = inl here
      further (inr (j, at, there)) = inr (j, omega (arith, at), there)

  -- among those that were put in, or among the others
  abbrev InSplice : List A → List A → ℕ → ℕ → A → Type 0
  InSplice list more n k x =
      ((i : ℕ) × (k ≡ n + i) × (slice_get more i ≡ Some x)) ⊎ ((j : ℕ) × (k ≡ shifted n (length more) j) × (slice_get list j ≡ Some x))

  in_splice : (list more : List A) (n k : ℕ) (x : A) → n ≤ length list → slice_get (splice n more list) k ≡ Some x → InSplice list more n k x
  in_splice list more zero k x le e = by (in_append more list k x e)
    where
      by : ((slice_get more k ≡ Some x) ⊎ ((j : ℕ) × (k ≡ length more + j) × (slice_get list j ≡ Some x))) → InSplice list more 0 k x
      by (inl here) = inl (k, omega arith, here)
      by (inr (j, at, there)) =
          let behind : k ≡ j + length more = omega (arith, at) in
          let none : nat_lt j 0 ≡ false = grind (arith, nat_tests) in
          inr (j, behind ∙ sym (ap (λ (b : Bool). cond b j (j + length more)) none), there)
  in_splice [] more (suc n) k x le e = absurd (omega arith)
  in_splice (y ∷ list) more (suc n) zero x le e = inr (0, first_stays n (length more), e)
  in_splice (y ∷ list) more (suc n) (suc k) x le e = further (in_splice list more n k x (omega arith) e)
    where
      further : InSplice list more n k x → InSplice (y ∷ list) more (suc n) (suc k) x
      further (inl (i, at, here)) = inl (i, omega (arith, at), here)
      further (inr (j, at, there)) = inr (suc j, ap suc at ∙ one_more n (length more) j, there)

  -- an element of a mapped list is one of the list
  in_map : {B : Type 0} (f : B → A) (xs : List B) (k : ℕ) (x : A) → slice_get (map f xs) k ≡ Some x → (b : B) × (slice_get xs k ≡ Some b) × (x ≡ f b)
  in_map f [] k x e = absurd cc
  in_map f (b ∷ xs) zero x e = (b, refl, cc)
  in_map f (b ∷ xs) (suc k) x e = in_map f xs k x e

-- ---- methods with code

module _ (plain : Plain) (code : Code) where
  built_in_has_none : (b : BuiltInMethod) (method : Method) → method ≡ built_in_of b → code_of_kind method.kind ≡ Some code → ⊥
  unfolding built_in_of code_of_kind
  built_in_has_none b method is e = let f : None ≡ Some code = sym (ap (λ (m : Method). code_of_kind m.kind) is) ∙ e in cc

  clone_has_none : (method : Method) → clone_of ≡ method → code_of_kind method.kind ≡ Some code → ⊥
  unfolding code_of_kind
  clone_has_none method is e = let f : None ≡ Some code = ap (λ (m : Method). code_of_kind m.kind) is ∙ e in cc

  abbrev IsOfFile : ℕ → Type 0
  IsOfFile m = (m ≡ main_number plain) ⊎ ((i : ℕ) × (f : PlainFunction) × (m ≡ function_number plain i) × (slice_get plain.functions i ≡ Some f))

  -- the method of a place among those of the file
  of_place : (m i : ℕ) (method : Method) → m ≡ first_method plain + i → slice_get (methods_of_file plain) i ≡ Some method → IsOfFile m
  of_place m i method at e = by (in_splice (map (function_of plain) plain.functions) (main_of plain ∷ []) (before_main plain.functions) i method (before_main_is_in_list plain) e)
    where
      by : InSplice (map (function_of plain) plain.functions) (main_of plain ∷ []) (before_main plain.functions) i method → IsOfFile m
      by (inl (zero, place, here)) = inl (omega (arith, at, place))
      by (inl (suc j, place, here)) = absurd cc
      by (inr (j, place, there)) =
          let f = in_map (function_of plain) plain.functions j method there in
          inr (j, f.0, at ∙ ap (λ (k : ℕ). first_method plain + k) place, f.1)

  of_splice : (m : ℕ) (method : Method) → code_of_kind method.kind ≡ Some code → InSplice (map built_in_of built_in_methods) (methods_of_file plain) (first_method plain) m method → IsOfFile m
  of_splice m method has (inl (i, at, here)) = of_place m i method at here
  of_splice m method has (inr (j, at, there)) = let b = in_map built_in_of built_in_methods j method there in absurd (built_in_has_none b.0 method b.2 has)

  of_all : (m : ℕ) (method : Method) → code_of_kind method.kind ≡ Some code →
      ((slice_get (splice (first_method plain) (methods_of_file plain) (map built_in_of built_in_methods)) m ≡ Some method)
      ⊎ ((j : ℕ) × (m ≡ length (splice (first_method plain) (methods_of_file plain) (map built_in_of built_in_methods)) + j) × (slice_get (clone_of ∷ []) j ≡ Some method))) → IsOfFile m
  of_all m method has (inl here) = of_splice m method has (in_splice (map built_in_of built_in_methods) (methods_of_file plain) (first_method plain) m method (first_is_in plain) here)
  of_all m method has (inr (zero, at, there)) = (let is : clone_of ≡ method = cc (there) in absurd (clone_has_none method is has))
  of_all m method has (inr (suc j, at, there)) = absurd cc

pub only_file_has_code : (plain : Plain) → OnlyFileHasCode plain
unfolding program_of methods_of
only_file_has_code plain m method code e has =
    of_all plain code m method has (in_append (splice (first_method plain) (methods_of_file plain) (map built_in_of built_in_methods)) (clone_of ∷ []) m method e)
