-- The methods that a Run may be of are the functions of the file.
use Rattle.std.proofs.Common.{◌≡◌, ◌≢◌, ◌⊎◌, inl, inr, ℕ, zero, suc, ◌+◌, ◌-◌, ◌<◌, ◌≤◌, ◌==◌, ◌&&◌, Bool, true, false, cond, nat_lt, not, List, [], ◌∷◌, ◌++◌, length, map, Option, Some, None, refl, sym, ap, ◌∙◌, subst, arith, slice_get, option_and_then, codes}
use Rattle.std.specs.Str.{bytes_eq}
use Rattle.std.proofs.lemmas.Bool.{cases_Bool}
use Rattle.std.proofs.lemmas.Bool.Decides.{nat_tests}
use Rattle.cc_meaning.specs.declared.program.Code.{Code}
use Rattle.cc_meaning.specs.declared.program.Method.{Method}
use Rattle.cc_meaning_run.specs.Instructions.{code_of_kind}
use Rattle.cc_meaning_images.specs.Reading.{Runnable, is_movable, runnable_if, runnable_method, runnable}
use Rattle.cc_meaning_plain.specs.declared.plain.PlainFunction.{PlainFunction}
use Rattle.cc_meaning_plain.specs.declared.plain.Plain.{Plain}
use Rattle.cc_meaning_plain.specs.Laws.{NumbersMethods, OnlyFileHasCode}
use Rattle.cc_meaning_plain.specs.Program.{shifted, before_main, first_method, main_number, function_number, code_of, main_of, function_of, bare_name, program_of}
use Rattle.cc_meaning_clone.specs.Functions.{place_beside, function_place, function_numbered, is_ordinary, runnable_function, RunnableIs}

-- ---- places and numbers

beside_shifted : (main i : ℕ) → place_beside main (shifted main 1 i) ≡ Some i
beside_shifted main i = by (nat_lt i main) refl
  where
    by : (b : Bool) → nat_lt i main ≡ b → place_beside main (cond b i (i + 1)) ≡ Some i
    by true is =
        let other : (i == main) ≡ false = grind (arith, nat_tests) in
        rw (other, is) refl
    by false is =
        let other : ((i + 1) == main) ≡ false = grind (arith, nat_tests) in
        let behind : nat_lt (i + 1) main ≡ false = grind (arith, nat_tests) in
        rw (other, behind) (ap Some (omega arith))

place_of_number : (plain : Plain) (i : ℕ) → function_place plain (function_number plain i) ≡ Some i
unfolding function_place
place_of_number plain i =
    let first = first_method plain in
    let place = shifted (before_main plain.functions) 1 i in
    let behind : nat_lt (first + place) first ≡ false = grind (arith, nat_tests) in
    let back : (first + place) - first ≡ place = omega arith in
    rw (behind, back) (beside_shifted (before_main plain.functions) i)

beside_is : (main i j : ℕ) → place_beside main i ≡ Some j → (i ≡ shifted main 1 j) × (i ≢ main)
beside_is main i j e = by (i == main) refl e
  where
    earlier : (b : Bool) → nat_lt i main ≡ b → (i == main) ≡ false → Some (cond b i (i - 1)) ≡ Some j → (i ≡ shifted main 1 j) × (i ≢ main)
    earlier true is other f =
        let same : i ≡ j = cc in
        let less : nat_lt j main ≡ true = grind (arith, nat_tests) in
        (same ∙ sym (ap (λ (t : Bool). cond t j (j + 1)) less), (λ g. grind (arith, nat_tests)))
    earlier false is other f =
        let same : i - 1 ≡ j = cc in
        let above : main < i = grind (arith, nat_tests) in
        let less : nat_lt j main ≡ false = grind (arith, nat_tests) in
        let here : i ≡ j + 1 = omega arith in
        (here ∙ sym (ap (λ (t : Bool). cond t j (j + 1)) less), (λ g. omega arith))

    by : (b : Bool) → (i == main) ≡ b → cond b None (Some (cond (nat_lt i main) i (i - 1))) ≡ Some j → (i ≡ shifted main 1 j) × (i ≢ main)
    by true is f = absurd cc
    by false is f = earlier (nat_lt i main) refl is f

-- the method of that number is the function of that place, and isn't main
pub number_of_place : (plain : Plain) (m i : ℕ) → function_place plain m ≡ Some i → (m ≡ function_number plain i) × (m ≢ main_number plain)
unfolding function_place
number_of_place plain m i e = by (nat_lt m (first_method plain)) refl e
  where
    by : (b : Bool) → nat_lt m (first_method plain) ≡ b → cond b None (place_beside (before_main plain.functions) (m - first_method plain)) ≡ Some i → (m ≡ function_number plain i) × (m ≢ main_number plain)
    by true is f = absurd cc
    by false is f =
        let behind : first_method plain ≤ m = grind (arith, nat_tests) in
        let p = beside_is (before_main plain.functions) (m - first_method plain) i f in
        let whole : m ≡ first_method plain + (m - first_method plain) = omega arith in
        (whole ∙ ap (λ (k : ℕ). first_method plain + k) p.0, (λ g. p.1 (omega (arith, g))))

-- ---- runnable methods

module _ (plain : Plain) (numbers : NumbersMethods plain) (only : OnlyFileHasCode plain) where
  none_if : (b : Bool) (method : Method) → runnable_if b method None ≡ None
  none_if true method = refl
  none_if false method = refl

  -- a function's method is runnable where its name is an ordinary one
  of_function : (m i : ℕ) (f : PlainFunction) → function_place plain m ≡ Some i → slice_get plain.functions i ≡ Some f → runnable (program_of plain) m ≡ runnable_function plain (Some f)
  unfolding runnable program_of function_of code_of_kind
  of_function m i f place e =
      let n = number_of_place plain m i place in
      let there : slice_get (program_of plain).methods m ≡ Some (function_of plain f) = ap (λ (k : ℕ). slice_get (program_of plain).methods k) n.0 ∙ numbers.functions i f e in
      let other : (m == main_number plain) ≡ false = grind (arith, nat_tests, n.1) in
      ap (runnable_method (program_of plain) m) there ∙ rw other (by (is_ordinary f))
    where
      by : (b : Bool) → runnable_if b (function_of plain f) (Some (code_of plain f.code)) ≡ cond b (Some (record { method = function_of plain f; code = code_of plain f.code })) None
      by true = refl
      by false = refl

  no_function : (m : ℕ) → function_numbered plain m ≡ None → (method : Method) → slice_get (program_of plain).methods m ≡ Some method → (code : Code) → code_of_kind method.kind ≡ Some code → m ≡ main_number plain
  unfolding function_numbered
  no_function m none method e code has = by (only m method code e has)
    where
      by : ((m ≡ main_number plain) ⊎ ((i : ℕ) × (f : PlainFunction) × (m ≡ function_number plain i) × (slice_get plain.functions i ≡ Some f))) → m ≡ main_number plain
      by (inl is) = is
      by (inr (i, f, at, there)) =
          let place : function_place plain m ≡ Some i = ap (function_place plain) at ∙ place_of_number plain i in
          let found : function_numbered plain m ≡ Some f = ap (λ (o : Option ℕ). option_and_then (λ (k : ℕ). slice_get plain.functions k) o) place ∙ there in
          absurd (let bad : None ≡ Some f = sym none ∙ found in cc)

  -- no other method is
  of_none : (m : ℕ) → function_numbered plain m ≡ None → runnable (program_of plain) m ≡ None
  unfolding runnable program_of
  of_none m none = by (slice_get (program_of plain).methods m) refl
    where
      with_code : (method : Method) → slice_get (program_of plain).methods m ≡ Some method → (o : Option Code) → code_of_kind method.kind ≡ o → runnable_if (is_movable (program_of plain) m method) method o ≡ None
      with_code method e None has = none_if (is_movable (program_of plain) m method) method
      with_code method e (Some code) has =
          let main = no_function m none method e code has in
          let same : (m == main_number plain) ≡ true = grind (arith, nat_tests, main) in
          rw same refl

      by : (o : Option Method) → slice_get (program_of plain).methods m ≡ o → runnable_method (program_of plain) m o ≡ None
      by None e = refl
      by (Some method) e = with_code method e (code_of_kind method.kind) refl

  by_place : (m : ℕ) (p : Option ℕ) → function_place plain m ≡ p → (o : Option PlainFunction) → option_and_then (λ (i : ℕ). slice_get plain.functions i) p ≡ o → runnable (program_of plain) m ≡ runnable_function plain o
  unfolding function_numbered
  by_place m None e None f = of_none m (ap (λ (p : Option ℕ). option_and_then (λ (i : ℕ). slice_get plain.functions i) p) e ∙ f)
  by_place m None e (Some g) f = absurd cc
  by_place m (Some i) e None f = of_none m (ap (λ (p : Option ℕ). option_and_then (λ (i : ℕ). slice_get plain.functions i) p) e ∙ f)
  by_place m (Some i) e (Some g) f = of_function m i g e f

pub runnable_is : ((plain : Plain) → NumbersMethods plain) → ((plain : Plain) → OnlyFileHasCode plain) → RunnableIs
unfolding function_numbered
runnable_is numbers only plain m = by_place plain (numbers plain) (only plain) m (function_place plain m) refl (function_numbered plain m) refl
