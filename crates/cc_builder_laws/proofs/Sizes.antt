-- How many bytes the parts of a file take.
use Rattle.std.proofs.Common.{◌≡◌, ℕ, ◌+◌, ◌-◌, ◌*◌, ◌%◌, ◌≤◌, Bool, true, false, cond, List, [], ◌∷◌, length, refl, arith, length-append}
use Rattle.std.proofs.lemmas.Bool.Decides.{nat_tests}
use Rattle.std.specs.Prelude.{◌==◌}
use Rattle.cc_meaning.specs.declared.file.RawField.{RawField}
use Rattle.cc_meaning.specs.declared.file.RawTry.{RawTry}
use Rattle.cc_meaning_dex.specs.declared.items.StatedMethod.{StatedMethod}
use Rattle.cc_meaning_builder.specs.Forms.{little_form, fields_form, methods_form, handler_form, tries_form, padding_form}
use Rattle.cc_builder_laws.specs.Lower.{Lower}

pub padding_size : (units : List ℕ) → length (padding_form units) ≡ length units % 2 * 2
padding_size units = cases (length units % 2 == 0) refl
  where
    cases : (even : Bool) → (length units % 2 == 0) ≡ even → length {A = ℕ} (cond even [] (0 ∷ 0 ∷ [])) ≡ length units % 2 * 2
    cases true e = grind (arith, nat_tests)
    cases false e = grind (arith, nat_tests)

pub tries_size : (offset : ℕ) (tries : List RawTry) → length (tries_form offset tries) ≡ length tries * 8
unfolding tries_form little_form
tries_size offset [] = refl
tries_size offset (try ∷ tries) = omega (arith, tries_size (offset + length (handler_form try.catches)) tries)

pub fields_size : Lower → (before : ℕ) (fields : List RawField) → length fields ≤ length (fields_form before fields)
unfolding fields_form
fields_size low before [] = omega arith
fields_size low before (field ∷ fields) = simp length-append (omega (arith, (low.uleb_size (field.row - before)).0, fields_size low field.row fields))

pub methods_size : Lower → (before : ℕ) (methods : List StatedMethod) → length methods ≤ length (methods_form before methods)
unfolding methods_form
methods_size low before [] = omega arith
methods_size low before (method ∷ methods) = simp length-append (omega (arith, (low.uleb_size (method.row - before)).0, methods_size low method.row methods))
