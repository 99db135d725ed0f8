-- That code is sound where it is written.
use Rattle.std.proofs.Common.{◌≡◌, inl, inr, ℕ, ◌+◌, ◌*◌, ◌%◌, ◌^◌, ◌<◌, ◌≤◌, Bool, true, false, cond, List, [], ◌++◌, length, Option, Some, None, refl, sym, ap, subst, arith, length-append, ◌∙◌}
use Rattle.std.proofs.lemmas.Bool.Decides.{nat_tests}
use Rattle.std.specs.Prelude.{◌==◌}
use Rattle.std.specs.List.{flat_map}
use Rattle.cc_meaning.specs.declared.file.Ids.{Ids}
use Rattle.cc_meaning.specs.declared.file.RawCode.{RawCode}
use Rattle.cc_meaning_dex.specs.Numbers.{Stands, u16_at, u32_at}
use Rattle.cc_meaning_dex.specs.Tables.{longest_file}
use Rattle.cc_meaning_dex.specs.declared.items.StatedMethod.{StatedMethod}
use Rattle.cc_meaning_dex.specs.CodeItems.{HasSoundCode, CodeFits, argument_registers, has_no_code, register_count, argument_count, try_count, unit_count, padding, units_at, tries_at, handlers_at}
use Rattle.cc_meaning_builder.specs.Built.{SuitsFlags}
use Rattle.cc_meaning_builder.specs.Forms.{little_form, u16_form, u32_form, uleb_form, tries_form, handlers_form, padding_form, tries_part, code_head, code_form}
use Rattle.cc_meaning_builder.specs.Laws.{WrittenCode}
use Rattle.cc_meaning_builder.specs.Written.{CodeFitsFormat, CodeWritten, IsSmallCode}
use Rattle.cc_builder_laws.specs.Lower.{Lower}
use Rattle.cc_builder_laws.proofs.MemberParts.{ends_inside, is_shorter}
use Rattle.cc_builder_laws.proofs.Sizes.{padding_size, tries_size}

-- ---- the head of an item

-- what the head of an item states, and the units behind it
pub record HeadStands (file : List ℕ) (at : ℕ) (code : RawCode) : Type 0 where
  pub registers : register_count file at ≡ code.registers
  pub ins : argument_count file at ≡ code.ins
  pub tries : try_count file at ≡ length code.tries
  pub units : unit_count file at ≡ length code.units
  pub rest : Stands file (units_at at) (flat_map u16_form code.units ++ tries_part code)

few_units : Lower → (file : List ℕ) (at outs : ℕ) (code : RawCode) → length file ≤ longest_file → Stands file at (code_form outs code) → length code.units < 2 ^ 32
unfolding code_form little_form
few_units low file at outs code short stands =
    let all = simp length-append at (is_shorter low file at (code_form outs code) stands) in
    omega (arith, all, low.units_size code.units)

pub head_stands : Lower → (file : List ℕ) (at outs : ℕ) (code : RawCode) → length file ≤ longest_file → IsSmallCode code → length code.tries < 65536 →
    Stands file at (code_form outs code) → HeadStands file at code
unfolding code_form little_form
head_stands low file at outs code short small tries stands =
    let parts = low.apart file at (code_head outs code) (flat_map u16_form code.units ++ tries_part code) stands in
    let registers = low.apart file at (u16_form code.registers) (u16_form code.ins ++ (u16_form outs ++ (u16_form (length code.tries) ++ (u32_form 0 ++ u32_form (length code.units))))) parts.0 in
    let ins = low.apart file (at + 2) (u16_form code.ins) (u16_form outs ++ (u16_form (length code.tries) ++ (u32_form 0 ++ u32_form (length code.units)))) registers.1 in
    let passed = low.apart file (at + 2 + 2) (u16_form outs) (u16_form (length code.tries) ++ (u32_form 0 ++ u32_form (length code.units))) ins.1 in
    let counted = low.apart file (at + 2 + 2 + 2) (u16_form (length code.tries)) (u32_form 0 ++ u32_form (length code.units)) passed.1 in
    let debug = low.apart file (at + 2 + 2 + 2 + 2) (u32_form 0) (u32_form (length code.units)) counted.1 in
    let six : at + 2 + 2 + 2 ≡ at + 6 = omega arith in
    let twelve : at + 2 + 2 + 2 + 2 + 4 ≡ at + 12 = omega arith in
    record {
      registers = (low.u16 file at code.registers small.few_registers registers.0).1;
      ins = (low.u16 file (at + 2) code.ins small.few_arguments ins.0).1;
      tries = subst (λ k. u16_at file k ≡ length code.tries) six (low.u16 file (at + 2 + 2 + 2) (length code.tries) tries counted.0).1;
      units = subst (λ k. u32_at file k ≡ length code.units) twelve (low.u32 file (at + 2 + 2 + 2 + 2 + 4) (length code.units) (few_units low file at outs code short stands) debug.1).1;
      rest = parts.1;
    }

-- ---- where the parts of an item stand

tries_place : (file : List ℕ) (at : ℕ) (code : RawCode) → HeadStands file at code → tries_at file at ≡ units_at at + length code.units * 2 + padding (length code.tries) (length code.units)
unfolding tries_at
tries_place file at code head = rw (head.tries, head.units) refl

handlers_place : (file : List ℕ) (at : ℕ) (code : RawCode) → HeadStands file at code → handlers_at file at ≡ tries_at file at + length code.tries * 8
unfolding handlers_at
handlers_place file at code head = ap (λ count. tries_at file at + count * 8) head.tries

pub no_number : (n : ℕ) → (n == 0) ≡ true → n ≡ 0
no_number n e = grind (arith, nat_tests)

-- what stands behind the units is no shorter than the padding and the tries
part_long : (code : RawCode) → padding (length code.tries) (length code.units) + length code.tries * 8 ≤ length (tries_part code)
part_long code = cases (length code.tries == 0) refl
  where
    cases : (none : Bool) → (length code.tries == 0) ≡ none →
        cond none 0 (length code.units % 2 * 2) + length code.tries * 8 ≤ length {A = ℕ} (cond none [] (padding_form code.units ++ (tries_form (length (uleb_form (length code.tries))) code.tries ++ handlers_form code.tries)))
    cases true e = omega (arith, no_number (length code.tries) e)
    cases false e =
        let padded = padding_size code.units in
        let each = tries_size (length (uleb_form (length code.tries))) code.tries in
        simp length-append (omega (arith, padded, each))

handlers_inside : Lower → (file : List ℕ) (at outs : ℕ) (code : RawCode) → HeadStands file at code → Stands file at (code_form outs code) → handlers_at file at ≤ length file
unfolding code_form little_form
handlers_inside low file at outs code head stands =
    let some : 0 < length (code_form outs code) = simp length-append (omega arith) in
    let all = simp length-append at (ends_inside low file at (code_form outs code) stands some) in
    omega (arith, all, low.units_size code.units, part_long code, tries_place file at code head, handlers_place file at code head)

-- the tries of an item that has some, and behind them their handlers
pub record TriesStand (file : List ℕ) (at : ℕ) (code : RawCode) : Type 0 where
  pub each : Stands file (tries_at file at) (tries_form (length (uleb_form (length code.tries))) code.tries)
  pub handlers : Stands file (handlers_at file at) (handlers_form code.tries)

abbrev first_offset : RawCode → ℕ
first_offset code = length (uleb_form (length code.tries))

pub tries_stand : Lower → (file : List ℕ) (at : ℕ) (code : RawCode) → HeadStands file at code → (length code.tries == 0) ≡ false → TriesStand file at code
tries_stand low file at code head some =
    let parts = low.apart file (units_at at) (flat_map u16_form code.units) (tries_part code) head.rest in
    let behind : ℕ = units_at at + length (flat_map u16_form code.units) in
    let padded = low.apart file behind (padding_form code.units) (tries_form (first_offset code) code.tries ++ handlers_form code.tries)
    (subst (λ none. Stands file behind (cond none [] (padding_form code.units ++ (tries_form (first_offset code) code.tries ++ handlers_form code.tries)))) some parts.1) in
    let both = low.apart file (behind + length (padding_form code.units)) (tries_form (first_offset code) code.tries) (handlers_form code.tries) padded.1 in
    let pad : padding (length code.tries) (length code.units) ≡ length code.units % 2 * 2 = ap (λ none. cond none 0 (length code.units % 2 * 2)) some in
    let place : behind + length (padding_form code.units) ≡ tries_at file at = omega (arith, low.units_size code.units, padding_size code.units, pad, tries_place file at code head) in
    let after : behind + length (padding_form code.units) + length (tries_form (first_offset code) code.tries) ≡ handlers_at file at =
    omega (arith, place, tries_size (first_offset code) code.tries, handlers_place file at code head) in
    record {
      each = subst (λ k. Stands file k (tries_form (first_offset code) code.tries)) place both.0;
      handlers = subst (λ k. Stands file k (handlers_form code.tries)) after both.1;
    }

-- ---- the law

code_fits : Lower → (file : List ℕ) (ids : Ids) (stated : StatedMethod) (outs : ℕ) (code : RawCode) → length file ≤ longest_file → IsSmallCode code → CodeFitsFormat code →
    Stands file stated.code_at (code_form outs code) → argument_registers ids stated.row stated.flags ≡ Some code.ins → code.ins ≤ code.registers → CodeFits file ids stated
code_fits low file ids stated outs code short small fits stands arguments few =
    let head = head_stands low file stated.code_at outs code short small fits.tries stands in
    record {
      within = handlers_inside low file stated.code_at outs code head stands;
      arguments = arguments ∙ ap Some (sym head.ins);
      few = omega (arith, few, head.ins, head.registers);
    }

pub written_code : Lower → WrittenCode
written_code low file ids stated method short small fits written suited = cases method.code refl written.code suited
  where
    cases : (code : Option RawCode) → method.code ≡ code → CodeWritten file stated.code_at code → SuitsFlags ids method code → HasSoundCode file ids stated
    cases None e none flags = inl (none, ap has_no_code written.flags ∙ flags)
    cases (Some code) e (some, little, outs, stands) (flags, arguments, few) =
        let same = ap (λ row. argument_registers ids row stated.flags) written.row ∙ ap (argument_registers ids method.row) written.flags in
        inr (some, ap has_no_code written.flags ∙ flags, code_fits low file ids stated outs code short (small.coded code e) (fits code e) stands (same ∙ arguments) few)
