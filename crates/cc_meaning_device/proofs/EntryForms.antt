-- The image of a function's entry is one of a Run.
use Rattle.std.proofs.Common.{◌≡◌, ◌≢◌, ℕ, zero, suc, ◌+◌, ◌-◌, ◌<◌, ◌≤◌, ◌^◌, Bool, true, false, cond, not, ◌&&◌, ◌==◌, List, [], ◌∷◌, ◌++◌, length, take, Some, refl, sym, ap, ◌∙◌, subst, inl, inr, arith, nat_lt, slice_get, codes, All}
use Rattle.std.specs.Str.{bytes_eq}
use Rattle.std.proofs.lemmas.Bool.{cases_Bool}
use Rattle.std.proofs.lemmas.Bool.Decides.{nat_tests}
use Rattle.std.proofs.lemmas.List.{length-append}
use Rattle.std.proofs.Math.Seq.{take-append_seam}
use Rattle.std.proofs.lemmas.List.Elements.{All-get_or}
use Rattle.std.proofs.lemmas.List.Sorted.{All-permutation, length_permutation}
use Rattle.std.proofs.lemmas.Option.{slice_get_within, get_or_from_slice_get}
use Rattle.std.proofs.lemmas.Slice.Eq.{bytes_eq-Decides}
use Rattle.cc_meaning.specs.declared.instruction.Kind.{Kind}
use Rattle.cc_meaning.specs.declared.value.Value.TheVariants as value
use Rattle.cc_built_in.specs.BuiltInMethods.{BuiltInMethods, built_in_tables, methods_before, is_before, print_stream_methods, object_methods, string_methods, string_builder_methods, message_methods}
use Rattle.cc_meaning_run.specs.Instructions.{code_of_kind}
use Rattle.cc_meaning_images.specs.Spelling.{spelled_run}
use Rattle.cc_meaning_images.specs.Reading.{runnable, runnable_if, runnable_method}
use Rattle.cc_meaning_images.specs.Forms.{AreValues}
use Rattle.cc_meaning_plain.specs.declared.plain.Member.{Member}
use Rattle.cc_meaning_plain.specs.declared.plain.PlainFunction.{PlainFunction}
use Rattle.cc_meaning_plain.specs.declared.plain.Plain.{Plain}
use Rattle.cc_meaning_plain.specs.Code.{Scope}
use Rattle.cc_meaning_plain.specs.Laws.{NumbersMethods}
use Rattle.cc_meaning_plain.specs.Plain.{SpellsMembers, IsFunctionMember, AreFunctions, scope_of, IsPlain}
use Rattle.cc_meaning_plain.specs.Program.{before_main, first_method, main_number, function_number, bare_name, code_of, function_of, program_of}
use Rattle.cc_meaning_clone.specs.Functions.{is_ordinary, FormIs}
use Rattle.cc_meaning_device.specs.Entries.{EntryIsRun, EntryIsShort, FunctionsAreFew}

-- ---- how many functions there are

-- each method of the class data takes some bytes
members_fit : (file : List ℕ) (at row : ℕ) (ms : List Member) → SpellsMembers file at row ms → at ≤ length file → at + length ms ≤ length file
members_fit file at row [] h le = omega arith
members_fit file at row (m ∷ ms) h le =
    let rest = members_fit file h.3 m.method ms h.8 h.7.stands.within in
    omega (arith, rest, h.5.stands.some, h.6.stands.some, h.7.stands.some)

as_many : (file : List ℕ) (scope : Scope) (ms : List Member) (fs : List PlainFunction) → AreFunctions file scope ms fs → length fs ≡ length ms
as_many file scope [] [] h = refl
as_many file scope [] (f ∷ fs) h = absurd h
as_many file scope (m ∷ ms) [] h = absurd h
as_many file scope (m ∷ ms) (f ∷ fs) h = let rest = as_many file scope ms fs h.1 in omega arith

pub functions_are_few : FunctionsAreFew
functions_are_few file plain is =
    let methods = is.methods in
    let listing = is.members_stand in
    let fit = members_fit file listing.after_counts 0 is.members listing.listed listing.no_virtual.stands.within in
    let each = as_many file (scope_of plain) (methods.before ++ methods.after) methods.functions methods.are_functions in
    let same = length_permutation methods.functions plain.functions methods.same in
    let all : length is.members ≡ length methods.before + suc (length methods.after) = ap length methods.listed ∙ length-append methods.before (methods.main ∷ methods.after) in
    let but_main = length-append methods.before methods.after in
    omega (arith, fit, each, same, all, but_main, is.size)

-- ---- numbers

count_methods : List BuiltInMethods → ℕ
count_methods [] = 0
count_methods (table ∷ rest) = length table.methods + count_methods rest

few_before : (tables : List BuiltInMethods) (name : List ℕ) → methods_before tables name ≤ count_methods tables
unfolding methods_before count_methods
few_before [] name = omega arith
few_before (table ∷ rest) name =
    let more = few_before rest name in
    elim (is_before table.class name) as (λ (b : Bool). cond b (length table.methods) 0 + methods_before rest name ≤ length table.methods + count_methods rest) [
      | true ↦ omega (arith, more)
      | false ↦ omega (arith, more)
    ]

few_first : (plain : Plain) → first_method plain ≤ 67
unfolding count_methods built_in_tables print_stream_methods object_methods string_methods string_builder_methods message_methods
few_first plain = let all : count_methods built_in_tables ≡ 67 = refl in omega (arith, few_before built_in_tables plain.class, all)

module _ (plain : Plain) (i : ℕ) where
  few_numbers : i < 2 ^ 31 → function_number plain i < 2 ^ 32
  few_numbers few =
      let first = few_first plain in
      elim (nat_lt i (before_main plain.functions)) as (λ (b : Bool). first_method plain + cond b i (i + 1) < 2 ^ 32) [ true ↦ omega (arith, first, few) | false ↦ omega (arith, first, few) ]

  -- a function isn't main
  other_number : (function_number plain i == main_number plain) ≡ false
  other_number = by (nat_lt i (before_main plain.functions)) refl
    where
      by : (b : Bool) → nat_lt i (before_main plain.functions) ≡ b → ((first_method plain + cond b i (i + 1)) == main_number plain) ≡ false
      by true is = grind (arith, nat_tests)
      by false is = grind (arith, nat_tests)

-- ---- names

not_named : (f : PlainFunction) (bare other : List ℕ) → f.name ≡ bare ++ codes "(I)I" → f.name ≢ other ++ codes "(I)I" → bytes_eq (bare_name f.name) other ≡ false
not_named f bare other whole differs =
    elim (cases_Bool (bytes_eq (bare_name f.name) other)) [
      | inl same ↦ absurd (differs (whole ∙ ap (λ (xs : List ℕ). xs ++ codes "(I)I") (sym is_bare ∙ (bytes_eq-Decides (bare_name f.name) other).0 same)))
      | inr other ↦ other
    ]
  where
    count : length f.name - 4 ≡ length bare
    count = let both = ap length whole ∙ length-append bare (codes "(I)I") in omega arith

    is_bare : bare_name f.name ≡ bare
    is_bare = ap (λ (n : ℕ). take n f.name) count ∙ ap (take (length bare)) whole ∙ take-append_seam bare (codes "(I)I")

-- what an entry goes by of its function
record IsCalled (f : PlainFunction) : Type 0 where
  pub ordinary : is_ordinary f ≡ true
  pub few_registers : f.code.registers ≤ 16

is_called : (file : List ℕ) (scope : Scope) (m : Member) (f : PlainFunction) → IsFunctionMember file scope m f → IsCalled f
is_called file scope m f h =
    let named = h.named in
    let first : bytes_eq (bare_name f.name) (codes "<init>") ≡ false = not_named f named.bare (codes "<init>") named.whole h.ordinary.0 in
    let second : bytes_eq (bare_name f.name) (codes "<clinit>") ≡ false = not_named f named.bare (codes "<clinit>") named.whole h.ordinary.1 in
    record { ordinary = ap (λ (b : Bool). not b && not (bytes_eq (bare_name f.name) (codes "<clinit>"))) first ∙ ap not second; few_registers = h.code.few_registers }

all_with : (f : PlainFunction) (fs : List PlainFunction) → IsCalled f → All IsCalled fs → All IsCalled (f ∷ fs)
all_with f fs h rest = each
  where
    each : All IsCalled (f ∷ fs)
    each zero d lt = h
    each (suc k) d lt = rest k d (omega arith)

all_called : (file : List ℕ) (scope : Scope) (ms : List Member) (fs : List PlainFunction) → AreFunctions file scope ms fs → All IsCalled fs
all_called file scope [] [] h = λ k d lt. absurd (omega arith)
all_called file scope [] (f ∷ fs) h = absurd h
all_called file scope (m ∷ ms) [] h = absurd h
all_called file scope (m ∷ ms) (f ∷ fs) h = all_with f fs (is_called file scope m f h.0) (all_called file scope ms fs h.1)

function_is_called : (file : List ℕ) (plain : Plain) → IsPlain file plain → (i : ℕ) (f : PlainFunction) → slice_get plain.functions i ≡ Some f → IsCalled f
function_is_called file plain is i f e =
    let methods = is.methods in
    let all = All-permutation IsCalled methods.functions plain.functions methods.same (all_called file (scope_of plain) (methods.before ++ methods.after) methods.functions methods.are_functions) in
    subst (λ (g : PlainFunction). IsCalled g) (get_or_from_slice_get plain.functions i f f e) (All-get_or IsCalled plain.functions i f (slice_get_within plain.functions i f e) all)

-- ---- the image

runs_function : (plain : Plain) → NumbersMethods plain → (i : ℕ) (f : PlainFunction) → slice_get plain.functions i ≡ Some f → is_ordinary f ≡ true →
    runnable (program_of plain) (function_number plain i) ≡ Some (record { method = function_of plain f; code = code_of plain f.code })
unfolding runnable program_of function_of code_of_kind
runs_function plain numbers i f e ordinary =
    ap (runnable_method (program_of plain) (function_number plain i)) (numbers.functions i f e)
    ∙ rw (other_number plain i) (ap (λ (b : Bool). runnable_if b (function_of plain f) (Some (code_of plain f.code))) ordinary)

pub entry_is_run : ((plain : Plain) → NumbersMethods plain) → ((plain : Plain) → FormIs plain) → EntryIsRun
entry_is_run numbers forms file plain i f n instructions words bytes is e fits few_instructions few_words =
    let form = forms plain in
    let called = function_is_called file plain is i f e in
    let main = is.methods.is_main.code.few_registers in
    record {
      target = record { method = function_of plain f; code = code_of plain f.code };
      runs = runs_function plain (numbers plain) i f e called.ordinary;
      method_number = few_numbers plain i (omega (arith, slice_get_within plain.functions i f e, functions_are_few file plain is));
      instructions = few_instructions;
      words = few_words;
      some_frame = omega arith;
      room_for_frame = omega arith;
      room_for_registers = omega (arith, main, called.few_registers);
      all_statuses = sym form.one_class;
      statuses = (omega arith, tt);
      args = subst (λ (ks : List Kind). AreValues ks (value.Int n ∷ [])) (sym (form.one_argument f)) (fits, tt);
      statics = subst (λ (ks : List Kind). AreValues ks []) (sym form.no_statics) tt;
      no_literals = refl;
      no_constants = refl;
      out_alone = refl;
    }

pub entry_is_short : EntryIsShort
unfolding spelled_run
entry_is_short plain i n instructions words = omega arith
