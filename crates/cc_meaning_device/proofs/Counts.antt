-- The numbers of a plain file's methods have 32 bits.
use Rattle.std.proofs.Common.{◌≡◌, ℕ, suc, ◌+◌, ◌^◌, ◌<◌, ◌≤◌, Bool, true, false, cond, nat_lt, List, [], ◌∷◌, ◌++◌, length, Some, refl, ap, ◌∙◌, arith, slice_get}
use Rattle.std.proofs.lemmas.List.{length-append}
use Rattle.std.proofs.lemmas.List.Sorted.{length_permutation}
use Rattle.std.proofs.lemmas.Option.{slice_get_within}
use Rattle.cc_built_in.specs.BuiltInMethods.{BuiltInMethods, is_before, built_in_tables, print_stream_methods, object_methods, string_methods, string_builder_methods, message_methods, methods_before}
use Rattle.cc_meaning_plain.specs.declared.plain.Member.{Member}
use Rattle.cc_meaning_plain.specs.declared.plain.PlainFunction.{PlainFunction}
use Rattle.cc_meaning_plain.specs.declared.plain.Plain.{Plain}
use Rattle.cc_meaning_plain.specs.Code.{Scope}
use Rattle.cc_meaning_plain.specs.Plain.{SpellsMembers, AreFunctions, scope_of, IsPlain}
use Rattle.cc_meaning_plain.specs.Program.{before_main, first_method, function_number}

-- ---- built-in methods

abbrev all_methods : List BuiltInMethods → ℕ
all_methods [] = 0
all_methods (table ∷ rest) = length table.methods + all_methods rest

some_before : (tables : List BuiltInMethods) (name : List ℕ) → methods_before tables name ≤ all_methods tables
unfolding methods_before
some_before [] name = omega arith
some_before (table ∷ rest) name = by (is_before table.class name) (some_before rest name)
  where
    by : (b : Bool) → methods_before rest name ≤ all_methods rest → cond b (length table.methods) 0 + methods_before rest name ≤ length table.methods + all_methods rest
    by true h = omega (arith, h)
    by false h = omega (arith, h)

few_built_in : all_methods built_in_tables ≤ 1000
unfolding built_in_tables print_stream_methods object_methods string_methods string_builder_methods message_methods
few_built_in = omega arith

-- ---- functions

-- each member takes some bytes
members_fit : (file : List ℕ) (at row : ℕ) (members : List Member) → SpellsMembers file at row members → length members ≤ length file
members_fit file at row [] h = omega arith
members_fit file at row (m ∷ ms) h = let fits = within file at row m ms h in omega (arith, fits)
  where
    within : (file : List ℕ) (at row : ℕ) (m : Member) (ms : List Member) → SpellsMembers file at row (m ∷ ms) → at + suc (length ms) ≤ length file
    within file at row m [] h = omega (arith, h.5.stands.some, h.5.stands.within)
    within file at row m (next ∷ ms) h =
        let fits = within file h.3 m.method next ms h.8 in
        omega (arith, fits, h.5.stands.some, h.6.stands.some, h.7.stands.some)

as_many : (file : List ℕ) (scope : Scope) (members : List Member) (functions : List PlainFunction) → AreFunctions file scope members functions → length functions ≡ length members
as_many file scope [] [] h = refl
as_many file scope [] (f ∷ fs) h = absurd h
as_many file scope (m ∷ ms) [] h = absurd h
as_many file scope (m ∷ ms) (f ∷ fs) h = ap suc (as_many file scope ms fs h.1)

few_functions : (file : List ℕ) (plain : Plain) → IsPlain file plain → length plain.functions ≤ 8388608
few_functions file plain is =
    let methods = is.methods in
    let members = members_fit file _ _ is.members is.members_stand.listed in
    let listed : length is.members ≡ length methods.before + suc (length methods.after) = ap length methods.listed ∙ length-append methods.before (methods.main ∷ methods.after) in
    let many = as_many file (scope_of plain) (methods.before ++ methods.after) methods.functions methods.are_functions in
    let others = length-append methods.before methods.after in
    let same = length_permutation methods.functions plain.functions methods.same in
    omega (arith, members, listed, many, others, same, is.size)

pub number_fits : (file : List ℕ) (plain : Plain) (place : ℕ) (f : PlainFunction) → IsPlain file plain → slice_get plain.functions place ≡ Some f → function_number plain place < 2 ^ 32
number_fits file plain place f is e =
    let few = few_functions file plain is in
    let within = slice_get_within plain.functions place f e in
    let first : first_method plain ≤ 1000 = omega (arith, some_before built_in_tables plain.class, few_built_in) in
    by (nat_lt place (before_main plain.functions)) few within first
  where
    by : (b : Bool) → length plain.functions ≤ 8388608 → place < length plain.functions → first_method plain ≤ 1000 → first_method plain + cond b place (place + 1) < 2 ^ 32
    by true few within first = omega arith
    by false few within first = omega arith
