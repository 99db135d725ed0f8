-- Counting the built-in methods before a class.
use Rattle.std.proofs.Common.{◌≡◌, ℕ, suc, ◌+◌, ◌^◌, ◌<◌, ◌≤◌, cond, List, [], ◌∷◌, length, drop, map, get_or, Bool, true, false, refl, ap, ◌∙◌, arith}
use Rattle.std.proofs.lemmas.List.{at_drop_more, drop_all, length-map}
use Rattle.cc_built_in.specs.BuiltInMethods.{BuiltInMethods, is_before, built_in_tables, print_stream_methods, object_methods, string_methods, string_builder_methods, message_methods, methods_before}
use Rattle.cc_built_in.specs.declared.table.ListedClass.{ListedClass}
use Rattle.cc_built_in.specs.Listed.{table_of, method_of}
use Rattle.cc_meaning_plain.specs.declared.plain.PlainFunction.{PlainFunction}
use Rattle.cc_meaning_plain.specs.Program.{main_name, before_main}

-- one class on
pub methods_more : (classes : List ListedClass) (name : List ℕ) (i : ℕ) (d : ListedClass) → i < length classes →
    methods_before (map table_of (drop i classes)) name
    ≡ cond (is_before (get_or classes i d).name.now name) (length (get_or classes i d).methods.now) 0 + methods_before (map table_of (drop (i + 1) classes)) name
unfolding methods_before table_of
methods_more classes name i d h =
    let class = get_or classes i d in
    at_drop_more (λ rest. methods_before (map table_of rest) name) classes i d h
    ∙ ap (λ (count : ℕ). cond (is_before class.name.now name) count 0 + methods_before (map table_of (drop (i + 1) classes)) name) (length-map class.methods.now (method_of class.name.now))

-- behind the last one
pub methods_end : (classes : List ListedClass) (name : List ℕ) (i : ℕ) → length classes ≤ i → methods_before (map table_of (drop i classes)) name ≡ 0
unfolding methods_before
methods_end classes name i h = ap (λ rest. methods_before (map table_of rest) name) (drop_all i classes h)

-- no more stand before a name than there are
all_methods : List BuiltInMethods → ℕ
all_methods [] = 0
all_methods (table ∷ rest) = length table.methods + all_methods rest

methods_within : (tables : List BuiltInMethods) (name : List ℕ) → methods_before tables name ≤ all_methods tables
unfolding methods_before all_methods
methods_within [] name = omega arith
methods_within (table ∷ rest) name =
    let more = methods_within rest name in
    elim (is_before table.class name) as (λ (b : Bool). cond b (length table.methods) 0 + methods_before rest name ≤ length table.methods + all_methods rest)
    [ true ↦ omega (arith, more) | false ↦ omega (arith, more) ]

-- the file's own methods have low numbers
pub few_methods : (name : List ℕ) → methods_before built_in_tables name ≤ 67
unfolding all_methods built_in_tables print_stream_methods object_methods string_methods string_builder_methods message_methods
few_methods name = let all : all_methods built_in_tables ≡ 67 = refl in omega (arith, methods_within built_in_tables name, all)

pub listed_fit : (classes : List ListedClass) (name : List ℕ) → map table_of classes ≡ built_in_tables → methods_before (map table_of classes) name < 2 ^ 32
listed_fit classes name same = omega (arith, few_methods name, ap (λ tables. methods_before tables name) same)

-- ---- functions before main

-- one function on
pub before_main_more : (fs : List PlainFunction) (i : ℕ) (d : PlainFunction) → i < length fs →
    before_main (drop i fs) ≡ cond (is_before (get_or fs i d).name main_name) (suc (before_main (drop (i + 1) fs))) 0
unfolding before_main
before_main_more fs i d h = at_drop_more (λ rest. before_main rest) fs i d h

pub before_main_end : (fs : List PlainFunction) (i : ℕ) → length fs ≤ i → before_main (drop i fs) ≡ 0
unfolding before_main
before_main_end fs i h = ap (λ rest. before_main rest) (drop_all i fs h)
