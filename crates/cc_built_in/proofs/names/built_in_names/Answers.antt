use Rattle.std.proofs.Common.{◌≡◌, ◌≤◌, ℕ, List, map, take, length, sym, ap, subst, ◌∙◌}
use Rattle.std.specs.Prelude.{◌↔◌, true, Contains}
use Rattle.std.proofs.lemmas.List.{take_all}
use Rattle.cc_meaning.specs.BuiltIn.{is_built_in}
use Rattle.cc_built_in.specs.BuiltInMethods.{BuiltInMethods, built_in_tables}
use Rattle.cc_built_in.specs.Listed.{AreClasses}
use Rattle.cc_built_in.specs.declared.table.ListedClass.{ListedClass}
use Rattle.cc_built_in.proofs.Finding.{all_named, names_of}
use Rattle.cc_built_in.proofs.names.built_in_names.Goals as goal

all_taken : (names : List (List ℕ)) (classes : List ListedClass) (count : ℕ) → AreClasses classes → length classes ≤ count → names ≡ map (λ (class : ListedClass). class.name.now) (take count classes) → names ≡ map (λ (table : BuiltInMethods). table.class) built_in_tables
all_taken names classes count are past is = is ∙ (ap (map (λ (class : ListedClass). class.name.now)) (take_all count classes past) ∙ names_of classes are)

pub returns-clause-are : goal.returns-clause-are
returns-clause-are c = all_taken c.loop-class.names c.built_in_classes-class-items.result.now c.loop-class.class-index c.built_in_classes-class-items.ensures c.loop-class-test.false c.loop-class.invariant

pub returns-clause-all : goal.returns-clause-all
returns-clause-all c =
    let names = all_taken c.loop-class.names c.built_in_classes-class-items.result.now c.loop-class.class-index c.built_in_classes-class-items.ensures c.loop-class-test.false c.loop-class.invariant in
    λ name. subst (λ (names : List (List ℕ)). Contains names name ↔ (is_built_in name ≡ true)) (sym names) (all_named name)
