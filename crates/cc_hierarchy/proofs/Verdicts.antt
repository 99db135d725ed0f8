-- What the first definition that is so says of the whole.
use Rattle.std.proofs.Common.{◌≡◌, ℕ, ◌<◌, List, length, Option, Some, None, subst, sym, arith}
use Rattle.std.specs.Prelude.{MatchOption}
use Rattle.cc_meaning.specs.declared.file.Ids.{Ids}
use Rattle.cc_meaning.specs.declared.file.RawClass.{RawClass}
use Rattle.cc_meaning_program.specs.ClassFaults.{NamesFirst, NoneIs, IsDuplicate, LacksSuperclass, IsAboveItself}
use Rattle.cc_hierarchy.specs.Graphs.{Reaches, IsFirstOnCycle, IsWhole}
use Rattle.cc_hierarchy.specs.Indexes.{defined_name}
use Rattle.cc_hierarchy.specs.Judging.{IsFirst, ShowsAbove}
use Rattle.cc_hierarchy.proofs.Certifying.{way_from_within}
use Rattle.cc_hierarchy.proofs.Defining.{named_defines}
use Rattle.cc_hierarchy.proofs.Duplicating.{duplicate_within}
use Rattle.cc_hierarchy.proofs.Extending.{lacking_within, above_from, reaches_from, graph_whole}

pub found_some : (found : Option ℕ) (number : ℕ) (N : Type 0) (P : ℕ → Type 0) → MatchOption found N P → found ≡ Some number → P number
found_some found number N P m is = let h = subst (λ o. MatchOption o N P) is m in h

pub found_none : (found : Option ℕ) (N : Type 0) (P : ℕ → Type 0) → MatchOption found N P → found ≡ None → N
found_none found N P m is = let h = subst (λ o. MatchOption o N P) is m in h

pub no_duplicates : (ids : Ids) (given classes : List RawClass) (found : Option ℕ) → given ≡ classes → MatchOption found (NoneIs (IsDuplicate ids given)) (IsFirst (IsDuplicate ids given)) → found ≡ None → NoneIs (IsDuplicate ids classes)
no_duplicates ids given classes found same m is = subst (λ cs. NoneIs (IsDuplicate ids cs)) same (found_none found (NoneIs (IsDuplicate ids given)) (IsFirst (IsDuplicate ids given)) m is)

names_first : (ids : Ids) (is_so : ℕ → Type 0) (number : ℕ) (name : List ℕ) → IsFirst is_so number → number < length ids.classes → name ≡ defined_name ids number → NamesFirst ids is_so name
names_first ids is_so number name f within called = record { number = number; so = f.so; before = f.before; named = named_defines ids number name within (sym called) }

pub names_duplicate : (ids : Ids) (given classes : List RawClass) (number : ℕ) (name : List ℕ) → given ≡ classes → length classes ≡ length ids.classes → IsFirst (IsDuplicate ids given) number → name ≡ defined_name ids number →
    NamesFirst ids (IsDuplicate ids classes) name
names_duplicate ids given classes number name same whole f called =
    let g : IsFirst (IsDuplicate ids classes) number = subst (λ cs. IsFirst (IsDuplicate ids cs) number) same f in
    names_first ids (IsDuplicate ids classes) number name g (duplicate_within ids classes number whole g.so) called

pub names_lacking : (ids : Ids) (number : ℕ) (name : List ℕ) → IsFirst (LacksSuperclass ids) number → name ≡ defined_name ids number → NamesFirst ids (LacksSuperclass ids) name
names_lacking ids number name f called = names_first ids (LacksSuperclass ids) number name f (lacking_within ids number f.so) called

module _ (ids : Ids) (graph given : List (List ℕ)) (same : given ≡ graph) (shows : ShowsAbove ids graph) where
  pub given_whole : IsWhole given
  given_whole = subst IsWhole (sym same) (graph_whole ids graph shows)

  pub names_cycle : (number : ℕ) (name : List ℕ) → IsFirstOnCycle given number → name ≡ defined_name ids number → NamesFirst ids (IsAboveItself ids) name
  names_cycle number name f called =
      let g : IsFirstOnCycle graph number = subst (λ xs. IsFirstOnCycle xs number) same f in
      let within : number < length graph = way_from_within graph number number g.on_cycle in
      names_first ids (IsAboveItself ids) number name
      (record { so = above_from ids graph shows number number g.on_cycle; before = λ earlier less up. g.before earlier less (reaches_from ids graph shows earlier earlier up) })
      (omega (arith, within, shows.wide)) called

  pub none_above : ((node : ℕ) → ¬ Reaches given node node) → NoneIs (IsAboveItself ids)
  none_above none number up = none number (subst (λ xs. Reaches xs number number) (sym same) (reaches_from ids graph shows number number up))
