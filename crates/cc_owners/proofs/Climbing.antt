-- Going up superclasses by their numbers.
use Rattle.std.proofs.Common.{◌≡◌, ℕ, suc, ◌+◌, ◌<◌, ◌≤◌, Bool, true, false, ◌||◌, eqb, List, [], ◌∷◌, ◌++◌, length, get_or, map, Option, Some, None, slice_get, refl, sym, ap, subst, ◌∙◌, arith}
use Rattle.std.specs.List.{IsDistinct, AllByRecursion, list_any}
use Rattle.std.proofs.lemmas.Bool.Decides.{Decides-eqb}
use Rattle.std.proofs.lemmas.Map.Steps.{length-le_from_distinct_below}
use Rattle.std.proofs.lemmas.Option.{slice_get-get_or, slice_get_within}
use Rattle.cc_meaning.specs.declared.file.Ids.{Ids}
use Rattle.cc_meaning_program.specs.Named.{type_name}
use Rattle.cc_meaning_program.specs.Ancestry.{superclass_named, Ancestry, top, up}
use Rattle.cc_meaning_program.specs.declared.outline.Outline.{Outline}
use Rattle.cc_meaning_program.specs.SoundClimbing.{ClassesHaveAncestries}
use Rattle.cc_meaning_program.specs.Outlines.{IsNumberOf, AreNumbersOf}
use Rattle.cc_owners.specs.declared.linked.Linked.{Linked}
use Rattle.cc_owners.specs.Known.{IsKnown, AreAncestors}
use Rattle.cc_owners.proofs.Lists.{Among, first, later, some_is, parted, together, length_both, numbers_both}

-- ---- no class is above itself

pub ancestry_once : (ids : Ids) (name : List ℕ) (these those : List (List ℕ)) → Ancestry ids name these → Ancestry ids name those → these ≡ those
ancestry_once ids name _ _ (top e) (top f) = refl
ancestry_once ids name _ _ (top e) (up f rest) = absurd cc
ancestry_once ids name _ _ (up e rest) (top f) = absurd cc
ancestry_once ids name _ _ (up {above = a} {rest = r} e rest) (up {above = b} {rest = s} f others) =
    ap (λ tail. name ∷ tail) (ancestry_once ids a r s rest (subst (λ above. Ancestry ids above s) (sym (some_is a b (sym e ∙ f))) others))

-- from each class of them on they are its own
pub from_there : (ids : Ids) (name : List ℕ) (all before : List (List ℕ)) (at : List ℕ) (behind : List (List ℕ)) → Ancestry ids name all → all ≡ before ++ at ∷ behind → Ancestry ids at (at ∷ behind)
from_there ids name _ [] at behind (top e) is =
    let head : name ≡ at = cc in
    let tail : [] ≡ behind = cc in
    subst (λ b. Ancestry ids at (at ∷ b)) tail (subst (λ n. Ancestry ids n (n ∷ [])) head (top e))
from_there ids name _ (x ∷ before) at behind (top e) is = let tail : [] ≡ before ++ at ∷ behind = cc in absurd (nothing before tail)
  where
    nothing : (xs : List (List ℕ)) → [] ≡ xs ++ at ∷ behind → ⊥
    nothing [] e = absurd cc
    nothing (y ∷ ys) e = absurd cc
from_there ids name _ [] at behind (up {above = a} {rest = r} e rest) is =
    let head : name ≡ at = cc in
    let tail : r ≡ behind = cc in
    subst (λ b. Ancestry ids at (at ∷ b)) tail (subst (λ n. Ancestry ids n (n ∷ r)) head (up e rest))
from_there ids name _ (x ∷ before) at behind (up {above = a} {rest = r} e rest) is =
    let tail : r ≡ before ++ at ∷ behind = cc in
    from_there ids a r before at behind rest tail

not_again : (ids : Ids) (name above : List ℕ) (done rest : List (List ℕ)) → Ancestry ids name (name ∷ done ++ rest) → Ancestry ids above (done ++ rest) → Among done name → ⊥
not_again ids name above done rest whole upper met =
    let p = parted done name met in
    let split : done ++ rest ≡ p.before ++ name ∷ (p.behind ++ rest) = ap (λ l. l ++ rest) p.is ∙ together p.before (name ∷ p.behind) rest in
    let again = from_there ids above (done ++ rest) p.before name (p.behind ++ rest) upper split in
    let same : name ∷ done ++ rest ≡ name ∷ p.behind ++ rest = ancestry_once ids name (name ∷ done ++ rest) (name ∷ p.behind ++ rest) whole again in
    let tails : done ++ rest ≡ p.behind ++ rest = cc in
    let long : length done + length rest ≡ length p.behind + length rest = sym (length_both done rest) ∙ (ap length tails ∙ length_both p.behind rest) in
    let parts : length done ≡ length p.before + suc (length p.behind) = ap length p.is ∙ length_both p.before (name ∷ p.behind) in
    omega arith

-- ---- so there are no more than classes

module _ (names : List (List ℕ)) where
  apart : (n : ℕ) (x : List ℕ) → slice_get names n ≡ Some x → (ns : List ℕ) (done : List (List ℕ)) → AreNumbersOf names done ns → (Among done x → ⊥) → AllByRecursion (λ m. eqb n m ≡ false) ns
  apart n x there [] done are away = tt
  apart n x there (m ∷ ns) [] are away = absurd cc
  apart n x there (m ∷ ns) (y ∷ done) are away =
      let here : slice_get names m ≡ Some y = cc in
      let rest : map (slice_get names) ns ≡ map Some done = cc in
      (differs (eqb n m) refl here, apart n x there ns done rest (λ met. away (later met)))
    where
      differs : (tested : Bool) → eqb n m ≡ tested → slice_get names m ≡ Some y → tested ≡ false
      differs false e here = refl
      differs true e here =
          let same : n ≡ m = (Decides-eqb n m).0 e in
          let one : x ≡ y = some_is x y (sym there ∙ (ap (slice_get names) same ∙ here)) in
          absurd (away (subst (λ z. Among (y ∷ done) z) (sym one) first))

  distinct : (ids : Ids) (name : List ℕ) (done rest all : List (List ℕ)) (ns : List ℕ) → Ancestry ids name all → all ≡ done ++ rest → AreNumbersOf names done ns → IsDistinct eqb ns
  unfolding IsDistinct
  distinct ids name done rest all [] ancestry is are = tt
  distinct ids name [] rest all (n ∷ ns) ancestry is are = absurd cc
  distinct ids name (x ∷ done) rest _ (n ∷ []) ancestry is are = (tt, tt)
  distinct ids name (x ∷ []) rest _ (n ∷ m ∷ ns) ancestry is are = absurd cc
  distinct ids name (x ∷ y ∷ done) rest _ (n ∷ m ∷ ns) (top e) is are = absurd cc
  distinct ids name (x ∷ y ∷ done) rest _ (n ∷ m ∷ ns) (up {above = a} {rest = r} e upper) is are =
      let here : slice_get names n ≡ Some x = cc in
      let others : map (slice_get names) (m ∷ ns) ≡ map Some (y ∷ done) = cc in
      let head : name ≡ x = cc in
      let tail : r ≡ (y ∷ done) ++ rest = cc in
      let whole : Ancestry ids x (x ∷ (y ∷ done) ++ rest) = subst (λ t. Ancestry ids x (x ∷ t)) tail (subst (λ n. Ancestry ids n (n ∷ r)) head (up e upper)) in
      (apart n x here (m ∷ ns) (y ∷ done) others (not_again ids x a (y ∷ done) rest whole (subst (Ancestry ids a) tail upper)), distinct ids a (y ∷ done) rest r (m ∷ ns) upper tail others)

  within : (ns : List ℕ) (done : List (List ℕ)) → AreNumbersOf names done ns → (q : ℕ) → list_any (eqb q) ns ≡ true → q < length names
  within [] done are q held = absurd cc
  within (n ∷ ns) [] are q held = absurd cc
  within (n ∷ ns) (x ∷ done) are q held =
      let here : slice_get names n ≡ Some x = cc in
      let rest : map (slice_get names) ns ≡ map Some done = cc in
      from (eqb q n) refl held here (λ others. within ns done rest q others)
    where
      from : (tested : Bool) → eqb q n ≡ tested → (tested || list_any (eqb q) ns) ≡ true → slice_get names n ≡ Some x → (list_any (eqb q) ns ≡ true → q < length names) → q < length names
      from true e held here others = let same : q ≡ n = (Decides-eqb q n).0 e in slice_get_within names q x (ap (slice_get names) same ∙ here)
      from false e held here others = others held

  few : (ids : Ids) (name : List ℕ) (done rest : List (List ℕ)) (ns : List ℕ) → Ancestry ids name (done ++ rest) → AreNumbersOf names done ns → length ns ≤ length names
  few ids name done rest ns ancestry are = length-le_from_distinct_below ns (length names) (distinct ids name done rest (done ++ rest) ns ancestry refl are) (within ns done are)

-- ---- the walk

-- what is still above
abbrev pub Left : Linked → List ℕ → List (List ℕ) → Option ℕ → Type 0
Left linked name done None = Ancestry linked.ids.now name done
Left linked name done (Some current) = (at : List ℕ) × (rest : List (List ℕ)) × (slice_get linked.names.now current ≡ Some at) × Ancestry linked.ids.now at rest × Ancestry linked.ids.now name (done ++ rest)

pub record Climbs (linked : Linked) (start : ℕ) (chain : List ℕ) (next : Option ℕ) : Type 0 where
  pub name : List ℕ
  pub there : slice_get linked.names.now start ≡ Some name
  pub done : List (List ℕ)
  pub numbers : AreNumbersOf linked.names.now done chain
  pub left : Left linked name done next

pub climbs_first : (law : ClassesHaveAncestries) (linked : Linked) (start : ℕ) (chain : List ℕ) → IsKnown linked → start < length linked.names.now → chain ≡ [] → Climbs linked start chain (Some start)
climbs_first law linked start chain known below empty =
    let name = get_or linked.names.now start [] in
    let there = slice_get-get_or linked.names.now start [] below in
    let (above, ancestry) = law linked.ids.now linked.classes.now known.sound name in
    record { name = name; there = there; done = []; numbers = ap (map (slice_get linked.names.now)) empty; left = (name, above, there, ancestry, ancestry) }

pub climbs_within : (linked : Linked) (start : ℕ) (chain : List ℕ) (current : ℕ) → Climbs linked start chain (Some current) → current < length linked.names.now
climbs_within linked start chain current climbs =
    let (at, rest, there, upper, whole) = climbs.left in
    slice_get_within linked.names.now current at there

pub climbs_more : (linked : Linked) (start : ℕ) (chain : List ℕ) (current : ℕ) (outline : Outline) → IsKnown linked → slice_get linked.outlines.now current ≡ Some outline → Climbs linked start chain (Some current) →
    Climbs linked start (chain ++ current ∷ []) outline.superclass
climbs_more linked start chain current outline known outlined climbs = from climbs.left
  where
    from : Left linked climbs.name climbs.done (Some current) → Climbs linked start (chain ++ current ∷ []) outline.superclass
    from (at, rest, there, upper, whole) = record {
      name = climbs.name;
      there = climbs.there;
      done = climbs.done ++ at ∷ [];
      numbers = numbers_both linked.names.now climbs.done (at ∷ []) chain (current ∷ []) climbs.numbers (ap (λ n. n ∷ []) there);
      left = further rest upper whole outline.superclass (known.outlines.each current at outline there outlined).superclass;
    }
      where
        further : (rest : List (List ℕ)) → Ancestry linked.ids.now at rest → Ancestry linked.ids.now climbs.name (climbs.done ++ rest) → (next : Option ℕ) → IsNumberOf linked.names.now (superclass_named linked.ids.now at) next →
            Left linked climbs.name (climbs.done ++ at ∷ []) next
        further _ (top e) whole None is = whole
        further _ (top e) whole (Some above) is = absurd (subst (λ s. IsNumberOf linked.names.now s (Some above)) e is)
        further _ (up {above = a} {rest = r} e rest) whole None is = absurd (subst (λ s. IsNumberOf linked.names.now s None) e is)
        further _ (up {above = a} {rest = r} e rest) whole (Some above) is =
            (a, r, subst (λ s. IsNumberOf linked.names.now s (Some above)) e is, rest, subst (Ancestry linked.ids.now climbs.name) (sym (together climbs.done (at ∷ []) r)) whole)

pub climbs_room : (linked : Linked) (start : ℕ) (chain : List ℕ) (current : ℕ) → Climbs linked start chain (Some current) → length chain + 1 ≤ length linked.names.now
climbs_room linked start chain current climbs = from climbs.left
  where
    from : Left linked climbs.name climbs.done (Some current) → length chain + 1 ≤ length linked.names.now
    from (at, rest, there, upper, whole) = further rest upper whole
      where
        bounded : (r : List (List ℕ)) → Ancestry linked.ids.now climbs.name (climbs.done ++ at ∷ r) → length chain + 1 ≤ length linked.names.now
        bounded r whole =
            let numbers = numbers_both linked.names.now climbs.done (at ∷ []) chain (current ∷ []) climbs.numbers (ap (λ n. n ∷ []) there) in
            let at_most = few linked.names.now linked.ids.now climbs.name (climbs.done ++ at ∷ []) r (chain ++ current ∷ []) (subst (Ancestry linked.ids.now climbs.name) (sym (together climbs.done (at ∷ []) r)) whole) numbers in
            let long : length (chain ++ current ∷ []) ≡ length chain + 1 = length_both chain (current ∷ []) in
            omega arith

        further : (rest : List (List ℕ)) → Ancestry linked.ids.now at rest → Ancestry linked.ids.now climbs.name (climbs.done ++ rest) → length chain + 1 ≤ length linked.names.now
        further _ (top e) whole = bounded [] whole
        further _ (up {above = a} {rest = r} e rest) whole = bounded r whole

pub climbs_all : (linked : Linked) (start : ℕ) (chain : List ℕ) (next : Option ℕ) → next ≡ None → Climbs linked start chain next → AreAncestors linked start chain
climbs_all linked start chain next is climbs = record {
  name = climbs.name;
  there = climbs.there;
  above = climbs.done;
  ancestry = subst (Left linked climbs.name climbs.done) is climbs.left;
  numbers = climbs.numbers;
}

-- what a class of a row's type has above it
pub named_there : (linked : Linked) (class : ℕ) (chain : List ℕ) (type stated : ℕ) → stated ≡ type → slice_get linked.names.now class ≡ Some (type_name linked.ids.now type) → (a : AreAncestors linked class chain) →
    Ancestry linked.ids.now (type_name linked.ids.now stated) a.above
named_there linked class chain type stated same there a =
    subst (λ name. Ancestry linked.ids.now name a.above) (some_is a.name (type_name linked.ids.now stated) (sym a.there ∙ (there ∙ ap (λ t. Some (type_name linked.ids.now t)) (sym same)))) a.ancestry
