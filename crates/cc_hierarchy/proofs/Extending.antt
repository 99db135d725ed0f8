-- Superclasses and interfaces of definitions.
use Rattle.std.proofs.Common.{◌≡◌, ◌⊎◌, inl, inr, ℕ, ◌+◌, ◌<◌, ◌≤◌, Bool, List, [], ◌∷◌, ◌++◌, length, get_or, take, Option, Some, None, slice_get, refl, ap, subst, sym, ◌∙◌, arith}
use Rattle.std.specs.Prelude.{◌↔◌, IsTrue, Contains}
use Rattle.std.specs.Str.{bytes_eq}
use Rattle.std.proofs.lemmas.List.Elements.{Contains-append_left, Contains-push, Contains-push_cases}
use Rattle.std.proofs.lemmas.Slice.Eq.{bytes_eq-Decides}
use Rattle.std.proofs.lemmas.Option.{slice_get_within, slice_get_cases, slice_get_read, get_or_from_slice_get}
use Rattle.std.proofs.lemmas.Bool.{cases_lt}
use Rattle.std.proofs.lemmas.List.{get_or_append_left, get_or_push, length_push}
use Rattle.cc_meaning.specs.declared.file.ClassRow.{ClassRow}
use Rattle.cc_meaning.specs.declared.file.Ids.{Ids}
use Rattle.cc_meaning_program.specs.Named.{type_name}
use Rattle.cc_meaning_program.specs.Definitions.{Defines, IsInterface, is_interface, Extends, Implements, IsAbove, next, further}
use Rattle.cc_meaning_program.specs.ClassFaults.{HasNoSuperclass, LacksSuperclass}
use Rattle.cc_hierarchy.specs.Graphs.{HasEdge, Reaches, edge, onward, IsWhole}
use Rattle.cc_hierarchy.specs.Indexes.{IsFirstOf}
use Rattle.cc_hierarchy.specs.Judging.{HasOneEach, IsNextAbove, superclass, interface, ShowsAbove}
use Rattle.cc_hierarchy.proofs.Defining.{defines_within}
use Rattle.cc_hierarchy.proofs.Searching.{taken_cases, taken_old, taken_new, nothing_held}

-- ---- superclasses that can't be ones

pub interface_defines : (ids : Ids) (name : List ℕ) (is : IsInterface ids name) → Defines ids is.number name
interface_defines ids name is = record { stated = is.stated; there = is.there; named = is.named }

pub interface_iff : (ids : Ids) (name : List ℕ) (number : ℕ) (stated : ClassRow) (flag : Bool) → HasOneEach ids → Defines ids number name → slice_get ids.classes number ≡ Some stated → flag ≡ is_interface stated →
    IsTrue flag ↔ IsInterface ids name
interface_iff ids name number stated flag distinct d there is = (
  λ holds. record { number = number; stated = stated; there = there; named = ap (λ s. type_name ids s.class) (sym same) ∙ d.named; flagged = sym is ∙ holds },
  λ i.
      let one : i.number ≡ number = distinct i.number number name (interface_defines ids name i) d in
      let both : Some i.stated ≡ Some stated = sym (subst (λ n. slice_get ids.classes n ≡ Some i.stated) one i.there) ∙ there in
      let alike : i.stated ≡ stated = cc in
      is ∙ ap is_interface (sym alike) ∙ i.flagged,
)
  where
    same : d.stated ≡ stated
    same = let both : Some d.stated ≡ Some stated = sym d.there ∙ there in cc

pub spelled_iff : (name text known : List ℕ) (found : Bool) → found ≡ bytes_eq text name → text ≡ known → IsTrue found ↔ (name ≡ known)
spelled_iff name text known found is spells = (
  λ holds. sym ((bytes_eq-Decides text name).0 (sym is ∙ holds)) ∙ spells,
  λ same. is ∙ (bytes_eq-Decides text name).1 (spells ∙ sym same),
)

-- ---- definitions next above

pub added_iff : (ids : Ids) (name given : List ℕ) (first : ℕ) (old new : List ℕ) → HasOneEach ids → given ≡ name → IsFirstOf ids given first → new ≡ old ++ first ∷ [] → (number : ℕ) → Contains new number ↔ (Contains old number ⊎ Defines ids number name)
added_iff ids name given first old new distinct called is grown number = (
  λ held. elim (Contains-push_cases old first number (subst (λ xs. Contains xs number) grown held)) [ inl was ↦ inl was | inr same ↦ inr (subst (λ n. Defines ids n name) same defines) ],
  λ either. subst (λ xs. Contains xs number) (sym grown) (back either),
)
  where
    defines : Defines ids first name
    defines = subst (λ n. Defines ids first n) called is.defines

    back : Contains old number ⊎ Defines ids number name → Contains (old ++ first ∷ []) number
    back (inl was) = Contains-append_left old (first ∷ []) number was
    back (inr d) = subst (λ n. Contains (old ++ first ∷ []) n) (distinct first number name defines d) (Contains-push old first)

pub unadded_iff : (ids : Ids) (name given : List ℕ) (old : List ℕ) → given ≡ name → ((number : ℕ) → ¬ Defines ids number given) → (number : ℕ) → Contains old number ↔ (Contains old number ⊎ Defines ids number name)
unadded_iff ids name given old called none number = (
  λ held. inl held,
  λ either. elim either [ inl was ↦ was | inr d ↦ absurd (none number (subst (λ n. Defines ids number n) (sym called) d)) ],
)

abbrev pub BySuperclass : Ids → Option ℕ → ℕ → Type 0
BySuperclass ids stated number = (ty : ℕ) × (stated ≡ Some ty) × Defines ids number (type_name ids ty)

pub superclass_iff : (ids : Ids) (stated : Option ℕ) (ty : ℕ) (nothing above : List ℕ) → stated ≡ Some ty → nothing ≡ [] → ((number : ℕ) → Contains above number ↔ (Contains nothing number ⊎ Defines ids number (type_name ids ty))) →
    (number : ℕ) → Contains above number ↔ BySuperclass ids stated number
superclass_iff ids stated ty nothing above is empty added number = (
  λ held. elim ((added number).0 held) [ inl was ↦ absurd (nothing_held number (subst (λ xs. Contains xs number) empty was)) | inr d ↦ (ty, is, d) ],
  λ by.
      let both : Some by.0 ≡ Some ty = sym by.1 ∙ is in
      let same : by.0 ≡ ty = cc in
      (added number).1 (inr (subst (λ t. Defines ids number (type_name ids t)) same by.2)),
)

pub no_superclass_iff : (ids : Ids) (stated : Option ℕ) (nothing : List ℕ) → stated ≡ None → nothing ≡ [] → (number : ℕ) → Contains nothing number ↔ BySuperclass ids stated number
no_superclass_iff ids stated nothing is empty number = (
  λ held. absurd (nothing_held number (subst (λ xs. Contains xs number) empty held)),
  λ by. absurd (let both : Some by.0 ≡ None = sym by.1 ∙ is in cc),
)

abbrev pub ByInterface : Ids → List ℕ → ℕ → Type 0
ByInterface ids interfaces number = (ty : ℕ) × Contains interfaces ty × Defines ids number (type_name ids ty)

pub interfaces_more : (ids : Ids) (stated : Option ℕ) (interfaces : List ℕ) (i : ℕ) (old new : List ℕ) → i < length interfaces →
    ((number : ℕ) → Contains old number ↔ (BySuperclass ids stated number ⊎ ByInterface ids (take i interfaces) number)) →
    ((number : ℕ) → Contains new number ↔ (Contains old number ⊎ Defines ids number (type_name ids (get_or interfaces i 0)))) →
    (number : ℕ) → Contains new number ↔ (BySuperclass ids stated number ⊎ ByInterface ids (take (i + 1) interfaces) number)
interfaces_more ids stated interfaces i old new within so_far added number = (λ held. forth ((added number).0 held), back)
  where
    grown : BySuperclass ids stated number ⊎ ByInterface ids (take i interfaces) number → BySuperclass ids stated number ⊎ ByInterface ids (take (i + 1) interfaces) number
    grown (inl a) = inl a
    grown (inr (ty, held, d)) = inr (ty, taken_old interfaces i 0 ty within held, d)

    forth : Contains old number ⊎ Defines ids number (type_name ids (get_or interfaces i 0)) → BySuperclass ids stated number ⊎ ByInterface ids (take (i + 1) interfaces) number
    forth (inl was) = grown ((so_far number).0 was)
    forth (inr d) = inr (get_or interfaces i 0, taken_new interfaces i 0 within, d)

    last : (ty : ℕ) → Defines ids number (type_name ids ty) → Contains (take i interfaces) ty ⊎ (ty ≡ get_or interfaces i 0) → Contains new number
    last ty d (inl was) = (added number).1 (inl ((so_far number).1 (inr (ty, was, d))))
    last ty d (inr same) = (added number).1 (inr (subst (λ t. Defines ids number (type_name ids t)) same d))

    back : BySuperclass ids stated number ⊎ ByInterface ids (take (i + 1) interfaces) number → Contains new number
    back (inl a) = (added number).1 (inl ((so_far number).1 (inl a)))
    back (inr (ty, held, d)) = last ty d (taken_cases interfaces i 0 ty within held)

pub next_above_iff : (ids : Ids) (stated : ClassRow) (above interfaces : List ℕ) → interfaces ≡ stated.interfaces → ((number : ℕ) → Contains above number ↔ (BySuperclass ids stated.superclass number ⊎ ByInterface ids interfaces number)) →
    (number : ℕ) → Contains above number ↔ IsNextAbove ids stated number
next_above_iff ids stated above interfaces are all number = (λ held. forth ((all number).0 held), λ is. (all number).1 (back is))
  where
    forth : BySuperclass ids stated.superclass number ⊎ ByInterface ids interfaces number → IsNextAbove ids stated number
    forth (inl (ty, is, d)) = superclass is d
    forth (inr (ty, held, d)) = interface (subst (λ xs. Contains xs ty) are held) d

    back : IsNextAbove ids stated number → BySuperclass ids stated.superclass number ⊎ ByInterface ids interfaces number
    back (superclass {type = ty} is d) = inl (ty, is, d)
    back (interface {type = ty} held d) = inr (ty, subst (λ xs. Contains xs ty) (sym are) held, d)

-- ---- the graph

module _ (ids : Ids) (graph : List (List ℕ)) (shows : ShowsAbove ids graph) where
  pub edge_above : (from to : ℕ) → HasEdge graph from to → Extends ids from to ⊎ Implements ids from to
  edge_above from to e = at (slice_get_cases ids.classes from).1
    where
      is_next : (stated : ClassRow) → slice_get ids.classes from ≡ Some stated → IsNextAbove ids stated to → Extends ids from to ⊎ Implements ids from to
      is_next stated there (superclass {type = ty} is d) = inl (record { stated = stated; there = there; type = ty; extended = is; defined = d })
      is_next stated there (interface {type = ty} held d) = inr (record { stated = stated; there = there; type = ty; implemented = held; defined = d })

      at : ((x : ClassRow) × (from < length ids.classes) × (slice_get ids.classes from ≡ Some x) × (get_or ids.classes from x ≡ x)) ⊎ ((length ids.classes ≤ from) × (slice_get ids.classes from ≡ None)) → Extends ids from to ⊎ Implements ids from to
      at (inl (x, inside, there, same)) = is_next x there ((shows.rows from x e.targets there e.there to).0 e.leads)
      at (inr (past, none)) = absurd (let within : from < length graph = slice_get_within graph from e.targets e.there in omega (arith, within, shows.wide))

  above_edge : (from to : ℕ) (stated : ClassRow) → slice_get ids.classes from ≡ Some stated → IsNextAbove ids stated to → HasEdge graph from to
  above_edge from to stated there is = at (slice_get_cases graph from).1
    where
      at : ((x : List ℕ) × (from < length graph) × (slice_get graph from ≡ Some x) × (get_or graph from x ≡ x)) ⊎ ((length graph ≤ from) × (slice_get graph from ≡ None)) → HasEdge graph from to
      at (inl (x, inside, row, same)) = record { targets = x; there = row; leads = (shows.rows from stated x there row to).1 is }
      at (inr (past, none)) = absurd (let within : from < length ids.classes = slice_get_within ids.classes from stated there in omega (arith, within, shows.wide))

  pub edge_of : (from to : ℕ) → Extends ids from to ⊎ Implements ids from to → HasEdge graph from to
  edge_of from to (inl e) = above_edge from to e.stated e.there (superclass e.extended e.defined)
  edge_of from to (inr e) = above_edge from to e.stated e.there (interface e.implemented e.defined)

  pub graph_whole : IsWhole graph
  graph_whole from to e = elim (edge_above from to e) [
    | inl up ↦ omega (arith, defines_within ids to (type_name ids up.type) up.defined, shows.wide)
    | inr up ↦ omega (arith, defines_within ids to (type_name ids up.type) up.defined, shows.wide)
  ]

  pub above_from : (from to : ℕ) → Reaches graph from to → IsAbove ids from to
  above_from from to (edge e) = next (edge_above from to e)
  above_from from to (onward {next = mid} e way) = further (edge_above from mid e) (above_from mid to way)

  pub reaches_from : (from to : ℕ) → IsAbove ids from to → Reaches graph from to
  reaches_from from to (next up) = edge (edge_of from to up)
  reaches_from from to (further {above = mid} up rest) = onward (edge_of from mid up) (reaches_from mid to rest)

-- ---- lists of definitions

pub not_lacking : (ids : Ids) (number : ℕ) (stated : ClassRow) → slice_get ids.classes number ≡ Some stated → ¬ HasNoSuperclass ids stated.superclass → ¬ LacksSuperclass ids number
not_lacking ids number stated there has l =
    let both : Some l.stated ≡ Some stated = sym l.there ∙ there in
    let same : l.stated ≡ stated = cc in
    has (subst (λ (s : ClassRow). HasNoSuperclass ids s.superclass) same l.lacks)

pub lacking_within : (ids : Ids) (number : ℕ) → LacksSuperclass ids number → number < length ids.classes
lacking_within ids number l = slice_get_within ids.classes number l.stated l.there

pub interfaces_none : (ids : Ids) (stated : Option ℕ) (above : List ℕ) → ((number : ℕ) → Contains above number ↔ BySuperclass ids stated number) → (number : ℕ) → Contains above number ↔ (BySuperclass ids stated number ⊎ ByInterface ids [] number)
interfaces_none ids stated above all number = (
  λ held. inl ((all number).0 held),
  λ either. elim either [ inl by ↦ (all number).1 by | inr none ↦ absurd (nothing_held none.0 none.1) ],
)

-- the rows of the first definitions
pub record ShownTo (ids : Ids) (graph : List (List ℕ)) (n : ℕ) : Type 0 where
  pub wide : length graph ≡ n
  pub rows : (number : ℕ) (stated : ClassRow) (row : List ℕ) → slice_get ids.classes number ≡ Some stated → slice_get graph number ≡ Some row → (above : ℕ) → Contains row above ↔ IsNextAbove ids stated above

pub shown_none : (ids : Ids) (graph : List (List ℕ)) → graph ≡ [] → ShownTo ids graph 0
shown_none ids graph empty = record {
  wide = ap length empty;
  rows = λ number stated row there is. absurd (let within : number < length graph = slice_get_within graph number row is in omega (arith, within, ap length empty));
}

pub shown_more : (ids : Ids) (graph new : List (List ℕ)) (n : ℕ) (stated : ClassRow) (row : List ℕ) → ShownTo ids graph n → slice_get ids.classes n ≡ Some stated → new ≡ graph ++ row ∷ [] →
    ((above : ℕ) → Contains row above ↔ IsNextAbove ids stated above) → ShownTo ids new (n + 1)
shown_more ids graph new n stated row shown there grown all = record {
  wide = ap length grown ∙ length_push graph row ∙ ap (λ k. k + 1) shown.wide;
  rows = λ number other found is got above. at number other found is got above (cases_lt number n);
}
  where
    at : (number : ℕ) (other : ClassRow) (found : List ℕ) → slice_get ids.classes number ≡ Some other → slice_get new number ≡ Some found → (above : ℕ) → (number < n) ⊎ (n ≤ number) → Contains found above ↔ IsNextAbove ids other above
    at number other found is got above (inl less) =
        let inside : number < length graph = omega (arith, shown.wide) in
        let read : get_or new number found ≡ found = get_or_from_slice_get new number found found got in
        let same : found ≡ get_or graph number found = sym read ∙ ap (λ g. get_or g number found) grown ∙ get_or_append_left graph (row ∷ []) found number inside in
        shown.rows number other found is (slice_get_read graph (length graph) number found refl inside same) above
    at number other found is got above (inr high) =
        let within : number < length new = slice_get_within new number found got in
        let e : n ≡ number = omega (arith, within, ap length grown ∙ length_push graph row, shown.wide) in
        let read : get_or new number found ≡ found = get_or_from_slice_get new number found found got in
        let same : row ≡ found = sym (get_or_push graph row found number (shown.wide ∙ e)) ∙ ap (λ g. get_or g number found) (sym grown) ∙ read in
        let both : Some stated ≡ Some other = sym there ∙ ap (slice_get ids.classes) e ∙ is in
        let alike : stated ≡ other = cc in
        subst (λ r. Contains r above ↔ IsNextAbove ids other above) same (subst (λ s. Contains row above ↔ IsNextAbove ids s above) alike (all above))

pub shown_all : (ids : Ids) (graph : List (List ℕ)) (n : ℕ) → n ≡ length ids.classes → ShownTo ids graph n → ShowsAbove ids graph
shown_all ids graph n all shown = record { wide = shown.wide ∙ all; rows = shown.rows }
