-- Laws on the faults of a file's classes and on their hierarchy.
use Rattle.std.proofs.Common.{◌≡◌, ◌≢◌, ◌⊎◌, inl, inr, ℕ, zero, suc, ◌<◌, ◌≤◌, true, false, List, [], ◌∷◌, length, get_or, Bool, Option, Some, None, slice_get, refl, ap, subst, sym, ◌∙◌, arith}
use Rattle.std.specs.Str.{bytes_eq}
use Rattle.std.proofs.lemmas.Bool.{cases_lt}
use Rattle.std.proofs.lemmas.Option.{slice_get_within, slice_get_cases}
use Rattle.std.proofs.lemmas.Slice.Eq.{bytes_eq-Decides}
use Rattle.cc_meaning.specs.declared.fault.ProgramFault.TheVariants as faults
use Rattle.cc_meaning.specs.declared.file.ClassRow.{ClassRow}
use Rattle.cc_meaning.specs.declared.file.Ids.{Ids}
use Rattle.cc_meaning.specs.declared.file.RawClass.{RawClass}
use Rattle.cc_meaning_program.specs.Named.{type_name}
use Rattle.cc_meaning_program.specs.Definitions.{Defines, Extends, Implements, IsAbove, next, further}
use Rattle.cc_meaning_program.specs.ClassFaults.{NamesFirst, AreSound, OneClassFault, SoundClassesHaveNoFault}
use Rattle.cc_meaning_program.specs.Climbing.{Leaves, out, up, SoundClassesLeave}

-- ---- faults

same_stated : (ids : Ids) (number : ℕ) (a b : List ℕ) → Defines ids number a → Defines ids number b → a ≡ b
same_stated ids number a b this that =
    let both : Some this.stated ≡ Some that.stated = sym this.there ∙ that.there in
    let same : this.stated ≡ that.stated = cc in
    sym this.named ∙ ap (λ (s : ClassRow). type_name ids s.class) same ∙ that.named

same_first : (ids : Ids) (is_so : ℕ → Type 0) (a b : List ℕ) → NamesFirst ids is_so a → NamesFirst ids is_so b → a ≡ b
same_first ids is_so a b this that = from (cases_lt this.number that.number) (cases_lt that.number this.number)
  where
    from : (this.number < that.number) ⊎ (that.number ≤ this.number) → (that.number < this.number) ⊎ (this.number ≤ that.number) → a ≡ b
    from (inl less) other = absurd (that.before this.number less this.so)
    from (inr high) (inl less) = absurd (this.before that.number less that.so)
    from (inr high) (inr low) =
        let e : that.number ≡ this.number = omega arith in
        same_stated ids this.number a b this.named (subst (λ n. Defines ids n b) e that.named)

pub one_fault : OneClassFault
one_fault ids classes (faults.Duplicate a) (faults.Duplicate b) this that = ap faults.Duplicate (same_first ids _ a b this that)
one_fault ids classes (faults.Duplicate a) (faults.NoSuperclass b) this that = absurd (that.0 this.number this.so)
one_fault ids classes (faults.Duplicate a) (faults.HierarchyCycle b) this that = absurd (that.0 this.number this.so)
one_fault ids classes (faults.NoSuperclass a) (faults.Duplicate b) this that = absurd (this.0 that.number that.so)
one_fault ids classes (faults.NoSuperclass a) (faults.NoSuperclass b) this that = ap faults.NoSuperclass (same_first ids _ a b this.1 that.1)
one_fault ids classes (faults.NoSuperclass a) (faults.HierarchyCycle b) this that = absurd (that.1 this.1.number this.1.so)
one_fault ids classes (faults.HierarchyCycle a) (faults.Duplicate b) this that = absurd (this.0 that.number that.so)
one_fault ids classes (faults.HierarchyCycle a) (faults.NoSuperclass b) this that = absurd (this.1 that.1.number that.1.so)
one_fault ids classes (faults.HierarchyCycle a) (faults.HierarchyCycle b) this that = ap faults.HierarchyCycle (same_first ids _ a b this.2 that.2)
one_fault ids classes (faults.Duplicate a) other this that = absurd that
one_fault ids classes (faults.NoSuperclass a) other this that = absurd that
one_fault ids classes (faults.HierarchyCycle a) other this that = absurd that
one_fault ids classes first other this that = absurd this

pub no_fault : SoundClassesHaveNoFault
no_fault ids classes (faults.Duplicate name) sound fault = sound.distinct fault.number fault.so
no_fault ids classes (faults.NoSuperclass name) sound fault = sound.extended fault.1.number fault.1.so
no_fault ids classes (faults.HierarchyCycle name) sound fault = sound.ordered fault.2.number fault.2.so
no_fault ids classes other sound fault = fault

-- ---- going up

-- a number stands in a list
data Among : List ℕ → ℕ → Type 0 where
  first : {x : ℕ} {xs : List ℕ} → Among (x ∷ xs) x
  later : {x y : ℕ} {xs : List ℕ} → Among xs x → Among (y ∷ xs) x

-- a list without one element
abbrev Without : List ℕ → ℕ → Type 0
Without all left_out = (rest : List ℕ) × (length all ≡ suc (length rest)) × ((other : ℕ) → other ≢ left_out → Among all other → Among rest other)

tail_has : (x : ℕ) (xs : List ℕ) (other : ℕ) → other ≢ x → Among (x ∷ xs) other → Among xs other
tail_has x xs other apart first = absurd (apart refl)
tail_has x xs other apart (later is) = is

without : (all : List ℕ) (x : ℕ) → Among all x → Without all x
without [] x is = elim is [ ]
without (y ∷ xs) x first = (xs, refl, λ other apart is. tail_has y xs other apart is)
without (y ∷ xs) x (later is) = from (without xs x is)
  where
    keep : (rest : List ℕ) → ((other : ℕ) → other ≢ x → Among xs other → Among rest other) → (other : ℕ) → other ≢ x → Among (y ∷ xs) other → Among (y ∷ rest) other
    keep rest kept other apart first = first
    keep rest kept other apart (later is) = later (kept other apart is)

    from : Without xs x → Without (y ∷ xs) x
    from (rest, long, kept) = (y ∷ rest, ap suc long, keep rest kept)

-- the numbers below one
below : ℕ → List ℕ
below zero = []
below (suc n) = n ∷ below n

length_below : (n : ℕ) → length (below n) ≡ n
unfolding below
length_below zero = refl
length_below (suc n) = ap suc (length_below n)

below_has : (n number : ℕ) → number < n → Among (below n) number
unfolding below
below_has zero number less = absurd (omega arith)
below_has (suc n) number less = from (λ inside. below_has n number inside) (cases_lt number n)
  where
    from : (number < n → Among (below n) number) → (number < n) ⊎ (n ≤ number) → Among (n ∷ below n) number
    from lower (inl inside) = later (lower inside)
    from lower (inr last) = let e : n ≡ number = omega arith in subst (λ k. Among (k ∷ below n) number) (sym e) first

defines_within : (ids : Ids) (number : ℕ) (name : List ℕ) → Defines ids number name → number < length ids.classes
defines_within ids number name d = slice_get_within ids.classes number d.stated d.there

step_within : (ids : Ids) (from to : ℕ) → Extends ids from to ⊎ Implements ids from to → to < length ids.classes
step_within ids from to (inl e) = defines_within ids to (type_name ids e.type) e.defined
step_within ids from to (inr e) = defines_within ids to (type_name ids e.type) e.defined

above_within : (ids : Ids) (from to : ℕ) → IsAbove ids from to → to < length ids.classes
above_within ids from to (next step) = step_within ids from to step
above_within ids from to (further {above = mid} step rest) = above_within ids mid to rest

-- ---- whether there is a class above

alike_or_not : (a b : List ℕ) → (a ≡ b) ⊎ (a ≢ b)
alike_or_not a b = from (bytes_eq a b) refl
  where
    from : (same : Bool) → bytes_eq a b ≡ same → (a ≡ b) ⊎ (a ≢ b)
    from true is = inl ((bytes_eq-Decides a b).0 is)
    from false is = inr (λ e. let both : false ≡ true = sym is ∙ (bytes_eq-Decides a b).1 e in cc)

abbrev DefinedOrNot : Ids → List ℕ → Type 0
DefinedOrNot ids name = ((number : ℕ) × Defines ids number name) ⊎ ((number : ℕ) → ¬ Defines ids number name)

here_or_not : (ids : Ids) (name : List ℕ) (number : ℕ) → Defines ids number name ⊎ (¬ Defines ids number name)
here_or_not ids name number = from (slice_get_cases ids.classes number).1
  where
    named : (x : ClassRow) → slice_get ids.classes number ≡ Some x → (type_name ids x.class ≡ name) ⊎ (type_name ids x.class ≢ name) → Defines ids number name ⊎ (¬ Defines ids number name)
    named x there (inl same) = inl (record { stated = x; there = there; named = same })
    named x there (inr apart) = inr (λ d.
        let both : Some d.stated ≡ Some x = sym d.there ∙ there in
        let alike : d.stated ≡ x = cc in
        apart (ap (λ (s : ClassRow). type_name ids s.class) (sym alike) ∙ d.named))

    from : ((x : ClassRow) × (number < length ids.classes) × (slice_get ids.classes number ≡ Some x) × (get_or ids.classes number x ≡ x)) ⊎ ((length ids.classes ≤ number) × (slice_get ids.classes number ≡ None)) → Defines ids number name ⊎ (¬ Defines ids number name)
    from (inl (x, inside, there, same)) = named x there (alike_or_not (type_name ids x.class) name)
    from (inr (past, none)) = inr (λ d. let within : number < length ids.classes = defines_within ids number name d in omega arith)

below_or_not : (ids : Ids) (name : List ℕ) (n : ℕ) → ((number : ℕ) × Defines ids number name) ⊎ ((number : ℕ) → number < n → ¬ Defines ids number name)
below_or_not ids name zero = inr (λ number less. absurd (omega arith))
below_or_not ids name (suc n) = from (below_or_not ids name n) (here_or_not ids name n)
  where
    from : ((number : ℕ) × Defines ids number name) ⊎ ((number : ℕ) → number < n → ¬ Defines ids number name) → Defines ids n name ⊎ (¬ Defines ids n name) →
        ((number : ℕ) × Defines ids number name) ⊎ ((number : ℕ) → number < suc n → ¬ Defines ids number name)
    from (inl found) here = inl found
    from (inr none) (inl d) = inl (n, d)
    from (inr none) (inr not) = inr (λ number less d. cases number d (cases_lt number n) less)
      where
        cases : (number : ℕ) → Defines ids number name → (number < n) ⊎ (n ≤ number) → number < suc n → ⊥
        cases number d (inl inside) less = none number inside d
        cases number d (inr last) less =
            let e : number ≡ n = omega arith in
            not (subst (λ k. Defines ids k name) e d)

defined_or_not : (ids : Ids) (name : List ℕ) → DefinedOrNot ids name
defined_or_not ids name = from (below_or_not ids name (length ids.classes))
  where
    from : ((number : ℕ) × Defines ids number name) ⊎ ((number : ℕ) → number < length ids.classes → ¬ Defines ids number name) → DefinedOrNot ids name
    from (inl found) = inl found
    from (inr none) = inr (λ number d. none number (defines_within ids number name d) d)

abbrev ExtendsOrNot : Ids → ℕ → Type 0
ExtendsOrNot ids number = ((above : ℕ) × Extends ids number above) ⊎ ((above : ℕ) → ¬ Extends ids number above)

extends_or_not : (ids : Ids) (number : ℕ) (name : List ℕ) → Defines ids number name → ExtendsOrNot ids number
extends_or_not ids number name d = from d.stated.superclass refl
  where
    same : (above : ℕ) (e : Extends ids number above) → e.stated ≡ d.stated
    same above e = let both : Some e.stated ≡ Some d.stated = sym e.there ∙ d.there in cc

    defined : (type : ℕ) → d.stated.superclass ≡ Some type → DefinedOrNot ids (type_name ids type) → ExtendsOrNot ids number
    defined type is (inl (above, there)) = inl (above, record { stated = d.stated; there = d.there; type = type; extended = is; defined = there })
    defined type is (inr none) = inr (λ above e.
        let both : Some e.type ≡ Some type = sym e.extended ∙ ap (λ (s : ClassRow). s.superclass) (same above e) ∙ is in
        let alike : e.type ≡ type = cc in
        none above (subst (λ t. Defines ids above (type_name ids t)) alike e.defined))

    from : (superclass : Option ℕ) → d.stated.superclass ≡ superclass → ExtendsOrNot ids number
    from None is = inr (λ above e. let both : Some e.type ≡ None = sym e.extended ∙ ap (λ (s : ClassRow). s.superclass) (same above e) ∙ is in cc)
    from (Some type) is = defined type is (defined_or_not ids (type_name ids type))

-- ---- the law

-- whoever is above leaves the file too, by so many steps
abbrev Higher : Ids → ℕ → Type 0
Higher ids n = (rest : List ℕ) → length rest ≡ n → (above : ℕ) (called : List ℕ) → Defines ids above called → ((top : ℕ) → (top ≡ above) ⊎ IsAbove ids above top → Among rest top) → Leaves ids n above

climb : (ids : Ids) (classes : List RawClass) → AreSound ids classes → (n : ℕ) (all : List ℕ) → length all ≡ n → (number : ℕ) (name : List ℕ) → Defines ids number name →
    ((top : ℕ) → (top ≡ number) ⊎ IsAbove ids number top → Among all top) → Leaves ids n number
climb ids classes sound zero all long number name d has = absurd (empty all (has number (inl refl)) long)
  where
    empty : (xs : List ℕ) → Among xs number → length xs ≡ 0 → ⊥
    empty [] is none = elim is [ ]
    empty (x ∷ xs) is none = omega arith
climb ids classes sound (suc n) all long number name d has = from (λ rest less above called e within. climb ids classes sound n rest less above called e within)
    (extends_or_not ids number name d) (without all number (has number (inl refl)))
  where
    above_too : (above top : ℕ) → Extends ids number above → (top ≡ above) ⊎ IsAbove ids above top → IsAbove ids number top
    above_too above top e (inl same) = subst (λ t. IsAbove ids number t) (sym same) (next (inl e))
    above_too above top e (inr higher) = further (inl e) higher

    from : Higher ids n → ExtendsOrNot ids number → Without all number → Leaves ids (suc n) number
    from higher (inr none) rest = out none
    from higher (inl (above, e)) (rest, longer, kept) = up e (higher rest (omega (arith, long)) above (type_name ids e.type) e.defined (λ top is.
        kept top (λ same. sound.ordered number (subst (λ t. IsAbove ids number t) same (above_too above top e is))) (has top (inr (above_too above top e is)))))

pub leaves : SoundClassesLeave
leaves ids classes sound number name d = climb ids classes sound (length ids.classes) (below (length ids.classes)) (length_below (length ids.classes)) number name d has
  where
    has : (top : ℕ) → (top ≡ number) ⊎ IsAbove ids number top → Among (below (length ids.classes)) top
    has top (inl same) = below_has (length ids.classes) top (let within : number < length ids.classes = defines_within ids number name d in omega arith)
    has top (inr higher) = below_has (length ids.classes) top (above_within ids number top higher)
