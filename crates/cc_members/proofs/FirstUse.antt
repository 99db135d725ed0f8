-- The first use of a member stands in the first instruction that names it.
use Rattle.std.proofs.Common.{◌≡◌, ◌⊎◌, inl, inr, ℕ, suc, List, [], ◌∷◌, ◌++◌, length, Some, refl, sym, ap, subst, ◌∙◌, arith}
use Rattle.std.specs.Prelude.{Contains}
use Rattle.cc_meaning.specs.declared.file.Ids.{Ids}
use Rattle.cc_meaning.specs.declared.file.RawClass.{RawClass}
use Rattle.cc_meaning.specs.declared.instruction.Insn.{Insn}
use Rattle.cc_meaning.specs.declared.instruction.Insn.TheVariants as insn
use Rattle.cc_meaning.specs.declared.instruction.MethodRef.{MethodRef}
use Rattle.cc_meaning.specs.declared.instruction.MethodRef.TheVariants as method
use Rattle.cc_meaning.specs.declared.instruction.TypeRef.{TypeRef}
use Rattle.cc_meaning.specs.declared.instruction.TypeRef.TheVariants as type
use Rattle.cc_meaning.specs.declared.program.Placed.{Placed}
use Rattle.cc_meaning_program.specs.declared.reference.Reference.TheVariants as reference
use Rattle.cc_meaning_program.specs.References.{reference_of, named_type, named_method}
use Rattle.cc_meaning_program.specs.Members.{how_invoked}
use Rattle.cc_meaning_program.specs.Naming.{RowNamesMethod, RowNamesField, NamesMethod, NamesField}
use Rattle.cc_meaning_program.specs.Searches.{First}
use Rattle.cc_meaning_program.specs.Uses.{method_use_of, field_use_of, method_uses_of, field_uses_of}
use Rattle.cc_meaning_program.specs.declared.uses.MethodUse.{MethodUse}

-- ---- what an instruction uses

abbrev UsesField : Insn → Type 0
UsesField i = ((row : ℕ) × (field_use_of i ≡ row ∷ []) × (reference_of i ≡ Some (reference.Field row))) ⊎ ((field_use_of i ≡ []) × ((row : ℕ) → reference_of i ≡ Some (reference.Field row) → ⊥))

abbrev UsesMethod : Insn → Type 0
UsesMethod i =
    ((used : MethodUse) × (method_use_of i ≡ used ∷ []) × (reference_of i ≡ Some (reference.Method used.row)) × (how_invoked i ≡ Some used.how))
    ⊎ ((method_use_of i ≡ []) × ((row : ℕ) → reference_of i ≡ Some (reference.Method row) → ⊥))

type_is_no_field : (named : TypeRef) (row : ℕ) → named_type named ≡ Some (reference.Field row) → ⊥
unfolding named_type
type_is_no_field (type.Row other) row e = cc
type_is_no_field (type.Known known) row e = cc

type_is_no_method : (named : TypeRef) (row : ℕ) → named_type named ≡ Some (reference.Method row) → ⊥
unfolding named_type
type_is_no_method (type.Row other) row e = cc
type_is_no_method (type.Known known) row e = cc

method_is_no_field : (named : MethodRef) (row : ℕ) → named_method named ≡ Some (reference.Field row) → ⊥
unfolding named_method
method_is_no_field (method.Row other) row e = cc
method_is_no_field (method.Known class known) row e = cc

uses_field : (i : Insn) → UsesField i
unfolding field_use_of reference_of
uses_field (insn.FieldGet kind to object field) = inl (field, refl, refl)
uses_field (insn.FieldPut kind from object field) = inl (field, refl, refl)
uses_field (insn.StaticGet kind to field) = inl (field, refl, refl)
uses_field (insn.StaticPut kind from field) = inl (field, refl, refl)
uses_field (insn.ConstClass to named) = inr (refl, type_is_no_field named)
uses_field (insn.CheckCast object named) = inr (refl, type_is_no_field named)
uses_field (insn.InstanceOf to object named) = inr (refl, type_is_no_field named)
uses_field (insn.NewInstance to named) = inr (refl, type_is_no_field named)
uses_field (insn.NewArray to length named) = inr (refl, type_is_no_field named)
uses_field (insn.FilledNewArray named args) = inr (refl, type_is_no_field named)
uses_field (insn.Invoke how named args) = inr (refl, method_is_no_field named)
uses_field other = inr (refl, λ row e. cc)

uses_method : (i : Insn) → UsesMethod i
unfolding method_use_of reference_of named_method how_invoked
uses_method (insn.Invoke how (method.Row row) args) = inl (record { row = row; how = how }, refl, refl, refl)
uses_method (insn.Invoke how (method.Known class known) args) = inr (refl, λ row e. cc)
uses_method (insn.ConstClass to named) = inr (refl, type_is_no_method named)
uses_method (insn.CheckCast object named) = inr (refl, type_is_no_method named)
uses_method (insn.InstanceOf to object named) = inr (refl, type_is_no_method named)
uses_method (insn.NewInstance to named) = inr (refl, type_is_no_method named)
uses_method (insn.NewArray to length named) = inr (refl, type_is_no_method named)
uses_method (insn.FilledNewArray named args) = inr (refl, type_is_no_method named)
uses_method other = inr (refl, λ row e. cc)

-- ---- the first of some

pub first_cases : {A : Type 0} {is_so : A → Type 0} (x : A) (xs : List A) (y : A) → First is_so (x ∷ xs) y → ((x ≡ y) × is_so x) ⊎ ((¬ is_so x) × First is_so xs y)
first_cases x xs _ (First.here so) = inl (refl, so)
first_cases x xs _ (First.later not rest) = inr (not, rest)

none_is_first : {A : Type 0} {is_so : A → Type 0} (xs : List A) (y : A) → xs ≡ [] → First is_so xs y → ⊥
none_is_first _ y e (First.here so) = cc
none_is_first _ y e (First.later not rest) = cc

pub first_is_among : {A : Type 0} {is_so : A → Type 0} (xs : List A) (x : A) → First is_so xs x → Contains xs x
first_is_among _ x (First.here {xs = tail} so) = (0, omega arith, refl)
first_is_among _ x (First.later {xs = tail} not rest) = let (k, within, same) = first_is_among tail x rest in (suc k, omega arith, same)

pub first_is_so : {A : Type 0} {is_so : A → Type 0} (xs : List A) (x : A) → First is_so xs x → is_so x
first_is_so _ x (First.here so) = so
first_is_so _ x (First.later {xs = tail} not rest) = first_is_so tail x rest

-- ---- the first use

-- the instruction that a field is first named by
pub record FirstNamesField (ids : Ids) (classes : List RawClass) (owner member : List ℕ) (all : List Placed) (row : ℕ) : Type 0 where
  pub placed : Placed
  pub first : First (NamesField ids classes owner member) all placed
  pub refers : reference_of placed.insn ≡ Some (reference.Field row)

pub record FirstNamesMethod (ids : Ids) (classes : List RawClass) (owner member : List ℕ) (all : List Placed) (used : MethodUse) : Type 0 where
  pub placed : Placed
  pub first : First (NamesMethod ids classes owner member) all placed
  pub refers : reference_of placed.insn ≡ Some (reference.Method used.row)
  pub how : how_invoked placed.insn ≡ Some used.how

same_field_row : (one other : ℕ) (i : Insn) → reference_of i ≡ Some (reference.Field one) → reference_of i ≡ Some (reference.Field other) → other ≡ one
same_field_row one other i e f = let same : Some (reference.Field one) ≡ Some (reference.Field other) = sym e ∙ f in cc

same_method_row : (one other : ℕ) (i : Insn) → reference_of i ≡ Some (reference.Method one) → reference_of i ≡ Some (reference.Method other) → other ≡ one
same_method_row one other i e f = let same : Some (reference.Method one) ≡ Some (reference.Method other) = sym e ∙ f in cc

module _ (ids : Ids) (classes : List RawClass) (owner member : List ℕ) where
  abbrev FieldRow : ℕ → Type 0
  FieldRow other = RowNamesField ids classes other owner member

  abbrev MethodRow : MethodUse → Type 0
  MethodRow other = RowNamesMethod ids classes other.row owner member

  pub first_field : (all : List Placed) (row : ℕ) → First FieldRow (field_uses_of all) row → FirstNamesField ids classes owner member all row
  unfolding field_uses_of
  first_field [] row first = absurd (none_is_first [] row refl first)
  first_field (placed ∷ rest) row first = from (uses_field placed.insn) (first_field rest row)
    where
      later : (¬ NamesField ids classes owner member placed) → FirstNamesField ids classes owner member rest row → FirstNamesField ids classes owner member (placed ∷ rest) row
      later not found = record { placed = found.placed; first = First.later not found.first; refers = found.refers }

      from : UsesField placed.insn → (First FieldRow (field_uses_of rest) row → FirstNamesField ids classes owner member rest row) → FirstNamesField ids classes owner member (placed ∷ rest) row
      from (inr (none, never)) next = later (λ names. never names.row names.refers) (next (subst (λ uses. First FieldRow (uses ++ field_uses_of rest) row) none first))
      from (inl (used, is, refers)) next = of_use (first_cases used (field_uses_of rest) row (subst (λ uses. First FieldRow (uses ++ field_uses_of rest) row) is first))
        where
          of_use : ((used ≡ row) × FieldRow used) ⊎ ((¬ FieldRow used) × First FieldRow (field_uses_of rest) row) → FirstNamesField ids classes owner member (placed ∷ rest) row
          of_use (inl (same, so)) =
              record { placed = placed; first = First.here (record { row = used; refers = refers; names = so }); refers = refers ∙ ap (λ n. Some (reference.Field n)) same }
          of_use (inr (not, behind)) =
              later (λ names. not (subst FieldRow (same_field_row used names.row placed.insn refers names.refers) names.names)) (next behind)

  pub first_method : (all : List Placed) (used : MethodUse) → First MethodRow (method_uses_of all) used → FirstNamesMethod ids classes owner member all used
  unfolding method_uses_of
  first_method [] used first = absurd (none_is_first [] used refl first)
  first_method (placed ∷ rest) used first = from (uses_method placed.insn) (first_method rest used)
    where
      later : (¬ NamesMethod ids classes owner member placed) → FirstNamesMethod ids classes owner member rest used → FirstNamesMethod ids classes owner member (placed ∷ rest) used
      later not found = record { placed = found.placed; first = First.later not found.first; refers = found.refers; how = found.how }

      from : UsesMethod placed.insn → (First MethodRow (method_uses_of rest) used → FirstNamesMethod ids classes owner member rest used) → FirstNamesMethod ids classes owner member (placed ∷ rest) used
      from (inr (none, never)) next = later (λ names. never names.row names.refers) (next (subst (λ uses. First MethodRow (uses ++ method_uses_of rest) used) none first))
      from (inl (other, is, refers, how)) next = of_use (first_cases other (method_uses_of rest) used (subst (λ uses. First MethodRow (uses ++ method_uses_of rest) used) is first))
        where
          of_use : ((other ≡ used) × MethodRow other) ⊎ ((¬ MethodRow other) × First MethodRow (method_uses_of rest) used) → FirstNamesMethod ids classes owner member (placed ∷ rest) used
          of_use (inl (same, so)) =
              record {
                placed = placed;
                first = First.here (record { row = other.row; refers = refers; names = so });
                refers = refers ∙ ap (λ (u : MethodUse). Some (reference.Method u.row)) same;
                how = how ∙ ap (λ (u : MethodUse). Some u.how) same;
              }
          of_use (inr (not, behind)) =
              later (λ names. not (subst (λ (row : ℕ). RowNamesMethod ids classes row owner member) (same_method_row other.row names.row placed.insn refers names.refers) names.names)) (next behind)
