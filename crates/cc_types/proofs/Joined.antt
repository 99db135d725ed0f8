-- Registers that are joined one by one.
use Rattle.std.proofs.Common.{◌≡◌, ◌⊎◌, inl, inr, ℕ, zero, suc, ◌+◌, ◌<◌, ◌≤◌, Bool, true, false, List, [], ◌∷◌, length, None, refl, sym, ap, ◌∙◌, arith, get_or, get_or-set_same, get_or-set_other, slice_get, slice_set, unwrap_or}
use Rattle.std.proofs.Math.ListN.{length-set}
use Rattle.std.proofs.lemmas.Option.{unwrap_or-slice_get}
use Rattle.cc_meaning.specs.declared.program.Program.{Program}
use Rattle.cc_meaning.specs.declared.program.RegType.{RegType}
use Rattle.cc_meaning.specs.declared.program.RegType.TheVariants.{Unset}
use Rattle.cc_meaning_typing.specs.Registers.{join}
use Rattle.cc_meaning_typing.specs.States.{join_registers}

pub register_none : (xs : List RegType) (i : ℕ) → None ≡ slice_get xs i → Unset ≡ get_or xs i Unset
register_none xs i e = ap (λ z. unwrap_or z Unset) e ∙ unwrap_or-slice_get xs i Unset

abbrev at : List RegType → ℕ → RegType
at xs k = get_or xs k Unset

same_elements : (xs ys : List RegType) → length xs ≡ length ys → ((k : ℕ) → k < length xs → at xs k ≡ at ys k) → xs ≡ ys
same_elements [] [] e h = refl
same_elements [] (y ∷ ys) e h = absurd (omega arith)
same_elements (x ∷ xs) [] e h = absurd (omega arith)
same_elements (x ∷ xs) (y ∷ ys) e h =
    let a : x ≡ y = h 0 (omega arith) in
    let b = same_elements xs ys (omega arith) (λ k l. h (suc k) (omega arith)) in
    cc

-- what is kept: the first i are joined, the others as they were, and whether one has changed is known
pub record Joined (program : Program) (u s : List RegType) (i : ℕ) (registers : List RegType) (unchanged : Bool) : Type 0 where
  pub long : length registers ≡ length u
  pub done : (k : ℕ) → k < i → k < length u → at registers k ≡ join program (at u k) (at s k)
  pub rest : (k : ℕ) → i ≤ k → at registers k ≡ at u k
  pub kept : unchanged ≡ true → (k : ℕ) → k < i → at registers k ≡ at u k
  pub changed : unchanged ≡ false → (k : ℕ) × (k < i) × (at registers k ≡ at u k → ⊥)

pub joined_start : (program : Program) (u s : List RegType) → Joined program u s 0 u true
joined_start program u s = record { long = refl; done = λ k l m. absurd (omega arith); rest = λ k l. refl; kept = λ e k l. refl; changed = λ e. absurd (cc) }

below_suc : (k i : ℕ) → k < i + 1 → (k < i) ⊎ (k ≡ i)
below_suc k i l = grind arith

set_done : (program : Program) (u s : List RegType) (i : ℕ) (registers : List RegType) (unchanged : Bool) → i < length u → Joined program u s i registers unchanged → (k : ℕ) → k < i + 1 → k < length u → at (slice_set registers i (join program (at u i) (at s i))) k ≡ join program (at u k) (at s k)
set_done program u s i registers unchanged l j k m n = elim (below_suc k i m) [
  | inl a ↦ let ne : k ≡ i → ⊥ = λ e. omega arith in rw get_or-set_other (j.done k a n)
  | inr e ↦ let g = j.long in let b : i < length registers = omega arith in rw e (rw get_or-set_same refl)
]

set_rest : (program : Program) (u s : List RegType) (i : ℕ) (registers : List RegType) (unchanged : Bool) (a : RegType) → Joined program u s i registers unchanged → (k : ℕ) → i + 1 ≤ k → at (slice_set registers i a) k ≡ at u k
set_rest program u s i registers unchanged a j k m = let ne : k ≡ i → ⊥ = λ e. omega arith in rw get_or-set_other (j.rest k (omega arith))

set_kept : (program : Program) (u s : List RegType) (i : ℕ) (registers : List RegType) (unchanged : Bool) (a : RegType) → i < length u → a ≡ at u i → Joined program u s i registers unchanged → ((k : ℕ) → k < i → at registers k ≡ at u k) → (k : ℕ) → k < i + 1 → at (slice_set registers i a) k ≡ at u k
set_kept program u s i registers unchanged a l same j h k m = elim (below_suc k i m) [
  | inl b ↦ let ne : k ≡ i → ⊥ = λ e. omega arith in rw get_or-set_other (h k b)
  | inr e ↦ let g = j.long in let b : i < length registers = omega arith in rw e (rw get_or-set_same same)
]

abbrev set_to : Program → List RegType → List RegType → ℕ → List RegType → List RegType
set_to program u s i registers = slice_set registers i (join program (at u i) (at s i))

pub joined_same : (program : Program) (u s : List RegType) (i : ℕ) (registers : List RegType) (unchanged : Bool) → i < length u → join program (at u i) (at s i) ≡ at u i → Joined program u s i registers unchanged → Joined program u s (i + 1) (set_to program u s i registers) unchanged
joined_same program u s i registers unchanged l e j = record {
  long = ap (λ n. n) (length-set registers i (join program (at u i) (at s i))) ∙ j.long;
  done = set_done program u s i registers unchanged l j;
  rest = set_rest program u s i registers unchanged (join program (at u i) (at s i)) j;
  kept = λ t. set_kept program u s i registers unchanged (join program (at u i) (at s i)) l e j (j.kept t);
  changed = λ f. let x = j.changed f in let ne : x.0 ≡ i → ⊥ = λ e2. let m = x.1 in omega arith in (x.0, let m = x.1 in omega arith, λ g. x.2 (rw get_or-set_other at g));
}

pub joined_other : (program : Program) (u s : List RegType) (i : ℕ) (registers : List RegType) (unchanged : Bool) → i < length u → (join program (at u i) (at s i) ≡ at u i → ⊥) → Joined program u s i registers unchanged → Joined program u s (i + 1) (set_to program u s i registers) false
joined_other program u s i registers unchanged l not j = record {
  long = length-set registers i (join program (at u i) (at s i)) ∙ j.long;
  done = set_done program u s i registers unchanged l j;
  rest = set_rest program u s i registers unchanged (join program (at u i) (at s i)) j;
  kept = λ t. absurd (cc);
  changed = λ f. (i, omega arith, λ g. let m = j.long in let b : i < length registers = omega arith in not (rw get_or-set_same at g));
}

joined_at : (program : Program) (u s : List RegType) → length u ≡ length s → (k : ℕ) → k < length u → at (join_registers program u s) k ≡ join program (at u k) (at s k)
unfolding join_registers
joined_at program [] s e k l = absurd (omega arith)
joined_at program (b ∷ u) [] e k l = absurd (omega arith)
joined_at program (b ∷ u) (a ∷ s) e zero l = refl
joined_at program (b ∷ u) (a ∷ s) e (suc k) l = joined_at program u s (omega arith) k (omega arith)

joined_long : (program : Program) (u s : List RegType) → length u ≡ length s → length (join_registers program u s) ≡ length u
unfolding join_registers
joined_long program [] [] e = refl
joined_long program [] (a ∷ s) e = refl
joined_long program (b ∷ u) [] e = absurd (omega arith)
joined_long program (b ∷ u) (a ∷ s) e = let h = joined_long program u s (omega arith) in omega arith

pub joined_end : (program : Program) (u s : List RegType) (registers : List RegType) (unchanged : Bool) → length u ≡ length s → Joined program u s (length u) registers unchanged → registers ≡ join_registers program u s
joined_end program u s registers unchanged e j =
    let m = j.long in
    let n = joined_long program u s e in
    same_elements registers (join_registers program u s) (omega arith)
    (λ k l. j.done k (omega arith) (omega arith) ∙ sym (joined_at program u s e k (omega arith)))

pub joined_kept : (program : Program) (u s : List RegType) (registers : List RegType) (unchanged : Bool) → Joined program u s (length u) registers unchanged → unchanged ≡ true → registers ≡ u
joined_kept program u s registers unchanged j t = let m = j.long in same_elements registers u m (λ k l. j.kept t k (omega arith))

pub joined_changed : (program : Program) (u s : List RegType) (registers : List RegType) (unchanged : Bool) → Joined program u s (length u) registers unchanged → registers ≡ u → unchanged ≡ true
joined_changed program u s registers true j e = refl
joined_changed program u s registers false j e = let x = j.changed refl in absurd (x.2 (ap (λ z. at z x.0) e))

pub joined_step : (program : Program) (u s : List RegType) (i : ℕ) (registers : List RegType) (unchanged : Bool) (known other joined : RegType) (next : List RegType) (flag same : Bool) → i < length u → Joined program u s i registers unchanged → known ≡ at registers i → other ≡ at s i → joined ≡ join program known other → next ≡ slice_set registers i joined → ((same ≡ true → joined ≡ known) × (joined ≡ known → same ≡ true)) → ((same ≡ false) × (flag ≡ false)) ⊎ ((same ≡ true) × (flag ≡ unchanged)) → Joined program u s (i + 1) next flag
joined_step program u s i registers unchanged known other joined next flag same l j k o m n tests b =
    let a : known ≡ at u i = k ∙ j.rest i (omega arith) in
    let e : joined ≡ join program (at u i) (at s i) = m ∙ ap (λ z. join program z other) a ∙ ap (λ z. join program (at u i) z) o in
    let f : next ≡ set_to program u s i registers = n ∙ ap (λ z. slice_set registers i z) e in
    elim b [
      | inl x ↦ rw (f, x.1) (joined_other program u s i registers unchanged l (λ g. let h = tests.1 (e ∙ g ∙ sym a) in let y = x.0 in absurd (cc)) j)
      | inr x ↦ rw (f, x.1) (joined_same program u s i registers unchanged l (sym e ∙ tests.0 x.0 ∙ a) j)
    ]
