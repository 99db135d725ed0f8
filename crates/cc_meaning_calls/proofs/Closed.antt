-- What a method reaches stays within each list of methods that has all that its methods call.
use Rattle.std.proofs.Common.{refl, sym, inl, inr, subst, ◌⊎◌, ℕ, ◌≡◌, ◌<◌, ◌+◌, zero, suc, arith, List, [], ◌∷◌, Bool, true, false, Some, None, Option, slice_get, length}
use Rattle.std.specs.Prelude.{filter, ◌==◌, ◌&&◌, ◌||◌, not, cond}
use Rattle.std.proofs.lemmas.Bool.{eqb-true, eq-eqb}
use Rattle.std.proofs.lemmas.Option.{slice_get_within}
use Rattle.std.specs.List.{list_any, list_all, range_with_len}
use Rattle.cc_meaning.specs.declared.program.Method.{Method}
use Rattle.cc_meaning.specs.declared.program.Program.{Program}
use Rattle.cc_meaning.specs.declared.script.Script.{Script}
use Rattle.cc_meaning_world.specs.Scripts.{is_free, has_name_of_stream, is_of_stream}
use Rattle.cc_meaning_typing.specs.Hierarchy.{on_value}
use Rattle.cc_meaning_calls.specs.Kept.{holds_in, holds_of, is_print}
use Rattle.cc_meaning_calls.specs.Calls.{can_call, calls_in, callees, is_counted, is_built_in_kind, Leads, one, more, Reaches, direct, further}

abbrev pub is_in : ℕ → List ℕ → Bool
is_in m list = list_any (λ other. other == m) list

-- each method that one of the list calls is of the list
abbrev pub closed : Program → Script → List ℕ → Bool
closed p script list = list_all (λ m. list_all (λ callee. is_in callee list) (callees p script m)) list

-- ---- truth values

pub and_left : (a b : Bool) → (a && b) ≡ true → a ≡ true
and_left true b h = refl
and_left false b h = h

pub and_right : (a b : Bool) → (a && b) ≡ true → b ≡ true
and_right true b h = h
and_right false b h = cc

pub or_case : (a b : Bool) → (a || b) ≡ true → (a ≡ true) ⊎ (b ≡ true)
or_case true b h = inl refl
or_case false b h = inr h

pub or_left : (a b : Bool) → a ≡ true → (a || b) ≡ true
or_left true b h = refl
or_left false b h = cc

pub or_right : (a b : Bool) → b ≡ true → (a || b) ≡ true
or_right true b h = refl
or_right false b h = h

-- ---- lists

-- a test that all of a list pass is passed by each number in it
pub passes : (f : ℕ → Bool) (xs : List ℕ) (m : ℕ) → list_all f xs ≡ true → is_in m xs ≡ true → f m ≡ true
passes f [] m all h = cc
passes f (x ∷ xs) m all h = elim (or_case (x == m) (is_in m xs) h) [
  | inl e ↦ let same : x ≡ m = eqb-true x m e in subst (λ (n : ℕ). f n ≡ true) same (and_left (f x) (list_all f xs) all)
  | inr later ↦ passes f xs m (and_right (f x) (list_all f xs) all) later
]

in_filter_if : (b : Bool) (x m : ℕ) (rest : List ℕ) → b ≡ true → (x == m) ≡ true → is_in m (cond b (x ∷ rest) rest) ≡ true
in_filter_if true x m rest e h = or_left (x == m) (is_in m rest) h
in_filter_if false x m rest e h = cc

in_more : (b : Bool) (x m : ℕ) (rest : List ℕ) → is_in m rest ≡ true → is_in m (cond b (x ∷ rest) rest) ≡ true
in_more true x m rest h = or_right (x == m) (is_in m rest) h
in_more false x m rest h = h

-- a number that passes a test is in what the test leaves of a list that has it
in_filter : (f : ℕ → Bool) (xs : List ℕ) (m : ℕ) → f m ≡ true → is_in m xs ≡ true → is_in m (filter f xs) ≡ true
in_filter f [] m e h = h
in_filter f (x ∷ xs) m e h = elim (or_case (x == m) (is_in m xs) h) [
  | inl found ↦ in_filter_if (f x) x m (filter f xs) (subst (λ (n : ℕ). f n ≡ true) (sym (eqb-true x m found)) e) found
  | inr later ↦ in_more (f x) x m (filter f xs) (in_filter f xs m e later)
]

in_range : (n a k : ℕ) → k < n → is_in (a + k) (range_with_len a n) ≡ true
in_range zero a k l = absurd (omega arith)
in_range (suc n) a zero l = or_left (a == a + 0) (is_in (a + 0) (range_with_len (a + 1) n)) (eq-eqb a (a + 0) (omega arith))
in_range (suc n) a (suc k) l =
    let e : (a + 1) + k ≡ a + suc k = omega arith in
    or_right (a == a + suc k) (is_in (a + suc k) (range_with_len (a + 1) n)) (subst (λ (m : ℕ). is_in m (range_with_len (a + 1) n) ≡ true) e (in_range n (a + 1) k (omega arith)))

-- ---- calls

holds_within : (test : Method → Bool) (p : Program) (m : ℕ) (found : Option Method) → slice_get p.methods m ≡ found → holds_in test found ≡ true → m < length p.methods
unfolding holds_in
holds_within test p m None e h = cc
holds_within test p m (Some method) e h = slice_get_within p.methods m method e

named_within : (p : Program) (m : ℕ) (found : Option Method) → slice_get p.methods m ≡ found → has_name_of_stream p found ≡ true → m < length p.methods
unfolding has_name_of_stream
named_within p m None e h = cc
named_within p m (Some method) e h = slice_get_within p.methods m method e

counted_within : (p : Program) (script : Script) (m : ℕ) → is_counted p script m ≡ true → m < length p.methods
unfolding is_counted is_print is_of_stream holds_of
counted_within p script m h = elim (or_case (is_print p script m) (holds_of (λ (method : Method). not (is_built_in_kind method.kind)) p m) (and_right (not (is_free script p m)) (is_print p script m || holds_of (λ (method : Method). not (is_built_in_kind method.kind)) p m) h)) [
  | inl printed ↦ named_within p m (slice_get p.methods m) refl (and_left (has_name_of_stream p (slice_get p.methods m)) (not (is_free script p m)) printed)
  | inr other ↦ holds_within (λ (method : Method). not (is_built_in_kind method.kind)) p m (slice_get p.methods m) refl other
]

called_within : (p : Program) (script : Script) (m callee : ℕ) → can_call p script m callee ≡ true → callee < length p.methods
unfolding can_call
called_within p script m callee h = counted_within p script callee (and_left (is_counted p script callee) (on_value (slice_get p.methods m) false (λ method. calls_in p m method callee)) h)

-- what a method can call is in the list of its callees
pub among_callees : (p : Program) (script : Script) (m callee : ℕ) → can_call p script m callee ≡ true → is_in callee (callees p script m) ≡ true
unfolding callees
among_callees p script m callee h =
    let e : 0 + callee ≡ callee = omega arith in
    in_filter (λ c. can_call p script m c) (range_with_len 0 (length p.methods)) callee h (subst (λ (c : ℕ). is_in c (range_with_len 0 (length p.methods)) ≡ true) e (in_range (length p.methods) 0 callee (called_within p script m callee h)))

step_in : (p : Program) (script : Script) (list : List ℕ) → closed p script list ≡ true → (m callee : ℕ) → is_in m list ≡ true → can_call p script m callee ≡ true → is_in callee list ≡ true
step_in p script list stays m callee h e =
    passes (λ c. is_in c list) (callees p script m) callee (passes (λ n. list_all (λ c. is_in c list) (callees p script n)) list m stays h) (among_callees p script m callee e)

-- where a list has all that its methods call, it has all that they lead to
pub leads_in : (p : Program) (script : Script) (list : List ℕ) → closed p script list ≡ true → {m callee : ℕ} → is_in m list ≡ true → Leads p script m callee → is_in callee list ≡ true
leads_in p script list stays {m = m} {callee = callee} h (one e) = step_in p script list stays m callee h e
leads_in p script list stays {m = m} h (more {between = between} e rest) = leads_in p script list stays (step_in p script list stays m between h e) rest

-- and all that they reach
pub reaches_in : (p : Program) (script : Script) (list : List ℕ) → closed p script list ≡ true → {m callee : ℕ} → is_in m list ≡ true → Reaches p script m callee → is_in callee list ≡ true
reaches_in p script list stays {m = m} {callee = callee} h (direct d) = step_in p script list stays m callee h d.1
reaches_in p script list stays {m = m} h (further {between = between} d rest) = reaches_in p script list stays (step_in p script list stays m between h d.1) rest

first_in : (p : Program) (script : Script) (list : List ℕ) → (m callee : ℕ) → list_all (λ c. is_in c list) (callees p script m) ≡ true → can_call p script m callee ≡ true → is_in callee list ≡ true
first_in p script list m callee starts e = passes (λ c. is_in c list) (callees p script m) callee starts (among_callees p script m callee e)

-- where such a list has all that a method calls, it has all that this method reaches
pub reached_in : (p : Program) (script : Script) (list : List ℕ) → closed p script list ≡ true → (m callee : ℕ) → list_all (λ c. is_in c list) (callees p script m) ≡ true
    → Reaches p script m callee → is_in callee list ≡ true
reached_in p script list stays m callee starts (direct d) = first_in p script list m callee starts d.1
reached_in p script list stays m callee starts (further {between = between} d rest) = reaches_in p script list stays (first_in p script list m between starts d.1) rest
