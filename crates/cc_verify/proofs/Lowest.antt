-- The lowest wrong address, one thing after another.
use Rattle.std.proofs.Common.{◌≡◌, ◌⊎◌, inl, inr, ◌↔◌, ℕ, zero, suc, ◌+◌, ◌<◌, ◌≤◌, Bool, true, false, List, [], ◌∷◌, ◌++◌, length, take, get_or, Option, Some, None, refl, sym, ap, ◌∙◌, subst, arith, add-one}
use Rattle.std.specs.Prelude.{All, Contains, IsTrue, MatchOption}
use Rattle.std.proofs.lemmas.List.Elements.{All-nil, All-more, All-contains, Contains-append_left, Contains-push, Contains-push_cases}
use Rattle.cc_meaning.specs.declared.program.Code.{Code}
use Rattle.cc_meaning.specs.declared.program.Try.{Try}
use Rattle.cc_meaning_typing.specs.Code.{Body}
use Rattle.cc_meaning_typing.specs.WellTyped.{TargetsStand}
use Rattle.cc_meaning_typing.specs.Faults.{IsBadTarget, branch, handler, IsUnknownMember, unknown, MembersAreKnown, IsLeast}
use Rattle.cc_verify.specs.Lowest.{Lowers, IsAmong, place_of, BranchStands, IsBadBranch, BranchesStand, handler_of, CatchStands, IsBadCatch, AreTargets, IsBadTry, CatchesStand, MemberIsKnown}

-- the lowest of two kinds, one after the other
module _ (P Q R : ℕ → Type 0) (N M L : Type 0) (none : N → (k : ℕ) → P k → ⊥) (split : (k : ℕ) → R k → P k ⊎ Q k) (left : (k : ℕ) → P k → R k) (right : (k : ℕ) → Q k → R k) (both : N → M → L) where
  further_some : (a b : Option ℕ) (r : ℕ) → Lowers a P N b → ((b ≡ Some r) ⊎ Q r) → ((k : ℕ) → b ≡ Some k → r ≤ k) → ((k : ℕ) → Q k → r ≤ k) → Lowers a R L (Some r)
  further_some a None r h o low q = (
    elim o [ inl e ↦ absurd (cc) | inr x ↦ inr (right r x) ],
    λ k e. let f = h.0 in absurd (cc),
    λ k x. elim (split k x) [ inl y ↦ absurd (none h.1 k y) | inr y ↦ q k y ],
  )
  further_some a (Some b) r h o low q =
      let l = low b refl in (
        elim o [ inl e ↦ let f : b ≡ r = cc in elim h.0 [ inl g ↦ inl (g ∙ e) | inr x ↦ inr (left r (subst P f x)) ] | inr x ↦ inr (right r x) ],
        λ k e. let g = h.1 k e in omega arith,
        λ k x. elim (split k x) [ inl y ↦ let g = h.2 k y in omega arith | inr y ↦ q k y ],
      )

  pub further : (a b c : Option ℕ) → Lowers a P N b → Lowers b Q M c → Lowers a R L c
  further a None None h g = (h.0, both h.1 g.1)
  further a (Some b) None h g = let e = g.0 in absurd (cc)
  further a b (Some r) h g = further_some a b r h g.0 g.1 g.2

take_push : {X : Type 0} (xs : List X) (i : ℕ) (d : X) → i < length xs → take (i + 1) xs ≡ take i xs ++ get_or xs i d ∷ []
take_push xs i d l = rw add-one (go xs i d l)
  where
    go : {X : Type 0} (xs : List X) (i : ℕ) (d : X) → i < length xs → take (suc i) xs ≡ take i xs ++ get_or xs i d ∷ []
    go [] i d l = absurd (omega arith)
    go (x ∷ xs) zero d l = refl
    go (x ∷ xs) (suc i) d l = ap (λ z. x ∷ z) (go xs i d (omega arith))

pub none_before : {X : Type 0} (place : X → ℕ) (IsRight : X → Type 0) (xs : List X) → All IsRight xs → (k : ℕ) → IsAmong place IsRight xs k → ⊥
none_before place IsRight xs h k a = a.3 (All-contains IsRight xs a.0 h a.1)

-- one more of a list
module _ {X : Type 0} (place : X → ℕ) (IsRight : X → Type 0) (xs : List X) (i : ℕ) (d : X) (l : i < length xs) where
  abbrev Item : X
  Item = get_or xs i d

  abbrev Before : ℕ → Type 0
  Before k = IsAmong place IsRight (take i xs) k

  abbrev Now : ℕ → Type 0
  Now k = IsAmong place IsRight (take (i + 1) xs) k

  more_split : (wrong : Bool) (same : IsTrue wrong ↔ IsRight Item) (k : ℕ) → Now k → Before k ⊎ ((k ≡ place Item) × (wrong ≡ false))
  more_split wrong same k a =
      let c = subst (λ z. Contains z a.0) (take_push xs i d l) a.1 in
      elim (Contains-push_cases (take i xs) Item a.0 c) [
        | inl b ↦ inl (a.0, b, a.2, a.3)
        | inr e ↦ inr (sym a.2 ∙ ap place (sym e), is_wrong wrong (λ t. a.3 (subst IsRight e (same.0 t))))
      ]
    where
      is_wrong : (b : Bool) → (b ≡ true → ⊥) → b ≡ false
      is_wrong true f = absurd (f refl)
      is_wrong false f = refl

  before_now : (k : ℕ) → Before k → Now k
  before_now k a = (a.0, subst (λ z. Contains z a.0) (sym (take_push xs i d l)) (Contains-append_left (take i xs) (Item ∷ []) a.0 a.1), a.2, a.3)

  item_now : (wrong : Bool) (same : IsTrue wrong ↔ IsRight Item) (k : ℕ) → (k ≡ place Item) × (wrong ≡ false) → Now k
  item_now wrong same k w = (Item, subst (λ z. Contains z Item) (sym (take_push xs i d l)) (Contains-push (take i xs) Item), sym w.0, λ h. let t = same.1 h in let f = w.1 in cc)

  pub one_more : (wrong : Bool) (same : IsTrue wrong ↔ IsRight Item) (a b c : Option ℕ) → Lowers a Before (All IsRight (take i xs)) b → Lowers b (λ k. (k ≡ place Item) × (wrong ≡ false)) (wrong ≡ true) c → Lowers a Now (All IsRight (take (i + 1) xs)) c
  one_more wrong same a b c h g = further Before (λ k. (k ≡ place Item) × (wrong ≡ false)) Now (All IsRight (take i xs)) (wrong ≡ true) (All IsRight (take (i + 1) xs)) (none_before place IsRight (take i xs)) (more_split wrong same) before_now (item_now wrong same) (λ n m. All-more IsRight xs i d l n (same.0 m)) a b c h g

pub one_more_item : {X : Type 0} (place : X → ℕ) (IsRight : X → Type 0) (xs : List X) (i : ℕ) (x : X) → i < length xs → x ≡ get_or xs i x → (wrong : Bool) → IsTrue wrong ↔ IsRight x → (a b c : Option ℕ) → Lowers a (IsAmong place IsRight (take i xs)) (All IsRight (take i xs)) b → Lowers b (λ k. (k ≡ place x) × (wrong ≡ false)) (wrong ≡ true) c → Lowers a (IsAmong place IsRight (take (i + 1) xs)) (All IsRight (take (i + 1) xs)) c
one_more_item place IsRight xs i x l e wrong same a b c h g = one_more place IsRight xs i x l wrong (subst (λ z. IsTrue wrong ↔ IsRight z) e same) a b c h (subst (λ z. Lowers b (λ k. (k ≡ place z) × (wrong ≡ false)) (wrong ≡ true) c) e g)

pub among_none : {X : Type 0} (place : X → ℕ) (IsRight : X → Type 0) (xs : List X) (a : Option ℕ) → xs ≡ [] → Lowers a (IsAmong place IsRight xs) (All IsRight xs) a
among_none place IsRight xs None e = (refl, rw e (All-nil IsRight))
among_none place IsRight xs (Some r) e = (inl refl, λ k f. let g : r ≡ k = cc in omega arith, λ k w. let c = w.1 in let f = rw e at c in absurd (let l = f.1 in omega arith))

-- ---- tries

module _ (code : Code) where
  bad_none : (tries : List Try) → CatchesStand code tries → (k : ℕ) → IsBadTry code tries k → ⊥
  bad_none tries h k b = none_before handler_of (CatchStands code) b.0.catches (All-contains (λ (t : Try). AreTargets code t.catches) tries b.0 h b.1) k b.2

  pub tries_none : (tries : List Try) (a : Option ℕ) → tries ≡ [] → Lowers a (IsBadTry code tries) (CatchesStand code tries) a
  tries_none tries None e = (refl, rw e (All-nil (λ (t : Try). AreTargets code t.catches)))
  tries_none tries (Some r) e = (inl refl, λ k f. let g : r ≡ k = cc in omega arith, λ k w. let c = w.1 in let f = rw e at c in absurd (let l = f.1 in omega arith))

  module _ (tries : List Try) (i : ℕ) (d : Try) (l : i < length tries) where
    abbrev This : Try
    This = get_or tries i d

    try_split : (k : ℕ) → IsBadTry code (take (i + 1) tries) k → IsBadTry code (take i tries) k ⊎ IsBadCatch code This.catches k
    try_split k b =
        let c = subst (λ z. Contains z b.0) (take_push tries i d l) b.1 in
        elim (Contains-push_cases (take i tries) This b.0 c) [
          | inl e ↦ inl (b.0, e, b.2)
          | inr e ↦ inr (subst (λ (t : Try). IsBadCatch code t.catches k) (sym e) b.2)
        ]

    try_before : (k : ℕ) → IsBadTry code (take i tries) k → IsBadTry code (take (i + 1) tries) k
    try_before k b = (b.0, subst (λ z. Contains z b.0) (sym (take_push tries i d l)) (Contains-append_left (take i tries) (This ∷ []) b.0 b.1), b.2)

    try_this : (k : ℕ) → IsBadCatch code This.catches k → IsBadTry code (take (i + 1) tries) k
    try_this k b = (This, subst (λ z. Contains z This) (sym (take_push tries i d l)) (Contains-push (take i tries) This), b)

    pub one_more_try : (a b c : Option ℕ) → Lowers a (IsBadTry code (take i tries)) (CatchesStand code (take i tries)) b → Lowers b (IsBadCatch code This.catches) (AreTargets code This.catches) c → Lowers a (IsBadTry code (take (i + 1) tries)) (CatchesStand code (take (i + 1) tries)) c
    one_more_try a b c h g = further (IsBadTry code (take i tries)) (IsBadCatch code This.catches) (IsBadTry code (take (i + 1) tries)) (CatchesStand code (take i tries)) (AreTargets code This.catches) (CatchesStand code (take (i + 1) tries)) (bad_none (take i tries)) try_split try_before try_this (λ n m. All-more (λ (t : Try). AreTargets code t.catches) tries i d l n m) a b c h g

  -- ---- all targets

  both_split : (k : ℕ) → IsBadTarget code k → IsBadBranch code code.insns k ⊎ IsBadTry code code.tries k
  both_split k (branch {placed = placed} c n) = inl (placed, c, refl, n)
  both_split k (handler {try = try} {catch = catch} c e n) = inr (try, c, (catch, e, refl, n))

  branch_bad : (k : ℕ) → IsBadBranch code code.insns k → IsBadTarget code k
  branch_bad k b = subst (IsBadTarget code) b.2 (branch b.1 b.3)

  try_bad : (k : ℕ) → IsBadTry code code.tries k → IsBadTarget code k
  try_bad k b = subst (IsBadTarget code) b.2.2 (handler b.1 b.2.1 b.2.3)

  lowest_least : (c : Option ℕ) (P : ℕ → Type 0) (N : Type 0) → Lowers None P N c → MatchOption c N (IsLeast P)
  lowest_least None P N h = h.1
  lowest_least (Some r) P N h = record { holds = elim h.0 [ inl e ↦ absurd (cc) | inr x ↦ x ]; least = λ k x. h.2 k x }

  pub targets_judged : (b c : Option ℕ) → Lowers None (IsBadBranch code code.insns) (BranchesStand code code.insns) b → Lowers b (IsBadTry code code.tries) (CatchesStand code code.tries) c → MatchOption c (TargetsStand code) (IsLeast (IsBadTarget code))
  targets_judged b c h g = lowest_least c (IsBadTarget code) (TargetsStand code)
      (further (IsBadBranch code code.insns) (IsBadTry code code.tries) (IsBadTarget code) (BranchesStand code code.insns) (CatchesStand code code.tries) (TargetsStand code) (none_before place_of (BranchStands code) code.insns) both_split branch_bad try_bad (λ n m. record { branches = n; catches = m }) None b c h g)

-- ---- members

unknown_among : (body : Body) (k : ℕ) → IsUnknownMember body k → IsAmong place_of (MemberIsKnown body) body.code.insns k
unknown_among body k (unknown {placed = placed} c n) = (placed, c, refl, n)

among_unknown : (body : Body) (k : ℕ) → IsAmong place_of (MemberIsKnown body) body.code.insns k → IsUnknownMember body k
among_unknown body k b = subst (IsUnknownMember body) b.2 (unknown b.1 b.3)

pub members_judged : (body : Body) (c : Option ℕ) → Lowers None (IsAmong place_of (MemberIsKnown body) body.code.insns) (All (MemberIsKnown body) body.code.insns) c → MatchOption c (MembersAreKnown body) (IsLeast (IsUnknownMember body))
members_judged body None h = h.1
members_judged body (Some r) h = record { holds = elim h.0 [ inl e ↦ absurd (cc) | inr x ↦ among_unknown body r x ]; least = λ k x. h.2 k (unknown_among body k x) }
