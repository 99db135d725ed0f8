-- Control is followed from address to address.
use Rattle.std.proofs.Common.{◌≡◌, ◌≢◌, ◌⊎◌, inl, inr, ℕ, zero, suc, ◌+◌, ◌<◌, Bool, true, false, List, [], ◌∷◌, ◌++◌, length, replicate, Option, Some, None, refl, sym, ap, ◌∙◌, subst, arith, slice_get, slice_set, slice_index_or}
use Rattle.std.specs.Prelude.{All, Contains}
use Rattle.std.proofs.lemmas.List.Elements.{All-nil, All-cons, All-weaker, All-contains, Contains-append_left, Contains-push, Contains-push_cases, Contains-get_or}
use Rattle.cc_meaning.specs.declared.program.Catch.{Catch}
use Rattle.cc_meaning.specs.declared.program.Code.{Code}
use Rattle.cc_meaning.specs.declared.program.Placed.{Placed}
use Rattle.cc_meaning_typing.specs.Code.{placed_at, insn_of, insn_at, successors, handlers}
use Rattle.cc_meaning_typing.specs.WellTyped.{IsInsn, IsTarget, Reaches, first, on, caught}
use Rattle.cc_meaning_typing.specs.Faults.{FallsOff, StaysWithin}
use Rattle.cc_meaning_typing.specs.VerifyLaws.{StandInOrder}
use Rattle.cc_meaning_typing.specs.Tries.{units_of}
use Rattle.cc_verify.specs.declared.reach.Frontier.{Frontier}
use Rattle.cc_verify.specs.Reaching.{seen_at, IsSeen, CanCome, unseen_of, unseen_in, room, Widens, AreReached, Looked, IsExplored}
use Rattle.cc_verify.proofs.Tables.{test_eq}

-- ---- lists of flags

flag_same : (seen : List Bool) (at : ℕ) (b : Bool) → at < length seen → seen_at (slice_set seen at b) at ≡ b
flag_same [] at b l = absurd (omega arith)
flag_same (s ∷ seen) zero b l = refl
flag_same (s ∷ seen) (suc at) b l = flag_same seen at b (omega arith)

flag_other : (seen : List Bool) (at to : ℕ) (b : Bool) → at ≢ to → seen_at (slice_set seen to b) at ≡ seen_at seen at
flag_other [] at to b ne = refl
flag_other (s ∷ seen) zero zero b ne = absurd (ne refl)
flag_other (s ∷ seen) zero (suc to) b ne = refl
flag_other (s ∷ seen) (suc at) zero b ne = refl
flag_other (s ∷ seen) (suc at) (suc to) b ne = flag_other seen at to b (omega arith)

flag_length : (seen : List Bool) (at : ℕ) (b : Bool) → length (slice_set seen at b) ≡ length seen
flag_length [] at b = refl
flag_length (s ∷ seen) zero b = refl
flag_length (s ∷ seen) (suc at) b = ap suc (flag_length seen at b)

unseen_set : (seen : List Bool) (at : ℕ) → at < length seen → seen_at seen at ≡ false → unseen_in (slice_set seen at true) + 1 ≡ unseen_in seen
unfolding unseen_in unseen_of
unseen_set [] at l e = absurd (omega arith)
unseen_set (true ∷ seen) zero l e = absurd (cc)
unseen_set (false ∷ seen) zero l e = omega arith
unseen_set (s ∷ seen) (suc at) l e = let h = unseen_set seen at (omega arith) e in omega arith

length_push : (next : List ℕ) (at : ℕ) → length (next ++ at ∷ []) ≡ length next + 1
length_push [] at = refl
length_push (n ∷ next) at = let h = length_push next at in omega arith

pub nothing_seen : (n at : ℕ) → seen_at (replicate n false) at ≡ false
nothing_seen zero at = refl
nothing_seen (suc n) zero = refl
nothing_seen (suc n) (suc at) = nothing_seen n at

pub replicate_length : (n : ℕ) → length (replicate n false) ≡ n
replicate_length zero = refl
replicate_length (suc n) = ap suc (replicate_length n)

-- ---- widening

pub widens_same : (it : Frontier) → Widens it it
widens_same it = record { long = refl; keeps = λ at e. e; waits = λ at c. c; fresh = λ at e. inl e; queued = λ at c. inl c; room = omega arith }

pub widens_further : (a b c : Frontier) → Widens a b → Widens b c → Widens a c
widens_further a b c f g = record {
  long = g.long ∙ f.long;
  keeps = λ at e. g.keeps at (f.keeps at e);
  waits = λ at e. g.waits at (f.waits at e);
  fresh = λ at e. elim (g.fresh at e) [ inl s ↦ elim (f.fresh at s) [ inl t ↦ inl t | inr t ↦ inr (g.waits at t) ] | inr s ↦ inr s ];
  queued = λ at e. elim (g.queued at e) [ inl s ↦ elim (f.queued at s) [ inl t ↦ inl t | inr t ↦ inr (g.keeps at t) ] | inr s ↦ inr s ];
  room = let x = f.room in let y = g.room in omega arith;
}

pub widens_push : (old new : Frontier) (at : ℕ) → at < length old.seen → seen_at old.seen at ≡ false → new.seen ≡ slice_set old.seen at true → new.next ≡ old.next ++ at ∷ [] → Widens old new
unfolding room
widens_push old new at l e s n = record {
  long = ap length s ∙ flag_length old.seen at true;
  keeps = λ other f. elim (test_eq other at) [
    | inl t ↦ ap (λ z. seen_at z other) s ∙ rw t.1 (flag_same old.seen at true l)
    | inr t ↦ ap (λ z. seen_at z other) s ∙ flag_other old.seen other at true t.1 ∙ f
  ];
  waits = λ other c. subst (λ z. Contains z other) (sym n) (Contains-append_left old.next (at ∷ []) other c);
  fresh = λ other f. elim (test_eq other at) [
    | inl t ↦ inr (subst (λ z. Contains z other) (sym n) (rw t.1 (Contains-push old.next at)))
    | inr t ↦ inl (sym (flag_other old.seen other at true t.1) ∙ sym (ap (λ z. seen_at z other) s) ∙ f)
  ];
  queued = λ other c. elim (Contains-push_cases old.next at other (subst (λ z. Contains z other) n c)) [
    | inl d ↦ inl d
    | inr d ↦ inr (ap (λ z. seen_at z other) s ∙ rw (← d) (flag_same old.seen at true l))
  ];
  room = let u = unseen_set old.seen at l e in let v = ap unseen_in s in let x = ap length n ∙ length_push old.next at in omega arith;
}

pub seen_others : (old new : List Bool) (at : ℕ) → new ≡ slice_set old at true → (other : ℕ) → seen_at new other ≡ true → (seen_at old other ≡ true) ⊎ (other ≡ at)
seen_others old new at e other f = elim (test_eq other at) [ inl t ↦ inr t.1 | inr t ↦ inl (sym (flag_other old other at true t.1) ∙ sym (ap (λ z. seen_at z other) e) ∙ f) ]

-- ---- where instructions stand

insn_stands : (o : Option Placed) → IsInsn (insn_of o) → (placed : Placed) × (o ≡ Some placed)
unfolding insn_of
insn_stands None h = absurd h
insn_stands (Some placed) h = (placed, refl)

pub target_within : (code : Code) (order : StandInOrder code) (at : ℕ) → IsTarget code (Some at) → at < units_of code
unfolding insn_at
target_within code order at t = let p = insn_stands (placed_at code at) t in order.within at p.0 p.1

pub no_target : (code : Code) (at : ℕ) → placed_at code at ≡ None → IsTarget code (Some at) → ⊥
unfolding insn_at insn_of
no_target code at e t = let t2 = rw e at t in t2

pub reached_more : (code : Code) (old new : Frontier) (at : ℕ) → AreReached code old → Widens old new → Reaches code at → IsTarget code (Some at) → ((other : ℕ) → seen_at new.seen other ≡ true → (seen_at old.seen other ≡ true) ⊎ (other ≡ at)) → AreReached code new
reached_more code old new at h w r t others = record {
  long = w.long ∙ h.long;
  each = λ other e. elim (others other e) [ inl s ↦ h.each other s | inr s ↦ rw s (r, t) ];
}

pub flag_get : (seen : List Bool) (at : ℕ) (b : Bool) → slice_get seen at ≡ Some b → seen_at seen at ≡ b
flag_get [] at b e = absurd (cc)
flag_get (s ∷ seen) zero b e = cc
flag_get (s ∷ seen) (suc at) b e = flag_get seen at b e

-- ---- several addresses

abbrev pub Keeps : List Bool → List Bool → Type 0
Keeps old new = (at : ℕ) → seen_at old at ≡ true → seen_at new at ≡ true

pub seen_more : (old new : List Bool) → Keeps old new → (to : Option ℕ) → IsSeen old to → IsSeen new to
seen_more old new k None h = tt
seen_more old new k (Some at) h = k at h

-- what has been seen of a list of addresses: all of it, once the rest is
abbrev pub SeenAfter : List Bool → List (Option ℕ) → List (Option ℕ) → Type 0
SeenAfter seen rest all = (last : List Bool) → Keeps seen last → All (IsSeen last) rest → All (IsSeen last) all

pub seen_next : (old new : List Bool) (rest next all : List (Option ℕ)) (to : Option ℕ) → SeenAfter old rest all → rest ≡ to ∷ next → Keeps old new → IsSeen new to → SeenAfter new next all
seen_next old new rest next all to h e k s = λ last kept l. h last (λ at t. kept at (k at t)) (subst (All (IsSeen last)) (sym e) (All-cons (IsSeen last) to next (seen_more new last kept to s) l))

pub seen_all : (seen : List Bool) (rest all : List (Option ℕ)) → SeenAfter seen rest all → rest ≡ [] → All (IsSeen seen) all
seen_all seen rest all h e = h seen (λ at t. t) (subst (All (IsSeen seen)) (sym e) (All-nil (IsSeen seen)))

come_case : (code : Code) (to : Option ℕ) → ((there : ℕ) → to ≡ Some there → Reaches code there) → CanCome code to
come_case code None h = tt
come_case code (Some there) h = h there refl

pub successors_come : (code : Code) (at : ℕ) (placed : Placed) → Reaches code at → placed_at code at ≡ Some placed → All (CanCome code) (successors code placed)
successors_come code at placed r e = λ k d l. come_case code (slice_index_or (successors code placed) k d) (λ to f. on r e (subst (λ z. Contains (successors code placed) z) f (Contains-get_or (successors code placed) k d l)))

pub handlers_come : (code : Code) (at : ℕ) (placed : Placed) → Reaches code at → placed_at code at ≡ Some placed → All (λ (catch : Catch). Reaches code catch.at) (handlers code placed)
handlers_come code at placed r e = λ k d l. caught r e (Contains-get_or (handlers code placed) k d l)

pub all_kept : (old new : List Bool) (catches : List Catch) → Keeps old new → All (λ (catch : Catch). seen_at old catch.at ≡ true) catches → All (λ (catch : Catch). seen_at new catch.at ≡ true) catches
all_kept old new catches k h = All-weaker (λ (catch : Catch). seen_at old catch.at ≡ true) (λ (catch : Catch). seen_at new catch.at ≡ true) (λ catch. k catch.at) catches h

pub tos_kept : (old new : List Bool) (tos : List (Option ℕ)) → Keeps old new → All (IsSeen old) tos → All (IsSeen new) tos
tos_kept old new tos k h = All-weaker (IsSeen old) (IsSeen new) (seen_more old new k) tos h

pub looked_true : (code : Code) (old new : Frontier) (Done : Type 0) (b : Bool) → b ≡ true → Looked code old new Done b → Widens old new × AreReached code new × Done
looked_true code old new Done b e l = subst (Looked code old new Done) e l

pub looked_false : (code : Code) (old new : Frontier) (Done : Type 0) (b : Bool) → b ≡ false → Looked code old new Done b → FallsOff code
looked_false code old new Done b e l = subst (Looked code old new Done) e l

-- an instruction, and then its handlers
pub explored : (code : Code) (at : ℕ) (placed : Placed) (old mid new : Frontier) (b : Bool) (tos : List (Option ℕ)) (catches : List Catch) → placed_at code at ≡ Some placed → tos ≡ successors code placed → catches ≡ handlers code placed → Widens old mid → All (IsSeen mid.seen) tos → Looked code mid new (All (λ (catch : Catch). seen_at new.seen catch.at ≡ true) catches) b → Looked code old new (IsExplored code new.seen at) b
explored code at placed old mid new false tos catches e f g w s l = l
explored code at placed old mid new true tos catches e f g w s l = (
  widens_further old mid new w l.0,
  l.1,
  record {
    goes = λ other h. let same : placed ≡ other = cc in subst (λ z. All (IsSeen new.seen) z) (f ∙ ap (successors code) same) (tos_kept mid.seen new.seen tos l.0.keeps s);
    throws = λ other h. let same : placed ≡ other = cc in subst (λ z. All (λ (catch : Catch). seen_at new.seen catch.at ≡ true) z) (g ∙ ap (handlers code) same) l.2;
  },
)

-- ---- the whole method

pub record Follows (code : Code) (it : Frontier) : Type 0 where
  pub reached : AreReached code it
  pub start : seen_at it.seen 0 ≡ true
  pub waits : (at : ℕ) → Contains it.next at → seen_at it.seen at ≡ true
  pub done : (at : ℕ) → seen_at it.seen at ≡ true → Contains it.next at ⊎ IsExplored code it.seen at

none_in : (at : ℕ) → Contains [] at → ⊥
none_in at c = let l = c.1 in omega arith

pub nothing_reached : (code : Code) (units : ℕ) (it : Frontier) → it.seen ≡ replicate units false → units ≡ units_of code → AreReached code it
nothing_reached code units it e u = record {
  long = ap length e ∙ replicate_length units ∙ u;
  each = λ at s. let t = rw e at s in let n = nothing_seen units at in absurd (cc);
}

pub follows_first : (code : Code) (units : ℕ) (old new : Frontier) → old.seen ≡ replicate units false → old.next ≡ [] → Widens old new → AreReached code new → seen_at new.seen 0 ≡ true → Follows code new
follows_first code units old new e n w r s = record {
  reached = r;
  start = s;
  waits = λ at c. elim (w.queued at c) [ inl d ↦ absurd (none_in at (subst (λ z. Contains z at) n d)) | inr d ↦ d ];
  done = λ at h. elim (w.fresh at h) [ inl d ↦ let t = rw e at d in let m = nothing_seen units at in absurd (cc) | inr d ↦ inl d ];
}

explored_kept : (code : Code) (old new : List Bool) (at : ℕ) → Keeps old new → IsExplored code old at → IsExplored code new at
explored_kept code old new at k h = record {
  goes = λ placed e. tos_kept old new (successors code placed) k (h.goes placed e);
  throws = λ placed e. all_kept old new (handlers code placed) k (h.throws placed e);
}

module _ (code : Code) (seen : List Bool) (next rest : List ℕ) (at : ℕ) (f : Follows code (record { seen = seen; next = next })) (e : next ≡ rest ++ at ∷ []) where
  pub last_seen : seen_at seen at ≡ true
  last_seen = f.waits at (subst (λ z. Contains z at) (sym e) (Contains-push rest at))

  pub last_reached : Reaches code at
  last_reached = (f.reached.each at last_seen).0

  pub rest_reached : AreReached code (record { seen = seen; next = rest })
  rest_reached = record { long = f.reached.long; each = f.reached.each }

  pub follows_next : (new : Frontier) → Widens (record { seen = seen; next = rest }) new → AreReached code new → IsExplored code new.seen at → Follows code new
  follows_next new w r x = record {
    reached = r;
    start = w.keeps 0 f.start;
    waits = λ other c. elim (w.queued other c) [
      | inl d ↦ w.keeps other (f.waits other (subst (λ z. Contains z other) (sym e) (Contains-append_left rest (at ∷ []) other d)))
      | inr d ↦ d
    ];
    done = λ other h. elim (w.fresh other h) [
      | inl d ↦ elim (f.done other d) [
        | inl y ↦ elim (Contains-push_cases rest at other (subst (λ z. Contains z other) e y)) [
          | inl z ↦ inl (w.waits other z)
          | inr z ↦ inr (subst (IsExplored code new.seen) z x)
        ]
        | inr y ↦ inr (explored_kept code seen new.seen other w.keeps y)
      ]
      | inr d ↦ inl d
    ];
  }

  pub room_falls : (new : Frontier) → Widens (record { seen = seen; next = rest }) new → room new < room (record { seen = seen; next = next })
  unfolding room
  room_falls new w = let l = w.room in let n = ap length e ∙ length_push rest at in omega arith

module _ (code : Code) (it : Frontier) (f : Follows code it) (e : it.next ≡ []) where
  is_explored : (at : ℕ) → seen_at it.seen at ≡ true → IsExplored code it.seen at
  is_explored at h = elim (f.done at h) [ inl c ↦ absurd (none_in at (subst (λ z. Contains z at) e c)) | inr x ↦ x ]

  all_seen : {at : ℕ} → Reaches code at → seen_at it.seen at ≡ true
  all_seen first = f.start
  all_seen (on {at = at} {to = to} {placed = placed} r s c) = All-contains (IsSeen it.seen) (successors code placed) (Some to) ((is_explored at (all_seen r)).goes placed s) c
  all_seen (caught {at = at} {placed = placed} {catch = catch} r s c) = All-contains (λ (k : Catch). seen_at it.seen k.at ≡ true) (handlers code placed) catch ((is_explored at (all_seen r)).throws placed s) c

  pub stays : StaysWithin code
  stays at r = (f.reached.each at (all_seen r)).1
