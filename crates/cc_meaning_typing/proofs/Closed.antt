-- Where control goes from an instruction that it reaches.
use Rattle.std.proofs.Common.{◌≡◌, inl, inr, ℕ, ◌+◌, ◌<◌, ◌==◌, List, [], ◌∷◌, Option, Some, None, refl, subst, slice_index_or}
use Rattle.std.specs.Prelude.{All, Contains}
use Rattle.std.proofs.lemmas.List.Elements.{All-nil, All-cons, All-contains, Contains-get_or}
use Rattle.cc_meaning.specs.declared.instruction.Insn.{Insn}
use Rattle.cc_meaning.specs.declared.instruction.Insn.TheVariants as insn
use Rattle.cc_meaning.specs.declared.program.Catch.{Catch}
use Rattle.cc_meaning.specs.declared.program.Code.{Code}
use Rattle.cc_meaning.specs.declared.program.Placed.{Placed}
use Rattle.cc_meaning_typing.specs.Code.{Body, address, placed_at, insn_of, insn_at, case_targets, successors_of, successors, handlers}
use Rattle.cc_meaning_typing.specs.WellTyped.{IsInsn, IsTarget, HasTargets, Reaches, on, caught}
use Rattle.cc_meaning_typing.specs.Tries.{units_of}
use Rattle.cc_meaning_typing.specs.VerifyLaws.{IsClosed}
use Rattle.cc_meaning_typing.proofs.Reading.{test_eq, found_stands}

-- an address, and not one before the first
abbrev IsThere : Option ℕ → Type 0
IsThere None = ⊥
IsThere (Some to) = Unit {0}

target_there : (code : Code) (to : Option ℕ) → IsTarget code to → IsThere to
unfolding insn_at
target_there code None h = h
target_there code (Some to) h = tt

targets_there : (code : Code) (tos : List (Option ℕ)) → All (IsTarget code) tos → All IsThere tos
targets_there code tos h = λ k d l. target_there code (slice_index_or tos k d) (h k d l)

one_there : (next : ℕ) → All IsThere (Some next ∷ [])
one_there next = All-cons IsThere (Some next) [] tt (All-nil IsThere)

successors_there : (code : Code) (at next : ℕ) (i : Insn) → HasTargets code at i → All IsThere (successors_of code at next i)
unfolding successors_of
successors_there code at next insn.ReturnVoid h = All-nil IsThere
successors_there code at next (insn.Return kind from) h = All-nil IsThere
successors_there code at next (insn.Throw object) h = All-nil IsThere
successors_there code at next (insn.Goto target) h = All-cons IsThere (address at target) [] (target_there code (address at target) h) (All-nil IsThere)
successors_there code at next (insn.If test left right target) h =
    All-cons IsThere (Some next) (address at target ∷ []) tt (All-cons IsThere (address at target) [] (target_there code (address at target) h) (All-nil IsThere))
successors_there code at next (insn.IfZero test value target) h =
    All-cons IsThere (Some next) (address at target ∷ []) tt (All-cons IsThere (address at target) [] (target_there code (address at target) h) (All-nil IsThere))
successors_there code at next (insn.Switch packed value target) h =
    All-cons IsThere (Some next) (case_targets code at packed target) tt (targets_there code (case_targets code at packed target) h.1)
successors_there code at next (insn.PackedPayload key targets) h = All-nil IsThere
successors_there code at next (insn.SparsePayload keys targets) h = All-nil IsThere
successors_there code at next (insn.ArrayPayload width bytes) h = All-nil IsThere
successors_there code at next i h = one_there next

-- what is found at an address is an instruction of the code, at that address
pub placed_stands : (code : Code) (at : ℕ) (placed : Placed) → placed_at code at ≡ Some placed → Contains code.insns placed × (placed.at ≡ at)
unfolding placed_at
placed_stands code at placed e =
    let f = found_stands (λ (p : Placed). p.at == at) code.insns placed e in
    (f.0, elim (test_eq placed.at at) [ inl t ↦ t.1 | inr t ↦ let g = f.1 in let k = t.0 in absurd (cc) ])

insn_stands : (o : Option Placed) → IsInsn (insn_of o) → (placed : Placed) × (o ≡ Some placed)
unfolding insn_of
insn_stands None h = absurd h
insn_stands (Some placed) h = (placed, refl)

pub target_stands : (code : Code) (at : ℕ) → IsTarget code (Some at) → (placed : Placed) × (placed_at code at ≡ Some placed)
unfolding insn_at
target_stands code at h = insn_stands (placed_at code at) h

-- control can come to an address
abbrev pub Comes : Code → Option ℕ → Type 0
Comes code None = ⊥
Comes code (Some to) = Reaches code to

comes_in : (code : Code) (to : Option ℕ) → IsThere to → ((there : ℕ) → to ≡ Some there → Reaches code there) → Comes code to
comes_in code None h r = h
comes_in code (Some to) h r = r to refl

module _ (body : Body) (closed : IsClosed body) where
  pub inside : (at : ℕ) → Reaches body.code at → at < units_of body.code
  inside at r = let p = target_stands body.code at (closed.stays at r) in closed.within at p.0 p.1

  pub successors_come : (at : ℕ) (placed : Placed) → Reaches body.code at → placed_at body.code at ≡ Some placed → All (Comes body.code) (successors body.code placed)
  unfolding successors
  successors_come at placed r e =
      let s = placed_stands body.code at placed e in
      let t = All-contains (λ (p : Placed). HasTargets body.code p.at p.insn) body.code.insns placed closed.targets.branches s.0 in
      let tos = successors body.code placed in
      let there = successors_there body.code placed.at (placed.at + placed.units) placed.insn t in
      λ k d l. comes_in body.code (slice_index_or tos k d) (there k d l) (λ to f. on r e (subst (λ z. Contains tos z) f (Contains-get_or tos k d l)))

  pub handlers_come : (at : ℕ) (placed : Placed) → Reaches body.code at → placed_at body.code at ≡ Some placed → All (λ (catch : Catch). Reaches body.code catch.at) (handlers body.code placed)
  handlers_come at placed r e =
      let catches = handlers body.code placed in
      λ k d l. caught r e (Contains-get_or catches k d l)
