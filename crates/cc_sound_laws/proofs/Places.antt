-- Where a method stands: its code, and the instruction at an address.
use Rattle.std.proofs.Common.{◌≡◌, inl, inr, ℕ, ◌==◌, Bool, true, false, cond, List, [], ◌∷◌, Option, Some, None, refl, subst, slice_get}
use Rattle.std.specs.Prelude.{find}
use Rattle.cc_meaning.specs.declared.program.Code.{Code}
use Rattle.cc_meaning.specs.declared.program.Method.{Method}
use Rattle.cc_meaning.specs.declared.program.MethodKind.TheVariants as kinds
use Rattle.cc_meaning.specs.declared.program.Placed.{Placed}
use Rattle.cc_meaning.specs.declared.program.Program.{Program}
use Rattle.cc_meaning_typing.specs.Code.{placed_at}
use Rattle.cc_meaning_typing.proofs.Tree.{test_eq}
use Rattle.cc_meaning_exec.specs.Instructions.{code_of, code_of_method, code_of_kind}

placed_test : (at : ℕ) (ps : List Placed) (placed : Placed) → find (λ (x : Placed). x.at == at) ps ≡ Some placed → placed.at ≡ at
placed_test at [] placed e = absurd (cc)
placed_test at (x ∷ ps) placed e = by (x.at == at) refl e (placed_test at ps placed)
  where
    by : (b : Bool) → (x.at == at) ≡ b → cond b (Some x) (find (λ (y : Placed). y.at == at) ps) ≡ Some placed → (find (λ (y : Placed). y.at == at) ps ≡ Some placed → placed.at ≡ at) → placed.at ≡ at
    by true t e ih = let same_placed : x ≡ placed = cc in subst (λ (z : Placed). z.at ≡ at) same_placed (elim (test_eq x.at at) [ inl q ↦ q.1 | inr q ↦ absurd (let f = q.0 in cc) ])
    by false t e ih = ih e

pub placed_here : (code : Code) (at : ℕ) (placed : Placed) → placed_at code at ≡ Some placed → placed.at ≡ at
unfolding placed_at
placed_here code at placed e = placed_test at code.insns placed e

pub code_is : (p : Program) (m : ℕ) (method : Method) (code : Code) → slice_get p.methods m ≡ Some method → method.kind ≡ kinds.Code code → code_of p m ≡ Some code
unfolding code_of code_of_method code_of_kind
code_is p m method code e k = rw e (rw k refl)
