-- The laws of the evaluator.
use Rattle.std.specs.Prelude.{◌≡◌, ℕ, ◌≤◌, List}
use Rattle.cc_meaning.specs.declared.value.Value.{Value}
use Rattle.cc_meaning_run.specs.World.{Setting, World, Stack, Locals}
use Rattle.cc_meaning_run.specs.Eval.{Reply, Here, Answer, Hook, eval_with}

-- an answer has at most n instructions left
abbrev pub KeepsLeft : {T : Type 0} → ℕ → Reply T → Type 0
KeepsLeft n (Here t) = Unit {0}
KeepsLeft n (Answer e w t) = w.counters.instructions ≤ n

-- no answer of the hook gives instructions back
abbrev pub HookSpends : {T : Type 0} → Hook T → Type 0
HookSpends {T} hook = (m : ℕ) (args : List Value) (stack : Stack) (w : World) (t : T) → KeepsLeft w.counters.instructions (hook.entry m args stack w t)

-- any bound that is large enough gives the same
abbrev pub BoundFree : {T : Type 0} → Hook T → Setting → Type 0
BoundFree {T} hook s = (n k m pc : ℕ) (locals : Locals) (stack : Stack) (w : World) (t : T) → w.counters.instructions ≤ n → w.counters.instructions ≤ k →
    eval_with hook s n m pc locals stack w t ≡ eval_with hook s k m pc locals stack w t
