-- A run with a hook that answers entries as the methods would end here reports what the run on one heap reports.
use Rattle.std.specs.Prelude.{◌≡◌, ℕ, false, List, ◌++◌}
use Rattle.cc_meaning.specs.declared.value.Value.{Value}
use Rattle.cc_meaning.specs.declared.report.Limits.{Limits}
use Rattle.cc_meaning.specs.declared.frame.Frame.{Frame}
use Rattle.cc_meaning_run.specs.World.{Setting, World, Stack}
use Rattle.cc_meaning_run.specs.Eval.{Ran, ran, Reply, Here, Answer, Hook, body, eval_with}
use Rattle.cc_meaning_run.specs.Laws.{HookSpends}
use Rattle.cc_meaning_run.specs.Local.{run_with, report_of, local}
use Rattle.cc_meaning_images.specs.Instance.{silent}
use Rattle.cc_meaning_device.specs.Received.{Device, receiver, offloaded}

-- what a hook keeps at the end of a run
abbrev pub at_end : {T : Type 0} → Ran T → T
at_end (ran e w t) = t

-- The method is evaluated here, or it is answered as it would end here. `Leads` says of what is kept that it leads to the end that is asked about: an
-- answer may be right only for what is noted later.
abbrev pub IsRight : {T : Type 0} → Setting → (T → Type 0) → (method : ℕ) → List Value → Stack → World → T → Reply T → Type 0
IsRight s Leads m args stack w t (Here t') = Leads t' → Leads t
IsRight s Leads m args stack w t (Answer e w' t') = Leads t' → Leads t × (body (eval_with silent s w.counters.instructions) s m args stack w tt ≡ ran e w' tt)

pub record Faithful {T : Type 0} (hook : Hook T) (s : Setting) (Leads : T → Type 0) : Type 0 where
  pub entry : (m : ℕ) (args : List Value) (stack : Stack) (w : World) (t : T) → IsRight s Leads m args stack w t (hook.entry m args stack w t)
  pub turned : (depth : ℕ) (called : List ℕ) (t : T) → Leads (hook.turned depth called t) → Leads t

-- no answer gives instructions back, every answer is right, and so is the report
abbrev pub FaithfulReports : {T : Type 0} → Hook T → Setting → (T → Type 0) → Type 0
FaithfulReports {T} hook s Leads = HookSpends hook → Faithful hook s Leads → (args : List (List ℕ)) (limits : Limits) (t : T) →
    Leads (at_end (run_with hook s args limits t)) → report_of limits (run_with hook s args limits t) ≡ local s args limits

-- ---- the same, where an answer need be right only while something holds of what is kept

-- what a reply leaves
abbrev pub left_by : {T : Type 0} → Reply T → T
left_by (Here t) = t
left_by (Answer e w t) = t

-- each entry and each instruction keeps what holds, and while it holds every answer is right
pub record FaithfulWhile {T : Type 0} (hook : Hook T) (s : Setting) (Holds Leads : T → Type 0) : Type 0 where
  pub kept : (m : ℕ) (args : List Value) (stack : Stack) (w : World) (t : T) → Holds t → Holds (left_by (hook.entry m args stack w t))
  pub entry : (m : ℕ) (args : List Value) (stack : Stack) (w : World) (t : T) → Holds t → IsRight s Leads m args stack w t (hook.entry m args stack w t)
  pub still : (depth : ℕ) (called : List ℕ) (t : T) → Holds t → Holds (hook.turned depth called t)
  pub turned : (depth : ℕ) (called : List ℕ) (t : T) → Holds t → Leads (hook.turned depth called t) → Leads t

-- where it holds at the start
abbrev pub FaithfulFrom : {T : Type 0} → Hook T → Setting → (Holds Leads : T → Type 0) → Type 0
FaithfulFrom {T} hook s Holds Leads = HookSpends hook → FaithfulWhile hook s Holds Leads → (args : List (List ℕ)) (limits : Limits) (t : T) → Holds t →
    Leads (at_end (run_with hook s args limits t)) → report_of limits (run_with hook s args limits t) ≡ local s args limits

-- it leads there where all that was noted so far stands first in what is noted at the end
abbrev pub LeadsTo : {T A : Type 0} → (T → List A) → (noted : List A) → T → Type 0
LeadsTo {T} {A} note noted t = (rest : List A) × (note t ++ rest ≡ noted)

-- two things that are told of what is kept agree
abbrev pub Agrees : {T B : Type 0} → (left right : T → B) → T → Type 0
Agrees left right t = left t ≡ right t

-- ---- the run over received frames

abbrev pub ReceiverSpends : Type 0
ReceiverSpends = (d : Device) → HookSpends (receiver d)

-- whatever frames come
abbrev pub NothingMoved : Type 0
NothingMoved = (d : Device) (s : Setting) (args : List (List ℕ)) (limits : Limits) (frames : List Frame) → ((m : ℕ) → d.moves m ≡ false) →
    (offloaded d s args limits frames).report ≡ local s args limits
