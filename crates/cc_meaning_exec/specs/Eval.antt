-- What a method does, to its end.
use Rattle.std.specs.Prelude.{ℕ, zero, suc, Bool, true, false, List, [], ◌∷◌, Option, Some, None}
use Rattle.cc_meaning.specs.declared.program.Program.{Program}
use Rattle.cc_meaning.specs.declared.report.StopCause.TheVariants as cause
use Rattle.cc_meaning.specs.declared.script.Script.{Script}
use Rattle.cc_meaning.specs.declared.value.Value.{Value}
use Rattle.cc_meaning_world.specs.World.{World, Stack}
use Rattle.cc_meaning_world.specs.Changes.{with_instructions, with_status, with_statuses}
use Rattle.cc_meaning_world.specs.Acts.{Outcome, Next, Enter, Returns, Throws, Stops, Stuck, Reached, run_act}
use Rattle.cc_meaning_exec.specs.Instructions.{act_at}
use Rattle.cc_meaning_exec.specs.Frames.{Frame, moved, resumed, handling, frame_for, room_for}
use Rattle.cc_meaning_exec.specs.Exceptions.{End, Returned, Thrown, Stopped, Jammed, Raised, overflow, handler_for}
use Rattle.cc_meaning_exec.specs.Starts.{ready, Climbed, starting, put_statics, initialiser_of, start_failed, start_refused}

-- an end, the world, and what the hook keeps
pub data Ran (T : Type 0) : Type 0 where
  ran : End → World → T → Ran T

-- evaluate here, or take this end and this world
pub data Reply (T : Type 0) : Type 0 where
  Here : T → Reply T
  Answer : End → World → T → Reply T

-- What accompanies a run. `entry` is asked at each entry of a method with code, after its class was started and before its frame is made, with its arguments
-- and the frames that stand. The others are told: `spent` of the method of each instruction as it is spent, before a class is started for it; `called` of the
-- method of each recorded call or print that is attempted; `ended` of each return and throw of a method that was entered here, also of one whose frame found no
-- room. A stop is the run's end and no method's.
pub record Hook (T : Type 0) : Type 0 where
  pub entry : (method : ℕ) → List Value → Stack → World → T → Reply T
  pub spent : (method : ℕ) → T → T
  pub called : (method : ℕ) → T → T
  pub ended : (method : ℕ) → End → World → T → T

-- what a method does from a frame on
abbrev pub Go : Type 0 → Type 0
Go T = Frame → World → T → Ran T

-- ---- exceptions

unfoldable pub caught : {T : Type 0} → Go T → Frame → (object : ℕ) → Option ℕ → World → T → Ran T
caught go f a None w t = ran (Thrown a) w t
caught go f a (Some target) w t = go (handling f target a) w t

-- an exception goes to a handler of the method, or out of it
unfoldable pub thrown : {T : Type 0} → Go T → Program → Frame → (object : ℕ) → World → T → Ran T
thrown go p f a w t = caught go f a (handler_for p w a f) w t

-- an exception or a stop comes up in a frame
unfoldable pub failing : {T : Type 0} → Go T → Program → Frame → End → World → T → Ran T
failing go p f (Returned v) w t = ran Jammed w t
failing go p f (Thrown a) w t = thrown go p f a w t
failing go p f (Stopped c) w t = ran (Stopped c) w t
failing go p f Jammed w t = ran Jammed w t

-- ---- calls

-- the end of a call is the caller's to go on from: with the result pending, or at a handler
unfoldable pub resume : {T : Type 0} → Go T → Program → Frame → (next : ℕ) → Ran T → Ran T
resume go p f next (ran (Returned v) w t) = go (resumed f next v) w t
resume go p f next (ran (Thrown a) w t) = thrown go p f a w t
resume go p f next (ran (Stopped c) w t) = ran (Stopped c) w t
resume go p f next (ran Jammed w t) = ran Jammed w t

-- a return and a throw are told
unfoldable pub told : {T : Type 0} → Hook T → (method : ℕ) → Ran T → Ran T
told hook m (ran (Returned v) w t) = ran (Returned v) w (hook.ended m (Returned v) w t)
told hook m (ran (Thrown a) w t) = ran (Thrown a) w (hook.ended m (Thrown a) w t)
told hook m (ran (Stopped c) w t) = ran (Stopped c) w t
told hook m (ran Jammed w t) = ran Jammed w t

unfoldable pub as_ran : {T : Type 0} → Raised → T → Ran T
as_ran r t = ran r.end r.world t

-- a method's code from its start, or an exception where its frame finds no room
unfoldable pub body_if : {T : Type 0} → Bool → Go T → Script → Program → (method : ℕ) → List Value → Stack → World → T → Ran T
body_if true go script p m args stack w t = go (frame_for p m args stack) w t
body_if false go script p m args stack w t = as_ran (overflow script p w) t

unfoldable pub body : {T : Type 0} → Go T → Script → Program → (method : ℕ) → List Value → Stack → World → T → Ran T
body go script p m args stack w t = body_if (room_for p m stack) go script p m args stack w t

unfoldable pub replied : {T : Type 0} → Hook T → Go T → Script → Program → (method : ℕ) → List Value → Stack → World → Reply T → Ran T
replied hook go script p m args stack w (Here t) = told hook m (body go script p m args stack w t)
replied hook go script p m args stack w (Answer e w' t) = ran e w' t

-- a method with code is called: it is evaluated here, or the hook has its end
unfoldable pub call : {T : Type 0} → Hook T → Go T → Script → Program → (method : ℕ) → List Value → Stack → World → T → Ran T
call hook go script p m args stack w t = replied hook go script p m args stack w (hook.entry m args stack w t)

-- ---- an instruction

-- where an instruction led
unfoldable pub after : {T : Type 0} → Hook T → Go T → Script → Program → Frame → Outcome → World → T → Ran T
after hook go script p f (Next pc locals) w t = go (moved f pc locals) w t
after hook go script p f (Enter m args next) w t = resume go p f next (call hook go script p m args f.stack w t)
after hook go script p f (Returns v) w t = ran (Returned v) w t
after hook go script p f (Throws a) w t = thrown go p f a w t
after hook go script p f (Stops c) w t = ran (Stopped c) w t
after hook go script p f Stuck w t = ran Jammed w t

unfoldable pub told_calls : {T : Type 0} → Hook T → List ℕ → T → T
told_calls hook [] t = t
told_calls hook (m ∷ ms) t = told_calls hook ms (hook.called m t)

unfoldable pub after_acts : {T : Type 0} → Hook T → Go T → Script → Program → Frame → Reached → T → Ran T
after_acts hook go script p f r t = after hook go script p f r.outcome r.world (told_calls hook r.called t)

-- what the instruction at a frame's address does
unfoldable pub acts_at : Script → Program → Frame → World → Reached
acts_at script p f w = run_act script p (act_at p f.method f.pc f.locals) w

-- ---- the start of classes

-- what comes of an exception or a stop in a start
abbrev pub Fails : Type 0 → Type 0
Fails T = End → World → T → Ran T

-- an initialiser ended: the class is ready and the rest is started, or it has failed, and those that wait for it
unfoldable pub initialised : {T : Type 0} → Script → Program → Fails T → (class : ℕ) → List ℕ → (World → T → Ran T) → Ran T → Ran T
initialised script p fail c cs further (ran (Returned v) w t) = further (with_status w c ready) t
initialised script p fail c cs further (ran (Thrown a) w t) = let r = start_failed script p c cs a w in fail r.end r.world t
initialised script p fail c cs further (ran (Stopped s) w t) = ran (Stopped s) w t
initialised script p fail c cs further (ran Jammed w t) = ran Jammed w t

-- a class without an initialiser is ready
unfoldable pub initialise : {T : Type 0} → Hook T → Go T → Script → Program → Stack → Fails T → (class : ℕ) → List ℕ → (World → T → Ran T) → Option ℕ → World → T → Ran T
initialise hook go script p stack fail c cs further None w t = further (with_status w c ready) t
initialise hook go script p stack fail c cs further (Some m) w t = initialised script p fail c cs further (call hook go script p m [] stack w t)

-- the values of a class were put, or there were too few words for a text among them
unfoldable pub valued : {T : Type 0} → Hook T → Go T → Script → Program → Stack → Fails T → (class : ℕ) → List ℕ → (World → T → Ran T) → End → World → T → Ran T
valued hook go script p stack fail c cs further (Returned v) w t = initialise hook go script p stack fail c cs further (initialiser_of p c) w t
valued hook go script p stack fail c cs further (Thrown a) w t = ran Jammed w t
valued hook go script p stack fail c cs further (Stopped s) w t = ran (Stopped s) w t
valued hook go script p stack fail c cs further Jammed w t = ran Jammed w t

unfoldable pub valued_in : {T : Type 0} → Hook T → Go T → Script → Program → Stack → Fails T → (class : ℕ) → List ℕ → (World → T → Ran T) → Raised → T → Ran T
valued_in hook go script p stack fail c cs further r t = valued hook go script p stack fail c cs further r.end r.world t

-- These classes are started, one after the other, and then it goes on. Of each one the stated values are put, and then its initialiser runs.
unfoldable pub starts : {T : Type 0} → Hook T → Go T → Script → Program → Stack → Fails T → (World → T → Ran T) → List ℕ → World → T → Ran T
starts hook go script p stack fail further [] w t = further w t
starts hook go script p stack fail further (c ∷ cs) w t = valued_in hook go script p stack fail c cs (starts hook go script p stack fail further cs) (put_statics script p c w) t

-- these classes are started, and then the instruction at the frame's address acts
unfoldable pub started : {T : Type 0} → Hook T → Go T → Script → Program → Frame → List ℕ → World → T → Ran T
started hook go script p f cs w t = starts hook go script p f.stack (failing go p f) (λ w' t'. after_acts hook go script p f (acts_at script p f w') t') cs w t

-- the classes that are to be started are in progress; where a failed one stands above them, they fail
unfoldable pub opened_if : {T : Type 0} → Bool → Script → Program → Fails T → (List ℕ → World → T → Ran T) → Climbed → World → T → Ran T
opened_if true script p fail further k w t = let r = start_refused script p k.todo (with_statuses w k.statuses) in fail r.end r.world t
opened_if false script p fail further k w t = further k.todo (with_statuses w k.statuses) t

unfoldable pub opened : {T : Type 0} → Script → Program → Fails T → (List ℕ → World → T → Ran T) → Climbed → World → T → Ran T
opened script p fail further k w t = opened_if k.refused script p fail further k w t

-- ---- a turn

-- each instruction takes one from the instructions left, before classes are started for it and before it acts
unfoldable pub turn : {T : Type 0} → Hook T → Go T → Script → Program → Frame → (left : ℕ) → World → T → Ran T
turn hook go script p f zero w t = ran (Stopped cause.Budget) w t
turn hook go script p f (suc k) w t = opened script p (failing go p f) (started hook go script p f) (starting p f w) (with_instructions w k) (hook.spent f.method t)

-- what a method does from a frame on; the bound is at least the instructions left, and which one it is doesn't matter
unfoldable pub eval_with : {T : Type 0} → Hook T → Script → Program → (bound : ℕ) → Go T
eval_with hook script p zero f w t = ran (Stopped cause.Budget) w t
eval_with hook script p (suc n) f w t = turn hook (eval_with hook script p n) script p f w.counters.instructions w t
