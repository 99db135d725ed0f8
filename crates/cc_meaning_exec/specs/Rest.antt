-- What is left to do of a state.
use Rattle.std.specs.Prelude.{ℕ, List, [], ◌∷◌}
use Rattle.cc_meaning.specs.declared.program.Program.{Program}
use Rattle.cc_meaning.specs.declared.script.Script.{Script}
use Rattle.cc_meaning_exec.specs.Frames.{Frame}
use Rattle.cc_meaning_exec.specs.Eval.{Ran, ran, Hook, Go, resume, told, call, failing, initialised, started, eval_with}
use Rattle.cc_meaning_exec.specs.Runs.{launched}
use Rattle.cc_meaning_exec.specs.States.{Wait, Result, Start, Waiting, Base, Bare, Opening, Frames, State, Running, Starting, Calling, Ending, Launching}

-- an end is given to the frame that waits for it
unfoldable pub given_to : {T : Type 0} → Hook T → Go T → Script → Program → Frame → Wait → Ran T → Ran T
given_to hook go script p f (Result next) r = resume go p f next r
given_to hook go script p f (Start c cs) r = initialised script p (failing go p f) c cs (started hook go script p f cs) r

unfoldable pub given_base : {T : Type 0} → Hook T → Go T → Script → Program → Base → Ran T → Ran T
given_base hook go script p Bare r = r
given_base hook go script p (Opening c cs m args) r = initialised script p ran c cs (launched hook go script p m args cs) r

-- an end is given to the uppermost frame, its end to the frame below, and so on
unfoldable pub unwind_list : {T : Type 0} → Hook T → Go T → Script → Program → List Waiting → Base → Ran T → Ran T
unwind_list hook go script p [] base r = given_base hook go script p base r
unwind_list hook go script p (x ∷ xs) base r = unwind_list hook go script p xs base (told hook x.frame.method (given_to hook go script p x.frame x.wait r))

unfoldable pub unwind : {T : Type 0} → Hook T → Go T → Script → Program → Frames → Ran T → Ran T
unwind hook go script p frames r = unwind_list hook go script p frames.waiting frames.base r

-- the code of the uppermost frame from where it stands, or what is to be done first, and its end given to the frames below
unfoldable pub rest : {T : Type 0} → Hook T → Script → Program → (bound : ℕ) → State → T → Ran T
rest hook script p n (Running f frames w) t = unwind hook (eval_with hook script p n) script p frames (told hook f.method (eval_with hook script p n f w t))
rest hook script p n (Starting cs f frames w) t = unwind hook (eval_with hook script p n) script p frames (told hook f.method (started hook (eval_with hook script p n) script p f cs w t))
rest hook script p n (Calling m args stack frames w) t = unwind hook (eval_with hook script p n) script p frames (call hook (eval_with hook script p n) script p m args stack w t)
rest hook script p n (Ending e frames w) t = unwind hook (eval_with hook script p n) script p frames (ran e w t)
rest hook script p n (Launching cs m args w) t = launched hook (eval_with hook script p n) script p m args cs w t
