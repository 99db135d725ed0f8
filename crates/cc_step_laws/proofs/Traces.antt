-- What one step tells, and what traces of many steps come to.
use Rattle.std.proofs.Common.{◌≡◌, ℕ, zero, suc, ◌+◌, ◌≤◌, List, [], ◌∷◌, ◌++◌, map, Bool, true, false, Option, Some, None, refl, sym, ap, ◌∙◌, subst, arith, append_assoc}
use Rattle.std.proofs.lemmas.List.{append-nil}
use Rattle.cc_meaning.specs.declared.program.Program.{Program}
use Rattle.cc_meaning.specs.declared.script.Script.{Script}
use Rattle.cc_meaning.specs.declared.value.Value.{Value}
use Rattle.cc_meaning_world.specs.World.{World, Stack}
use Rattle.cc_meaning_world.specs.Changes.{with_instructions}
use Rattle.cc_meaning_world.specs.Acts.{Outcome, Next, Enter, Returns, Throws, Stops, Stuck}
use Rattle.cc_meaning_exec.specs.Frames.{Frame, room_for}
use Rattle.cc_meaning_exec.specs.Exceptions.{End, Returned, Thrown, Stopped, Jammed, handler_for}
use Rattle.cc_meaning_exec.specs.Starts.{Climbed, starting, put_statics, initialiser_of}
use Rattle.cc_meaning_exec.specs.Eval.{acts_at}
use Rattle.cc_meaning_exec.specs.States.{Wait, Result, Start, Waiting, Base, Bare, Opening, Frames, standing, State, Running, Starting, Calling, Ending, Launching, Mark, Entered, Spent, Called, Ended}
use Rattle.cc_meaning_exec.specs.Steps.{Stepped, step_caught, step_thrown, step_failing, step_after, marked_calls, step_acts, step_initialise, step_valued, step_valued_in, step_starting, step_opened, step_spent, step_running, step_unentered, step_body, step_calling, step_given, step_base, step_ending_to, step_ending, step_launch, step_launch_valued, step_launch_in, step_launching, step, Leads, stays, goes}
use Rattle.cc_meaning_exec.specs.Traces.{spent_in, steps_in, Each, spends, first_told, calls_by, top_of, leaver, ended_by, last_told, weight}
use Rattle.cc_step_laws.proofs.Weights.{step_falls}

-- the step tells nothing but an end of this method
abbrev Ends : Option ℕ → Stepped → Type 0
Ends o s = s.marks ≡ ended_by o s.state

caught_ends : (f : Frame) (a : ℕ) (o : Option ℕ) (frames : Frames) (w : World) → Ends (Some f.method) (step_caught f a o frames w)
unfolding step_caught
caught_ends f a None frames w = refl
caught_ends f a (Some target) frames w = refl

thrown_ends : (p : Program) (f : Frame) (a : ℕ) (frames : Frames) (w : World) → Ends (Some f.method) (step_thrown p f a frames w)
unfolding step_thrown
thrown_ends p f a frames w = caught_ends f a (handler_for p w a f) frames w

failing_ends : (p : Program) (f : Frame) (e : End) (frames : Frames) (w : World) → Ends (Some f.method) (step_failing p f e frames w)
unfolding step_failing
failing_ends p f (Returned v) frames w = refl
failing_ends p f (Thrown a) frames w = thrown_ends p f a frames w
failing_ends p f (Stopped c) frames w = refl
failing_ends p f Jammed frames w = refl

after_ends : (p : Program) (f : Frame) (frames : Frames) (o : Outcome) (w : World) → Ends (Some f.method) (step_after p f frames o w)
unfolding step_after
after_ends p f frames (Next pc locals) w = refl
after_ends p f frames (Enter m args next) w = refl
after_ends p f frames (Returns v) w = refl
after_ends p f frames (Throws a) w = thrown_ends p f a frames w
after_ends p f frames (Stops c) w = refl
after_ends p f frames Stuck w = refl

calls_end : (m : ℕ) (ms : List ℕ) (s : Stepped) → Ends (Some m) s → (marked_calls ms s).marks ≡ map Called ms ++ ended_by (Some m) (marked_calls ms s).state
unfolding marked_calls
calls_end m [] s h = h
calls_end m (x ∷ ms) s h = ap (λ l. Called x ∷ l) (calls_end m ms s h)

initialise_ends : (f : Frame) (frames : Frames) (c : ℕ) (cs : List ℕ) (o : Option ℕ) (w : World) → Ends (Some f.method) (step_initialise f frames c cs o w)
unfolding step_initialise
initialise_ends f frames c cs None w = refl
initialise_ends f frames c cs (Some m) w = refl

valued_ends : (p : Program) (f : Frame) (frames : Frames) (c : ℕ) (cs : List ℕ) (e : End) (w : World) → Ends (Some f.method) (step_valued p f frames c cs e w)
unfolding step_valued
valued_ends p f frames c cs (Returned v) w = initialise_ends f frames c cs (initialiser_of p c) w
valued_ends p f frames c cs (Thrown a) w = refl
valued_ends p f frames c cs (Stopped s) w = refl
valued_ends p f frames c cs Jammed w = refl

opened_ends : (b : Bool) (script : Script) (p : Program) (f : Frame) (frames : Frames) (k : Climbed) (w : World) → Ends (Some f.method) (step_opened b script p f frames k w)
unfolding step_opened
opened_ends true script p f frames k w = failing_ends p f _ frames _
opened_ends false script p f frames k w = refl

running_ends : (script : Script) (p : Program) (f : Frame) (frames : Frames) (left : ℕ) (w : World) →
    (step_running script p f frames left w).marks ≡ spends f.method left ++ ended_by (Some f.method) (step_running script p f frames left w).state
unfolding step_running step_spent
running_ends script p f frames zero w = refl
running_ends script p f frames (suc left) w = ap (λ l. Spent f.method ∷ l) (opened_ends (starting p f w).refused script p f frames (starting p f w) (with_instructions w left))

unentered_ends : (m : ℕ) (e : End) (frames : Frames) (w : World) → Ends (Some m) (step_unentered m e frames w)
unfolding step_unentered
unentered_ends m (Stopped c) frames w = refl
unentered_ends m (Returned v) frames w = refl
unentered_ends m (Thrown a) frames w = refl
unentered_ends m Jammed frames w = refl

body_ends : (b : Bool) (script : Script) (p : Program) (m : ℕ) (args : List Value) (stack : Stack) (frames : Frames) (w : World) → Ends (Some m) (step_body b script p m args stack frames w)
unfolding step_body
body_ends true script p m args stack frames w = refl
body_ends false script p m args stack frames w = unentered_ends m _ frames _

given_ends : (script : Script) (p : Program) (f : Frame) (wait : Wait) (e : End) (frames : Frames) (w : World) → Ends (Some f.method) (step_given script p f wait e frames w)
unfolding step_given
given_ends script p f (Result next) (Stopped s) frames w = refl
given_ends script p f (Start c cs) (Stopped s) frames w = refl
given_ends script p f (Result next) Jammed frames w = refl
given_ends script p f (Start c cs) Jammed frames w = refl
given_ends script p f (Result next) (Returned v) frames w = refl
given_ends script p f (Result next) (Thrown a) frames w = thrown_ends p f a frames w
given_ends script p f (Start c cs) (Returned v) frames w = refl
given_ends script p f (Start c cs) (Thrown a) frames w = failing_ends p f _ frames _

base_ends : (script : Script) (p : Program) (e : End) (base : Base) (w : World) → (step_base script p e base w).marks ≡ []
unfolding step_base
base_ends script p e Bare w = refl
base_ends script p (Returned v) (Opening c cs m args) w = refl
base_ends script p (Thrown a) (Opening c cs m args) w = refl
base_ends script p (Stopped s) (Opening c cs m args) w = refl
base_ends script p Jammed (Opening c cs m args) w = refl

launch_ends : (c : ℕ) (cs : List ℕ) (m : ℕ) (args : List Value) (o : Option ℕ) (w : World) → (step_launch c cs m args o w).marks ≡ []
unfolding step_launch
launch_ends c cs m args None w = refl
launch_ends c cs m args (Some i) w = refl

launch_valued_ends : (p : Program) (c : ℕ) (cs : List ℕ) (m : ℕ) (args : List Value) (e : End) (w : World) → (step_launch_valued p c cs m args e w).marks ≡ []
unfolding step_launch_valued
launch_valued_ends p c cs m args (Returned v) w = launch_ends c cs m args (initialiser_of p c) w
launch_valued_ends p c cs m args (Thrown a) w = refl
launch_valued_ends p c cs m args (Stopped s) w = refl
launch_valued_ends p c cs m args Jammed w = refl

ending_ends : (script : Script) (p : Program) (e : End) (xs : List Waiting) (base : Base) (w : World) → (step_ending_to script p e xs base w).marks ≡ ended_by (top_of xs) (step_ending_to script p e xs base w).state
unfolding step_ending_to
ending_ends script p e [] base w = base_ends script p e base w
ending_ends script p e (x ∷ xs) base w = given_ends script p x.frame x.wait e (standing xs base) w

pub marks_are : (script : Script) (p : Program) (st : State) → (step script p st).marks ≡ first_told st ++ (map Called (calls_by script p st) ++ last_told script p st)
unfolding step step_starting step_valued_in step_acts step_calling step_ending step_launching step_launch_in
marks_are script p (Running f frames w) = running_ends script p f frames w.counters.instructions w
marks_are script p (Starting [] f frames w) = calls_end f.method (acts_at script p f w).called _ (after_ends p f frames (acts_at script p f w).outcome (acts_at script p f w).world)
marks_are script p (Starting (c ∷ cs) f frames w) = valued_ends p f frames c cs (put_statics script p c w).end (put_statics script p c w).world
marks_are script p (Calling m args stack frames w) = ap (λ l. Entered m args stack w ∷ l) (body_ends (room_for p m stack) script p m args stack frames w)
marks_are script p (Ending e frames w) = ending_ends script p e frames.waiting frames.base w
marks_are script p (Launching [] m args w) = refl
marks_are script p (Launching (c ∷ cs) m args w) = launch_valued_ends p c cs m args (put_statics script p c w).end (put_statics script p c w).world

-- ---- many steps

pub leads_as : {script : Script} {p : Program} {a b : State} {xs ys : List Mark} → xs ≡ ys → Leads script p a xs b → Leads script p a ys b
leads_as {script} {p} {a} {b} e h = subst (λ l. Leads script p a l b) e h

pub leads_append : {script : Script} {p : Program} {a b c : State} (xs ys : List Mark) → Leads script p a xs b → Leads script p b ys c → Leads script p a (xs ++ ys) c
leads_append xs _ h stays = leads_as (sym (append-nil xs)) h
leads_append {script} {p} xs _ h (goes {st = st} {marks = marks} k) = leads_as (append_assoc xs marks (step script p st).marks) (goes (leads_append xs marks h k))

pub spent_append : (xs ys : List Mark) → spent_in (xs ++ ys) ≡ spent_in xs + spent_in ys
spent_append [] ys = omega arith
spent_append (Entered m args stack w ∷ xs) ys = spent_append xs ys
spent_append (Spent m ∷ xs) ys = let h = spent_append xs ys in omega arith
spent_append (Called m ∷ xs) ys = spent_append xs ys
spent_append (Ended m e w ∷ xs) ys = spent_append xs ys

pub steps_append : (xs ys : List Mark) → steps_in (xs ++ ys) ≡ steps_in xs + steps_in ys
steps_append [] ys = omega arith
steps_append (Entered m args stack w ∷ xs) ys = let h = steps_append xs ys in omega arith
steps_append (Spent m ∷ xs) ys = let h = steps_append xs ys in omega arith
steps_append (Called m ∷ xs) ys = steps_append xs ys
steps_append (Ended m e w ∷ xs) ys = steps_append xs ys

pub spent_below : (xs : List Mark) → spent_in xs ≤ steps_in xs
spent_below [] = omega arith
spent_below (Entered m args stack w ∷ xs) = let h = spent_below xs in omega arith
spent_below (Spent m ∷ xs) = let h = spent_below xs in omega arith
spent_below (Called m ∷ xs) = spent_below xs
spent_below (Ended m e w ∷ xs) = spent_below xs

pub each_append : (P : Mark → Type 0) (xs ys : List Mark) → Each P xs → Each P ys → Each P (xs ++ ys)
each_append P [] ys h k = k
each_append P (x ∷ xs) ys h k = (h.0, each_append P xs ys h.1 k)

calls_steps : (ms : List ℕ) → steps_in (map Called ms) ≡ 0
calls_steps [] = refl
calls_steps (m ∷ ms) = calls_steps ms

last_steps : (o : Option ℕ) (st : State) → steps_in (ended_by o st) ≡ 0
last_steps None st = refl
last_steps (Some m) (Ending (Returned v) frames w) = refl
last_steps (Some m) (Ending (Thrown a) frames w) = refl
last_steps (Some m) (Ending (Stopped c) frames w) = refl
last_steps (Some m) (Ending Jammed frames w) = refl
last_steps (Some m) (Running f frames w) = refl
last_steps (Some m) (Starting cs f frames w) = refl
last_steps (Some m) (Calling m' args stack frames w) = refl
last_steps (Some m) (Launching cs m' args w) = refl

pub steps_of : (script : Script) (p : Program) (st : State) → steps_in (step script p st).marks ≡ steps_in (first_told st)
steps_of script p st = ap steps_in (marks_are script p st) ∙ steps_append (first_told st) _ ∙ (let a = steps_append (map Called (calls_by script p st)) (last_told script p st) in let b = calls_steps (calls_by script p st) in let c = last_steps (leaver st) (step script p st).state in omega arith)

spends_one : (m left : ℕ) → steps_in (spends m left) ≤ 1
spends_one m zero = omega arith
spends_one m (suc k) = omega arith

ending_one : (script : Script) (p : Program) (e : End) (xs : List Waiting) (base : Base) (w : World) → weight (step script p (Ending e (standing xs base) w)).state + 0 ≤ weight (Ending e (standing xs base) w)
unfolding step step_ending step_ending_to step_base
ending_one script p e [] Bare w = omega arith
ending_one script p e [] (Opening c cs m args) w = let h = step_falls script p (Ending e (standing [] (Opening c cs m args)) w) tt in omega arith
ending_one script p e (x ∷ xs) base w = let h = step_falls script p (Ending e (standing (x ∷ xs) base) w) tt in omega arith

-- a step counts for one at most, and for nothing at the end
first_told_one : (script : Script) (p : Program) (st : State) → weight (step script p st).state + steps_in (first_told st) ≤ weight st
first_told_one script p (Running f frames w) = let h = step_falls script p (Running f frames w) tt in let k = spends_one f.method w.counters.instructions in omega arith
first_told_one script p (Starting cs f frames w) = let h = step_falls script p (Starting cs f frames w) tt in omega arith
first_told_one script p (Calling m args stack frames w) = let h = step_falls script p (Calling m args stack frames w) tt in omega arith
first_told_one script p (Ending e frames w) = ending_one script p e frames.waiting frames.base w
first_told_one script p (Launching cs m args w) = let h = step_falls script p (Launching cs m args w) tt in omega arith

-- a run that has spent or entered is nearer its end
pub leads_fall : (script : Script) (p : Program) (st st' : State) (marks : List Mark) → Leads script p st marks st' → weight st' + steps_in marks ≤ weight st
leads_fall script p st _ _ stays = omega arith
leads_fall script p st _ _ (goes {st = mid} {marks = marks} h) =
    let a = leads_fall script p st mid marks h in
    let b = first_told_one script p mid in
    let c = steps_of script p mid in
    let d = steps_append marks (step script p mid).marks in
    omega arith
