-- A Back that answers the image of an entry is merged as the method ends here.
use Rattle.std.proofs.Common.{◌≡◌, inr, ℕ, zero, suc, ◌+◌, ◌≤◌, Bool, true, false, cond, ℤ, List, [], ◌∷◌, map, Option, Some, None, option_and_then, Result, Ok, refl, sym, ap, ◌∙◌, subst, arith, slice_get, slice_set}
use Rattle.std.specs.Int.{w32}
use Rattle.std.specs.Int.RustNames.{FitsSigned}
use Rattle.std.proofs.lemmas.List.{append-nil}
use Rattle.cc_meaning.specs.declared.instruction.Kind.{Kind}
use Rattle.cc_meaning.specs.declared.instruction.Kind.TheVariants as access
use Rattle.cc_meaning.specs.declared.value.Value.{Value}
use Rattle.cc_meaning.specs.declared.value.Value.TheVariants as value
use Rattle.cc_meaning.specs.declared.value.Object.{Object}
use Rattle.cc_meaning.specs.declared.value.Object.TheVariants as object
use Rattle.cc_meaning.specs.declared.program.Base.TheVariants as base
use Rattle.cc_meaning.specs.declared.program.Class.{Class}
use Rattle.cc_meaning.specs.declared.program.DexType.{DexType}
use Rattle.cc_meaning.specs.declared.program.Field.{Field}
use Rattle.cc_meaning.specs.declared.program.Program.{Program}
use Rattle.cc_meaning.specs.declared.report.StopCause.TheVariants as cause
use Rattle.cc_meaning.specs.declared.report.CallEnd.{CallEnd}
use Rattle.cc_meaning.specs.declared.report.CallEnd.TheVariants as end
use Rattle.cc_meaning.specs.declared.image.Contents.TheVariants as contents
use Rattle.cc_meaning.specs.declared.image.RunImage.{RunImage}
use Rattle.cc_meaning.specs.declared.image.BackImage.{BackImage}
use Rattle.cc_meaning_run.specs.World.{World, Stack}
use Rattle.cc_meaning_run.specs.Acts.{less_by}
use Rattle.cc_meaning_run.specs.Eval.{Returned, Stopped, ran, body, with_instructions, eval_with}
use Rattle.cc_meaning_images.specs.Capture.{is_of_file, file_statuses, numbered, run_image}
use Rattle.cc_meaning_images.specs.Instance.{silent}
use Rattle.cc_meaning_images.specs.Spelling.{spelled_back}
use Rattle.cc_meaning_images.specs.Reading.{Runnable, argument_kinds, result_of, read_back}
use Rattle.cc_meaning_images.specs.Forms.{AreValues, AreStatuses, AreStatusesSince, IsEnding, IsRunOf, IsBackOf, BackIsRead}
use Rattle.cc_meaning_plain.specs.declared.plain.PlainCode.{PlainCode}
use Rattle.cc_meaning_plain.specs.declared.plain.PlainFunction.{PlainFunction}
use Rattle.cc_meaning_plain.specs.declared.plain.Plain.{Plain}
use Rattle.cc_meaning_plain.specs.Laws.{AreBytes, FunctionRuns, function_ran}
use Rattle.cc_meaning_plain.specs.Plain.{IsPlain}
use Rattle.cc_meaning_plain.specs.Program.{simple, function_number, function_of, code_of, program_of, setting_of}
use Rattle.cc_meaning_plain.specs.Text.{value_of, instructions_of}
use Rattle.cc_meaning_plain.proofs.Facts.{function_is_fine}
use Rattle.cc_meaning_plain.proofs.Values.{value_fits}
use Rattle.cc_meaning_clone.specs.Served.{out_order, answered}
use Rattle.cc_meaning_clone.specs.Functions.{function_place, function_numbered, is_ordinary, runnable_function, function_end, left_of, end_image, RunnableIs, AnsweredIs, RunsHaveParts}
use Rattle.cc_meaning_clone.proofs.Functions.{number_of_place}
use Rattle.cc_meaning_clone.proofs.Answers.{form_is}
use Rattle.cc_meaning_device.specs.Merging.{Places, holding, held_at, old_put, statuses_put, statics_put, places_in, end_put, world_put}
use Rattle.cc_meaning_device.proofs.Backs.{result_is}
use Rattle.cc_meaning_device.proofs.Kept.{less_by_less}

-- ---- merging the image of a function's end

same_at : (objects : List Object) (a : ℕ) (o : Object) → slice_get objects a ≡ Some o → slice_set objects a o ≡ objects
same_at [] a o e = refl
same_at (x ∷ objects) zero o e = ap (λ (y : Object). y ∷ objects) (sym (some_same e))
  where
    some_same : {x y : Object} → Some x ≡ Some y → x ≡ y
    some_same e = cc
same_at (x ∷ objects) (suc a) o e = ap (λ (rest : List Object). x ∷ rest) (same_at objects a o e)

holding_same : (at : Places) (o : Object) → holding at o contents.Nothing ≡ o
holding_same at object.Out = refl
holding_same at (object.Instance class values) = refl
holding_same at (object.Array class values) = refl
holding_same at (object.Text units) = refl
holding_same at (object.Builder units) = refl
holding_same at (object.Constant class) = refl

holds_same : (at : Places) (objects : List Object) (a : ℕ) → held_at at objects a contents.Nothing ≡ objects
holds_same at objects a = by (slice_get objects a) refl
  where
    by : (o : Option Object) → slice_get objects a ≡ o → held_at at objects a contents.Nothing ≡ objects
    by None e = rw e refl
    by (Some o) e = rw e (ap (λ (x : Object). slice_set objects a x) (holding_same at o) ∙ same_at objects a o e)

statics_same : (p : Program) (at : Places) (fields : List Field) (values : List Value) → statics_put p at fields values [] ≡ values
unfolding statics_put
statics_same p at [] values = refl
statics_same p at (f ∷ fields) [] = refl
statics_same p at (f ∷ fields) (v ∷ values) = refl

-- the statuses that were sent are put back where they stood
statuses_same : (classes : List Class) (statuses : List ℕ) → statuses_put classes statuses (file_statuses classes statuses) ≡ statuses
unfolding statuses_put file_statuses
statuses_same [] statuses = refl
statuses_same (c ∷ classes) [] = refl
statuses_same (c ∷ classes) (s ∷ statuses) = by (statuses_same classes statuses) (is_of_file c.kind) refl
  where
    behind : (sent : List ℕ) → is_of_file c.kind ≡ false → statuses_put classes statuses sent ≡ statuses → statuses_put (c ∷ classes) (s ∷ statuses) sent ≡ s ∷ statuses
    behind [] other e = refl
    behind (n ∷ sent) other e = rw other (ap (λ (rest : List ℕ). s ∷ rest) e)

    by : statuses_put classes statuses (file_statuses classes statuses) ≡ statuses → (b : Bool) → is_of_file c.kind ≡ b → statuses_put (c ∷ classes) (s ∷ statuses) (cond b (s ∷ file_statuses classes statuses) (file_statuses classes statuses)) ≡ s ∷ statuses
    by before true own = rw own (ap (λ (rest : List ℕ). s ∷ rest) before)
    by before false other = behind (file_statuses classes statuses) other before

-- the image of an end that changes nothing but the instructions left
put_back : (p : Program) (w : World) (m : ℕ) (args : List Value) (stack : Stack) (ending : CallEnd) (left : ℕ) →
    world_put p w out_order (end_image ending left (run_image p w out_order m args stack)) ≡ with_instructions w left
unfolding world_put old_put run_image with_instructions
put_back p w m args stack ending left =
    let at = places_in w out_order in
    let sent = file_statuses p.classes w.counters.statuses in
    ap (λ (objects : List Object). record w {
      objects = objects;
      statics = statics_put p at p.fields w.statics [];
      counters = record w.counters { instructions = left; statuses = statuses_put p.classes w.counters.statuses sent };
    }) (append-nil (held_at at w.objects 0 contents.Nothing) ∙ holds_same at w.objects 0)
    ∙ ap (λ (statics : List Value). record w { statics = statics; counters = record w.counters { instructions = left; statuses = statuses_put p.classes w.counters.statuses sent } }) (statics_same p at p.fields w.statics)
    ∙ ap (λ (statuses : List ℕ). record w { counters = record w.counters { instructions = left; statuses = statuses } }) (statuses_same p.classes w.counters.statuses)

merged_is : (p : Program) (w : World) (m : ℕ) (args : List Value) (stack : Stack) (code : PlainCode) (n : ℤ) (paid : Option ℕ) (u : Unit {0}) →
    ran (end_put (places_in w out_order) (function_end code n paid)) (world_put p w out_order (end_image (function_end code n paid) (left_of paid) (run_image p w out_order m args stack))) u
    ≡ function_ran code n w paid u
merged_is p w m args stack code n None u = ap (λ (x : World). ran (Stopped cause.Budget) x u) (put_back p w m args stack (end.Stopped cause.Budget) 0)
merged_is p w m args stack code n (Some left) u =
    ap (λ (x : World). ran (Returned (Some (value.Int (value_of code n)))) x u) (put_back p w m args stack (end.Returned (Some (value.Int (value_of code n)))) left)

-- ---- what a Run of a function is

-- its target is the function
target_is : RunnableIs → (plain : Plain) (image : RunImage) (f : PlainFunction) (is : IsRunOf (program_of plain) image) → function_numbered plain image.method ≡ Some f →
    is.target ≡ record { method = function_of plain f; code = code_of plain f.code }
target_is runnables plain image f is found =
    let e : runnable_function plain (Some f) ≡ Some is.target = sym (ap (runnable_function plain) found) ∙ sym (runnables plain image.method) ∙ is.runs in
    by (is_ordinary f) e
  where
    by : (b : Bool) → cond b (Some (record { method = function_of plain f; code = code_of plain f.code })) None ≡ Some is.target → is.target ≡ record { method = function_of plain f; code = code_of plain f.code }
    by true e = cc
    by false e = absurd cc

number_fits : (kinds : List Kind) (vs : List Value) (n : ℤ) → kinds ≡ access.Plain ∷ [] → vs ≡ value.Int n ∷ [] → AreValues kinds vs → FitsSigned w32 n
number_fits kinds vs n k v h =
    let first = subst (λ ks. AreValues ks vs) k h in
    let both = subst (λ xs. AreValues (access.Plain ∷ []) xs) v first in
    both.0

found_place : (plain : Plain) (m : ℕ) (f : PlainFunction) → function_numbered plain m ≡ Some f → (i : ℕ) × (function_place plain m ≡ Some i) × (slice_get plain.functions i ≡ Some f)
unfolding function_numbered
found_place plain m f e = by (function_place plain m) refl e
  where
    by : (p : Option ℕ) → function_place plain m ≡ p → option_and_then (λ (i : ℕ). slice_get plain.functions i) p ≡ Some f → (i : ℕ) × (function_place plain m ≡ Some i) × (slice_get plain.functions i ≡ Some f)
    by None at g = absurd cc
    by (Some i) at g = (i, at, g)

-- the number that was handed in
handed : (args : List Value) (n : ℤ) → map (numbered out_order) args ≡ value.Int n ∷ [] → args ≡ value.Int n ∷ []
handed [] n e = absurd cc
handed (value.Int k ∷ []) n e = e
handed (value.Int k ∷ v ∷ vs) n e = absurd cc
handed (value.Long k ∷ vs) n e = absurd cc
handed (value.Obj o ∷ vs) n e = absurd cc

-- what a function is of which a Run is
pub record Target (plain : Plain) (image : RunImage) : Type 0 where
  pub place : ℕ
  pub function : PlainFunction
  pub argument : ℤ
  pub numbered : function_numbered plain image.method ≡ Some function
  pub stands : slice_get plain.functions place ≡ Some function
  pub method : image.method ≡ function_number plain place
  pub args : image.args ≡ value.Int argument ∷ []
  pub fits : FitsSigned w32 argument
  pub room : image.registers + function.code.registers ≤ 65536

pub target_of : RunnableIs → RunsHaveParts → (plain : Plain) (image : RunImage) → IsRunOf (program_of plain) image → Target plain image
target_of runnables parts_of plain image is =
    let parts = parts_of plain image is in
    let f = parts.function in
    let target = target_is runnables plain image f is parts.found in
    let kinds : argument_kinds is.target.method ≡ access.Plain ∷ [] = ap (λ (t : Runnable). argument_kinds t.method) target ∙ (form_is plain).one_argument f in
    let registers : is.target.code.registers ≡ f.code.registers = ap (λ (t : Runnable). t.code.registers) target in
    let place = found_place plain image.method f parts.found in
    record {
      place = place.0;
      function = f;
      argument = parts.argument;
      numbered = parts.found;
      stands = place.2;
      method = (number_of_place plain image.method place.0 place.1).0;
      args = parts.args;
      fits = number_fits (argument_kinds is.target.method) image.args parts.argument kinds parts.args is.args;
      room = subst (λ k. image.registers + k ≤ 65536) registers is.room_for_registers;
    }

-- ---- its Back

statuses_stay : (ss : List ℕ) → AreStatuses ss → AreStatusesSince ss ss
statuses_stay [] h = tt
statuses_stay (s ∷ ss) h = (h.0, inr refl, statuses_stay ss h.1)

left_is_less : (n k : ℕ) (paid : Option ℕ) → less_by n k ≡ paid → left_of paid ≤ k
left_is_less n k None e = omega arith
left_is_less n k (Some left) e = less_by_less n k left e

int_ending : (code : PlainCode) (n : ℤ) (paid : Option ℕ) → FitsSigned w32 (value_of code n) → IsEnding (Some (simple base.Int)) (function_end code n paid)
int_ending code n None fits = tt
int_ending code n (Some left) fits = fits

-- the image of a function's end is of the form
pub end_is_back : (file : List ℕ) (plain : Plain) → AreBytes file → IsPlain file plain → (image : RunImage) (is : IsRunOf (program_of plain) image) (t : Target plain image) →
    IsBackOf (program_of plain) image (end_image (function_end t.function.code t.argument (less_by (instructions_of t.function.code) image.instructions)) (left_of (less_by (instructions_of t.function.code) image.instructions)) image)
end_is_back file plain bytes is_plain image is t =
    let fine = function_is_fine file plain bytes is_plain t.place t.function t.stands in
    let left = less_by (instructions_of t.function.code) image.instructions in
    let few = left_is_less (instructions_of t.function.code) image.instructions left refl in
    let type : result_of (slice_get (program_of plain).methods image.method) ≡ Some (simple base.Int) =
    ap (λ (m : ℕ). result_of (slice_get (program_of plain).methods m)) t.method ∙ result_is plain t.place t.function t.stands in
    record {
      ending = subst (λ (x : Option DexType). IsEnding x (function_end t.function.code t.argument left)) (sym type) (int_ending t.function.code t.argument left (value_fits t.function.code t.argument fine.adds t.fits));
      instructions_fit = omega (arith, few, is.instructions);
      words_fit = omega (arith, is.words);
      instructions = few;
      words = omega arith;
      statuses = statuses_stay image.statuses is.statuses;
      statics = subst (λ ks. AreValues ks []) (sym (form_is plain).no_statics) tt;
      no_literals = refl;
      no_constants = refl;
      no_events = refl;
      nothing_old = refl;
      nothing_new = refl;
    }

-- ---- an answer is right

module _ (runnables : RunnableIs) (parts_of : RunsHaveParts) (answers : AnsweredIs) (runs : FunctionRuns silent) (reads : BackIsRead) (file : List ℕ) (plain : Plain) (bytes : AreBytes file) (is : IsPlain file plain) where
  ok_same : {A B : Type 0} {a b : A} {r : Result A B} → r ≡ Ok a → r ≡ Ok b → a ≡ b
  ok_same e f = let g = sym e ∙ f in cc

  -- a method whose image was answered ends here as its Back says
  pub answer_is_right : (m : ℕ) (args : List Value) (stack : Stack) (w : World) (payload : List ℕ) (back : BackImage) → IsRunOf (program_of plain) (run_image (program_of plain) w out_order m args stack) →
      payload ≡ spelled_back (answered plain (run_image (program_of plain) w out_order m args stack)) → read_back (program_of plain) (run_image (program_of plain) w out_order m args stack) payload ≡ Ok back →
      body (eval_with silent (setting_of plain) w.counters.instructions) (setting_of plain) m args stack w tt ≡ ran (end_put (places_in w out_order) back.ending) (world_put (program_of plain) w out_order back) tt
  unfolding run_image
  answer_is_right m args stack w payload back is_run paid read =
      let p = program_of plain in
      let image = run_image p w out_order m args stack in
      let t = target_of runnables parts_of plain image is_run in
      let left = less_by (instructions_of t.function.code) w.counters.instructions in
      let end_back = end_image (function_end t.function.code t.argument left) (left_of left) image in
      let answer : answered plain image ≡ end_back = answers file plain image t.function t.argument bytes is is_run t.numbered t.args in
      let spelled : payload ≡ spelled_back end_back = paid ∙ ap spelled_back answer in
      let again : read_back p image payload ≡ Ok end_back = ap (read_back p image) spelled ∙ reads p image end_back (end_is_back file plain bytes is image is_run t) in
      let same : end_back ≡ back = ok_same again read in
      let given = handed args t.argument t.args in
      let ends = runs file plain t.place t.function bytes is t.stands w.counters.instructions t.argument stack w tt t.fits (omega arith) is_run.room_for_frame t.room in
      let here : body (eval_with silent (setting_of plain) w.counters.instructions) (setting_of plain) m args stack w tt ≡ function_ran t.function.code t.argument w left tt =
      ap (λ (k : ℕ). body (eval_with silent (setting_of plain) w.counters.instructions) (setting_of plain) k args stack w tt) t.method
      ∙ ap (λ (vs : List Value). body (eval_with silent (setting_of plain) w.counters.instructions) (setting_of plain) (function_number plain t.place) vs stack w tt) given ∙ ends.1 in
      here ∙ sym (merged_is p w m args stack t.function.code t.argument left tt)
      ∙ ap (λ (b : BackImage). ran (end_put (places_in w out_order) b.ending) (world_put p w out_order b) tt) same
