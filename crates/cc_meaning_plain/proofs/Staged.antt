-- A plain file's run within any limits goes down its instructions, and has just the report that they come to.
use Rattle.std.proofs.Common.{◌≡◌, ℕ, zero, suc, ◌+◌, ◌-◌, ◌≤◌, ℤ, pos, List, [], ◌∷◌, ◌++◌, length, replicate, Option, Some, None, refl, sym, ap, ◌∙◌, subst, arith, slice_get, slice_set}
use Rattle.std.specs.Int.{int_wrapping_add, w32}
use Rattle.std.proofs.lemmas.List.{append-nil, append_assoc, length-append, length-replicate}
use Rattle.cc_meaning.specs.declared.value.Value.TheVariants as value
use Rattle.cc_meaning.specs.declared.value.Cell.{Cell}
use Rattle.cc_meaning.specs.declared.value.Cell.TheVariants as cell
use Rattle.cc_meaning.specs.declared.value.Object.TheVariants as object
use Rattle.cc_meaning.specs.declared.report.StopCause.TheVariants as cause
use Rattle.cc_meaning.specs.declared.report.Ending.{Ending}
use Rattle.cc_meaning.specs.declared.report.Ending.TheVariants as ending
use Rattle.cc_meaning.specs.declared.report.Limits.{Limits}
use Rattle.cc_meaning.specs.declared.program.Method.{Method}
use Rattle.cc_meaning.specs.BuiltIn.{object_name, string_name, string_builder_name, system_name, print_stream_name, throwable_name, exception_name, error_name, runtime_exception_name, arithmetic_exception_name, null_pointer_exception_name, array_store_exception_name, class_cast_exception_name, index_out_of_bounds_exception_name, negative_array_size_exception_name, illegal_argument_exception_name, illegal_state_exception_name, array_index_out_of_bounds_exception_name, string_index_out_of_bounds_exception_name, linkage_error_name, virtual_machine_error_name, no_class_def_found_error_name, exception_in_initializer_error_name, incompatible_class_change_error_name, abstract_method_error_name, stack_overflow_error_name, system_out_name}
use Rattle.cc_meaning_run.specs.World.{World, Stack, Locals}
use Rattle.cc_meaning_run.specs.Acts.{less_by, with_words, pay, with_object, with_event, run_act}
use Rattle.cc_built_in.specs.BuiltInMethods.{built_in_tables}
use Rattle.cc_meaning_run.specs.Instructions.{line_of, code_of_kind, code_of_method, code_of as code_in}
use Rattle.cc_meaning_run.specs.Eval.{End, Returned, Stopped, Ran, ran, cells_of, body, resume, replied, after, with_instructions, turn_in, eval_with}
use Rattle.cc_meaning_run.specs.Invocations.{Invocations, charged, entered, onlooker}
use Rattle.cc_meaning_run.specs.Local.{opening_static, opening_world, make_texts, texts_class, make_args, with_ready, main_class, begun, begin_in, run_with, output_of, calls_of, ending_of, report_in, report_of, local}
use Rattle.cc_meaning_plain.specs.declared.plain.PlainInsn.{PlainInsn}
use Rattle.cc_meaning_plain.specs.declared.plain.PlainInsn.TheVariants.{SgetOut, Const4, AddInt2Addr, AddIntLit8, InvokePrintln, CallFunction}
use Rattle.cc_meaning_plain.specs.declared.plain.Last.TheVariants.{ReturnVoid}
use Rattle.cc_meaning_plain.specs.declared.plain.PlainCode.{PlainCode}
use Rattle.cc_meaning_plain.specs.declared.plain.PlainFunction.{PlainFunction}
use Rattle.cc_meaning_plain.specs.declared.plain.Plain.{Plain}
use Rattle.cc_meaning_plain.specs.declared.plain.Held.{Held}
use Rattle.cc_meaning_plain.specs.declared.plain.Held.TheVariants.{Nothing, Number, Stream}
use Rattle.cc_meaning_plain.specs.Code.{UsesWhatIsSet}
use Rattle.cc_meaning_plain.specs.Plain.{IsPlain}
use Rattle.cc_meaning_plain.specs.Program.{built_in_names, class_number, main_number, function_number, main_of, code_of, program_of, setting_of}
use Rattle.cc_meaning_plain.specs.Text.{number_at, value_of, value_by, instructions_of, instructions_by}
use Rattle.cc_meaning_plain.specs.Staged.{Stage, ends_with, with_line, taking_one, taking, printing, stage_of, main_stage, stage_report, plain_report}
use Rattle.cc_meaning_plain.specs.Laws.{AreBytes, function_ran, PlainReports}
use Rattle.cc_meaning_plain.proofs.Numbers.{numbers_methods}
use Rattle.cc_meaning_plain.proofs.Running.{units_before, units_before-more, Fits32, nothing, Fits, fnil, fcons, set_number, set_stream, get_number, get_stream, sum_fits, int_cell, evaluated, eval_spent, const_turn, sum_turn}
use Rattle.cc_meaning_plain.proofs.Facts.{function_is_fine, MainDoes, main_is_fine}
use Rattle.cc_meaning_plain.proofs.Functions.{body_begins, function_runs}
use Rattle.cc_meaning_plain.proofs.Values.{value_fits}
use Rattle.cc_meaning_plain.proofs.Lines.{line_is_itself, output-append, calls-append}
use Rattle.cc_meaning_plain.proofs.Main.{Ready, printed, print_led, out_turn, print_turn, call_turn, result_turn, return_turn}

-- ---- what a run comes to

-- a run that began in this world came to this stage
pub record ComesTo (w : World) (stage : Stage) (r : Ran Invocations) : Type 0 where
  pub end : End
  pub world : World
  pub list : Invocations
  pub ended : r ≡ ran end world list
  pub ending : ending_of world end ≡ Some stage.ending
  pub output : output_of world.events ≡ output_of w.events ++ stage.text
  pub calls : calls_of world.events ≡ calls_of w.events
  pub instructions : world.counters.instructions ≡ stage.instructions
  pub words : world.counters.words ≡ stage.words

-- it ends, and nothing was printed
comes_to_end : (w w' : World) (end : End) (ends : Ending) (list : Invocations) (r : Ran Invocations) → r ≡ ran end w' list → ending_of w' end ≡ Some ends → w'.events ≡ w.events →
    ComesTo w (ends_with ends w'.counters.instructions w'.counters.words) r
comes_to_end w w' end ends list r e is same = record {
  end = end;
  world = w';
  list = list;
  ended = e;
  ending = is;
  output = ap output_of same ∙ sym (append-nil (output_of w.events));
  calls = ap calls_of same;
  instructions = refl;
  words = refl;
}

-- a line was printed before the rest
comes_after : (w w' : World) (line : List ℕ) (stage : Stage) (r r' : Ran Invocations) → r ≡ r' → output_of w'.events ≡ output_of w.events ++ line → calls_of w'.events ≡ calls_of w.events →
    ComesTo w' stage r' → ComesTo w (with_line line stage) r
comes_after w w' line stage r r' e o c f = record {
  end = f.end;
  world = f.world;
  list = f.list;
  ended = e ∙ f.ended;
  ending = f.ending;
  output = f.output ∙ ap (λ (front : List ℕ). front ++ stage.text) o ∙ append_assoc (output_of w.events) line stage.text;
  calls = f.calls ∙ c;
  instructions = f.instructions;
  words = f.words;
}

-- nothing was printed before the rest
comes_quietly : (w w' : World) (stage : Stage) (r r' : Ran Invocations) → r ≡ r' → w'.events ≡ w.events → ComesTo w' stage r' → ComesTo w stage r
comes_quietly w w' stage r r' e same f = comes_after w w' [] stage r r' e (ap output_of same ∙ sym (append-nil (output_of w.events))) (ap calls_of same) f

-- where no instruction is left, it doesn't matter which come
pub stage_spent : (functions : List PlainFunction) (ns : List ℤ) (rest : List PlainInsn) (words : ℕ) → stage_of functions ns rest 0 words ≡ ends_with (ending.Stopped cause.Budget) 0 words
unfolding stage_of taking_one
stage_spent functions ns [] words = refl
stage_spent functions ns (SgetOut to ∷ rest) words = refl
stage_spent functions ns (Const4 to v ∷ rest) words = refl
stage_spent functions ns (AddInt2Addr to other ∷ rest) words = refl
stage_spent functions ns (AddIntLit8 to from literal ∷ rest) words = refl
stage_spent functions ns (InvokePrintln receiver from ∷ rest) words = refl
stage_spent functions ns (CallFunction function argument to ∷ rest) words = refl

-- ---- down the instructions

less_by_less : (n k left : ℕ) → less_by n k ≡ Some left → left ≤ k
unfolding less_by
less_by_less zero k left e = let same : k ≡ left = some_same e in omega arith
  where
    some_same : {a b : ℕ} → Some a ≡ Some b → a ≡ b
    some_same e = cc
less_by_less (suc n) zero left e = cc
less_by_less (suc n) (suc k) left e = let le = less_by_less n k left e in omega arith

-- there is room for one frame more
abbrev pub IsLow : Stack → Type 0
IsLow stack = (stack.depth ≤ 1) × (stack.registers ≤ 16)

module _ (file : List ℕ) (plain : Plain) (bytes : AreBytes file) (is : IsPlain file plain) where
  pub main_code : code_in (program_of plain) (main_number plain) ≡ Some (code_of plain plain.main)
  unfolding code_in code_of_method code_of_kind
  main_code = ap (λ (method : Option Method). code_of_method method) (numbers_methods plain).main

  more_done : (done rest : List PlainInsn) (i : PlainInsn) → plain.main.insns ≡ done ++ (i ∷ rest) → plain.main.insns ≡ (done ++ i ∷ []) ++ rest
  more_done done rest i e = e ∙ sym (append_assoc done (i ∷ []) rest)

  -- what main does from an address on
  abbrev pub main_from : (n pc : ℕ) → Locals → Stack → World → Invocations → Ran Invocations
  main_from n pc locals stack w list = evaluated onlooker plain (main_number plain) plain.main main_code n pc locals stack w list

  -- what is evaluated from the instructions that are left
  abbrev pub Goes : List PlainInsn → (n pc left : ℕ) → List ℤ → Locals → Stack → World → Invocations → Type 0
  Goes rest n pc left ns locals stack w list = ComesTo w (stage_of plain.functions ns rest left w.counters.words) (main_from n pc locals stack w list)

  spent : (rest : List PlainInsn) (n pc : ℕ) (ns : List ℤ) (locals : Locals) (stack : Stack) (w : World) (list : Invocations) → w.counters.instructions ≡ 0 → Goes rest n pc 0 ns locals stack w list
  unfolding ending_of
  spent rest n pc ns locals stack w list e =
      let stops = comes_to_end w w (Stopped cause.Budget) (ending.Stopped cause.Budget) list _ (eval_spent onlooker plain (main_number plain) plain.main main_code n pc locals stack w list e) refl refl in
      subst (λ (stage : Stage). ComesTo w stage (main_from n pc locals stack w list))
      (ap (λ (i : ℕ). ends_with (ending.Stopped cause.Budget) i w.counters.words) e ∙ sym (stage_spent plain.functions ns rest w.counters.words)) stops

  -- a print stops for want of words, or its line comes before the rest
  prints : (w : World) (k bound next : ℕ) (n : ℤ) (locals : Locals) (stack : Stack) (list : Invocations) (paid : Option ℕ) (go : ℕ → Stage) (r : Ran Invocations) → Fits32 n →
      r ≡ turn_in onlooker (eval_with onlooker (setting_of plain) bound) (setting_of plain) (main_number plain) locals stack (print_led plain next locals.cells (line_of n) (with_instructions w k) paid) list →
      ((left : ℕ) (list' : Invocations) → ComesTo (printed (with_instructions w k) left (line_of n)) (go left) (main_from bound next (record { cells = locals.cells; pending = None }) stack (printed (with_instructions w k) left (line_of n)) list')) →
      ComesTo w (printing (line_of n) k w.counters.words paid go) r
  unfolding printing turn_in after onlooker with_instructions with_words with_event ending_of
  prints w k bound next n locals stack list None go r f e rest = comes_to_end w (with_instructions w k) (Stopped cause.Heap) (ending.Stopped cause.Heap) (charged stack.depth [] list) r e refl refl
  prints w k bound next n locals stack list (Some left) go r f e rest =
      comes_after w (printed (with_instructions w k) left (line_of n)) (line_of n) (go left) r _ e
      (output-append w.events (line_of n) ∙ ap (λ (units : List ℕ). output_of w.events ++ units) (line_is_itself n f)) (calls-append w.events (line_of n)) (rest left _)

  -- a function stops within, or its result is taken before the rest
  finishes : (w : World) (bound pc function argument to : ℕ) (x : ℤ) (code : PlainCode) (done rest : List PlainInsn) (locals : Locals) (stack : Stack) (list : Invocations) (paid : Option ℕ) (go : ℕ → Stage) (r : Ran Invocations) →
      plain.main.insns ≡ done ++ CallFunction function argument to ∷ rest → pc ≡ units_before done → ((left : ℕ) → paid ≡ Some left → left ≤ bound) →
      r ≡ resume (eval_with onlooker (setting_of plain) bound) (main_number plain) (pc + 3) locals stack (function_ran code x w paid list) →
      ((left n : ℕ) (list' : Invocations) → left ≤ n → suc left ≤ bound →
      ComesTo (with_instructions w left) (go left) (main_from n (pc + 3 + 1) (record { cells = slice_set locals.cells to (int_cell (value_of code x)); pending = None }) stack (with_instructions w left) list')) →
      ComesTo w (taking w.counters.words paid (λ (after : ℕ). taking_one after w.counters.words go)) r
  unfolding taking taking_one resume with_instructions ending_of
  finishes w bound pc function argument to x code done rest locals stack list None go r e at le is_r more =
      comes_to_end w (with_instructions w 0) (Stopped cause.Budget) (ending.Stopped cause.Budget) list r is_r refl refl
  finishes w bound pc function argument to x code done rest locals stack list (Some zero) go r e at le is_r more =
      comes_to_end w (with_instructions w 0) (Stopped cause.Budget) (ending.Stopped cause.Budget) list r
      (is_r ∙ eval_spent onlooker plain (main_number plain) plain.main main_code bound (pc + 3) (record { cells = locals.cells; pending = Some (value.Int (value_of code x)) }) stack (with_instructions w 0) list refl) refl refl
  finishes w zero pc function argument to x code done rest locals stack list (Some (suc left)) go r e at le is_r more = absurd (omega (arith, le (suc left) refl))
  finishes w (suc n) pc function argument to x code done rest locals stack list (Some (suc left)) go r e at le is_r more =
      let enough = le (suc left) refl in
      comes_quietly w (with_instructions w left) (go left) _ _
      (is_r ∙ result_turn onlooker plain (main_number plain) plain.main main_code n left pc function argument to (value_of code x) done rest (record { cells = locals.cells; pending = Some (value.Int (value_of code x)) }) stack (with_instructions w (suc left)) list e at refl refl)
      refl (more left n _ (omega arith) (omega arith))

  -- a call enters its function, which comes to what it comes to by itself
  enters : (w : World) (k bound pc function argument to : ℕ) (f : PlainFunction) (x : ℤ) (done rest : List PlainInsn) (locals : Locals) (stack : Stack) (list : Invocations) → slice_get plain.functions function ≡ Some f →
      plain.main.insns ≡ done ++ CallFunction function argument to ∷ rest → pc ≡ units_before done → w.counters.instructions ≡ suc k → Ready w → slice_get locals.cells argument ≡ Some (int_cell x) → Fits32 x → k ≤ bound → IsLow stack →
      (list' : Invocations) × (main_from (suc bound) pc locals stack w list
      ≡ resume (eval_with onlooker (setting_of plain) bound) (main_number plain) (pc + 3) locals stack (function_ran f.code x (with_instructions w k) (less_by (instructions_of f.code) k) list'))
  unfolding turn_in after onlooker replied with_instructions
  enters w k bound pc function argument to f x done rest locals stack list ef e at left ready ex fits le low =
      let fine = function_is_fine file plain bytes is function f ef in
      let few = fine.few_registers in
      let entry = entered (function_number plain function) stack (charged stack.depth [] list) in
      let runs = function_runs onlooker file plain function f bytes is ef bound x stack (with_instructions w k) entry fits le (omega (arith, low.0)) (omega (arith, low.1, few)) in (
        runs.0,
        call_turn onlooker plain (main_number plain) plain.main main_code bound k pc function argument to f x done rest locals stack w list e at left ready ef ex
            ∙ ap (λ (r : Ran Invocations). resume (eval_with onlooker (setting_of plain) bound) (main_number plain) (pc + 3) locals stack r) runs.1,
      )

  calls : (w : World) (k bound pc function argument to : ℕ) (f : PlainFunction) (x : ℤ) (done rest : List PlainInsn) (locals : Locals) (stack : Stack) (list : Invocations) (go : ℕ → Stage) → slice_get plain.functions function ≡ Some f →
      plain.main.insns ≡ done ++ CallFunction function argument to ∷ rest → pc ≡ units_before done → w.counters.instructions ≡ suc k → Ready w → slice_get locals.cells argument ≡ Some (int_cell x) → Fits32 x → k ≤ bound → IsLow stack →
      ((left n : ℕ) (list' : Invocations) → left ≤ n →
      ComesTo (with_instructions w left) (go left) (main_from n (pc + 3 + 1) (record { cells = slice_set locals.cells to (int_cell (value_of f.code x)); pending = None }) stack (with_instructions w left) list')) →
      ComesTo w (taking w.counters.words (less_by (instructions_of f.code) k) (λ (after : ℕ). taking_one after w.counters.words go)) (main_from (suc bound) pc locals stack w list)
  unfolding with_instructions
  calls w k bound pc function argument to f x done rest locals stack list go ef e at left ready ex fits le low more =
      let entry = enters w k bound pc function argument to f x done rest locals stack list ef e at left ready ex fits le low in
      comes_quietly w (with_instructions w k) _ _ _ entry.1 refl
      (finishes (with_instructions w k) bound pc function argument to x f.code done rest locals stack entry.0 (less_by (instructions_of f.code) k) go _ e at
      (λ l es. let fewer = less_by_less (instructions_of f.code) k l es in omega arith) refl (λ l n list' ln enough. more l n list' ln))

  pub runs : (rest done : List PlainInsn) (n pc left : ℕ) (ns : List ℤ) (hs : List Held) (locals : Locals) (stack : Stack) (w : World) (list : Invocations) → plain.main.insns ≡ done ++ rest → pc ≡ units_before done → plain.main.last ≡ ReturnVoid →
      Fits ns hs locals.cells → UsesWhatIsSet ReturnVoid hs rest → MainDoes plain.functions rest → Ready w → IsLow stack → w.counters.instructions ≡ left → left ≤ n → Goes rest n pc left ns locals stack w list
  unfolding stage_of taking_one with_instructions with_words with_event ending_of
  runs rest done n pc zero ns hs locals stack w list e at last fits uses does ready low has le = spent rest n pc ns locals stack w list has
  runs rest done zero pc (suc k) ns hs locals stack w list e at last fits uses does ready low has le = absurd (omega arith)
  runs [] done (suc n) pc (suc k) ns hs locals stack w list e at last fits uses does ready low has le =
      comes_to_end w (with_instructions w k) (Returned None) ending.Returned _ _ (return_turn onlooker plain (main_number plain) plain.main main_code n k pc done locals stack w list e at last has) refl refl
  runs (SgetOut to ∷ rest) done (suc n) pc (suc k) ns hs locals stack w list e at last fits uses does ready low has le =
      comes_quietly w (with_instructions w k) (stage_of plain.functions ns rest k w.counters.words) _ _ (out_turn onlooker plain (main_number plain) plain.main main_code n k pc to done rest locals stack w list e at has ready.1) refl
      (runs rest (done ++ SgetOut to ∷ []) n (pc + 2) k ns (slice_set hs to Stream) _ stack (with_instructions w k) _ (more_done done rest (SgetOut to) e) (omega (arith, units_before-more done (SgetOut to))) last
      (set_stream fits to) uses does ready low refl (omega arith))
  runs (Const4 to v ∷ rest) done (suc n) pc (suc k) ns hs locals stack w list e at last fits uses does ready low has le =
      comes_quietly w (with_instructions w k) (stage_of plain.functions (slice_set ns to v) rest k w.counters.words) _ _ (const_turn onlooker plain (main_number plain) plain.main main_code n k pc to v done rest locals stack w list e at has) refl
      (runs rest (done ++ Const4 to v ∷ []) n (pc + 1) k (slice_set ns to v) (slice_set hs to Number) _ stack (with_instructions w k) _ (more_done done rest (Const4 to v) e) (omega (arith, units_before-more done (Const4 to v))) last
      (set_number fits to v does.0) uses does.1 ready low refl (omega arith))
  runs (AddInt2Addr to other ∷ rest) done (suc n) pc (suc k) ns hs locals stack w list e at last fits uses does ready low has le =
      let x = get_number fits to uses.0 in
      let y = get_number fits other uses.1 in
      let sum = int_wrapping_add w32 (number_at ns to) (number_at ns other) in
      comes_quietly w (with_instructions w k) (stage_of plain.functions (slice_set ns to sum) rest k w.counters.words) _ _ (sum_turn onlooker plain (main_number plain) plain.main main_code n k pc to other _ _ done rest locals stack w list e at has x.0 y.0) refl
      (runs rest (done ++ AddInt2Addr to other ∷ []) n (pc + 1) k (slice_set ns to sum) (slice_set hs to Number) _ stack (with_instructions w k) _ (more_done done rest (AddInt2Addr to other) e)
      (omega (arith, units_before-more done (AddInt2Addr to other))) last (set_number fits to sum (sum_fits _ _ x.1 y.1)) uses.2 does ready low refl (omega arith))
  runs (AddIntLit8 to from literal ∷ rest) done (suc n) pc (suc k) ns hs locals stack w list e at last fits uses does ready low has le = absurd does
  runs (InvokePrintln receiver from ∷ rest) done (suc n) pc (suc k) ns hs locals stack w list e at last fits uses does ready low has le =
      let x = get_number fits from uses.1 in
      let line = line_of (number_at ns from) in
      prints w k n (pc + 3) (number_at ns from) locals stack list (less_by (2 + length line) w.counters.words) (λ (left : ℕ). stage_of plain.functions ns rest k left) _ x.1
      (print_turn onlooker plain (main_number plain) plain.main main_code n k pc receiver from (number_at ns from) _ done rest locals stack w list e at has ready (get_stream fits receiver uses.0) x.0 refl)
      (λ left list'. runs rest (done ++ InvokePrintln receiver from ∷ []) n (pc + 3) k ns hs (record { cells = locals.cells; pending = None }) stack (printed (with_instructions w k) left line) list' (more_done done rest (InvokePrintln receiver from) e)
      (omega (arith, units_before-more done (InvokePrintln receiver from))) last fits uses.2 does ready low refl (omega arith))
  runs (CallFunction function argument to ∷ rest) done (suc n) pc (suc k) ns hs locals stack w list e at last fits uses does ready low has le =
      let x = get_number fits argument uses.0 in
      let f = does.0.0 in
      let v = value_of f.code (number_at ns argument) in
      let fine = function_is_fine file plain bytes is function f does.0.1 in
      subst (λ (o : Option PlainFunction). ComesTo w (taking w.counters.words (less_by (instructions_by o) k)
      (λ (after : ℕ). taking_one after w.counters.words (λ (left : ℕ). stage_of plain.functions (slice_set ns to (value_by o (number_at ns argument))) rest left w.counters.words))) (main_from (suc n) pc locals stack w list)) (sym does.0.1)
      (calls w k n pc function argument to f (number_at ns argument) done rest locals stack list (λ (left : ℕ). stage_of plain.functions (slice_set ns to v) rest left w.counters.words) does.0.1 e at has ready x.0 x.1 (omega arith) low
      (λ left n' list' enough. runs rest (done ++ CallFunction function argument to ∷ []) n' (pc + 3 + 1) left (slice_set ns to v) (slice_set hs to Number) _ stack (with_instructions w left) list' (more_done done rest (CallFunction function argument to) e)
      (omega (arith, units_before-more done (CallFunction function argument to))) last (set_number fits to v (value_fits f.code (number_at ns argument) fine.adds x.1)) uses.1 does.1 ready low refl enough))

-- ---- from the opening on

fits_at_first : (cells : List Cell) → Fits (replicate (length cells) (pos 0)) (replicate (length cells) Nothing) cells
fits_at_first [] = fnil
fits_at_first (c ∷ cells) = fcons nothing (fits_at_first cells)

module _ (file : List ℕ) (plain : Plain) (bytes : AreBytes file) (is : IsPlain file plain) (limits : Limits) where
  -- the registers of main at its entry
  abbrev first_cells : List Cell
  first_cells = replicate (plain.main.registers - 1) cell.Unset ++ cell.Value (value.Obj (Some 1)) ∷ []

  all_cells : 1 ≤ plain.main.registers → length first_cells ≡ plain.main.registers
  all_cells h = omega (arith, length-append (replicate (plain.main.registers - 1) cell.Unset) (cell.Value (value.Obj (Some 1)) ∷ []), length-replicate (plain.main.registers - 1) cell.Unset)

  first_fits : 1 ≤ plain.main.registers → Fits (replicate plain.main.registers (pos 0)) (replicate plain.main.registers Nothing) first_cells
  first_fits h = subst (λ n. Fits (replicate n (pos 0)) (replicate n Nothing) first_cells) (all_cells h) (fits_at_first first_cells)

  abbrev first_list : Invocations
  first_list = entered (main_number plain) (record { depth = 0; registers = 0 }) []

  abbrev first_locals : Locals
  first_locals = record { cells = first_cells; pending = None }

  abbrev first_stack : Stack
  first_stack = record { depth = 1; registers = 0 + plain.main.registers }

  abbrev empty_world : World
  empty_world = opening_world (program_of plain) limits

  -- the world at main's entry, where so many words are left
  abbrev first_world : ℕ → World
  first_world words = with_ready (with_object (with_words empty_world words) (object.Array (texts_class (program_of plain)) [])) (main_class (program_of plain))

  abbrev whole : Ran Invocations
  whole = run_with onlooker (setting_of plain) [] limits first_list

  begins_in : (words : ℕ) → less_by 2 limits.words ≡ Some words →
      whole ≡ body (eval_with onlooker (setting_of plain) limits.instructions) (setting_of plain) (program_of plain).main (value.Obj (Some 1) ∷ []) (record { depth = 0; registers = 0 }) (first_world words) first_list
  unfolding run_with make_args make_texts run_act pay begin_in begun setting_of opening_world with_object with_words
  begins_in words e = rw e refl

  main_is : (program_of plain).main ≡ main_number plain
  unfolding program_of
  main_is = refl

  begins : (words : ℕ) → less_by 2 limits.words ≡ Some words → 1 ≤ plain.main.registers → plain.main.registers ≤ 16 →
      whole ≡ evaluated onlooker plain (main_number plain) plain.main (main_code file plain bytes is) limits.instructions 0 first_locals first_stack (first_world words) first_list
  unfolding cells_of
  begins words e some few =
      begins_in words e
      ∙ ap (λ (m : ℕ). body (eval_with onlooker (setting_of plain) limits.instructions) (setting_of plain) m (value.Obj (Some 1) ∷ []) (record { depth = 0; registers = 0 }) (first_world words) first_list) main_is
      ∙ body_begins onlooker plain (main_number plain) plain.main (main_code file plain bytes is) limits.instructions (value.Obj (Some 1)) (record { depth = 0; registers = 0 }) (first_world words) first_list (omega arith) (omega arith)

  begins_not : less_by 2 limits.words ≡ None → whole ≡ ran (Stopped cause.Heap) empty_world first_list
  unfolding run_with make_args make_texts run_act pay begin_in begun setting_of opening_world
  begins_not e = rw e refl

  first_class : main_class (program_of plain) ≡ 0
  unfolding main_class
  first_class =
      let stands : slice_get (program_of plain).methods (program_of plain).main ≡ Some (main_of plain) = ap (λ (m : ℕ). slice_get (program_of plain).methods m) main_is ∙ (numbers_methods plain).main in
      rw stands refl

  first_ready : (words : ℕ) → Ready (first_world words)
  unfolding opening_world opening_static program_of with_object with_words with_ready class_number built_in_names built_in_tables object_name string_name string_builder_name system_name print_stream_name throwable_name exception_name error_name runtime_exception_name arithmetic_exception_name null_pointer_exception_name array_store_exception_name class_cast_exception_name index_out_of_bounds_exception_name negative_array_size_exception_name illegal_argument_exception_name illegal_state_exception_name array_index_out_of_bounds_exception_name string_index_out_of_bounds_exception_name linkage_error_name virtual_machine_error_name no_class_def_found_error_name exception_in_initializer_error_name incompatible_class_change_error_name abstract_method_error_name stack_overflow_error_name system_out_name
  first_ready words = (refl, refl, ap (λ (class : ℕ). slice_get (slice_set (replicate (length (program_of plain).classes) 0) class 2) 0) first_class)

  code_comes : (paid : Option ℕ) → less_by 2 limits.words ≡ paid → ComesTo empty_world (main_stage plain limits paid) whole
  unfolding opening_world with_object with_words with_ready ending_of main_stage
  code_comes None e = comes_to_end empty_world empty_world (Stopped cause.Heap) (ending.Stopped cause.Heap) first_list whole (begins_not e) refl refl
  code_comes (Some words) e =
      let fine = main_is_fine file plain bytes is in
      let few = fine.few_registers in
      comes_quietly empty_world (first_world words) _ _ _ (begins words e fine.some_registers fine.few_registers) refl
      (runs file plain bytes is plain.main.insns [] limits.instructions 0 limits.instructions _ _ first_locals first_stack (first_world words) first_list refl refl fine.last (first_fits fine.some_registers) fine.uses
      fine.does (first_ready words) (omega arith, omega arith) refl (omega arith))

  -- the report of a run is what its stage says
  reported : (stage : Stage) (r : Ran Invocations) → ComesTo empty_world stage r → report_of limits r ≡ Some (stage_report limits stage)
  unfolding report_of report_in opening_world output_of calls_of
  reported stage r f =
      let out : output_of f.world.events ≡ stage.text = f.output in
      let calls : calls_of f.world.events ≡ [] = f.calls in
      rw (f.ended, f.ending, out, calls, f.instructions, f.words) refl

  entered_main : entered (program_of plain).main (record { depth = 0; registers = 0 }) [] ≡ first_list
  entered_main = ap (λ (m : ℕ). entered m (record { depth = 0; registers = 0 }) []) main_is

pub plain_reports : PlainReports
unfolding local plain_report setting_of
plain_reports file plain limits bytes is =
    ap (λ (list : Invocations). report_of limits (run_with onlooker (setting_of plain) [] limits list)) (entered_main file plain bytes is limits)
    ∙ reported file plain bytes is limits _ _ (code_comes file plain bytes is limits (less_by 2 limits.words) refl)
