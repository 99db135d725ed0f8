-- What one turn of `main` does where it takes `System.out`, prints, calls a function, takes a result or returns.
use Rattle.std.proofs.Common.{◌≡◌, ℕ, suc, ◌+◌, ℤ, List, [], ◌∷◌, ◌++◌, length, Option, Some, None, refl, sym, ap, ◌∙◌, arith, slice_get, slice_set, find}
use Rattle.cc_meaning.specs.declared.value.Value.TheVariants as value
use Rattle.cc_meaning.specs.declared.value.Cell.{Cell}
use Rattle.cc_meaning.specs.declared.value.Cell.TheVariants as cell
use Rattle.cc_meaning.specs.declared.value.Object.TheVariants as object
use Rattle.cc_meaning.specs.declared.report.StopCause.TheVariants as cause
use Rattle.cc_meaning.specs.declared.report.Event.TheVariants as event
use Rattle.cc_meaning.specs.declared.instruction.Kind.TheVariants as access
use Rattle.cc_meaning.specs.declared.instruction.How.TheVariants as how
use Rattle.cc_meaning.specs.declared.instruction.MethodRef.TheVariants as ref
use Rattle.cc_meaning.specs.declared.instruction.Insn.TheVariants as insn
use Rattle.cc_meaning.specs.BuiltIn.{object_name, string_name, string_builder_name, system_name, print_stream_name, throwable_name, exception_name, error_name, runtime_exception_name, arithmetic_exception_name, null_pointer_exception_name, array_store_exception_name, class_cast_exception_name, index_out_of_bounds_exception_name, negative_array_size_exception_name, illegal_argument_exception_name, illegal_state_exception_name, array_index_out_of_bounds_exception_name, string_index_out_of_bounds_exception_name, linkage_error_name, virtual_machine_error_name, no_class_def_found_error_name, exception_in_initializer_error_name, incompatible_class_change_error_name, abstract_method_error_name, stack_overflow_error_name}
use Rattle.cc_meaning_run.specs.World.{World, Stack, Locals}
use Rattle.cc_meaning_run.specs.Acts.{Enter, Returns, Stops, Reached, less_by, with_words, pay, with_event, found, noted, run_act}
use Rattle.cc_built_in.specs.BuiltInMethods.{built_in_tables}
use Rattle.cc_meaning_run.specs.Instructions.{on_cell, on_value, on_int, on_object, on_values, on_pending, set_next, PrintlnInt, println_if, built_in, line_of, on_stream, print_line, call_built_in, call_kind, call, call_named, if_started, enter_static, call_static, call_static_named, act_of, code_of as code_in}
use Rattle.cc_meaning_run.specs.Eval.{Returned, ran, Hook, after, with_instructions, turn_in, eval_with}
use Rattle.cc_meaning_plain.specs.declared.plain.PlainInsn.{PlainInsn}
use Rattle.cc_meaning_plain.specs.declared.plain.PlainInsn.TheVariants.{SgetOut, InvokePrintln, CallFunction}
use Rattle.cc_meaning_plain.specs.declared.plain.Last.{Last}
use Rattle.cc_meaning_plain.specs.declared.plain.Last.TheVariants.{ReturnVoid}
use Rattle.cc_meaning_plain.specs.declared.plain.PlainCode.{PlainCode}
use Rattle.cc_meaning_plain.specs.declared.plain.PlainFunction.{PlainFunction}
use Rattle.cc_meaning_plain.specs.declared.plain.Plain.{Plain}
use Rattle.cc_meaning_plain.specs.Program.{file_class, built_in_names, class_number, function_number, println_number, out_field, placed, placed_from, type_of, result_of, built_in_of, function_of, code_of, program_of, setting_of}
use Rattle.cc_meaning_plain.proofs.Numbers.{numbers_methods, println_method, numbers_println}
use Rattle.cc_meaning_plain.proofs.Running.{units_before, is_at, next_with, led, int_cell, evaluated, Finds, SetsNumber, sets_number, turn_goes, finds_first, find_here, find_later, same, not_same}

-- `System.out` stands where the program looks for it, and main's class was started
abbrev pub Ready : World → Type 0
Ready w = (slice_get w.objects 0 ≡ Some object.Out) × (slice_get w.statics 0 ≡ Some (value.Obj (Some 0))) × (slice_get w.counters.statuses 0 ≡ Some 2)

-- the world after a print
abbrev pub printed : World → ℕ → List ℕ → World
printed w left units = with_event (with_words w left) (event.Print units)

module _ (plain : Plain) where
  -- the method that main prints by is the known one
  println_is_known : built_in (program_of plain) (built_in_of (println_method plain)) ≡ Some PrintlnInt
  unfolding built_in println_if program_of built_in_of class_number built_in_names built_in_tables type_of result_of object_name string_name string_builder_name system_name print_stream_name throwable_name exception_name error_name runtime_exception_name arithmetic_exception_name null_pointer_exception_name array_store_exception_name class_cast_exception_name index_out_of_bounds_exception_name negative_array_size_exception_name illegal_argument_exception_name illegal_state_exception_name array_index_out_of_bounds_exception_name string_index_out_of_bounds_exception_name linkage_error_name virtual_machine_error_name no_class_def_found_error_name exception_in_initializer_error_name incompatible_class_change_error_name abstract_method_error_name stack_overflow_error_name
  println_is_known = refl

  -- where a print leads, by the words that are left after it
  abbrev pub print_led : ℕ → List Cell → List ℕ → World → Option ℕ → Reached
  print_led next cells line w None = led (Stops cause.Heap) w []
  print_led next cells line w (Some left) = led (next_with next cells) (printed w left line) (println_number plain ∷ [])

  print_act : (next : ℕ) (locals : Locals) (receiver from : ℕ) (n : ℤ) (w : World) (paid : Option ℕ) → slice_get locals.cells receiver ≡ Some (cell.Value (value.Obj (Some 0))) → slice_get locals.cells from ≡ Some (int_cell n) →
      slice_get w.objects 0 ≡ Some object.Out → less_by (2 + length (line_of n)) w.counters.words ≡ paid →
      run_act (act_of (program_of plain) next locals (insn.Invoke how.Virtual (ref.Known (class_number print_stream_name) (println_number plain)) (receiver ∷ from ∷ []))) w ≡ print_led next locals.cells (line_of n) w paid
  unfolding act_of on_values on_value on_cell call_named call call_kind call_built_in print_line on_object on_stream on_int run_act found pay noted built_in_of
  print_act next locals receiver from n w None es en eo e = rw (es, en, numbers_println plain, println_is_known, eo, e) refl
  print_act next locals receiver from n w (Some left) es en eo e = rw (es, en, numbers_println plain, println_is_known, eo, e) refl

  call_act : (next : ℕ) (locals : Locals) (function argument : ℕ) (f : PlainFunction) (n : ℤ) (w : World) → slice_get plain.functions function ≡ Some f → slice_get locals.cells argument ≡ Some (int_cell n) →
      slice_get w.counters.statuses 0 ≡ Some 2 →
      run_act (act_of (program_of plain) next locals (insn.Invoke how.Static (ref.Known file_class (function_number plain function)) (argument ∷ []))) w ≡ led (Enter (function_number plain function) (value.Int n ∷ []) next) w []
  unfolding act_of on_values on_value on_cell call_static_named call_static enter_static if_started run_act found function_of
  call_act next locals function argument f n w e en es = rw (en, (numbers_methods plain).functions function f e, es) refl

module _ {T : Type 0} (hook : Hook T) (plain : Plain) (m : ℕ) (code : PlainCode) (is_code : code_in (program_of plain) m ≡ Some (code_of plain code)) where
  -- the place of the result behind a call
  finds_result : (done rest : List PlainInsn) (pc function argument to : ℕ) → code.insns ≡ done ++ CallFunction function argument to ∷ rest → pc ≡ units_before done →
      Finds hook plain m code is_code done (CallFunction function argument to ∷ rest) (pc + 3) (placed (pc + 3) 1 (insn.MoveResult access.Plain to))
  unfolding placed_from
  finds_result done rest pc function argument to e at =
      let call = placed pc 3 (insn.Invoke how.Static (ref.Known file_class (function_number plain function)) (argument ∷ [])) in
      let taken = placed (pc + 3) 1 (insn.MoveResult access.Plain to) in
      let behind = placed_from plain code.last (pc + 4) rest in (
        e,
        omega arith,
        ap (λ (a : ℕ). find (is_at (pc + 3)) (placed_from plain code.last a (CallFunction function argument to ∷ rest))) (sym at)
            ∙ find_later (is_at (pc + 3)) call (taken ∷ behind) (not_same pc (pc + 3) (omega arith)) ∙ find_here (is_at (pc + 3)) taken behind (same (pc + 3) (pc + 3) refl),
      )

  pub out_turn : (n k pc to : ℕ) (done rest : List PlainInsn) (locals : Locals) (stack : Stack) (w : World) (t : T) → code.insns ≡ done ++ SgetOut to ∷ rest → pc ≡ units_before done → w.counters.instructions ≡ suc k →
      slice_get w.statics 0 ≡ Some (value.Obj (Some 0)) → evaluated hook plain m code is_code (suc n) pc locals stack w t
      ≡ evaluated hook plain m code is_code n (pc + 2) (record { cells = slice_set locals.cells to (cell.Value (value.Obj (Some 0))); pending = None }) stack (with_instructions w k) (hook.turned stack.depth [] t)
  unfolding act_of set_next run_act found placed_from turn_in after with_instructions
  out_turn n k pc to done rest locals stack w t e at left es =
      let p = placed pc 2 (insn.StaticGet access.Object to out_field) in
      turn_goes hook plain m code is_code n k pc done (SgetOut to ∷ rest) p locals stack w t (led (next_with (pc + 2) (slice_set locals.cells to (cell.Value (value.Obj (Some 0))))) (with_instructions w k) [])
      (finds_first hook plain m code is_code done (SgetOut to ∷ rest) pc p _ e at refl (ap (λ (a : ℕ). placed_from plain code.last a (SgetOut to ∷ rest)) (sym at))) left (rw es refl)

  pub print_turn : (n k pc receiver from : ℕ) (x : ℤ) (paid : Option ℕ) (done rest : List PlainInsn) (locals : Locals) (stack : Stack) (w : World) (t : T) → code.insns ≡ done ++ InvokePrintln receiver from ∷ rest → pc ≡ units_before done →
      w.counters.instructions ≡ suc k → Ready w → slice_get locals.cells receiver ≡ Some (cell.Value (value.Obj (Some 0))) → slice_get locals.cells from ≡ Some (int_cell x) → less_by (2 + length (line_of x)) w.counters.words ≡ paid →
      evaluated hook plain m code is_code (suc n) pc locals stack w t
      ≡ turn_in hook (eval_with hook (setting_of plain) n) (setting_of plain) m locals stack (print_led plain (pc + 3) locals.cells (line_of x) (with_instructions w k) paid) t
  unfolding placed_from with_instructions
  print_turn n k pc receiver from x paid done rest locals stack w t e at left ready es en enough =
      let p = placed pc 3 (insn.Invoke how.Virtual (ref.Known (class_number print_stream_name) (println_number plain)) (receiver ∷ from ∷ [])) in
      turn_goes hook plain m code is_code n k pc done (InvokePrintln receiver from ∷ rest) p locals stack w t _
      (finds_first hook plain m code is_code done (InvokePrintln receiver from ∷ rest) pc p _ e at refl (ap (λ (a : ℕ). placed_from plain code.last a (InvokePrintln receiver from ∷ rest)) (sym at))) left
      (print_act plain (pc + 3) locals receiver from x (with_instructions w k) paid es en ready.0 enough)

  -- the call enters the function, or does what the hook answers
  pub call_turn : (n k pc function argument to : ℕ) (f : PlainFunction) (x : ℤ) (done rest : List PlainInsn) (locals : Locals) (stack : Stack) (w : World) (t : T) → code.insns ≡ done ++ CallFunction function argument to ∷ rest →
      pc ≡ units_before done → w.counters.instructions ≡ suc k → Ready w → slice_get plain.functions function ≡ Some f → slice_get locals.cells argument ≡ Some (int_cell x) →
      evaluated hook plain m code is_code (suc n) pc locals stack w t
      ≡ turn_in hook (eval_with hook (setting_of plain) n) (setting_of plain) m locals stack (led (Enter (function_number plain function) (value.Int x ∷ []) (pc + 3)) (with_instructions w k) []) t
  unfolding placed_from with_instructions
  call_turn n k pc function argument to f x done rest locals stack w t e at left ready ef en =
      let p = placed pc 3 (insn.Invoke how.Static (ref.Known file_class (function_number plain function)) (argument ∷ [])) in
      turn_goes hook plain m code is_code n k pc done (CallFunction function argument to ∷ rest) p locals stack w t _
      (finds_first hook plain m code is_code done (CallFunction function argument to ∷ rest) pc p _ e at refl (ap (λ (a : ℕ). placed_from plain code.last a (CallFunction function argument to ∷ rest)) (sym at))) left
      (call_act plain (pc + 3) locals function argument f x (with_instructions w k) ef en ready.2)

  -- the result is put into its register
  pub result_turn : (n k pc function argument to : ℕ) (x : ℤ) (done rest : List PlainInsn) (locals : Locals) (stack : Stack) (w : World) (t : T) → code.insns ≡ done ++ CallFunction function argument to ∷ rest → pc ≡ units_before done →
      w.counters.instructions ≡ suc k → locals.pending ≡ Some (value.Int x) → SetsNumber hook plain m code is_code n k (pc + 3) (pc + 3 + 1) to x locals stack w t
  unfolding act_of on_pending on_int set_next run_act
  result_turn n k pc function argument to x done rest locals stack w t e at left pending =
      sets_number hook plain m code is_code n k (pc + 3) to done (CallFunction function argument to ∷ rest) (placed (pc + 3) 1 (insn.MoveResult access.Plain to)) x locals stack w t
      (finds_result done rest pc function argument to e at) left (rw pending refl)

  pub return_turn : (n k pc : ℕ) (done : List PlainInsn) (locals : Locals) (stack : Stack) (w : World) (t : T) → code.insns ≡ done ++ [] → pc ≡ units_before done → code.last ≡ ReturnVoid → w.counters.instructions ≡ suc k →
      evaluated hook plain m code is_code (suc n) pc locals stack w t ≡ ran (Returned None) (with_instructions w k) (hook.turned stack.depth [] t)
  unfolding act_of run_act placed_from turn_in after
  return_turn n k pc done locals stack w t e at last left =
      let p = placed pc 1 insn.ReturnVoid in
      turn_goes hook plain m code is_code n k pc done [] p locals stack w t (led (Returns None) (with_instructions w k) [])
      (finds_first hook plain m code is_code done [] pc p [] e at refl (ap (λ (a : ℕ). placed_from plain code.last a []) (sym at) ∙ ap (λ (l : Last). placed_from plain l pc []) last)) left refl
