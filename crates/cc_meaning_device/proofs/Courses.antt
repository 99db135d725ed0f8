-- A plain file's run over received frames goes down its instructions.
use Rattle.std.proofs.Common.{◌≡◌, ℕ, zero, suc, ◌+◌, ◌-◌, ◌≤◌, ◌==◌, ◌&&◌, not, cond, Bool, true, false, ℤ, pos, List, [], ◌∷◌, ◌++◌, length, replicate, Option, Some, None, Ok, refl, sym, ap, ◌∙◌, subst, arith, slice_get, slice_set}
use Rattle.std.specs.Int.{int_wrapping_add, w32}
use Rattle.std.proofs.lemmas.List.{append-nil, append_assoc, length-append, length-replicate}
use Rattle.cc_meaning.specs.declared.value.Value.TheVariants as value
use Rattle.cc_meaning.specs.declared.value.Cell.{Cell}
use Rattle.cc_meaning.specs.declared.value.Cell.TheVariants as cell
use Rattle.cc_meaning.specs.declared.value.Object.TheVariants as object
use Rattle.cc_meaning.specs.declared.report.CallEnd.{CallEnd}
use Rattle.cc_meaning.specs.declared.report.CallEnd.TheVariants as end
use Rattle.cc_meaning.specs.declared.report.Event.{Event}
use Rattle.cc_meaning.specs.declared.report.Event.TheVariants as event
use Rattle.cc_meaning.specs.declared.report.StopCause.TheVariants as cause
use Rattle.cc_meaning.specs.declared.report.Ending.{Ending}
use Rattle.cc_meaning.specs.declared.report.Ending.TheVariants as ending
use Rattle.cc_meaning.specs.declared.report.Limits.{Limits}
use Rattle.cc_meaning.specs.declared.frame.Frame.{Frame}
use Rattle.cc_meaning.specs.declared.image.RunImage.{RunImage}
use Rattle.cc_meaning.specs.declared.image.BackImage.{BackImage}
use Rattle.cc_meaning.specs.BuiltIn.{object_name, string_name, string_builder_name, system_name, print_stream_name, throwable_name, exception_name, error_name, runtime_exception_name, arithmetic_exception_name, null_pointer_exception_name, array_store_exception_name, class_cast_exception_name, index_out_of_bounds_exception_name, negative_array_size_exception_name, illegal_argument_exception_name, illegal_state_exception_name, array_index_out_of_bounds_exception_name, string_index_out_of_bounds_exception_name, linkage_error_name, virtual_machine_error_name, no_class_def_found_error_name, exception_in_initializer_error_name, incompatible_class_change_error_name, abstract_method_error_name, stack_overflow_error_name, system_out_name}
use Rattle.cc_meaning_run.specs.World.{World, Stack, Locals}
use Rattle.cc_meaning_run.specs.Acts.{less_by, with_words, pay, with_object, with_event, run_act}
use Rattle.cc_built_in.specs.BuiltInMethods.{built_in_tables}
use Rattle.cc_meaning_run.specs.Instructions.{line_of}
use Rattle.cc_meaning_run.specs.Eval.{End, Returned, Stopped, Ran, ran, Here, cells_of, body, resume, replied, after, with_instructions, turn_in, eval_with}
use Rattle.cc_meaning_run.specs.Local.{opening_static, opening_world, make_texts, texts_class, make_args, with_ready, main_class, begun, begin_in, run_with, output_of, calls_of, ending_of, report_in, report_of}
use Rattle.cc_meaning_images.specs.Capture.{file_statuses, sent_statics, run_image}
use Rattle.cc_meaning_images.specs.Reading.{BackHead, back_by_head, read_back}
use Rattle.cc_meaning_plain.specs.declared.plain.PlainInsn.{PlainInsn}
use Rattle.cc_meaning_plain.specs.declared.plain.PlainInsn.TheVariants.{SgetOut, Const4, AddInt2Addr, AddIntLit8, InvokePrintln, CallFunction}
use Rattle.cc_meaning_plain.specs.declared.plain.Last.TheVariants.{ReturnVoid}
use Rattle.cc_meaning_plain.specs.declared.plain.PlainFunction.{PlainFunction}
use Rattle.cc_meaning_plain.specs.declared.plain.Plain.{Plain}
use Rattle.cc_meaning_plain.specs.declared.plain.Held.{Held}
use Rattle.cc_meaning_plain.specs.declared.plain.Held.TheVariants.{Nothing, Number, Stream}
use Rattle.cc_meaning_plain.specs.Code.{UsesWhatIsSet}
use Rattle.cc_meaning_plain.specs.Plain.{IsPlain}
use Rattle.cc_meaning_plain.specs.Program.{built_in_names, class_number, main_number, function_number, main_of, program_of, setting_of}
use Rattle.cc_meaning_plain.specs.Text.{number_at, value_of, instructions_of}
use Rattle.cc_meaning_plain.specs.Laws.{AreBytes, function_ran}
use Rattle.cc_meaning_plain.proofs.Numbers.{numbers_methods}
use Rattle.cc_meaning_plain.proofs.Running.{units_before, units_before-more, Fits32, nothing, Fits, fnil, fcons, set_number, set_stream, get_number, get_stream, sum_fits, int_cell, evaluated, eval_spent, const_turn, sum_turn}
use Rattle.cc_meaning_plain.proofs.Facts.{function_is_fine, MainDoes, main_is_fine}
use Rattle.cc_meaning_plain.proofs.Functions.{body_begins}
use Rattle.cc_meaning_plain.proofs.Values.{value_fits}
use Rattle.cc_meaning_plain.proofs.Lines.{line_is_itself, output-append, calls-append}
use Rattle.cc_meaning_plain.proofs.Main.{Ready, print_led, out_turn, print_turn, call_turn, result_turn, return_turn}
use Rattle.cc_meaning_plain.proofs.Staged.{main_code}
use Rattle.cc_meaning_clone.specs.Served.{out_order}
use Rattle.cc_meaning_nodes.specs.Clone.{back_kind}
use Rattle.cc_meaning_device.specs.Merging.{statuses_put, statics_put, old_put, world_put, places_in, end_put}
use Rattle.cc_meaning_device.specs.Received.{Received, Taken, not_opened, behind_ready, back_of_frames, reply_of, sent_in, entry_of, receiver, offloaded_of, offloaded}
use Rattle.cc_meaning_device.specs.Straight.{given_here, called_here, entry_image, value_back, came_back, called_there, called, Course, course_ends, course_with_line, course_printing, course_behind, course_came, course_of, course_within, plain_course, offloaded_by, plain_device, PlainOffloads}
use Rattle.cc_meaning_device.proofs.Received.{taken_by, taken_spends}
use Rattle.cc_meaning_device.proofs.Kept.{KeepsStill, less_by_less, function_keeps}
use Rattle.cc_meaning_device.proofs.Backs.{IsIntEnd, gives, stops, IsFunctionBack, function_back}

-- ---- what a run comes to

-- a run that began behind these events came to this
record ComesTo (events : List Event) (course : Course) (r : Ran Received) : Type 0 where
  end : End
  world : World
  ended : r ≡ ran end world course.received
  ending : ending_of world end ≡ Some course.stage.ending
  output : output_of world.events ≡ output_of events ++ course.stage.text
  calls : calls_of world.events ≡ calls_of events
  instructions : world.counters.instructions ≡ course.stage.instructions
  words : world.counters.words ≡ course.stage.words

-- it ends, and nothing was printed
comes_to_end : (w : World) (end : End) (ends : Ending) (t : Received) (r : Ran Received) → r ≡ ran end w t → ending_of w end ≡ Some ends →
    ComesTo w.events (course_ends ends w.counters.instructions w.counters.words t) r
comes_to_end w end ends t r e is = record {
  end = end;
  world = w;
  ended = e;
  ending = is;
  output = sym (append-nil (output_of w.events));
  calls = refl;
  instructions = refl;
  words = refl;
}

-- it goes on elsewhere
comes_by : (events : List Event) (course : Course) (r r' : Ran Received) → r ≡ r' → ComesTo events course r' → ComesTo events course r
comes_by events course r r' e f = subst (λ (x : Ran Received). ComesTo events course x) (sym e) f

-- a line was printed before the rest
comes_after : (events : List Event) (n : ℤ) (course : Course) (r : Ran Received) → Fits32 n → ComesTo (events ++ event.Print (line_of n) ∷ []) course r → ComesTo events (course_with_line (line_of n) course) r
comes_after events n course r fits f =
    let printed_line = output-append events (line_of n) ∙ ap (λ (units : List ℕ). output_of events ++ units) (line_is_itself n fits) in
    record {
      end = f.end;
      world = f.world;
      ended = f.ended;
      ending = f.ending;
      output = f.output ∙ ap (λ (front : List ℕ). front ++ course.stage.text) printed_line ∙ append_assoc (output_of events) (line_of n) course.stage.text;
      calls = f.calls ∙ calls-append events (line_of n);
      instructions = f.instructions;
      words = f.words;
    }

-- where no instruction is left, it doesn't matter which come
course_spent : (plain : Plain) (moves : ℕ → Bool) (ns : List ℤ) (rest : List PlainInsn) (words : ℕ) (t : Received) → course_of plain moves ns rest 0 words t ≡ course_ends (ending.Stopped cause.Budget) 0 words t
unfolding course_of
course_spent plain moves ns [] words t = refl
course_spent plain moves ns (SgetOut to ∷ rest) words t = refl
course_spent plain moves ns (Const4 to v ∷ rest) words t = refl
course_spent plain moves ns (AddInt2Addr to other ∷ rest) words t = refl
course_spent plain moves ns (AddIntLit8 to from literal ∷ rest) words t = refl
course_spent plain moves ns (InvokePrintln stream from ∷ rest) words t = refl
course_spent plain moves ns (CallFunction function argument to ∷ rest) words t = refl

-- ---- the world of main

-- `System.out` and the array of no arguments stand, and main's class is the one that was started
abbrev main_world : Plain → (instructions words : ℕ) → List Event → World
main_world plain instructions words events = record {
  objects = object.Out ∷ object.Array (texts_class (program_of plain)) [] ∷ [];
  statics = value.Obj (Some 0) ∷ [];
  literals = [];
  constants = [];
  counters = record { instructions = instructions; words = words; statuses = 2 ∷ replicate (suc (length built_in_names)) 0 };
  cursors = replicate (length (program_of plain).classes) 0;
  events = events;
}

abbrev main_stack : Plain → Stack
main_stack plain = record { depth = 1; registers = plain.main.registers }

abbrev main_ready : (plain : Plain) (instructions words : ℕ) (events : List Event) → Ready (main_world plain instructions words events)
main_ready plain instructions words events = (refl, refl, refl)

-- the image that is captured there
image_there : (plain : Plain) (function instructions words : ℕ) (events : List Event) (n : ℤ) →
    run_image (program_of plain) (main_world plain instructions words events) out_order (function_number plain function) (value.Int n ∷ []) (main_stack plain) ≡ entry_image plain function n instructions words
unfolding run_image file_statuses sent_statics program_of class_number built_in_names built_in_tables object_name string_name string_builder_name system_name print_stream_name throwable_name exception_name error_name runtime_exception_name arithmetic_exception_name null_pointer_exception_name array_store_exception_name class_cast_exception_name index_out_of_bounds_exception_name negative_array_size_exception_name illegal_argument_exception_name illegal_state_exception_name array_index_out_of_bounds_exception_name string_index_out_of_bounds_exception_name linkage_error_name virtual_machine_error_name no_class_def_found_error_name exception_in_initializer_error_name incompatible_class_change_error_name abstract_method_error_name stack_overflow_error_name system_out_name
image_there plain function instructions words events n = refl

-- a Back changes there the instructions and the words left alone
world_behind : (plain : Plain) (instructions words : ℕ) (events : List Event) (head : BackHead) →
    world_put (program_of plain) (main_world plain instructions words events) out_order (back_by_head head (2 ∷ []) []) ≡ main_world plain head.instructions head.words events
unfolding world_put old_put statuses_put statics_put program_of class_number built_in_names built_in_tables object_name string_name string_builder_name system_name print_stream_name throwable_name exception_name error_name runtime_exception_name arithmetic_exception_name null_pointer_exception_name array_store_exception_name class_cast_exception_name index_out_of_bounds_exception_name negative_array_size_exception_name illegal_argument_exception_name illegal_state_exception_name array_index_out_of_bounds_exception_name string_index_out_of_bounds_exception_name linkage_error_name virtual_machine_error_name no_class_def_found_error_name exception_in_initializer_error_name incompatible_class_change_error_name abstract_method_error_name stack_overflow_error_name system_out_name
world_behind plain instructions words events head = refl

-- ---- down the instructions

module _ (file : List ℕ) (plain : Plain) (bytes : AreBytes file) (is : IsPlain file plain) (moves : ℕ → Bool) where
  more_done : (done rest : List PlainInsn) (i : PlainInsn) → plain.main.insns ≡ done ++ (i ∷ rest) → plain.main.insns ≡ (done ++ i ∷ []) ++ rest
  more_done done rest i e = e ∙ sym (append_assoc done (i ∷ []) rest)

  keeps_still : KeepsStill (receiver (plain_device plain moves))
  unfolding receiver
  keeps_still depth called t = refl

  -- what main does from an address on
  abbrev main_from : (n pc : ℕ) → List Cell → World → Received → Ran Received
  main_from n pc cells w t =
      evaluated (receiver (plain_device plain moves)) plain (main_number plain) plain.main (main_code file plain bytes is) n pc (record { cells = cells; pending = None }) (main_stack plain) w t

  -- the evaluator goes on behind a call
  abbrev behind_call : (n pc : ℕ) → Locals → Ran Received → Ran Received
  behind_call n pc locals r = resume (eval_with (receiver (plain_device plain moves)) (setting_of plain) n) (main_number plain) (pc + 3) locals (main_stack plain) r

  -- what is evaluated from the instructions that are left
  abbrev Goes : List PlainInsn → (n pc left : ℕ) → List ℤ → List Cell → (words : ℕ) → List Event → Received → Type 0
  Goes rest n pc left ns cells words events t = ComesTo events (course_of plain moves ns rest left words t) (main_from n pc cells (main_world plain left words events) t)

  spent : (rest : List PlainInsn) (n pc : ℕ) (ns : List ℤ) (cells : List Cell) (words : ℕ) (events : List Event) (t : Received) → Goes rest n pc 0 ns cells words events t
  unfolding ending_of
  spent rest n pc ns cells words events t =
      let w = main_world plain 0 words events in
      subst (λ (course : Course). ComesTo events course (main_from n pc cells w t)) (sym (course_spent plain moves ns rest words t))
      (comes_to_end w (Stopped cause.Budget) (ending.Stopped cause.Budget) t _
      (eval_spent (receiver (plain_device plain moves)) plain (main_number plain) plain.main (main_code file plain bytes is) n pc (record { cells = cells; pending = None }) (main_stack plain) w t refl) refl)

  -- a print stops for want of words, or its line comes before the rest
  prints : (k n next words : ℕ) (x : ℤ) (locals : Locals) (events : List Event) (t : Received) (paid : Option ℕ) (go : ℕ → Course) (r : Ran Received) → Fits32 x →
      r ≡ turn_in (receiver (plain_device plain moves)) (eval_with (receiver (plain_device plain moves)) (setting_of plain) n) (setting_of plain) (main_number plain) locals (main_stack plain)
      (print_led plain next locals.cells (line_of x) (main_world plain k words events) paid) t →
      ((left : ℕ) → ComesTo (events ++ event.Print (line_of x) ∷ []) (go left) (main_from n next locals.cells (main_world plain k left (events ++ event.Print (line_of x) ∷ [])) t)) →
      ComesTo events (course_printing (line_of x) k words paid t go) r
  unfolding turn_in after receiver with_words with_event ending_of
  prints k n next words x locals events t None go r fits e rest = comes_to_end (main_world plain k words events) (Stopped cause.Heap) (ending.Stopped cause.Heap) t r e refl
  prints k n next words x locals events t (Some left) go r fits e rest = comes_after events x (go left) r fits (comes_by _ (go left) r _ e (rest left))

  -- what stands at a call
  record Call (done rest : List PlainInsn) (pc function argument to : ℕ) (f : PlainFunction) (x : ℤ) : Type 0 where
    found : slice_get plain.functions function ≡ Some f
    stands : plain.main.insns ≡ done ++ CallFunction function argument to ∷ rest
    at : pc ≡ units_before done
    fits : Fits32 x

  -- behind a call its result is taken before the rest, or the run stops for want of an instruction
  abbrev GoesOn : (n pc to : ℕ) → List Cell → List Event → (ℤ → (instructions words : ℕ) → Received → Course) → Type 0
  GoesOn n pc to cells events go = (y : ℤ) (left bound words : ℕ) (t : Received) → Fits32 y → left ≤ bound → suc bound ≤ n →
      ComesTo events (go y left words t) (main_from bound (pc + 3 + 1) (slice_set cells to (int_cell y)) (main_world plain left words events) t)

  takes_result : (done rest : List PlainInsn) (pc function argument to : ℕ) (f : PlainFunction) (x y : ℤ) → Call done rest pc function argument to f x → (n left words : ℕ) (locals : Locals) (events : List Event) (t : Received)
      (go : ℤ → (instructions words : ℕ) → Received → Course) → left ≤ n → Fits32 y → GoesOn n pc to locals.cells events go →
      ComesTo events (course_behind (Ok y) left words t (λ z (i : ℕ). go z i words t)) (behind_call n pc locals (ran (Returned (Some (value.Int y))) (main_world plain left words events) t))
  unfolding resume with_instructions receiver ending_of
  takes_result done rest pc function argument to f x y call n zero words locals events t go le fits more =
      comes_to_end (main_world plain 0 words events) (Stopped cause.Budget) (ending.Stopped cause.Budget) t _
      (eval_spent (receiver (plain_device plain moves)) plain (main_number plain) plain.main (main_code file plain bytes is) n (pc + 3) (record { cells = locals.cells; pending = Some (value.Int y) }) (main_stack plain) (main_world plain 0 words events) t refl) refl
  takes_result done rest pc function argument to f x y call zero (suc left) words locals events t go le fits more = absurd (omega arith)
  takes_result done rest pc function argument to f x y call (suc n) (suc left) words locals events t go le fits more =
      comes_by events (go y left words t) _ _
      (result_turn (receiver (plain_device plain moves)) plain (main_number plain) plain.main (main_code file plain bytes is) n left pc function argument to y done rest (record { cells = locals.cells; pending = Some (value.Int y) }) (main_stack plain)
      (main_world plain (suc left) words events) t call.stands call.at refl refl)
      (more y left n words t fits (omega arith) (omega arith))

  -- the function is done here
  done_here : (done rest : List PlainInsn) (pc function argument to : ℕ) (f : PlainFunction) (x : ℤ) → Call done rest pc function argument to f x → (n k words : ℕ) (locals : Locals) (events : List Event) (t : Received)
      (go : ℤ → (instructions words : ℕ) → Received → Course) → k ≤ n → GoesOn n pc to locals.cells events go → (paid : Option ℕ) → less_by (instructions_of f.code) k ≡ paid →
      ComesTo events (course_came (given_here paid (value_of f.code x) words t) go) (behind_call n pc locals (function_ran f.code x (main_world plain k words events) paid t))
  unfolding with_instructions resume ending_of
  done_here done rest pc function argument to f x call n k words locals events t go le more None e =
      comes_to_end (main_world plain 0 words events) (Stopped cause.Budget) (ending.Stopped cause.Budget) t _ refl refl
  done_here done rest pc function argument to f x call n k words locals events t go le more (Some left) e =
      let fewer = less_by_less (instructions_of f.code) k left e in
      let fine = function_is_fine file plain bytes is function f call.found in
      takes_result done rest pc function argument to f x (value_of f.code x) call n left words locals events t go (omega arith) (value_fits f.code x fine.adds call.fits) more

  -- a method that is evaluated here comes to what it comes to by itself
  body_there : (function : ℕ) (f : PlainFunction) (x : ℤ) (n k words : ℕ) (events : List Event) (t : Received) → slice_get plain.functions function ≡ Some f → Fits32 x → k ≤ n →
      body (eval_with (receiver (plain_device plain moves)) (setting_of plain) n) (setting_of plain) (function_number plain function) (value.Int x ∷ []) (main_stack plain) (main_world plain k words events) t
      ≡ function_ran f.code x (main_world plain k words events) (less_by (instructions_of f.code) k) t
  body_there function f x n k words events t ef fits le =
      let fine = function_is_fine file plain bytes is function f ef in
      let few = fine.few_registers in
      let main = main_is_fine file plain bytes is in
      function_keeps (receiver (plain_device plain moves)) keeps_still file plain function f bytes is ef n x (main_stack plain) (main_world plain k words events) t fits le (omega arith) (omega (arith, few, main.few_registers))

  -- the call is not sent, or the device falls back
  replied_here : (done rest : List PlainInsn) (pc function argument to : ℕ) (f : PlainFunction) (x : ℤ) → Call done rest pc function argument to f x → (n k words : ℕ) (locals : Locals) (events : List Event) (t : Received)
      (go : ℤ → (instructions words : ℕ) → Received → Course) → k ≤ n → GoesOn n pc to locals.cells events go →
      ComesTo events (course_came (called_here (slice_get plain.functions function) x k words t) go)
      (behind_call n pc locals (replied (eval_with (receiver (plain_device plain moves)) (setting_of plain) n) (setting_of plain) (function_number plain function) (value.Int x ∷ []) (main_stack plain) (main_world plain k words events) (Here t)))
  unfolding replied
  replied_here done rest pc function argument to f x call n k words locals events t go le more =
      let r = function_ran f.code x (main_world plain k words events) (less_by (instructions_of f.code) k) t in
      subst (λ (o : Option PlainFunction). ComesTo events (course_came (called_here o x k words t) go)
      (behind_call n pc locals (body (eval_with (receiver (plain_device plain moves)) (setting_of plain) n) (setting_of plain) (function_number plain function) (value.Int x ∷ []) (main_stack plain) (main_world plain k words events) t))) (sym call.found)
      (comes_by events _ _ (behind_call n pc locals r) (ap (λ (x : Ran Received). behind_call n pc locals x) (body_there function f x n k words events t call.found call.fits le))
      (done_here done rest pc function argument to f x call n k words locals events t go le more (less_by (instructions_of f.code) k) refl))

  -- ---- a Back

  ends_there : (done rest : List PlainInsn) (pc function argument to : ℕ) (f : PlainFunction) (x : ℤ) → Call done rest pc function argument to f x → (n left words count : ℕ) (locals : Locals) (events : List Event) (t : Received)
      (go : ℤ → (instructions words : ℕ) → Received → Course) → left ≤ n → GoesOn n pc to locals.cells events go → (ending : CallEnd) → IsIntEnd ending →
      ComesTo events (course_came (record { value = value_back ending; instructions = left; words = words; received = t }) go)
      (behind_call n pc locals (ran (end_put (record { order = out_order; count = count }) ending) (main_world plain left words events) t))
  unfolding resume ending_of
  ends_there done rest pc function argument to f x call n left words count locals events t go le more (end.Returned (Some (value.Int y))) (gives fits) =
      takes_result done rest pc function argument to f x y call n left words locals events t go le fits more
  ends_there done rest pc function argument to f x call n left words count locals events t go le more (end.Returned None) none = elim none [ ]
  ends_there done rest pc function argument to f x call n left words count locals events t go le more (end.Returned (Some (value.Long y))) none = elim none [ ]
  ends_there done rest pc function argument to f x call n left words count locals events t go le more (end.Returned (Some (value.Obj a))) none = elim none [ ]
  ends_there done rest pc function argument to f x call n left words count locals events t go le more (end.Thrown number) none = elim none [ ]
  ends_there done rest pc function argument to f x call n left words count locals events t go le more (end.Stopped stop) stops =
      comes_to_end (main_world plain left words events) (Stopped stop) (ending.Stopped stop) t _ refl refl

  -- it is merged
  replied_there : (done rest : List PlainInsn) (pc function argument to : ℕ) (f : PlainFunction) (x : ℤ) → Call done rest pc function argument to f x → (n k words : ℕ) (locals : Locals) (events : List Event) (t : Received)
      (go : ℤ → (instructions words : ℕ) → Received → Course) → GoesOn n pc to locals.cells events go → (back : BackImage) → IsFunctionBack back → back.instructions ≤ n →
      ComesTo events (course_came (record { value = value_back back.ending; instructions = back.instructions; words = back.words; received = t }) go)
      (behind_call n pc locals (ran (end_put (places_in (main_world plain k words events) out_order) back.ending) (world_put (program_of plain) (main_world plain k words events) out_order back) t))
  replied_there done rest pc function argument to f x call n k words locals events t go more back is_back le =
      let head = is_back.head in
      let less : head.instructions ≤ n = subst (λ (b : BackImage). b.instructions ≤ n) is_back.is le in
      subst (λ (b : BackImage). ComesTo events (course_came (record { value = value_back b.ending; instructions = b.instructions; words = b.words; received = t }) go)
      (behind_call n pc locals (ran (end_put (places_in (main_world plain k words events) out_order) b.ending) (world_put (program_of plain) (main_world plain k words events) out_order b) t))) (sym is_back.is)
      (comes_by events _ _ _ (ap (λ (w : World). behind_call n pc locals (ran (end_put (places_in (main_world plain k words events) out_order) head.ending) w t)) (world_behind plain k words events head))
      (ends_there done rest pc function argument to f x call n head.instructions head.words 2 locals events t go less more head.ending is_back.ends))

  was_read : (run : RunImage) (frames : Option (List Frame)) (taken : Taken) → back_of_frames (program_of plain) run frames ≡ Some taken → (payload : List ℕ) × (read_back (program_of plain) run payload ≡ Ok taken.back)
  unfolding back_of_frames
  was_read run None taken e = absurd cc
  was_read run (Some []) taken e = absurd cc
  was_read run (Some (frame ∷ rest)) taken e = (frame.payload, taken_by (frame.kind == back_kind) rest (read_back (program_of plain) run frame.payload) taken e)

  -- the call is sent
  replied_to : (done rest : List PlainInsn) (pc function argument to : ℕ) (f : PlainFunction) (x : ℤ) → Call done rest pc function argument to f x → (n k words : ℕ) (locals : Locals) (events : List Event) (t : Received)
      (go : ℤ → (instructions words : ℕ) → Received → Course) → k ≤ n → GoesOn n pc to locals.cells events go →
      (o : Option Taken) → back_of_frames (program_of plain) (entry_image plain function x k words) (behind_ready t) ≡ o →
      ComesTo events (course_came (came_back (slice_get plain.functions function) x (entry_image plain function x k words) t o) go)
      (behind_call n pc locals (replied (eval_with (receiver (plain_device plain moves)) (setting_of plain) n) (setting_of plain) (function_number plain function) (value.Int x ∷ []) (main_stack plain) (main_world plain k words events)
      (reply_of (program_of plain) (main_world plain k words events) out_order (entry_image plain function x k words) t o)))
  unfolding reply_of replied
  replied_to done rest pc function argument to f x call n k words locals events t go le more None e =
      replied_here done rest pc function argument to f x call n k words locals events (record t { images = t.images ++ entry_image plain function x k words ∷ []; fallen = true }) go le more
  replied_to done rest pc function argument to f x call n k words locals events t go le more (Some taken) e =
      let image = entry_image plain function x k words in
      let read = was_read image (behind_ready t) taken e in
      let spends = taken_spends (program_of plain) image (behind_ready t) taken e in
      replied_there done rest pc function argument to f x call n k words locals events (record t { opened = true; frames = taken.rest; images = t.images ++ image ∷ []; merged = suc t.merged }) go more
      taken.back (function_back plain function f image read.0 taken.back call.found refl refl read.1) (omega (arith, spends))

  replied_by : (done rest : List PlainInsn) (pc function argument to : ℕ) (f : PlainFunction) (x : ℤ) → Call done rest pc function argument to f x → (n k words : ℕ) (locals : Locals) (events : List Event) (t : Received)
      (go : ℤ → (instructions words : ℕ) → Received → Course) → k ≤ n → GoesOn n pc to locals.cells events go → (sent : Bool) →
      ComesTo events (course_came (cond sent (called_there plain function x (entry_image plain function x k words) t) (called_here (slice_get plain.functions function) x k words t)) go)
      (behind_call n pc locals (replied (eval_with (receiver (plain_device plain moves)) (setting_of plain) n) (setting_of plain) (function_number plain function) (value.Int x ∷ []) (main_stack plain) (main_world plain k words events)
      (cond sent (sent_in (plain_device plain moves) out_order (function_number plain function) (value.Int x ∷ []) (main_stack plain) (main_world plain k words events) t) (Here t))))
  unfolding sent_in
  replied_by done rest pc function argument to f x call n k words locals events t go le more false = replied_here done rest pc function argument to f x call n k words locals events t go le more
  replied_by done rest pc function argument to f x call n k words locals events t go le more true =
      subst (λ (image : RunImage). ComesTo events (course_came (called_there plain function x (entry_image plain function x k words) t) go)
      (behind_call n pc locals (replied (eval_with (receiver (plain_device plain moves)) (setting_of plain) n) (setting_of plain) (function_number plain function) (value.Int x ∷ []) (main_stack plain) (main_world plain k words events)
      (reply_of (program_of plain) (main_world plain k words events) out_order image t (back_of_frames (program_of plain) image (behind_ready t)))))) (sym (image_there plain function k words events x))
      (replied_to done rest pc function argument to f x call n k words locals events t go le more (back_of_frames (program_of plain) (entry_image plain function x k words) (behind_ready t)) refl)

  calls : (done rest : List PlainInsn) (n k pc function argument to words : ℕ) (f : PlainFunction) (x : ℤ) (cells : List Cell) (events : List Event) (t : Received) (go : ℤ → (instructions words : ℕ) → Received → Course) →
      Call done rest pc function argument to f x → slice_get cells argument ≡ Some (int_cell x) → k ≤ n → GoesOn n pc to cells events go →
      ComesTo events (course_came (called plain moves function x k words t) go) (main_from (suc n) pc cells (main_world plain (suc k) words events) t)
  unfolding called turn_in after receiver entry_of with_instructions
  calls done rest n k pc function argument to words f x cells events t go call ex le more =
      comes_by events _ _ _
      (call_turn (receiver (plain_device plain moves)) plain (main_number plain) plain.main (main_code file plain bytes is) n k pc function argument to f x done rest (record { cells = cells; pending = None }) (main_stack plain)
      (main_world plain (suc k) words events) t call.stands call.at refl (main_ready plain (suc k) words events) call.found ex)
      (replied_by done rest pc function argument to f x call n k words (record { cells = cells; pending = None }) events t go le more (not t.fallen && moves (function_number plain function)))

  -- ---- the instructions of main

  runs : (rest done : List PlainInsn) (n pc left : ℕ) (ns : List ℤ) (hs : List Held) (cells : List Cell) (words : ℕ) (events : List Event) (t : Received) → plain.main.insns ≡ done ++ rest → pc ≡ units_before done → plain.main.last ≡ ReturnVoid →
      Fits ns hs cells → UsesWhatIsSet ReturnVoid hs rest → MainDoes plain.functions rest → left ≤ n → Goes rest n pc left ns cells words events t
  unfolding course_of with_instructions receiver ending_of
  runs rest done n pc zero ns hs cells words events t e at last fits uses does le = spent rest n pc ns cells words events t
  runs rest done zero pc (suc k) ns hs cells words events t e at last fits uses does le = absurd (omega arith)
  runs [] done (suc n) pc (suc k) ns hs cells words events t e at last fits uses does le =
      comes_to_end (main_world plain k words events) (Returned None) ending.Returned t _
      (return_turn (receiver (plain_device plain moves)) plain (main_number plain) plain.main (main_code file plain bytes is) n k pc done (record { cells = cells; pending = None }) (main_stack plain) (main_world plain (suc k) words events) t e at last refl) refl
  runs (SgetOut to ∷ rest) done (suc n) pc (suc k) ns hs cells words events t e at last fits uses does le =
      comes_by events _ _ _ (out_turn (receiver (plain_device plain moves)) plain (main_number plain) plain.main (main_code file plain bytes is) n k pc to done rest (record { cells = cells; pending = None }) (main_stack plain) (main_world plain (suc k) words events) t e at refl refl)
      (runs rest (done ++ SgetOut to ∷ []) n (pc + 2) k ns (slice_set hs to Stream) _ words events t (more_done done rest (SgetOut to) e) (omega (arith, units_before-more done (SgetOut to))) last
      (set_stream fits to) uses does (omega arith))
  runs (Const4 to v ∷ rest) done (suc n) pc (suc k) ns hs cells words events t e at last fits uses does le =
      comes_by events _ _ _ (const_turn (receiver (plain_device plain moves)) plain (main_number plain) plain.main (main_code file plain bytes is) n k pc to v done rest (record { cells = cells; pending = None }) (main_stack plain) (main_world plain (suc k) words events) t e at refl)
      (runs rest (done ++ Const4 to v ∷ []) n (pc + 1) k (slice_set ns to v) (slice_set hs to Number) _ words events t (more_done done rest (Const4 to v) e) (omega (arith, units_before-more done (Const4 to v))) last
      (set_number fits to v does.0) uses does.1 (omega arith))
  runs (AddInt2Addr to other ∷ rest) done (suc n) pc (suc k) ns hs cells words events t e at last fits uses does le =
      let x = get_number fits to uses.0 in
      let y = get_number fits other uses.1 in
      let sum = int_wrapping_add w32 (number_at ns to) (number_at ns other) in
      comes_by events _ _ _
      (sum_turn (receiver (plain_device plain moves)) plain (main_number plain) plain.main (main_code file plain bytes is) n k pc to other _ _ done rest (record { cells = cells; pending = None }) (main_stack plain) (main_world plain (suc k) words events) t e at refl x.0 y.0)
      (runs rest (done ++ AddInt2Addr to other ∷ []) n (pc + 1) k (slice_set ns to sum) (slice_set hs to Number) _ words events t (more_done done rest (AddInt2Addr to other) e)
      (omega (arith, units_before-more done (AddInt2Addr to other))) last (set_number fits to sum (sum_fits _ _ x.1 y.1)) uses.2 does (omega arith))
  runs (AddIntLit8 to from literal ∷ rest) done (suc n) pc (suc k) ns hs cells words events t e at last fits uses does le = absurd does
  runs (InvokePrintln stream from ∷ rest) done (suc n) pc (suc k) ns hs cells words events t e at last fits uses does le =
      let x = get_number fits from uses.1 in
      let line = line_of (number_at ns from) in
      prints k n (pc + 3) words (number_at ns from) (record { cells = cells; pending = None }) events t (less_by (2 + length line) words) _ _ x.1
      (print_turn (receiver (plain_device plain moves)) plain (main_number plain) plain.main (main_code file plain bytes is) n k pc stream from (number_at ns from) _ done rest (record { cells = cells; pending = None }) (main_stack plain) (main_world plain (suc k) words events) t
      e at refl (main_ready plain (suc k) words events) (get_stream fits stream uses.0) x.0 refl)
      (λ left. runs rest (done ++ InvokePrintln stream from ∷ []) n (pc + 3) k ns hs cells left (events ++ event.Print line ∷ []) t (more_done done rest (InvokePrintln stream from) e)
      (omega (arith, units_before-more done (InvokePrintln stream from))) last fits uses.2 does (omega arith))
  runs (CallFunction function argument to ∷ rest) done (suc n) pc (suc k) ns hs cells words events t e at last fits uses does le =
      let x = get_number fits argument uses.0 in
      calls done rest n k pc function argument to words does.0.0 (number_at ns argument) cells events t _ (record { found = does.0.1; stands = e; at = at; fits = x.1 }) x.0 (omega arith)
      (λ y left bound words' t' fits_y enough below. runs rest (done ++ CallFunction function argument to ∷ []) bound (pc + 3 + 1) left (slice_set ns to y) (slice_set hs to Number) _ words' events t' (more_done done rest (CallFunction function argument to) e)
      (omega (arith, units_before-more done (CallFunction function argument to))) last (set_number fits to y fits_y) uses.1 does.1 enough)

-- ---- from the opening on

fits_at_first : (cells : List Cell) → Fits (replicate (length cells) (pos 0)) (replicate (length cells) Nothing) cells
fits_at_first [] = fnil
fits_at_first (c ∷ cells) = fcons nothing (fits_at_first cells)

module _ (file : List ℕ) (plain : Plain) (bytes : AreBytes file) (is : IsPlain file plain) (moves : ℕ → Bool) (limits : Limits) where
  -- the registers of main at its entry
  abbrev first_cells : List Cell
  first_cells = replicate (plain.main.registers - 1) cell.Unset ++ cell.Value (value.Obj (Some 1)) ∷ []

  all_cells : 1 ≤ plain.main.registers → length first_cells ≡ plain.main.registers
  all_cells h = omega (arith, length-append (replicate (plain.main.registers - 1) cell.Unset) (cell.Value (value.Obj (Some 1)) ∷ []), length-replicate (plain.main.registers - 1) cell.Unset)

  first_fits : 1 ≤ plain.main.registers → Fits (replicate plain.main.registers (pos 0)) (replicate plain.main.registers Nothing) first_cells
  first_fits h = subst (λ n. Fits (replicate n (pos 0)) (replicate n Nothing) first_cells) (all_cells h) (fits_at_first first_cells)

  abbrev nothing_stands : Stack
  nothing_stands = record { depth = 0; registers = 0 }

  -- the world at main's entry, where so many words are left
  abbrev first_world : ℕ → World
  first_world words = with_ready (with_object (with_words (opening_world (program_of plain) limits) words) (object.Array (texts_class (program_of plain)) [])) (main_class (program_of plain))

  main_is : (program_of plain).main ≡ main_number plain
  unfolding program_of
  main_is = refl

  first_class : main_class (program_of plain) ≡ 0
  unfolding main_class
  first_class =
      let stands : slice_get (program_of plain).methods (program_of plain).main ≡ Some (main_of plain) = ap (λ (m : ℕ). slice_get (program_of plain).methods m) main_is ∙ (numbers_methods plain).main in
      rw stands refl

  first_is : (words : ℕ) → first_world words ≡ main_world plain limits.instructions words []
  unfolding opening_world opening_static program_of with_object with_words with_ready class_number built_in_names built_in_tables object_name string_name string_builder_name system_name print_stream_name throwable_name exception_name error_name runtime_exception_name arithmetic_exception_name null_pointer_exception_name array_store_exception_name class_cast_exception_name index_out_of_bounds_exception_name negative_array_size_exception_name illegal_argument_exception_name illegal_state_exception_name array_index_out_of_bounds_exception_name string_index_out_of_bounds_exception_name linkage_error_name virtual_machine_error_name no_class_def_found_error_name exception_in_initializer_error_name incompatible_class_change_error_name abstract_method_error_name stack_overflow_error_name system_out_name
  first_is words = ap (λ (class : ℕ). record (main_world plain limits.instructions words []) { counters = record { instructions = limits.instructions; words = words; statuses = slice_set (replicate (length (program_of plain).classes) 0) class 2 } }) first_class

  abbrev whole : Received → Ran Received
  whole t = run_with (receiver (plain_device plain moves)) (setting_of plain) [] limits t

  begins_in : (words : ℕ) (t : Received) → less_by 2 limits.words ≡ Some words →
      whole t ≡ body (eval_with (receiver (plain_device plain moves)) (setting_of plain) limits.instructions) (setting_of plain) (program_of plain).main (value.Obj (Some 1) ∷ []) nothing_stands (first_world words) t
  unfolding run_with make_args make_texts run_act pay begin_in begun setting_of opening_world with_object with_words
  begins_in words t e = rw e refl

  begins : (words : ℕ) (t : Received) → less_by 2 limits.words ≡ Some words → plain.main.registers ≤ 16 →
      whole t ≡ main_from file plain bytes is moves limits.instructions 0 first_cells (main_world plain limits.instructions words []) t
  unfolding cells_of
  begins words t e few =
      let code = main_code file plain bytes is in
      let hook = receiver (plain_device plain moves) in
      let stack : record { depth = 1; registers = 0 + plain.main.registers } ≡ main_stack plain = ap (λ (registers : ℕ). record { depth = 1; registers = registers }) (omega arith) in
      begins_in words t e
      ∙ ap (λ (m : ℕ). body (eval_with hook (setting_of plain) limits.instructions) (setting_of plain) m (value.Obj (Some 1) ∷ []) nothing_stands (first_world words) t) main_is
      ∙ body_begins hook plain (main_number plain) plain.main code limits.instructions (value.Obj (Some 1)) nothing_stands (first_world words) t (omega arith) (omega arith)
      ∙ ap (λ (w : World). evaluated hook plain (main_number plain) plain.main code limits.instructions 0 (record { cells = first_cells; pending = None }) (record { depth = 1; registers = 0 + plain.main.registers }) w t) (first_is words)
      ∙ ap (λ (stack : Stack). evaluated hook plain (main_number plain) plain.main code limits.instructions 0 (record { cells = first_cells; pending = None }) stack (main_world plain limits.instructions words []) t) stack

  begins_not : (t : Received) → less_by 2 limits.words ≡ None → whole t ≡ ran (Stopped cause.Heap) (opening_world (program_of plain) limits) t
  unfolding run_with make_args make_texts run_act pay begin_in begun setting_of opening_world
  begins_not t e = rw e refl

  course_comes : (t : Received) (paid : Option ℕ) → less_by 2 limits.words ≡ paid → ComesTo [] (course_within plain moves limits paid t) (whole t)
  unfolding opening_world ending_of course_within
  course_comes t None e = comes_to_end (opening_world (program_of plain) limits) (Stopped cause.Heap) (ending.Stopped cause.Heap) t (whole t) (begins_not t e) refl
  course_comes t (Some words) e =
      let fine = main_is_fine file plain bytes is in
      comes_by [] _ _ _ (begins words t e fine.few_registers)
      (runs file plain bytes is moves plain.main.insns [] limits.instructions 0 limits.instructions _ _ first_cells words [] t refl refl fine.last (first_fits fine.some_registers) fine.uses fine.does (omega arith))

  -- a run that came to this offloaded so
  told : (course : Course) (r : Ran Received) → ComesTo [] course r → offloaded_of limits r ≡ offloaded_by limits course
  unfolding report_of report_in output_of calls_of
  told course r f =
      let out : output_of f.world.events ≡ course.stage.text = f.output in
      let calls : calls_of f.world.events ≡ [] = f.calls in
      rw (f.ended, f.ending, out, calls, f.instructions, f.words) refl

pub plain_offloads : PlainOffloads
unfolding offloaded plain_course
plain_offloads file plain moves limits frames bytes is =
    told file plain bytes is moves limits (plain_course plain moves limits frames) _ (course_comes file plain bytes is moves limits (not_opened frames) (less_by 2 limits.words) refl)
