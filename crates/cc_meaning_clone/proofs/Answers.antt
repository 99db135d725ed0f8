-- What a Run of a function is answered with.
use Rattle.std.proofs.Common.{◌≡◌, ℕ, zero, suc, ◌+◌, ◌<◌, ◌≤◌, ℤ, Bool, true, false, cond, option_and_then, List, [], ◌∷◌, ◌++◌, length, map, Option, Some, None, refl, sym, ap, ◌∙◌, subst, arith, slice_get}
use Rattle.std.specs.Int.{w32}
use Rattle.std.specs.Int.RustNames.{FitsSigned}
use Rattle.cc_meaning.specs.declared.instruction.Kind.{Kind}
use Rattle.cc_meaning.specs.declared.instruction.Kind.TheVariants as access
use Rattle.cc_meaning.specs.declared.value.Value.{Value}
use Rattle.cc_meaning.specs.declared.value.Value.TheVariants as value
use Rattle.cc_meaning.specs.declared.value.Made.{Made}
use Rattle.cc_meaning.specs.declared.value.Object.{Object}
use Rattle.cc_meaning.specs.declared.value.Object.TheVariants as object
use Rattle.cc_meaning.specs.declared.image.RunImage.{RunImage}
use Rattle.cc_meaning.specs.declared.image.BackImage.{BackImage}
use Rattle.cc_meaning.specs.BuiltIn.{object_name, string_name, string_builder_name, system_name, print_stream_name, throwable_name, exception_name, error_name, runtime_exception_name, arithmetic_exception_name, null_pointer_exception_name, array_store_exception_name, class_cast_exception_name, index_out_of_bounds_exception_name, negative_array_size_exception_name, illegal_argument_exception_name, illegal_state_exception_name, array_index_out_of_bounds_exception_name, string_index_out_of_bounds_exception_name, linkage_error_name, virtual_machine_error_name, no_class_def_found_error_name, exception_in_initializer_error_name, incompatible_class_change_error_name, abstract_method_error_name, stack_overflow_error_name, system_out_name}
use Rattle.cc_meaning_run.specs.World.{World, Stack}
use Rattle.cc_meaning_run.specs.Acts.{less_by}
use Rattle.cc_meaning_run.specs.Eval.{Ran, ran, with_instructions, eval_with, body}
use Rattle.cc_built_in.specs.BuiltInMethods.{built_in_tables}
use Rattle.cc_meaning_run.specs.Local.{opening_static}
use Rattle.cc_meaning_images.specs.Spelling.{spelled_back}
use Rattle.cc_meaning_images.specs.Capture.{file_statuses, sent_statics, sent_calls, back_image}
use Rattle.cc_meaning_images.specs.Instance.{all_statuses, all_statics, world_of, stack_of, silent, ran_of, back_by, back_of}
use Rattle.cc_meaning_images.specs.Reading.{Runnable, classes_of_file, static_kinds, argument_kinds, runnable}
use Rattle.cc_meaning_images.specs.Forms.{AreValues, IsRunOf}
use Rattle.cc_meaning_plain.specs.declared.plain.PlainCode.{PlainCode}
use Rattle.cc_meaning_plain.specs.declared.plain.PlainFunction.{PlainFunction}
use Rattle.cc_meaning_plain.specs.declared.plain.Plain.{Plain}
use Rattle.cc_meaning_plain.specs.Laws.{AreBytes, FunctionRuns, function_ran}
use Rattle.cc_meaning_plain.specs.Plain.{IsPlain}
use Rattle.cc_meaning_plain.specs.Program.{built_in_names, class_number, code_of, type_of, function_number, function_of, program_of, setting_of}
use Rattle.cc_meaning_plain.specs.Text.{value_of, instructions_of}
use Rattle.cc_meaning_clone.specs.Served.{out_order, no_cursors, answered}
use Rattle.cc_meaning_clone.specs.Functions.{function_place, function_numbered, is_ordinary, runnable_function, function_end, left_of, end_image, FormIs, AnsweredIs, RunnableIs, RunParts, RunsHaveParts, BacksAreShort}
use Rattle.cc_meaning_clone.proofs.Functions.{number_of_place}

pub form_is : (plain : Plain) → FormIs plain
unfolding program_of built_in_names class_number built_in_tables function_of object_name string_name string_builder_name system_name print_stream_name throwable_name exception_name error_name runtime_exception_name arithmetic_exception_name null_pointer_exception_name array_store_exception_name class_cast_exception_name index_out_of_bounds_exception_name negative_array_size_exception_name illegal_argument_exception_name illegal_state_exception_name array_index_out_of_bounds_exception_name string_index_out_of_bounds_exception_name linkage_error_name virtual_machine_error_name no_class_def_found_error_name exception_in_initializer_error_name incompatible_class_change_error_name abstract_method_error_name stack_overflow_error_name system_out_name
form_is plain = record { one_class = refl; no_statics = refl; one_argument = λ f. refl }

-- ---- the image of an entry

-- an image of this form by its parts
abbrev entry_image : (m instructions words depth registers status : ℕ) → ℤ → RunImage
entry_image m instructions words depth registers status n = record {
  method = m;
  instructions = instructions;
  words = words;
  depth = depth;
  registers = registers;
  statuses = status ∷ [];
  args = value.Int n ∷ [];
  statics = [];
  literals = [];
  constants = [];
  objects = object.Out ∷ [];
}

one_status : (ss : List ℕ) → length ss ≡ 1 → (s : ℕ) × (ss ≡ s ∷ [])
one_status [] e = absurd (omega arith)
one_status (s ∷ []) e = (s, refl)
one_status (s ∷ r ∷ ss) e = absurd (omega arith)

no_values : (vs : List Value) → AreValues [] vs → vs ≡ []
no_values [] h = refl
no_values (v ∷ vs) h = absurd h

entry_is : (plain : Plain) (image : RunImage) (n : ℤ) → IsRunOf (program_of plain) image → image.args ≡ value.Int n ∷ [] →
    (s : ℕ) × (image ≡ entry_image image.method image.instructions image.words image.depth image.registers s n)
entry_is plain image n is args =
    let form = form_is plain in
    let status = one_status image.statuses (is.all_statuses ∙ form.one_class) in
    let statics = no_values image.statics (subst (λ ks. AreValues ks image.statics) form.no_statics is.statics) in (
      status.0,
      ap (λ (ss : List ℕ). record image { statuses = ss }) status.1
          ∙ ap (λ (vs : List Value). record image { statuses = status.0 ∷ []; args = vs }) args
          ∙ ap (λ (vs : List Value). record image { statuses = status.0 ∷ []; args = value.Int n ∷ []; statics = vs }) statics
          ∙ ap (λ (ms : List Made). record image { statuses = status.0 ∷ []; args = value.Int n ∷ []; statics = []; literals = ms }) is.no_literals
          ∙ ap (λ (ms : List Made). record image { statuses = status.0 ∷ []; args = value.Int n ∷ []; statics = []; literals = []; constants = ms }) is.no_constants
          ∙ ap (λ (os : List Object). record image { statuses = status.0 ∷ []; args = value.Int n ∷ []; statics = []; literals = []; constants = []; objects = os }) is.out_alone,
    )

-- ---- the image of the end

module _ (plain : Plain) (m instructions words depth registers status : ℕ) (n : ℤ) where
  abbrev image : RunImage
  image = entry_image m instructions words depth registers status n

  abbrev world : World
  world = world_of (program_of plain) (no_cursors plain) image

  back_ran : (code : PlainCode) (left : Option ℕ) →
      back_by (setting_of plain) world out_order out_order (function_ran code n world left tt) ≡ end_image (function_end code n left) (left_of left) image
  unfolding back_image world_of with_instructions all_statuses all_statics file_statuses sent_statics sent_calls setting_of program_of opening_static built_in_names class_number built_in_tables object_name string_name string_builder_name system_name print_stream_name throwable_name exception_name error_name runtime_exception_name arithmetic_exception_name null_pointer_exception_name array_store_exception_name class_cast_exception_name index_out_of_bounds_exception_name negative_array_size_exception_name illegal_argument_exception_name illegal_state_exception_name array_index_out_of_bounds_exception_name string_index_out_of_bounds_exception_name linkage_error_name virtual_machine_error_name no_class_def_found_error_name exception_in_initializer_error_name incompatible_class_change_error_name abstract_method_error_name stack_overflow_error_name system_out_name
  back_ran code None = refl
  back_ran code (Some left) = refl

-- ---- a Run of a function

-- its target is the function
target_is : RunnableIs → (plain : Plain) (image : RunImage) (f : PlainFunction) (is : IsRunOf (program_of plain) image) → function_numbered plain image.method ≡ Some f →
    is.target ≡ record { method = function_of plain f; code = code_of plain f.code }
target_is runnables plain image f is found =
    let e : runnable_function plain (Some f) ≡ Some is.target = sym (ap (runnable_function plain) found) ∙ sym (runnables plain image.method) ∙ is.runs in
    by (is_ordinary f) e
  where
    by : (b : Bool) → cond b (Some (record { method = function_of plain f; code = code_of plain f.code })) None ≡ Some is.target → is.target ≡ record { method = function_of plain f; code = code_of plain f.code }
    by true e = cc
    by false e = absurd cc

number_fits : (kinds : List Kind) (vs : List Value) (n : ℤ) → kinds ≡ access.Plain ∷ [] → vs ≡ value.Int n ∷ [] → AreValues kinds vs → FitsSigned w32 n
number_fits kinds vs n k v h =
    let first = subst (λ ks. AreValues ks vs) k h in
    let both = subst (λ xs. AreValues (access.Plain ∷ []) xs) v first in
    both.0

found_place : (plain : Plain) (m : ℕ) (f : PlainFunction) → function_numbered plain m ≡ Some f → (i : ℕ) × (function_place plain m ≡ Some i) × (slice_get plain.functions i ≡ Some f)
unfolding function_numbered
found_place plain m f e = by (function_place plain m) refl e
  where
    by : (p : Option ℕ) → function_place plain m ≡ p → option_and_then (λ (i : ℕ). slice_get plain.functions i) p ≡ Some f → (i : ℕ) × (function_place plain m ≡ Some i) × (slice_get plain.functions i ≡ Some f)
    by None at g = absurd cc
    by (Some i) at g = (i, at, g)

pub answered_is : RunnableIs → FunctionRuns silent → AnsweredIs
unfolding answered back_of ran_of world_of setting_of
answered_is runnables runs file plain run f n bytes is_plain is found args =
    let target = target_is runnables plain run f is found in
    let method : is.target.method ≡ function_of plain f = ap (λ (t : Runnable). t.method) target in
    let registers : is.target.code.registers ≡ f.code.registers = ap (λ (t : Runnable). t.code.registers) target in
    let kinds : argument_kinds is.target.method ≡ access.Plain ∷ [] = ap argument_kinds method ∙ (form_is plain).one_argument f in
    let fits = number_fits (argument_kinds is.target.method) run.args n kinds args is.args in
    let place = found_place plain run.method f found in
    let number = (number_of_place plain run.method place.0 place.1).0 in
    let entry = entry_is plain run n is args in
    let here = image plain run.method run.instructions run.words run.depth run.registers entry.0 n in
    let w = world plain run.method run.instructions run.words run.depth run.registers entry.0 n in
    let ran = runs file plain place.0 f bytes is_plain place.2 run.instructions n (stack_of here) w tt fits (omega arith) is.room_for_frame (subst (λ k. run.registers + k ≤ 65536) registers is.room_for_registers) in
    let ends : ran.0 ≡ tt = refl in
    let left = less_by (instructions_of f.code) run.instructions in
    let done : ran_of (setting_of plain) (no_cursors plain) here ≡ function_ran f.code n w left tt =
    ap (λ (k : ℕ). body (eval_with silent (setting_of plain) run.instructions) (setting_of plain) k (value.Int n ∷ []) (stack_of here) w tt) number ∙ ran.1 in
    subst (λ (x : RunImage). answered plain x ≡ end_image (function_end f.code n left) (left_of left) x) (sym entry.1)
    (ap (back_by (setting_of plain) w out_order out_order) done ∙ back_ran plain run.method run.instructions run.words run.depth run.registers entry.0 n f.code left)

-- ---- the parts of a Run

by_function : RunnableIs → (plain : Plain) (image : RunImage) → IsRunOf (program_of plain) image → (o : Option PlainFunction) → function_numbered plain image.method ≡ o → (f : PlainFunction) × (function_numbered plain image.method ≡ Some f)
by_function runnables plain image is None e =
    let none : None ≡ Some is.target = sym (ap (runnable_function plain) e) ∙ sym (runnables plain image.method) ∙ is.runs in
    absurd cc
by_function runnables plain image is (Some f) e = (f, e)

one_number : (vs : List Value) → AreValues (access.Plain ∷ []) vs → (n : ℤ) × (vs ≡ value.Int n ∷ [])
one_number [] h = absurd h
one_number (value.Int n ∷ []) h = (n, refl)
one_number (value.Int n ∷ v ∷ vs) h = absurd h.1
one_number (value.Long n ∷ vs) h = absurd h.0
one_number (value.Obj o ∷ vs) h = absurd h.0

pub runs_have_parts : RunnableIs → RunsHaveParts
runs_have_parts runnables plain image is =
    let f = by_function runnables plain image is (function_numbered plain image.method) refl in
    let target = target_is runnables plain image f.0 is f.1 in
    let kinds : argument_kinds is.target.method ≡ access.Plain ∷ [] = ap (λ (t : Runnable). argument_kinds t.method) target ∙ (form_is plain).one_argument f.0 in
    let n = one_number image.args (subst (λ ks. AreValues ks image.args) kinds is.args) in
    let s = one_status image.statuses (is.all_statuses ∙ (form_is plain).one_class) in
    record { function = f.0; argument = n.0; status = s.0; found = f.1; args = n.1; statuses = s.1 }

pub backs_are_short : BacksAreShort
unfolding spelled_back
backs_are_short code n None run status e =
    subst (λ ss. length (spelled_back (end_image (function_end code n None) 0 (record run { statuses = ss }))) ≤ 30) (sym e) (omega arith)
backs_are_short code n (Some left) run status e =
    subst (λ ss. length (spelled_back (end_image (function_end code n (Some left)) left (record run { statuses = ss }))) ≤ 30) (sym e) (omega arith)
