-- Which frames answer the image of a worked example.
use Rattle.std.proofs.Common.{◌≡◌, ℕ, zero, suc, pos, List, [], ◌∷◌, Some, refl, sym, ap, ◌∙◌, subst, arith, slice_get, slice_index}
use Rattle.cc_meaning.specs.declared.frame.Frame.{Frame}
use Rattle.cc_meaning.specs.BuiltIn.{object_name, string_name, string_builder_name, system_name, print_stream_name, throwable_name, exception_name, error_name, runtime_exception_name, arithmetic_exception_name, null_pointer_exception_name, array_store_exception_name, class_cast_exception_name, index_out_of_bounds_exception_name, negative_array_size_exception_name, illegal_argument_exception_name, illegal_state_exception_name, array_index_out_of_bounds_exception_name, string_index_out_of_bounds_exception_name, linkage_error_name, virtual_machine_error_name, no_class_def_found_error_name, exception_in_initializer_error_name, incompatible_class_change_error_name, abstract_method_error_name, stack_overflow_error_name, system_out_name}
use Rattle.cc_meaning_run.specs.Acts.{with_words}
use Rattle.cc_built_in.specs.BuiltInMethods.{built_in_tables}
use Rattle.cc_meaning_run.specs.Eval.{with_instructions}
use Rattle.cc_meaning_run.specs.Local.{opening_static, opening_world, with_ready}
use Rattle.cc_meaning_images.specs.Spelling.{spelled_run, spelled_back}
use Rattle.cc_meaning_images.specs.Capture.{file_statuses, sent_statics, run_image}
use Rattle.cc_meaning_images.specs.Forms.{AreBytes, IsRunOf, RunIsSpelled}
use Rattle.cc_meaning_nodes.specs.Clone.{back_kind, refuse_kind}
use Rattle.cc_meaning_plain.specs.Program.{class_number, built_in_names, program_of}
use Rattle.cc_meaning_plain.specs.Worked.{one_more}
use Rattle.cc_meaning_clone.specs.Served.{answered}
use Rattle.cc_meaning_clone.specs.Worked.{world_at_entry, entry, entry_bytes, EntryIsSpelled, EndIsSpelled}
use Rattle.cc_meaning_device.specs.Worked.{back, false_back, refuse}
use Rattle.cc_meaning_device.specs.Honest.{IsAnswer}
use Rattle.cc_meaning_device.specs.WorkedAnswers.{JudgesAnswers}
use Rattle.cc_meaning_device.proofs.Entries.{image_by, each_byte, entry_bytes as bytes_of_entry}

entry_is : entry ≡ image_by 0 98 98 1 3 2 (pos 5)
unfolding entry world_at_entry run_image file_statuses sent_statics opening_world opening_static with_words with_instructions with_ready program_of class_number built_in_names built_in_tables object_name string_name string_builder_name system_name print_stream_name throwable_name exception_name error_name runtime_exception_name arithmetic_exception_name null_pointer_exception_name array_store_exception_name class_cast_exception_name index_out_of_bounds_exception_name negative_array_size_exception_name illegal_argument_exception_name illegal_state_exception_name array_index_out_of_bounds_exception_name string_index_out_of_bounds_exception_name linkage_error_name virtual_machine_error_name no_class_def_found_error_name exception_in_initializer_error_name incompatible_class_change_error_name abstract_method_error_name stack_overflow_error_name system_out_name
entry_is = refl

module _ (reads : RunIsSpelled) (spelled : EntryIsSpelled) (ends : EndIsSpelled) where
  entry_is_run : IsRunOf (program_of one_more) entry
  entry_is_run =
      let bytes : AreBytes entry_bytes = subst (λ (bytes : List ℕ). AreBytes bytes) (ap spelled_run (sym entry_is) ∙ spelled.spelled) (each_byte _ (bytes_of_entry 0 98 98 1 3 (pos 5))) in
      (reads (program_of one_more) entry_bytes entry bytes spelled.read).1

  same_frame : (a b : Frame) → Some a ≡ Some b → a ≡ b
  same_frame a b e = cc

  back_answers : (i : ℕ) (frame : Frame) → slice_get (back ∷ []) i ≡ Some frame → frame.kind ≡ back_kind → IsAnswer one_more (slice_get (entry ∷ []) i) frame.payload
  back_answers zero frame stands kind =
      subst (λ (f : Frame). IsAnswer one_more (Some entry) f.payload) (same_frame back frame stands) (entry_is_run, sym ends.spelled)
  back_answers (suc i) frame stands kind = absurd cc

  refusal_is_none : (i : ℕ) (frame : Frame) → slice_get (refuse ∷ []) i ≡ Some frame → frame.kind ≡ back_kind → IsAnswer one_more (slice_get (entry ∷ []) i) frame.payload
  refusal_is_none zero frame stands kind =
      let other : refuse_kind ≡ back_kind = ap (λ (f : Frame). f.kind) (same_frame refuse frame stands) ∙ kind in
      absurd (omega (arith, other))
  refusal_is_none (suc i) frame stands kind = absurd cc

  seven_is_none : false_back.payload ≡ spelled_back (answered one_more entry) → ⊥
  seven_is_none e = let digit : 7 ≡ 6 = ap (λ (bytes : List ℕ). slice_index bytes 4) (e ∙ ends.spelled) in omega (arith, digit)

  pub judges_answers : JudgesAnswers
  judges_answers = record {
    right = λ opened i frame stands kind. back_answers i frame stands kind;
    ready_alone = λ opened i frame stands kind. absurd cc;
    nothing = tt;
    refused = λ opened i frame stands kind. refusal_is_none i frame stands kind;
    wrong = λ h. seven_is_none (h refl 0 false_back refl refl).1;
    unasked = λ h. h refl 0 back refl refl;
    second = λ h. h refl 1 back refl refl;
  }
