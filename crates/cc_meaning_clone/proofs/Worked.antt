-- Worked examples, computed from the definitions.
use Rattle.std.proofs.Common.{refl}
use Rattle.std.specs.Fmt.{digits}
use Rattle.cc_meaning.specs.BuiltIn.{object_name, string_name, string_builder_name, system_name, print_stream_name, throwable_name, exception_name, error_name, runtime_exception_name, arithmetic_exception_name, null_pointer_exception_name, array_store_exception_name, class_cast_exception_name, index_out_of_bounds_exception_name, negative_array_size_exception_name, illegal_argument_exception_name, illegal_state_exception_name, array_index_out_of_bounds_exception_name, string_index_out_of_bounds_exception_name, linkage_error_name, virtual_machine_error_name, no_class_def_found_error_name, exception_in_initializer_error_name, incompatible_class_change_error_name, abstract_method_error_name, stack_overflow_error_name, system_out_name}
use Rattle.cc_meaning_run.specs.Acts.{less_by, with_words, pay, with_object, with_event, found, noted, run_act}
use Rattle.cc_built_in.specs.BuiltInMethods.{built_in_tables, built_in_methods, print_stream_methods, object_methods, string_methods, string_builder_methods, message_methods, methods_before}
use Rattle.cc_meaning_run.specs.Instructions.{on_cell, on_value, on_int, on_object, on_values, on_pending, set_next, act_of, code_of_kind, code_of_method, code_of, placed_in, act_placed, act_at}
use Rattle.cc_meaning_run.specs.Eval.{cells_of, registers_in, unset_in, locals_for, deeper, has_room, resume, body_if, body, replied, after, with_instructions, turn_in, turn, eval_with}
use Rattle.cc_meaning_run.specs.Local.{opening_static, opening_world, with_ready}
use Rattle.cc_meaning_plain.specs.Program.{built_in_names, class_number, main_name, before_main, type_of, result_of, built_in_of, function_of, methods_of, placed_from, program_of, setting_of}
use Rattle.cc_meaning_images.specs.Spelling.{spelled_run, spelled_back}
use Rattle.cc_meaning_images.specs.Capture.{file_statuses, sent_statics, run_image, sent_calls, back_image}
use Rattle.cc_meaning_images.specs.Instance.{all_statuses, all_statics, world_of, ran_of, back_of}
use Rattle.cc_meaning_images.specs.Reading.{reading, allowed, number_if, number, byte, none, values, runnable, run_head, statuses, out_alone, run_behind, whole, read_run, result, ending_by, ending, statuses_since, back_head, back_behind, read_back}
use Rattle.cc_meaning_clone.specs.Served.{answered, served}
use Rattle.cc_meaning_clone.specs.Worked.{world_at_entry, entry}
use Rattle.cc_meaning_clone.specs.Worked.{EntryIsSpelled, EndIsSpelled}

pub entry_is_spelled : EntryIsSpelled
unfolding digits object_name string_name string_builder_name system_name print_stream_name throwable_name exception_name error_name runtime_exception_name arithmetic_exception_name null_pointer_exception_name array_store_exception_name class_cast_exception_name index_out_of_bounds_exception_name negative_array_size_exception_name illegal_argument_exception_name illegal_state_exception_name array_index_out_of_bounds_exception_name string_index_out_of_bounds_exception_name linkage_error_name virtual_machine_error_name no_class_def_found_error_name exception_in_initializer_error_name incompatible_class_change_error_name abstract_method_error_name stack_overflow_error_name system_out_name less_by with_words pay with_object with_event found noted run_act built_in_tables built_in_methods print_stream_methods object_methods string_methods string_builder_methods message_methods methods_before on_cell on_value on_int on_object on_values on_pending set_next act_of code_of_kind code_of_method code_of placed_in act_placed act_at cells_of registers_in unset_in locals_for deeper has_room resume body_if body replied after with_instructions turn_in turn eval_with opening_static opening_world with_ready built_in_names class_number main_name before_main type_of result_of built_in_of function_of methods_of placed_from program_of setting_of spelled_run spelled_back file_statuses sent_statics run_image sent_calls back_image all_statuses all_statics world_of ran_of back_of reading allowed number_if number byte none values runnable run_head statuses out_alone run_behind whole read_run result ending_by ending statuses_since back_head back_behind read_back answered served world_at_entry entry
entry_is_spelled = record { spelled = refl; read = refl; cut = refl; longer = refl; of_main = refl; of_many_words = refl }

pub end_is_spelled : EndIsSpelled
unfolding digits object_name string_name string_builder_name system_name print_stream_name throwable_name exception_name error_name runtime_exception_name arithmetic_exception_name null_pointer_exception_name array_store_exception_name class_cast_exception_name index_out_of_bounds_exception_name negative_array_size_exception_name illegal_argument_exception_name illegal_state_exception_name array_index_out_of_bounds_exception_name string_index_out_of_bounds_exception_name linkage_error_name virtual_machine_error_name no_class_def_found_error_name exception_in_initializer_error_name incompatible_class_change_error_name abstract_method_error_name stack_overflow_error_name system_out_name less_by with_words pay with_object with_event found noted run_act built_in_tables built_in_methods print_stream_methods object_methods string_methods string_builder_methods message_methods methods_before on_cell on_value on_int on_object on_values on_pending set_next act_of code_of_kind code_of_method code_of placed_in act_placed act_at cells_of registers_in unset_in locals_for deeper has_room resume body_if body replied after with_instructions turn_in turn eval_with opening_static opening_world with_ready built_in_names class_number main_name before_main type_of result_of built_in_of function_of methods_of placed_from program_of setting_of spelled_run spelled_back file_statuses sent_statics run_image sent_calls back_image all_statuses all_statics world_of ran_of back_of reading allowed number_if number byte none values runnable run_head statuses out_alone run_behind whole read_run result ending_by ending statuses_since back_head back_behind read_back answered served world_at_entry entry
end_is_spelled = record { spelled = refl; read = refl }
