-- A worked example, computed from the definitions.
use Rattle.std.proofs.Common.{refl}
use Rattle.std.specs.Fmt.{digits}
use Rattle.std.specs.Char.{encode_utf8}
use Rattle.std.specs.Char.Utf16.{utf16_chars}
use Rattle.cc_meaning.specs.BuiltIn.{object_name, string_name, string_builder_name, system_name, print_stream_name, throwable_name, exception_name, error_name, runtime_exception_name, arithmetic_exception_name, null_pointer_exception_name, array_store_exception_name, class_cast_exception_name, index_out_of_bounds_exception_name, negative_array_size_exception_name, illegal_argument_exception_name, illegal_state_exception_name, array_index_out_of_bounds_exception_name, string_index_out_of_bounds_exception_name, linkage_error_name, virtual_machine_error_name, no_class_def_found_error_name, exception_in_initializer_error_name, incompatible_class_change_error_name, abstract_method_error_name, stack_overflow_error_name, system_out_name}
use Rattle.cc_meaning_run.specs.Acts.{less_by, with_words, pay, with_object, with_event, found, noted, run_act}
use Rattle.cc_built_in.specs.BuiltInMethods.{built_in_tables, built_in_methods, print_stream_methods, object_methods, string_methods, string_builder_methods, message_methods, methods_before}
use Rattle.cc_meaning_run.specs.Instructions.{on_cell, on_value, on_int, on_object, on_values, on_pending, set_next, println_if, built_in, line_of, on_stream, print_line, call_built_in, call_kind, call, call_named, if_started, enter_static, call_static, call_static_named, act_of, code_of_kind, code_of_method, code_of, placed_in, act_placed, act_at}
use Rattle.cc_meaning_run.specs.Eval.{cells_of, registers_in, unset_in, locals_for, deeper, has_room, resume, body_if, body, replied, after, with_instructions, turn_in, turn, eval_with}
use Rattle.cc_meaning_run.specs.Invocations.{place_at, entered, counted, charged, onlooker}
use Rattle.cc_meaning_run.specs.Local.{opening_static, opening_world, make_texts, texts_class, make_args, with_ready, main_class, begun, begin_in, run_with, utf8_of, output_of, calls_of, message_of, thrown_ending, ending_of, report_in, report_of, local, invocations}
use Rattle.cc_meaning_plain.specs.Program.{built_in_names, class_number, main_name, before_main, type_of, result_of, built_in_of, function_of, methods_of, placed_from, program_of, setting_of}
use Rattle.cc_meaning_images.specs.Spelling.{spelled_run, spelled_back}
use Rattle.cc_meaning_images.specs.Capture.{file_statuses, sent_statics, run_image, sent_calls, back_image}
use Rattle.cc_meaning_images.specs.Instance.{all_statuses, all_statics, world_of, ran_of, back_of}
use Rattle.cc_meaning_images.specs.Reading.{reading, allowed, number_if, number, byte, none, values, runnable, run_head, statuses, out_alone, run_behind, whole, read_run, result, ending_by, ending, statuses_since, back_head, back_behind, read_back}
use Rattle.cc_meaning_clone.specs.Served.{answered, served}
use Rattle.cc_meaning_clone.specs.Worked.{world_at_entry, entry}
use Rattle.cc_meaning_device.specs.Merging.{old_put, statuses_put, statics_put, world_put}
use Rattle.cc_meaning_device.specs.Received.{behind_ready, back_of_frames, reply_of, sent_in, entry_of, receiver, offloaded}
use Rattle.cc_meaning_device.specs.Worked.{FollowsTheFrames, JudgesTheFrames, StopsWithin, CallsTwice}

pub follows : FollowsTheFrames
unfolding less_by with_words pay with_object with_event found noted run_act on_cell on_value on_int on_object on_values on_pending set_next println_if built_in line_of on_stream print_line call_built_in call_kind call call_named if_started enter_static call_static call_static_named act_of code_of_kind code_of_method code_of placed_in act_placed act_at cells_of registers_in unset_in locals_for deeper has_room resume body_if body replied after with_instructions turn_in turn eval_with place_at entered counted charged onlooker opening_static opening_world make_texts texts_class make_args with_ready main_class begun begin_in run_with utf8_of output_of calls_of message_of thrown_ending ending_of report_in report_of local invocations built_in_tables built_in_methods print_stream_methods object_methods string_methods string_builder_methods message_methods methods_before built_in_names class_number main_name before_main type_of result_of built_in_of function_of methods_of placed_from program_of setting_of digits encode_utf8 utf16_chars object_name string_name string_builder_name system_name print_stream_name throwable_name exception_name error_name runtime_exception_name arithmetic_exception_name null_pointer_exception_name array_store_exception_name class_cast_exception_name index_out_of_bounds_exception_name negative_array_size_exception_name illegal_argument_exception_name illegal_state_exception_name array_index_out_of_bounds_exception_name string_index_out_of_bounds_exception_name linkage_error_name virtual_machine_error_name no_class_def_found_error_name exception_in_initializer_error_name incompatible_class_change_error_name abstract_method_error_name stack_overflow_error_name system_out_name spelled_run spelled_back file_statuses sent_statics run_image sent_calls back_image all_statuses all_statics world_of ran_of back_of reading allowed number_if number byte none values runnable run_head statuses out_alone run_behind whole read_run result ending_by ending statuses_since back_head back_behind read_back answered served world_at_entry entry old_put statuses_put statics_put world_put behind_ready back_of_frames reply_of sent_in entry_of receiver offloaded
follows = record { right = refl; wrong = refl; nothing = refl; ready_alone = refl; refused = refl; back_first = refl; more = refl }

pub judges : JudgesTheFrames
unfolding less_by with_words pay with_object with_event found noted run_act on_cell on_value on_int on_object on_values on_pending set_next println_if built_in line_of on_stream print_line call_built_in call_kind call call_named if_started enter_static call_static call_static_named act_of code_of_kind code_of_method code_of placed_in act_placed act_at cells_of registers_in unset_in locals_for deeper has_room resume body_if body replied after with_instructions turn_in turn eval_with place_at entered counted charged onlooker opening_static opening_world make_texts texts_class make_args with_ready main_class begun begin_in run_with utf8_of output_of calls_of message_of thrown_ending ending_of report_in report_of local invocations built_in_tables built_in_methods print_stream_methods object_methods string_methods string_builder_methods message_methods methods_before built_in_names class_number main_name before_main type_of result_of built_in_of function_of methods_of placed_from program_of setting_of digits encode_utf8 utf16_chars object_name string_name string_builder_name system_name print_stream_name throwable_name exception_name error_name runtime_exception_name arithmetic_exception_name null_pointer_exception_name array_store_exception_name class_cast_exception_name index_out_of_bounds_exception_name negative_array_size_exception_name illegal_argument_exception_name illegal_state_exception_name array_index_out_of_bounds_exception_name string_index_out_of_bounds_exception_name linkage_error_name virtual_machine_error_name no_class_def_found_error_name exception_in_initializer_error_name incompatible_class_change_error_name abstract_method_error_name stack_overflow_error_name system_out_name spelled_run spelled_back file_statuses sent_statics run_image sent_calls back_image all_statuses all_statics world_of ran_of back_of reading allowed number_if number byte none values runnable run_head statuses out_alone run_behind whole read_run result ending_by ending statuses_since back_head back_behind read_back answered served world_at_entry entry old_put statuses_put statics_put world_put behind_ready back_of_frames reply_of sent_in entry_of receiver offloaded
judges = record { version = refl; kind = refl; longer = refl }

pub stops : StopsWithin
unfolding less_by with_words pay with_object with_event found noted run_act on_cell on_value on_int on_object on_values on_pending set_next println_if built_in line_of on_stream print_line call_built_in call_kind call call_named if_started enter_static call_static call_static_named act_of code_of_kind code_of_method code_of placed_in act_placed act_at cells_of registers_in unset_in locals_for deeper has_room resume body_if body replied after with_instructions turn_in turn eval_with place_at entered counted charged onlooker opening_static opening_world make_texts texts_class make_args with_ready main_class begun begin_in run_with utf8_of output_of calls_of message_of thrown_ending ending_of report_in report_of local invocations built_in_tables built_in_methods print_stream_methods object_methods string_methods string_builder_methods message_methods methods_before built_in_names class_number main_name before_main type_of result_of built_in_of function_of methods_of placed_from program_of setting_of digits encode_utf8 utf16_chars object_name string_name string_builder_name system_name print_stream_name throwable_name exception_name error_name runtime_exception_name arithmetic_exception_name null_pointer_exception_name array_store_exception_name class_cast_exception_name index_out_of_bounds_exception_name negative_array_size_exception_name illegal_argument_exception_name illegal_state_exception_name array_index_out_of_bounds_exception_name string_index_out_of_bounds_exception_name linkage_error_name virtual_machine_error_name no_class_def_found_error_name exception_in_initializer_error_name incompatible_class_change_error_name abstract_method_error_name stack_overflow_error_name system_out_name spelled_run spelled_back file_statuses sent_statics run_image sent_calls back_image all_statuses all_statics world_of ran_of back_of reading allowed number_if number byte none values runnable run_head statuses out_alone run_behind whole read_run result ending_by ending statuses_since back_head back_behind read_back answered served world_at_entry entry old_put statuses_put statics_put world_put behind_ready back_of_frames reply_of sent_in entry_of receiver offloaded
stops = record { here = refl; there = refl; merged = refl; given_back = refl }

pub calls : CallsTwice
unfolding less_by with_words pay with_object with_event found noted run_act on_cell on_value on_int on_object on_values on_pending set_next println_if built_in line_of on_stream print_line call_built_in call_kind call call_named if_started enter_static call_static call_static_named act_of code_of_kind code_of_method code_of placed_in act_placed act_at cells_of registers_in unset_in locals_for deeper has_room resume body_if body replied after with_instructions turn_in turn eval_with place_at entered counted charged onlooker opening_static opening_world make_texts texts_class make_args with_ready main_class begun begin_in run_with utf8_of output_of calls_of message_of thrown_ending ending_of report_in report_of local invocations built_in_tables built_in_methods print_stream_methods object_methods string_methods string_builder_methods message_methods methods_before built_in_names class_number main_name before_main type_of result_of built_in_of function_of methods_of placed_from program_of setting_of digits encode_utf8 utf16_chars object_name string_name string_builder_name system_name print_stream_name throwable_name exception_name error_name runtime_exception_name arithmetic_exception_name null_pointer_exception_name array_store_exception_name class_cast_exception_name index_out_of_bounds_exception_name negative_array_size_exception_name illegal_argument_exception_name illegal_state_exception_name array_index_out_of_bounds_exception_name string_index_out_of_bounds_exception_name linkage_error_name virtual_machine_error_name no_class_def_found_error_name exception_in_initializer_error_name incompatible_class_change_error_name abstract_method_error_name stack_overflow_error_name system_out_name spelled_run spelled_back file_statuses sent_statics run_image sent_calls back_image all_statuses all_statics world_of ran_of back_of reading allowed number_if number byte none values runnable run_head statuses out_alone run_behind whole read_run result ending_by ending statuses_since back_head back_behind read_back answered served world_at_entry entry old_put statuses_put statics_put world_put behind_ready back_of_frames reply_of sent_in entry_of receiver offloaded
calls = record { both = refl; both_merged = refl; first = refl; first_merged = refl; first_sent = refl; neither = refl; neither_sent = refl; late = refl }
