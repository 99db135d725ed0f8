-- The worked examples, computed.
use Rattle.std.proofs.Common.{refl}
use Rattle.std.specs.Fmt.{digits}
use Rattle.std.specs.Int.{int_wrap}
use Rattle.std.specs.Char.{encode_utf8}
use Rattle.std.specs.Char.Utf16.{utf16_chars}
use Rattle.cc_meaning.specs.BuiltIn.{object_name, string_name, string_builder_name, system_name, print_stream_name, throwable_name, exception_name, error_name, runtime_exception_name, arithmetic_exception_name, null_pointer_exception_name, array_store_exception_name, class_cast_exception_name, index_out_of_bounds_exception_name, negative_array_size_exception_name, illegal_argument_exception_name, illegal_state_exception_name, array_index_out_of_bounds_exception_name, string_index_out_of_bounds_exception_name, linkage_error_name, virtual_machine_error_name, no_class_def_found_error_name, exception_in_initializer_error_name, incompatible_class_change_error_name, abstract_method_error_name, stack_overflow_error_name, built_in_plain_classes, built_in_throwables, built_in_classes, out_name, system_out_name}
use Rattle.cc_meaning_typing.specs.Hierarchy.{on_value, superclass_in, superclass_of, object_class, climb, climbs_to, has_ancestor}
use Rattle.cc_meaning_typing.specs.Types.{is_class, is_reference_in, is_reference, is_loose_kind, is_loose_in, is_loose, held_base, held, fits_class, first_held, class_above, fewer, above_objects, next_in, next_above, is_same_base, is_same_type, rises_to, reach, first_shared, least_above}
use Rattle.cc_meaning_typing.specs.Code.{is_array_of, is_array, element_of, string_type, throwable_type, brackets, behind_brackets, base_of, type_of_kind, type_of_found, type_of_class, address_of, address, placed_at, insn_of, insn_at, is_payload, type_made_by, type_made_at, targets_in, case_targets, successors_of, successors, divides, can_throw, catches_of, catches_at, handlers}
use Rattle.cc_meaning_typing.specs.WellTyped.{is_of_file, is_file_class, is_file_interface, is_abstract_in_file, is_never_made, can_be_made}
use Rattle.cc_meaning_world.specs.Acts.{arrived, pay, paying, found, noted, units_of, or_make, given, freely, answered, asked, run_act}
use Rattle.cc_meaning_world.specs.Casts.{is_open_kind, is_open_in, is_open, counts_interfaces, interfaces_in, interfaces_of, extends, lists, implements, meets_class, passes_in, passes}
use Rattle.cc_meaning_world.specs.Changes.{less_by, with_instructions, with_words, with_statuses, with_status, with_object, with_objects, with_object_at, values_set, rebuilt, with_value, put_in, more_units, with_static, number_for, noted_made, with_literal, with_constant, with_event, cursor_at, with_answer}
use Rattle.cc_meaning_world.specs.Layouts.{climbs, is_below, type_in, types_of_fields, layout_in, layout_of, message_types, shape, slot, slot_in, zeros, new_object}
use Rattle.cc_meaning_world.specs.Opening.{opening_static, opening_world, texts_class, numbered, argument_objects, with_arguments}
use Rattle.cc_meaning_world.specs.Recorded.{shown, arg_of, before, args_of, made_by, words_made, words_recorded}
use Rattle.cc_meaning_world.specs.Scripts.{class_in, script_of, class_of_found, class_asked, given_for, free_in, free_answer, unpinned_in, is_scripted_kind, is_scripted_in, is_scripted, has_answer, is_free, is_stateful, is_pinned, pinned_among, has_pinned, has_name_of_stream, is_of_stream, is_held, next_of, next_among, next_answer}
use Rattle.cc_meaning_world.specs.Sorts.{sort_of, number_of, type_of}
use Rattle.cc_meaning_world.specs.Throwing.{on_some, throw_of, throw_new, on_object, or_throw}
use Rattle.cc_meaning_rows.specs.Calls.{truth, text_of, builder_of, message_of, copy_of, is_same_object, is_text_of, equals_text, unit_at, on_text, on_text_or_null, on_printed, row_act, on_receiver, row_of_call, act_of_call, called}
use Rattle.cc_meaning_rows.specs.Rows.{object_rows, throwable_rows, message_rows, string_rows, string_builder_rows, print_stream_rows, array_rows, named_rows, rows_of, found_row, built_in_of, built_in, built_in_numbered}
use Rattle.cc_meaning_exec.specs.Arrays.{elements_in, element_type_of, element_at, place_in, or_out_of_bounds, stored, on_array, size_of, array_class, zero_elements, elements_from, number_of_bytes, numbers_of_bytes, numbers_in, element_value, fill, fill_with, pick, nth_from, chosen, switch_to}
use Rattle.cc_meaning_exec.specs.Dispatch.{same_types, same_result, stands_for, first_in, or_above, search_from, is_outside_kind, if_outside, class_of_type, dispatch, dispatch_above, enter_kind, enter, enter_found, answers_to, if_answers, call_on, invoke_how, invoke}
use Rattle.cc_meaning_exec.specs.Eval.{caught, thrown, failing, resume, told, as_ran, body_if, body, replied, call, after, told_calls, after_acts, acts_at, initialised, initialise, valued, valued_in, starts, started, opened_if, opened, turn, eval_with}
use Rattle.cc_meaning_exec.specs.Exceptions.{end_of, raised_by, new_exception, overflow, takes, handler_in, catches_in, handler_of, handler_for}
use Rattle.cc_meaning_exec.specs.Frames.{cells_of, registers_in, registers_of, locals_for, deeper, frame_for, has_room, room_for}
use Rattle.cc_meaning_exec.specs.Instructions.{value_at, make_of, cast_to, is_instance, class_of_named, make_array, move_int, move_reference, data_for, act_of, code_of_kind, code_of_method, code_of, placed_in, insn_in, insn_of_method, own_class, act_placed, act_in, act_at}
use Rattle.cc_meaning_exec.specs.Numbers.{is_same_int, operated, operated_as, or_divided_by_zero, second_in, converted_in, kept_bits, kept, both, or_else, are_same, compares, compares_zero, branch}
use Rattle.cc_meaning_exec.specs.Registers.{int_in, long_in, null_of, reference_in, value_in, cell_at, on_int, on_long, on_value_of, on_reference_or_null, on_reference, onto, skipping, values_in, cells_with, go_on, set_next, go_back, move_cell}
use Rattle.cc_meaning_exec.specs.Runs.{launched, run_main, begun, begun_in, with_made_arguments, run_with, innermost, outer_ones, with_invocation, entered, changed_at, changed, counted, calling, closed, onlooker, opening_invocations, utf8_of, output_of, calls_of, text_in, text_at, thrown_ending, ending_of, report_in, report_of, onlooked, local, kept_of, invocations}
use Rattle.cc_meaning_exec.specs.Starts.{is_of_file_in, if_of_file, class_made, class_of_field, class_of_method, class_named_in, class_needed, class_of_main, climb_at, climb_up, climb_from, starting, statics_from, put_values, stated_in, values_act, put_statics, initialiser_in, initialiser_of, all_failed, with_failed, failed_with, all_fail, is_error_in, wrapped_if, wrapped, start_failed, start_refused}
use Rattle.cc_meaning_exec.specs.WorkedPrograms.{built_in_number, built_in_behind, with_built_in, placed_from, nowhere, name_of_object, shown_end, called_with, comes_to}
use Rattle.cc_meaning_migration.specs.Answers.{answer_in, cursor_in, answer_if, answer_of, advanced, answers_behind, answers_of, unanswered, words_of_sent}
use Rattle.cc_meaning_migration.specs.Backs.{result_of, result_type, returned, method_number, script_end, script_other, ending_by, ending, statuses_since, reference_argument, argument_of_kind, arguments_of, if_scripted, scripted, sent_call, contents_for, all_contents, is_next, object_numbered, if_next, changed_contents, old_contents, back_head, back_of, back_behind, read_back}
use Rattle.cc_meaning_migration.specs.Decoding.{if_fit, if_counted, if_answered, whole_in, whole, judged_run, decoded_run, judged_back, decoded_back}
use Rattle.cc_meaning_migration.specs.Ends.{made_since, sent_calls, mentioned_in_end, end_roots, end_order, contents_of, is_same_value, are_same_values, are_same_contents, holds_same, is_listed, changes_from, contents_now, sent_end, end_of_sent, back_by, back_image, captured_end}
use Rattle.cc_meaning_migration.specs.Entry.{file_statuses, is_sent, sent_statics, entry_roots, entry_order, run_by, run_image, captured_entry}
use Rattle.cc_meaning_migration.specs.Fits.{place_of, places_of, places_in, literal_places, constant_places, member_places, object_places, argument_types_of, run_places, result_place, end_places, change_places, back_places, fits_type, is_constant, meets, lesser, unfit, unfit_in_run, unfit_in_back, run_counts, units_in, units_now, has_grown, growth, back_counts}
use Rattle.cc_meaning_migration.specs.Forms.{greatest_of, behind_first, mentioned_in_run, mentioned_in_contents, mentioned_in_back}
use Rattle.cc_meaning_migration.specs.Items.{is_in_range, value_of_kind, values_of, units, is_new_what, mades_from, mades, is_array_kind, is_float_base, is_instance_in, is_instance_class, is_array_in, is_array_class, element_type, is_class_number, class_number, elements, instance, array, object_by, object_at, out_at, objects_within, objects_behind}
use Rattle.cc_meaning_migration.specs.Numbers.{reading, allowed, on_named, behind, number_if, number, byte_in, byte, mentioning, numbered_if, reference_of, reference, object_named, items, counted_items}
use Rattle.cc_meaning_migration.specs.Order.{mention, mentions, made_objects, members_of, mentioned_by, stands_in, distinct_after, mentioned, joined, with_members_at, walked, order_of}
use Rattle.cc_meaning_migration.specs.Placing.{all_statuses, all_statics, table_of, placed_by, placed, stack_of}
use Rattle.cc_meaning_migration.specs.Putting.{table_behind, with_contents, with_change, with_changes, put_statuses, put_statics as put_statics_putting, with_made, with_sent, with_calls, put_by, put_in_table, put}
use Rattle.cc_meaning_migration.specs.Renaming.{if_some, with_first, each, rename_value, rename_values, rename_made, rename_mades, rename_object, rename_contents, rename_end, copies, number_in, object_in, numbers_from}
use Rattle.cc_meaning_migration.specs.Runs.{argument_types, static_types, classes_of_file, has_code, if_movable, movable, run_head, statuses_of, run_objects, run_of, run_behind, read_run}
use Rattle.cc_meaning_migration.specs.Spelling.{byte_of_version, version_of_byte, spelled_run, spelled_changes, spelled_back}
use Rattle.cc_meaning_offload.specs.Clones.{to_hello, answer_by}
use Rattle.cc_meaning_offload.specs.Exchanges.{hello_of, hello_bytes, requests}
use Rattle.cc_meaning_offload.specs.Received.{version_in, version_of_ready, opened_by, back_read, back_in, taken_in, taken, reply_of, sent_by, migrated, entry_of, receiver, offloaded_of, offloaded}
use Rattle.cc_meaning_offload.specs.Served.{first_held as first_held_served, watching, evaluated, end_image, or_false, served_end, served_image, served_by, served}
use Rattle.cc_meaning_offload.specs.Worked.{said, answer_to, is_method, over, answers, first_served}
use Rattle.cc_meaning_offload.specs.Worked.{RunsHold, HeldCallsHold}

pub runs_hold : RunsHold
unfolding digits int_wrap encode_utf8 utf16_chars object_name string_name string_builder_name system_name print_stream_name throwable_name exception_name error_name runtime_exception_name arithmetic_exception_name null_pointer_exception_name array_store_exception_name class_cast_exception_name index_out_of_bounds_exception_name negative_array_size_exception_name illegal_argument_exception_name illegal_state_exception_name array_index_out_of_bounds_exception_name string_index_out_of_bounds_exception_name linkage_error_name virtual_machine_error_name no_class_def_found_error_name exception_in_initializer_error_name incompatible_class_change_error_name abstract_method_error_name stack_overflow_error_name built_in_plain_classes built_in_throwables built_in_classes out_name system_out_name on_value superclass_in superclass_of object_class climb climbs_to has_ancestor is_class is_reference_in is_reference is_loose_kind is_loose_in is_loose held_base held fits_class first_held class_above fewer above_objects next_in next_above is_same_base is_same_type rises_to reach first_shared least_above is_array_of is_array element_of string_type throwable_type brackets behind_brackets base_of type_of_kind type_of_found type_of_class address_of address placed_at insn_of insn_at is_payload type_made_by type_made_at targets_in case_targets successors_of successors divides can_throw catches_of catches_at handlers is_of_file is_file_class is_file_interface is_abstract_in_file is_never_made can_be_made arrived pay paying found noted units_of or_make given freely answered asked run_act is_open_kind is_open_in is_open counts_interfaces interfaces_in interfaces_of extends lists implements meets_class passes_in passes less_by with_instructions with_words with_statuses with_status with_object with_objects with_object_at values_set rebuilt with_value put_in more_units with_static number_for noted_made with_literal with_constant with_event cursor_at with_answer climbs is_below type_in types_of_fields layout_in layout_of message_types shape slot slot_in zeros new_object opening_static opening_world texts_class numbered argument_objects with_arguments shown arg_of before args_of made_by words_made words_recorded class_in script_of class_of_found class_asked given_for free_in free_answer unpinned_in is_scripted_kind is_scripted_in is_scripted has_answer is_free is_stateful is_pinned pinned_among has_pinned has_name_of_stream is_of_stream is_held next_of next_among next_answer sort_of number_of type_of on_some throw_of throw_new on_object or_throw truth text_of builder_of message_of copy_of is_same_object is_text_of equals_text unit_at on_text on_text_or_null on_printed row_act on_receiver row_of_call act_of_call called object_rows throwable_rows message_rows string_rows string_builder_rows print_stream_rows array_rows named_rows rows_of found_row built_in_of built_in built_in_numbered elements_in element_type_of element_at place_in or_out_of_bounds stored on_array size_of array_class zero_elements elements_from number_of_bytes numbers_of_bytes numbers_in element_value fill fill_with pick nth_from chosen switch_to same_types same_result stands_for first_in or_above search_from is_outside_kind if_outside class_of_type dispatch dispatch_above enter_kind enter enter_found answers_to if_answers call_on invoke_how invoke caught thrown failing resume told as_ran body_if body replied call after told_calls after_acts acts_at initialised initialise valued valued_in starts started opened_if opened turn eval_with end_of raised_by new_exception overflow takes handler_in catches_in handler_of handler_for cells_of registers_in registers_of locals_for deeper frame_for has_room room_for value_at make_of cast_to is_instance class_of_named make_array move_int move_reference data_for act_of code_of_kind code_of_method code_of placed_in insn_in insn_of_method own_class act_placed act_in act_at is_same_int operated operated_as or_divided_by_zero second_in converted_in kept_bits kept both or_else are_same compares compares_zero branch int_in long_in null_of reference_in value_in cell_at on_int on_long on_value_of on_reference_or_null on_reference onto skipping values_in cells_with go_on set_next go_back move_cell launched run_main begun begun_in with_made_arguments run_with innermost outer_ones with_invocation entered changed_at changed counted calling closed onlooker opening_invocations utf8_of output_of calls_of text_in text_at thrown_ending ending_of report_in report_of onlooked local kept_of invocations is_of_file_in if_of_file class_made class_of_field class_of_method class_named_in class_needed class_of_main climb_at climb_up climb_from starting statics_from put_values stated_in values_act put_statics initialiser_in initialiser_of all_failed with_failed failed_with all_fail is_error_in wrapped_if wrapped start_failed start_refused built_in_number built_in_behind with_built_in placed_from nowhere name_of_object shown_end called_with comes_to answer_in cursor_in answer_if answer_of advanced answers_behind answers_of unanswered words_of_sent result_of result_type returned method_number script_end script_other ending_by ending statuses_since reference_argument argument_of_kind arguments_of if_scripted scripted sent_call contents_for all_contents is_next object_numbered if_next changed_contents old_contents back_head back_of back_behind read_back if_fit if_counted if_answered whole_in whole judged_run decoded_run judged_back decoded_back made_since sent_calls mentioned_in_end end_roots end_order contents_of is_same_value are_same_values are_same_contents holds_same is_listed changes_from contents_now sent_end end_of_sent back_by back_image captured_end file_statuses is_sent sent_statics entry_roots entry_order run_by run_image captured_entry place_of places_of places_in literal_places constant_places member_places object_places argument_types_of run_places result_place end_places change_places back_places fits_type is_constant meets lesser unfit unfit_in_run unfit_in_back run_counts units_in units_now has_grown growth back_counts greatest_of behind_first mentioned_in_run mentioned_in_contents mentioned_in_back is_in_range value_of_kind values_of units is_new_what mades_from mades is_array_kind is_float_base is_instance_in is_instance_class is_array_in is_array_class element_type is_class_number class_number elements instance array object_by object_at out_at objects_within objects_behind reading allowed on_named behind number_if number byte_in byte mentioning numbered_if reference_of reference object_named items counted_items mention mentions made_objects members_of mentioned_by stands_in distinct_after mentioned joined with_members_at walked order_of all_statuses all_statics table_of placed_by placed stack_of table_behind with_contents with_change with_changes put_statuses put_statics_putting with_made with_sent with_calls put_by put_in_table put if_some with_first each rename_value rename_values rename_made rename_mades rename_object rename_contents rename_end copies number_in object_in numbers_from argument_types static_types classes_of_file has_code if_movable movable run_head statuses_of run_objects run_of run_behind read_run byte_of_version version_of_byte spelled_run spelled_changes spelled_back to_hello answer_by hello_of hello_bytes requests version_in version_of_ready opened_by back_read back_in taken_in taken reply_of sent_by migrated entry_of receiver offloaded_of offloaded first_held_served watching evaluated end_image or_false served_end served_image served_by served said answer_to is_method over answers first_served
runs_hold = record { local_first = refl; moves_first = (refl, refl); local_second = refl; moves_second = (refl, refl); local_alone = refl; falls_alone = (refl, refl); falls_opened = (refl, refl) }

pub held_calls_hold : HeldCallsHold
unfolding digits int_wrap encode_utf8 utf16_chars object_name string_name string_builder_name system_name print_stream_name throwable_name exception_name error_name runtime_exception_name arithmetic_exception_name null_pointer_exception_name array_store_exception_name class_cast_exception_name index_out_of_bounds_exception_name negative_array_size_exception_name illegal_argument_exception_name illegal_state_exception_name array_index_out_of_bounds_exception_name string_index_out_of_bounds_exception_name linkage_error_name virtual_machine_error_name no_class_def_found_error_name exception_in_initializer_error_name incompatible_class_change_error_name abstract_method_error_name stack_overflow_error_name built_in_plain_classes built_in_throwables built_in_classes out_name system_out_name on_value superclass_in superclass_of object_class climb climbs_to has_ancestor is_class is_reference_in is_reference is_loose_kind is_loose_in is_loose held_base held fits_class first_held class_above fewer above_objects next_in next_above is_same_base is_same_type rises_to reach first_shared least_above is_array_of is_array element_of string_type throwable_type brackets behind_brackets base_of type_of_kind type_of_found type_of_class address_of address placed_at insn_of insn_at is_payload type_made_by type_made_at targets_in case_targets successors_of successors divides can_throw catches_of catches_at handlers is_of_file is_file_class is_file_interface is_abstract_in_file is_never_made can_be_made arrived pay paying found noted units_of or_make given freely answered asked run_act is_open_kind is_open_in is_open counts_interfaces interfaces_in interfaces_of extends lists implements meets_class passes_in passes less_by with_instructions with_words with_statuses with_status with_object with_objects with_object_at values_set rebuilt with_value put_in more_units with_static number_for noted_made with_literal with_constant with_event cursor_at with_answer climbs is_below type_in types_of_fields layout_in layout_of message_types shape slot slot_in zeros new_object opening_static opening_world texts_class numbered argument_objects with_arguments shown arg_of before args_of made_by words_made words_recorded class_in script_of class_of_found class_asked given_for free_in free_answer unpinned_in is_scripted_kind is_scripted_in is_scripted has_answer is_free is_stateful is_pinned pinned_among has_pinned has_name_of_stream is_of_stream is_held next_of next_among next_answer sort_of number_of type_of on_some throw_of throw_new on_object or_throw truth text_of builder_of message_of copy_of is_same_object is_text_of equals_text unit_at on_text on_text_or_null on_printed row_act on_receiver row_of_call act_of_call called object_rows throwable_rows message_rows string_rows string_builder_rows print_stream_rows array_rows named_rows rows_of found_row built_in_of built_in built_in_numbered elements_in element_type_of element_at place_in or_out_of_bounds stored on_array size_of array_class zero_elements elements_from number_of_bytes numbers_of_bytes numbers_in element_value fill fill_with pick nth_from chosen switch_to same_types same_result stands_for first_in or_above search_from is_outside_kind if_outside class_of_type dispatch dispatch_above enter_kind enter enter_found answers_to if_answers call_on invoke_how invoke caught thrown failing resume told as_ran body_if body replied call after told_calls after_acts acts_at initialised initialise valued valued_in starts started opened_if opened turn eval_with end_of raised_by new_exception overflow takes handler_in catches_in handler_of handler_for cells_of registers_in registers_of locals_for deeper frame_for has_room room_for value_at make_of cast_to is_instance class_of_named make_array move_int move_reference data_for act_of code_of_kind code_of_method code_of placed_in insn_in insn_of_method own_class act_placed act_in act_at is_same_int operated operated_as or_divided_by_zero second_in converted_in kept_bits kept both or_else are_same compares compares_zero branch int_in long_in null_of reference_in value_in cell_at on_int on_long on_value_of on_reference_or_null on_reference onto skipping values_in cells_with go_on set_next go_back move_cell launched run_main begun begun_in with_made_arguments run_with innermost outer_ones with_invocation entered changed_at changed counted calling closed onlooker opening_invocations utf8_of output_of calls_of text_in text_at thrown_ending ending_of report_in report_of onlooked local kept_of invocations is_of_file_in if_of_file class_made class_of_field class_of_method class_named_in class_needed class_of_main climb_at climb_up climb_from starting statics_from put_values stated_in values_act put_statics initialiser_in initialiser_of all_failed with_failed failed_with all_fail is_error_in wrapped_if wrapped start_failed start_refused built_in_number built_in_behind with_built_in placed_from nowhere name_of_object shown_end called_with comes_to answer_in cursor_in answer_if answer_of advanced answers_behind answers_of unanswered words_of_sent result_of result_type returned method_number script_end script_other ending_by ending statuses_since reference_argument argument_of_kind arguments_of if_scripted scripted sent_call contents_for all_contents is_next object_numbered if_next changed_contents old_contents back_head back_of back_behind read_back if_fit if_counted if_answered whole_in whole judged_run decoded_run judged_back decoded_back made_since sent_calls mentioned_in_end end_roots end_order contents_of is_same_value are_same_values are_same_contents holds_same is_listed changes_from contents_now sent_end end_of_sent back_by back_image captured_end file_statuses is_sent sent_statics entry_roots entry_order run_by run_image captured_entry place_of places_of places_in literal_places constant_places member_places object_places argument_types_of run_places result_place end_places change_places back_places fits_type is_constant meets lesser unfit unfit_in_run unfit_in_back run_counts units_in units_now has_grown growth back_counts greatest_of behind_first mentioned_in_run mentioned_in_contents mentioned_in_back is_in_range value_of_kind values_of units is_new_what mades_from mades is_array_kind is_float_base is_instance_in is_instance_class is_array_in is_array_class element_type is_class_number class_number elements instance array object_by object_at out_at objects_within objects_behind reading allowed on_named behind number_if number byte_in byte mentioning numbered_if reference_of reference object_named items counted_items mention mentions made_objects members_of mentioned_by stands_in distinct_after mentioned joined with_members_at walked order_of all_statuses all_statics table_of placed_by placed stack_of table_behind with_contents with_change with_changes put_statuses put_statics_putting with_made with_sent with_calls put_by put_in_table put if_some with_first each rename_value rename_values rename_made rename_mades rename_object rename_contents rename_end copies number_in object_in numbers_from argument_types static_types classes_of_file has_code if_movable movable run_head statuses_of run_objects run_of run_behind read_run byte_of_version version_of_byte spelled_run spelled_changes spelled_back to_hello answer_by hello_of hello_bytes requests version_in version_of_ready opened_by back_read back_in taken_in taken reply_of sent_by migrated entry_of receiver offloaded_of offloaded first_held_served watching evaluated end_image or_false served_end served_image served_by served said answer_to is_method over answers first_served
held_calls_hold = record { refused = refl }
