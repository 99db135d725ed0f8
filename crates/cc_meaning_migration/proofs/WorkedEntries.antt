-- The worked examples of entries, computed.
use Rattle.std.proofs.Common.{refl}
use Rattle.std.specs.Int.{int_wrap}
use Rattle.cc_meaning_rows.specs.Calls.{is_same_object, is_text_of}
use Rattle.cc_meaning_world.specs.Acts.{units_of}
use Rattle.cc_meaning_exec.specs.Numbers.{is_same_int, kept_bits}
use Rattle.cc_meaning.specs.BuiltIn.{object_name, string_name, string_builder_name, system_name, print_stream_name, throwable_name, exception_name, error_name, runtime_exception_name, arithmetic_exception_name, null_pointer_exception_name, array_store_exception_name, class_cast_exception_name, index_out_of_bounds_exception_name, negative_array_size_exception_name, illegal_argument_exception_name, illegal_state_exception_name, array_index_out_of_bounds_exception_name, string_index_out_of_bounds_exception_name, linkage_error_name, virtual_machine_error_name, no_class_def_found_error_name, exception_in_initializer_error_name, incompatible_class_change_error_name, abstract_method_error_name, stack_overflow_error_name, built_in_plain_classes, built_in_throwables, built_in_classes, system_out_name}
use Rattle.cc_meaning_typing.specs.Hierarchy.{on_value, superclass_in, superclass_of, object_class}
use Rattle.cc_meaning_typing.specs.Types.{is_class, is_reference_in, is_reference, is_loose_kind, is_loose_in, is_loose, held_base, held, first_held, class_above, fewer, above_objects, next_in, next_above, is_same_base, is_same_type, rises_to, reach, first_shared, least_above}
use Rattle.cc_meaning_typing.specs.Code.{is_array_of, is_array, element_of, string_type, throwable_type, brackets, behind_brackets, base_of, type_of_kind, type_of_found, type_of_class, address_of, address, placed_at, insn_of, insn_at, type_made_by, type_made_at, divides, catches_of, catches_at}
use Rattle.cc_meaning_typing.specs.WellTyped.{is_of_file, is_file_interface, is_abstract_in_file, is_never_made, can_be_made}
use Rattle.cc_meaning_world.specs.Sorts.{sort_of, number_of, type_of}
use Rattle.cc_meaning_world.specs.Layouts.{climbs, is_below, type_in, types_of_fields, layout_in, layout_of, message_types, shape, slot, slot_in, zeros, new_object}
use Rattle.cc_meaning_world.specs.Changes.{less_by, with_instructions, with_words, with_statuses, with_status, with_object, with_object_at, values_set, rebuilt, with_value, put_in, more_units, with_static, number_for, noted_made, with_literal, with_constant, with_event, cursor_at, with_answer}
use Rattle.cc_meaning_world.specs.Scripts.{class_in, script_of, class_of_found, class_asked, given_for, free_in, free_answer, unpinned_in, is_scripted_kind, is_scripted_in, is_scripted, has_answer, is_free, is_stateful, is_pinned, pinned_among, has_pinned, has_name_of_stream, is_of_stream, is_held, next_of, next_among, next_answer}
use Rattle.cc_meaning_world.specs.Opening.{opening_static, opening_world}
use Rattle.cc_meaning_exec.specs.WorkedPrograms.{built_in_number, built_in_behind, with_built_in, placed_from}
use Rattle.cc_meaning_migration.specs.Renaming.{if_some, with_first, each, rename_value, rename_values, rename_made, rename_mades, rename_object, copies, number_in, object_in, numbers_from}
use Rattle.cc_meaning_migration.specs.Order.{mention, mentions, made_objects, members_of, mentioned_by, stands_in, joined, with_members_at, walked, order_of}
use Rattle.cc_meaning_migration.specs.Entry.{file_statuses, is_sent, sent_statics, entry_roots, entry_order, run_by, run_image, captured_entry}
use Rattle.cc_meaning_migration.specs.Ends.{contents_of, is_same_value, are_same_values, are_same_contents, holds_same}
use Rattle.cc_meaning_migration.specs.Spelling.{spelled_run}
use Rattle.cc_meaning_migration.specs.Numbers.{reading, allowed, on_named, behind, number_if, number, byte_in, byte, mentioning, numbered_if, reference_of, reference, object_named, items, counted_items}
use Rattle.cc_meaning_migration.specs.Items.{is_in_range, value_of_kind, values_of, units, is_new_what, mades_from, mades, is_array_kind, is_float_base, is_instance_in, is_instance_class, is_array_in, is_array_class, element_type, is_class_number, class_number, elements, instance, array, object_by, object_at, out_at, objects_within, objects_behind}
use Rattle.cc_meaning_migration.specs.Runs.{argument_types, static_types, classes_of_file, has_code, if_movable, movable, run_head, statuses_of, run_objects, run_of, run_behind, read_run}
use Rattle.cc_meaning_migration.specs.Backs.{result_of, result_type, returned, method_number, script_end, script_other, ending_by, ending, statuses_since, reference_argument, argument_of_kind, arguments_of, if_scripted, scripted, sent_call, contents_for, all_contents, is_next, object_numbered, if_next, changed_contents, old_contents, back_head, back_of, back_behind, read_back}
use Rattle.cc_meaning_migration.specs.Fits.{place_of, places_of, places_in, literal_places, constant_places, member_places, object_places, argument_types_of, run_places, result_place, end_places, change_places, back_places, fits_type, is_constant, meets, lesser, unfit, unfit_in_run, unfit_in_back, run_counts, units_in, units_now, has_grown, growth, back_counts}
use Rattle.cc_meaning_migration.specs.Answers.{answer_in, cursor_in, answer_if, answer_of, advanced, answers_behind, answers_of, unanswered, words_of_sent}
use Rattle.cc_meaning_migration.specs.Decoding.{if_fit, if_counted, if_answered, whole_in, whole, judged_run, decoded_run, judged_back, decoded_back}
use Rattle.cc_meaning_migration.specs.Placing.{all_statuses, all_statics, table_of, placed_by, placed, stack_of}
use Rattle.cc_meaning_migration.specs.Putting.{put_statics}
use Rattle.cc_meaning_migration.specs.WorkedPrograms.{world_with, entered, sent}
use Rattle.cc_meaning_migration.specs.WorkedEntries.{is_read_from, again_in, again, EntriesHold, EntriesAreRead, EntriesAreRefused}

pub entries_hold : EntriesHold
unfolding int_wrap is_same_object is_text_of units_of is_same_int kept_bits object_name string_name string_builder_name system_name print_stream_name throwable_name exception_name error_name runtime_exception_name arithmetic_exception_name null_pointer_exception_name array_store_exception_name class_cast_exception_name index_out_of_bounds_exception_name negative_array_size_exception_name illegal_argument_exception_name illegal_state_exception_name array_index_out_of_bounds_exception_name string_index_out_of_bounds_exception_name linkage_error_name virtual_machine_error_name no_class_def_found_error_name exception_in_initializer_error_name incompatible_class_change_error_name abstract_method_error_name stack_overflow_error_name built_in_plain_classes built_in_throwables built_in_classes system_out_name on_value superclass_in superclass_of object_class is_class is_reference_in is_reference is_loose_kind is_loose_in is_loose held_base held first_held class_above fewer above_objects next_in next_above is_same_base is_same_type rises_to reach first_shared least_above is_array_of is_array element_of string_type throwable_type brackets behind_brackets base_of type_of_kind type_of_found type_of_class address_of address placed_at insn_of insn_at type_made_by type_made_at divides catches_of catches_at is_of_file is_file_interface is_abstract_in_file is_never_made can_be_made sort_of number_of type_of climbs is_below type_in types_of_fields layout_in layout_of message_types shape slot slot_in zeros new_object less_by with_instructions with_words with_statuses with_status with_object with_object_at values_set rebuilt with_value put_in more_units with_static number_for noted_made with_literal with_constant with_event cursor_at with_answer class_in script_of class_of_found class_asked given_for free_in free_answer unpinned_in is_scripted_kind is_scripted_in is_scripted has_answer is_free is_stateful is_pinned pinned_among has_pinned has_name_of_stream is_of_stream is_held next_of next_among next_answer opening_static opening_world built_in_number built_in_behind with_built_in placed_from if_some with_first each rename_value rename_values rename_made rename_mades rename_object copies number_in object_in numbers_from mention mentions made_objects members_of mentioned_by stands_in joined with_members_at walked order_of file_statuses is_sent sent_statics entry_roots entry_order run_by run_image captured_entry contents_of is_same_value are_same_values are_same_contents holds_same spelled_run reading allowed on_named behind number_if number byte_in byte mentioning numbered_if reference_of reference object_named items counted_items is_in_range value_of_kind values_of units is_new_what mades_from mades is_array_kind is_float_base is_instance_in is_instance_class is_array_in is_array_class element_type is_class_number class_number elements instance array object_by object_at out_at objects_within objects_behind argument_types static_types classes_of_file has_code if_movable movable run_head statuses_of run_objects run_of run_behind read_run result_of result_type returned method_number script_end script_other ending_by ending statuses_since reference_argument argument_of_kind arguments_of if_scripted scripted sent_call contents_for all_contents is_next object_numbered if_next changed_contents old_contents back_head back_of back_behind read_back place_of places_of places_in literal_places constant_places member_places object_places argument_types_of run_places result_place end_places change_places back_places fits_type is_constant meets lesser unfit unfit_in_run unfit_in_back run_counts units_in units_now has_grown growth back_counts answer_in cursor_in answer_if answer_of advanced answers_behind answers_of unanswered words_of_sent if_fit if_counted if_answered whole_in whole judged_run decoded_run judged_back decoded_back all_statuses all_statics table_of placed_by placed stack_of put_statics world_with entered sent is_read_from again_in again
entries_hold = record { order = refl; cycle_sent = refl; arrays_sent = refl; text_sent = refl; builder_sent = refl; literal_sent = refl; constant_sent = refl }

pub entries_are_read : EntriesAreRead
unfolding int_wrap is_same_object is_text_of units_of is_same_int kept_bits object_name string_name string_builder_name system_name print_stream_name throwable_name exception_name error_name runtime_exception_name arithmetic_exception_name null_pointer_exception_name array_store_exception_name class_cast_exception_name index_out_of_bounds_exception_name negative_array_size_exception_name illegal_argument_exception_name illegal_state_exception_name array_index_out_of_bounds_exception_name string_index_out_of_bounds_exception_name linkage_error_name virtual_machine_error_name no_class_def_found_error_name exception_in_initializer_error_name incompatible_class_change_error_name abstract_method_error_name stack_overflow_error_name built_in_plain_classes built_in_throwables built_in_classes system_out_name on_value superclass_in superclass_of object_class is_class is_reference_in is_reference is_loose_kind is_loose_in is_loose held_base held first_held class_above fewer above_objects next_in next_above is_same_base is_same_type rises_to reach first_shared least_above is_array_of is_array element_of string_type throwable_type brackets behind_brackets base_of type_of_kind type_of_found type_of_class address_of address placed_at insn_of insn_at type_made_by type_made_at divides catches_of catches_at is_of_file is_file_interface is_abstract_in_file is_never_made can_be_made sort_of number_of type_of climbs is_below type_in types_of_fields layout_in layout_of message_types shape slot slot_in zeros new_object less_by with_instructions with_words with_statuses with_status with_object with_object_at values_set rebuilt with_value put_in more_units with_static number_for noted_made with_literal with_constant with_event cursor_at with_answer class_in script_of class_of_found class_asked given_for free_in free_answer unpinned_in is_scripted_kind is_scripted_in is_scripted has_answer is_free is_stateful is_pinned pinned_among has_pinned has_name_of_stream is_of_stream is_held next_of next_among next_answer opening_static opening_world built_in_number built_in_behind with_built_in placed_from if_some with_first each rename_value rename_values rename_made rename_mades rename_object copies number_in object_in numbers_from mention mentions made_objects members_of mentioned_by stands_in joined with_members_at walked order_of file_statuses is_sent sent_statics entry_roots entry_order run_by run_image captured_entry contents_of is_same_value are_same_values are_same_contents holds_same spelled_run reading allowed on_named behind number_if number byte_in byte mentioning numbered_if reference_of reference object_named items counted_items is_in_range value_of_kind values_of units is_new_what mades_from mades is_array_kind is_float_base is_instance_in is_instance_class is_array_in is_array_class element_type is_class_number class_number elements instance array object_by object_at out_at objects_within objects_behind argument_types static_types classes_of_file has_code if_movable movable run_head statuses_of run_objects run_of run_behind read_run result_of result_type returned method_number script_end script_other ending_by ending statuses_since reference_argument argument_of_kind arguments_of if_scripted scripted sent_call contents_for all_contents is_next object_numbered if_next changed_contents old_contents back_head back_of back_behind read_back place_of places_of places_in literal_places constant_places member_places object_places argument_types_of run_places result_place end_places change_places back_places fits_type is_constant meets lesser unfit unfit_in_run unfit_in_back run_counts units_in units_now has_grown growth back_counts answer_in cursor_in answer_if answer_of advanced answers_behind answers_of unanswered words_of_sent if_fit if_counted if_answered whole_in whole judged_run decoded_run judged_back decoded_back all_statuses all_statics table_of placed_by placed stack_of put_statics world_with entered sent is_read_from again_in again
entries_are_read = record { cycle_read = refl; cycle_again = refl }

pub entries_are_refused : EntriesAreRefused
unfolding int_wrap is_same_object is_text_of units_of is_same_int kept_bits object_name string_name string_builder_name system_name print_stream_name throwable_name exception_name error_name runtime_exception_name arithmetic_exception_name null_pointer_exception_name array_store_exception_name class_cast_exception_name index_out_of_bounds_exception_name negative_array_size_exception_name illegal_argument_exception_name illegal_state_exception_name array_index_out_of_bounds_exception_name string_index_out_of_bounds_exception_name linkage_error_name virtual_machine_error_name no_class_def_found_error_name exception_in_initializer_error_name incompatible_class_change_error_name abstract_method_error_name stack_overflow_error_name built_in_plain_classes built_in_throwables built_in_classes system_out_name on_value superclass_in superclass_of object_class is_class is_reference_in is_reference is_loose_kind is_loose_in is_loose held_base held first_held class_above fewer above_objects next_in next_above is_same_base is_same_type rises_to reach first_shared least_above is_array_of is_array element_of string_type throwable_type brackets behind_brackets base_of type_of_kind type_of_found type_of_class address_of address placed_at insn_of insn_at type_made_by type_made_at divides catches_of catches_at is_of_file is_file_interface is_abstract_in_file is_never_made can_be_made sort_of number_of type_of climbs is_below type_in types_of_fields layout_in layout_of message_types shape slot slot_in zeros new_object less_by with_instructions with_words with_statuses with_status with_object with_object_at values_set rebuilt with_value put_in more_units with_static number_for noted_made with_literal with_constant with_event cursor_at with_answer class_in script_of class_of_found class_asked given_for free_in free_answer unpinned_in is_scripted_kind is_scripted_in is_scripted has_answer is_free is_stateful is_pinned pinned_among has_pinned has_name_of_stream is_of_stream is_held next_of next_among next_answer opening_static opening_world built_in_number built_in_behind with_built_in placed_from if_some with_first each rename_value rename_values rename_made rename_mades rename_object copies number_in object_in numbers_from mention mentions made_objects members_of mentioned_by stands_in joined with_members_at walked order_of file_statuses is_sent sent_statics entry_roots entry_order run_by run_image captured_entry contents_of is_same_value are_same_values are_same_contents holds_same spelled_run reading allowed on_named behind number_if number byte_in byte mentioning numbered_if reference_of reference object_named items counted_items is_in_range value_of_kind values_of units is_new_what mades_from mades is_array_kind is_float_base is_instance_in is_instance_class is_array_in is_array_class element_type is_class_number class_number elements instance array object_by object_at out_at objects_within objects_behind argument_types static_types classes_of_file has_code if_movable movable run_head statuses_of run_objects run_of run_behind read_run result_of result_type returned method_number script_end script_other ending_by ending statuses_since reference_argument argument_of_kind arguments_of if_scripted scripted sent_call contents_for all_contents is_next object_numbered if_next changed_contents old_contents back_head back_of back_behind read_back place_of places_of places_in literal_places constant_places member_places object_places argument_types_of run_places result_place end_places change_places back_places fits_type is_constant meets lesser unfit unfit_in_run unfit_in_back run_counts units_in units_now has_grown growth back_counts answer_in cursor_in answer_if answer_of advanced answers_behind answers_of unanswered words_of_sent if_fit if_counted if_answered whole_in whole judged_run decoded_run judged_back decoded_back all_statuses all_statics table_of placed_by placed stack_of put_statics world_with entered sent is_read_from again_in again
entries_are_refused = record { cut_off = refl; trailing = refl; of_main = refl; no_status = refl; out_of_range = refl; no_instance = refl; too_great = refl; no_literal = refl; no_node = refl; other_text = refl; no_frame = refl }
