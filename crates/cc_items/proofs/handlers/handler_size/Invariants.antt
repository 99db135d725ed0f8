use Rattle.std.proofs.Common.{◌≡◌, ◌+◌, ◌%◌, ◌^◌, length, take}
use Rattle.std.specs.List.{flat_map}
use Rattle.cc_meaning_builder.specs.Forms.{any_takes_all, catch_form, sleb_form, typed_count}
use Rattle.cc_items.proofs.handlers.handler_size.Given as goal

abbrev pub invariant-loop-catch : goal.invariant-loop-catch
invariant-loop-catch l = l.size ≡ (length (sleb_form (any_takes_all l.catches) (typed_count l.catches)) + length (flat_map catch_form (take l.catch-index l.catches))) % 2 ^ 16
