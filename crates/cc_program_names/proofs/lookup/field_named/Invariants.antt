use Rattle.std.proofs.Common.{◌≡◌, ℕ, ◌<◌, false, slice_index_or}
use Rattle.std.specs.Str.{bytes_eq}
use Rattle.cc_meaning.specs.declared.program.Field.{Field}
use Rattle.cc_meaning.specs.Names.{field_name}
use Rattle.cc_program_names.proofs.lookup.field_named.Given as goal

abbrev pub invariant-loop-at : goal.invariant-loop-at
invariant-loop-at l = (k : ℕ) (field : Field) → k < l.at → bytes_eq (field_name l.program (slice_index_or l.program.fields k field)) l.name ≡ false
