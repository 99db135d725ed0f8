use Rattle.std.proofs.Common.{◌≡◌, ℕ, ◌≤◌, length, Some, List}
use Rattle.std.specs.Prelude.{slice_get}
use Rattle.cc_meaning.specs.declared.program.Class.{Class}
use Rattle.cc_program.specs.Layouts.{AreRight}
use Rattle.cc_program.specs.Made.{IsMade}
use Rattle.cc_program.proofs.making.one_by_one.Given as goal

abbrev pub invariant-loop-outline : goal.invariant-loop-outline
invariant-loop-outline l = record {
  long : length l.classes ≡ length l.yielded;
  rest : (other : ℕ) → length l.yielded ≤ other → slice_get l.layouts other ≡ slice_get l.initial.layouts other;
  made : (own : List (List ℕ)) → AreRight l.fn.outlines own l.initial.layouts → (number : ℕ) (class : Class) → slice_get l.classes number ≡ Some class → IsMade l.parts.ids.now l.parts.raw.now l.parts.names.now l.fn.outlines l.parts.plans.now l.parts.fields.now l.parts.texts.now own l.begun number class;
}
