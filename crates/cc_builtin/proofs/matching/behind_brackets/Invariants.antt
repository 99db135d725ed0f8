use Rattle.std.proofs.Common.{◌≡◌, ◌-◌, replicate}
use Rattle.cc_units.specs.Matching.{without}
use Rattle.cc_builtin.proofs.matching.behind_brackets.Given as goal

abbrev pub invariant-loop-bracket : goal.invariant-loop-bracket
invariant-loop-bracket l = without l.initial.rest (replicate l.dims 91) ≡ without l.rest (replicate (l.dims - l.bracket) 91)
