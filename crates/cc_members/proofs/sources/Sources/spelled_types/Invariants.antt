use Rattle.std.proofs.Common.{ℕ, List, Bor}
use Rattle.cc_meaning.specs.declared.program.DexType.{DexType}
use Rattle.cc_meaning_program.specs.TypeNames.{Spells}
use Rattle.cc_bodies.proofs.CodeLoops.{PairsBefore}
use Rattle.cc_members.proofs.sources.Sources.spelled_types.Given as goal

abbrev pub invariant-loop-text : goal.invariant-loop-text
invariant-loop-text l = PairsBefore (λ (text : Bor (List ℕ)) (ty : DexType). Spells l.self.names.now ty text.now) l.texts l.text-index l.types
