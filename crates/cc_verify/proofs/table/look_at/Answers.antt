use Rattle.std.proofs.Common.{rules, subst}
use Rattle.std.specs.Prelude.{All}
use Rattle.std.proofs.lemmas.List.Elements.{All-more}
use Rattle.cc_meaning.specs.declared.program.RegType.TheVariants.{Unset}
use Rattle.cc_meaning_typing.specs.Growth.{IsNarrowRegister, AreNarrow}
use Rattle.cc_verify.proofs.Tables.{take_all, all_narrow}
use Rattle.cc_verify.proofs.table.look_at.Goals as goal

pub loop-known-init : goal.loop-known-init
loop-known-init c = search rules

pub loop-known-preserved : goal.loop-known-preserved
loop-known-preserved c = All-more IsNarrowRegister c.as_slice-registers.result.now c.loop-known.known-index Unset c.loop-known-test.true c.loop-known.invariant c.look_at_one.ensures

pub returns : goal.returns
returns c = subst AreNarrow c.as_slice-registers.ensures (all_narrow c.as_slice-registers.result.now (subst (All IsNarrowRegister) (take_all c.as_slice-registers.result.now c.loop-known.known-index c.loop-known-test.false) c.loop-known.invariant))
