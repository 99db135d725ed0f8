use Rattle.std.proofs.Common.{sym, ◌∙◌}
use Rattle.cc_meaning_program.specs.Named.{method_text}
use Rattle.cc_bodies.proofs.CodeLemmas.{insn_judged}
use Rattle.cc_bodies.proofs.bodies.judge_insn.Goals as goal

pub returns-in-Some : goal.returns-in-Some
returns-in-Some c =
    insn_judged c.args.ids.now (method_text c.args.ids.now c.args.method) c.args.placed.now c.in-Some.named c.judge_reference.result (sym c.reference_of.ensures ∙ c.in-Some.is) c.judge_reference.ensures
