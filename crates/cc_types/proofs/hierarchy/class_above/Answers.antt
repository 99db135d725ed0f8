use Rattle.std.proofs.Common.{◌∙◌, sym}
use Rattle.cc_types.proofs.Walks.{seeks_start, seeks_step, seeks_found, seeks_end}
use Rattle.cc_types.proofs.hierarchy.class_above.Goals as goal

pub loop-next-init : goal.loop-next-init
loop-next-init c = seeks_start c.args.program.now c.requires.hierarchy c.args.class

pub returns-then-not-is_loose : goal.returns-then-not-is_loose
returns-then-not-is_loose c = seeks_found c.args.program.now c.requires.hierarchy c.args.class c.loop-next.above c.in-Some.next c.loop-next.invariant (sym c.superclass.ensures ∙ c.in-Some.is) (sym c.is_loose.ensures ∙ c.if-not-is_loose.true)

pub loop-next-preserved : goal.loop-next-preserved
loop-next-preserved c = seeks_step c.args.program.now c.requires.hierarchy c.args.class c.loop-next.above c.in-Some.next c.loop-next.invariant (sym c.superclass.ensures ∙ c.in-Some.is) (sym c.is_loose.ensures ∙ c.if-not-is_loose.false)

pub returns : goal.returns
returns c = c.requires.object ∙ seeks_end c.args.program.now c.args.class c.loop-next.above c.loop-next.invariant (sym c.in_default.ensures)
