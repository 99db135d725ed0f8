use Rattle.std.proofs.Common.{rules}
use Rattle.cc_machine.proofs.Steps.{is_adding, acts_out, acts_on_numbers, acts_on_stream, acts_on_call}
use Rattle.cc_machine.proofs.progress.act.Goals as goal

pub returns-in-SgetOut-clause-does : goal.returns-in-SgetOut-clause-does
returns-in-SgetOut-clause-does c = acts_out c.args.functions.now c.args.stops c.args.insn c.in-SgetOut.to c.args.progress.now c.in-SgetOut.is

pub returns-in-Const4-clause-does : goal.returns-in-Const4-clause-does
returns-in-Const4-clause-does c = acts_on_numbers c.args.functions.now c.args.stops c.args.insn c.args.progress.now c.add.new.numbers (is_adding c.args.insn c.in-Const4.is) c.add.ensures

pub returns-in-InvokePrintln-clause-does : goal.returns-in-InvokePrintln-clause-does
returns-in-InvokePrintln-clause-does c =
    acts_on_stream c.args.functions.now c.args.stops c.args.insn c.in-InvokePrintln.stream c.in-InvokePrintln.number c.args.progress.now c.show.new.progress c.show.result c.in-InvokePrintln.is c.show.ensures.does

pub returns-in-CallFunction-clause-does : goal.returns-in-CallFunction-clause-does
returns-in-CallFunction-clause-does c =
    acts_on_call c.args.functions.now c.args.stops c.args.insn c.in-CallFunction.function c.in-CallFunction.argument c.in-CallFunction.to _ c.args.progress.now c.enter.new.progress c.enter.result c.in-CallFunction.is (search rules) c.enter.ensures.does
