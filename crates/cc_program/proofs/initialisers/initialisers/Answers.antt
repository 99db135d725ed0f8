use Rattle.std.proofs.Common.{subst, sym, take, ◌+◌}
use Rattle.cc_program.specs.Initialisers.{AreInitialisers}
use Rattle.cc_program.proofs.Noting.{skipped, noted}
use Rattle.cc_program.proofs.initialisers.initialisers.Goals.{then-begins, else-begins}
use Rattle.cc_program.proofs.initialisers.initialisers.Goals as goal

pub loop-number-preserved : goal.loop-number-preserved
loop-number-preserved c =
    let methods = c.args.methods.now in
    let i = c.loop-number.number in
    let method = c.index-methods-number.result in
    elim c.if-begins.branch [
      | then-begins w ↦ subst (AreInitialisers (take (i + 1) methods) c.args.count) (sym w.found-is)
          (noted methods i method c.args.count c.loop-number.found w.note.new.found c.loop-number.invariant c.loop-number-test.true c.index-methods-number.is (c.begins.ensures.0 w.if-begins.true) w.note.ensures.within w.note.ensures.past)
      | else-begins w ↦ subst (AreInitialisers (take (i + 1) methods) c.args.count) (sym w.found-is)
          (skipped methods i method c.args.count c.loop-number.found c.loop-number.found c.loop-number.invariant c.loop-number-test.true c.index-methods-number.is (λ begins. absurd (let yes = c.begins.ensures.1 begins in let no = w.if-begins.false in cc)))
    ]
