use Rattle.std.proofs.Common.{◌≡◌, ◌+◌, ◌-◌, arith}
use Rattle.cc_plain.specs.Code.{scope_in}
use Rattle.cc_plain.proofs.InsnLemmas.{reads_insn, reads_none, reads_end, reads_no_end}
use Rattle.cc_plain.proofs.instructions.read_insns.Goals as goal

pub returns-in_default : goal.returns-in_default
returns-in_default c =
    reads_none c.args.file.now (scope_in c.args.known.now) c.args.kind c.args.registers c.args.start c.args.count c.loop-left.at c.loop-left.left c.loop-left.insns
    c.loop-left.invariant c.loop-left-test.true (rw c.in_default.is at c.in_ok-insn.ensures)

pub loop-left-preserved : goal.loop-left-preserved
loop-left-preserved c =
    let spelled = rw c.in-Some.is at c.in_ok-insn.ensures in
    let counted : c.loop-left.left ≡ c.units_of-units.result + (c.loop-left.left - c.units_of-units.result) = omega (arith, spelled.1, c.units_of-units.ensures) in
    reads_insn c.args.file.now (scope_in c.args.known.now) c.args.kind c.args.registers c.args.start c.args.count c.loop-left.at c.loop-left.left c.units_of-units.result
    (c.loop-left.left - c.units_of-units.result) c.loop-left.insns c.push.new.self c.in-Some.insn c.law_insn_once.ensures c.requires.rising c.loop-left.invariant c.loop-left-test.true
    spelled.0 c.units_of-units.ensures counted c.in_ok-push.ensures.ok

pub returns-then-left-eq0 : goal.returns-then-left-eq0
returns-then-left-eq0 c =
    reads_no_end c.args.file.now (scope_in c.args.known.now) c.args.kind c.args.registers c.args.start c.args.count c.loop-left.at c.loop-left.left c.loop-left.insns
    c.loop-left.invariant c.loop-left-test.false (λ last of one end. absurd (omega (arith, one, c.if-left-eq0.true)))

pub returns-in-Some-read_last : goal.returns-in-Some-read_last
returns-in-Some-read_last c =
    let one : c.loop-left.left ≡ 1 = omega (arith, c.loop-left-test.false, c.if-left-eq0.false) in (
      c.in-Some-read_last.ensures.0,
      reads_end c.args.file.now (scope_in c.args.known.now) c.args.kind c.args.registers c.args.start c.args.count c.loop-left.at c.loop-left.left c.loop-left.insns c.in-Some-read_last.last
          c.loop-left.invariant one c.in-Some-read_last.ensures.0 c.in-Some-read_last.ensures.1,
    )

pub returns-in-None : goal.returns-in-None
returns-in-None c =
    reads_no_end c.args.file.now (scope_in c.args.known.now) c.args.kind c.args.registers c.args.start c.args.count c.loop-left.at c.loop-left.left c.loop-left.insns
    c.loop-left.invariant c.loop-left-test.false (λ last of one end. c.in-None.ensures last of end)
