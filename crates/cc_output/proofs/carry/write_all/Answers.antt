use Rattle.std.proofs.Common.{sym, subst, List, ℕ, arith}
use Rattle.cc_output.proofs.Writing.{IsWritten, written_more}
use Rattle.cc_output.proofs.carry.write_all.Goals as goal

pub writing-preserved : goal.writing-preserved
writing-preserved g c =
    let pipe = g.W.Sink.pipe in
    let old = pipe c.args.sink.now in
    let now = pipe c.write.new.self in
    record {
      written = subst (λ (rest : List ℕ). IsWritten c.args.text.now rest old now) (sym c.split_at.ensures.back) (written_more c.args.text.now c.writing.rest.now c.in_ok-count.count old (pipe c.writing.sink) now c.writing.invariant.written c.in_ok-count.ensures.takes.0);
      room = omega (arith, c.writing.invariant.room, c.in_ok-count.ensures.takes.1, c.in_ok-count.ensures.takes.2, c.split_at.ensures.back_len);
      faults = omega (arith, c.writing.invariant.faults, c.write.ensures.faults);
    }
