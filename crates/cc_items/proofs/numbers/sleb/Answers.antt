use Rattle.std.proofs.Common.{◌∙◌, sym, arith}
use Rattle.cc_meaning_builder.specs.Forms.{sleb_form}
use Rattle.cc_items.proofs.Groups.{bound_large, bound_next, sleb_last, sleb_more, sleb_end}
use Rattle.cc_items.proofs.numbers.sleb.Goals as goal

pub is_last-requires : goal.is_last-requires
is_last-requires c = bound_large c.loop.bound c.loop.counter c.loop-test.true c.loop.invariant.bounded

pub returns-then-is_last : goal.returns-then-is_last
returns-then-is_last c =
    c.push.ensures.items ∙ sleb_last c.loop.bytes.items c.loop.rest c.loop.bound c.loop.counter c.args.negative (sleb_form c.args.negative c.args.size) c.loop-test.true c.loop.invariant.shows
    c.loop.invariant.bounded (sym c.is_last.ensures ∙ c.if-is_last.true)

pub loop-preserved : goal.loop-preserved
loop-preserved c = record {
  shows = sleb_more c.loop.bytes.items c.push-in-loop.new.self.items c.loop.rest c.loop.bound c.loop.counter c.args.negative (sleb_form c.args.negative c.args.size) c.loop-test.true c.loop.invariant.shows
      c.loop.invariant.bounded (sym c.is_last.ensures ∙ c.if-is_last.false) c.push-in-loop.ensures.items;
  bounded = bound_next c.loop.bound c.loop.counter c.loop-test.true c.loop.invariant.bounded;
  room = omega (arith, c.push-in-loop.ensures.len, c.loop.invariant.room);
}

pub returns : goal.returns
returns c =
    c.push-2.ensures.items ∙ sleb_end c.loop.bytes.items c.loop.rest c.loop.counter c.args.negative (sleb_form c.args.negative c.args.size) c.loop-test.false c.loop.invariant.shows
