use Rattle.cc_framing.proofs.Steps.{advances, holds}
use Rattle.cc_framing.proofs.reader.FrameReader.feed.Goals as goal

pub returns-clause-advances : goal.returns-clause-advances
returns-clause-advances c = advances c.args.self.now c.args.piece.now c.feed_present.result c.feed_present.new.self c.feed_present.ensures.was c.feed_present.ensures.feeds

pub returns-clause-holds : goal.returns-clause-holds
returns-clause-holds c held is p w = holds held c.args.piece.now c.feed_present.result c.args.self.now c.feed_present.new.self c.feed_present.ensures.feeds is p w
