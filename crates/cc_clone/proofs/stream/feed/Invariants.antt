use Rattle.std.proofs.Common.{Ok, length}
use Rattle.cc_meaning_clone.specs.Plain.{place_in}
use Rattle.cc_clone.specs.Node.{IsHeld, standing_at, Steps}
use Rattle.cc_clone.proofs.stream.feed.Given as goal

abbrev pub invariant-loop-rest : goal.invariant-loop-rest
invariant-loop-rest l = record {
  steps : Steps l.fn.replies.items (standing_at (Ok (place_in l.fn.job)) l.fn.reader) l.piece l.replies.items (standing_at (Ok (place_in l.job)) l.reader) l.rest;
  held : IsHeld l.reader;
}

abbrev pub decreases-loop-rest : goal.decreases-loop-rest
decreases-loop-rest l = length l.rest
