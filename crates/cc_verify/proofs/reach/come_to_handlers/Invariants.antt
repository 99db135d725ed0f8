use Rattle.std.specs.Prelude.{◌≡◌, true, All, take}
use Rattle.cc_meaning.specs.declared.program.Catch.{Catch}
use Rattle.cc_verify.specs.Reaching.{seen_at, Widens, AreReached}
use Rattle.cc_verify.proofs.reach.come_to_handlers.Given as goal

abbrev pub invariant-loop-catch : goal.invariant-loop-catch
invariant-loop-catch l = record {
  widens : Widens l.fn.frontier l.frontier;
  reached : AreReached l.code l.frontier;
  seen : All (λ (catch : Catch). seen_at l.frontier.seen catch.at ≡ true) (take l.catch-index l.handlers);
}
