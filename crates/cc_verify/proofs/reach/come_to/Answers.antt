use Rattle.std.proofs.Common.{◌<◌, subst, sym, refl}
use Rattle.cc_verify.proofs.Reaching.{target_within}
use Rattle.cc_verify.proofs.reach.come_to.Goals as goal

pub see-requires : goal.see-requires
see-requires c = subst (λ n. c.in-Some.at < n) (sym c.requires.reached.long) (target_within c.args.code.now (c.law_laid_out.ensures c.args.code.now c.requires.laid_out) c.in-Some.at (c.if-not-is_target.ensures.0 refl))
