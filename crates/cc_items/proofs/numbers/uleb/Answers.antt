use Rattle.std.proofs.Common.{◌/◌, List, ℕ, sym, subst, ◌∙◌, arith}
use Rattle.cc_items.proofs.Groups.{UlebLeft, uleb_start, uleb_more, uleb_end}
use Rattle.cc_items.proofs.numbers.uleb.Goals as goal

pub loop-rest-init : goal.loop-rest-init
loop-rest-init c = subst (λ (l : List ℕ). UlebLeft l c.args.n c.args.n) (sym c.new-bytes.ensures) (uleb_start c.args.n (omega arith))

pub loop-rest-preserved : goal.loop-rest-preserved
loop-rest-preserved c =
    let more = uleb_more c.loop-rest.bytes.items c.loop-rest.rest c.args.n (omega arith) c.loop-rest.invariant in
    subst (λ (l : List ℕ). UlebLeft l (c.loop-rest.rest / 128) c.args.n) (sym c.push.ensures.items) more

pub returns : goal.returns
returns c = c.push-2.ensures.items ∙ uleb_end c.loop-rest.bytes.items c.loop-rest.rest c.args.n (omega arith) c.loop-rest.invariant
