use Rattle.std.proofs.Common.{rules, ◌≡◌, [], length, None, sym, ap, ◌∙◌, slice_get}
use Rattle.std.proofs.lemmas.Bool.{eqb-true}
use Rattle.std.proofs.lemmas.List.{nil_from_length}
use Rattle.cc_pair.proofs.Following.{follow_carries}
use Rattle.cc_pair.proofs.pair_link.PairLink.get.Goals as goal

pub returns-in_default : goal.returns-in_default
returns-in_default c =
    let p = c.loop-self.self in
    let none : slice_get p.list 0 ≡ None = search rules in
    let waiting : c.waiting.result.now ≡ p.down.waiting = search rules in
    let waits : p.down.waiting ≡ [] = nil_from_length p.down.waiting (ap length (sym waiting) ∙ eqb-true (length c.waiting.result.now) 0 (sym c.loop-self-test.ensures)) in
    c.loop-self.invariant _ _ (follow_carries p _ c.args.room waits none _ c.carry.ensures)
