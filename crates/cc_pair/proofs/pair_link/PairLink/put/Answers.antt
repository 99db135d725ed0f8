use Rattle.std.proofs.Common.{rules, ◌≡◌, Some, None, refl, ap, ◌∙◌, inl, inr, slice_get}
use Rattle.cc_meaning.specs.declared.travel.Happening.TheVariants.{Up, Down, Cut}
use Rattle.cc_link.specs.declared.link.Sent.TheVariants as sends
use Rattle.cc_pair.proofs.Following.{sends_first, sends_last}
use Rattle.cc_pair.proofs.pair_link.PairLink.put.Goals as goal

pub returns-in-Cut : goal.returns-in-Cut
returns-in-Cut c =
    let p = c.loop-happening.self in
    let first : slice_get p.list 0 ≡ Some Cut = search rules in
    c.loop-happening.invariant sends.Failed _ (sends_first p Cut first c.args.bytes.now sends.Failed _ (refl, search rules))

pub returns-in-Up : goal.returns-in-Up
returns-in-Up c =
    let p = c.loop-happening.self in
    let first : slice_get p.list 0 ≡ Some c.in-Some.happening = search rules in
    elim c.in-Up.is [
      | inl w ↦ c.loop-happening.invariant _ _ (sends_first p (Up w.0) (first ∙ ap Some w.1) c.args.bytes.now _ _ c.take.ensures)
      | inr w ↦ c.loop-happening.invariant _ _ (sends_first p (Down w.0) (first ∙ ap Some w.1) c.args.bytes.now _ _ c.take.ensures)
    ]

pub returns : goal.returns
returns c =
    let p = c.loop-happening.self in
    let none : slice_get p.list 0 ≡ None = search rules in
    c.loop-happening.invariant _ _ (sends_last p none c.args.bytes.now _ _ (search rules))
