use Rattle.std.proofs.Common.{rules, ◌≡◌, ℕ, true, List, length, min, take, subst}
use Rattle.cc_pair.specs.Pairs.{Pair}
use Rattle.cc_pair.specs.Clones.{Hears, Refuses, GoesUp, IsRefused}
use Rattle.cc_pair.specs.contracts.pair_link.PairLink.{the_view}
use Rattle.cc_pair.proofs.Pieces.{piece_min}
use Rattle.cc_pair.proofs.Fairness.{Laws}
use Rattle.cc_pair.proofs.Upward.{passed_is, heard_stands, refused_stands, goes_up, is_refused}
use Rattle.cc_pair.proofs.pair_link.PairLink.go_up.Goals as goal

pub invariant_of-self : goal.invariant_of-self
invariant_of-self c =
    let a = c.self.inside in
    let laws : Laws = record { verdicts = c.verdict_goes_on.ensures; said = c.talk_goes_on.ensures.said; standing = c.talk_goes_on.ensures.standing; front = c.talk_goes_on.ensures.front } in
    let n : c.min-count.result ≡ min (length a.up.waiting) c.args.count = search rules in
    let piece : c.split_at.result.0.now ≡ take c.args.count a.up.waiting = search (rules, piece_min) in
    let heard : Hears a.clone (take c.args.count a.up.waiting) c.feed.new.self =
    subst (λ (xs : List ℕ). Hears a.clone xs c.feed.new.self) piece (record { judged = c.in-Ok.ensures.judged; answers = c.in-Ok.ensures.ok }) in
    heard_stands laws a.up a.clone a.deaf a.down c.args.count c.feed.new.self c.pass.new.self c.if-self.false (passed_is c.min-count.result c.args.count a.up c.pass.new.self n c.pass.ensures) c.self.invariant heard

pub invariant_of-self-in-Err : goal.invariant_of-self-in-Err
invariant_of-self-in-Err c =
    let a = c.self.inside in
    let laws : Laws = record { verdicts = c.verdict_goes_on.ensures; said = c.talk_goes_on.ensures.said; standing = c.talk_goes_on.ensures.standing; front = c.talk_goes_on.ensures.front } in
    let n : c.min-count.result ≡ min (length a.up.waiting) c.args.count = search rules in
    let piece : c.split_at.result.0.now ≡ take c.args.count a.up.waiting = search (rules, piece_min) in
    let refused : Refuses a.clone (take c.args.count a.up.waiting) c.feed.new.self =
    subst (λ (xs : List ℕ). Refuses a.clone xs c.feed.new.self) piece (record { closed = c.in-Err.ensures.closed; front = c.in-Err.ensures.front }) in
    refused_stands laws a.up a.clone a.deaf a.down c.args.count c.feed.new.self c.pass-in-Err.new.self c.if-self.false (passed_is c.min-count.result c.args.count a.up c.pass-in-Err.new.self n c.pass-in-Err.ensures) c.self.invariant refused

pub returns-in-Ok-clause-ok : goal.returns-in-Ok-clause-ok
returns-in-Ok-clause-ok c =
    let a = c.self.inside in
    let n : c.min-count.result ≡ min (length a.up.waiting) c.args.count = search rules in
    let piece : c.split_at.result.0.now ≡ take c.args.count a.up.waiting = search (rules, piece_min) in
    let heard : Hears a.clone (take c.args.count a.up.waiting) c.feed.new.self =
    subst (λ (xs : List ℕ). Hears a.clone xs c.feed.new.self) piece (record { judged = c.in-Ok.ensures.judged; answers = c.in-Ok.ensures.ok }) in
    let q : Pair = record (the_view a) { up = c.pass.new.self; clone = c.feed.new.self } in
    subst (λ (p : Pair). GoesUp p.deaf c.args.count p q) c.self.view_is
    (goes_up (the_view a) c.args.count c.feed.new.self c.pass.new.self c.if-self.false (passed_is c.min-count.result c.args.count a.up c.pass.new.self n c.pass.ensures) heard)

pub returns-in-Err-clause-err : goal.returns-in-Err-clause-err
returns-in-Err-clause-err c =
    let a = c.self.inside in
    let n : c.min-count.result ≡ min (length a.up.waiting) c.args.count = search rules in
    let piece : c.split_at.result.0.now ≡ take c.args.count a.up.waiting = search (rules, piece_min) in
    let refused : Refuses a.clone (take c.args.count a.up.waiting) c.feed.new.self =
    subst (λ (xs : List ℕ). Refuses a.clone xs c.feed.new.self) piece (record { closed = c.in-Err.ensures.closed; front = c.in-Err.ensures.front }) in
    let q : Pair = record (the_view a) { up = c.pass-in-Err.new.self; clone = c.feed.new.self; deaf = true } in
    subst (λ (p : Pair). IsRefused p.deaf c.args.count p q) c.self.view_is
    (is_refused (the_view a) c.args.count c.feed.new.self c.pass-in-Err.new.self c.if-self.false (passed_is c.min-count.result c.args.count a.up c.pass-in-Err.new.self n c.pass-in-Err.ensures) refused)
