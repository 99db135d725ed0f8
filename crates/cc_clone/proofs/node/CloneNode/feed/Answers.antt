use Rattle.std.proofs.Common.{rules, ◌≡◌, true, subst, is_some}
use Rattle.cc_meaning.specs.declared.travel.CloneEnd.{CloneEnd}
use Rattle.cc_meaning_nodes.specs.Clone.{ClonePlace}
use Rattle.cc_meaning_nodes.specs.Talk.{Talk}
use Rattle.cc_meaning_plain.specs.declared.plain.Plain.{Plain}
use Rattle.cc_meaning_clone.specs.Plain.{HasVerdict}
use Rattle.cc_clone.proofs.Stepping.{closed_has}
use Rattle.cc_clone.proofs.node.CloneNode.feed.Goals as goal

pub returns-then-is_some-clause-judged : goal.returns-then-is_some-clause-judged
returns-then-is_some-clause-judged c =
    let a = c.self.inside in
    let is : is_some a.end ≡ true = search rules in
    subst (λ (t : Talk (ClonePlace Plain) CloneEnd). HasVerdict t.standing c.args.piece.now) c.self.view_is (closed_has a.end a.job a.reader c.args.piece.now is)
