use Rattle.std.proofs.Common.{rules, ◌≡◌, subst, List, ℕ, Result}
use Rattle.std.proofs.lemmas.Result.{IfOk-weaker}
use Rattle.cc_meaning_plain.specs.declared.plain.Plain.{Plain}
use Rattle.cc_meaning_clone.specs.Hello.{IsJudged}
use Rattle.cc_clone.proofs.Answered.{first_is, first_is_not}
use Rattle.cc_clone.proofs.service.meet.Goals as goal

pub returns-then-frame-ne-HELLO-clause-ok : goal.returns-then-frame-ne-HELLO-clause-ok
returns-then-frame-ne-HELLO-clause-ok c =
    let not : c.args.frame.now.kind ≡ 1 → ⊥ = search rules in
    first_is_not c.args.replies.now.items c.args.job.now c.args.frame.now not

pub returns-clause-ok : goal.returns-clause-ok
returns-clause-ok c =
    let is : c.args.frame.now.kind ≡ 1 = search rules in
    let same : c.as_slice.result.now ≡ c.args.frame.now.payload = c.as_slice.ensures in
    let verdict = c.in_ok-verdict.verdict in
    let judged : IsJudged c.args.frame.now.payload verdict = subst (λ (payload : List ℕ). IsJudged payload verdict) same c.in_ok-verdict.ensures.judged in
    let only : (other : Result Plain ℕ) → IsJudged c.args.frame.now.payload other → other ≡ verdict = subst (λ (payload : List ℕ). (other : Result Plain ℕ) → IsJudged payload other → other ≡ verdict) same c.in_ok-verdict.ensures.only in
    IfOk-weaker c.greet.result _ _ (λ end. first_is c.args.replies.now.items c.greet.new.replies.items end c.greet.new.job c.args.frame.now verdict is judged only) c.greet.ensures.ok
