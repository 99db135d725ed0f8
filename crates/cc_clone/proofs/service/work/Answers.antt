use Rattle.std.proofs.Common.{rules, ◌≡◌, Some, ◌∙◌, ap, subst}
use Rattle.std.proofs.lemmas.Result.{IfOk-weaker}
use Rattle.cc_meaning_nodes.specs.Clone.{Served, to_run}
use Rattle.cc_meaning_plain.specs.declared.plain.Plain.{Plain}
use Rattle.cc_meaning_clone.specs.Served.{served}
use Rattle.cc_clone.specs.Node.{served_by, Answers}
use Rattle.cc_clone.proofs.Answered.{run_is, run_is_not}
use Rattle.cc_clone.proofs.service.work.Goals as goal

pub returns-then-frame-ne-RUN-clause-ok : goal.returns-then-frame-ne-RUN-clause-ok
returns-then-frame-ne-RUN-clause-ok c =
    let not : c.args.frame.now.kind ≡ 3 → ⊥ = search rules in
    run_is_not c.args.replies.now.items (Some c.args.job.now) c.args.job.now c.args.frame.now not

pub returns-clause-ok : goal.returns-clause-ok
returns-clause-ok c =
    let is : c.args.frame.now.kind ≡ 3 = search rules in
    let old = c.args.replies.now.items in
    let new = c.give_back.new.replies.items in
    let job = Some c.args.job.now in
    let done : served_by c.args.job.now c.in_ok-end.end ≡ served c.args.job.now c.args.frame.now.payload =
    c.in_ok-end.ensures.served ∙ ap (served c.args.job.now) c.as_slice.ensures in
    IfOk-weaker c.give_back.result _ _ (λ end a. run_is old new end job c.args.job.now c.args.frame.now is
    (subst (λ (s : Served Plain). Answers (to_run s) old new end job) done a)) c.give_back.ensures.ok
