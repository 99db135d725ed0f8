use Rattle.cc_cli.specs.Offloading.{tells_of}
use Rattle.cc_cli.proofs.Running.{hello_fits, hello_is, within_default, ends_in_words, returned, ran_there}
use Rattle.cc_cli.proofs.offload.run_there.Goals as goal

pub offload-requires-clause-hello : goal.offload-requires-clause-hello
offload-requires-clause-hello g c = hello_fits c.args.job.now.file c.args.plain.now c.requires.plain c.args.job.now.place c.args.job.now c.requires.job

pub offloaded_plan-requires : goal.offloaded_plan-requires
offloaded_plan-requires g c =
    ends_in_words c.law_plain_ends.ensures c.args.plain.now c.args.moved c.args.job.now c.requires.bytes c.requires.plain c.in-Ok.report c.in-Ok.travel _ _ _ _ _ _ c.in-Ok.ensures.offloads

pub returns-in-Ok-clause-plan : goal.returns-in-Ok-clause-plan
returns-in-Ok-clause-plan g c =
    let job = c.args.job.now in
    ran_there job.place _ _ _ _ (tells_of g.L.Link.known g.L.Link.honest g.L.Link.prompt g.L.Link.going g.L.Link.last c.args.link.now c.offload.new.link) job.file c.args.plain.now c.args.moved c.in-Ok.report c.in-Ok.travel job c.offloaded_plan.result c.requires.job c.in-Ok.ensures.offloads
    (λ t. returned c.law_plain_returns.ensures job.file c.args.plain.now c.requires.bytes c.requires.plain c.in-Ok.report
    (within_default job.file c.args.plain.now c.requires.plain job.place job c.in-Ok.report c.requires.job
    (c.in-Ok.ensures.transparent t.0 t.1 (hello_is job.file c.args.plain.now c.requires.plain job.place job c.requires.job))))
    (λ t. c.in-Ok.ensures.complete t.0 t.1 (hello_is job.file c.args.plain.now c.requires.plain job.place job c.requires.job))
    (λ t p. c.in-Ok.ensures.prompt p t.1 (hello_is job.file c.args.plain.now c.requires.plain job.place job c.requires.job)) c.in-Ok.ensures.migrates c.in-Ok.ensures.last c.offload.ensures.unmoved c.offloaded_plan.ensures
