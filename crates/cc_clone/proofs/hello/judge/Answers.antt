use Rattle.std.proofs.Common.{Ok}
use Rattle.std.proofs.lemmas.Option.{MatchOption-at_some, MatchOption-at_none}
use Rattle.cc_meaning_plain.specs.Laws.{PlainOnce}
use Rattle.cc_meaning_clone.specs.Hello.{malformed}
use Rattle.cc_clone.proofs.Judged.{fits_judged, other_judged}
use Rattle.cc_clone.proofs.hello.judge.Goals as goal

pub returns-in-None-clause-judged : goal.returns-in-None-clause-judged
returns-in-None-clause-judged c = malformed c.in-None.ensures

pub returns-in-None-clause-only : goal.returns-in-None-clause-only
returns-in-None-clause-only c other is = c.judged_once.ensures.refused c.args.payload.now 64 other (malformed c.in-None.ensures) is

pub returns-in-Some-2-clause-judged : goal.returns-in-Some-2-clause-judged
returns-in-Some-2-clause-judged c =
    let hello = c.in-Some.hello in
    fits_judged c.args.payload.now hello.main.now hello.file.now hello.script.now c.in-Some.ensures c.in-Some-2.job
    (MatchOption-at_some _ _ c.in-Some-2.job c.in-Some-2.is c.in_ok-job.ensures.parts)

pub returns-in-Some-2-clause-only : goal.returns-in-Some-2-clause-only
returns-in-Some-2-clause-only c other is =
    let hello = c.in-Some.hello in
    let judged = fits_judged c.args.payload.now hello.main.now hello.file.now hello.script.now c.in-Some.ensures c.in-Some-2.job
    (MatchOption-at_some _ _ c.in-Some-2.job c.in-Some-2.is c.in_ok-job.ensures.parts) in
    let once : PlainOnce = MatchOption-at_some _ _ c.in-Some-2.job c.in-Some-2.is c.in_ok-job.ensures.once in
    c.judged_once.ensures.verdict once c.args.payload.now other (Ok c.in-Some-2.job) is judged

pub returns-in-None-2-clause-judged : goal.returns-in-None-2-clause-judged
returns-in-None-2-clause-judged c =
    let hello = c.in-Some.hello in
    other_judged c.args.payload.now hello.main.now hello.file.now hello.script.now c.in-Some.ensures c.judged_once.ensures.hello
    (MatchOption-at_none _ _ c.in-None-2.is c.in_ok-job.ensures.parts)

pub returns-in-None-2-clause-only : goal.returns-in-None-2-clause-only
returns-in-None-2-clause-only c other is =
    let hello = c.in-Some.hello in
    let judged = other_judged c.args.payload.now hello.main.now hello.file.now hello.script.now c.in-Some.ensures c.judged_once.ensures.hello
    (MatchOption-at_none _ _ c.in-None-2.is c.in_ok-job.ensures.parts) in
    c.judged_once.ensures.refused c.args.payload.now 80 other judged is
