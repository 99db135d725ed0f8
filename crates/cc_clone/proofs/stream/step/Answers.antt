use Rattle.std.proofs.Common.{rules, ◌≡◌, ◌∙◌, sym, ap, subst, [], Option, None, Some, Ok, drop}
use Rattle.cc_meaning.specs.declared.frame.Frame.{Frame}
use Rattle.cc_meaning.specs.declared.fault.FrameFault.TheVariants.{Memory}
use Rattle.cc_meaning.specs.declared.travel.CloneEnd.{CloneEnd}
use Rattle.cc_meaning_nodes.specs.Frames.{Fails, with_frame, frames_from}
use Rattle.cc_meaning_clone.specs.Plain.{place_in}
use Rattle.cc_framing.specs.Reader.{without_standing, with_one}
use Rattle.cc_clone.specs.Node.{IsAnswered, standing_at}
use Rattle.cc_clone.proofs.Stepping.{held_partial, held_after, step_waits, step_answers, steps-rest, taken_is_short}
use Rattle.cc_clone.proofs.stream.step.Goals as goal

pub serve-requires : goal.serve-requires
serve-requires c = taken_is_short c.begins_with_whole.ensures c.feed.new.self c.in-Some.frame (sym c.take.ensures.taken ∙ c.in-Some.is)

pub returns-in-Err : goal.returns-in-Err
returns-in-Err c =
    let known : c.in-Err.fault ≡ Memory → ⊥ = search rules in
    let fails = c.in-Err.ensures.advances.1 known in
    record {
      ok = step_waits c.talk_steps.ensures.rest c.verdict_steps.ensures.rest c.args.replies.now.items c.args.piece.now [] (place_in c.args.job.now) c.args.reader.now (Fails c.in-Err.fault) fails.0;
      err = tt;
    }

pub returns-in-None-clause-ok : goal.returns-in-None-clause-ok
returns-in-None-clause-ok c =
    let e = c.args.reader.now in
    let piece = c.args.piece.now in
    let rest = drop c.in-Ok.count piece in
    let advances = c.in-Ok.ensures.advances in
    let h : frames_from e piece ≡ frames_from c.take.new.self rest = advances.0
    ∙ ap (λ (o : Option Frame). with_one o (frames_from (without_standing c.feed.new.self) rest)) (sym c.take.ensures.taken ∙ c.in-None.is)
    ∙ ap (λ after. frames_from after rest) (sym c.take.ensures.left) in (
      step_waits c.talk_steps.ensures.rest c.verdict_steps.ensures.rest c.args.replies.now.items piece rest (place_in c.args.job.now) e c.take.new.self h,
      advances.1,
      advances.2 (held_partial e c.requires),
      held_after e c.feed.new.self c.take.new.self piece c.in-Ok.count c.in-Ok.ensures.feeds c.take.ensures.left c.take.ensures.partial,
    )

pub returns-in-None-2-clause-ok : goal.returns-in-None-2-clause-ok
returns-in-None-2-clause-ok c =
    let e = c.args.reader.now in
    let piece = c.args.piece.now in
    let rest = drop c.in-Ok.count piece in
    let old = c.args.replies.now.items in
    let new = c.serve.new.replies.items in
    let place = place_in c.args.job.now in
    let frame = c.in-Some.frame in
    let advances = c.in-Ok.ensures.advances in
    let h : frames_from e piece ≡ with_frame frame (frames_from c.take.new.self rest) = advances.0
    ∙ ap (λ (o : Option Frame). with_one o (frames_from (without_standing c.feed.new.self) rest)) (sym c.take.ensures.taken ∙ c.in-Some.is)
    ∙ ap (λ after. with_frame frame (frames_from after rest)) (sym c.take.ensures.left) in
    let answered : IsAnswered place frame old new None c.serve.new.job = subst (λ (end : Option CloneEnd). IsAnswered place frame old new end c.serve.new.job) c.in-None-2.is c.in_ok-serve-in-Some.ensures.ok in (
      step_answers c.talk_steps.ensures.first c.verdict_steps.ensures.first old new piece rest place e c.take.new.self frame None c.serve.new.job h answered,
      advances.1,
      advances.2 (held_partial e c.requires),
      held_after e c.feed.new.self c.take.new.self piece c.in-Ok.count c.in-Ok.ensures.feeds c.take.ensures.left c.take.ensures.partial,
    )

pub returns-in-Some-2-clause-ok : goal.returns-in-Some-2-clause-ok
returns-in-Some-2-clause-ok c =
    let e = c.args.reader.now in
    let piece = c.args.piece.now in
    let rest = drop c.in-Ok.count piece in
    let old = c.args.replies.now.items in
    let new = c.serve.new.replies.items in
    let place = place_in c.args.job.now in
    let frame = c.in-Some.frame in
    let h : frames_from e piece ≡ with_frame frame (frames_from c.take.new.self rest) = c.in-Ok.ensures.advances.0
    ∙ ap (λ (o : Option Frame). with_one o (frames_from (without_standing c.feed.new.self) rest)) (sym c.take.ensures.taken ∙ c.in-Some.is)
    ∙ ap (λ after. with_frame frame (frames_from after rest)) (sym c.take.ensures.left) in
    let end = Some c.in-Some-2.cause in
    let answered : IsAnswered place frame old new end c.serve.new.job = subst (λ (was : Option CloneEnd). IsAnswered place frame old new was c.serve.new.job) c.in-Some-2.is c.in_ok-serve-in-Some.ensures.ok in
    steps-rest old piece new rest [] (standing_at (Ok place) e) c.in-Some-2.cause
    (step_answers c.talk_steps.ensures.first c.verdict_steps.ensures.first old new piece rest place e c.take.new.self frame end c.serve.new.job h answered)
