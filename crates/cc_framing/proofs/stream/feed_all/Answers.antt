use Rattle.std.proofs.Common.{◌≡◌, ◌<◌, ◌∙◌, sym, ap, subst, rules, List, [], length, drop, Option, arith}
use Rattle.std.proofs.lemmas.List.{nil_from_length}
use Rattle.cc_meaning.specs.declared.frame.Frame.{Frame}
use Rattle.cc_meaning.specs.declared.fault.FrameFault.TheVariants.{Memory}
use Rattle.cc_meaning_nodes.specs.Frames.{frames_from, Ending, ends, with_frames, IsPartial}
use Rattle.cc_framing.specs.Reader.{with_one, standing, without_standing}
use Rattle.cc_framing.proofs.Loops.{next-none, next-one, ended}
use Rattle.cc_framing.proofs.stream.feed_all.Goals as goal
use Rattle.cc_framing.proofs.stream.feed_all.Goals.{in-Some+in_ok-push-in-Ok, in_default}

pub loop-rest-smaller : goal.loop-rest-smaller
loop-rest-smaller c =
    let some : 0 < length c.loop-rest.rest.now = search rules in
    omega (arith, c.in-Ok.ensures.advances.2 c.loop-rest.invariant.partial some, c.in-Ok.ensures.advances.1, c.split_at.ensures.back_len)

pub loop-rest-preserved : goal.loop-rest-preserved
loop-rest-preserved c =
    let old = c.loop-rest.frames in
    let all = frames_from c.loop-rest.reader c.loop-rest.rest.now in
    let rest = frames_from c.take.new.self c.split_at.result.1.now in
    let mid : Ending = c.feed.new.self in
    let after : rest ≡ frames_from (without_standing mid) (drop c.in-Ok.count c.loop-rest.rest.now) = ap (λ (e : Ending). frames_from e c.split_at.result.1.now) c.take.ensures.left ∙ ap (frames_from (without_standing mid)) c.split_at.ensures.back in
    let step : all ≡ with_one c.take.result rest = c.in-Ok.ensures.advances.0 ∙ ap (with_one (standing mid)) (sym after) ∙ ap (λ (o : Option Frame). with_one o rest) (sym c.take.ensures.taken) in
    record {
      told = elim c.match-take.branch [
        | in-Some+in_ok-push-in-Ok w ↦
            ap (λ (ms : List Frame). with_frames ms rest) (w.frames-is ∙ w.in_ok-push-in-Ok.ensures.ok)
            ∙ next-one old w.in-Some.frame all rest c.take.result step w.in-Some.is
            ∙ c.loop-rest.invariant.told
        | in_default w ↦
            ap (λ (ms : List Frame). with_frames ms rest) w.frames-is
            ∙ next-none old all rest c.take.result step w.in_default.is
            ∙ c.loop-rest.invariant.told
      ];
      partial = c.take.ensures.partial;
    }

pub returns-in-Err : goal.returns-in-Err
returns-in-Err c =
    let known : c.in-Err.field-0 ≡ Memory → ⊥ = search rules in
    let fails = c.in-Err.ensures.advances.1 known in
    record {
      frames = ended c.loop-rest.frames c.feed.new.self _ _ (fails.0 ∙ ap (λ (e : Ending). ends e) (sym fails.1)) c.loop-rest.invariant.told;
      partial = subst IsPartial (sym fails.1) known;
    }

pub returns-clause-frames : goal.returns-clause-frames
returns-clause-frames c =
    let none : c.loop-rest.rest.now ≡ [] = nil_from_length c.loop-rest.rest.now (search rules) in
    let e = c.loop-rest.reader in
    ended c.loop-rest.frames e _ _ (ap (frames_from e) none ∙ c.nothing_more.ensures.2 e c.loop-rest.invariant.partial) c.loop-rest.invariant.told
