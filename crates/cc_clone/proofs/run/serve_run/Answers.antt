use Rattle.std.proofs.Common.{rules, ◌≡◌, List, ℕ, Ok, sym, ap, ◌∙◌, subst}
use Rattle.cc_meaning_plain.specs.declared.plain.Plain.{Plain}
use Rattle.cc_meaning_plain.specs.Program.{program_of}
use Rattle.cc_meaning_nodes.specs.Clone.{Backs}
use Rattle.cc_meaning_clone.specs.Served.{served}
use Rattle.cc_clone.proofs.Serving.{false_run, good_run, short_back}
use Rattle.cc_clone.proofs.run.serve_run.Goals as goal

pub returns-in-Err : goal.returns-in-Err
returns-in-Err c =
    record {
      served = false_run c.plain-plain.result.now c.args.payload.now c.in-Err.fault (c.in-Err.ensures (search rules)) ∙ ap (λ (p : Plain). served p c.args.payload.now) c.plain-plain.ensures.same;
      short = tt;
    }

pub answer-requires-clause-is_run : goal.answer-requires-clause-is_run
answer-requires-clause-is_run c = (c.law_run_is_spelled.ensures (program_of c.plain-plain.result.now) c.args.payload.now c.in-Ok.run' (λ i. search (rules, c.type_inv.payload i)) c.in-Ok.ensures).1

pub returns-in-Ok-encode_back-clause-served : goal.returns-in-Ok-encode_back-clause-served
returns-in-Ok-encode_back-clause-served c =
    subst (λ p. ◌≡◌ (Backs c.in-Ok-encode_back.bytes p) (served p c.args.payload.now)) c.plain-plain.ensures.same
    (good_run c.plain-plain.result.now c.args.payload.now c.in-Ok-encode_back.bytes c.in-Ok.run' c.in_ok-back.back c.in-Ok.ensures c.in_ok-back.ensures c.in-Ok-encode_back.ensures)

pub returns-in-Ok-encode_back-clause-short : goal.returns-in-Ok-encode_back-clause-short
returns-in-Ok-encode_back-clause-short c =
    let is_run = (c.law_run_is_spelled.ensures (program_of c.plain-plain.result.now) c.args.payload.now c.in-Ok.run' (λ i. search (rules, c.type_inv.payload i)) c.in-Ok.ensures).1 in
    short_back c.runs_have_parts.ensures c.answered_is.ensures c.backs_are_short.ensures c.plain-plain.result.now c.plain-plain.ensures.of_file c.in-Ok.run' is_run c.in_ok-back.back c.in-Ok-encode_back.bytes
    c.in_ok-back.ensures c.in-Ok-encode_back.ensures
