use Rattle.std.proofs.Common.{◌∙◌, refl, sym, ap, subst}
use Rattle.cc_meaning.specs.declared.program.Catch.{Catch}
use Rattle.std.specs.Prelude.{All}
use Rattle.cc_meaning_typing.specs.Code.{successors}
use Rattle.cc_meaning_typing.specs.Rules.{after}
use Rattle.cc_meaning_typing.specs.Typing.{TakesReference}
use Rattle.cc_meaning_typing.specs.Tries.{catch_all, lead_all, tried}
use Rattle.cc_transfer.specs.Bodies.{body_of}
use Rattle.cc_verify.specs.Tables.{due_of}
use Rattle.cc_verify.proofs.tries.try_at.Goals as goal

pub returns-clause-tried : goal.returns-clause-tried
unfolding tried
returns-clause-tried c =
    let body = body_of c.args.body.now in
    let states = c.args.table.now.states in
    let s = c.in_ok-state.state in
    let placed = c.in-Some.placed.now in
    let handling = c.handlers-handlers.ensures in
    let law = c.law_leads_spread.ensures body c.args.body.now.well_formed.hierarchy in
    let made =
    c.in_ok-lead_all.ensures.states
    ∙ ap (λ z. lead_all body.program c.apply.new.state c.catch_all.new.table.states z) c.successors.ensures
    ∙ ap (λ z. lead_all body.program z c.catch_all.new.table.states (successors body.code placed)) c.apply.ensures.after
    ∙ ap (λ z. lead_all body.program (after body.program c.args.at s placed.insn) z (successors body.code placed)) (c.in_ok-catch_all.ensures.states ∙ ap (λ z. catch_all body.program s states z) handling) in (
      s,
      c.in_ok-state.ensures,
      (
        record {
          placed = placed;
          stands = sym c.in-Some.ensures;
          accepts = c.if-not-accepts.ensures.0 refl;
          taken = subst (λ z. All (λ (catch : Catch). TakesReference catch.kind) z) handling (c.if-not-take_references.ensures.0 refl);
        },
        made,
        law.further states c.catch_all.new.table.states c.lead_all.new.table.states (due_of c.args.table.now.due) (due_of c.catch_all.new.table.due) (due_of c.lead_all.new.table.due) c.in_ok-catch_all.ensures.spreads c.in_ok-lead_all.ensures.spreads,
      ),
    )

pub returns-clause-narrow : goal.returns-clause-narrow
returns-clause-narrow c = λ h. c.in_ok-lead_all.ensures.narrow (c.in_ok-catch_all.ensures.narrow h)
