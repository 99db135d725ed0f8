use Rattle.std.proofs.Common.{◌∙◌, refl, sym}
use Rattle.std.specs.Prelude.{None}
use Rattle.cc_meaning.specs.declared.program.Catch.{Catch}
use Rattle.cc_transfer.specs.Bodies.{body_of}
use Rattle.cc_verify.specs.Tables.{due_of}
use Rattle.cc_verify.proofs.Steps.{catch_next, catch_end}
use Rattle.cc_verify.proofs.tries.catch_all.Goals as goal

pub loop-catch-init : goal.loop-catch-init
loop-catch-init c = record {
  states = refl;
  spreads = (c.law_leads_spread.ensures (body_of c.args.body.now) c.args.body.now.well_formed.hierarchy).none c.args.table.now.states (due_of c.args.table.now.due) c.requires.wide;
  narrow = λ h. h;
}

pub loop-catch-preserved : goal.loop-catch-preserved
loop-catch-preserved c =
    let d : Catch = record { kind = None; at = 0 } in
    record {
      states = catch_next c.args.body.now.program.now c.args.state.now c.loop-catch.table.states c.lead.new.table.states c.args.handlers.now c.loop-catch.catch-index d c.handler_pending-pending.result c.from.result c.loop-catch-test.true c.handler_pending-pending.ensures c.from.ensures c.in_ok-lead.ensures.states ∙ c.loop-catch.invariant.states;
      spreads = (c.law_leads_spread.ensures (body_of c.args.body.now) c.args.body.now.well_formed.hierarchy).further c.args.table.now.states c.loop-catch.table.states c.lead.new.table.states (due_of c.args.table.now.due) (due_of c.loop-catch.table.due) (due_of c.lead.new.table.due) c.loop-catch.invariant.spreads c.in_ok-lead.ensures.spreads;
      narrow = λ h. c.in_ok-lead.ensures.narrow (c.loop-catch.invariant.narrow h);
    }

pub returns-clause-states : goal.returns-clause-states
returns-clause-states c = sym (catch_end c.args.body.now.program.now c.args.state.now c.loop-catch.table.states c.args.handlers.now c.loop-catch.catch-index c.loop-catch-test.false) ∙ c.loop-catch.invariant.states
