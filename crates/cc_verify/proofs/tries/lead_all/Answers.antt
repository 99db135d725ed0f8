use Rattle.std.proofs.Common.{◌∙◌, refl, sym}
use Rattle.cc_transfer.specs.Bodies.{body_of}
use Rattle.cc_verify.specs.Tables.{due_of}
use Rattle.cc_verify.proofs.Steps.{lead_next, lead_end}
use Rattle.cc_verify.proofs.tries.lead_all.Goals as goal

pub loop-address-init : goal.loop-address-init
loop-address-init c = record {
  states = refl;
  spreads = (c.law_leads_spread.ensures (body_of c.args.body.now) c.args.body.now.well_formed.hierarchy).none c.args.table.now.states (due_of c.args.table.now.due) c.requires.wide;
  narrow = λ h. h;
}

pub loop-address-preserved : goal.loop-address-preserved
loop-address-preserved c = record {
  states = lead_next c.args.body.now.program.now c.args.state.now c.loop-address.table.states c.lead.new.table.states c.loop-address.rest c.take_first.new.self c.in-Some.address c.in-Some.ensures c.in_ok-lead.ensures.states ∙ c.loop-address.invariant.states;
  spreads = (c.law_leads_spread.ensures (body_of c.args.body.now) c.args.body.now.well_formed.hierarchy).further c.args.table.now.states c.loop-address.table.states c.lead.new.table.states (due_of c.args.table.now.due) (due_of c.loop-address.table.due) (due_of c.lead.new.table.due) c.loop-address.invariant.spreads c.in_ok-lead.ensures.spreads;
  narrow = λ h. c.in_ok-lead.ensures.narrow (c.loop-address.invariant.narrow h);
}

pub returns-clause-states : goal.returns-clause-states
returns-clause-states c = sym (lead_end c.args.body.now.program.now c.args.state.now c.loop-address.table.states c.loop-address.rest c.in_default.ensures.0) ∙ c.loop-address.invariant.states
