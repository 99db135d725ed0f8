use Rattle.std.proofs.Common.{◌≡◌, ◌≢◌, ◌<◌, ◌∙◌, true, ap, sym, subst, slice_set}
use Rattle.std.specs.Prelude.{Some}
use Rattle.cc_meaning_typing.specs.Tries.{lead, joined, state_at, Marks}
use Rattle.cc_meaning_typing.specs.declared.state.State.{State}
use Rattle.cc_meaning_typing.specs.VerifyLaws.{Spreads}
use Rattle.cc_transfer.specs.Bodies.{body_of}
use Rattle.cc_verify.specs.Tables.{due_of}
use Rattle.cc_verify.proofs.Tables.{by_true, by_false, marks_changed, marks_unchanged, state_known, updated_same, updated_other}
use Rattle.cc_verify.proofs.table.lead.Goals as goal

pub returns-in_default-clause-spreads : goal.returns-in_default-clause-spreads
returns-in_default-clause-spreads c = (c.law_leads_spread.ensures (body_of c.args.body.now) c.args.body.now.well_formed.hierarchy).none c.args.table.now.states (due_of c.args.table.now.due) c.requires.wide

pub returns-else-to-len-clause-spreads : goal.returns-else-to-len-clause-spreads
returns-else-to-len-clause-spreads c = (c.law_leads_spread.ensures (body_of c.args.body.now) c.args.body.now.well_formed.hierarchy).none c.args.table.now.states (due_of c.args.table.now.due) c.requires.wide

pub returns-in_ok-insert-clause-spreads : goal.returns-in_ok-insert-clause-spreads
unfolding lead
returns-in_ok-insert-clause-spreads c =
    let states = c.args.table.now.states in
    let body = body_of c.args.body.now in
    let law = c.law_leads_spread.ensures body c.args.body.now.well_formed.hierarchy in
    let s : State = record { registers = c.args.registers.now; pending = c.args.pending } in
    let known = state_known states c.in-Some.to c.at_mut.result.now c.at_mut.ensures.get in
    let made = c.in_ok-changed.ensures.joined ∙ ap (λ z. Some (joined body.program z s)) (sym known) in
    let same = ap (slice_set states c.in-Some.to) made in
    let marks = marks_changed states c.in-Some.to c.at_mut.result.now c.enter.new.known (due_of c.args.table.now.due) (due_of c.insert.new.self) (subst (λ n. c.in-Some.to < n) c.len.ensures.value c.if-to-len.true) c.at_mut.ensures.get (by_true c.in_ok-changed.changed (c.enter.new.known ≢ c.at_mut.result.now) (c.enter.new.known ≡ c.at_mut.result.now) c.if-changed.true c.in_ok-changed.ensures.changed)
    (updated_same c.args.table.now.due c.insert.new.self c.in-Some.to true c.in_ok-insert.ensures.updates) (updated_other c.args.table.now.due c.insert.new.self c.in-Some.to true c.in_ok-insert.ensures.updates) in
    subst (λ z. Spreads body states z (due_of c.args.table.now.due) (due_of c.insert.new.self)) (sym same)
    (law.once states (due_of c.args.table.now.due) (due_of c.insert.new.self) (Some c.in-Some.to) s c.requires.wide c.requires.as_many
    (λ at. subst (λ z. Marks (state_at states at) (state_at z at) (due_of c.args.table.now.due at) (due_of c.insert.new.self at)) same (marks at)))

pub returns-else-changed-clause-spreads : goal.returns-else-changed-clause-spreads
unfolding lead
returns-else-changed-clause-spreads c =
    let states = c.args.table.now.states in
    let due = due_of c.args.table.now.due in
    let body = body_of c.args.body.now in
    let law = c.law_leads_spread.ensures body c.args.body.now.well_formed.hierarchy in
    let s : State = record { registers = c.args.registers.now; pending = c.args.pending } in
    let known = state_known states c.in-Some.to c.at_mut.result.now c.at_mut.ensures.get in
    let made = c.in_ok-changed.ensures.joined ∙ ap (λ z. Some (joined body.program z s)) (sym known) in
    let same = ap (slice_set states c.in-Some.to) made in
    let marks = marks_unchanged states c.in-Some.to c.at_mut.result.now c.enter.new.known due (subst (λ n. c.in-Some.to < n) c.len.ensures.value c.if-to-len.true) c.at_mut.ensures.get (by_false c.in_ok-changed.changed (c.enter.new.known ≢ c.at_mut.result.now) (c.enter.new.known ≡ c.at_mut.result.now) c.if-changed.false c.in_ok-changed.ensures.changed) in
    subst (λ z. Spreads body states z due due) (sym same)
    (law.once states due due (Some c.in-Some.to) s c.requires.wide c.requires.as_many
    (λ at. subst (λ z. Marks (state_at states at) (state_at z at) (due at) (due at)) same (marks at)))
