use Rattle.std.proofs.Common.{◌∙◌, refl, subst, arith}
use Rattle.cc_meaning_typing.specs.Tries.{state_at}
use Rattle.cc_transfer.specs.Bodies.{body_of}
use Rattle.cc_verify.specs.declared.table.Table.{Table}
use Rattle.cc_verify.specs.Tables.{due_of, Tried}
use Rattle.cc_verify.proofs.Tables.{state_inside, some_is}
use Rattle.cc_verify.proofs.Steps.{starts, first_due, popped, kept_goes, broken_breaks}
use Rattle.cc_verify.proofs.tries.first_broken.Goals as goal

pub loop-at-init : goal.loop-at-init
loop-at-init c = (starts (body_of c.args.body.now) c.in_ok-table.table.states (due_of c.in_ok-table.table.due) c.in_ok-table.ensures.states c.in_ok-table.ensures.due, c.in_ok-table.ensures.narrow)

pub try_at-requires-clause-within : goal.try_at-requires-clause-within
try_at-requires-clause-within c =
    let p = c.loop-at.invariant.0 in
    let f = (c.law_find_typings.ensures (body_of c.args.body.now) c.args.body.now.well_formed.hierarchy c.requires).fits p.tries c.loop-at.table.states p.known p.after in
    let h = f.has c.in-Some.at (p.same c.in-Some.at ∙ c.in-Some.ensures.member) in
    state_inside c.loop-at.table.states c.in-Some.at h.0 h.1

pub try_at-requires-clause-fits : goal.try_at-requires-clause-fits
try_at-requires-clause-fits c =
    let p = c.loop-at.invariant.0 in
    let f = (c.law_find_typings.ensures (body_of c.args.body.now) c.args.body.now.well_formed.hierarchy c.requires).fits p.tries c.loop-at.table.states p.known p.after in
    let h = f.has c.in-Some.at (p.same c.in-Some.at ∙ c.in-Some.ensures.member) in
    let i = state_inside c.loop-at.table.states c.in-Some.at h.0 h.1 in
    let long = f.long in
    let few = (c.law_laid_out.ensures c.args.body.now.code.now c.args.body.now.laid_out).fits in
    omega arith

pub try_at-requires-clause-known : goal.try_at-requires-clause-known
try_at-requires-clause-known c =
    let p = c.loop-at.invariant.0 in
    let f = (c.law_find_typings.ensures (body_of c.args.body.now) c.args.body.now.well_formed.hierarchy c.requires).fits p.tries c.loop-at.table.states p.known p.after in
    let h = f.has c.in-Some.at (p.same c.in-Some.at ∙ c.in-Some.ensures.member) in
    some_is (state_at c.loop-at.table.states c.in-Some.at) h.0 h.1

pub try_at-requires-clause-wide : goal.try_at-requires-clause-wide
try_at-requires-clause-wide c =
    let p = c.loop-at.invariant.0 in
    let f = (c.law_find_typings.ensures (body_of c.args.body.now) c.args.body.now.well_formed.hierarchy c.requires).fits p.tries c.loop-at.table.states p.known p.after in
    f.wide

pub returns-then-not-branch-clause-broken : goal.returns-then-not-branch-clause-broken
returns-then-not-branch-clause-broken c =
    let p = c.loop-at.invariant.0 in
    let body = body_of c.args.body.now in
    let old : Table = record { states = c.loop-at.table.states; due = c.pop_first.new.self } in
    let first = first_due c.loop-at.table.due p.known c.in-Some.at p.same c.in-Some.ensures.member c.in-Some.ensures.least in
    let cleared = popped c.loop-at.table.due c.pop_first.new.self c.in-Some.at c.in-Some.ensures.updates in
    broken_breaks body old c.try_at.new.table c.loop-at.table.states (due_of c.loop-at.table.due) c.in-Some.at refl p first cleared
    (subst (Tried body old c.try_at.new.table c.in-Some.at) c.if-not-branch.true c.in_ok-try_at.ensures.tried)

pub returns-then-not-branch-clause-fits : goal.returns-then-not-branch-clause-fits
returns-then-not-branch-clause-fits c =
    let p = c.loop-at.invariant.0 in
    let f = (c.law_find_typings.ensures (body_of c.args.body.now) c.args.body.now.well_formed.hierarchy c.requires).fits p.tries c.loop-at.table.states p.known p.after in
    let h = f.has c.in-Some.at (p.same c.in-Some.at ∙ c.in-Some.ensures.member) in
    let i = state_inside c.loop-at.table.states c.in-Some.at h.0 h.1 in
    let long = f.long in
    let few = (c.law_laid_out.ensures c.args.body.now.code.now c.args.body.now.laid_out).fits in
    omega arith

pub loop-at-smaller : goal.loop-at-smaller
loop-at-smaller c =
    let p = c.loop-at.invariant.0 in
    let body = body_of c.args.body.now in
    let old : Table = record { states = c.loop-at.table.states; due = c.pop_first.new.self } in
    let first = first_due c.loop-at.table.due p.known c.in-Some.at p.same c.in-Some.ensures.member c.in-Some.ensures.least in
    let cleared = popped c.loop-at.table.due c.pop_first.new.self c.in-Some.at c.in-Some.ensures.updates in
    (kept_goes body old c.try_at.new.table c.loop-at.table.states (due_of c.loop-at.table.due) c.in-Some.at refl p first cleared
    (c.law_shrink_tries.ensures body c.args.body.now.well_formed.hierarchy)
    (subst (Tried body old c.try_at.new.table c.in-Some.at) c.if-not-branch.false c.in_ok-try_at.ensures.tried)
    (c.in_ok-try_at.ensures.narrow c.loop-at.invariant.1)).1

pub loop-at-preserved : goal.loop-at-preserved
loop-at-preserved c =
    let p = c.loop-at.invariant.0 in
    let body = body_of c.args.body.now in
    let old : Table = record { states = c.loop-at.table.states; due = c.pop_first.new.self } in
    let first = first_due c.loop-at.table.due p.known c.in-Some.at p.same c.in-Some.ensures.member c.in-Some.ensures.least in
    let cleared = popped c.loop-at.table.due c.pop_first.new.self c.in-Some.at c.in-Some.ensures.updates in
    let narrow = c.in_ok-try_at.ensures.narrow c.loop-at.invariant.1 in (
      (kept_goes body old c.try_at.new.table c.loop-at.table.states (due_of c.loop-at.table.due) c.in-Some.at refl p first cleared
          (c.law_shrink_tries.ensures body c.args.body.now.well_formed.hierarchy)
          (subst (Tried body old c.try_at.new.table c.in-Some.at) c.if-not-branch.false c.in_ok-try_at.ensures.tried)
          narrow).0,
      narrow,
    )
