use Rattle.std.proofs.Common.{subst, sym, arith}
use Rattle.cc_program.specs.Layouts.{Stands}
use Rattle.cc_program.proofs.Settling.{next_there, above_stands, still_stands, still_right, still_leads, still_begins}
use Rattle.cc_program.proofs.layouts.settle.Goals as goal

pub layout-requires-clause-above : goal.layout-requires-clause-above
layout-requires-clause-above c = λ above up.
    subst (λ (xs : _). Stands xs above) (sym c.as_slice-in-Some.ensures)
    (above_stands c.args.outlines.now c.args.own.now c.loop-next.layouts c.loop-next.layouts c.loop-next.path c.pop.new.self c.in-Some.next c.in-Some.ensures c.loop-next.invariant.leads above up)

pub set-requires : goal.set-requires
set-requires c =
    let there = next_there c.args.outlines.now c.args.own.now c.loop-next.layouts c.loop-next.layouts c.loop-next.path c.pop.new.self c.in-Some.next c.in-Some.ensures c.loop-next.invariant.leads in
    omega (arith, there, c.loop-next.invariant.right.all)

pub loop-next-preserved : goal.loop-next-preserved
loop-next-preserved c =
    let outlines = c.args.outlines.now in
    let own = c.args.own.now in
    let layouts = c.loop-next.layouts in
    let new = c.set.new.self in
    let path = c.loop-next.path in
    let rest = c.pop.new.self in
    let next = c.in-Some.next in
    let popped = c.in-Some.ensures in
    let leads = c.loop-next.invariant.leads in
    let right = c.loop-next.invariant.right in
    let fields = c.in_ok-fields.fields in
    record {
      right = still_right outlines own layouts new path rest next popped leads fields right c.in_ok-fields.ensures c.set.ensures;
      leads = still_leads outlines own layouts new path rest next popped leads fields right c.in_ok-fields.ensures c.set.ensures;
      begins = still_begins outlines own layouts new path rest next popped leads fields right c.in_ok-fields.ensures c.set.ensures c.args.class c.loop-next.invariant.begins;
      kept = λ other stands. still_stands outlines own layouts new path rest next popped leads fields right c.in_ok-fields.ensures c.set.ensures other (c.loop-next.invariant.kept other stands);
    }
