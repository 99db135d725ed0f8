use Rattle.std.proofs.Common.{◌≡◌, ℕ, List, length, sym, subst, arith}
use Rattle.cc_meaning.specs.declared.program.Placed.{Placed}
use Rattle.cc_meaning_program.specs.Instructions.{StandUntil}
use Rattle.cc_bodies.proofs.reading.instructions.Goals as goal

pub loop-at-init : goal.loop-at-init
loop-at-init c = record { within = omega arith; stand = subst (λ (placed : List Placed). StandUntil c.args.units.now 0 placed) (sym c.new-insns.ensures) StandUntil.none }

pub loop-at-preserved : goal.loop-at-preserved
loop-at-preserved c =
    let here = c.in-Ok.ensures.ok in
    record {
      within = (c.insns_take_units.ensures c.args.units.now c.loop-at.at c.in-Ok.size c.in-Ok.insn here).1;
      stand = rw c.in_ok-push-in-Ok.ensures.ok (StandUntil.next c.loop-at.invariant.stand c.loop-at-test.true here);
    }

pub returns : goal.returns
returns c =
    let end : c.loop-at.at ≡ length c.args.units.now = omega arith in
    (c.stand_to_end.ensures c.args.units.now c.loop-at.insns).1 (subst (λ (at : ℕ). StandUntil c.args.units.now at c.loop-at.insns) end c.loop-at.invariant.stand)
