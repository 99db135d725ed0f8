use Rattle.std.proofs.Common.{◌≡◌, Some, get_or, refl, sym, ◌∙◌, arith}
use Rattle.std.specs.Prelude.{slice_get}
use Rattle.std.proofs.lemmas.Option.{slice_get-get_or}
use Rattle.cc_bodies.specs.Linked.{PlacedLinked}
use Rattle.cc_bodies.proofs.CodeLoops.{changed_none, changed_more, changed_all}
use Rattle.cc_bodies.proofs.insns.link_insns.Goals as goal

pub loop-placed-init : goal.loop-placed-init
loop-placed-init c = changed_none (PlacedLinked c.args.links.now) c.args.insns.now

pub link_insn-requires : goal.link_insn-requires
link_insn-requires c =
    let now = c.loop-placed.insns in
    let at = c.loop-placed.placed-index in
    let there : slice_get now at ≡ Some (get_or now at c.placed-item.result) = slice_get-get_or now at c.placed-item.result (omega arith) in
    c.requires at (get_or now at c.placed-item.result) (sym (c.loop-placed.invariant.rest at (omega arith)) ∙ there)

pub loop-placed-preserved : goal.loop-placed-preserved
loop-placed-preserved c =
    let now = c.loop-placed.insns in
    let at = c.loop-placed.placed-index in
    let there : slice_get now at ≡ Some (get_or now at c.placed-item.result) = slice_get-get_or now at c.placed-item.result (omega arith) in
    changed_more (PlacedLinked c.args.links.now) c.args.insns.now now at (get_or now at c.placed-item.result) _ there (record { at = refl; units = refl; insn = c.link_insn.ensures }) c.loop-placed.invariant

pub returns : goal.returns
returns c = changed_all (PlacedLinked c.args.links.now) c.args.insns.now c.loop-placed.insns c.loop-placed.placed-index (omega arith) c.loop-placed.invariant
