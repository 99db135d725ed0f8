use Rattle.std.proofs.Common.{◌⊎◌, inl, inr, ◌<◌, length, get_or, subst, ◌∙◌, arith}
use Rattle.std.specs.Prelude.{◌↔◌, Contains}
use Rattle.std.proofs.lemmas.List.Elements.{Contains-get_or}
use Rattle.cc_hierarchy.specs.Graphs.{IsMarked}
use Rattle.cc_hierarchy.proofs.Searching.{held_more, held_back, taken_all}
use Rattle.cc_hierarchy.proofs.search.mark_all.Goals as goal

pub mark-requires : goal.mark-requires
mark-requires c =
    let below : get_or c.args.nodes.now c.loop-node.node-index 0 < length c.args.marks.now = c.requires (get_or c.args.nodes.now c.loop-node.node-index 0) (Contains-get_or c.args.nodes.now c.loop-node.node-index 0 c.loop-node-test.true) in
    omega (arith, below, c.loop-node.invariant.wide)

pub loop-node-preserved : goal.loop-node-preserved
loop-node-preserved c =
    let i = c.loop-node.node-index in
    let inv = c.loop-node.invariant in
    let more = c.in_ok-mark.ensures in
    record {
      wide = more.length ∙ inv.wide;
      marked = λ other. (
        held_more (IsMarked c.args.marks.now) (IsMarked c.loop-node.marks) (IsMarked c.mark.new.marks) c.args.nodes.now i 0 c.loop-node-test.true (λ o. (inv.marked o).0) (λ o. (more.marked o).0) other,
        held_back (IsMarked c.args.marks.now) (IsMarked c.loop-node.marks) (IsMarked c.mark.new.marks) c.args.nodes.now i 0 c.loop-node-test.true (λ o. (inv.marked o).1) (λ o. (more.marked o).1) other,
      );
      awaited = λ other is. elim (more.awaited other is) [ inl old ↦ elim (inv.awaited other old) [ inl first ↦ inl first | inr held ↦ inr (more.kept other held) ] | inr new ↦ inr new ];
      kept = λ other held. more.kept other (inv.kept other held);
      all = held_more (Contains c.args.awaited.now) (Contains c.loop-node.awaited) (Contains c.mark.new.awaited) c.args.nodes.now i 0 c.loop-node-test.true inv.all more.all;
      spent = more.spent ∙ inv.spent;
    }

pub returns-clause-marked : goal.returns-clause-marked
returns-clause-marked c = λ other.
    subst (λ xs. IsMarked c.loop-node.marks other ↔ (IsMarked c.args.marks.now other ⊎ Contains xs other))
    (taken_all c.args.nodes.now c.loop-node.node-index (omega arith) c.loop-node-test.false) (c.loop-node.invariant.marked other)

pub returns-clause-all : goal.returns-clause-all
returns-clause-all c = λ other.
    subst (λ xs. Contains c.loop-node.awaited other → Contains c.args.awaited.now other ⊎ Contains xs other)
    (taken_all c.args.nodes.now c.loop-node.node-index (omega arith) c.loop-node-test.false) (c.loop-node.invariant.all other)
