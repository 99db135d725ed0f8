use Rattle.std.proofs.Common.{refl, ap, sym, subst, ◌∙◌}
use Rattle.cc_meaning.specs.BuiltIn.{is_built_in}
use Rattle.cc_meaning_program.specs.Definitions.{Defines}
use Rattle.cc_hierarchy.specs.Indexes.{IsFirstOf}
use Rattle.cc_hierarchy.proofs.Duplicating.{taken_by_built_in, taken_iff, not_taken}
use Rattle.cc_hierarchy.proofs.duplicates.is_taken_name.Goals as goal

pub returns-then-is_built_in : goal.returns-then-is_built_in
returns-then-is_built_in c =
    let holds = ap is_built_in (sym c.defined_name-name.ensures) ∙ sym c.is_built_in.ensures ∙ c.if-is_built_in.true in
    (λ e. taken_by_built_in c.args.ids.now c.args.number c.requires.number holds, λ taken. refl)

pub returns-in-Some : goal.returns-in-Some
returns-in-Some c =
    let plain = ap is_built_in (sym c.defined_name-name.ensures) ∙ sym c.is_built_in.ensures ∙ c.if-is_built_in.false in
    taken_iff c.args.ids.now c.args.number c.requires.number c.in-Some.first (subst (λ n. IsFirstOf c.args.ids.now n c.in-Some.first) c.defined_name-name.ensures c.in-Some.ensures) plain

pub returns-in-None : goal.returns-in-None
returns-in-None c =
    let plain = ap is_built_in (sym c.defined_name-name.ensures) ∙ sym c.is_built_in.ensures ∙ c.if-is_built_in.false in (
      λ no. absurd cc,
      λ taken. absurd (not_taken c.args.ids.now c.args.number c.requires.number plain (λ earlier less d. c.in-None.ensures earlier (subst (λ n. Defines c.args.ids.now earlier n) (sym c.defined_name-name.ensures) d)) taken),
    )
