use Rattle.std.proofs.Common.{◌≡◌, take, ◌∙◌}
use Rattle.cc_meaning_insn.specs.Forms.{of_listed, five_halves, high_half, low_half, listed_units}
use Rattle.cc_insn.proofs.lists.listed_units.Goals as goal

pub returns : goal.returns
unfolding listed_units
returns c =
    let list : c.in_ok-args.args ≡ take (high_half c.args.high) (five_halves c.args.third (low_half c.args.high)) =
    c.in_ok-args.ensures ∙ (λ i. take (c.from-2.ensures i) (five_halves c.args.third (c.from.ensures i))) in
    c.of_listed.ensures ∙ (λ i. of_listed c.args.form (c.from-3.ensures i) (list i))
