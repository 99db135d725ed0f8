use Rattle.std.proofs.Common.{◌==◌, sym, ◌∙◌}
use Rattle.cc_meaning.specs.declared.program.Placed.{Placed}
use Rattle.cc_meaning_typing.specs.Code.{placed_at}
use Rattle.cc_transfer.proofs.Places.{find_at_place, find_nowhere}
use Rattle.cc_transfer.proofs.addresses.placed_at.Goals as goal

pub returns-in-Some : goal.returns-in-Some
unfolding placed_at
returns-in-Some c = c.get.ensures.value ∙ sym (find_at_place (λ (placed : Placed). placed.at == c.args.at) c.args.code.now.insns c.in-Some.place (sym c.place_at.ensures ∙ c.in-Some.is))

pub returns-in-None : goal.returns-in-None
unfolding placed_at
returns-in-None c = sym (find_nowhere (λ (placed : Placed). placed.at == c.args.at) c.args.code.now.insns (sym c.place_at.ensures ∙ c.in-None.is))
