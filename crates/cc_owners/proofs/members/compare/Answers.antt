use Rattle.std.proofs.Common.{rules, ◌≡◌, refl}
use Rattle.std.specs.Ordering.{nat_cmp}
use Rattle.std.proofs.lemmas.Iterator.{YieldsList-from_slice}
use Rattle.std.proofs.lemmas.Iterator.Adapters.{YieldsList-from_flat_map}
use Rattle.std.proofs.lemmas.Iterator.Consumers.{YieldsList-at, YieldsList-from_chain}
use Rattle.std.proofs.lemmas.Iterator.Search.{cmp_from_yields_List}
use Rattle.cc_meaning_program.specs.Named.{type_name}
use Rattle.cc_owners.specs.Members.{spelled}
use Rattle.cc_owners.proofs.members.compare.Goals as goal

pub returns : goal.returns
unfolding spelled
returns c =
    cmp_from_yields_List (λ x y. y ≡ x) _ nat_cmp _ c.cmp.ensures.ran
    (YieldsList-from_chain
    (YieldsList-at c.chain-4.ensures.first (YieldsList-from_chain
    (YieldsList-at c.chain-3.ensures.first (YieldsList-from_chain
    (YieldsList-at c.chain-2.ensures.first (YieldsList-from_chain
    (YieldsList-at c.chain.ensures.first (YieldsList-from_slice c.args.a.name.now cc))
    (YieldsList-at c.chain.ensures.second (YieldsList-from_slice c.args.a.opening.now cc)) c.chain.ensures.first_done c.chain.ensures.second_done))
    (YieldsList-at c.chain-2.ensures.second (YieldsList-from_flat_map _ (λ x y. y ≡ x) _ (λ y. y.now) (type_name c.args.ids.now) _
    (λ x u q k. (search rules, λ j e. YieldsList-from_slice (type_name c.args.ids.now x.now) (search rules)))
    (YieldsList-at c.flat_map.ensures.source (YieldsList-from_slice c.args.a.params.now cc))
    c.flat_map.ensures.closure c.flat_map.ensures.front c.flat_map.ensures.back c.flat_map.ensures.done))
    c.chain-2.ensures.first_done c.chain-2.ensures.second_done))
    (YieldsList-at c.chain-3.ensures.second (YieldsList-from_slice c.args.a.closing.now cc)) c.chain-3.ensures.first_done c.chain-3.ensures.second_done))
    (YieldsList-at c.chain-4.ensures.second (YieldsList-from_slice c.args.a.last.now cc)) c.chain-4.ensures.first_done c.chain-4.ensures.second_done)
    (λ it e. YieldsList-at e (YieldsList-from_chain
    (YieldsList-at c.chain-8.ensures.first (YieldsList-from_chain
    (YieldsList-at c.chain-7.ensures.first (YieldsList-from_chain
    (YieldsList-at c.chain-6.ensures.first (YieldsList-from_chain
    (YieldsList-at c.chain-5.ensures.first (YieldsList-from_slice c.args.b.name.now cc))
    (YieldsList-at c.chain-5.ensures.second (YieldsList-from_slice c.args.b.opening.now cc)) c.chain-5.ensures.first_done c.chain-5.ensures.second_done))
    (YieldsList-at c.chain-6.ensures.second (YieldsList-from_flat_map _ (λ x y. y ≡ x) _ (λ y. y.now) (type_name c.args.ids.now) _
    (λ x u q k. (search rules, λ j e. YieldsList-from_slice (type_name c.args.ids.now x.now) (search rules)))
    (YieldsList-at c.flat_map-2.ensures.source (YieldsList-from_slice c.args.b.params.now cc))
    c.flat_map-2.ensures.closure c.flat_map-2.ensures.front c.flat_map-2.ensures.back c.flat_map-2.ensures.done))
    c.chain-6.ensures.first_done c.chain-6.ensures.second_done))
    (YieldsList-at c.chain-7.ensures.second (YieldsList-from_slice c.args.b.closing.now cc)) c.chain-7.ensures.first_done c.chain-7.ensures.second_done))
    (YieldsList-at c.chain-8.ensures.second (YieldsList-from_slice c.args.b.last.now cc)) c.chain-8.ensures.first_done c.chain-8.ensures.second_done))
    (λ x y. refl)
