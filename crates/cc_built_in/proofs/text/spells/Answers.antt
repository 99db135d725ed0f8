use Rattle.std.proofs.Common.{rules, ◌≡◌, refl, ap, ◌∙◌}
use Rattle.std.specs.Prelude.{map}
use Rattle.std.specs.Str.{bytes_eq}
use Rattle.std.specs.Cmp.Lexicographic.{slice_cmp}
use Rattle.std.specs.Ordering.{nat_cmp, is_eq}
use Rattle.std.proofs.lemmas.Iterator.{YieldsList-from_slice, YieldsList-from_map}
use Rattle.std.proofs.lemmas.Iterator.Consumers.{YieldsList-at, YieldsList-from_copied}
use Rattle.std.proofs.lemmas.Iterator.Search.{cmp_from_yields_List}
use Rattle.std.proofs.lemmas.Map.Text.{is_eq-slice_cmp}
use Rattle.std.proofs.lemmas.List.{map-id}
use Rattle.cc_built_in.proofs.text.spells.Goals as goal

pub returns : goal.returns
returns c =
    let compared : c.cmp.result ≡ slice_cmp nat_cmp (map (λ byte. byte) c.args.text.now) c.args.name.now =
    cmp_from_yields_List (λ x y. y ≡ x) c.copied.result nat_cmp c.cmp.result c.cmp.ensures.ran
    (YieldsList-from_map _ (λ byte. byte) (YieldsList-at c.map.ensures.source (YieldsList-from_slice c.args.text.now cc)) c.map.ensures.closure (λ x r q k. (search rules, search rules)))
    (λ it e. YieldsList-at e (YieldsList-from_copied (YieldsList-at c.copied.ensures.source (YieldsList-from_slice c.args.name.now cc))))
    (λ x y. refl) in
    c.is_eq.ensures ∙ ap is_eq compared ∙ is_eq-slice_cmp (map (λ byte. byte) c.args.text.now) c.args.name.now ∙ ap (λ t. bytes_eq t c.args.name.now) (map-id c.args.text.now)
