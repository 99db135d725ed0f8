use Rattle.std.proofs.Common.{inl, inr, [], ◌∷◌, ◌≡◌, true, get_or, subst, sym, ap, ◌∙◌, arith}
use Rattle.std.specs.Prelude.{Contains, cond}
use Rattle.std.proofs.lemmas.List.Elements.{Contains-get_or}
use Rattle.cc_meaning_program.specs.Ancestry.{kind_of_class}
use Rattle.cc_meaning_program.specs.Owners.{inherits}
use Rattle.cc_owners.proofs.Inheriting.{looked_held, matched, numbers_looked, none_inherited, none_listing, first_inherited, inherits_not, inherits_built_in, inherits_array}
use Rattle.cc_owners.proofs.Lists.{some_is, number_at}
use Rattle.cc_owners.proofs.beyond.first_listing.Goals as goal

pub at-requires : goal.at-requires
at-requires c =
    let within = c.requires.classes (get_or c.args.classes.now 0 0) (Contains-get_or c.args.classes.now 0 0 c.requires.some) in
    omega (arith, within, c.requires.known.outlines.all)

pub first_listed-requires-clause-classes : goal.first_listed-requires-clause-classes
first_listed-requires-clause-classes c = λ class held.
    c.requires.classes class (looked_held c.is_constructor.result c.args.classes.now class (subst (λ l. Contains l class) c.looked_at.ensures held))

pub returns-in-BuiltIn : goal.returns-in-BuiltIn
returns-in-BuiltIn c = λ beyond above are ancestry.
    let linked = c.args.linked.now in
    let at = number_at linked.names.now (beyond ∷ above) c.args.classes.now 0 0 are c.requires.some in
    let same = some_is beyond at.0 at.1 in
    let kind = (c.requires.known.outlines.each (get_or c.args.classes.now 0 0) at.0 c.at.result.now at.2 c.at.ensures.get).kind in
    let inherited : inherits (kind_of_class linked.ids.now beyond) ≡ true =
    ap (λ n. inherits (kind_of_class linked.ids.now n)) same ∙ (ap inherits (sym kind) ∙ elim c.in-BuiltIn.is [ inl e ↦ ap inherits e ∙ inherits_built_in | inr e ↦ ap inherits e ∙ inherits_array ]) in
    matched c.first_listed.result (λ none. none_listing linked beyond c.args.member.now above c.is_constructor.result c.is_constructor.ensures ancestry none)
    (λ found listed. first_inherited linked beyond c.args.member.now above c.is_constructor.result found c.is_constructor.ensures inherited listed)
    (c.first_listed.ensures (cond c.is_constructor.result (beyond ∷ []) (beyond ∷ above)) (numbers_looked linked beyond c.args.member.now above c.is_constructor.result c.args.classes.now c.looked_at.result.now c.looked_at.ensures are))

pub returns-in_default : goal.returns-in_default
returns-in_default c = λ beyond above are ancestry.
    let linked = c.args.linked.now in
    let at = number_at linked.names.now (beyond ∷ above) c.args.classes.now 0 0 are c.requires.some in
    let same = some_is beyond at.0 at.1 in
    let kind = (c.requires.known.outlines.each (get_or c.args.classes.now 0 0) at.0 c.at.result.now at.2 c.at.ensures.get).kind in
    none_inherited linked beyond c.args.member.now above
    (ap (λ n. inherits (kind_of_class linked.ids.now n)) same ∙ (ap inherits (sym kind) ∙ inherits_not c.at.result.now.kind c.in_default.not-BuiltIn c.in_default.not-Array))
