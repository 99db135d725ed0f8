use Rattle.std.proofs.Common.{◌≡◌, ℕ, List, [], get_or, Bor, Some, None, subst, refl}
use Rattle.std.specs.Prelude.{slice_get}
use Rattle.std.proofs.lemmas.Option.{slice_get-get_or}
use Rattle.cc_meaning.specs.declared.program.DexType.{DexType}
use Rattle.cc_meaning_program.specs.TypeNames.{Spells, IsTypeOf}
use Rattle.cc_meaning_program.proofs.SameNames.{found_contains}
use Rattle.cc_bodies.proofs.CodeLoops.{pairs_none, pairs_more, pairs_all}
use Rattle.cc_members.proofs.Spelling.{flipped}
use Rattle.cc_members.proofs.sources.Sources.spelled_types.Goals as goal

abbrev nothing : Bor (List ℕ)
nothing = record { ref_ptr = (0, 0); now = [] }

pub loop-text-init : goal.loop-text-init
loop-text-init c = rw c.new-types.ensures (pairs_none (λ (text : Bor (List ℕ)) (ty : DexType). Spells c.args.self.now.names.now ty text.now) c.args.texts.now)

pub unreachable-requires : goal.unreachable-requires
unreachable-requires c =
    let names = c.args.self.now.names.now in
    let texts = c.args.texts.now in
    let place = c.loop-text.text-index in
    let there : slice_get texts place ≡ Some (get_or texts place nothing) = slice_get-get_or texts place nothing c.loop-text-test.true in
    let (ty, spells) = c.requires.spelled (get_or texts place nothing).now (found_contains (λ (text : Bor (List ℕ)). text.now) texts (get_or texts place nothing).now place (get_or texts place nothing) there refl) in
    let gone : IsTypeOf names (get_or texts place nothing).now None = subst (IsTypeOf names (get_or texts place nothing).now) c.in-None.is c.in_ok-ty.ensures in
    gone ty spells

pub loop-text-preserved : goal.loop-text-preserved
loop-text-preserved c =
    let names = c.args.self.now.names.now in
    let texts = c.args.texts.now in
    let place = c.loop-text.text-index in
    let there : slice_get texts place ≡ Some (get_or texts place nothing) = slice_get-get_or texts place nothing c.loop-text-test.true in
    let spells : IsTypeOf names (get_or texts place nothing).now (Some c.in-Some.ty) = subst (IsTypeOf names (get_or texts place nothing).now) c.in-Some.is c.in_ok-ty.ensures in
    rw c.in_ok-push-in-Some.ensures.ok
    (pairs_more (λ (text : Bor (List ℕ)) (ty : DexType). Spells names ty text.now) texts place (get_or texts place nothing) c.loop-text.types c.in-Some.ty there spells c.loop-text.invariant)

pub returns : goal.returns
returns c =
    flipped (Spells c.args.self.now.names.now) (λ (text : Bor (List ℕ)). text.now) c.args.texts.now c.loop-text.types
    (pairs_all (λ (text : Bor (List ℕ)) (ty : DexType). Spells c.args.self.now.names.now ty text.now) c.args.texts.now c.loop-text.text-index c.loop-text.types c.loop-text-test.false c.loop-text.invariant)
