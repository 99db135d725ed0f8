use Rattle.std.proofs.Common.{ℕ, Bool, nat_le, nat_lt, ◌&&◌, sym, ap, ◌∙◌, rules, tests}
use Rattle.std.specs.Option.{option_map}
use Rattle.std.proofs.lemmas.Iterator.{YieldsList-from_slice}
use Rattle.std.proofs.lemmas.Iterator.Search.{find_from_yields_List}
use Rattle.cc_meaning.specs.declared.program.Try.{Try}
use Rattle.cc_meaning_typing.specs.Code.{catches_of, catches_at}
use Rattle.cc_transfer.proofs.branches.catches_at.Goals as goal

covers : ℕ → Try → Bool
covers at try = nat_le try.start at && nat_lt at try.end

pub returns-in-Some : goal.returns-in-Some
unfolding catches_at catches_of covers
returns-in-Some c =
    let found = find_from_yields_List (covers c.args.at) _ _ c.find.result c.find.ensures.ran (YieldsList-from_slice c.args.code.now.tries cc) (λ x b q k. search (rules, tests)) in
    c.as_slice-in-Some.ensures ∙ ap catches_of (sym (ap (option_map (λ x. x.now)) c.in-Some.is) ∙ found)

pub returns-in-None : goal.returns-in-None
unfolding catches_at catches_of covers
returns-in-None c =
    let found = find_from_yields_List (covers c.args.at) _ _ c.find.result c.find.ensures.ran (YieldsList-from_slice c.args.code.now.tries cc) (λ x b q k. search (rules, tests)) in
    ap catches_of (sym (ap (option_map (λ x. x.now)) c.in-None.is) ∙ found)
