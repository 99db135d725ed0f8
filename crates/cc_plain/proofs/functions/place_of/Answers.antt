use Rattle.std.proofs.Common.{rules}
use Rattle.std.specs.Ordering.{nat_cmp}
use Rattle.std.specs.Cmp.Lexicographic.{slice_cmp}
use Rattle.std.proofs.lemmas.Fn.{always_returns_same}
use Rattle.cc_meaning_plain.specs.declared.plain.PlainFunction.{PlainFunction}
use Rattle.cc_plain.proofs.FunctionLemmas.{place_is}
use Rattle.cc_plain.proofs.functions.place_of.Goals as goal

pub returns : goal.returns
returns c =
    let found = c.binary_search_by.ensures.position (λ (f : PlainFunction). slice_cmp nat_cmp f.name c.args.name.now) (always_returns_same _ _ _ (λ a r f' k. (search rules, search rules))) in
    place_is c.args.functions.now c.args.name.now c.binary_search_by.result c.ok.result c.requires c.binary_search_by.ensures.bound found c.ok.ensures.value
