use Rattle.std.proofs.Common.{rules}
use Rattle.std.proofs.lemmas.Cmp.{nat_list_cmp_total}
use Rattle.std.proofs.lemmas.List.Sorted.{ranks_by, answers_always}
use Rattle.cc_meaning_plain.specs.Plain.{name_of}
use Rattle.cc_plain.proofs.FunctionLemmas.{by_name, sorted_rises}
use Rattle.cc_plain.proofs.functions.in_order.Goals as goal

pub returns-then-not-is_rising : goal.returns-then-not-is_rising
returns-then-not-is_rising c = λ all other rise.
    let sorted = c.sort_by.new.self.items in
    let moved = rw c.into_vec-functions.ensures at c.in_ok-sort_by.ensures.permutation in
    let up = c.in_ok-sort_by.ensures.sorted by_name (ranks_by nat_list_cmp_total name_of) (answers_always _ _ _ (λ f a r f' k. search rules)) in
    let rises = sorted_rises c.args.functions sorted all moved up other rise in
    let is = c.is_rising.ensures.1 (rw c.as_slice.ensures.value rises) in
    absurd cc
