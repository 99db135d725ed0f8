use Rattle.std.proofs.Common.{rules}
use Rattle.std.proofs.lemmas.Fn.{always_returns_same}
use Rattle.cc_meaning_dex.specs.declared.items.Handler.{Handler}
use Rattle.cc_dexcode.proofs.Searches.{found, absent}
use Rattle.cc_dexcode.proofs.tries.find_catches.Goals as goal

pub returns-in-Ok : goal.returns-in-Ok
returns-in-Ok c =
    let position = c.in-Ok.ensures.position (λ (h : Handler). h.start) (always_returns_same _ _ _ (λ a r f' k. (search rules, search rules))) in
    let bound = c.in-Ok.ensures.bound in
    rw c.as_slice-handlers.ensures (found c.args.handlers.now c.args.start c.in-Ok.place c.index-handlers-place.result c.requires (rw c.as_slice-handlers.ensures at bound) (rw c.as_slice-handlers.ensures at position))

pub returns-in-Err : goal.returns-in-Err
returns-in-Err c =
    let position = c.in-Err.ensures.position (λ (h : Handler). h.start) (always_returns_same _ _ _ (λ a r f' k. (search rules, search rules))) in
    absent c.args.handlers.now c.args.start c.in-Err.field-0 c.requires (rw c.as_slice-handlers.ensures at position)
