use Rattle.std.proofs.Common.{◌≡◌, ◌∙◌, sym, rules, is_some, Some, refl}
use Rattle.cc_device.specs.Travelling.{stops_in}
use Rattle.cc_device.proofs.Calls.{own_kept, own_stood, any_home, moved_by, none_moved, stop_is, still_reaching}
use Rattle.cc_device.proofs.Pauses.{if_ok}
use Rattle.cc_device.proofs.device.do_call.Goals as goal

pub call_moved-requires-clause-function : goal.call_moved-requires-clause-function
call_moved-requires-clause-function g c =
    let stops : stops_in (is_some c.args.contact.now.end) c.args.moved ≡ Some c.args.entry.function = stop_is (stops_in (is_some c.args.contact.now.end) c.args.moved) c.args.entry.function (sym c.is_moved.ensures ∙ c.if-is_moved.true) in
    c.requires.moved c.args.entry.function (moved_by (is_some c.args.contact.now.end) c.args.moved c.args.entry.function stops).0

pub call_moved-requires-clause-reaching : goal.call_moved-requires-clause-reaching
call_moved-requires-clause-reaching g c =
    let stops : stops_in (is_some c.args.contact.now.end) c.args.moved ≡ Some c.args.entry.function = stop_is (stops_in (is_some c.args.contact.now.end) c.args.moved) c.args.entry.function (sym c.is_moved.ensures ∙ c.if-is_moved.true) in
    still_reaching c.args.contact.now.end (moved_by (is_some c.args.contact.now.end) c.args.moved c.args.entry.function stops).1

pub returns-then-is_moved-clause-stands : goal.returns-then-is_moved-clause-stands
returns-then-is_moved-clause-stands g c =
    let stops : stops_in (is_some c.args.contact.now.end) c.args.moved ≡ Some c.args.entry.function = stop_is (stops_in (is_some c.args.contact.now.end) c.args.moved) c.args.entry.function (sym c.is_moved.ensures ∙ c.if-is_moved.true) in
    let is = (moved_by (is_some c.args.contact.now.end) c.args.moved c.args.entry.function stops).0 in
    if_ok c.call_moved.result _ _ (λ came stands start. stands start c.args.moved is) c.call_moved.ensures.stands

pub returns-then-is_moved-clause-done : goal.returns-then-is_moved-clause-done
returns-then-is_moved-clause-done g c =
    if_ok c.call_moved.result _ _ (λ came done. any_home c.args.machine.now c.args.contact.now _ came c.call_moved.new.contact done) c.call_moved.ensures.done

pub returns-clause-stands : goal.returns-clause-stands
returns-clause-stands g c =
    λ start.
    own_stood c.goes_on.ensures c.nothing_more.ensures c.begins_with_whole.ensures c.args.plain.now c.args.moved c.args.job.now c.args.entry c.args.machine.now c.args.contact.now _ _ _ _ _ _ c.in_ok-came.came (sym c.is_moved.ensures ∙ c.if-is_moved.false) (search rules)

pub returns-clause-done : goal.returns-clause-done
returns-clause-done g c =
    own_kept c.args.plain.now c.args.entry c.args.machine.now c.args.contact.now _ c.in_ok-came.came (refl, refl) (search rules)

pub returns-then-is_moved-clause-unmoved : goal.returns-then-is_moved-clause-unmoved
returns-then-is_moved-clause-unmoved g c =
    λ none.
    let stops : stops_in (is_some c.args.contact.now.end) c.args.moved ≡ Some c.args.entry.function = stop_is (stops_in (is_some c.args.contact.now.end) c.args.moved) c.args.entry.function (sym c.is_moved.ensures ∙ c.if-is_moved.true) in
    none_moved c.args.moved c.args.entry.function none (moved_by (is_some c.args.contact.now.end) c.args.moved c.args.entry.function stops).0
