use Rattle.std.proofs.Common.{ℕ, ◌+◌, ◌++◌, false, List, drop, refl, sym, ap, ◌∙◌, slice_index_or}
use Rattle.cc_meaning_builder.specs.Forms.{methods_form, uleb_form}
use Rattle.cc_meaning_dex.specs.declared.items.StatedMethod.{StatedMethod}
use Rattle.cc_items.specs.Listed.{methods_of}
use Rattle.cc_items.proofs.Chosen.{chosen_in, chosen_out, chosen_end}
use Rattle.cc_items.proofs.Lists.{methods_more, methods_end}
use Rattle.cc_items.proofs.members.put_methods.Goals as goal
use Rattle.cc_items.proofs.members.put_methods.Goals.{then-method-is_direct+in_ok-put_uleb+in_ok-put_uleb-2+in_ok-put_uleb-3, else-method-is_direct}

none : StatedMethod
none = record { row = 0; flags = 0; is_direct = false; code_at = 0 }

pub loop-method-preserved : goal.loop-method-preserved
unfolding none
loop-method-preserved c =
    let methods = c.args.methods.now in
    let i = c.loop-method.method-index in
    let method = slice_index_or methods i none in
    let rest = methods_of c.args.is_direct (drop (i + 1) methods) in
    let whole = c.args.out.now ++ methods_form 0 (methods_of c.args.is_direct methods) in
    elim c.if-method-is_direct.branch [
      | then-method-is_direct+in_ok-put_uleb+in_ok-put_uleb-2+in_ok-put_uleb-3 w ↦
          rw (w.out-is, w.before-is) (methods_more c.loop-method.out w.put_uleb.new.out w.put_uleb-then-method-is_direct.new.out w.put_uleb-then-method-is_direct-2.new.out c.loop-method.before method
          (methods_of c.args.is_direct (drop i methods)) rest whole
          (chosen_in (λ (m : StatedMethod). m.is_direct) c.args.is_direct methods i method none c.loop-method-test.true refl w.if-method-is_direct.true)
          (w.in_ok-put_uleb.ensures ∙ ap (λ (n : ℕ). c.loop-method.out ++ uleb_form n) w.saturating_sub.ensures) w.in_ok-put_uleb-2.ensures w.in_ok-put_uleb-3.ensures c.loop-method.invariant)
      | else-method-is_direct w ↦
          rw (w.out-is, w.before-is) (ap (λ (ms : List StatedMethod). c.loop-method.out ++ methods_form c.loop-method.before ms)
          (sym (chosen_out (λ (m : StatedMethod). m.is_direct) c.args.is_direct methods i method none c.loop-method-test.true refl w.if-method-is_direct.false)) ∙ c.loop-method.invariant)
    ]

pub returns : goal.returns
returns c =
    methods_end c.loop-method.out c.loop-method.before (methods_of c.args.is_direct (drop c.loop-method.method-index c.args.methods.now))
    (c.args.out.now ++ methods_form 0 (methods_of c.args.is_direct c.args.methods.now))
    (chosen_end (λ (m : StatedMethod). m.is_direct) c.args.is_direct c.args.methods.now c.loop-method.method-index c.loop-method-test.false) c.loop-method.invariant
