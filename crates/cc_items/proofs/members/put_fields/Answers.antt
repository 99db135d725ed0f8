use Rattle.std.proofs.Common.{ℕ, ◌+◌, ◌++◌, false, List, drop, refl, sym, ap, ◌∙◌, slice_index_or}
use Rattle.cc_meaning_builder.specs.Forms.{fields_form, uleb_form}
use Rattle.cc_meaning.specs.declared.file.RawField.{RawField}
use Rattle.cc_items.specs.Listed.{fields_of}
use Rattle.cc_items.proofs.Chosen.{chosen_in, chosen_out, chosen_end}
use Rattle.cc_items.proofs.Lists.{fields_more, fields_end}
use Rattle.cc_items.proofs.members.put_fields.Goals as goal
use Rattle.cc_items.proofs.members.put_fields.Goals.{then-field-is_static+in_ok-put_uleb+in_ok-put_uleb-2, else-field-is_static}

none : RawField
none = record { row = 0; flags = 0; is_static = false }

pub loop-field-preserved : goal.loop-field-preserved
unfolding none
loop-field-preserved c =
    let fields = c.args.fields.now in
    let i = c.loop-field.field-index in
    let field = slice_index_or fields i none in
    let rest = fields_of c.args.is_static (drop (i + 1) fields) in
    let whole = c.args.out.now ++ fields_form 0 (fields_of c.args.is_static fields) in
    elim c.if-field-is_static.branch [
      | then-field-is_static+in_ok-put_uleb+in_ok-put_uleb-2 w ↦
          rw (w.out-is, w.before-is) (fields_more c.loop-field.out w.put_uleb.new.out w.put_uleb-then-field-is_static.new.out c.loop-field.before field (fields_of c.args.is_static (drop i fields)) rest whole
          (chosen_in (λ (f : RawField). f.is_static) c.args.is_static fields i field none c.loop-field-test.true refl w.if-field-is_static.true)
          (w.in_ok-put_uleb.ensures ∙ ap (λ (n : ℕ). c.loop-field.out ++ uleb_form n) w.saturating_sub.ensures) w.in_ok-put_uleb-2.ensures c.loop-field.invariant)
      | else-field-is_static w ↦
          rw (w.out-is, w.before-is) (ap (λ (fs : List RawField). c.loop-field.out ++ fields_form c.loop-field.before fs)
          (sym (chosen_out (λ (f : RawField). f.is_static) c.args.is_static fields i field none c.loop-field-test.true refl w.if-field-is_static.false)) ∙ c.loop-field.invariant)
    ]

pub returns : goal.returns
returns c =
    fields_end c.loop-field.out c.loop-field.before (fields_of c.args.is_static (drop c.loop-field.field-index c.args.fields.now))
    (c.args.out.now ++ fields_form 0 (fields_of c.args.is_static c.args.fields.now))
    (chosen_end (λ (field : RawField). field.is_static) c.args.is_static c.args.fields.now c.loop-field.field-index c.loop-field-test.false) c.loop-field.invariant
