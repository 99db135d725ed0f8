use Rattle.std.proofs.Common.{ap, ◌≡◌, arith, cond, Bool, length, slice_index_or, None, false, []}
use Rattle.cc_built_in.specs.declared.table.ListedClass.{ListedClass}
use Rattle.cc_wire.proofs.Counts.{methods_more, methods_end}
use Rattle.cc_wire.proofs.numbers.count_before.Goals as goal
use Rattle.cc_wire.proofs.numbers.count_before.Goals.{then-is_before, else-is_before}

-- the class that is read where there is none
abbrev no_class : ListedClass
no_class = record { name = record { ref_ptr = (0, 0); now = [] }; superclass = None; is_throwable = false; methods = record { ref_ptr = (0, 0); now = [] } }

pub loop-class-init : goal.loop-class-init
loop-class-init c = omega arith

pub overflow_add-count : goal.overflow_add-count
overflow_add-count c =
    let more = methods_more c.args.classes.now c.args.name.now c.loop-class.class-index no_class c.loop-class-test.true in
    let count = length (slice_index_or c.args.classes.now c.loop-class.class-index no_class).methods.now in
    let here : cond c.is_before.result count 0 ≡ count = ap (λ (b : Bool). cond b count 0) c.if-is_before.true in
    let same = ap (λ (b : Bool). cond b count 0) c.is_before.ensures in
    omega (arith, more, here, same, c.loop-class.invariant, c.requires)

pub loop-class-preserved : goal.loop-class-preserved
loop-class-preserved c =
    let more = methods_more c.args.classes.now c.args.name.now c.loop-class.class-index no_class c.loop-class-test.true in
    let count = length (slice_index_or c.args.classes.now c.loop-class.class-index no_class).methods.now in
    let same = ap (λ (b : Bool). cond b count 0) c.is_before.ensures in
    elim c.if-is_before.branch [
      | then-is_before w ↦ let here : cond c.is_before.result count 0 ≡ count = ap (λ (b : Bool). cond b count 0) w.if-is_before.true in omega (arith, more, here, same, c.loop-class.invariant, w.count-is)
      | else-is_before w ↦ let here : cond c.is_before.result count 0 ≡ 0 = ap (λ (b : Bool). cond b count 0) w.if-is_before.false in omega (arith, more, here, same, c.loop-class.invariant, w.count-is)
    ]

pub returns : goal.returns
returns c =
    let end = methods_end c.args.classes.now c.args.name.now c.loop-class.class-index c.loop-class-test.false in
    omega (arith, end, c.loop-class.invariant)
