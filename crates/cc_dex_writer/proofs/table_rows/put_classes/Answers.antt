use Rattle.std.proofs.Common.{◌++◌, arith}
use Rattle.cc_dex_writer.specs.Rows.{numbered_form, class_row_form}
use Rattle.cc_dex_writer.proofs.Numbered.{writes_more, writes_all}
use Rattle.cc_dex_writer.proofs.HeadWidths.{wide_more, wide_all}
use Rattle.cc_dex_writer.proofs.table_rows.put_classes.Goals as goal

pub loop-place-preserved : goal.loop-place-preserved
loop-place-preserved c =
    let classes = c.args.classes.now in
    let class = c.index-classes-place.result in (
      writes_more (class_row_form c.args.offsets.now) c.loop-place.out c.put_class.new.out classes c.loop-place.place class
          (c.args.out.now ++ numbered_form (class_row_form c.args.offsets.now) 0 classes) c.loop-place-test.true c.index-classes-place.is c.in_ok-put_class.ensures.added c.loop-place.invariant.0,
      wide_more classes c.loop-place.place class c.loop-place-test.true c.index-classes-place.is c.put_class.ensures.wide c.loop-place.invariant.1,
    )

pub returns-clause-added : goal.returns-clause-added
returns-clause-added c =
    writes_all (class_row_form c.args.offsets.now) c.loop-place.out c.args.classes.now c.loop-place.place
    (c.args.out.now ++ numbered_form (class_row_form c.args.offsets.now) 0 c.args.classes.now) (omega (arith, c.loop-place-test.false)) c.loop-place.invariant.0

pub returns-clause-wide : goal.returns-clause-wide
returns-clause-wide c = wide_all c.args.classes.now c.loop-place.place (omega (arith, c.loop-place-test.false)) c.loop-place.invariant.1
