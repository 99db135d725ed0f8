use Rattle.std.proofs.Common.{◌∙◌, sym, rules, ap, Err, Result}
use Rattle.cc_meaning.specs.declared.image.BackImage.{BackImage}
use Rattle.cc_meaning.specs.declared.travel.LinkEnd.{LinkEnd}
use Rattle.cc_meaning_images.specs.Reading.{read_back}
use Rattle.cc_meaning_plain.specs.Program.{program_of}
use Rattle.cc_device.proofs.Judged.{judged_other, judged_ok, judged_err}
use Rattle.cc_device.proofs.contact.judge_back.Goals as goal

as_err : LinkEnd → Result BackImage LinkEnd
as_err e = Err e

pub returns-then-frame-ne-BACK : goal.returns-then-frame-ne-BACK
unfolding as_err
returns-then-frame-ne-BACK c = judged_other (program_of c.args.plain.now) c.args.run.now c.args.frame.now (search rules) ∙ ap as_err (sym c.wrong_frame.ensures)

pub returns-in-Ok : goal.returns-in-Ok
returns-in-Ok c =
    judged_ok (program_of c.args.plain.now) c.args.run.now c.args.frame.now c.in-Ok.back (search rules) (ap (read_back (program_of c.args.plain.now) c.args.run.now) (sym c.as_slice.ensures) ∙ c.in-Ok.ensures)

pub returns-in-Err : goal.returns-in-Err
returns-in-Err c =
    judged_err (program_of c.args.plain.now) c.args.run.now c.args.frame.now c.in-Err.fault (search rules) (ap (read_back (program_of c.args.plain.now) c.args.run.now) (sym c.as_slice.ensures) ∙ (search rules))
