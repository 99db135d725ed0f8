use Rattle.cc_meaning_device.proofs.WorkedAnswers.{judges_answers}
use Rattle.cc_meaning_device.proofs.worked_answers.Goals as goal

pub returns : goal.returns
returns c = judges_answers c.law_run_is_spelled.ensures c.worked_images.ensures.entry c.worked_images.ensures.end
