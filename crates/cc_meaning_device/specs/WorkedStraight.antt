-- The worked examples again, straight down the instructions.
use Rattle.std.specs.Prelude.{◌≡◌, ◌==◌, true, false, List, [], ◌∷◌, Some}
use Rattle.cc_meaning.specs.declared.frame.Frame.{Frame}
use Rattle.cc_meaning.specs.declared.report.Ending.TheVariants as ending
use Rattle.cc_meaning.specs.declared.report.StopCause.TheVariants as cause
use Rattle.cc_meaning_plain.specs.Worked.{one_more, limits, report}
use Rattle.cc_meaning_device.specs.Received.{Offloaded}
use Rattle.cc_meaning_device.specs.Straight.{plain_course, offloaded_by}
use Rattle.cc_meaning_device.specs.Worked.{ready, back, false_back, refuse, stopped_back, second_back, later_ready, back_in_run, longer_back, stands, prints, one_more_twice}

abbrev pub straight : List Frame → Offloaded
straight frames = offloaded_by (limits 100 100) (plain_course one_more (λ m. m == 0) (limits 100 100) frames)

abbrev pub straight_in_three : List Frame → Offloaded
straight_in_three frames = offloaded_by (limits 3 100) (plain_course one_more (λ m. m == 0) (limits 3 100) frames)

abbrev pub straight_twice : List Frame → Offloaded
straight_twice frames = offloaded_by (limits 100 100) (plain_course one_more_twice (λ m. m == 0) (limits 100 100) frames)

pub record GoesStraight : Type 0 where
  pub right : straight (ready ∷ back ∷ []) ≡ prints 54 (stands true [] 1 false)
  pub wrong : straight (ready ∷ false_back ∷ []) ≡ prints 55 (stands true [] 1 false)
  pub nothing : straight [] ≡ prints 54 (stands false [] 0 true)
  pub ready_alone : straight (ready ∷ []) ≡ prints 54 (stands false (ready ∷ []) 0 true)
  pub refused : straight (refuse ∷ []) ≡ prints 54 (stands false (refuse ∷ []) 0 true)
  pub back_first : straight (back ∷ []) ≡ prints 54 (stands false (back ∷ []) 0 true)
  pub more : straight (ready ∷ back ∷ refuse ∷ []) ≡ prints 54 (stands true (refuse ∷ []) 1 false)
  pub version : straight (later_ready ∷ back ∷ []) ≡ prints 54 (stands false (later_ready ∷ back ∷ []) 0 true)
  pub kind : straight (ready ∷ back_in_run ∷ []) ≡ prints 54 (stands false (ready ∷ back_in_run ∷ []) 0 true)
  pub longer : straight (ready ∷ longer_back ∷ []) ≡ prints 54 (stands false (ready ∷ longer_back ∷ []) 0 true)
  pub stops_here : (straight_in_three []).report ≡ Some (report [] (ending.Stopped cause.Budget) 3 2)
  pub stops_there : (straight_in_three (ready ∷ stopped_back ∷ [])).report ≡ Some (report [] (ending.Stopped cause.Budget) 3 2)
  pub stop_merged : (straight_in_three (ready ∷ stopped_back ∷ [])).received.merged ≡ 1
  pub given_back : (straight_in_three (ready ∷ back ∷ [])).received.fallen ≡ true
  pub both : (straight_twice (ready ∷ back ∷ second_back ∷ [])).report ≡ Some (report (55 ∷ 10 ∷ []) ending.Returned 12 6)
  pub both_merged : (straight_twice (ready ∷ back ∷ second_back ∷ [])).received.merged ≡ 2
  pub first_merged : (straight_twice (ready ∷ back ∷ [])).received.merged ≡ 1
