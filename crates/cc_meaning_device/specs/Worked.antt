-- A worked example: main hands 5 to a moved function that adds 1, and prints what it gives.
use Rattle.std.specs.Prelude.{◌≡◌, ℕ, ◌==◌, pos, Bool, true, false, List, [], ◌∷◌, ◌++◌, length, Some}
use Rattle.cc_meaning.specs.declared.frame.Frame.{Frame}
use Rattle.cc_meaning.specs.declared.report.Ending.TheVariants as ending
use Rattle.cc_meaning.specs.declared.report.StopCause.TheVariants as cause
use Rattle.cc_meaning_plain.specs.declared.plain.PlainInsn.TheVariants.{SgetOut, Const4, CallFunction, InvokePrintln}
use Rattle.cc_meaning_plain.specs.declared.plain.Last.TheVariants.{ReturnVoid}
use Rattle.cc_meaning_plain.specs.declared.plain.Plain.{Plain}
use Rattle.cc_meaning_plain.specs.Program.{program_of, setting_of}
use Rattle.cc_meaning_plain.specs.Worked.{one_more, limits, report}
use Rattle.cc_meaning_clone.specs.Served.{out_order}
use Rattle.cc_meaning_clone.specs.Worked.{entry, end_bytes}
use Rattle.cc_meaning_device.specs.Received.{Device, Received, Offloaded, offloaded}

-- the function is moved; the state has no object but `System.out`
abbrev pub device : Device
device = record { program = program_of one_more; moves = λ m. m == 0; order = λ w args. out_order }

abbrev pub over : List Frame → Offloaded
over frames = offloaded device (setting_of one_more) [] (limits 100 100) frames

abbrev pub ready : Frame
ready = record { kind = 2; payload = 1 ∷ [] }

abbrev pub back : Frame
back = record { kind = 4; payload = end_bytes }

-- the same with 7 in the place of 6
abbrev pub false_back : Frame
false_back = record {
  kind = 4;
  payload = 0 ∷ 0 ∷ 0 ∷ 0 ∷ 7 ∷ 0 ∷ 0 ∷ 0 ∷ 0 ∷ 0 ∷ 0 ∷ 0 ∷ 96 ∷ 0 ∷ 0 ∷ 0 ∷ 98 ∷ 2
      ∷ 0 ∷ 0 ∷ 0 ∷ 0 ∷ 0 ∷ 0 ∷ 0 ∷ 0 ∷ 0 ∷ 0 ∷ 0 ∷ 0 ∷ [];
}

abbrev pub refuse : Frame
refuse = record { kind = 5; payload = 70 ∷ [] }

-- one image is noted, and so many Backs are merged
abbrev pub stands : Bool → List Frame → ℕ → Bool → Received
stands opened frames merged fallen = record { opened = opened; frames = frames; images = entry ∷ []; merged = merged; fallen = fallen }

-- 6 or 7 is printed, in eight instructions and six words
abbrev pub prints : ℕ → Received → Offloaded
prints digit received = record { report = Some (report (digit ∷ 10 ∷ []) ending.Returned 8 6); received = received }

-- where the Back is right or wrong, nothing comes, the Back is missing, the clone refuses, or a Back comes first
pub record FollowsTheFrames : Type 0 where
  pub right : over (ready ∷ back ∷ []) ≡ prints 54 (stands true [] 1 false)
  pub wrong : over (ready ∷ false_back ∷ []) ≡ prints 55 (stands true [] 1 false)
  pub nothing : over [] ≡ prints 54 (stands false [] 0 true)
  pub ready_alone : over (ready ∷ []) ≡ prints 54 (stands false (ready ∷ []) 0 true)
  pub refused : over (refuse ∷ []) ≡ prints 54 (stands false (refuse ∷ []) 0 true)
  pub back_first : over (back ∷ []) ≡ prints 54 (stands false (back ∷ []) 0 true)
  pub more : over (ready ∷ back ∷ refuse ∷ []) ≡ prints 54 (stands true (refuse ∷ []) 1 false)

-- a Ready of another version, the payload of a Back in a frame of another kind, and a Back with a byte behind it are none
abbrev pub later_ready : Frame
later_ready = record { kind = 2; payload = 2 ∷ [] }

abbrev pub back_in_run : Frame
back_in_run = record { kind = 3; payload = end_bytes }

abbrev pub longer_back : Frame
longer_back = record { kind = 4; payload = end_bytes ++ 0 ∷ [] }

pub record JudgesTheFrames : Type 0 where
  pub version : over (later_ready ∷ back ∷ []) ≡ prints 54 (stands false (later_ready ∷ back ∷ []) 0 true)
  pub kind : over (ready ∷ back_in_run ∷ []) ≡ prints 54 (stands false (ready ∷ back_in_run ∷ []) 0 true)
  pub longer : over (ready ∷ longer_back ∷ []) ≡ prints 54 (stands false (ready ∷ longer_back ∷ []) 0 true)

-- ---- too few instructions

-- the function stopped, with no instruction left
abbrev pub stopped_back : Frame
stopped_back = record {
  kind = 4;
  payload = 2 ∷ 0 ∷ 0 ∷ 0 ∷ 0 ∷ 0 ∷ 0 ∷ 0 ∷ 0 ∷ 0 ∷ 0 ∷ 0 ∷ 98 ∷ 2
      ∷ 0 ∷ 0 ∷ 0 ∷ 0 ∷ 0 ∷ 0 ∷ 0 ∷ 0 ∷ 0 ∷ 0 ∷ 0 ∷ 0 ∷ [];
}

abbrev pub in_three : List Frame → Offloaded
in_three frames = offloaded device (setting_of one_more) [] (limits 3 100) frames

-- within three instructions the run stops in the function, here or there
pub record StopsWithin : Type 0 where
  pub here : (in_three []).report ≡ Some (report [] (ending.Stopped cause.Budget) 3 2)
  pub there : (in_three (ready ∷ stopped_back ∷ [])).report ≡ Some (report [] (ending.Stopped cause.Budget) 3 2)
  pub merged : (in_three (ready ∷ stopped_back ∷ [])).received.merged ≡ 1
  -- a Back may not give instructions back
  pub given_back : (in_three (ready ∷ back ∷ [])).received.fallen ≡ true

-- ---- two calls

-- main calls the function twice, and prints 7
abbrev pub one_more_twice : Plain
one_more_twice = record one_more {
  main = record {
    registers = 3;
    insns = Const4 0 (pos 5) ∷ CallFunction 0 0 0 ∷ CallFunction 0 0 0 ∷ SgetOut 1 ∷ InvokePrintln 1 0 ∷ [];
    last = ReturnVoid;
  };
}

abbrev pub over_twice : List Frame → Offloaded
over_twice frames = offloaded (record device { program = program_of one_more_twice }) (setting_of one_more_twice) [] (limits 100 100) frames

-- the Back of the second call, which gives 7
abbrev pub second_back : Frame
second_back = record {
  kind = 4;
  payload = 0 ∷ 0 ∷ 0 ∷ 0 ∷ 7 ∷ 0 ∷ 0 ∷ 0 ∷ 0 ∷ 0 ∷ 0 ∷ 0 ∷ 92 ∷ 0 ∷ 0 ∷ 0 ∷ 98 ∷ 2
      ∷ 0 ∷ 0 ∷ 0 ∷ 0 ∷ 0 ∷ 0 ∷ 0 ∷ 0 ∷ 0 ∷ 0 ∷ 0 ∷ 0 ∷ [];
}

abbrev pub prints_seven : Offloaded → Type 0
prints_seven o = o.report ≡ Some (report (55 ∷ 10 ∷ []) ending.Returned 12 6)

-- one Ready is for all calls; a device that fell back sends no second Run
pub record CallsTwice : Type 0 where
  pub both : prints_seven (over_twice (ready ∷ back ∷ second_back ∷ []))
  pub both_merged : (over_twice (ready ∷ back ∷ second_back ∷ [])).received.merged ≡ 2
  pub first : prints_seven (over_twice (ready ∷ back ∷ []))
  pub first_merged : (over_twice (ready ∷ back ∷ [])).received.merged ≡ 1
  pub first_sent : length (over_twice (ready ∷ back ∷ [])).received.images ≡ 2
  pub neither : prints_seven (over_twice [])
  pub neither_sent : length (over_twice []).received.images ≡ 1
  pub late : (over_twice (refuse ∷ ready ∷ back ∷ [])).received.merged ≡ 0
