-- The lines of a run that is offloaded: how it ended, and how the device fared with its clone.
use Rattle.std.specs.Prelude.{ℕ, List, [], ◌++◌, Option, Some, None, codes}
use Rattle.std.specs.Fmt.{decimal}
use Rattle.cc_meaning.specs.declared.report.Ending.{Ending}
use Rattle.cc_meaning.specs.declared.report.Ending.TheVariants as ending
use Rattle.cc_meaning.specs.declared.report.StopCause.{StopCause}
use Rattle.cc_meaning.specs.declared.report.StopCause.TheVariants as cause
use Rattle.cc_meaning.specs.declared.fault.FrameFault.{FrameFault}
use Rattle.cc_meaning.specs.declared.fault.FrameFault.TheVariants as frame
use Rattle.cc_meaning.specs.declared.fault.ImageFault.{ImageFault}
use Rattle.cc_meaning.specs.declared.fault.ImageFault.TheVariants as image
use Rattle.cc_meaning.specs.declared.travel.LinkEnd.{LinkEnd}
use Rattle.cc_meaning.specs.declared.travel.LinkEnd.TheVariants as link
use Rattle.cc_meaning.specs.declared.travel.Travel.{Travel}
use Rattle.cc_output.specs.Lines.{line, returned_line}

-- ---- how a run ended

-- the line of a run that stopped for want of instructions or of words; of other stops there is none yet
abbrev pub stopped_line : StopCause → Option (List ℕ)
stopped_line cause.Budget = Some (line (codes "end stop budget"))
stopped_line cause.Heap = Some (line (codes "end stop heap"))
stopped_line (cause.ScriptEnd class) = None
stopped_line (cause.ScriptOther class wanted found) = None

-- the same of a run that returned; of an exception there is none yet
abbrev pub ended_line : Ending → Option (List ℕ)
ended_line ending.Returned = Some returned_line
ended_line (ending.Thrown class message) = None
ended_line (ending.Stopped cause) = stopped_line cause

-- the status of the program after a run that returned, threw or stopped
abbrev pub ended_status : Ending → ℕ
ended_status ending.Returned = 0
ended_status (ending.Thrown class message) = 1
ended_status (ending.Stopped cause) = 2

-- ---- how a device fared with its clone

-- the code of bytes that are no frame; want of memory has none
abbrev pub frame_code : FrameFault → List ℕ
frame_code frame.BadKind = codes "F1"
frame_code frame.TooLong = codes "F2"
frame_code (frame.BadDigest stated found) = codes "F3"
frame_code frame.Memory = []

-- the code of bytes that are no image; want of memory has none
abbrev pub image_code : ImageFault → List ℕ
image_code image.CutOff = codes "W1"
image_code image.Trailing = codes "W2"
image_code (image.BadKind at) = codes "W3"
image_code (image.BadRef at) = codes "W4"
image_code (image.Unfit object) = codes "W5"
image_code image.BadCounter = codes "W6"
image_code (image.Unanswered event) = codes "W7"
image_code image.Memory = []

-- why no more methods migrated
abbrev pub end_words : LinkEnd → List ℕ
end_words link.DialFailed = codes "dial"
end_words link.Failed = codes "failed"
end_words link.Ended = codes "ended"
end_words (link.Waited calls) = codes "waited " ++ decimal calls
end_words (link.BadFrame fault) = codes "frame " ++ frame_code fault
end_words (link.Unexpected kind) = codes "unexpected " ++ decimal kind
end_words (link.Unfit fault) = codes "unfit " ++ image_code fault
end_words (link.Refused status) = codes "refused " ++ decimal status

abbrev pub fallback_words : Option LinkEnd → List ℕ
fallback_words None = codes "none"
fallback_words (Some end) = end_words end

-- how many methods migrated, and why no more did
abbrev pub travel_line : Travel → List ℕ
travel_line travel = line (codes "link migrated " ++ (decimal travel.migrations ++ (codes ", fallback " ++ fallback_words travel.fallback)))
