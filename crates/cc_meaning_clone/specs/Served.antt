-- What comes of a Run of a plain file.
use Rattle.std.specs.Prelude.{ℕ, List, [], ◌∷◌, length, replicate, Result, Ok, Err}
use Rattle.cc_meaning.specs.declared.fault.ImageFault.{ImageFault}
use Rattle.cc_meaning.specs.declared.image.RunImage.{RunImage}
use Rattle.cc_meaning.specs.declared.image.BackImage.{BackImage}
use Rattle.cc_meaning_run.specs.Local.{out_object}
use Rattle.cc_meaning_images.specs.Spelling.{spelled_back}
use Rattle.cc_meaning_images.specs.Instance.{back_of}
use Rattle.cc_meaning_images.specs.Reading.{read_run}
use Rattle.cc_meaning_nodes.specs.Clone.{Served, Backs, IsFalse}
use Rattle.cc_meaning_plain.specs.declared.plain.Plain.{Plain}
use Rattle.cc_meaning_plain.specs.Program.{program_of, setting_of}

-- `System.out` is the one object, before a function and after it
abbrev pub out_order : List ℕ
out_order = out_object ∷ []

-- a plain file has no scripted classes, so no answers were taken
abbrev pub no_cursors : Plain → List ℕ
no_cursors plain = replicate (length (program_of plain).classes) 0

-- the image of the end of a Run's method, with which the clone answers
unfoldable pub answered : Plain → RunImage → BackImage
answered plain image = back_of (setting_of plain) (no_cursors plain) out_order out_order image

abbrev pub served_by : Plain → Result RunImage ImageFault → Served Plain
served_by plain (Ok image) = Backs (spelled_back (answered plain image)) plain
served_by plain (Err fault) = IsFalse fault

-- The Back of the image that a Run's payload spells, or the first fault of the payload. A plain file calls no method that only the device may call.
unfoldable pub served : Plain → List ℕ → Served Plain
served plain payload = served_by plain (read_run (program_of plain) payload)
