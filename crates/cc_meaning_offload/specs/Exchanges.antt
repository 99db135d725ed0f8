-- What a device sends, and what it gets from a clone that is honest.
use Rattle.std.specs.Prelude.{ℕ, List, ◌∷◌, ◌++◌}
use Rattle.std.specs.List.{flat_map}
use Rattle.cc_meaning.specs.declared.frame.Frame.{Frame}
use Rattle.cc_meaning.specs.declared.image.RunImage.{RunImage}
use Rattle.cc_meaning_nodes.specs.Frames.{spelling}
use Rattle.cc_meaning_nodes.specs.Clone.{hello_kind, run_kind, frame_bytes}
use Rattle.cc_meaning_migration.specs.declared.image.Version.{Version}
use Rattle.cc_meaning_migration.specs.declared.image.Version.TheVariants.{Second}
use Rattle.cc_meaning_migration.specs.Spelling.{byte_of_version, spelled_run}
use Rattle.cc_meaning_offload.specs.Jobs.{with_length}
use Rattle.cc_meaning_offload.specs.Clones.{IsHonest}

-- a device says the second version, and takes a Ready of either
abbrev pub device_version : Version
device_version = Second

-- the payload of its Hello
unfoldable pub hello_of : (main file script : List ℕ) → List ℕ
hello_of main file script = byte_of_version device_version ∷ with_length main ++ (with_length file ++ with_length script)

abbrev pub run_frame : RunImage → Frame
run_frame image = record { kind = run_kind; payload = spelled_run image }

unfoldable pub hello_bytes : (main file script : List ℕ) → List ℕ
hello_bytes main file script = frame_bytes hello_kind (hello_of main file script)

-- a Hello, and a Run of each image
unfoldable pub requests : (main file script : List ℕ) → List RunImage → List ℕ
requests main file script images = hello_bytes main file script ++ flat_map (λ image. spelling (run_frame image)) images

-- what was got is a front of all that a clone says to a Hello with this main class, file and script, and to Runs of these images
abbrev pub IsExchange : (main file script : List ℕ) → List RunImage → (got : List ℕ) → Type 0
IsExchange main file script images got = IsHonest (requests main file script images) got
