use Rattle.std.proofs.Common.{◌≡◌, drop}
use Rattle.cc_outside.specs.FilesInMemory.{files_of}
use Rattle.cc_outside.proofs.memory_shelf.find.Given as goal

abbrev pub invariant-loop-file : goal.invariant-loop-file
invariant-loop-file l = files_of (drop l.file-index l.files) l.name ≡ files_of l.files l.name
