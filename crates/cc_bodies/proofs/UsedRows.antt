-- The rows that instructions name are there.
use Rattle.std.proofs.Common.{◌≡◌, ℕ, ◌<◌, ◌≤◌, List, length, Some, subst, arith}
use Rattle.std.specs.Prelude.{Contains}
use Rattle.cc_meaning.specs.declared.file.Ids.{Ids}
use Rattle.cc_meaning.specs.declared.file.RawClass.{RawClass}
use Rattle.cc_meaning.specs.declared.program.Placed.{Placed}
use Rattle.cc_meaning_program.specs.declared.reference.Reference.{Reference}
use Rattle.cc_meaning_program.specs.declared.reference.Reference.TheVariants as reference
use Rattle.cc_meaning_program.specs.BodyFaults.{HaveSoundBodies}
use Rattle.cc_meaning_program.specs.Instructions.{StandToEnd}
use Rattle.cc_meaning_program.specs.Named.{method_text}
use Rattle.cc_meaning_program.specs.References.{reference_of}
use Rattle.cc_meaning_program.specs.Naming.{ClassesAre}
use Rattle.cc_meaning_program.specs.declared.uses.MethodUse.{MethodUse}
use Rattle.cc_bodies.specs.UsedRows.{UsedRowsAreThere}
use Rattle.cc_bodies.proofs.Among.{found_at, of_classes}
use Rattle.cc_bodies.proofs.LinkedReferences.{method_of_use, field_of_use}
use Rattle.cc_bodies.proofs.Soundness.{NamedIsSound, code_is_sound, named_is_sound}

-- what an instruction of a file names is sound
named_sound : StandToEnd → (ids : Ids) (classes : List RawClass) → HaveSoundBodies ids classes → (all : List Placed) → ClassesAre classes all → (placed : Placed) → Contains all placed →
    (named : Reference) → reference_of placed.insn ≡ Some named → NamedIsSound ids named
named_sound to_end ids classes sound all are placed among named refers =
    let within = of_classes classes all are placed among in
    let stands = within.stands in
    let code = code_is_sound to_end ids classes sound within.number within.class within.class_there stands.place stands.method stands.method_there stands.code stands.insns stands.coded stands.are in
    let at = found_at stands.insns placed stands.among in
    named_is_sound ids (method_text ids stands.method.row) stands.insns code.of_insns at.0 placed at.1 named refers

within_table : (size row : ℕ) → ¬ (size ≤ row) → row < size
within_table size row present = grind (arith, present)

pub used_rows_are_there : StandToEnd → UsedRowsAreThere
used_rows_are_there to_end ids classes methods fields sound uses =
    record {
      of_methods = λ used among.
          let found = method_of_use uses.instructions used (subst (λ (it : List MethodUse). Contains it used) uses.of_methods among) in
          within_table (length ids.methods) used.row (named_sound to_end ids classes sound uses.instructions uses.are found.0 found.1 (reference.Method used.row) found.2).present;
      of_fields = λ row among.
          let found = field_of_use uses.instructions row (subst (λ (it : List ℕ). Contains it row) uses.of_fields among) in
          within_table (length ids.fields) row (named_sound to_end ids classes sound uses.instructions uses.are found.0 found.1 (reference.Field row) found.2).present;
    }
