-- Each program of a file is complete.
use Rattle.cc_meaning_program.specs.Instructions.{InstructionsLaidOut}
use Rattle.cc_meaning_program.specs.Laws.{OneMethodOwner, OneFieldOwner}
use Rattle.cc_program_laws.specs.Laws.{ProgramsAreComplete}
use Rattle.cc_program_laws.proofs.Origins.{class_stands, has_built_in, only_built_in, code_is_owned, rows_are}
use Rattle.cc_program_laws.proofs.Mains.{main_stands}
use Rattle.cc_program_laws.proofs.Standing.{methods_stand, fields_stand}
use Rattle.cc_program_laws.proofs.Totals.{few_parts, few_enough}
use Rattle.cc_program_laws.proofs.WellFormed.{programs_are_well_formed}

pub programs_are_complete : InstructionsLaidOut → OneMethodOwner → OneFieldOwner → ProgramsAreComplete
programs_are_complete laid methods fields ids classes asked program fit fits sound bounded is =
    let well = programs_are_well_formed laid ids classes asked program fit sound bounded.units (few_enough methods ids classes asked program fit fits sound is bounded.rows) is in
    record {
      well_formed = well;
      in_order = record { classes_rise = well.classes_rise; methods_rise = is.methods_rise; fields_rise = is.fields_rise; texts_rise = is.texts.rise };
      few = few_parts methods ids classes asked program fit fits sound is fields bounded.rows;
      built_in = has_built_in ids classes asked program fit sound is;
      built_in_only = only_built_in ids classes asked program fit sound is;
      classes = class_stands ids classes asked program fit sound is;
      methods = methods_stand ids classes asked program fit sound is;
      fields = fields_stand ids classes asked program fit sound is;
      owners = code_is_owned ids classes asked program fit sound is;
      rows = rows_are ids classes asked program fit sound is;
      main = main_stands ids classes asked program fit bounded.coded is;
    }
