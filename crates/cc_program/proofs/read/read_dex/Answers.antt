use Rattle.std.proofs.Common.{◌≡◌, ◌≢◌, ℕ, List, Option, sym, ◌∙◌, subst}
use Rattle.std.specs.Option.{option_copied}
use Rattle.std.proofs.lemmas.Result.{err_from_is_err_and}
use Rattle.cc_meaning_program.specs.Asked.{asked_class}
use Rattle.cc_meaning_program.specs.Reading.{IsReadFault}
use Rattle.cc_program.proofs.OneSpelled.{dex_said, program_said, tables_refused, classes_refused, program_refused}
use Rattle.cc_program.proofs.read.read_dex.Goals as goal

pub returns-in_err-ids-clause-fault : goal.returns-in_err-ids-clause-fault
returns-in_err-ids-clause-fault c =
    let p = err_from_is_err_and c.from_residual.result c.from_residual.ensures.1 in
    rw (p.1) (λ real.
    let said = dex_said _ p.0 p.2 real in
    subst (IsReadFault c.args.file.now (asked_class (option_copied c.args.main))) (sym said.1) (IsReadFault.of_tables (c.in_err-ids.ensures.fault said.0)))

pub returns-in_err-ids-clause-refused : goal.returns-in_err-ids-clause-refused
returns-in_err-ids-clause-refused c =
    let p = err_from_is_err_and c.from_residual.result c.from_residual.ensures.1 in
    rw (p.1) (λ real. tables_refused c.args.file.now (asked_class (option_copied c.args.main)) (c.in_err-ids.ensures.refused (dex_said _ p.0 p.2 real).0))

pub returns-in_err-classes-clause-fault : goal.returns-in_err-classes-clause-fault
returns-in_err-classes-clause-fault c =
    let p = err_from_is_err_and c.from_residual-in_err-classes.result c.from_residual-in_err-classes.ensures.1 in
    rw (p.1) (λ real.
    let said = dex_said _ p.0 p.2 real in
    subst (IsReadFault c.args.file.now (asked_class (option_copied c.args.main))) (sym said.1) (IsReadFault.of_classes c.in_ok-ids.ensures.spelled (c.in_err-classes.ensures.caused said.0)))

pub returns-in_err-classes-clause-refused : goal.returns-in_err-classes-clause-refused
returns-in_err-classes-clause-refused c =
    let p = err_from_is_err_and c.from_residual-in_err-classes.result c.from_residual-in_err-classes.ensures.1 in
    rw (p.1) (λ real. classes_refused c.one_ids.ensures c.args.file.now (asked_class (option_copied c.args.main)) c.in_ok-ids.ids c.in_ok-ids.ensures.spelled (c.in_err-classes.ensures.refused (dex_said _ p.0 p.2 real).0))

pub returns-in_err-build_program-clause-fault : goal.returns-in_err-build_program-clause-fault
returns-in_err-build_program-clause-fault c =
    let p = err_from_is_err_and c.from_residual-in_err-build_program.result c.from_residual-in_err-build_program.ensures.1 in
    rw (p.1) (λ real.
    let said = program_said _ p.0 p.2 real in
    subst (IsReadFault c.args.file.now (asked_class (option_copied c.args.main))) (sym said.1) (IsReadFault.of_program c.in_ok-ids.ensures.spelled c.in_ok-classes.ensures.spelled (c.in_err-build_program.ensures.fault said.0)))

pub returns-in_err-build_program-clause-refused : goal.returns-in_err-build_program-clause-refused
returns-in_err-build_program-clause-refused c =
    let p = err_from_is_err_and c.from_residual-in_err-build_program.result c.from_residual-in_err-build_program.ensures.1 in
    rw (p.1) (λ real. program_refused c.one_ids.ensures c.one_classes.ensures c.sound_classes_have_no_fault.ensures c.sound_bodies_have_none.ensures c.args.file.now (asked_class (option_copied c.args.main)) c.in_ok-ids.ids c.in_ok-classes.classes _
    c.in_ok-ids.ensures.spelled c.in_ok-classes.ensures.spelled (c.in_err-build_program.ensures.fault (program_said _ p.0 p.2 real).0))

pub returns-clause-complete : goal.returns-clause-complete
returns-clause-complete c = c.spelled_programs_are_complete.ensures c.args.file.now (asked_class (option_copied c.args.main)) c.in_ok-build_program.field-0
    (record {
      ids = c.in_ok-ids.ids;
      tables = c.in_ok-ids.ensures.spelled;
      classes = c.in_ok-classes.classes;
      members = c.in_ok-classes.ensures.spelled;
      sound = c.in_ok-build_program.ensures.sound.0;
      bodies = c.in_ok-build_program.ensures.sound.1;
      is = c.in_ok-build_program.ensures.program;
    })
