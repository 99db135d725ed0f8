use Rattle.cc_meaning_typing.proofs.FaultLaws.{one_first_fault, well_typed_has_no_fault}
use Rattle.cc_meaning_typing.proofs.verify_laws.law_one_first_fault.Goals as goal

pub returns-clause-one : goal.returns-clause-one
returns-clause-one c = one_first_fault

pub returns-clause-well_typed : goal.returns-clause-well_typed
returns-clause-well_typed c = well_typed_has_no_fault c.law_cover_tries.ensures
