use Rattle.cc_check.proofs.summary.summarize.Goals as goal

pub units_of_methods-requires-clause-well_formed : goal.units_of_methods-requires-clause-well_formed
units_of_methods-requires-clause-well_formed c = c.requires.complete.well_formed

pub units_of_methods-requires-clause-few : goal.units_of_methods-requires-clause-few
units_of_methods-requires-clause-few c = c.requires.complete.few.methods
