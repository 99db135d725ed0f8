use Rattle.cc_built_in.proofs.Finding.{class_of}
use Rattle.cc_built_in.proofs.lookup.built_in_class.Goals as goal

pub returns : goal.returns
returns c = class_of c.built_in_classes.result.now c.args.name.now _ c.built_in_classes.ensures c.class_among.ensures
