use Rattle.cc_meaning_clone.proofs.Hellos.{begins_once, hello_once, refused_once, judged_once}
use Rattle.cc_meaning_clone.proofs.hello_laws.judged_once.Goals as goal

pub returns-clause-hello : goal.returns-clause-hello
returns-clause-hello c = hello_once

pub returns-clause-verdict : goal.returns-clause-verdict
returns-clause-verdict c = judged_once

pub returns-clause-text : goal.returns-clause-text
returns-clause-text c = begins_once

pub returns-clause-refused : goal.returns-clause-refused
returns-clause-refused c = refused_once
