use Rattle.std.proofs.Common.{List, Option, ap}
use Rattle.std.specs.Prelude.{slice_get}
use Rattle.cc_meaning.specs.declared.program.DexType.{DexType}
use Rattle.cc_meaning_program.specs.declared.links.MethodLink.{MethodLink}
use Rattle.cc_code_tests.proofs.linking.links.Goals as goal

pub returns-clause-types : goal.returns-clause-types
returns-clause-types c = (_, ap (λ (types : List (Option DexType)). slice_get types 0) c.in_ok-sole-2.ensures)

pub returns-clause-methods : goal.returns-clause-methods
returns-clause-methods c = (_, ap (λ (methods : List (Option MethodLink)). slice_get methods 0) c.in_ok-sole-3.ensures)
