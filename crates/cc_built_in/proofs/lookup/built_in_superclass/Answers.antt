use Rattle.std.proofs.Common.{◌≡◌, ℕ, true, List, Option, Some, None, Bor, option_map, sym}
use Rattle.std.specs.Prelude.{IfSome}
use Rattle.cc_meaning.specs.BuiltIn.{is_built_in, built_in_superclass}
use Rattle.cc_built_in.proofs.Finding.{superclass_is_built_in}
use Rattle.cc_built_in.proofs.lookup.built_in_superclass.Goals as goal

above : (name : List ℕ) (superclass : Option (Bor (List ℕ))) → option_map (λ superclass. superclass.now) superclass ≡ built_in_superclass name → IfSome superclass (λ superclass. is_built_in superclass.now ≡ true)
above name None is = tt
above name (Some superclass) is = superclass_is_built_in name superclass.now (sym is)

pub returns-in-Some-clause-known : goal.returns-in-Some-clause-known
returns-in-Some-clause-known c = above c.args.name.now c.in-Some.class.now.superclass c.in-Some.ensures.superclass
