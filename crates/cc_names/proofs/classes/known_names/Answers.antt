use Rattle.std.proofs.Common.{◌∷◌, [], ◌++◌, sym, ap, subst, ◌∙◌}
use Rattle.cc_meaning_program.specs.ClassNames.{texts_name}
use Rattle.cc_names.specs.Candidates.{AreKnown}
use Rattle.cc_names.proofs.Candidacy.{known_are}
use Rattle.cc_names.proofs.classes.known_names.Goals as goal

pub returns : goal.returns
unfolding texts_name
returns c =
    let names = c.in_ok-names.names in
    let pushed = c.in_ok-push.ensures.ok ∙ ap (λ name. names ++ name ∷ []) c.in_ok-units_of.ensures in
    subst AreKnown (sym pushed) (known_are names c.in_ok-names.ensures.all c.in_ok-names.ensures.are)
