use Rattle.std.proofs.Common.{◌≡◌, ◌∙◌, sym, ap, subst, codes, map, string_bytes}
use Rattle.clap.specs.Words.{App, app_of, fault_of, takes, is_simple_and_free, HasKind, kind_of}
use Rattle.cc_command_check.specs.CheckLine.{check_app}
use Rattle.cc_command_check.proofs.Line.{is_free, ended, value_by}
use Rattle.cc_command_check.proofs.words.read_check.Goals as goal

pub returns-in-Err : goal.returns-in-Err
returns-in-Err c =
    let words = map string_bytes c.args.words.now in
    let is : app_of c.in-Ok.command ≡ check_app = c.in-Ok.ensures.app in
    let kinds : HasKind (fault_of check_app words) c.in-Err.error = subst (λ (a : App). HasKind (fault_of a words) c.in-Err.error) is (c.in-Err.ensures.kinds (ap is_simple_and_free is ∙ is_free)) in
    ended words (kind_of c.in-Err.error) c.call_at.result c.call_at.ensures kinds (λ t. c.in-Err.ensures.passes (ap (λ (a : App). takes a words) is ∙ t))

pub returns : goal.returns
returns c =
    let words = map string_bytes c.args.words.now in
    let is : app_of c.in-Ok.command ≡ check_app = c.in-Ok.ensures.app in
    let m = c.in-Ok-try_get_matches_from.matches in
    let h = c.in-Ok-try_get_matches_from.ensures in (
      sym (ap (λ (a : App). fault_of a words) is) ∙ h.kinds (ap is_simple_and_free is ∙ is_free),
      value_by (app_of c.in-Ok.command) words m (codes "file") _ is h.matches (rw c.unwrap.ensures at c.get_str.ensures),
      value_by (app_of c.in-Ok.command) words m (codes "main") _ is h.matches c.get_str-2.ensures,
    )
