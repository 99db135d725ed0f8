use Rattle.std.proofs.Common.{rules, ◌≡◌, ◌∙◌, ap, ap₂, codes, false}
use Rattle.std.proofs.lemmas.Result.{IfOk-weaker}
use Rattle.clap.specs.Words.{rule_of, with_rule, app_of, IsPlainArg, new_app}
use Rattle.clap.specs.Simple.{app_of_fields}
use Rattle.clap.specs.Built.{TakesValue}
use Rattle.cc_command_check.specs.CheckLine.{file_rule, main_rule, versioned}
use Rattle.cc_command_check.proofs.Chain.{file_is_given}
use Rattle.cc_command_check.proofs.words.check_command.Goals as goal

pub returns-clause-app : goal.returns-clause-app
returns-clause-app c =
    let file_is : rule_of c.action-file.result ≡ file_rule = search rules in
    let main_is : rule_of c.action-main.result ≡ main_rule = search rules in
    let start_is : app_of c.version.result ≡ versioned (new_app (codes "check")) = ap app_of_fields c.version.ensures ∙ ap versioned c.new-3.ensures.app in
    IfOk-weaker c.arg-2.result _ _ (λ r h. h.shape (search rules) ∙ ap₂ with_rule (c.in_ok-arg.ensures.shape (search rules) ∙ ap₂ with_rule start_is file_is) main_is) c.arg-2.ensures

pub returns-clause-gives : goal.returns-clause-gives
returns-clause-gives c =
    let file = c.action-file.result in
    let main = c.action-main.result in
    let file_id : file.id.now ≡ codes "file" = search rules in
    let main_id : main.id.now ≡ codes "main" = search rules in
    let file_plain : IsPlainArg file = search rules in
    let main_plain : IsPlainArg main = search rules in
    let file_local : file.global ≡ false = search rules in
    let main_local : main.global ≡ false = search rules in
    let value : TakesValue file = search rules in
    IfOk-weaker c.arg-2.result _ _ (λ r h. file_is_given c.version.result c.in_ok-arg.field-0 r file main c.in_ok-arg.ensures h
    (search rules) (search rules) (search rules) (search rules) file_id main_id (file_plain, file_local) (main_plain, main_local) value) c.arg-2.ensures
