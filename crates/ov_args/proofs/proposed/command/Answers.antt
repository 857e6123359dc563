use Rattle.std.proofs.Common.{◌≡◌, ◌∙◌, true, ap, ap₂, rules}
use Rattle.std.proofs.lemmas.Result.{IfOk-weaker}
use Rattle.clap.specs.Words.{app_of, rule_of, with_rule, Shape}
use Rattle.clap.specs.Simple.{app_of_fields, on_top}
use Rattle.ov_args.specs.Command.{folder_rule, steps_rule, without_name}
use Rattle.ov_args.proofs.proposed.command.Goals as goal

pub returns : goal.returns
returns c =
    let folder_is : rule_of c.required-folder.result ≡ folder_rule = search rules in
    let steps_is : rule_of c.long-steps.result ≡ steps_rule = search rules in
    let empty_is : app_of c.no_binary_name.result ≡ without_name = ap app_of_fields c.no_binary_name.ensures
    ∙ ap (on_top (λ (s : Shape). record s { no_binary_name = true })) c.new-3.ensures.app in
    let first_is : app_of c.in_ok-arg.field-0 ≡ with_rule without_name folder_rule = c.in_ok-arg.ensures.shape (search rules) ∙ ap₂ with_rule empty_is folder_is in
    IfOk-weaker c.arg-2.result _ _ (λ r added. added.shape (search rules) ∙ ap₂ with_rule first_is steps_is) c.arg-2.ensures
