-- The command has the five arguments.
use Rattle.std.proofs.Common.{◌≡◌, ◌∙◌, ap, ap₂, true}
use Rattle.std.proofs.lemmas.Result.{IfOk-weaker}
use Rattle.clap.specs.Words.{Rule, app_of, with_rule}
use Rattle.clap.specs.Simple.{app_of_fields, on_top}
use Rattle.tide_options.specs.Command.{named}
use Rattle.tide_options.proofs.Rules.{not_global}
use Rattle.tide_options.proofs.command.command.Goals as goal

pub returns : goal.returns
returns c =
    let named_is : app_of c.disable_help_flag-named.result ≡ named =
    ap app_of_fields c.disable_help_flag-named.ensures ∙ ap (on_top (λ shape. record shape { disable_help_flag = true })) c.new.ensures.app in
    let visitors_is = c.number_option.ensures in
    let plain_is = c.flag.ensures in
    let make_is = c.number_option-2.ensures in
    let with_visitors = c.in_ok-arg.ensures.shape (not_global c.number_option.result (ap (λ (rule : Rule). rule.is_simple) visitors_is)) ∙ ap₂ with_rule named_is visitors_is in
    let with_plain = c.in_ok-arg-2.ensures.shape (not_global c.flag.result (ap (λ (rule : Rule). rule.is_simple) plain_is)) ∙ ap₂ with_rule with_visitors plain_is in
    let snapshot_is = c.flag-2.ensures in
    let with_make = c.in_ok-arg-3.ensures.shape (not_global c.number_option-2.result (ap (λ (rule : Rule). rule.is_simple) make_is)) ∙ ap₂ with_rule with_plain make_is in
    let stats_is = c.flag-3.ensures in
    let with_snapshot = c.in_ok-arg-4.ensures.shape (not_global c.flag-2.result (ap (λ (rule : Rule). rule.is_simple) snapshot_is)) ∙ ap₂ with_rule with_make snapshot_is in
    IfOk-weaker c.arg-5.result _ _
    (λ made added. added.shape (not_global c.flag-3.result (ap (λ (rule : Rule). rule.is_simple) stats_is)) ∙ ap₂ with_rule with_snapshot stats_is) c.arg-5.ensures
