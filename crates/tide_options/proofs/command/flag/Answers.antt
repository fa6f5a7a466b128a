-- The argument is the rule of that name, which is set by its name alone.
use Rattle.std.proofs.Common.{◌∙◌, ap, Some}
use Rattle.clap.specs.Words.{Rule, rule_of}
use Rattle.clap.specs.declared.builder.action.ArgAction.TheVariants.{SetTrue}
use Rattle.tide_options.proofs.Rules.{long_by}
use Rattle.tide_options.proofs.command.flag.Goals as goal

pub returns : goal.returns
returns c =
    ap rule_of c.action.ensures
    ∙ ap (λ (rule : Rule). record rule { action = Some SetTrue }) (ap rule_of c.long.ensures ∙ ap (long_by c.args.name.now) c.new.ensures.rule)
