-- What its arguments make, word after word.
use Rattle.std.proofs.Common.{None, Some, ap, ◌∙◌}
use Rattle.tide_model.specs.declared.op.Op.TheVariants.{WeakGet}
use Rattle.tide_text.specs.work.OpArguments.{OpArguments}
use Rattle.tide_text.specs.work.ReadOp.{register_of}
use Rattle.tide_text.specs.work.Words.{number_below, words_in}
use Rattle.tide_text.proofs.work_laws.ArgumentLemmas.{two_none, two_first, two_made}
use Rattle.tide_text.proofs.work.op_arguments.OpArguments.weak_get.Goals as goal

pub returns-in_err-dst : goal.returns-in_err-dst
returns-in_err-dst c = c.from_residual.ensures ∙ two_none (λ o. WeakGet o.0 o.1) (register_of c.args.self.now) (number_below c.args.self.now.weak) (words_in c.args.arguments.now) c.in_err-dst.ensures

pub returns-in_err-register : goal.returns-in_err-register
returns-in_err-register c = c.from_residual-in_err-register.ensures ∙ two_first (λ o. WeakGet o.0 o.1) (register_of c.args.self.now) (number_below c.args.self.now.weak) (words_in c.args.arguments.now) c.in_ok-dst.dst.now c.in_ok-dst.at.now None c.in_ok-dst.ensures c.in_err-register.ensures

pub returns-in_err-number_below : goal.returns-in_err-number_below
returns-in_err-number_below c = c.from_residual-in_err-number_below.ensures ∙ two_made (λ o. WeakGet o.0 o.1) (register_of c.args.self.now) (number_below c.args.self.now.weak) (words_in c.args.arguments.now) c.in_ok-dst.dst.now c.in_ok-dst.at.now c.in_ok-register.field-0 None c.in_ok-dst.ensures c.in_ok-register.ensures (c.in_err-number_below.ensures ∙ ap (λ (limits : OpArguments). number_below limits.weak c.in_ok-dst.at.now) c.self.view_is)

pub returns : goal.returns
returns c = two_made (λ o. WeakGet o.0 o.1) (register_of c.args.self.now) (number_below c.args.self.now.weak) (words_in c.args.arguments.now) c.in_ok-dst.dst.now c.in_ok-dst.at.now c.in_ok-register.field-0 (Some c.in_ok-number_below.field-0) c.in_ok-dst.ensures c.in_ok-register.ensures (c.in_ok-number_below.ensures ∙ ap (λ (limits : OpArguments). number_below limits.weak c.in_ok-dst.at.now) c.self.view_is)
