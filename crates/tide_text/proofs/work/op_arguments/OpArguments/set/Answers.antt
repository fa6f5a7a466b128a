-- What its arguments make, word after word.
use Rattle.std.proofs.Common.{None, Some, ◌∙◌}
use Rattle.tide_model.specs.declared.op.Op.TheVariants.{Set}
use Rattle.tide_text.specs.work.ReadOp.{register_of}
use Rattle.tide_text.specs.work.Words.{number_of, words_in}
use Rattle.tide_text.proofs.work_laws.ArgumentLemmas.{two_none, two_first, two_made}
use Rattle.tide_text.proofs.work.op_arguments.OpArguments.set.Goals as goal

pub returns-in_err-dst : goal.returns-in_err-dst
returns-in_err-dst c = c.from_residual.ensures ∙ two_none (λ o. Set o.0 o.1) (register_of c.args.self.now) number_of (words_in c.args.arguments.now) c.in_err-dst.ensures

pub returns-in_err-register : goal.returns-in_err-register
returns-in_err-register c = c.from_residual-in_err-register.ensures ∙ two_first (λ o. Set o.0 o.1) (register_of c.args.self.now) number_of (words_in c.args.arguments.now) c.in_ok-dst.dst.now c.in_ok-dst.n.now None c.in_ok-dst.ensures c.in_err-register.ensures

pub returns-in_err-number_of : goal.returns-in_err-number_of
returns-in_err-number_of c = c.from_residual-in_err-number_of.ensures ∙ two_made (λ o. Set o.0 o.1) (register_of c.args.self.now) number_of (words_in c.args.arguments.now) c.in_ok-dst.dst.now c.in_ok-dst.n.now c.in_ok-register.field-0 None c.in_ok-dst.ensures c.in_ok-register.ensures c.in_err-number_of.ensures

pub returns : goal.returns
returns c = two_made (λ o. Set o.0 o.1) (register_of c.args.self.now) number_of (words_in c.args.arguments.now) c.in_ok-dst.dst.now c.in_ok-dst.n.now c.in_ok-register.field-0 (Some c.in_ok-number_of.field-0) c.in_ok-dst.ensures c.in_ok-register.ensures c.in_ok-number_of.ensures
