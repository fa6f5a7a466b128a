-- What its arguments make, word after word.
use Rattle.std.proofs.Common.{None, Some, ◌∙◌}
use Rattle.tide_model.specs.declared.op.Op.TheVariants.{PairDel}
use Rattle.tide_text.specs.work.ReadOp.{register_of}
use Rattle.tide_text.specs.work.Words.{words_in}
use Rattle.tide_text.proofs.work_laws.ArgumentLemmas.{two_none, two_first, two_made}
use Rattle.tide_text.proofs.work.op_arguments.OpArguments.pair_delete.Goals as goal

pub returns-in_err-src : goal.returns-in_err-src
returns-in_err-src c = c.from_residual.ensures ∙ two_none (λ o. PairDel o.0 o.1) (register_of c.args.self.now) (register_of c.args.self.now) (words_in c.args.arguments.now) c.in_err-src.ensures

pub returns-in_err-register : goal.returns-in_err-register
returns-in_err-register c = c.from_residual-in_err-register.ensures ∙ two_first (λ o. PairDel o.0 o.1) (register_of c.args.self.now) (register_of c.args.self.now) (words_in c.args.arguments.now) c.in_ok-src.src.now c.in_ok-src.key.now None c.in_ok-src.ensures c.in_err-register.ensures

pub returns-in_err-register-2 : goal.returns-in_err-register-2
returns-in_err-register-2 c = c.from_residual-in_err-register-2.ensures ∙ two_made (λ o. PairDel o.0 o.1) (register_of c.args.self.now) (register_of c.args.self.now) (words_in c.args.arguments.now) c.in_ok-src.src.now c.in_ok-src.key.now c.in_ok-register.field-0 None c.in_ok-src.ensures c.in_ok-register.ensures c.in_err-register-2.ensures

pub returns : goal.returns
returns c = two_made (λ o. PairDel o.0 o.1) (register_of c.args.self.now) (register_of c.args.self.now) (words_in c.args.arguments.now) c.in_ok-src.src.now c.in_ok-src.key.now c.in_ok-register.field-0 (Some c.in_ok-register-2.field-0) c.in_ok-src.ensures c.in_ok-register.ensures c.in_ok-register-2.ensures
