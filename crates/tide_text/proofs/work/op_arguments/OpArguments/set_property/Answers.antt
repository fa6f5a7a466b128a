-- What its arguments make, word after word.
use Rattle.std.proofs.Common.{None, Some, ap, ◌∙◌}
use Rattle.tide_model.specs.declared.op.Op.TheVariants.{SetProp}
use Rattle.tide_text.specs.work.OpArguments.{OpArguments}
use Rattle.tide_text.specs.work.ReadOp.{key_of, register_of}
use Rattle.tide_text.specs.work.Words.{words_in}
use Rattle.tide_text.proofs.work_laws.ArgumentLemmas.{three_none, three_first, three_second, three_made}
use Rattle.tide_text.proofs.work.op_arguments.OpArguments.set_property.Goals as goal

pub returns-in_err-src : goal.returns-in_err-src
returns-in_err-src c = c.from_residual.ensures ∙ three_none (λ o. SetProp o.0 o.1 o.2) (register_of c.args.self.now) (key_of c.args.self.now) (register_of c.args.self.now) (words_in c.args.arguments.now) c.in_err-src.ensures

pub returns-in_err-register : goal.returns-in_err-register
returns-in_err-register c = c.from_residual-in_err-register.ensures ∙ three_first (λ o. SetProp o.0 o.1 o.2) (register_of c.args.self.now) (key_of c.args.self.now) (register_of c.args.self.now) (words_in c.args.arguments.now) c.in_ok-src.src.now c.in_ok-src.key.now c.in_ok-src.val.now None c.in_ok-src.ensures c.in_err-register.ensures

pub returns-in_err-number : goal.returns-in_err-number
returns-in_err-number c = c.from_residual-in_err-number.ensures ∙ three_second (λ o. SetProp o.0 o.1 o.2) (register_of c.args.self.now) (key_of c.args.self.now) (register_of c.args.self.now) (words_in c.args.arguments.now) c.in_ok-src.src.now c.in_ok-src.key.now c.in_ok-src.val.now c.in_ok-register.field-0 None c.in_ok-src.ensures c.in_ok-register.ensures (c.in_err-number.ensures ∙ ap (λ (limits : OpArguments). key_of limits c.in_ok-src.key.now) c.self.view_is)

pub returns-in_err-register-2 : goal.returns-in_err-register-2
returns-in_err-register-2 c = c.from_residual-in_err-register-2.ensures ∙ three_made (λ o. SetProp o.0 o.1 o.2) (register_of c.args.self.now) (key_of c.args.self.now) (register_of c.args.self.now) (words_in c.args.arguments.now) c.in_ok-src.src.now c.in_ok-src.key.now c.in_ok-src.val.now c.in_ok-register.field-0 c.in_ok-number.field-0 None c.in_ok-src.ensures c.in_ok-register.ensures (c.in_ok-number.ensures ∙ ap (λ (limits : OpArguments). key_of limits c.in_ok-src.key.now) c.self.view_is) c.in_err-register-2.ensures

pub returns : goal.returns
returns c = three_made (λ o. SetProp o.0 o.1 o.2) (register_of c.args.self.now) (key_of c.args.self.now) (register_of c.args.self.now) (words_in c.args.arguments.now) c.in_ok-src.src.now c.in_ok-src.key.now c.in_ok-src.val.now c.in_ok-register.field-0 c.in_ok-number.field-0 (Some c.in_ok-register-2.field-0) c.in_ok-src.ensures c.in_ok-register.ensures (c.in_ok-number.ensures ∙ ap (λ (limits : OpArguments). key_of limits c.in_ok-src.key.now) c.self.view_is) c.in_ok-register-2.ensures
