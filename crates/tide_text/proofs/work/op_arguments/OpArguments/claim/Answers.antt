-- What its arguments make, word after word.
use Rattle.std.proofs.Common.{None, Some, ◌∙◌}
use Rattle.tide_model.specs.declared.op.Op.TheVariants.{Claim}
use Rattle.tide_text.specs.work.ReadOp.{register_of}
use Rattle.tide_text.specs.work.Words.{words_in}
use Rattle.tide_text.proofs.work_laws.ArgumentLemmas.{one_none, one_made}
use Rattle.tide_text.proofs.work.op_arguments.OpArguments.claim.Goals as goal

pub returns-in_err-one_word : goal.returns-in_err-one_word
returns-in_err-one_word c = c.from_residual.ensures ∙ one_none Claim (register_of c.args.self.now) (words_in c.args.arguments.now) c.in_err-one_word.ensures

pub returns-in_err-src : goal.returns-in_err-src
returns-in_err-src c = c.from_residual-in_err-src.ensures ∙ one_made Claim (register_of c.args.self.now) (words_in c.args.arguments.now) c.in_ok-one_word.field-0.now None c.in_ok-one_word.ensures c.in_err-src.ensures

pub returns : goal.returns
returns c = one_made Claim (register_of c.args.self.now) (words_in c.args.arguments.now) c.in_ok-one_word.field-0.now (Some c.in_ok-src.src) c.in_ok-one_word.ensures c.in_ok-src.ensures
