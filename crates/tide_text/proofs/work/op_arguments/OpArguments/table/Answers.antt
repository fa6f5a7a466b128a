-- What its arguments make, word after word.
use Rattle.std.proofs.Common.{None, Some, ◌∙◌}
use Rattle.tide_model.specs.declared.op.Op.TheVariants.{Table}
use Rattle.tide_text.specs.work.ReadOp.{register_of}
use Rattle.tide_text.specs.work.Words.{words_in}
use Rattle.tide_text.proofs.work_laws.ArgumentLemmas.{one_none, one_made}
use Rattle.tide_text.proofs.work.op_arguments.OpArguments.table.Goals as goal

pub returns-in_err-one_word : goal.returns-in_err-one_word
returns-in_err-one_word c = c.from_residual.ensures ∙ one_none Table (register_of c.args.self.now) (words_in c.args.arguments.now) c.in_err-one_word.ensures

pub returns-in_err-dst : goal.returns-in_err-dst
returns-in_err-dst c = c.from_residual-in_err-dst.ensures ∙ one_made Table (register_of c.args.self.now) (words_in c.args.arguments.now) c.in_ok-one_word.field-0.now None c.in_ok-one_word.ensures c.in_err-dst.ensures

pub returns : goal.returns
returns c = one_made Table (register_of c.args.self.now) (words_in c.args.arguments.now) c.in_ok-one_word.field-0.now (Some c.in_ok-dst.dst) c.in_ok-one_word.ensures c.in_ok-dst.ensures
