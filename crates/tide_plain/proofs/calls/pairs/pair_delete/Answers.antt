use Rattle.std.specs.Prelude.{not}
use Rattle.tide_model.specs.declared.op.Op.TheVariants.{PairDel}
use Rattle.tide_model.specs.declared.op.Refusal.TheVariants.{Absent}
use Rattle.tide_model.specs.Refused.{has_pair, refuse_if}
use Rattle.tide_plain.specs.stored.Contents.{state_of}
use Rattle.tide_plain.proofs.calls_laws.PairRefusals.{IsCall-refusal, pair_refusal-other}
use Rattle.tide_plain.proofs.calls.pairs.pair_delete.Goals as goal

pub returns-in-Err : goal.returns-in-Err
returns-in-Err c =
    let contents = c.args.contents.now in
    IsCall-refusal contents c.args.who (PairDel c.args.src c.args.key) c.in-Err.refusal
    (c.in-Err.ensures.refused (λ table cell. refuse_if (not (has_pair (state_of c.args.contents.now) table cell)) Absent))
    (pair_refusal-other contents.layout (state_of contents) c.args.who c.args.src c.args.key c.in-Err.refusal c.in-Err.ensures.refused)
