use Rattle.std.specs.Prelude.{not, ◌&&◌, nat_le}
use Rattle.tide_model.specs.declared.op.Op.TheVariants.{PairSet}
use Rattle.tide_model.specs.declared.op.Refusal.TheVariants.{PairsFull}
use Rattle.tide_model.specs.Refused.{has_pair, pair_count, refuse_if}
use Rattle.tide_plain.specs.stored.Contents.{state_of}
use Rattle.tide_plain.proofs.calls_laws.PairRefusals.{IsCall-refusal, pair_refusal-other}
use Rattle.tide_plain.proofs.calls.pairs.pair_set.Goals as goal

pub returns-in-Err : goal.returns-in-Err
returns-in-Err c =
    let contents = c.args.contents.now in
    IsCall-refusal contents c.args.who (PairSet c.args.src c.args.key c.args.val) c.in-Err.refusal
    (c.in-Err.ensures.refused (λ table cell. refuse_if (not (has_pair (state_of c.args.contents.now) table cell) && nat_le 8 (pair_count c.args.contents.now.layout (state_of c.args.contents.now) table)) PairsFull))
    (pair_refusal-other contents.layout (state_of contents) c.args.who c.args.src c.args.key c.in-Err.refusal c.in-Err.ensures.refused)
