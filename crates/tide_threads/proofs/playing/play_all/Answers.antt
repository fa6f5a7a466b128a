-- Why each participant may play on its thread, and what each did.
use Rattle.std.proofs.Common.{◌∙◌, sym, subst, arith}
use denote.Param.Send.{sendable}
use Rattle.std.proofs.lemmas.Option.{get_or_from_slice_get, slice_get_within}
use Rattle.crossbeam_utils.specs.Padded.{padded_value}
use Rattle.crossbeam_utils.specs.declared.cache_padded.CachePadded.{CachePadded}
use Rattle.tide_shape.specs.Lists.{lists_of}
use Rattle.tide_threads.specs.Playing.{DidPart, MayPlay}
use Rattle.tide_threads.specs.declared.participant.Participant.{Participant}
use Rattle.tide_threads.proofs.playing.play_all.Goals as goal

pub for_each_mut-requires-clause-accepts : goal.for_each_mut-requires-clause-accepts
for_each_mut-requires-clause-accepts g c κs within = λ i p below is. (
  subst (λ (x : CachePadded Participant). MayPlay c.args.heap.now.table.shared.table_id c.args.heap.now.key.layout
      (lists_of c.args.heap.now.key.shapes) (padded_value x)) (sym is) (c.requires.may i p.now below),
  search sendable depth 20,
)

pub returns : goal.returns
returns g c =
    let key = c.args.heap.now.key in
    let id = c.args.heap.now.table.shared.table_id in
    let xs = c.args.participants.now in
    let ys = c.for_each_mut.new.s in
    record {
      did = record {
        as_many = (let same = c.for_each_mut.auto.s in omega (arith, same));
        each = λ who x y at_x at_y.
            let k = (c.for_each_mut.ensures who x (slice_get_within xs who x at_x)).1 in
            subst (λ (a : CachePadded Participant). DidPart id key.layout (lists_of key.shapes) (padded_value a) (padded_value y))
            (k.argument_is ∙ get_or_from_slice_get xs who x x at_x)
            (subst (λ (b : CachePadded Participant). DidPart id key.layout (lists_of key.shapes) (padded_value k.argument.now) (padded_value b))
            (k.left ∙ get_or_from_slice_get ys who y x at_y) k.call);
      };
    }
