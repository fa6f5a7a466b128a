-- Why each participant may play, and what it did then.
use Rattle.std.proofs.Common.{get_or}
use Rattle.std.proofs.lemmas.Option.{slice_get-get_or}
use Rattle.crossbeam_utils.specs.Padded.{padded_value}
use Rattle.tide_shape.specs.Lists.{lists_of}
use Rattle.tide_threads.proofs.Shares.{Both-turns}
use Rattle.tide_threads.proofs.Turns.{Both-left, MayPlay-handed}
use Rattle.tide_threads.specs.Playing.{WasHanded}
use Rattle.tide_threads.proofs.playing.play_part.Goals as goal

pub play_all-requires-clause-may : goal.play_all-requires-clause-may
play_all-requires-clause-may g c κs within = λ k d below.
    let id = c.args.heap.now.table.shared.table_id in
    let key = c.args.heap.now.key in
    let v1 = c.args.collector.now.seat.me.0 in
    let ys = c.hand_out.new.participants in
    let x = Both-left (WasHanded id v1) c.args.participants.now ys c.hand_out.ensures.handed k (get_or ys k d) (slice_get-get_or ys k d below) in
    MayPlay-handed id key.layout (lists_of key.shapes) v1 (padded_value x.0) (padded_value (get_or ys k d))
    (c.requires.may k x.0 x.1) x.2

pub returns-clause-turns : goal.returns-clause-turns
returns-clause-turns g c =
    let key = c.args.heap.now.key in
    Both-turns c.args.heap.now.table.shared.table_id key.layout (lists_of key.shapes) c.args.collector.now.seat.me.0
    c.args.participants.now c.hand_out.new.participants c.play_all.new.participants c.requires.may c.hand_out.ensures.handed
    c.play_all.ensures.did c.have_ended.result c.have_ended.ensures
