-- What a mutator's part makes.
use Rattle.std.proofs.Common.{ℕ, ◌≡◌, ◌<◌, ◌≤◌, ◌∙◌, sym, ap, subst, arith, Bool, false, List}
use Rattle.std.proofs.lemmas.Result.{err_from_is_err_and}
use Rattle.tide_heap.specs.tide_core.declared.machine.view.View.{View}
use Rattle.tide_model.specs.Prefix.{prefix_trans}
use Rattle.tide_model.specs.declared.entry.Event.{Event}
use Rattle.tide_mutator.specs.calls.Viewed.{view_of}
use Rattle.tide_periods.specs.Own.{RanOwnShare}
use Rattle.tide_periods.specs.Store.{Setting}
use Rattle.tide_shape.specs.Lists.{lists_of}
use Rattle.tide_threads.proofs.Making.{HasPlayed-stopped}
use Rattle.tide_threads.specs.Works.{room_by, Same}
use Rattle.tide_threads.proofs.calling.CallingMutator.play.Goals as goal

pub begin-requires : goal.begin-requires
begin-requires g c =
    let ready = c.requires.ready in record {
      own = ready.table;
      of_heap = ready.of_heap;
      rests = ready.rests;
      stays = ready.stays;
      period = ready.period;
      begun = ready.begun;
    }

pub returns-in_err-ended : goal.returns-in_err-ended
returns-in_err-ended g c =
    let failed = err_from_is_err_and c.from_residual.result c.from_residual.ensures.1 in
    rw failed.1 (record { made = tt })

pub stop-note-requires : goal.stop-note-requires
stop-note-requires g c =
    let ready = c.requires.ready in
    let began = c.begin.ensures.begun in
    let rest = c.make_share.ensures.same in
    let ticket = ap (λ (s : Same). s.kept.ticket) rest ∙ began.ticket in
    let period = ap (λ (s : Same). s.kept.period) rest ∙ began.period in
    let earlier = ready.period in record {
      own = ap (λ (s : Same). s.table_id) rest ∙ c.begin.ensures.own ∙ ready.table;
      mutator = subst (λ (who : ℕ). who < c.args.heap.now.key.layout.mutators) (sym (ap (λ (s : Same). s.kept.who) rest ∙ began.who)) ready.is_mutator;
      begun = ap (λ (s : Same). s.kept.runs) rest ∙ began.runs;
      of_part = ap (λ (s : Same). s.kept.begun) rest ∙ began.begun ∙ sym ticket;
      once = omega (arith, ticket, period, earlier);
    }

pub returns : goal.returns
returns g c =
    let ready = c.requires.ready in
    let t = c.args.ticket.seat.me.0 in
    let x = c.args.self.now in
    let v = view_of x.mutator in
    let u0 = view_of c.begin.new.mutator in
    let u1 = view_of c.make_share.new.mutator in
    let w = view_of c.stop-note.new.self in
    let y = c.make_share.new.cursor in
    let ended = c.in_ok-ended.ended in
    let setting : Setting = record { layout = c.args.heap.now.key.layout; shapes = lists_of c.args.heap.now.key.shapes } in
    let rest = c.make_share.ensures.same in
    let table = ap (λ (s : Same). s.table_id) rest ∙ c.begin.ensures.own ∙ ready.table in
    record {
      made = record {
        table = c.stop-note.ensures.same.0 ∙ table;
        of_heap = c.stop-note.ensures.note.0 ∙ table;
        played = HasPlayed-stopped t v u0 u1 w c.stop-note.result.seat.me.0 x.cursor.who y.retired c.begin.ensures.begun
            (ap (λ (s : Same). s.kept) rest) ready.number c.in_ok-ended.ensures.works.stays c.stop-note.ensures.stopped
            c.stop-note.ensures.note.1;
        seen = u0.seen;
        ran = subst (λ (z : View). RanOwnShare setting t.run u0.seen z.seen v.mine z.mine x.cursor y ended) (sym c.stop-note.ensures.stopped)
            (subst (λ (l : List Event). RanOwnShare setting t.run u0.seen u1.seen l u1.mine x.cursor y ended) c.begin.ensures.mine
            (subst (λ (n : ℕ). RanOwnShare setting n u0.seen u1.seen u0.mine u1.mine x.cursor y ended) c.run-run.ensures
            c.in_ok-ended.ensures.ran));
      };
    }

-- a mutator without births in a part has room for each number of calls that a part may have
room : (left : Bool) (born run : ℕ) → left ≡ false → born ≡ 0 → run < 4294967296 → run ≤ room_by left born
room left born run stays none few =
    subst (λ (b : Bool). run ≤ room_by b born) (sym stays) (subst (λ (n : ℕ). run ≤ room_by false n) (sym none) (omega arith))

pub make_share-requires : goal.make_share-requires
make_share-requires g c =
    let ready = c.requires.ready in
    let began = c.begin.ensures.begun in
    let u = view_of c.begin.new.mutator in
    let knows = ready.knows in (
      c.type_bounds.sync-T,
      (
        c.begin.ensures.own ∙ ready.table,
        (
          ready.number ∙ sym began.who,
          (
            record {
              is_mutator = subst (λ (who : ℕ). who < c.args.heap.now.key.layout.mutators) (sym began.who) ready.is_mutator;
              runs = began.runs;
              stays = began.left ∙ ready.stays ∙ sym ready.active;
            },
            (
              room u.left u.born c.run-run.result (began.left ∙ ready.stays) began.born c.run-run.type_inv,
              record {
                known = knows.known;
                earlier = prefix_trans knows.known c.args.ticket.seat.me.0.seen u.seen knows.earlier c.begin.ensures.told;
                lawful = knows.lawful;
                own = c.begin.ensures.mine ∙ knows.own;
                at = knows.at;
              },
            ),
          ),
        ),
      ),
    )
