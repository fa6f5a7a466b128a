use Rattle.std.proofs.Common.{◌≡◌, ◌∙◌, sym, ap, subst, arith, length, Some}
use Rattle.std.specs.Prelude.{slice_set}
use Rattle.tide_model.specs.Applied.{put_cell}
use Rattle.tide_plain.specs.declared.parts.stored_cell.Pair.{Pair}
use Rattle.tide_plain.specs.declared.parts.stored_cell.StoredCell.{StoredCell}
use Rattle.tide_plain.specs.stored.Contents.{state_of, stored_at, IsStored}
use Rattle.tide_plain.specs.parts.Pairs.{pairs_of, IsDistinctPairs}
use Rattle.tide_plain.specs.stored.Stored.{Stored}
use Rattle.tide_plain.proofs.stored_laws.PairCells.{room_for-seat, full-seatless, state_of-pair}
use Rattle.tide_plain.proofs.parts_laws.PairLaws.{IsDistinctPairs-set, pairs_of-put}
use Rattle.tide_plain.proofs.stored.contents.Contents.set_pair.Goals as goal

pub set_place-requires-clause-distinct : goal.set_place-requires-clause-distinct
set_place-requires-clause-distinct c =
    let now = c.args.self.now in
    let ok = subst IsStored c.self.view_is c.self.invariant in
    let stored = c.stored.result.now in
    let is : stored ≡ stored_at now c.args.table = c.stored.ensures ∙ ap (λ (s : Stored). stored_at s c.args.table) c.self.view_is in
    let distinct = subst (λ (s : StoredCell). IsDistinctPairs s.pairs) (sym is) (ok.pairs c.args.table c.requires.live) in
    subst (λ (s : StoredCell). IsDistinctPairs (slice_set s.pairs c.in-Some.place (Some (record { key = c.args.key; value = c.args.value })))) is
    (IsDistinctPairs-set stored.pairs c.in-Some.place c.args.key (Some (record { key = c.args.key; value = c.args.value })) distinct c.in-Some.ensures.seat
    (λ pair same. let both : record { key = c.args.key; value = c.args.value } ≡ pair = cc (same) in sym (ap (λ (p : Pair). p.key) both)))

pub returns-in-Some-clause-room : goal.returns-in-Some-clause-room
returns-in-Some-clause-room c =
    let now = c.args.self.now in
    let ok = subst IsStored c.self.view_is c.self.invariant in
    let stored = c.stored.result.now in
    let is : stored ≡ stored_at now c.args.table = c.stored.ensures ∙ ap (λ (s : Stored). stored_at s c.args.table) c.self.view_is in
    let eight : length stored.pairs ≡ 8 = omega arith in
    sym (room_for-seat now c.args.table c.args.key c.in-Some.place stored (record { stored = ok; references = c.requires.references }) c.requires.live is eight c.in-Some.ensures.seat)

pub returns-in-Some-clause-leaves : goal.returns-in-Some-clause-leaves
returns-in-Some-clause-leaves c = λ yes.
    let now = c.args.self.now in
    let ok = subst IsStored c.self.view_is c.self.invariant in
    let stored = c.stored.result.now in
    let is : stored ≡ stored_at now c.args.table = c.stored.ensures ∙ ap (λ (s : Stored). stored_at s c.args.table) c.self.view_is in
    record {
      state = c.set_place.ensures.state
          ∙ ap (λ (s : StoredCell). put_cell (state_of now) c.args.table (record ((state_of now).cells c.args.table) { pairs = pairs_of (slice_set s.pairs c.in-Some.place (Some (record { key = c.args.key; value = c.args.value }))) })) (sym is)
          ∙ state_of-pair now c.args.table c.args.key stored (slice_set stored.pairs c.in-Some.place (Some (record { key = c.args.key; value = c.args.value }))) (Some c.args.value) c.requires.live is
          (pairs_of-put stored.pairs c.in-Some.place c.args.key c.args.value c.in-Some.ensures.seat);
      layout = c.set_place.ensures.layout;
      shapes = c.set_place.ensures.shapes;
    }

pub returns-in-None-clause-room : goal.returns-in-None-clause-room
returns-in-None-clause-room c =
    let now = c.args.self.now in
    let ok = subst IsStored c.self.view_is c.self.invariant in
    let stored = c.stored.result.now in
    let is : stored ≡ stored_at now c.args.table = c.stored.ensures ∙ ap (λ (s : Stored). stored_at s c.args.table) c.self.view_is in
    let eight : length stored.pairs ≡ 8 = omega arith in
    sym (full-seatless now c.args.table c.args.key stored (record { stored = ok; references = c.requires.references }) c.requires.live is eight c.in-None.ensures.absent c.in-None.ensures.full)
