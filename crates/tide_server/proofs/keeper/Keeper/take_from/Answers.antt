-- What a place that is done with leaves, and one whose note is due still.
use Rattle.std.proofs.Common.{◌≡◌, ◌∙◌, false, refl, rules, sym, ap, subst}
use Rattle.tide_model.specs.Layout.{Layout}
use Rattle.tide_posts.specs.Among.{times}
use Rattle.tide_posts.specs.Name.{Name}
use Rattle.tide_posts.specs.Posts.{IsNoteFor}
use Rattle.tide_server.proofs.Waiting.{IsWaiting-left, IsWaiting-same, IsWaiting-told, IsWaiting-visited}
use Rattle.tide_server.specs.Keepers.{has_left}
use Rattle.tide_server.proofs.keeper.Keeper.take_from.Goals as goal

pub returns-then-has_left-clause-waits : goal.returns-then-has_left-clause-waits
returns-then-has_left-clause-waits g c =
    let s = c.args.standing.now in
    let k = c.args.self.now in
    IsWaiting-left s.heap.key.layout s.heap.table.shared.table_id s.hands.shared.table_id k c.requires.stands c.args.place
    c.requires.next
    (ap (λ (l : Layout). has_left l k.left c.args.place) (sym c.layout-layout.ensures) ∙ sym c.has_left.ensures ∙ c.if-has_left.true)

pub returns-in_default-clause-waits : goal.returns-in_default-clause-waits
returns-in_default-clause-waits g c =
    let s = c.args.standing.now in
    let k = c.args.self.now in
    let e = c.take_note.ensures in
    IsWaiting-same s.heap.key.layout s.heap.table.shared.table_id s.hands.shared.table_id k c.requires.stands
    _
    (record { seated = e.same.0; kept = e.kept; over = e.over; ends = e.ends; given = e.given.0; tickets = e.given.1; free = e.free })
    (e.none c.in_default.is).1 refl refl refl refl refl refl refl refl

pub returns-then-place-mutators-clause-waits : goal.returns-then-place-mutators-clause-waits
returns-then-place-mutators-clause-waits g c =
    let s = c.args.standing.now in
    let layout = s.heap.key.layout in
    let k = c.args.self.now in
    let place = c.args.place in
    let e = c.take_note.ensures in
    let number = times place k.seat.seat.me.0.tickets in
    let told : IsNoteFor (record { layout = layout; table_id = s.heap.table.shared.table_id }) place number c.in-Some.handed.note c.in-Some.ended c.in-Some.handed.early =
    subst (λ (n : Name). IsNoteFor n place number c.in-Some.handed.note c.in-Some.ended c.in-Some.handed.early) c.requires.stands.of.named c.in-Some.ensures.note in
    let isnt : has_left layout k.left place ≡ false =
    ap (λ (l : Layout). has_left l k.left place) (sym c.layout-layout.ensures) ∙ sym c.has_left.ensures ∙ c.if-has_left.false in
    let of_part = told.part ∙ c.requires.stands.rounds place c.requires.within isnt in
    IsWaiting-visited layout s.heap.table.shared.table_id s.hands.shared.table_id k c.requires.stands place c.requires.next
    c.requires.within (search rules) (search rules) c.in-Some.handed.note c.in-Some.ended c.in-Some.handed.early number told _
    (record { seated = e.same.0; kept = e.kept; over = e.over; ends = e.ends; given = e.given.0; tickets = e.given.1; free = e.free })
    c.in-Some.ensures.taken.1 c.in-Some.ensures.due
    c.take.ensures.same.0 c.take.ensures.noted refl refl refl (search rules) refl refl refl (search rules) of_part

pub returns-clause-waits : goal.returns-clause-waits
returns-clause-waits g c =
    let s = c.args.standing.now in
    let layout = s.heap.key.layout in
    let k = c.args.self.now in
    let place = c.args.place in
    let e = c.take_note.ensures in
    let number = times place k.seat.seat.me.0.tickets in
    let told : IsNoteFor (record { layout = layout; table_id = s.heap.table.shared.table_id }) place number c.in-Some.handed.note c.in-Some.ended c.in-Some.handed.early =
    subst (λ (n : Name). IsNoteFor n place number c.in-Some.handed.note c.in-Some.ended c.in-Some.handed.early) c.requires.stands.of.named c.in-Some.ensures.note in
    let isnt : has_left layout k.left place ≡ false =
    ap (λ (l : Layout). has_left l k.left place) (sym c.layout-layout.ensures) ∙ sym c.has_left.ensures ∙ c.if-has_left.false in
    let of_part = told.part ∙ c.requires.stands.rounds place c.requires.within isnt in
    IsWaiting-told layout s.heap.table.shared.table_id s.hands.shared.table_id k c.requires.stands place c.requires.next
    c.requires.within (search rules) (search rules) c.in-Some.handed.note c.in-Some.ended c.in-Some.handed.early number told _
    (record { seated = e.same.0; kept = e.kept; over = e.over; ends = e.ends; given = e.given.0; tickets = e.given.1; free = e.free })
    c.in-Some.ensures.taken.1 c.in-Some.ensures.due
    c.take.ensures.same.0 c.take.ensures.noted refl refl refl (search rules) (search rules) (search rules) (search rules) of_part
    (search rules) (search rules) (search rules)
