-- A store that gives the slot home is allowed.
use Rattle.std.proofs.Common.{ℕ, List, sym, subst}
use mathlib.Core.Option.{none}
use Rattle.atomic_table.specs.Table.{step, Allows}
use Rattle.tide_hands.specs.declared.parcel.Parcel.{Parcel}
use Rattle.tide_hands.specs.Rule.{Rule, Gave}
use Rattle.tide_hands.proofs.Giving.{give_allowed}
use Rattle.tide_hands.proofs.steps.give.Goals as goal

pub store-requires : goal.store-requires
store-requires g c =
    let ticket_ok = g.P.Parcels.ticket_ok in
    let note_ok = g.P.Parcels.note_ok in
    let name = g.K.Keyed.name c.args.table.now.key in
    let count = g.K.Keyed.count c.args.table.now.key in
    let slots = c.args.table.now.table_id.slots in
    let id = c.args.seat.now.id in
    let me = c.args.seat.now.me.0 in
    let place = c.args.place in
    let word = c.args.word in
    let lies = c.requires.lies in (
      c.requires.own,
      c.requires.within.0,
      subst (λ (carried : List (ℕ × Parcel g.row.T.Denot g.row.N.Denot)).
          Allows (Rule ticket_ok note_ok name count) slots id (me, carried) place (λ _. word)
          (λ _. Gave ticket_ok note_ok me.name (step slots place word 0 none) (me, carried) word)) (sym lies.is)
          (give_allowed ticket_ok note_ok name count slots id place word me lies.parcel c.requires.holds c.requires.its
          lies.content c.requires.moves c.requires.within.1),
    )
