-- After the exchange the parcel lies in the slot.
use Rattle.std.proofs.Common.{ℕ, List, ◌∷◌, ap, sym, subst, ◌∙◌}
use Rattle.atomic_table.specs.Table.{Me, rest}
use Rattle.tide_hands.specs.declared.parcel.Parcel.{Parcel}
use Rattle.tide_hands.specs.declared.view.HandView.{HandView}
use Rattle.tide_hands.specs.Rule.{Content, round_after}
use Rattle.tide_hands.proofs.steps.put.Goals as goal

pub give-requires-clause-lies : goal.give-requires-clause-lies
give-requires-clause-lies g c =
    let held = c.exchange-old.ensures.3 in
    let place = c.args.place in
    let word = c.args.word in
    let parcel = c.args.parcel in
    record {
      parcel = parcel;
      is = ap (λ (me : Me (Parcel g.row.T.Denot g.row.N.Denot) (HandView g.row.I.Denot)). me.1) held
          ∙ ap (λ (slots : List (ℕ × Parcel g.row.T.Denot g.row.N.Denot)). (place, parcel) ∷ rest slots) c.requires.slot.1;
      content = subst (λ (view : HandView g.row.I.Denot).
          Content g.P.Parcels.ticket_ok g.P.Parcels.note_ok view.name place (round_after place word view) word parcel)
          (sym (ap (λ (me : Me (Parcel g.row.T.Denot g.row.N.Denot) (HandView g.row.I.Denot)). me.0) held))
          c.requires.content;
    }
