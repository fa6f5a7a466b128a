-- Who was just seated stands on its heap.
use Rattle.std.proofs.Common.{ℕ, suc, ◌≡◌, List, [], ◌∷◌, sym, ap, subst, ◌∙◌, Bool, true, false}
use Rattle.std.proofs.lemmas.List.Elements.{All-cons, All-nil}
use Rattle.std.specs.Arc.{arc_value}
use Rattle.std.specs.List.{AllZip}
use Rattle.std.specs.Prelude.{All, MatchBool}
use Rattle.tide.specs.atomic_table.Seated.{TableId}
use Rattle.tide.specs.tide_heap.tide_core.declared.machine.view.View.{View}
use Rattle.tide.specs.tide_heap.tide_core.machine.Frozen.{newcomer}
use Rattle.tide.specs.tide_model.Layout.{Layout}
use Rattle.tide.specs.tide_mutator.calls.Viewed.{view_of}
use Rattle.tide.specs.tide_server.AtWork.{IsAtWork, IsParked}
use Rattle.tide.specs.tide_server.Helpers.{IsHelperOf}
use Rattle.tide.specs.tide_server.Members.{IsMemberOf}
use Rattle.tide.specs.tide_server.Opened.{AreHelpers, AreMembers}
use Rattle.tide.specs.tide_server.declared.helper.Helper.{Helper}
use Rattle.tide.specs.tide_server.declared.member.Member.{Member}
use Rattle.tide_c.specs.Opened.{HasPlace, HasSeat}
use Rattle.tide_c.specs.Parties.{PartyStands}
use Rattle.tide_c.specs.declared.party.Party.{Party}

-- who is at work runs
runs : (works : Bool) (v : View) (left : ℕ) (ended : Bool) → MatchBool works (IsAtWork v left ended) (IsParked v) →
    works ≡ true → v.runs ≡ true
runs true v left ended stands is = stands.runs
runs false v left ended stands is = absurd (cc)

module _ (layout : Layout) (heap hands : TableId) where
  -- a member that has made no call is in the midst of no part
  is_new : (who : ℕ) (m : Member) → IsMemberOf layout heap hands m → view_of m.mutator ≡ newcomer who → m.works ≡ true → ⊥
  is_new who m of is works =
      let rests : (view_of m.mutator).runs ≡ false = ap (λ (v : View). v.runs) is in
      let at_work = runs m.works (view_of m.mutator) m.left m.ended of.stands works in absurd (cc)

  seat_stands : (base who : ℕ) (m : Member) (one : Party) → IsMemberOf layout heap hands m → view_of m.mutator ≡ newcomer who →
      HasSeat layout heap hands base m one → PartyStands one
  seat_stands base who m one of is seat =
      let p = seat.party in
      let of_its : IsMemberOf (arc_value p.shared).heap.key.layout (arc_value p.shared).heap.table.shared.table_id
      (arc_value p.shared).hands.shared.table_id p.member =
      subst (λ (l : Layout). IsMemberOf l (arc_value p.shared).heap.table.shared.table_id
      (arc_value p.shared).hands.shared.table_id p.member) (sym seat.its_layout)
      (subst (λ (id : TableId). IsMemberOf layout id (arc_value p.shared).hands.shared.table_id p.member) (sym seat.its_heap)
      (subst (λ (id : TableId). IsMemberOf layout heap id p.member) (sym seat.its_hands)
      (subst (IsMemberOf layout heap hands) (sym seat.is_member) of))) in
      subst PartyStands (sym seat.is) (record {
        of = of_its;
        left = seat.stays ∙ sym (ap (λ (x : Member). (view_of x.mutator).left) seat.is_member ∙ ap (λ (v : View). v.left) is);
        goes_on = λ works. absurd (is_new who m of is (sym (ap (λ (x : Member). x.works) seat.is_member) ∙ works));
      })

  -- so all who were seated stand
  pub seats_stand : (base first : ℕ) (ms : List Member) (ps : List Party) → AreMembers layout heap hands first ms →
      AllZip (HasSeat layout heap hands base) ms ps → All PartyStands ps
  seats_stand base first [] [] are seated = All-nil PartyStands
  seats_stand base first [] (p ∷ ps) are seated = absurd seated
  seats_stand base first (m ∷ ms) [] are seated = absurd seated
  seats_stand base first (m ∷ ms) (p ∷ ps) are seated = All-cons PartyStands p ps
      (seat_stands base first m p are.0 are.1 seated.0) (seats_stand base (suc first) ms ps are.2 seated.1)

  place_stands : (h : Helper) (one : Party) → IsHelperOf layout heap hands h → HasPlace layout heap hands h one → PartyStands one
  place_stands h one of place =
      let p = place.party in
      subst PartyStands (sym place.is)
      (subst (λ (l : Layout). IsHelperOf l (arc_value p.shared).heap.table.shared.table_id
      (arc_value p.shared).hands.shared.table_id p.helper) (sym place.its_layout)
      (subst (λ (id : TableId). IsHelperOf layout id (arc_value p.shared).hands.shared.table_id p.helper) (sym place.its_heap)
      (subst (λ (id : TableId). IsHelperOf layout heap id p.helper) (sym place.its_hands)
      (subst (IsHelperOf layout heap hands) (sym place.is_helper) of))))

  pub places_stand : (first : ℕ) (hs : List Helper) (ps : List Party) → AreHelpers layout heap hands first hs →
      AllZip (HasPlace layout heap hands) hs ps → All PartyStands ps
  places_stand first [] [] are placed = All-nil PartyStands
  places_stand first [] (p ∷ ps) are placed = absurd placed
  places_stand first (h ∷ hs) [] are placed = absurd placed
  places_stand first (h ∷ hs) (p ∷ ps) are placed = All-cons PartyStands p ps
      (place_stands h p are.0 placed.0) (places_stand (suc first) hs ps are.2 placed.1)
