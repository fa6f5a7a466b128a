-- What lies in a slot that a seat has taken by a look, and what it may put there, by the number of the place's last
-- ticket.
use Rattle.std.proofs.Common.{ℕ, ◌≡◌, ◌+◌, ◌∙◌, Bool, true, false, arith, refl, sym, ap, subst, inl, inr}
use Rattle.std.proofs.lemmas.Bool.{cases_eq, ne_eqb}
use Rattle.std.specs.Prelude.{◌&&◌, ◌==◌, MatchBool, if◌then◌else◌}
use Rattle.atomic_table.specs.Table.{Me}
use Rattle.tide_hands.specs.Among.{times}
use Rattle.tide_hands.specs.declared.parcel.Parcel.{Parcel}
use Rattle.tide_hands.specs.declared.view.HandView.{HandView}
use Rattle.tide_hands.specs.Rule.{Content, Lies, TookSlot, holding, is_keepers, is_ticket_post, is_turn, lying, round_after, round_at}

-- no ticket is posted where the word stays
no_post : (word : ℕ) → is_ticket_post word word ≡ false
no_post word = elim (cases_eq word 0) [
  | inl is ↦ ap (λ (n : ℕ). is_ticket_post n n) is
  | inr other ↦ ap (λ (b : Bool). b && (word == 1)) (ne_eqb word 0 other)
]

module _ {I : Type 0} (v : HandView I) (place found word : ℕ) (is : found ≡ word) where
  abbrev held : HandView I
  held = holding place found v

  -- the number of the last ticket, by the seat's side
  pub round_keeper : v.keeper ≡ true → round_at place held ≡ times place v.tickets
  round_keeper k = ap (λ (b : Bool). if b then times place v.tickets else v.taken + lying found) k

  pub round_member : v.keeper ≡ false → round_at place held ≡ v.taken + lying word
  round_member k = ap (λ (b : Bool). if b then times place v.tickets else v.taken + lying found) k
      ∙ ap (λ (n : ℕ). v.taken + lying n) is

  -- which is the same where the word stays
  pub round_still : round_after place word held ≡ round_at place held
  round_still =
      let none = ap {B = ℕ} (λ (b : Bool). if b then 1 else 0) (ap (λ (n : ℕ). is_ticket_post n word) is ∙ no_post word) in
      omega (arith, none)

module _ {T N I : Type 0} (ticket_ok : I → ℕ → T → Type 0) (note_ok : I → ℕ → ℕ → N → Bool → Type 0) (place found : ℕ)
    (me after : Me (Parcel T N) (HandView I)) (turn : is_turn me.0 found ≡ true)
    (looked : MatchBool (is_turn me.0 found) (TookSlot ticket_ok note_ok me.0.name place found me after) (after ≡ me)) where
  -- at its turn the seat took the slot
  pub took : TookSlot ticket_ok note_ok me.0.name place found me after
  took = subst (λ (b : Bool). MatchBool b (TookSlot ticket_ok note_ok me.0.name place found me after) (after ≡ me)) turn looked

  -- and may leave what lies there
  pub lies_still : (word : ℕ) → found ≡ word →
      Lies ticket_ok note_ok after.0.name place (round_after place word after.0) word after.1
  lies_still word is = subst (λ (m : Me (Parcel T N) (HandView I)).
      Lies ticket_ok note_ok m.0.name place (round_after place word m.0) word m.1) (sym took.is) record {
        parcel = took.parcel;
        is = refl;
        content = subst (λ (n : ℕ). Content ticket_ok note_ok me.0.name place n word took.parcel)
            (sym (round_still me.0 place found word is))
            (subst (λ (n : ℕ). Content ticket_ok note_ok me.0.name place (round_at place (holding place found me.0)) n took.parcel)
            is took.content);
      }

-- a side's turn, by what it found
pub turn_keeper : {I : Type 0} (v : HandView I) (found word : ℕ) → v.keeper ≡ true → found ≡ word → is_keepers word ≡ true →
    is_turn v found ≡ true
turn_keeper v found word k is keeps =
    ap (λ (b : Bool). if b then is_keepers found else (if is_keepers found then false else true)) k ∙ ap is_keepers is ∙ keeps

pub turn_member : {I : Type 0} (v : HandView I) (found word : ℕ) → v.keeper ≡ false → found ≡ word → is_keepers word ≡ false →
    is_turn v found ≡ true
turn_member v found word k is plays =
    ap (λ (b : Bool). if b then is_keepers found else (if is_keepers found then false else true)) k
    ∙ ap (λ (b : Bool). if b then false else true) (ap is_keepers is ∙ plays)
