-- What a call leaves of its mutator's claims.
use Rattle.std.proofs.Common.{ℕ, ◌≡◌, refl, sym, ◌∙◌, ap, subst, Bool, false, List, [], ◌∷◌, ◌++◌, length, Option, None, Some}
use Rattle.std.specs.Prelude.{◌==◌, drop, filter, nat_le, not}
use Rattle.tide_model.specs.declared.op.Op.{Op}
use Rattle.tide_model.specs.declared.op.Op.TheVariants.{Alloc, Get, Put, Claim, Release, Unclaim, Add, SetProp, PairSet, PairDel, Group, Collect}
use Rattle.tide_model.specs.declared.op.Reply.{Reply}
use Rattle.tide_model.specs.declared.op.Reply.TheVariants.{Asked, Born, Done, Refused, Seen}
use Rattle.tide_model.specs.declared.val.Val.{Val}
use Rattle.tide_model.specs.Applied.{add_property, after_call, at_cell, put_cell, put_claims, put_pair, put_property}
use Rattle.tide_model.specs.Numbers.{put_at}
use Rattle.tide_model.specs.Refused.{claims_most}
use Rattle.tide_model.specs.State.{State}
use Rattle.tide_model.proofs.NumberLaws.{put_at_elim}
use Rattle.tide_model.proofs.PhaseLaws.{at_cell_keeps, put_slot_keeps}
use Rattle.tide_model.proofs.ReferenceLaws.{after_call-refused}
use Rattle.tide_words.specs.heap.Heap.{Heap}
use Rattle.tide_call.specs.declared.action.Action.{Action}
use Rattle.tide_call.specs.declared.action.Action.TheVariants as action
use Rattle.tide_call.specs.Callers.{Planner}
use Rattle.tide_call.specs.Claims.{claims_by_action}
use Rattle.tide_call.specs.Actions.{DoesSo, IsAction}
use Rattle.tide_call.specs.ActionWords.{ActionWords}

-- the value at the place where it was put
put_here : (claims : ℕ → List ℕ) (who : ℕ) (own : List ℕ) → put_at claims who own who ≡ own
put_here claims who own = put_at_elim (λ (n : ℕ) (list : List ℕ). n ≡ who → list ≡ own) claims who own (λ is. refl) (λ n apart is. absurd (apart is)) who refl

module _ (caller : Planner) (heap new : Heap) (state : State) (took : Option ℕ) where
  abbrev who : ℕ
  who = caller.who

  -- the call leaves these claims
  abbrev Leaves : Op → Action → Reply → Type 0
  Leaves op does reply = (after_call state caller.who op reply took).claims caller.who ≡ claims_by_action reply op does (state.claims caller.who)

  abbrev SameClaims : State → Type 0
  SameClaims after = after.claims caller.who ≡ state.claims caller.who

  -- of an operation that nothing refuses
  granted : (op : Op) (does : Action) (reply : Reply) → DoesSo caller heap state op does → Leaves op does reply
  granted op does (Refused one) is = ap (λ (after : State). after.claims caller.who) (after_call-refused state caller.who op one took)
  granted (Claim src) does Done is = absurd is
  granted (Release src) does Done (cell, held, is) =
      subst (λ (one : Action). Leaves (Release src) one Done) (sym is)
      (ap (λ (value : Val). (at_cell state value (λ c. put_claims state caller.who (filter (λ claimed. not (claimed == c)) (state.claims caller.who)))).claims caller.who) held
      ∙ put_here state.claims caller.who (filter (λ claimed. not (claimed == cell)) (state.claims caller.who)))
  granted Unclaim does Done is = put_here state.claims caller.who (drop 1 (state.claims caller.who))
  granted (Put src slot val) does Done is =
      put_slot_keeps SameClaims state (state.registers caller.who src) slot (state.registers caller.who val) refl (λ cell. refl)
  granted (Add src key val) does Done is =
      at_cell_keeps SameClaims state (state.registers caller.who src) (λ cell. add_property state cell key (state.registers caller.who val) took) refl (λ cell. refl)
  granted (SetProp src key val) does Done is =
      at_cell_keeps SameClaims state (state.registers caller.who src) (λ cell. put_property state cell key (state.registers caller.who val)) refl (λ cell. refl)
  granted (PairSet src key val) does Done is =
      at_cell_keeps SameClaims state (state.registers caller.who src) (λ table. at_cell state (state.registers caller.who key) (λ cell. put_pair state table cell (Some (state.registers caller.who val)))) refl
      (λ table. at_cell_keeps SameClaims state (state.registers caller.who key) (λ cell. put_pair state table cell (Some (state.registers caller.who val))) refl (λ cell. refl))
  granted (PairDel src key) does Done is =
      at_cell_keeps SameClaims state (state.registers caller.who src) (λ table. at_cell state (state.registers caller.who key) (λ cell. put_pair state table cell None)) refl
      (λ table. at_cell_keeps SameClaims state (state.registers caller.who key) (λ cell. put_pair state table cell None) refl (λ cell. refl))
  granted (Group src n) does Done is =
      at_cell_keeps SameClaims state (state.registers caller.who src) (λ cell. put_cell state cell (record (state.cells cell) { group = n })) refl (λ cell. refl)
  granted (Alloc dst class) does (Born cell) is = refl
  granted (Get dst src slot) does (Seen value) is = refl
  granted Collect does Asked is = refl
  granted op does reply is = refl

  step : (op : Op) (does : Action) (reply : Reply) → IsAction caller heap state op does → ActionWords caller.layout heap caller.who does reply took new → Leaves op does reply
  step op does (Refused one) is words = ap (λ (after : State). after.claims caller.who) (after_call-refused state caller.who op one took)
  step op (action.Refuse one) reply is words = absurd words
  step (Claim src) (action.Claim cell full) Done is words =
      ap (λ (value : Val). (at_cell state value (λ c. put_claims state caller.who (state.claims caller.who ++ c ∷ []))).claims caller.who) is.0
      ∙ put_here state.claims caller.who (state.claims caller.who ++ cell ∷ [])
  step (Claim src) (action.Claim cell full) reply is words = absurd words
  step op does reply is words = granted op does reply is.1

-- a call leaves its mutator's claims as its action says
pub claims_kept : (caller : Planner) (heap new : Heap) (state : State) (op : Op) (does : Action) (reply : Reply) (took : Option ℕ) →
    IsAction caller heap state op does → ActionWords caller.layout heap caller.who does reply took new →
    (after_call state caller.who op reply took).claims caller.who ≡ claims_by_action reply op does (state.claims caller.who)
claims_kept caller heap new state op does reply took is words = step caller heap new state took op does reply is words

-- a claim that is granted finds room among the claims
pub claim_has_room : (caller : Planner) (heap new : Heap) (state : State) (op : Op) (does : Action) (reply : Reply) (src cell : ℕ) (full : Bool) (took : Option ℕ) →
    IsAction caller heap state op does → ActionWords caller.layout heap caller.who does reply took new → op ≡ Claim src → does ≡ action.Claim cell full → reply ≡ Done →
    nat_le claims_most (length caller.claims) ≡ false
claim_has_room caller heap new state op does reply src cell full took is words same_op same_action same_reply =
    let words_here = subst (λ (r : Reply). ActionWords caller.layout heap caller.who (action.Claim cell full) r took new) same_reply
    (subst (λ (p : Action). ActionWords caller.layout heap caller.who p reply took new) same_action words) in
    let here = subst (λ (o : Op). IsAction caller heap state o (action.Claim cell full)) same_op (subst (λ (p : Action). IsAction caller heap state op p) same_action is) in
    sym here.1 ∙ words_here.2
