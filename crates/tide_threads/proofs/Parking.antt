-- A mutator is parked and a visitor stands still, once its note is in and all is frozen.
use Rattle.std.proofs.Common.{ℕ, ◌≡◌, ◌<◌, ◌≤◌, ◌∙◌, sym, ap, subst, arith, Bool, true, inl}
use Rattle.std.specs.Prelude.{Contains}
use Rattle.tide_heap.specs.Parties.{In, IsParty}
use Rattle.tide_heap.specs.Turns.{Freezes, calls_of}
use Rattle.tide_heap.specs.tide_core.declared.machine.view.View.{View}
use Rattle.tide_model.specs.Layout.{Layout}
use Rattle.tide_model.specs.Prefix.{IsPrefix}
use Rattle.tide_model.specs.Refused.{ShapeLists}
use Rattle.tide_model.specs.Caller.{IsOwn}
use Rattle.tide_threads.proofs.Taking.{IsNoted}
use Rattle.tide_threads.specs.Parked.{HasLeft, HasPlayed, IsParked}

module _ (layout : Layout) (shapes : ShapeLists) (v w : View) (freezes : Freezes layout shapes v w) (who : ℕ) (p : View)
    (party : who < layout.mutators) (is : p.who ≡ who) (told : Contains v.noted_calls (calls_of p)) where
  seen_all : IsPrefix p.seen w.seen
  seen_all = subst (λ (x : View). IsPrefix p.seen x.seen) (sym freezes.view)
      (freezes.heard (calls_of p) (subst (IsParty layout) (sym is) (inl party)) told)

  own_all : IsOwn who w.seen p.mine
  own_all = subst (λ (x : View). IsOwn who x.seen p.mine) (sym freezes.view)
      (subst (λ (i : ℕ). IsOwn i v.seen p.mine) is
      (sym (freezes.own (calls_of p) (subst (IsParty layout) (sym is) (inl party)) told)))

  has_left : In who v.gone → HasLeft w who p
  has_left a = record {
    gone = subst (λ (x : View). In who x.gone) (sym freezes.view) a;
    noted = subst (λ (x : View). Contains x.noted_calls (calls_of p)) (sym freezes.view) told;
  }

  same_period : w.period ≡ v.period
  same_period = ap (λ (x : View). x.period) freezes.view

-- who made its part is parked, once its note is in and all is frozen
pub IsParked-played : (layout : Layout) (shapes : ShapeLists) (t v w : View) → Freezes layout shapes v w →
    t.period ≡ v.period → (who : ℕ) (retired : Bool) (p u : View) → who < layout.mutators → HasPlayed t who retired p u →
    IsNoted v who p → IsParked w who retired p
IsParked-played layout shapes t v w freezes of_part who retired p u party played noted' = record {
  is = played.is;
  rests = played.rests;
  left = played.left;
  period = (let a = played.period in let b = same_period layout shapes v w freezes who p party played.is noted'.noted in omega (arith, a, b, of_part));
  begun = (let a = played.begun in let b = same_period layout shapes v w freezes who p party played.is noted'.noted in omega (arith, a, b, of_part));
  visits = played.visits;
  seen = seen_all layout shapes v w freezes who p party played.is noted'.noted;
  own = own_all layout shapes v w freezes who p party played.is noted'.noted;
  gone = λ e. has_left layout shapes v w freezes who p party played.is noted'.noted (noted'.gone (played.left ∙ e));
}

-- so is who had left before
pub IsParked-left : (layout : Layout) (shapes : ShapeLists) (c v w : View) → Freezes layout shapes v w →
    c.period ≤ v.period → (who : ℕ) (p : View) → who < layout.mutators → IsParked c who true p →
    In who v.gone → Contains v.noted_calls (calls_of p) → IsParked w who true p
IsParked-left layout shapes c v w freezes earlier who p party parked gone told = record {
  is = parked.is;
  rests = parked.rests;
  left = parked.left;
  period = (let a = parked.period in let b = same_period layout shapes v w freezes who p party parked.is told in omega (arith, a, b, earlier));
  begun = (let a = parked.begun in let b = same_period layout shapes v w freezes who p party parked.is told in omega (arith, a, b, earlier));
  visits = parked.visits;
  seen = seen_all layout shapes v w freezes who p party parked.is told;
  own = own_all layout shapes v w freezes who p party parked.is told;
  gone = λ _. has_left layout shapes v w freezes who p party parked.is told gone;
}
