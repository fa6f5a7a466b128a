-- A member's part by its view: it begins, makes its calls, and stops.
use Rattle.std.proofs.Common.{ℕ, ◌≡◌, ◌+◌, ◌≤◌, ◌<◌, refl, sym, ◌∙◌, ap, subst, arith, Bool, true, false, List, [], ◌∷◌, ◌++◌, inl, inr}
use Rattle.std.proofs.lemmas.Bool.{cases_Bool}
use Rattle.std.specs.Prelude.{MatchBool, ◌&&◌, ◌||◌, not}
use Rattle.tide_model.proofs.OwnCalls.{called}
use Rattle.tide_model.proofs.PeriodLaws.{open_count-prefix}
use Rattle.tide_model.proofs.Prefixes.{prefix_before, prefix_of_prefix}
use Rattle.tide_model.specs.Caller.{IsOwn, MakesCall}
use Rattle.tide_model.specs.Layout.{Layout}
use Rattle.tide_model.specs.History.{plain}
use Rattle.tide_model.specs.Periods.{next_run, open_count}
use Rattle.tide_model.specs.Prefix.{IsPrefix, prefix_refl, prefix_trans}
use Rattle.tide_model.specs.Refused.{ShapeLists}
use Rattle.tide_model.specs.Script.{retry_of}
use Rattle.tide_model.specs.Share.{ends_share}
use Rattle.tide_model.specs.declared.entry.Entry.TheVariants.{Open}
use Rattle.tide_model.specs.declared.entry.Event.{Event}
use Rattle.tide_model.specs.declared.op.Op.{Op}
use Rattle.tide_model.specs.declared.op.Reply.{Reply}
use Rattle.tide_mutator.specs.owed.Calling.{Kept, kept}
use Rattle.tide_posts.proofs.Sharing.{IsSharing-more, IsSharing-nothing, seen_of_ticket}
use Rattle.tide_posts.proofs.tide_heap.Newcomers.{begun_view-first}
use Rattle.tide_posts.specs.Posts.{TicketTells}
use Rattle.tide_posts.specs.Schedule.{OpensLater, OpensPart}
use Rattle.tide_posts.specs.Shares.{IsSharing}
use Rattle.tide_posts.specs.tide_heap.Parties.{longer}
use Rattle.tide_posts.specs.tide_heap.Turns.{heard_view}
use Rattle.tide_posts.specs.tide_heap.tide_core.declared.machine.view.View.{View}
use Rattle.tide_posts.specs.tide_heap.tide_core.machine.kinds.Activate.{begun_view}
use Rattle.tide_posts.specs.tide_heap.tide_core.machine.kinds.Split.{split_view}
use Rattle.tide_posts.specs.tide_heap.tide_core.machine.kinds.StoreStopped.{stopped_view}
use Rattle.tide_server.specs.AtWork.{IsAtWork, IsParked}
use Rattle.tide_server.specs.Members.{Retries, begins_next, is_over}
use Rattle.tide_server.specs.declared.member.Member.{Member}

module _ (works : Bool) (v : View) (left : ℕ) (ended : Bool)
    (stands : MatchBool works (IsAtWork v left ended) (IsParked v)) where
  -- a member that works is in the midst of a part, and one that doesn't stands still
  pub at_work : works ≡ true → IsAtWork v left ended
  at_work is = subst (λ (b : Bool). MatchBool b (IsAtWork v left ended) (IsParked v)) is stands

  pub at_rest : works ≡ false → IsParked v
  at_rest is = subst (λ (b : Bool). MatchBool b (IsAtWork v left ended) (IsParked v)) is stands

  -- either way what it has seen has no other calls of its own than those that it made
  pub owns : IsOwn v.who v.seen v.mine
  owns = elim (cases_Bool works) [
    | inl is ↦ (at_work is).sharing.own
    | inr is ↦ (at_rest is).own
  ]

-- a parked mutator begins the part of a ticket
pub IsAtWork-begun : (layout : Layout) (v t w : View) → w ≡ begun_view (heard_view v t) → IsParked v →
    v.period < t.period → TicketTells layout t → t.run ≤ 4294967295 → IsPrefix t.seen w.seen → IsOwn w.who w.seen w.mine →
    IsAtWork w t.run false
IsAtWork-begun layout v t w is parked later tells few told own =
    let begun : v.begun < t.period = (let most = parked.begun in omega (arith, most, later)) in
    let first = is ∙ begun_view-first v t begun in
    let seen = subst (λ (x : View). IsPrefix t.seen x.seen) first told in
    let same = seen_of_ticket t.period t.run v.period v.seen t.seen (longer v.seen t.seen) tells.opening parked.opens later refl seen in
    subst (λ (x : View). IsAtWork x t.run false) (sym first) record {
      runs = refl;
      begun = refl;
      once = later;
      made = 0;
      count = omega arith;
      few = few;
      sharing = IsSharing-nothing v.who t.period t.run t.seen (longer v.seen t.seen) v.mine tells.opening same
          (subst (λ (x : View). IsOwn x.who x.seen x.mine) first own);
      born = omega arith;
      visits = refl;
    }

-- a later part is opened then
pub opens_later : (layout : Layout) (v t : View) (seen : List Event) → IsParked v → v.period < t.period →
    TicketTells layout t → IsPrefix v.seen seen → IsPrefix t.seen seen → OpensLater layout v.seen seen
opens_later layout v t seen parked later tells had told = record {
  pace = whole.pace;
  stops = whole.stops;
  before = whole.before;
  periods = whole.periods;
  had = elim (prefix_of_prefix v.seen t.seen seen had told) [
    | inl shorter ↦ elim (prefix_before v.seen whole.before opening (subst (IsPrefix v.seen) whole.is shorter)) [
      | inl less ↦ less
      | inr same ↦ absurd (not_before (subst (IsPrefix t.seen) (whole.is ∙ sym same) (prefix_refl t.seen)))
    ]
    | inr longer ↦ absurd (not_before longer)
  ];
  opens = subst (λ (l : List Event). IsPrefix l seen) whole.is told;
}
  where
    whole : OpensPart layout t.seen
    whole = tells.periods

    opening : Event
    opening = plain (Open (open_count whole.before + 1) (next_run whole.pace layout whole.before))

    not_before : IsPrefix t.seen v.seen → ⊥
    not_before longer =
        let more = open_count-prefix t.seen v.seen longer in
        let few = parked.opens in
        let count = tells.opening.count in
        omega (arith, more, few, count, later)

or_true : (b : Bool) → (b || true) ≡ true
or_true true = refl
or_true false = refl

-- a share is over where the last call ended it
pub over_where_ended : (works none ended : Bool) → works ≡ true → ended ≡ true → (works && (none || ended)) ≡ true
over_where_ended works none ended working over =
    ap (λ (b : Bool). b && (none || ended)) working ∙ ap (λ (b : Bool). none || b) over ∙ or_true none

-- whose share is over begins the next part before its next call
pub begins_where_over : (m : Member) → is_over m ≡ true → begins_next m ≡ true
begins_where_over m over = ap (λ (b : Bool). not m.works || b) over ∙ or_true (not m.works)

-- it makes one more call
pub IsAtWork-called : (layout : Layout) (shapes : ShapeLists) (v w : View) (left now : ℕ) (op : Op) (reply : Reply) →
    IsAtWork v left false → left ≡ now + 1 → Retries v op → kept w ≡ kept v → w.born ≤ v.born + 1 →
    MakesCall layout shapes v.who op reply v.seen w.seen v.mine w.mine →
    IsAtWork w now (ends_share (retry_of v.who v.mine) (op, reply))
IsAtWork-called layout shapes v w left now op reply works less same kept' births makes = record {
  runs = ap (λ (k : Kept). k.runs) kept' ∙ works.runs;
  begun = ap (λ (k : Kept). k.begun) kept' ∙ works.begun ∙ sym (ap (λ (k : Kept). k.ticket) kept');
  once =
      let period = ap (λ (k : Kept). k.period) kept' in
      let ticket = ap (λ (k : Kept). k.ticket) kept' in
      let once = works.once in
      omega (arith, period, ticket, once);
  made = works.made + 1;
  count =
      let run = ap (λ (k : Kept). k.run) kept' in
      let count = works.count in
      omega (arith, run, count, less);
  few = (let run = ap (λ (k : Kept). k.run) kept' in let few = works.few in omega (arith, run, few));
  sharing =
      let count = works.count in
      subst (λ (n : ℕ). IsSharing w.who n w.run w.seen w.mine (works.made + 1) ends) (sym (ap (λ (k : Kept). k.ticket) kept'))
      (subst (λ (n : ℕ). IsSharing w.who v.ticket n w.seen w.mine (works.made + 1) ends) (sym (ap (λ (k : Kept). k.run) kept'))
      (subst (λ (n : ℕ). IsSharing n v.ticket v.run w.seen w.mine (works.made + 1) ends) (sym (ap (λ (k : Kept). k.who) kept'))
      (IsSharing-more layout shapes v.who v.ticket v.run works.made op reply v.seen w.seen v.mine w.mine works.sharing
      (omega (arith, count, less)) same makes)));
  born = (let born = works.born in omega (arith, born, births));
  visits = ap (λ (k : Kept). k.visits) kept' ∙ works.visits;
}
  where
    ends : Bool
    ends = ends_share (retry_of v.who v.mine) (op, reply)

-- it stops
pub IsParked-stopped : (v w : View) → w ≡ split_view (stopped_view v) → v.begun ≡ v.ticket →
    IsOwn v.who v.seen v.mine → open_count v.seen ≤ v.ticket → IsParked w
IsParked-stopped v w is begun own opens = subst IsParked (sym is) record {
  rests = refl;
  begun = (omega (arith, begun));
  own = own;
  opens = opens;
}

-- a call that its caller made after it had heard more of the history
pub MakesCall-later : (layout : Layout) (shapes : ShapeLists) (who : ℕ) (op : Op) (reply : Reply)
    (old mid new mine_old mine_mid mine_new : List Event) → IsPrefix old mid → mine_mid ≡ mine_old → IsOwn who old mine_old →
    MakesCall layout shapes who op reply mid new mine_mid mine_new →
    MakesCall layout shapes who op reply old new mine_old mine_new
MakesCall-later layout shapes who op reply old mid new mine_old mine_mid mine_new longer same own makes = record {
  took = makes.took;
  between = makes.between;
  seen = prefix_trans old mid new longer makes.seen;
  lawful = makes.lawful;
  ends = makes.ends;
  adds = makes.adds ∙ ap (λ (l : List Event). l ++ called who op reply makes.took ∷ []) same;
  were_own = own;
  are_own = makes.are_own;
}
