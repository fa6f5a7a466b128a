-- Which handles calls of a realm's mutator set, one after another.
use Rattle.std.proofs.Common.{ℕ, ◌≡◌, ◌<◌, ◌+◌, arith, refl, sym, ◌∙◌, ap, subst, Bool, true, false, List, [], ◌∷◌, ◌++◌, length, length-append, inl, inr, append-nil}
use Rattle.std.proofs.lemmas.Bool.{eqb-true, eq-eqb}
use Rattle.std.proofs.lemmas.List.Elements.{All-contains, All-contains_itself, Contains-push, Contains-push_cases}
use Rattle.std.specs.List.{remove}
use Rattle.std.specs.Prelude.{Contains, drop, ◌⊎◌}
use Rattle.tide_heap.specs.tide_core.declared.machine.view.View.{View}
use Rattle.tide_model.specs.Caller.{MakesCall}
use Rattle.tide_model.specs.Layout.{Layout}
use Rattle.tide_model.specs.Prefix.{IsPrefix}
use Rattle.tide_model.specs.Refused.{ShapeLists}
use Rattle.tide_model.specs.declared.entry.Entry.{Entry}
use Rattle.tide_model.specs.declared.entry.Event.{Event}
use Rattle.tide_model.specs.declared.op.Op.{Op}
use Rattle.tide_model.specs.declared.op.Op.TheVariants.{StrongSet, WeakSet}
use Rattle.tide_model.specs.declared.op.Reply.{Reply}
use Rattle.tide_weakref.proofs.Advances.{call_event}
use Rattle.tide_weakref.proofs.MadeLaws.{drop_all, made_cases, made_more}
use Rattle.tide_weakref.proofs.StandingLaws.{all_removed}
use Rattle.tide_weakref.specs.Handles.{IsIn, op_sets_strong, op_sets_weak, sets_strong, sets_weak}
use Rattle.tide_weakref.specs.Jobs.{Jobs, handle_of}
use Rattle.tide_weakref.specs.Setting.{IsKeptIn, NoHandle, SetsAlone, SetsNone, SetsOnly, SetsWhatItTakes, WasMade, WasSet}
use Rattle.tide_weakref.specs.Uses.{IsUnused}
use Rattle.tide_weakref.specs.declared.range.Range16.{Range16}
use Rattle.tide_weakref.specs.declared.weak.Weak.{Weak}

-- where no call was made none was set
none_made : (kind : Entry → Bool) (v : View) → WasMade kind v v → ⊥
none_made kind v was = absurd (
    let none : drop (length v.mine) v.mine ≡ [] =
    ap (λ (l : List Event). drop (length v.mine) l) (sym (append-nil v.mine)) ∙ drop_all v.mine [] in
    let below = (subst (λ (l : List Event). Contains l was.event) none was.made).1 in
    omega (arith, below))

pub sets_since : {These Those : ℕ → Type 0} (v : View) → SetsOnly These Those v v
sets_since v = record {
  strong = λ handle was. absurd (none_made (sets_strong handle) v was);
  weak = λ handle was. absurd (none_made (sets_weak handle) v was);
}

-- where none was set, those that were are any that one likes
pub none_only : {These Those : ℕ → Type 0} (v u : View) → SetsNone v u → SetsOnly These Those v u
none_only v u none = record {
  strong = λ handle was. absurd (none.strong handle was);
  weak = λ handle was. absurd (none.weak handle was);
}

pub alone_only : {These : ℕ → Type 0} (v u : View) (handle : ℕ) → SetsAlone v u handle →
    SetsOnly These (λ other. other ≡ handle) v u
alone_only v u handle alone = record {
  strong = λ other was. absurd (alone.no_other.strong other was);
  weak = alone.no_other.weak;
}

pub kept_only : {Those : ℕ → Type 0} (v u : View) (jobs now : Jobs) → SetsOnly (IsKeptIn now) NoHandle v u →
    SetsOnly (λ handle. IsKeptIn jobs handle ⊎ IsKeptIn now handle) Those v u
kept_only v u jobs now only = record {
  strong = λ handle was. inr (only.strong handle was);
  weak = λ handle was. absurd (only.weak handle was);
}

module _ (v w u : View) (first : IsPrefix v.mine w.mine) (second : IsPrefix w.mine u.mine) where
  -- what was set was set in the first calls or in those that came then
  set_cases : (kind : Entry → Bool) → WasMade kind v u → WasMade kind v w ⊎ WasMade kind w u
  set_cases kind was = elim (made_cases v.mine w.mine u.mine was.event first second was.made) [
    | inl made ↦ inl (record { event = was.event; made = made; is = was.is })
    | inr made ↦ inr (record { event = was.event; made = made; is = was.is })
  ]

  pub set_then : (handle : ℕ) → WasSet v w handle → WasSet v u handle
  set_then handle was = record {
    event = was.event;
    made = made_more v.mine w.mine u.mine was.event first second was.made;
    is = was.is;
  }

  pub sets_then : {These Those : ℕ → Type 0} → SetsOnly These Those v w → SetsOnly These Those w u → SetsOnly These Those v u
  sets_then before after = record {
    strong = λ handle was. (elim (set_cases (sets_strong handle) was) [
      | inl early ↦ before.strong handle early
      | inr late ↦ after.strong handle late
    ]);
    weak = λ handle was. (elim (set_cases (sets_weak handle) was) [
      | inl early ↦ before.weak handle early
      | inr late ↦ after.weak handle late
    ]);
  }

  pub alone_then : (handle : ℕ) → SetsAlone v w handle → SetsNone w u → SetsAlone v u handle
  alone_then handle before after =
      record { was_set = set_then handle before.was_set; no_other = sets_then before.no_other (none_only w u after) }

-- one call
module _ (layout : Layout) (shapes : ShapeLists) (v u : View) (op : Op) (reply : Reply)
    (makes : MakesCall layout shapes v.who op reply v.seen u.seen v.mine u.mine) where
  abbrev made : Event
  made = call_event v.who op reply makes.took

  made_one : drop (length v.mine) u.mine ≡ made ∷ []
  made_one = ap (λ (l : List Event). drop (length v.mine) l) makes.adds ∙ drop_all v.mine (made ∷ [])

  set_by_one : (kind : Entry → Bool) → WasMade kind v u → kind made.entry ≡ true
  set_by_one kind was = elim (Contains-push_cases [] made was.event
      (subst (λ (l : List Event). Contains l was.event) made_one was.made)) [
        | inl none ↦ absurd (let below = none.1 in omega (arith, below))
        | inr same ↦ ap (λ (e : Event). kind e.entry) same ∙ was.is
      ]

  pub one_sets : {These Those : ℕ → Type 0} → ((handle : ℕ) → op_sets_strong handle op ≡ true → These handle) →
      ((handle : ℕ) → op_sets_weak handle op ≡ true → Those handle) → SetsOnly These Those v u
  one_sets strong weak = record {
    strong = λ handle was. strong handle (set_by_one (sets_strong handle) was);
    weak = λ handle was. weak handle (set_by_one (sets_weak handle) was);
  }

  pub one_sets_none : ((handle : ℕ) → op_sets_strong handle op ≡ false) → ((handle : ℕ) → op_sets_weak handle op ≡ false) →
      SetsNone v u
  one_sets_none strong weak = one_sets
      (λ handle is. absurd (let e : true ≡ false = sym is ∙ strong handle in cc))
      (λ handle is. absurd (let e : true ≡ false = sym is ∙ weak handle in cc))

-- one that sets a weak handle
pub one_aims : (layout : Layout) (shapes : ShapeLists) (v u : View) (reply : Reply) (handle src : ℕ) →
    MakesCall layout shapes v.who (WeakSet handle src) reply v.seen u.seen v.mine u.mine → SetsAlone v u handle
one_aims layout shapes v u reply handle src makes = record {
  was_set = record {
    event = made layout shapes v u (WeakSet handle src) reply makes;
    made = subst (λ (l : List Event). Contains l (made layout shapes v u (WeakSet handle src) reply makes))
        (sym (made_one layout shapes v u (WeakSet handle src) reply makes))
        (Contains-push [] (made layout shapes v u (WeakSet handle src) reply makes));
    is = eq-eqb handle handle refl;
  };
  no_other = one_sets layout shapes v u (WeakSet handle src) reply makes
      (λ other none. absurd (let e : false ≡ true = none in cc)) (λ other is. sym (eqb-true handle other is));
}

-- one that sets a strong handle
pub one_keeps : {These : ℕ → Type 0} (layout : Layout) (shapes : ShapeLists) (v u : View) (reply : Reply) (handle val : ℕ) →
    MakesCall layout shapes v.who (StrongSet handle val) reply v.seen u.seen v.mine u.mine → These handle →
    SetsOnly These NoHandle v u
one_keeps {These} layout shapes v u reply handle val makes one = one_sets layout shapes v u (StrongSet handle val) reply makes
    (λ other is. subst These (eqb-true handle other is) one) (λ other none. absurd (let e : false ≡ true = none in cc))

-- the handle in which one more cell is kept
pub kept_last : (jobs now : Jobs) (cell handle : ℕ) → now.strong ≡ jobs.strong → now.cells ≡ jobs.cells ++ cell ∷ [] →
    handle ≡ jobs.strong.first + length jobs.cells → IsKeptIn now handle
kept_last jobs now cell handle same more is =
    let first = ap (λ (r : Range16). r.first) same in
    let longer = ap (λ (l : List ℕ). length l) more in
    let sum = length-append jobs.cells (cell ∷ []) in
    (omega (arith, first, is), omega (arith, first, is, longer, sum))

-- where no weak handle was set, none was taken into use
pub takes_kept : (v u : View) (jobs now : Jobs) → SetsOnly (λ handle. IsKeptIn jobs handle ⊎ IsKeptIn now handle) NoHandle v u →
    ((one : Weak) → Contains now.uses one → Contains jobs.uses one) → SetsWhatItTakes v u jobs now
takes_kept v u jobs now only stays = record {
  spares = λ one has was. only.weak (handle_of jobs one) was;
  takes = λ one has. inl (stays one has);
  weak = λ handle was. absurd (only.weak handle was);
  strong = only.strong;
}

pub takes_none : (v u : View) (jobs now : Jobs) → SetsNone v u →
    ((one : Weak) → Contains now.uses one → Contains jobs.uses one) → SetsWhatItTakes v u jobs now
takes_none v u jobs now none stays = takes_kept v u jobs now (none_only v u none) stays

-- where an unused one was set, it was taken into use or none was
module _ (v u : View) (jobs now : Jobs) (at : ℕ) (below : at < jobs.weak.count) (unused : IsUnused jobs at)
    (only : SetsOnly (λ handle. IsKeptIn jobs handle ⊎ IsKeptIn now handle) (λ handle. handle ≡ jobs.weak.first + at) v u) where
  spares_others : (one : Weak) → Contains jobs.uses one → WasSet v u (handle_of jobs one) → ⊥
  spares_others one has was = let same = only.weak (handle_of jobs one) was in unused one has (omega (arith, same))

  is_of_range : (handle : ℕ) → WasSet v u handle → IsIn jobs.weak handle
  is_of_range handle was = let same = only.weak handle was in (omega (arith, same), omega (arith, same, below))

  pub takes_no_more : ((one : Weak) → Contains now.uses one → Contains jobs.uses one) → SetsWhatItTakes v u jobs now
  takes_no_more stays =
      record { spares = spares_others; takes = λ one has. inl (stays one has); weak = is_of_range; strong = only.strong }

  pub takes_one : (one : Weak) → one.at ≡ at → now.weak ≡ jobs.weak → now.uses ≡ jobs.uses ++ one ∷ [] →
      WasSet v u (jobs.weak.first + at) → SetsWhatItTakes v u jobs now
  takes_one one is same_range more was_set = record {
    spares = spares_others;
    takes = λ other has. (elim (Contains-push_cases jobs.uses one other (subst (λ (us : List Weak). Contains us other) more has)) [
      | inl before ↦ inl before
      | inr same ↦ inr (subst (WasSet v u) (sym (handle other same)) was_set)
    ]);
    weak = is_of_range;
    strong = only.strong;
  }
    where
      handle : (other : Weak) → one ≡ other → handle_of now other ≡ jobs.weak.first + at
      handle other same =
          let place : other.at ≡ at = ap (λ (o : Weak). o.at) (sym same) ∙ is in
          let first = ap (λ (r : Range16). r.first) same_range in
          omega (arith, place, first)

-- what is left once one was taken out was there
pub removed_was : (uses : List Weak) (place : ℕ) (one : Weak) → Contains (remove uses place) one → Contains uses one
removed_was uses place one has =
    All-contains (Contains uses) (remove uses place) one (all_removed uses place (Contains uses) (All-contains_itself uses)) has
