-- A participant's step of any kind whose law is proved keeps the rule, and tells what it says.
use Rattle.std.proofs.Common.{ℕ, ◌≡◌, ◌<◌, ◌≤◌, ◌+◌, ◌⊎◌, arith, List, [], ◌∷◌, ◌++◌, refl, sym, ◌∙◌, ap, subst, inl, inr, Bool, true, false, Option, None, Some}
use Rattle.std.specs.Prelude.{filter, slice_get, if◌then◌else◌, ◌||◌}
use Rattle.atomic_table.specs.Table.{Me, Allows}
use Rattle.atomic_table.specs.declared.shared.Seat.{Seat}
use Rattle.tide_heap.specs.declared.heap.Heap.{Heap as Shared}
use Rattle.tide_core.proofs.tide_layout.Places.{place_in-below}
use Rattle.tide_core.specs.tide_layout.Limits.{IsWithinLimits}
use Rattle.tide_core.specs.tide_layout.Region.{word_count}
use Rattle.tide_core.specs.tide_layout.declared.region.Region.{Region}
use Rattle.tide_core.specs.tide_layout.declared.region.Region.TheVariants as region
use Rattle.tide_core.proofs.machine_laws.Scheduling.{step_keeps}
use Rattle.tide_core.proofs.machine_laws.kinds.EachKind.{allowed_has_law}
use Rattle.tide_core.proofs.machine_laws.kinds.Finding.{finds_after}
use Rattle.tide_core.proofs.machine_laws.steps.Frames.{put_here}
use Rattle.tide_core.proofs.machine_laws.steps.Moments.{steps_are_told}
use Rattle.tide_core.specs.machine.Entries.{entry_of, added}
use Rattle.tide_core.specs.machine.Kind.{Kind, LoadCall, LoadRegister, Split, Join, Activate, Retire, SwapGrey, Blacken, ZeroWord, region_of, index_of, act_of, acted}
use Rattle.tide_core.specs.machine.Machine.{IsAllowed}
use Rattle.tide_core.specs.machine.Moment.{Moment}
use Rattle.tide_core.specs.machine.RunningWave.{RunningWave}
use Rattle.tide_core.specs.machine.Views.{view_after}
use Rattle.tide_core.specs.machine.World.{World, parties, first_visitor}
use Rattle.tide_core.specs.machine.kinds.Retire.{MayRetire}
use Rattle.tide_model.specs.declared.entry.Entry.TheVariants.{Call}
use Rattle.tide_model.specs.declared.op.Reply.TheVariants.{Done}
use Rattle.tide_core.specs.declared.machine.act.Act.{Act}
use Rattle.tide_core.specs.declared.machine.act.Act.TheVariants.{Store}
use Rattle.tide_core.specs.declared.machine.view.Role.TheVariants.{Member}
use Rattle.tide_core.specs.declared.machine.view.View.{View}
use Rattle.tide_model.proofs.Histories.{IsLawful-prefix}
use Rattle.tide_model.specs.History.{state_after, is_call_of}
use Rattle.tide_model.specs.Layout.{Layout}
use Rattle.tide_model.specs.Numbers.{put_at}
use Rattle.tide_model.specs.Prefix.{IsPrefix, prefix_refl, prefix_push, prefix_trans}
use Rattle.tide_model.specs.Refused.{ShapeLists}
use Rattle.tide_model.specs.declared.entry.Event.{Event}
use Rattle.tide_model.specs.declared.op.Op.{Op}
use Rattle.tide_model.specs.declared.op.Op.TheVariants as op
use Rattle.tide_heap.proofs.Births.{counts_of}
use Rattle.tide_heap.proofs.steps_laws.EntryBirths.{entry_born, entry_own}
use Rattle.tide_heap.proofs.Leaving.{inactive-retired}
use Rattle.tide_heap.proofs.Runs.{Law, Stays, allows, Leaves}
use Rattle.tide_heap.proofs.steps_laws.Works.{Core, core, core_found, worked, worked_view, seen_after, mine_after}
use Rattle.tide_heap.specs.steps.Follows.{Follows, FollowsSome, May, MayStep, with_found}
use Rattle.tide_heap.specs.Rule.{Rule}
use Rattle.tide_heap.specs.steps.Works.{is_work, is_leave, is_visit}
use Rattle.tide_core.specs.tide_sweep.Zeroed.{IsDeadWord}
use Rattle.tide_core.specs.tide_words.heap.Heap.{Heap, write}

-- no call but Retire is made at the store of an Active word
retire_alone : (layout : Layout) (shapes : ShapeLists) (w : World) (me : ℕ) (o : Op) → MayRetire layout shapes w me (Some o) →
    (o ≡ op.Retire) × (me < layout.mutators)
retire_alone layout shapes w me op.Retire may = (refl, may.runner.is_mutator)
retire_alone layout shapes w me _ may = absurd may

-- a kind with which its participant leaves is a retirement
left_by : (layout : Layout) (shapes : ShapeLists) (kind : Kind) → is_leave kind ≡ true → (w : World) (me read : ℕ) →
    IsAllowed layout shapes w me kind → (me < layout.mutators)
    × ((state_after layout (added w.log (entry_of layout shapes (state_after layout w.log) me kind read))).active me ≡ false)
left_by layout shapes (Retire (Some o)) leave w me read may =
    let is = retire_alone layout shapes w me o may in (
      is.1,
      subst (λ (x : Op). (state_after layout (w.log ++ record { entry = Call me x Done; took = None } ∷ [])).active me ≡ false)
          (sym is.0) (inactive-retired layout w.log me None),
    )
left_by layout shapes (Retire None) leave w me read may = absurd may
left_by layout shapes _ leave w me read may = absurd (cc)

-- a visit is a visitor's
visited_by : (layout : Layout) (shapes : ShapeLists) (kind : Kind) → is_visit kind ≡ true → (w : World) (me : ℕ) →
    IsAllowed layout shapes w me kind → first_visitor ≤ me
visited_by layout shapes (Blacken cell cycle) visit w me may = may.runner.is_visitor
visited_by layout shapes _ visit w me may = absurd (cc)

-- no word of the period, of the phase or of the base is one of what is dead in a block
dead_words : (layout : Layout) (at : Region) (index block bits : ℕ) → IsDeadWord layout block bits at index → Leaves at
dead_words layout region.Period index block bits word = absurd word
dead_words layout region.Phase index block bits word = absurd word
dead_words layout region.Base index block bits word = absurd word
dead_words layout _ index block bits word = record { period = refl; phase = refl; base = refl }

-- a work leaves the words of the period, of the phase and of the base
left_words : (layout : Layout) (shapes : ShapeLists) (kind : Kind) → is_work kind ≡ true → (w : World) (me : ℕ) →
    IsAllowed layout shapes w me kind → Leaves (region_of kind)
left_words layout shapes (SwapGrey grey block) works w me may =
    elim may.is_grey [
      | inl is ↦ subst Leaves (sym is) record { period = refl; phase = refl; base = refl }
      | inr is ↦ subst Leaves (sym is) record { period = refl; phase = refl; base = refl }
    ]
left_words layout shapes Split works w me may = absurd (cc)
left_words layout shapes (Join ticket) works w me may = absurd (cc)
left_words layout shapes Activate works w me may = absurd (cc)
left_words layout shapes (ZeroWord at index) works w me may =
    dead_words layout at index may.block may.sweeps.sweeping.dead may.word
left_words layout shapes _ works w me may = record { period = refl; phase = refl; base = refl }

-- the word that a step found is nothing that the wave looks at
wave_found : (kind : Kind) (layout : Layout) (shapes : ShapeLists) (heap : Heap) (part : ℕ → View) (log : List Event)
    (me : ℕ) → me < parties → (view : View) → view.runs ≡ true → (read : ℕ) →
    RunningWave layout shapes (record { heap = heap; part = put_at part me view; log = log }) →
    RunningWave layout shapes (record { heap = heap; part = put_at part me (with_found kind read view); log = log })
wave_found (LoadRegister register) layout shapes heap part log me inside view runs read wave = wave
wave_found LoadCall layout shapes heap part log me inside view runs read wave = wave
wave_found _ layout shapes heap part log me inside view runs read wave =
    finds_after layout shapes heap part log me inside view runs read wave

module _ (layout : Layout) (shapes : ShapeLists) (v : View) (kind : Kind) where
  abbrev after : List Event → ℕ → View
  after log read = with_found kind read (view_after layout shapes log v.who kind read v)

  abbrev event : List Event → ℕ → Option Event
  event log read = entry_of layout shapes (state_after layout log) v.who kind read

  core_of : is_work kind ≡ true → (log : List Event) (read : ℕ) →
      core (after log read) ≡ record (worked kind read (core v)) {
        seen = seen_after log v.seen (event log read);
        mine = mine_after v.mine (event log read);
      }
  core_of works log read = core_found kind read (view_after layout shapes log v.who kind read v)
      ∙ worked_view layout shapes log kind read v works (event log read)

  -- the law of the kind, for this view
  pub law_of : is_work kind ≡ true → v.runs ≡ true → MayStep layout shapes v kind → IsWithinLimits layout →
      slice_get shapes 0 ≡ Some [] → v.who < parties →
      Law layout shapes (region_of kind) (index_of layout v.who kind) (act_of kind) after event v
  law_of works act may limits empty_shape few heap part log running is =
      let allowed = may (record { heap = heap; part = part; log = log }) running is in
      let at = index_of layout v.who kind in
      let read = heap (region_of kind) at in
      wave_found kind layout shapes (write heap (region_of kind) at (acted (act_of kind) read)) part
      (added log (event log read)) v.who few (view_after layout shapes log v.who kind read v)
      (ap (λ (x : Core). x.runs) (worked_view layout shapes log kind read v works (event log read)) ∙ act) read
      (subst (λ (x : View). RunningWave layout shapes (record {
        heap = write heap (region_of kind) at (acted (act_of kind) read);
        part = put_at part v.who (view_after layout shapes log v.who kind read x);
        log = added log (entry_of layout shapes (state_after layout log) v.who kind read);
      })) is
      (step_keeps layout shapes limits empty_shape (record { heap = heap; part = part; log = log }) v.who few running kind
      (allowed_has_law layout shapes (record { heap = heap; part = part; log = log }) v.who kind allowed) allowed))

  -- a work leaves what the rule says of its participant, but where it retires
  stays_of : is_work kind ≡ true → v.role ≡ Member → v.runs ≡ true → (log : List Event) (read : ℕ) →
      IsPrefix v.seen log →
      (is_leave kind ≡ true → (v.who < layout.mutators)
      × ((state_after layout (added log (event log read))).active v.who ≡ false)) →
      (is_visit kind ≡ true → v.who < layout.mutators → ⊥) → Stays layout log v (event log read) (after log read)
  stays_of works is act log read known leaves visits =
      let c = core_of works log read in record {
        turns = λ later. record {
          role = ap (λ (x : Core). x.role) c ∙ is;
          who = ap (λ (x : Core). x.who) c;
          period = ap (λ (x : Core). x.period) c;
          ticket = ap (λ (x : Core). x.ticket) c;
          marks = ap (λ (x : Core). x.marks) c;
          cycle = ap (λ (x : Core). x.cycle) c;
          mark_version = ap (λ (x : Core). x.mark_version) c;
          run = ap (λ (x : Core). x.run) c;
          runs = λ _. later;
          still = λ below none. ap (λ (x : Core). x.visits) c ∙ still_by (is_visit kind) refl below none;
          mutator = λ e. by_left (is_leave kind) refl (sym (ap (λ (x : Core). x.left) c) ∙ e);
          earlier = ap (λ (x : Core). x.earlier) c;
          told = ap (λ (x : Core). x.told) c;
          grows = grows_of (event log read) (ap (λ (x : Core). x.seen) c);
          ended = λ e. absurd (let runs = ap (λ (x : Core). x.runs) c ∙ act in cc);
        };
        gone = λ before e. leaves_now (is_leave kind) refl before (sym (ap (λ (x : Core). x.left) c) ∙ e);
        tip = tip_of (event log read) (ap (λ (x : Core). x.seen) c);
        counts = λ period now. counts_of period v (after log read) (event log read)
            (entry_own layout shapes (state_after layout log) v.who kind read works) now (ap (λ (x : Core). x.begun) c)
            (ap (λ (x : Core). x.born) c ∙ entry_born layout shapes (state_after layout log) v.who kind read v.born);
      }
    where
      still_by : (b : Bool) → is_visit kind ≡ b → v.who < layout.mutators → v.visits ≡ 0 →
          (if b then v.visits + 1 else v.visits) ≡ 0
      still_by true e below none = absurd (visits e below)
      still_by false e below none = none

      by_left : (b : Bool) → is_leave kind ≡ b → (is_leave kind || v.left) ≡ true →
          (v.left ≡ true) ⊎ (v.who < layout.mutators)
      by_left true e h = inr (leaves e).0
      by_left false e h = inl (sym (ap (λ (b : Bool). b || v.left) e) ∙ h)

      leaves_now : (b : Bool) → is_leave kind ≡ b → v.left ≡ false → (is_leave kind || v.left) ≡ true →
          (state_after layout (added log (event log read))).active v.who ≡ false
      leaves_now true e before h = (leaves e).1
      leaves_now false e before h = absurd (let none = sym (ap (λ (b : Bool). b || v.left) e) ∙ h in cc)

      grows_of : (e : Option Event) → (after log read).seen ≡ seen_after log v.seen e →
          IsPrefix v.seen (after log read).seen
      grows_of None e = subst (IsPrefix v.seen) (sym e) (prefix_refl v.seen)
      grows_of (Some x) e = subst (IsPrefix v.seen) (sym e)
          (prefix_trans v.seen log (log ++ x ∷ []) known (prefix_push log x))

      tip_of : (e : Option Event) → (after log read).seen ≡ seen_after log v.seen e →
          ((added log e ≡ log) × (log ≡ v.seen → log ≡ (after log read).seen)) ⊎ (added log e ≡ (after log read).seen)
      tip_of None e = inl (refl, λ h. h ∙ sym e)
      tip_of (Some x) e = inr (sym e)

  follows_of : is_work kind ≡ true → (heap : Heap) (part : ℕ → View) (log : List Event) →
      RunningWave layout shapes (record { heap = heap; part = part; log = log }) → part v.who ≡ v →
      RunningWave layout shapes (record {
        heap = write heap (region_of kind) (index_of layout v.who kind)
            (acted (act_of kind) (heap (region_of kind) (index_of layout v.who kind)));
        part = put_at part v.who (after log (heap (region_of kind) (index_of layout v.who kind)));
        log = added log (event log (heap (region_of kind) (index_of layout v.who kind)));
      }) →
      Follows layout shapes kind v (heap (region_of kind) (index_of layout v.who kind))
      (after log (heap (region_of kind) (index_of layout v.who kind)))
  follows_of works heap part log running is next =
      let read = heap (region_of kind) (index_of layout v.who kind) in
      let u = after log read in
      let here = put_here part v.who u in record {
        log = log;
        view = refl;
        moment = subst (λ (x : View). Moment layout shapes x log (region_of kind) (index_of layout v.who kind) read) is
            (steps_are_told layout shapes (record { heap = heap; part = part; log = log }) v.who (region_of kind)
            (index_of layout v.who kind) running);
        lawful = IsLawful-prefix layout shapes u.seen (added log (event log read))
            (subst (λ (x : View). IsPrefix x.seen (added log (event log read))) here (next.known.seen v.who)) next.lawful;
        own = subst (λ (n : ℕ). filter (λ (e : Event). is_call_of n e.entry) u.seen ≡ u.mine)
            (sym (ap (λ (x : Core). x.who) (core_of works log read)))
            (subst (λ (x : View). filter (λ (e : Event). is_call_of v.who e.entry) x.seen ≡ x.mine) here
            (next.known.told v.who));
      }

  -- a kind that leaves is a retirement
  pub retires_of : is_leave kind ≡ true → MayStep layout shapes v kind → (heap : Heap) (part : ℕ → View) (log : List Event)
      (read : ℕ) → RunningWave layout shapes (record { heap = heap; part = part; log = log }) → part v.who ≡ v →
      (v.who < layout.mutators) × ((state_after layout (added log (event log read))).active v.who ≡ false)
  retires_of leave may heap part log read running is =
      left_by layout shapes kind leave (record { heap = heap; part = part; log = log }) v.who read
      (may (record { heap = heap; part = part; log = log }) running is)

-- a step that tells the word found
pub allows_find : (layout : Layout) (shapes : ShapeLists) (kind : Kind) (slots id : ℕ) (m : Me (Unit {0}) View) (at : ℕ)
    (act : Act) → m.0.role ≡ Member → May layout shapes m.0 kind at act →
    Allows (Rule layout shapes) slots id m at (acted act) (λ r b. Follows layout shapes kind m.0 r b.0)
allows_find layout shapes kind slots id m at act is may =
    subst (λ (a : Act). Allows (Rule layout shapes) slots id m at (acted a) (λ r b. Follows layout shapes kind m.0 r b.0))
    (sym may.acts)
    (allows layout shapes slots id m (region_of kind) (index_of layout m.0.who kind) (act_of kind)
    (after layout shapes m.0 kind) (event layout shapes m.0 kind) at (λ r u. Follows layout shapes kind m.0 r u) is may.runs
    may.stands.inside may.stands.place (law_of layout shapes m.0 kind may.works may.runs may.may)
    (λ limits heap part log running mine.
    let w : World = record { heap = heap; part = part; log = log } in
    let allowed = may.may w running mine in (
      left_words layout shapes kind may.works w m.0.who allowed,
      stays_of layout shapes m.0 kind may.works is may.runs log
          (heap (region_of kind) (index_of layout m.0.who kind))
          (subst (λ (x : View). IsPrefix x.seen log) mine (running.known.seen m.0.who))
          (λ leave. retires_of layout shapes m.0 kind leave may.may heap part log
          (heap (region_of kind) (index_of layout m.0.who kind)) running mine)
          (λ visit below. let after = visited_by layout shapes kind visit w m.0.who allowed in
          let few = limits.few_mutators in omega (arith, below, after, few)),
    ))
    (follows_of layout shapes m.0 kind may.works))

-- a store, which doesn't tell the word that was there
pub allows_put : (layout : Layout) (shapes : ShapeLists) (kind : Kind) (slots id : ℕ) (m : Me (Unit {0}) View)
    (at word : ℕ) → m.0.role ≡ Member → May layout shapes m.0 kind at (Store word) →
    Allows (Rule layout shapes) slots id m at (λ _. word) (λ _ b. FollowsSome layout shapes kind m.0 b.0)
allows_put layout shapes kind slots id m at word is may s run long there fits =
    let h = allows_find layout shapes kind slots id m at (Store word) is may s run long there fits in
    (h.0, h.1, h.2, h.3, (Rattle.std.specs.Prelude.slice_index s.words at, h.4))

-- a heap's table is of its layout and shapes, and has as many words as the layout
pub record IsTableOf (own layout : Layout) (lists shapes : ShapeLists) (words : ℕ) : Type 0 where
  pub same_layout : own ≡ layout
  pub same_shapes : lists ≡ shapes
  pub sized : words ≡ word_count layout

pub table_of : {S : Type 0} (lists : S → ShapeLists) (heap : Shared S) (layout : Layout) (shapes : ShapeLists) →
    heap.key.layout ≡ layout → lists heap.key.shapes ≡ shapes →
    IsTableOf heap.table.shared.key.layout layout (lists heap.table.shared.key.shapes) shapes
    heap.table.shared.table_id.words
table_of lists heap layout shapes same_layout same_shapes = record {
  same_layout = sym heap.same_layout ∙ same_layout;
  same_shapes = ap lists (sym heap.same_shapes) ∙ same_shapes;
  sized = heap.sized ∙ ap word_count same_layout;
}

module _ {own layout : Layout} {lists shapes : ShapeLists} {words : ℕ} (of : IsTableOf own layout lists shapes words)
    (kind : Kind) (slots id : ℕ) (m : Me (Unit {0}) View) (at : ℕ) (is : m.0.role ≡ Member) where
  within : (act : Act) → May layout shapes m.0 kind at act → at < words
  within act may =
      let below = place_in-below layout (region_of kind) (index_of layout m.0.who kind) may.stands.inside in
      let place = may.stands.place in
      let sized = of.sized in
      omega (arith, below, place, sized)

  -- the step is on one of the words of the table, which allows it
  pub table_finds : (act : Act) → May layout shapes m.0 kind at act → (at < words)
      × Allows (Rule own lists) slots id m at (acted act) (λ r b. Follows layout shapes kind m.0 r b.0)
  table_finds act may = (
    within act may,
    subst (λ (x : Layout × ShapeLists). Allows (Rule x.0 x.1) slots id m at (acted act)
        (λ r b. Follows layout shapes kind m.0 r b.0)) (λ i. ((sym of.same_layout) i, (sym of.same_shapes) i))
        (allows_find layout shapes kind slots id m at act is may),
  )

  pub table_puts : (word : ℕ) → May layout shapes m.0 kind at (Store word) → (at < words)
      × Allows (Rule own lists) slots id m at (λ _. word) (λ _ b. FollowsSome layout shapes kind m.0 b.0)
  table_puts word may = (
    within (Store word) may,
    subst (λ (x : Layout × ShapeLists). Allows (Rule x.0 x.1) slots id m at (λ _. word)
        (λ _ b. FollowsSome layout shapes kind m.0 b.0)) (λ i. ((sym of.same_layout) i, (sym of.same_shapes) i))
        (allows_put layout shapes kind slots id m at word is may),
  )

-- so on a heap of this layout and these shapes, by the operation that is given
module _ {S : Type 0} (lists : S → ShapeLists) (heap : Shared S) (layout : Layout) (shapes : ShapeLists) (kind : Kind)
    (seat : Seat (Unit {0}) View) (at : ℕ) (given : Act) (own : seat.table_id ≡ heap.table.shared.table_id)
    (same_layout : heap.key.layout ≡ layout) (same_shapes : lists heap.key.shapes ≡ shapes)
    (is : seat.me.0.role ≡ Member) (may : May layout shapes seat.me.0 kind at given) where
  of : IsTableOf heap.table.shared.key.layout layout (lists heap.table.shared.key.shapes) shapes
      heap.table.shared.table_id.words
  of = table_of lists heap layout shapes same_layout same_shapes

  pub heap_finds : (act : Act) → given ≡ act → (seat.table_id ≡ heap.table.shared.table_id)
      × (at < heap.table.shared.table_id.words)
      × Allows (Rule heap.table.shared.key.layout (lists heap.table.shared.key.shapes)) heap.table.shared.table_id.slots
      seat.id seat.me at (acted act) (λ r b. Follows layout shapes kind seat.me.0 r b.0)
  heap_finds act is_given =
      let f = table_finds of kind heap.table.shared.table_id.slots seat.id seat.me at is act
      (subst (May layout shapes seat.me.0 kind at) is_given may) in (own, f.0, f.1)

  pub heap_puts : (word : ℕ) → given ≡ Store word → (seat.table_id ≡ heap.table.shared.table_id)
      × (at < heap.table.shared.table_id.words)
      × Allows (Rule heap.table.shared.key.layout (lists heap.table.shared.key.shapes)) heap.table.shared.table_id.slots
      seat.id seat.me at (λ _. word) (λ _ b. FollowsSome layout shapes kind seat.me.0 b.0)
  heap_puts word is_given =
      let f = table_puts of kind heap.table.shared.table_id.slots seat.id seat.me at is word
      (subst (May layout shapes seat.me.0 kind at) is_given may) in (own, f.0, f.1)
