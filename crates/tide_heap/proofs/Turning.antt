-- A participant hears a ticket, begins, stops and hands out its note.
use Rattle.std.proofs.Common.{◌≡◌, ℕ, zero, suc, ◌+◌, ◌<◌, ◌≤◌, length-set, List, [], ◌∷◌, ◌++◌, length, sym, refl, ap, ◌∙◌, inl, inr, subst, arith, Bool, true, false, set, MatchBool, None}
use Rattle.std.specs.Prelude.{filter, if◌then◌else◌, slice_index, ◌==◌, ◌↔◌}
use Rattle.tide_core.specs.tide_layout.Region.{place_in, size_of}
use Rattle.tide_core.specs.tide_layout.declared.region.Region.TheVariants as region
use Rattle.tide_core.proofs.machine_laws.kinds.FirstGroup.{first_group}
use Rattle.tide_core.proofs.machine_laws.steps.Colouring.{write_same}
use Rattle.tide_core.specs.machine.Kind.{Split, Join, Activate, StoreStopped, index_of_stopped}
use Rattle.tide_core.specs.machine.May.{Rests}
use Rattle.tide_core.specs.machine.RunningWave.{RunningWave}
use Rattle.tide_core.specs.declared.machine.view.Role.TheVariants.{Member}
use Rattle.tide_core.specs.declared.machine.view.View.{View}
use Rattle.tide_core.specs.machine.kinds.Activate.{begun_view}
use Rattle.tide_core.specs.machine.kinds.Join.{joined_view}
use Rattle.tide_core.specs.machine.kinds.Split.{split_view}
use Rattle.tide_core.specs.machine.kinds.StoreStopped.{stopped_view}
use Rattle.tide_model.specs.History.{is_call_of, state_after}
use Rattle.tide_model.specs.Layout.{Layout}
use Rattle.tide_model.specs.Numbers.{put_at}
use Rattle.tide_model.specs.Prefix.{IsPrefix, prefix_refl}
use Rattle.tide_model.specs.Refused.{ShapeLists}
use Rattle.tide_model.specs.declared.entry.Event.{Event}
use Rattle.tide_heap.proofs.Beginnings.{longer_ok, same_lists, told_between}
use Rattle.std.proofs.lemmas.Bool.{eq-eqb}
use Rattle.tide_heap.proofs.Members.{member, member_ok, member_step, member_stepped, waking, now_running, running, few_parties, add_copy, renote}
use Rattle.tide_heap.proofs.Runs.{Turns, turn, runs_later}
use Rattle.tide_heap.specs.Births.{births_in, born_to}
use Rattle.tide_heap.specs.Parties.{In, IsParty, longer}
use Rattle.tide_heap.specs.Rule.{MemberOk, NoteOk, Heard, IsFrozen, IsRunning, Tabled}
use Rattle.tide_heap.specs.Turns.{heard_view, ticket_for, note_of}
use Rattle.tide_heap.specs.Done.{HasDonePart}
use Rattle.tide_core.proofs.tide_words.heap_laws.HeapLaws.{reads_write}
use Rattle.tide_core.specs.tide_words.heap.Heap.{Heap, write}
use lib.ListN.{get_elem?}
use mathlib.Core.Option.{some, some-ne-none}

pub below : {A : Type 0} (l : List A) (i : ℕ) (a : A) → get_elem? l i ≡ some a → i < length l
below [] i a e = absurd (some-ne-none a (sym e))
below (x ∷ xs) zero a e = omega arith
below (x ∷ xs) (suc i) a e = (let h = below xs i a e in omega (arith, h))

module _ (layout : Layout) (shapes : ShapeLists) (words : List ℕ) (views : List View) (log : List Event) (me : ℕ)
    (v : View) (k : Tabled layout shapes words views log) (there : get_elem? views me ≡ some v)
    (is : v.role ≡ Member) where
  party : IsParty layout v.who
  party = (member layout shapes words views log me v k there is).0

  mine : k.part v.who ≡ v
  mine = sym (member layout shapes words views log me v k there is).2

  ok : MemberOk layout k.cv v v.who
  ok = member_ok layout shapes words views log me v k there is

  not_gone : v.left ≡ false → In v.who k.cv.gone → ⊥
  not_gone stays a = let left = (ok.gone a).0 in absurd (cc)

  -- the wave after its load of the Period word, of a kind that changes its view alone
  after_load : (run : IsRunning layout shapes words log k.cv k.part) (u : View) →
      RunningWave layout shapes (record {
        heap = write run.heap region.Period 0 (run.heap region.Period 0);
        part = put_at k.part v.who u;
        log = log;
      }) → IsRunning layout shapes words log k.cv (put_at k.part v.who u)
  after_load run u wave = record {
    heap = run.heap;
    reads = run.reads;
    wave = subst (λ (h : Heap). RunningWave layout shapes (record { heap = h; part = put_at k.part v.who u; log = log }))
        (write_same run.heap region.Period 0) wave;
    period = run.period;
    marks = run.marks;
    cycle = run.cycle;
    based = run.based;
    some_run = run.some_run;
  }

  -- it begins the part whose ticket it has
  pub begin_here : v.runs ≡ false → v.left ≡ false → v.period < v.ticket →
      Tabled layout shapes words (set views me (begun_view v)) log
  begin_here idle stays later =
      let few = ok.ticket in
      let now : v.ticket ≡ k.cv.period = elim ok.close [
        | inl gone ↦ absurd (not_gone stays gone)
        | inr close ↦ omega (arith, close, later, few)
      ] in
      let last : v.period < k.cv.period = omega (arith, later, now) in
      let thawed = waking layout shapes words views log me v k there is stays last in
      let run = now_running layout shapes words views log me v k there thawed in
      let told = ok.told now in
      let wave = first_group layout shapes (record { heap = run.heap; part = k.part; log = log }) v.who
      (few_parties layout k.limits v.who party) run.wave Activate refl record {
        rests = ap (λ (x : View). x.runs) mine ∙ idle;
        stays = ap (λ (x : View). x.left) mine ∙ stays;
        later = subst (λ (x : View). x.period < x.ticket) (sym mine) later;
        of_part = ap (λ (x : View). x.ticket) mine ∙ now ∙ sym run.period;
        marks = ap (λ (x : View). x.marks) mine ∙ told.marks ∙ run.marks;
        cycle = ap (λ (x : View). x.cycle) mine ∙ told.cycle ∙ run.cycle;
        based = ap (λ (x : View). x.mark_version) mine ∙ told.mark_version ∙ run.based;
      } in
      turn layout shapes words views log me v k there (begun_view v) words None is last (not_gone stays)
      (turns later (v.begun == v.ticket))
      record { own = tt; births = counted now (v.begun == v.ticket) refl }
      (λ e. absurd (let same = left_same (v.begun == v.ticket) in cc))
      (inl (refl, λ h. h ∙ sym (seen_same (v.begun == v.ticket)))) thawed
      (after_load run (begun_view v) (subst (λ (x : View). RunningWave layout shapes (record {
        heap = write run.heap region.Period 0 (run.heap region.Period 0);
        part = put_at k.part v.who (begun_view x);
        log = log;
      })) mine wave))
    where
      begun : Bool → View
      begun b = if b then record v { runs = true; round = []; full = []; known = [] } else record v {
        runs = true;
        begun = v.ticket;
        born = 0;
        visits = 0;
        races = 0;
        round = [];
        full = [];
        known = [];
      }

      turns : v.period < v.ticket → (b : Bool) → Turns layout v (begun b)
      turns later true = record {
        role = is;
        who = refl;
        period = refl;
        ticket = refl;
        marks = refl;
        cycle = refl;
        mark_version = refl;
        run = refl;
        runs = λ _. later;
        still = λ below none. none;
        mutator = λ e. inl e;
        earlier = refl;
        told = refl;
        grows = prefix_refl v.seen;
        ended = λ e. absurd (cc);
      }
      turns later false = record {
        role = is;
        who = refl;
        period = refl;
        ticket = refl;
        marks = refl;
        cycle = refl;
        mark_version = refl;
        run = refl;
        runs = λ _. later;
        still = λ below none. refl;
        mutator = λ e. inl e;
        earlier = refl;
        told = refl;
        grows = prefix_refl v.seen;
        ended = λ e. absurd (cc);
      }

      counted : v.ticket ≡ k.cv.period → (b : Bool) → (v.begun == v.ticket) ≡ b →
          births_in k.cv.period (begun b) ≡ births_in k.cv.period v + 0
      counted now true e = omega arith
      counted now false e =
          let before = ap {B = ℕ} (λ (x : Bool). if x then v.born else 0)
          (subst (λ (n : ℕ). (v.begun == n) ≡ false) now e) in
          let after = ap {B = ℕ} (λ (x : Bool). if x then 0 else 0) (eq-eqb v.ticket k.cv.period now) in
          omega (arith, before, after)

      left_same : (b : Bool) → (begun b).left ≡ v.left
      left_same true = refl
      left_same false = refl

      seen_same : (b : Bool) → (begun b).seen ≡ v.seen
      seen_same true = refl
      seen_same false = refl

  -- the Period word is that of its ticket then
  pub period_here : v.runs ≡ false → v.left ≡ false → v.period < v.ticket →
      slice_index words (place_in layout region.Period 0) ≡ v.ticket
  period_here idle stays later =
      let few = ok.ticket in
      let now : v.ticket ≡ k.cv.period = elim ok.close [
        | inl gone ↦ absurd (not_gone stays gone)
        | inr close ↦ omega (arith, close, later, few)
      ] in
      let thawed = waking layout shapes words views log me v k there is stays (omega (arith, later, now)) in
      let run = now_running layout shapes words views log me v k there thawed in
      run.reads.each region.Period 0 (omega arith) ∙ run.period ∙ sym now

  -- it stores the part in which it stops
  pub end_here : v.runs ≡ true → Rests v → index_of_stopped layout v.who < size_of layout region.Stopped →
      Tabled layout shapes (set words (place_in layout region.Stopped (index_of_stopped layout v.who)) v.ticket)
      (set views me (stopped_view v)) log
  end_here act rests inside =
      let thawed = running layout shapes words views log me v k there is act in
      let run = now_running layout shapes words views log me v k there thawed in
      let later = runs_later layout shapes words views log me v k there is act in
      let at = index_of_stopped layout v.who in
      let few = ok.ticket in
      let now : v.ticket ≡ k.cv.period = elim ok.close [
        | inl gone ↦ absurd (later.2 gone)
        | inr close ↦ (let past = later.0 in omega (arith, close, past, few))
      ] in
      let begun : v.begun ≡ k.cv.period = ap (λ (x : View). x.begun) (sym mine)
      ∙ (run.wave.numbers.told v.who (ap (λ (x : View). x.runs) mine ∙ act)).2 ∙ run.period in
      let wave = first_group layout shapes (record { heap = run.heap; part = k.part; log = log }) v.who
      (few_parties layout k.limits v.who party) run.wave (StoreStopped v.ticket) refl record {
        party = party;
        runs = ap (λ (x : View). x.runs) mine ∙ act;
        rests = subst Rests (sym mine) rests;
        of_part = ap (λ (x : View). x.ticket) (sym mine);
      } in
      turn layout shapes words views log me v k there (stopped_view v) (set words (place_in layout region.Stopped at) v.ticket)
      None is later.1 later.2
      record {
        role = is;
        who = refl;
        period = refl;
        ticket = refl;
        marks = refl;
        cycle = refl;
        mark_version = refl;
        run = refl;
        runs = λ e. absurd (cc);
        still = λ below none. none;
        mutator = λ e. inl e;
        earlier = refl;
        told = refl;
        grows = prefix_refl v.seen;
        ended = λ _. now ∙ sym begun;
      }
      record { own = tt; births = omega arith }
      (λ e. k.retired v.who (ap (λ (x : View). x.left) mine ∙ e))
      (inl (refl, λ h. h)) thawed
      record {
        heap = write run.heap region.Stopped at v.ticket;
        reads = reads_write layout words run.heap region.Stopped at v.ticket run.reads inside;
        wave = subst (λ (x : View). RunningWave layout shapes (record {
          heap = write run.heap region.Stopped at v.ticket;
          part = put_at k.part v.who (stopped_view x);
          log = log;
        })) mine wave;
        period = run.period;
        marks = run.marks;
        cycle = run.cycle;
        based = run.based;
        some_run = run.some_run;
      }

  -- it hears a ticket
  pub hear_here : (u : View) → v.runs ≡ false → v.left ≡ false → Heard log k.cv u → v.period < u.period →
      Tabled layout shapes words (set views me (heard_view v u)) log
  hear_here u idle stays heard later =
      let few = heard.behind in
      let last : v.period < k.cv.period = omega (arith, later, few) in
      let now : u.period ≡ k.cv.period = elim ok.close [
        | inl gone ↦ absurd (not_gone stays gone)
        | inr close ↦ omega (arith, close, later, few)
      ] in
      let thawed = waking layout shapes words views log me v k there is stays last in
      let run = now_running layout shapes words views log me v k there thawed in
      let told = heard.told now in
      let before : IsPrefix v.seen log = subst (λ (x : View). IsPrefix x.seen log) mine (run.wave.known.seen v.who) in
      let long = longer_ok log v.seen u.seen before heard.prefix in
      let own : filter (λ (e : Event). is_call_of v.who e.entry) (longer v.seen u.seen) ≡ (k.part v.who).mine =
      told_between (λ (e : Event). is_call_of v.who e.entry) v.seen (longer v.seen u.seen) log (k.part v.who).mine
      long.one long.whole
      (subst (λ (x : View). filter (λ (e : Event). is_call_of v.who e.entry) x.seen ≡ (k.part v.who).mine) mine
      (run.wave.known.told v.who)) (run.wave.known.own v.who) in
      let wave = first_group layout shapes (record { heap = run.heap; part = k.part; log = log }) v.who
      (few_parties layout k.limits v.who party) run.wave (Join (ticket_for v.seen u)) refl record {
        rests = ap (λ (x : View). x.runs) mine ∙ idle;
        later = subst (λ (x : View). x.period < u.period) (sym mine) later;
        period = now ∙ sym run.period;
        marks = told.marks ∙ run.marks;
        cycle = told.cycle ∙ run.cycle;
        based = told.mark_version ∙ run.based;
        told = long.whole;
        longer = subst (λ (x : View). IsPrefix x.seen (longer v.seen u.seen)) (sym mine) long.one;
        own = own;
      } in
      member_step layout shapes words views log me v k there (heard_view v u) words log is is refl
      (Rattle.tide_model.specs.Prefix.prefix_refl log)
      (λ j x h. record {
        behind = h.behind;
        now = λ e. absurd (let b = h.behind in omega (arith, b, e, last));
        one = h.one;
        out = h.out;
        began = λ e. absurd (let b = h.behind in omega (arith, b, e, last));
        done = λ e. absurd (let b = h.behind in omega (arith, b, e, last));
      })
      record {
        role = is;
        behind = omega (arith, later);
        close = ok.close;
        ticket = heard.behind;
        runs = λ e. absurd (cc);
        told = λ e. (let t = heard.told e in record { marks = t.marks; cycle = t.cycle; mark_version = t.mark_version; run = t.run });
        still = ok.still;
        mutator = ok.mutator;
        earlier = long.one;
        heard = long.other;
        ended = λ _. ok.ended idle;
        halted = λ a. absurd (let b = (ok.noted a).0 in omega (arith, b, last));
        calls = λ noted a e. absurd (elim (ok.calls noted a e).0 [
          | inl b ↦ (let c = (ok.noted b).0 in omega (arith, c, last))
          | inr b ↦ not_gone stays b
        ]);
        noted = λ a. absurd (let b = (ok.noted a).0 in omega (arith, b, last));
        gone = λ a. absurd (not_gone stays a);
        over = λ a. absurd (not_gone stays a);
        leaves = λ a. absurd (let b = (ok.noted a).0 in omega (arith, b, last));
        began = λ a. absurd (let b = (ok.noted a).0 in omega (arith, b, last));
        done = λ a. absurd (let b = (ok.noted a).0 in omega (arith, b, last));
      }
      (λ a. absurd (let b = (ok.noted a).0 in omega (arith, b, last))) (λ a. refl)
      (Rattle.tide_model.proofs.NumberLaws.put_at_elim (λ i x. births_in k.cv.period x ≡ born_to i log) k.part v.who (heard_view v u)
      (ap (births_in k.cv.period) (sym mine) ∙ k.births v.who) (λ i other. k.births i)) k.start
      (Rattle.tide_model.proofs.NumberLaws.put_at_elim (λ i x. x.left ≡ true → (state_after layout log).active i ≡ false) k.part v.who (heard_view v u)
      (λ e. absurd (cc)) (λ i other e. k.retired i e))
      (inl (
        refl,
        λ h. same_lists log (longer v.seen u.seen)
            (subst (λ (l : List Event). IsPrefix l (longer v.seen u.seen)) (sym h) long.one) long.whole,
      ))
      (subst (λ b. MatchBool b (IsFrozen layout shapes words log k.cv (put_at k.part v.who (heard_view v u)))
      (IsRunning layout shapes words log k.cv (put_at k.part v.who (heard_view v u)))) (sym thawed)
      (after_load run (heard_view v u) (subst (λ (x : View). RunningWave layout shapes (record {
        heap = write run.heap region.Period 0 (run.heap region.Period 0);
        part = put_at k.part v.who (joined_view (ticket_for v.seen u) x);
        log = log;
      })) mine wave)))

  -- its note is handed out, with which its part is over
  pub noting_here : v.runs ≡ false → v.begun ≡ v.ticket → v.period < v.ticket →
      (t : Tabled layout shapes words (set views me (split_view v)) log) × (t.cv ≡ k.cv) × (t.note_at ≡ k.note_at)
  noting_here idle began later =
      let few = ok.ticket in
      let last : v.period < k.cv.period = omega (arith, later, few) in
      let not_in : In v.who k.cv.notes → ⊥ = λ a. (let b = (ok.noted a).0 in omega (arith, b, last)) in
      let thawed = Rattle.tide_heap.proofs.Members.thawed layout shapes words views log me v k there is not_in
      (λ a. (let g = (ok.gone a).3 in omega (arith, g, later))) in
      let run = now_running layout shapes words views log me v k there thawed in
      let wave = first_group layout shapes (record { heap = run.heap; part = k.part; log = log }) v.who
      (few_parties layout k.limits v.who party) run.wave Split refl record {
        stopped = ap (λ (x : View). x.runs) mine ∙ idle;
        began = ap (λ (x : View). x.begun) mine ∙ began ∙ ap (λ (x : View). x.ticket) (sym mine);
      } in
      member_stepped layout shapes words views log me v k there (split_view v) words log is is refl
      (Rattle.tide_model.specs.Prefix.prefix_refl log)
      (λ j x h. record {
        behind = (let c = h.behind in omega (arith, later, c));
        now = λ e. absurd (let b = h.behind in omega (arith, b, e, last));
        one = h.one;
        out = h.out;
        began = λ e. absurd (let b = h.behind in omega (arith, b, e, last));
        done = λ e. absurd (let b = h.behind in omega (arith, b, e, last));
      })
      record {
        role = is;
        behind = omega arith;
        close = elim ok.close [ inl a ↦ inl a | inr a ↦ inr (omega (arith, a, later)) ];
        ticket = few;
        runs = λ e. absurd (cc);
        told = λ e. (let t = ok.told e in record { marks = t.marks; cycle = t.cycle; mark_version = t.mark_version; run = t.run });
        still = ok.still;
        mutator = ok.mutator;
        earlier = ok.earlier;
        heard = ok.heard;
        ended = λ _. ok.ended idle;
        halted = λ a. absurd (not_in a);
        calls = λ noted a e. absurd (elim (ok.calls noted a e).0 [
          | inl b ↦ not_in b
          | inr b ↦ (let g = (ok.gone b).3 in omega (arith, g, later))
        ]);
        noted = λ a. absurd (not_in a);
        gone = λ a. absurd (let g = (ok.gone a).3 in omega (arith, g, later));
        over = λ a. absurd (let g = (ok.gone a).3 in omega (arith, g, later));
        leaves = λ a. absurd (not_in a);
        began = λ a. absurd (not_in a);
        done = λ a. absurd (not_in a);
      }
      (λ a. absurd (not_in a)) (λ a. refl)
      (Rattle.tide_model.proofs.NumberLaws.put_at_elim (λ i x. births_in k.cv.period x ≡ born_to i log) k.part v.who (split_view v)
      (ap (births_in k.cv.period) (sym mine) ∙ k.births v.who) (λ i other. k.births i)) k.start
      (Rattle.tide_model.proofs.NumberLaws.put_at_elim (λ i x. x.left ≡ true → (state_after layout log).active i ≡ false) k.part v.who (split_view v)
      (λ e. k.retired v.who (ap (λ (x : View). x.left) mine ∙ e)) (λ i other e. k.retired i e))
      (inl (refl, λ h. h))
      (subst (λ b. MatchBool b (IsFrozen layout shapes words log k.cv (put_at k.part v.who (split_view v)))
      (IsRunning layout shapes words log k.cv (put_at k.part v.who (split_view v)))) (sym thawed)
      (after_load run (split_view v) (subst (λ (x : View). RunningWave layout shapes (record {
        heap = write run.heap region.Period 0 (run.heap region.Period 0);
        part = put_at k.part v.who (split_view x);
        log = log;
      })) mine wave)))

  last_part : v.period < v.ticket → (k.part v.who).period < k.cv.period
  last_part later = (let few = ok.ticket in let is_mine = ap (λ (x : View). x.period) mine in omega (arith, few, is_mine, later))

  pub renoted : v.period < v.ticket → (t : Tabled layout shapes words views log) × (t.cv ≡ k.cv)
      × (t.note_at ≡ put_at k.note_at v.who (length views))
  renoted later = renote layout shapes words views log v.who (length views) k (last_part later)

-- its note gets a seat
pub note_split : (layout : Layout) (shapes : ShapeLists) (words : List ℕ) (views : List View) (log : List Event) (me : ℕ)
    (v : View) (k : Tabled layout shapes words views log) (there : get_elem? views me ≡ some v) (is : v.role ≡ Member) →
    v.runs ≡ false → v.begun ≡ v.ticket → v.period < v.ticket → (done : Bool) →
    ((done ≡ true) ↔ HasDonePart layout v) →
    Tabled layout shapes words (set views me (split_view v) ++ note_of done v ∷ []) log
note_split layout shapes words views log me v k there is idle began later done says =
    let seat = renoted layout shapes words views log me v k there is later in
    let after = noting_here layout shapes words views log me v seat.0 there is idle began later in
    add_copy layout shapes words (set views me (split_view v)) log note after.0
    (party layout shapes words views log me v k there is, note_ok after.0 (after.1 ∙ seat.1) (after.2 ∙ seat.2))
  where
    note : View
    note = note_of done v

    few : v.ticket ≤ k.cv.period
    few = (ok layout shapes words views log me v k there is).ticket

    not_in : In v.who k.cv.notes → ⊥
    not_in a = (let b = ((ok layout shapes words views log me v k there is).noted a).0 in omega (arith, b, few, later))

    note_ok : (after : Tabled layout shapes words (set views me (split_view v)) log) → after.cv ≡ k.cv →
        after.note_at ≡ put_at k.note_at v.who (length views) →
        NoteOk layout after.cv (after.part v.who) (after.note_at v.who) (length (set views me (split_view v))) note
    note_ok after same seats =
        let there' = Rattle.atomic_table.proofs.Lists.set_here views me (split_view v) (below views me v there) in
        let m = member layout shapes words (set views me (split_view v)) log me (split_view v) after there' is in
        subst (λ (x : View × View). NoteOk layout x.0 x.1 (after.note_at v.who) (length (set views me (split_view v))) note)
        (λ i. (sym same i, m.2 i))
        record {
          behind = omega arith;
          now = λ _. (refl, refl, refl, refl, refl, refl);
          one = λ _. ap (λ (f : ℕ → ℕ). f v.who) seats
              ∙ ap (λ (b : Bool). if b then length views else k.note_at v.who) (eq-eqb v.who v.who refl)
              ∙ sym (length-set views me (split_view v));
          out = λ _. not_in;
          began = λ e. began ∙ e;
          done = λ _. says;
        }
