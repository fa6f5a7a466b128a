-- What a step of the collector has to show of the rule.
use Rattle.std.proofs.Common.{◌≡◌, ℕ, ◌≤◌, ◌≢◌, ◌⊎◌, List, ◌++◌, sym, refl, ap, ◌∙◌, inl, inr, subst, arith, true, false, set, MatchBool}
use Rattle.std.specs.Prelude.{Contains}
use Rattle.tide_heap.specs.tide_core.declared.machine.view.NotedCalls.{NotedCalls}
use Rattle.tide_heap.specs.tide_core.declared.machine.view.Role.{Role}
use Rattle.tide_heap.specs.tide_core.declared.machine.view.Role.TheVariants.{Collector, Member, Note, Ticket, Spent}
use Rattle.tide_heap.specs.tide_core.declared.machine.view.View.{View}
use Rattle.tide_model.specs.History.{is_open, state_after}
use Rattle.tide_model.specs.Layout.{Layout}
use Rattle.tide_model.specs.Prefix.{IsPrefix, prefix_trans}
use Rattle.tide_model.specs.Refused.{ShapeLists}
use Rattle.tide_model.specs.declared.entry.Event.{Event}
use Rattle.tide_heap.proofs.Members.{each_set, known_as, collects}
use Rattle.tide_model.specs.Since.{since}
use Rattle.tide_heap.specs.Done.{HasDonePart}
use Rattle.tide_heap.specs.Births.{births_in, born_to, told_births}
use Rattle.tide_heap.specs.Parties.{In, IsParty, tally}
use Rattle.tide_heap.specs.Rule.{AgreesOnPart, KeepsNoted, MemberOk, NoteOk, Heard, IsAsNoted, SeatOkAs, SeatOk, IsFrozen, IsRunning, Mode, Tabled}
use lib.ListN.{get_elem?}
use mathlib.Core.Option.{some}

-- a seat of another, after the collector's step
heeds : (layout : Layout) (cv cv' : View) (part : ℕ → View) (seat_of note_at : ℕ → ℕ) (log log' : List Event) (k : ℕ) (u : View) → k ≢ 0
    → IsPrefix log log' → cv.period ≤ cv'.period → cv.next ≤ cv'.next → (u.role ≡ Note → IsParty layout u.who → NoteOk layout cv (part u.who) (note_at u.who) k u → NoteOk layout cv' (part u.who) (note_at u.who) k u)
    → ((x : View) → Heard log cv x → x.period ≡ cv'.period → AgreesOnPart cv' x)
    → (r : Role) → u.role ≡ r → SeatOkAs layout cv part seat_of note_at log k u r → SeatOkAs layout cv' part seat_of note_at log' k u r
heeds layout cv cv' part seat_of note_at log log' k u apart grows later seats notes tells Collector is h = absurd (apart h.0)
heeds layout cv cv' part seat_of note_at log log' k u apart grows later seats notes tells Member is h = (h.0, (let b = h.1 in omega (arith, b, seats)), h.2, h.3)
heeds layout cv cv' part seat_of note_at log log' k u apart grows later seats notes tells Note is h = (h.0, notes is h.0 h.1)
heeds layout cv cv' part seat_of note_at log log' k u apart grows later seats notes tells Ticket is h = record { behind = (let b = h.behind in omega (arith, b, later)); prefix = prefix_trans u.seen log log' h.prefix grows; told = tells u h }
heeds layout cv cv' part seat_of note_at log log' k u apart grows later seats notes tells Spent is h = tt

module _ (layout : Layout) (shapes : ShapeLists) (words : List ℕ) (views : List View) (log : List Event) (me : ℕ) (v : View) (k : Tabled layout shapes words views log) (there : get_elem? views me ≡ some v) (is : v.role ≡ Collector) where
  pub own : v ≡ k.cv
  own = (collects layout shapes words views log me v k there is).1

  pub at_zero : me ≡ 0
  at_zero = (collects layout shapes words views log me v k there is).0

  -- with the facts about the collector's view said of v
  pub mode_of : MatchBool v.frozen (IsFrozen layout shapes words log v k.part) (IsRunning layout shapes words log v k.part)
  mode_of = subst (λ (x : View). MatchBool x.frozen (IsFrozen layout shapes words log x k.part) (IsRunning layout shapes words log x k.part)) (sym own) k.mode

  pub ok_of : (i : ℕ) → IsParty layout i → MemberOk layout v (k.part i) i
  ok_of i l = subst (λ (x : View). MemberOk layout x (k.part i) i) (sym own) (k.members i l)

  pub keeps_of : KeepsNoted v
  keeps_of = subst KeepsNoted (sym own) k.keeps

  pub prefix_of : IsPrefix v.seen log
  prefix_of = subst (λ (x : View). IsPrefix x.seen log) (sym own) k.prefix

  pub collector_step : (w : View) (words' : List ℕ) (log' : List Event) → w.role ≡ Collector → v.period ≤ w.period → w.next ≡ v.next
      → IsPrefix log log' → ((j : ℕ) (x : View) → get_elem? views j ≡ some x → x.role ≡ Note → IsParty layout x.who → NoteOk layout v (k.part x.who) (k.note_at x.who) j x → NoteOk layout w (k.part x.who) (k.note_at x.who) j x) → ((x : View) → Heard log v x → x.period ≡ w.period → AgreesOnPart w x)
      → ((i : ℕ) → IsParty layout i → MemberOk layout w (k.part i) i) → KeepsNoted w → IsPrefix w.seen log' → ((i : ℕ) → (k.part i).left ≡ true → (state_after layout log').active i ≡ false) → (log' ≡ w.seen) ⊎ ((log' ≡ log) × (log ≡ v.seen → log ≡ w.seen)) → tally w.period k.part w.notes ≡ w.visits_told
      → ((i : ℕ) → births_in w.period (k.part i) ≡ born_to i log') → told_births w.period k.part w.notes ≡ w.births → w.start ++ since is_open log' ≡ log' → Mode layout shapes words' log' w k.part
      → Tabled layout shapes words' (set views me w) log'
  collector_step w words' log' is' later seats grows notes tells ok keeps prefix retired tip visits_told births told start mode = record {
    cv = w;
    part = k.part;
    seat_of = k.seat_of;
    note_at = k.note_at;
    limits = k.limits;
    empty_shape = k.empty_shape;
    collects = is';
    each = each_set (SeatOk layout w k.part k.seat_of k.note_at log') views me w (known_as layout w k.part k.seat_of k.note_at log' me w Collector is' (at_zero, refl))
        (λ j u other at. heeds layout v w k.part k.seat_of k.note_at log log' j u (λ e. other (e ∙ sym at_zero)) grows later (omega (arith, seats)) (notes j u at) tells u.role refl (subst (λ (x : View). SeatOk layout x k.part k.seat_of k.note_at log j u) (sym own) (k.each j u at)));
    fresh = λ j h. k.fresh j (let e = ap (λ (x : View). x.next) own in omega (arith, h, seats, e));
    strangers = k.strangers;
    members = ok;
    keeps = keeps;
    prefix = prefix;
    tip = elim tip [
      | inl e ↦ inl e
      | inr e ↦ elim k.tip [
        | inl h ↦ inl (e.0 ∙ e.1 (h ∙ ap (λ (x : View). x.seen) (sym own)))
        | inr h ↦ inr (h.0, h.1, e.0 ∙ h.2)
      ]
    ];
    retired = retired;
    visits_told = visits_told;
    births = births;
    told = told;
    start = start;
    mode = mode;
  }

  -- the same part goes on
  pub record Continues (w : View) : Type 0 where
    pub role : w.role ≡ Collector
    pub next : w.next ≡ v.next
    pub period : w.period ≡ v.period
    pub marks : w.marks ≡ v.marks
    pub cycle : w.cycle ≡ v.cycle
    pub mark_version : w.mark_version ≡ v.mark_version
    pub run : w.run ≡ v.run
    pub seen : IsPrefix v.seen w.seen
    pub visits_told : tally w.period k.part w.notes ≡ w.visits_told
    pub told : told_births w.period k.part w.notes ≡ w.births
    pub start : w.start ≡ v.start
    pub kept : (i : ℕ) → In i v.notes → In i w.notes
    pub out : (j : ℕ) (x : View) → get_elem? views j ≡ some x → x.role ≡ Note → k.note_at x.who ≡ j → (In x.who v.notes → ⊥) → In x.who w.notes → ⊥
    pub notes : (i : ℕ) → IsParty layout i → In i w.notes → In i v.notes ⊎ (((k.part i).period ≡ v.period) × IsPrefix (k.part i).seen w.seen × ((k.part i).left ≡ true → In i w.gone) × (w.done ≡ true → ((k.part i).begun ≡ v.period) × HasDonePart layout (k.part i))
        × ((k.part i).stopped ≡ v.period))
    pub done : w.done ≡ true → v.done ≡ true
    pub keeps : KeepsNoted w
    pub stays : (i : ℕ) → In i v.gone → In i w.gone
    pub calls : (i : ℕ) → IsParty layout i → (noted : NotedCalls) → Contains w.noted_calls noted → noted.who ≡ i → Contains v.noted_calls noted ⊎ IsAsNoted w (k.part i) i noted
    pub gone : (i : ℕ) → IsParty layout i → In i w.gone → In i v.gone ⊎ (((k.part i).left ≡ true) × ((k.part i).runs ≡ false) × IsPrefix (k.part i).seen w.seen × ((k.part i).ticket ≤ (k.part i).period) × In i w.notes)

  pub continue_part : (w : View) (words' : List ℕ) (log' : List Event) → Continues w → IsPrefix log log' → IsPrefix w.seen log' → ((i : ℕ) → (k.part i).left ≡ true → (state_after layout log').active i ≡ false) → (log' ≡ w.seen) ⊎ ((log' ≡ log) × (log ≡ v.seen → log ≡ w.seen)) → ((i : ℕ) → born_to i log' ≡ born_to i log) → v.start ++ since is_open log' ≡ log' → Mode layout shapes words' log' w k.part
      → Tabled layout shapes words' (set views me w) log'
  continue_part w words' log' c grows prefix retired tip quiet start mode = let p = c.period in collector_step w words' log' c.role (omega (arith, p)) c.next grows
      (λ j x at role l h. record { behind = h.behind; now = λ e. h.now (e ∙ p); one = λ e. h.one (e ∙ p); out = λ e. c.out j x at role (h.one (e ∙ p)) (h.out (e ∙ p)); began = λ e. h.began (e ∙ p) ∙ sym p; done = λ e. h.done (e ∙ p) })
      (λ x h e. same_told x (h.told (e ∙ p)))
      (λ i l. let o = ok_of i l in record {
        role = o.role;
        behind = o.behind;
        close = elim o.close [ inl a ↦ inl (c.stays i a) | inr a ↦ inr (omega (arith, a, p)) ];
        ticket = (let t = o.ticket in omega (arith, t, p));
        runs = o.runs;
        still = o.still;
        mutator = o.mutator;
        told = λ e. same_told (k.part i) (o.told (e ∙ p));
        earlier = o.earlier;
        heard = o.heard;
        ended = o.ended;
        halted = λ a. elim (c.notes i l a) [ inl b ↦ o.halted b ∙ sym p | inr b ↦ b.4 ∙ sym p ];
        calls = λ noted a e. elim (c.calls i l noted a e) [
          | inl b ↦ (let q = o.calls noted b e in (elim q.0 [ inl x ↦ inl (c.kept i x) | inr x ↦ inr (c.stays i x) ], q.1, q.2, q.3))
          | inr b ↦ b
        ];
        noted = λ a. elim (c.notes i l a) [ inl b ↦ ((o.noted b).0 ∙ sym p, prefix_trans (k.part i).seen v.seen w.seen (o.noted b).1 c.seen) | inr b ↦ (b.0 ∙ sym p, b.1) ];
        leaves = λ a left. elim (c.notes i l a) [ inl b ↦ c.stays i (o.leaves b left) | inr b ↦ b.2 left ];
        began = λ a done. elim (c.notes i l a) [ inl b ↦ o.began b (c.done done) ∙ sym p | inr b ↦ (b.3 done).0 ∙ sym p ];
        done = λ a done. elim (c.notes i l a) [ inl b ↦ o.done b (c.done done) | inr b ↦ (b.3 done).1 ];
        gone = λ a. elim (c.gone i l a) [ inl b ↦ ((o.gone b).0, (o.gone b).1, prefix_trans (k.part i).seen v.seen w.seen (o.gone b).2 c.seen, (o.gone b).3) | inr b ↦ (b.0, b.1, b.2, b.3) ];
        over = λ a. elim (c.gone i l a) [
          | inl b ↦ elim (o.over b) [ inl noted ↦ inl (c.kept i noted) | inr before ↦ inr (omega (arith, before, p)) ]
          | inr b ↦ inl b.4
        ];
      }) c.keeps prefix retired tip c.visits_told
      (λ i. ap (λ (n : ℕ). births_in n (k.part i)) p ∙ born_of i ∙ sym (quiet i)) c.told
      (ap (λ (l : List Event). l ++ since is_open log') c.start ∙ start) mode
    where
      born_of : (i : ℕ) → births_in v.period (k.part i) ≡ born_to i log
      born_of i = subst (λ (x : View). births_in x.period (k.part i) ≡ born_to i log) (sym own) (k.births i)

      same_told : (x : View) → AgreesOnPart v x → AgreesOnPart w x
      same_told x t = record { marks = t.marks ∙ sym c.marks; cycle = t.cycle ∙ sym c.cycle; mark_version = t.mark_version ∙ sym c.mark_version; run = t.run ∙ sym c.run }
