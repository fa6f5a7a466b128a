-- A participant gets its seat.
use Rattle.std.proofs.Common.{◌≡◌, ℕ, ◌≤◌, ◌≢◌, ◌⊎◌, List, [], ◌∷◌, ◌++◌, length, sym, refl, ap, ◌∙◌, inl, inr, subst, arith, Bool, true, false, set, MatchBool, length-set}
use Rattle.std.proofs.lemmas.Bool.{eq-eqb, ne_eqb}
use Rattle.std.specs.Prelude.{if◌then◌else◌}
use Rattle.tide_heap.specs.tide_core.machine.Frozen.{newcomer}
use Rattle.tide_heap.specs.tide_core.declared.machine.view.Role.{Role}
use Rattle.tide_heap.specs.tide_core.declared.machine.view.Role.TheVariants.{Collector, Member, Note, Ticket, Spent}
use Rattle.tide_heap.specs.tide_core.declared.machine.view.View.{View}
use Rattle.tide_model.specs.Layout.{Layout}
use Rattle.tide_model.specs.Numbers.{put_at}
use Rattle.tide_model.specs.Prefix.{IsPrefix}
use Rattle.tide_model.specs.Refused.{ShapeLists}
use Rattle.tide_model.specs.declared.entry.Event.{Event}
use Rattle.tide_table.proofs.Heeding.{own, at_zero, keeps_of, ok_of, mode_of}
use Rattle.tide_heap.proofs.Members.{at_end, each_set, known_as}
use Rattle.tide_model.specs.History.{is_open}
use Rattle.tide_model.specs.Since.{since}
use Rattle.tide_heap.specs.Births.{births_in, born_to, told_births}
use Rattle.tide_heap.specs.Parties.{IsParty, tally}
use Rattle.tide_heap.specs.Rule.{SeatOkAs, SeatOk, IsFrozen, IsRunning, Tabled}
use Rattle.tide_heap.specs.Turns.{seating}
use lib.ListN.{get_elem?}
use mathlib.Core.Option.{some}

number_here : (f : ℕ → ℕ) (i x : ℕ) → put_at f i x i ≡ x
number_here f i x = ap (λ (b : Bool). if b then x else f i) (eq-eqb i i refl)

number_else : (f : ℕ → ℕ) (i j x : ℕ) → j ≢ i → put_at f i x j ≡ f j
number_else f i j x other = ap (λ (b : Bool). if b then x else f j) (ne_eqb j i other)

-- the seats of others, when a participant gets the seat p
reseat : (layout : Layout) (cv : View) (part : ℕ → View) (seat_of note_at : ℕ → ℕ) (log : List Event) (who k p : ℕ) (u : View) → k ≢ 0 → cv.next ≤ who → (r : Role) → SeatOkAs layout cv part seat_of note_at log k u r →
    SeatOkAs layout (seating who cv) part (put_at seat_of who p) note_at log k u r
reseat layout cv part seat_of note_at log who k p u apart later Collector h = absurd (apart h.0)
reseat layout cv part seat_of note_at log who k p u apart later Member h = let b = h.1 in (h.0, omega (arith, b, later), h.2, number_else seat_of who u.who p (λ e. omega (arith, e, b, later)) ∙ h.3)
reseat layout cv part seat_of note_at log who k p u apart later Note h = (h.0, record { behind = h.1.behind; now = h.1.now; one = h.1.one; out = h.1.out; began = h.1.began; done = h.1.done })
reseat layout cv part seat_of note_at log who k p u apart later Ticket h = record { behind = h.behind; prefix = h.prefix; told = λ e. (let t = h.told e in record { marks = t.marks; cycle = t.cycle; mark_version = t.mark_version; run = t.run }) }
reseat layout cv part seat_of note_at log who k p u apart later Spent h = tt

-- a participant gets its seat
pub seat_member : (layout : Layout) (shapes : ShapeLists) (words : List ℕ) (views : List View) (log : List Event) (me : ℕ) (v : View) (k : Tabled layout shapes words views log) → get_elem? views me ≡ some v → v.role ≡ Collector →
    (who : ℕ) → v.next ≤ who → IsParty layout who → Tabled layout shapes words (set views me (seating who v) ++ newcomer who ∷ []) log
seat_member layout shapes words views log me v k there is who later party = record {
  cv = seating who v;
  part = k.part;
  seat_of = put_at k.seat_of who (length views);
  note_at = k.note_at;
  limits = k.limits;
  empty_shape = k.empty_shape;
  collects = is;
  each = λ j u e. elim (at_end (set views me (seating who v)) (newcomer who) u j e) [
    | inl at ↦ each_set (SeatOk layout (seating who v) k.part (put_at k.seat_of who (length views)) k.note_at log) views me (seating who v)
        (known_as layout (seating who v) k.part (put_at k.seat_of who (length views)) k.note_at log me (seating who v) Collector is (z, refl))
        (λ i x other at'. reseat layout v k.part k.seat_of k.note_at log who i (length views) x (λ h. other (h ∙ sym z)) later x.role (subst (λ (y : View). SeatOk layout y k.part k.seat_of k.note_at log i x) (sym o) (k.each i x at'))) j u at
    | inr t ↦ subst (λ (x : ℕ × View). SeatOk layout (seating who v) k.part (put_at k.seat_of who (length views)) k.note_at log x.0 x.1) (λ i. (sym (t.0 ∙ len) i, t.1 i)) mine
  ];
  fresh = λ i h. k.fresh i (let e = ap (λ (x : View). x.next) o in omega (arith, h, later, e));
  strangers = k.strangers;
  members = λ i l. let q = ok_of layout shapes words views log me v k there is i l in record { role = q.role; behind = q.behind; close = q.close; ticket = q.ticket; runs = q.runs; still = q.still; mutator = q.mutator; told = λ e. (let t = q.told e in record { marks = t.marks; cycle = t.cycle; mark_version = t.mark_version; run = t.run }); earlier = q.earlier; heard = q.heard; calls = q.calls; ended = q.ended; halted = q.halted; noted = q.noted; gone = q.gone; over = q.over; leaves = q.leaves; began = q.began; done = q.done };
  keeps = (let kept = keeps_of layout shapes words views log me v k there is in record { noted = kept.noted; gone = kept.gone });
  prefix = subst (λ (x : View). IsPrefix x.seen log) (sym o) k.prefix;
  tip = subst (λ (x : View). (log ≡ x.seen) ⊎ ((i : ℕ) × IsParty layout i × (log ≡ (k.part i).seen))) (sym o) k.tip;
  retired = k.retired;
  visits_told = subst (λ (x : View). tally x.period k.part x.notes ≡ x.visits_told) (sym o) k.visits_told;
  births = λ i. subst (λ (x : View). births_in x.period (k.part i) ≡ born_to i log) (sym o) (k.births i);
  told = subst (λ (x : View). told_births x.period k.part x.notes ≡ x.births) (sym o) k.told;
  start = subst (λ (x : View). x.start ++ since is_open log ≡ log) (sym o) k.start;
  mode = move v.frozen (mode_of layout shapes words views log me v k there is);
}
  where
    o : v ≡ k.cv
    o = own layout shapes words views log me v k there is

    z : me ≡ 0
    z = at_zero layout shapes words views log me v k there is

    len : length (set views me (seating who v)) ≡ length views
    len = length-set views me (seating who v)

    mine : SeatOk layout (seating who v) k.part (put_at k.seat_of who (length views)) k.note_at log (length views) (newcomer who)
    mine = (party, omega arith, sym (k.fresh who (let e = ap (λ (x : View). x.next) o in omega (arith, later, e))), number_here k.seat_of who (length views))

    move : (b : Bool) → MatchBool b (IsFrozen layout shapes words log v k.part) (IsRunning layout shapes words log v k.part) → MatchBool b (IsFrozen layout shapes words log (seating who v) k.part) (IsRunning layout shapes words log (seating who v) k.part)
    move true h = record { words_are = h.words_are; long = h.long; seen_all = h.seen_all; lawful = h.lawful; counts = h.counts; span = h.span; known = h.known; begun = h.begun; left = h.left; empty = h.empty; stops = h.stops; all_in = h.all_in }
    move false h = record { heap = h.heap; reads = h.reads; wave = h.wave; period = h.period; marks = h.marks; cycle = h.cycle; based = h.based; some_run = h.some_run }
