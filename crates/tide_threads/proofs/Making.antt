-- A mutator's part, by its view: from its ticket to its note.
use Rattle.std.proofs.Common.{ℕ, ◌≡◌, ◌<◌, ◌∙◌, refl, sym, ap, subst, Bool, true}
use Rattle.tide_heap.proofs.Newcomers.{begun_view-first}
use Rattle.tide_heap.specs.Turns.{heard_view, note_of}
use Rattle.tide_heap.specs.tide_core.declared.machine.view.View.{View}
use Rattle.tide_heap.specs.tide_core.machine.kinds.Activate.{begun_view}
use Rattle.tide_heap.specs.tide_core.machine.kinds.Split.{split_view}
use Rattle.tide_heap.specs.tide_core.machine.kinds.StoreStopped.{stopped_view}
use Rattle.tide_mutator.specs.owed.Calling.{Kept, kept}
use Rattle.tide_threads.specs.Parked.{HasBegunPart, HasPlayed}

-- the first beginning in a part
pub HasBegunPart-by : (t v u : View) → u ≡ begun_view (heard_view v t) → v.begun < t.period → HasBegunPart t v u
HasBegunPart-by t v u is later = subst (HasBegunPart t v) (sym (is ∙ begun_view-first v t later)) (record {
  who = refl;
  runs = refl;
  left = refl;
  period = refl;
  ticket = refl;
  begun = refl;
  born = refl;
  visits = refl;
})

-- what its view and its note are when it has stopped
pub HasPlayed-stopped : (t v u0 u1 w n : View) (who : ℕ) (retired : Bool) → HasBegunPart t v u0 → kept u1 ≡ kept u0 →
    who ≡ v.who → u1.left ≡ retired → w ≡ split_view (stopped_view u1) → n ≡ note_of true (stopped_view u1) →
    HasPlayed t who retired w n
HasPlayed-stopped t v u0 u1 w n who retired began same is left at out =
    subst (λ (x : View). HasPlayed t who retired x n) (sym at)
    (subst (λ (x : View). HasPlayed t who retired (split_view (stopped_view u1)) x) (sym out) (record {
      is = ap (λ (k : Kept). k.who) same ∙ began.who ∙ sym is;
      rests = refl;
      left = left;
      period = ap (λ (k : Kept). k.ticket) same ∙ began.ticket;
      begun = ap (λ (k : Kept). k.begun) same ∙ began.begun;
      visits = ap (λ (k : Kept). k.visits) same ∙ began.visits;
      of_part = ap (λ (k : Kept). k.ticket) same ∙ began.ticket;
      told = refl;
      still = ap (λ (k : Kept). k.visits) same ∙ began.visits;
      done = refl;
    }))
