-- A heap whose mutators have all retired may be closed.
use Rattle.std.proofs.Common.{ℕ, ◌≡◌, ◌<◌, refl, subst, arith, true, List, inl, inr}
use Rattle.std.proofs.lemmas.List.Elements.{All-get_or}
use Rattle.std.proofs.lemmas.List.Sums.{AllPass-from_list_all}
use Rattle.std.proofs.lemmas.Option.{slice_get_cases, slice_get_within, get_or_from_slice_get}
use Rattle.std.specs.List.{list_all}
use Rattle.std.specs.Prelude.{Some, slice_get}
use Rattle.atomic_table.specs.Seated.{TableId}
use Rattle.crossbeam_utils.specs.Padded.{padded_value}
use Rattle.crossbeam_utils.specs.declared.cache_padded.CachePadded.{CachePadded}
use Rattle.tide_heap.specs.Parties.{In}
use Rattle.tide_heap.specs.tide_core.declared.machine.view.View.{View}
use Rattle.tide_model.specs.Layout.{Layout}
use Rattle.tide_periods.specs.declared.cursor.ScriptCursor.{ScriptCursor}
use Rattle.tide_threads.proofs.Acting.{cursors_at}
use Rattle.tide_threads.proofs.Turns.{AreParted-standing}
use Rattle.tide_threads.specs.Acting.{cursor_of, cursors_in}
use Rattle.tide_threads.specs.Playing.{AllStandBy, WorkerStandsBy}
use Rattle.tide_threads.specs.declared.participant.Participant.{Participant}
use Rattle.tide_threads.specs.declared.worker.Worker.{Worker}
use Rattle.tide_threads.specs.declared.worker.Worker.TheVariants.{Mutator, Visitor}

pub all_gone : (id : TableId) (layout : Layout) (v : View) (xs : List (CachePadded Participant)) →
    AllStandBy id layout v xs → list_all (λ (cursor : ScriptCursor). cursor.retired) (cursors_in xs) ≡ true →
    (i : ℕ) → i < layout.mutators → In i v.gone
all_gone id layout v xs by all i below = elim (slice_get_cases xs i).1 [
  | inl at ↦ of_worker (padded_value at.0).worker (by.each i at.0 at.2).worker
      (λ c is. cursors_at layout.mutators xs (AreParted-standing id layout v xs by) i at.0 c at.2 is)
  | inr past ↦ absurd (let short = past.0 in let many = by.one_each in omega (arith, short, many, below))
]
  where
    of_worker : (w : Worker) → WorkerStandsBy id layout v i w →
        ((c : ScriptCursor) → cursor_of w ≡ Some c → slice_get (cursors_in xs) i ≡ Some c) → In i v.gone
    of_worker (Visitor o) b at = absurd (let place = b.place in omega (arith, place, below))
    of_worker (Mutator o) b at =
        let cursor = o.cursor in
        let found = at cursor refl in
        let within = slice_get_within (cursors_in xs) i cursor found in
        let retired : cursor.retired ≡ true =
        subst (λ (c : ScriptCursor). c.retired ≡ true) (get_or_from_slice_get (cursors_in xs) i cursor cursor found)
        (All-get_or (λ (c : ScriptCursor). c.retired ≡ true) (cursors_in xs) i cursor within
        (AllPass-from_list_all (λ (c : ScriptCursor). c.retired) (cursors_in xs) all)) in
        (b.parked.gone retired).gone
