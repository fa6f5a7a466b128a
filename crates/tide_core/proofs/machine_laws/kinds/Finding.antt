-- The wave says nothing of the word that a participant found last.
use Rattle.std.proofs.Common.{ℕ, ◌≡◌, ◌<◌, refl, ◌∙◌, ap, subst, arith, true, List, inl, inr}
use Rattle.tide_core.proofs.machine_laws.kinds.Resting.{put_twice}
use Rattle.tide_core.proofs.machine_laws.steps.Frames.{calls_view, put_here, stops_view}
use Rattle.tide_core.proofs.machine_laws.steps.Quiet.{quiet_step}
use Rattle.tide_core.proofs.machine_laws.steps.Waiting.{left_quiet}
use Rattle.tide_core.specs.machine.RunningWave.{RunningWave}
use Rattle.tide_core.specs.machine.World.{parties}
use Rattle.tide_core.specs.declared.machine.view.View.{View}
use Rattle.tide_core.specs.machine.points.Scans.{held, scanned, buffered}
use Rattle.tide_model.specs.Layout.{Layout}
use Rattle.tide_model.specs.Numbers.{put_at}
use Rattle.tide_model.specs.Refused.{ShapeLists}
use Rattle.tide_model.specs.declared.entry.Event.{Event}
use Rattle.tide_words.specs.heap.Heap.{Heap}

finds : (layout : Layout) (shapes : ShapeLists) (heap : Heap) (part : ℕ → View) (log : List Event) (me : ℕ) →
    me < parties → RunningWave layout shapes (record { heap = heap; part = part; log = log }) →
    (part me).runs ≡ true → (word : ℕ) → RunningWave layout shapes (record {
      heap = heap;
      part = put_at part me (record (part me) { found = word });
      log = log;
    })
finds layout shapes heap part log me inside wave runs word = quiet_step layout shapes heap part log me wave heap (record (part me) { found = word }) record {
  inside = inside;
  words = λ at index read. refl;
  who = refl;
  seen = refl;
  mine = refl;
  owed = refl;
  known = refl;
  full = refl;
  growth = refl;
  marks = refl;
  cycle = refl;
  mark_version = refl;
  begun = refl;
  period = refl;
  left = refl;
  sweeping = refl;
  saw = refl;
  cleared = refl;
  swept = λ block. refl;
  waits = left_quiet layout heap heap part me (record (part me) { found = word }) refl refl (λ _ c in_c is. is)
      (λ c is. is) refl refl refl refl wave.waits;
  calls = calls_view layout heap heap part me (record (part me) { found = word }) refl (λ p. refl) wave.calls;
  stops = stops_view layout heap heap part me (record (part me) { found = word }) refl (λ index. refl) wave.stops;
  ran = runs;
  runs = runs;
  colours = wave.colours;
  balance = λ c in_c few. refl;
  rests = λ idle. (wave.rests.held idle me, wave.rests.scans idle me);
  at_hand = λ c at. wave.hands.cells me c (elim at [
    | held is ↦ held is
    | scanned scan is e ↦ scanned scan is e
    | buffered scan is e ↦ buffered scan is e
  ]);
  arrays = λ a scan is. wave.hands.arrays me a scan is;
  scanned = λ scan is. (
    wave.retained.scanned me scan is,
    wave.scans.knows me scan is,
    λ c at holds. wave.retained.buffered me c scan is at holds,
  );
  black = λ source place target link black white. inr (refl, white, λ e. inl e);
  grows = λ c g. record { grows = g.grows; owes = g.owes };
  stays = λ c is. is;
  recoloured = λ _ c. inl refl;
  aims = λ scan target is. wave.targets.right me scan target is;
  marked = λ c in_c is. inl is;
  born = λ _ c owes. inl owes;
  owes = λ c owes. (owes, wave.born.white me c owes);
  counted = λ _. omega arith;
}

-- so it holds also where the view after a step has the word that the step found
pub finds_after : (layout : Layout) (shapes : ShapeLists) (heap : Heap) (part : ℕ → View) (log : List Event) (me : ℕ) →
    me < parties → (view : View) → view.runs ≡ true → (word : ℕ) →
    RunningWave layout shapes (record { heap = heap; part = put_at part me view; log = log }) →
    RunningWave layout shapes (record {
      heap = heap;
      part = put_at part me (record view { found = word });
      log = log;
    })
finds_after layout shapes heap part log me inside view runs word wave =
    let here = put_here part me view in
    subst (λ (q : ℕ → View). RunningWave layout shapes (record { heap = heap; part = q; log = log }))
    (ap (put_at (put_at part me view) me) (ap (λ (x : View). record x { found = word }) here)
    ∙ put_twice part me view (record view { found = word }))
    (finds layout shapes heap (put_at part me view) log me inside wave (ap (λ (x : View). x.runs) here ∙ runs) word)
