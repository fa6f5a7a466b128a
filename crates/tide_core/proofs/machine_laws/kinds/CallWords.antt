-- A mutator stores its call word, which tells all of its calls: the wave is kept.
use Rattle.std.proofs.Common.{ℕ, ◌≡◌, ◌<◌, refl, ◌∙◌, arith, inl, inr, None}
use Rattle.std.specs.Prelude.{◌%◌, ◌^◌, length}
use Rattle.tide_core.proofs.machine_laws.steps.Colouring.{unread_write}
use Rattle.tide_core.proofs.machine_laws.steps.Frames.{stops_view}
use Rattle.tide_core.proofs.machine_laws.steps.Quiet.{quiet_step}
use Rattle.tide_core.proofs.machine_laws.steps.Waiting.{left_quiet}
use Rattle.tide_core.specs.machine.Kind.{StoreCall}
use Rattle.tide_core.specs.machine.Machine.{stepped}
use Rattle.tide_core.specs.machine.RunningWave.{RunningWave}
use Rattle.tide_core.specs.machine.World.{World, parties}
use Rattle.tide_core.specs.declared.machine.view.View.{View}
use Rattle.tide_core.specs.machine.kinds.RegisterCall.{MayStoreCall}
use Rattle.tide_core.specs.machine.points.Scans.{held, scanned, buffered}
use Rattle.tide_model.proofs.ReferenceLaws.{put_at_elim}
use Rattle.tide_model.specs.Layout.{Layout}
use Rattle.tide_model.specs.Refused.{ShapeLists}
use Rattle.tide_words.proofs.heap_laws.HeapLaws.{write-same, write-other_index}
use Rattle.tide_words.specs.heap.Heap.{Heap, write}
use Rattle.tide_words.specs.tide_layout.declared.region.Region.TheVariants as region

pub store_call_word : (layout : Layout) (shapes : ShapeLists) (w : World) (me : ℕ) → me < parties →
    RunningWave layout shapes w →
    (word : ℕ) → MayStoreCall layout shapes w me word None →
    RunningWave layout shapes (stepped layout shapes w me (StoreCall word None))
store_call_word layout shapes w me inside wave word may =
    quiet_step layout shapes w.heap w.part w.log me wave new later record {
      inside = inside;
      words = λ at i. unread_write w.heap region.Call me word refl at i;
      who = refl;
      seen = refl;
      mine = refl;
      owed = refl;
      known = refl;
      full = refl;
      growth = refl;
      marks = refl;
      cycle = refl;
      mark_version = refl;
      begun = refl;
      period = refl;
      left = refl;
      sweeping = refl;
      saw = refl;
      cleared = refl;
      swept = λ block. refl;
      waits = left_quiet layout w.heap new w.part me later refl refl (λ _ c in_c is. is) (λ c is. is) refl refl refl
          refl
          wave.waits;
      calls = put_at_elim (λ p u. p < layout.mutators → new region.Call p ≡ u.calls % 2 ^ 64) w.part me later
          (λ within. write-same w.heap region.Call me word ∙ may.1)
          (λ p apart within. write-other_index w.heap region.Call me p word apart ∙ wave.calls p within);
      stops = stops_view layout w.heap new w.part me later refl (λ index. refl) wave.stops;
      ran = may.0.runs;
      runs = may.0.runs;
      colours = wave.colours;
      balance = λ c in_c few. refl;
      rests = λ idle. (wave.rests.held idle me, wave.rests.scans idle me);
      at_hand = λ c at. wave.hands.cells me c (elim at [
        | held is ↦ held is
        | scanned scan is e ↦
            scanned scan is e
        | buffered scan is e ↦ buffered scan is e
      ]);
      arrays = λ a scan is. wave.hands.arrays me a scan is;
      scanned = λ scan is. (
        wave.retained.scanned me scan is,
        wave.scans.knows me scan is,
        λ c at holds.
            wave.retained.buffered me c scan is at holds,
      );
      black = λ source place target link black white. inr (refl, white, λ e. inl e);
      grows = λ c g. record { grows = g.grows; owes = g.owes };
      stays = λ c is. is;
      recoloured = λ _ c. inl refl;
      aims = λ scan target is. wave.targets.right me scan target is;
      marked = λ c in_c is. inl is;
      born = λ _ c owes. inl owes;
      owes = λ c owes. (owes, wave.born.white me c owes);
      counted = λ _. omega arith;
    }
  where
    new : Heap
    new = write w.heap region.Call me word

    later : View
    later = record (w.part me) { calls = length (w.part me).mine }
