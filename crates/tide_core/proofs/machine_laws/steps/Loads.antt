-- A load leaves the word that it reads.
use Rattle.std.proofs.Common.{ℕ, ◌≡◌, sym, ◌∙◌, ap, subst, Bool, List, inl, inr}
use Rattle.std.proofs.lemmas.Bool.{cases_eq, eq-eqb, ne_eqb}
use Rattle.std.specs.Prelude.{if◌then◌else◌}
use Rattle.tide_words.specs.tide_layout.declared.region.Region.{Region}
use Rattle.tide_core.proofs.machine_laws.steps.Colouring.{write_same}
use Rattle.tide_core.specs.machine.RunningWave.{RunningWave}
use Rattle.tide_core.specs.machine.World.{World}
use Rattle.tide_core.specs.declared.machine.view.View.{View}
use Rattle.tide_model.specs.Layout.{Layout}
use Rattle.tide_model.specs.Numbers.{put_at}
use Rattle.tide_model.specs.Refused.{ShapeLists}
use Rattle.tide_model.specs.declared.entry.Event.{Event}
use Rattle.tide_words.specs.heap.Heap.{Heap, write}

-- so the wave of the heap as it was is that of the heap after a load
pub load_same : (layout : Layout) (shapes : ShapeLists) (heap : Heap) (at : Region) (index : ℕ) (part : ℕ → View)
    (log : List Event) →
    RunningWave layout shapes (record { heap = heap; part = part; log = log }) →
    RunningWave layout shapes (record { heap = write heap at index (heap at index); part = part; log = log })
load_same layout shapes heap at index part log =
    subst (λ (h : Heap). RunningWave layout shapes (record { heap = h; part = part; log = log }))
    (sym (write_same heap at index))

-- a load that says nothing to the one that loads
pub load_nothing : (layout : Layout) (shapes : ShapeLists) (w : World) (me : ℕ) → RunningWave layout shapes w →
    (at : Region) (index : ℕ) →
    RunningWave layout shapes (record {
      heap = write w.heap at index (w.heap at index);
      part =
          put_at w.part me (w.part me);
      log = w.log;
    })
load_nothing layout shapes w me wave at index =
    load_same layout shapes w.heap at index (put_at w.part me (w.part me)) w.log
    (subst (λ (part : ℕ → View). RunningWave layout shapes (record { heap = w.heap; part = part; log = w.log }))
    (sym (λ i p. same p i)) wave)
  where
    same : (p : ℕ) → put_at w.part me (w.part me) p ≡ w.part p
    same p = elim (cases_eq p me) [
      | inl is ↦ ap (λ (b : Bool). if b then w.part me else w.part p) (eq-eqb p me is) ∙ ap w.part (sym is)
      | inr apart ↦ ap (λ (b : Bool). if b then w.part me else w.part p) (ne_eqb p me apart)
    ]
