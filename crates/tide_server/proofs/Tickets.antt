-- What the tickets of the first part tell.
use Rattle.std.proofs.Common.{ℕ, ◌+◌, ◌<◌, ◌∙◌, ap, refl, sym, List, [], ◌∷◌, ◌++◌}
use Rattle.tide_model.specs.Freeze.{marks_after}
use Rattle.tide_model.specs.History.{plain}
use Rattle.tide_model.specs.Layout.{Layout}
use Rattle.tide_model.specs.Periods.{open_count}
use Rattle.tide_model.specs.Refused.{ShapeLists}
use Rattle.tide_model.specs.declared.entry.Entry.TheVariants.{Open}
use Rattle.tide_model.specs.declared.entry.Event.{Event}
use Rattle.tide_posts.proofs.tide_heap.tide_core.machine_laws.freezes.Entering.{marks_read}
use Rattle.tide_posts.specs.Posts.{TicketTells}
use Rattle.tide_posts.specs.Schedule.{no_period}
use Rattle.tide_posts.specs.tide_heap.Turns.{open_entry, opened}
use Rattle.tide_posts.specs.tide_heap.tide_core.declared.machine.view.View.{View}
use Rattle.tide_posts.specs.tide_heap.tide_words.heap.Heap.{heap_of}
use Rattle.tide_table.specs.Started.{IsStarted}

pub TicketTells-first : (layout : Layout) (shapes : ShapeLists) (v : View) (run : ℕ) → IsStarted layout shapes v → 0 < run →
    TicketTells layout (opened layout run v)
TicketTells-first layout shapes v run started some = record {
  opening = record {
    before = v.seen;
    is = refl;
    count = ap (λ (h : List Event). open_count (h ++ open_entry run v ∷ [])) started.seen
        ∙ sym (ap (λ (n : ℕ). n + 1) started.period);
  };
  periods = record {
    pace = record { calls = run; visits = 0; headroom = 0; trigger = 0 };
    stops = [];
    before = [];
    periods = no_period;
    is = λ i. started.seen i ++ plain (Open (started.period i + 1) run) ∷ [];
  };
  some = some;
  marking = sym (marks_read layout shapes (heap_of layout v.words) [] started.wave.marking.reads)
      ∙ sym (ap (λ (h : List Event). marks_after layout (h ++ open_entry run v ∷ [])) started.seen);
}
