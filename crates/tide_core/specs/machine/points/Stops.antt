-- The point on Stopped words: each tells the part in which its participant last stopped.
use Rattle.std.specs.Prelude.{ℕ, ◌≡◌}
use Rattle.tide_words.specs.tide_layout.declared.region.Region.TheVariants as region
use Rattle.tide_core.specs.machine.Kind.{index_of_stopped}
use Rattle.tide_core.specs.machine.World.{IsParty}
use Rattle.tide_core.specs.declared.machine.view.View.{View}
use Rattle.tide_model.specs.Layout.{Layout}
use Rattle.tide_words.specs.heap.Heap.{Heap}

-- each participant's Stopped word is the number of the part in which it last stopped, and 0 where it never did
abbrev pub StopsAreTold : Layout → Heap → (ℕ → View) → Type 0
StopsAreTold layout heap part =
    (p : ℕ) → IsParty layout p → heap region.Stopped (index_of_stopped layout p) ≡ (part p).stopped
