-- What a heap starts with.
use Rattle.std.specs.Prelude.{ℕ, suc, ◌≡◌, true, List, [], ◌∷◌, length}
use Rattle.atomic_table.specs.Seated.{TableId}
use Rattle.tide_heap.specs.tide_layout.Region.{word_count}
use Rattle.tide_heap.specs.tide_layout.declared.region.Region.{Region}
use Rattle.tide_heap.specs.tide_layout.declared.region.Region.TheVariants.{Stopped}
use Rattle.tide_heap.specs.tide_core.wave.FrozenWave.{FrozenWave}
use Rattle.tide_heap.specs.tide_core.machine.Frozen.{newcomer}
use Rattle.tide_heap.specs.tide_core.declared.machine.view.View.{View}
use Rattle.tide_heap.specs.tide_core.machine.points.Sweeps.{SweptAreBelow, SweptAreTold}
use Rattle.tide_model.specs.Layout.{Layout}
use Rattle.tide_model.specs.Refused.{ShapeLists}
use Rattle.tide_heap.specs.declared.steps.pass.Pass.{Pass}
use Rattle.tide_table.specs.Blacks.{BlacksStay}
use Rattle.tide_heap.specs.tide_words.heap.Filled.{IsFilledTo}
use Rattle.tide_heap.specs.tide_words.heap.Heap.{SameIn, heap_of}

-- passes of participants with numbers one after another, who know nothing yet
abbrev pub ArePasses : TableId → ℕ → List Pass → Type 0
ArePasses id first [] = Unit {0}
ArePasses id first (p ∷ ps) =
    (p.seat.table_id ≡ id) × (p.seat.me.0 ≡ newcomer first) × ArePasses id (suc first) ps

-- two views that are the same but for the seats given out
abbrev pub is_but_next : View → View → Type 0
is_but_next v w = (n : ℕ) × (w ≡ record v { next = n })

-- two views that are the same but for the words, in which a region was filled
pub record HasFilled (layout : Layout) (region : Region) (word count : ℕ) (v w : View) : Type 0 where
  pub words : List ℕ
  pub view : w ≡ record v { words = words }
  pub filled : IsFilledTo layout region word count v.words words

-- the collector's view at the start: frozen, with an empty history and words that meet the wave
pub record IsStarted (layout : Layout) (shapes : ShapeLists) (v : View) : Type 0 where
  pub frozen : v.frozen ≡ true
  pub period : v.period ≡ 0
  pub seen : v.seen ≡ []
  pub gone : v.gone ≡ []
  pub births : v.births ≡ 0
  pub visited : v.visited ≡ []
  pub long : length v.words ≡ word_count layout
  pub wave : FrozenWave layout shapes (heap_of layout v.words) []
  pub swept : SweptAreBelow layout (heap_of layout v.words)
  pub told : SweptAreTold layout (heap_of layout v.words) []
  pub stopped : SameIn layout Stopped (heap_of layout v.stood) (heap_of layout v.words)
  pub blacks : BlacksStay layout v
