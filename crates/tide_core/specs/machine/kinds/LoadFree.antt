-- Load free word: a mutator looks for a free cell or array in a block.
use Rattle.std.specs.Prelude.{ℕ, ◌<◌, ◌∷◌, List, length}
use Rattle.tide_words.specs.tide_layout.Region.{block_count}
use Rattle.tide_core.specs.machine.May.{RunsAsMutator}
use Rattle.tide_core.specs.machine.World.{World}
use Rattle.tide_core.specs.declared.machine.view.View.{View}
use Rattle.tide_model.specs.Layout.{Layout}
use Rattle.tide_model.specs.declared.entry.Event.{Event}

-- the mutator keeps what the word of a block showed at this moment
abbrev pub looked_view : List Event → ℕ → ℕ → View → View
looked_view log block read v =
    record v { full = record { block = block; moment = length log; word = read } ∷ v.full }

-- a mutator that runs may load the word of any block
abbrev pub MayLoadFree : Layout → World → ℕ → ℕ → Type 0
MayLoadFree layout w me block = RunsAsMutator layout w me × (block < block_count layout)
