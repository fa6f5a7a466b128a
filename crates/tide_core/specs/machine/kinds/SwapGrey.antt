-- Swap grey word: a visitor takes the grey cells of a block, and owes each of them a visit or a push.
use Rattle.std.specs.Prelude.{ℕ, ◌≡◌, ◌<◌, ◌∷◌, ◌++◌, [], ◌⊎◌, ◌==◌, if◌then◌else◌}
use Rattle.tide_words.specs.tide_layout.Region.{cell_block_count}
use Rattle.tide_words.specs.tide_layout.declared.region.Region.{Region}
use Rattle.tide_words.specs.tide_layout.declared.region.Region.TheVariants as region
use Rattle.tide_core.specs.machine.May.{RunsAsVisitor}
use Rattle.tide_core.specs.machine.Scanning.{rests_now}
use Rattle.tide_core.specs.machine.Words.{cells_in}
use Rattle.tide_core.specs.machine.World.{World}
use Rattle.tide_core.specs.declared.machine.view.View.{View}
use Rattle.tide_model.specs.Layout.{Layout}

-- the cells of the word are held; a word that is 0 counts for the round while the visitor holds nothing
abbrev pub swapped_view : Region → ℕ → ℕ → View → View
swapped_view grey block read v =
    if read == 0 then record v {
      round = if rests_now v then record {
        region = grey;
        block =
            block;
      } ∷ v.round else v.round;
    }
    else record v { held = v.held ++ cells_in block read; round = [] }

-- a visitor takes what is shared, and what mutators made grey
pub record MaySwapGrey (layout : Layout) (w : World) (me : ℕ) (grey : Region) (block : ℕ) : Type 0 where
  pub runner : RunsAsVisitor layout w me
  pub is_grey : (grey ≡ region.GreyShared) ⊎ (grey ≡ region.GreyMutator)
  pub within : block < cell_block_count layout
