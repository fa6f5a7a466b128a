-- How many cells and arrays are free in a small store.
use Rattle.std.specs.Prelude.{◌≡◌, refl}
use Rattle.tide_model.specs.State.{live, blank_cell, empty_state}
use Rattle.tide_model.specs.Applied.{put_cell}
use Rattle.tide_model.specs.Rows.{small}
use Rattle.tide_plain.specs.stored.Counting.{free_count}

-- in the empty store all are: a block of cells, one of tables, and one each of two classes of arrays
pub counts_of_empty :
    (free_count small empty_state 0 ≡ 64) × (free_count small empty_state 1 ≡ 0) × (free_count small empty_state 4 ≡ 64)
    × (free_count small empty_state 6 ≡ 64) × (free_count small empty_state 7 ≡ 0)
counts_of_empty = (refl, refl, refl, refl, refl)

-- a live table is missing among the tables alone
pub counts_beside_a_table :
    (free_count small (put_cell empty_state 70 (blank_cell live)) 0 ≡ 64) × (free_count small (put_cell empty_state 70 (blank_cell live)) 4 ≡ 63)
counts_beside_a_table = (refl, refl)
