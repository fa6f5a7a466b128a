-- How many cells and arrays are free.
use Rattle.std.specs.Prelude.{ℕ, ◌==◌, ◌&&◌, nat_lt, if◌then◌else◌}
use Rattle.tide_model.specs.Layout.{Layout, cell_count, array_count, class_of, class_of_array}
use Rattle.tide_model.specs.Numbers.{count_where}
use Rattle.tide_model.specs.State.{State, is_free}

-- how many cells of a class are free
abbrev pub free_cells : Layout → State → ℕ → ℕ
free_cells layout state class = count_where (λ cell. (class_of layout cell == class) && is_free (state.cells cell).status) (cell_count layout)

-- how many arrays of a class are free
abbrev pub free_arrays : Layout → State → ℕ → ℕ
free_arrays layout state class = count_where (λ array. (class_of_array layout array == class) && is_free (state.arrays array)) (array_count layout)

-- how many of a class are free: the classes 0 to 4 are those of cells, and the others those of arrays
abbrev pub free_count : Layout → State → ℕ → ℕ
free_count layout state class = if nat_lt class 5 then free_cells layout state class else free_arrays layout state class
