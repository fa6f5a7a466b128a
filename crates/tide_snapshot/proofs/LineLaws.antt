-- What is written of a kept cell is its line in the state.
use Rattle.std.proofs.Common.{ℕ, ◌≡◌, true, List, [], ◌++◌, map, Option, None, Some, refl, sym, ap, ◌∙◌, subst}
use Rattle.std.specs.Prelude.{◌≢◌, is_some, Result, Ok, Err, OnErr, OnOk}
use Rattle.std.specs.List.{flat_map}
use Rattle.std.specs.Io.KnownBytes.{Appends}
use Rattle.tide_io.specs.Faults.{AppendsPart}
use Rattle.tide_model.specs.declared.val.Val.{Val}
use Rattle.tide_model.specs.Layout.{Layout, class_of, slots_of}
use Rattle.tide_model.specs.State.{CellState, live}
use Rattle.tide_retained.specs.declared.contents.Contents.{Contents}
use Rattle.tide_retained.specs.declared.contents.Held.{Held}
use Rattle.tide_retained.specs.declared.contents.Keyed.{Keyed}
use Rattle.tide_retained.specs.Contents.{held_at, is_kept}
use Rattle.tide_retained.specs.Holding.{HoldsSame, properties_of}
use Rattle.tide_retained.specs.Index.{up_to}
use Rattle.tide_snapshot.specs.Line.{AreLinesIn, IsLineIn, IsSnapshotLine, cell_line, state_line, with_path, without_path}
use Rattle.tide_retained.specs.Retention.{path_of, HasShortestPaths, IsPathOf, Path, Retention}
use Rattle.tide_snapshot.specs.Written.{held_line, line_at, line_from, lines_text, way_text}
use Rattle.tide_retained.proofs.GraphLaws.{live_is_held, same_held}

-- what is kept of a cell says what the state says
held_is_state : (layout : Layout) (names : List (List ℕ)) (cell : ℕ) (state : CellState) (held : Held) → HoldsSame layout cell state held →
    held_line names cell held ≡ state_line layout names cell state held.pairs.items
held_is_state layout names cell state held same =
    ap (λ (class : ℕ). cell_line names cell class held.slots.items held.pairs.items held.properties.items held.group) same.class
    ∙ ap (λ (slots : List Val). cell_line names cell (class_of layout cell) slots held.pairs.items held.properties.items held.group) same.slots
    ∙ ap (λ (properties : List Keyed). cell_line names cell (class_of layout cell) (map state.slots (up_to (slots_of (class_of layout cell)))) held.pairs.items properties held.group) same.properties
    ∙ ap (cell_line names cell (class_of layout cell) (map state.slots (up_to (slots_of (class_of layout cell)))) held.pairs.items (properties_of state)) same.group

-- what is written of a kept cell is its line
pub line_is : (kept : Retention) (names : List (List ℕ)) (cell : ℕ) (held : Held) → HasShortestPaths kept → held_at kept.contents cell ≡ Some held →
    IsLineIn kept.contents names cell (held_line names cell held ++ way_text (path_of kept cell))
line_is kept names cell held shortest at layout state is = look (path_of kept cell) refl
  where
    same : HoldsSame layout cell (state.cells cell) held
    same = same_held layout state kept.contents is cell held at

    path : IsPathOf state cell (path_of kept cell)
    path = shortest layout state cell is (ap is_some at)

    -- the line of the state, behind which this stands
    line : (o : Option Path) → path_of kept cell ≡ o →
        state_line layout names cell (state.cells cell) held.pairs.items ++ way_text o ≡ held_line names cell held ++ way_text (path_of kept cell)
    line o this =
        ap (λ (l : List ℕ). l ++ way_text o) (sym (held_is_state layout names cell (state.cells cell) held same))
        ∙ ap (λ (p : Option Path). held_line names cell held ++ way_text p) (sym this)

    look : (o : Option Path) → path_of kept cell ≡ o → IsSnapshotLine layout names state cell (held_line names cell held ++ way_text (path_of kept cell))
    look None this =
        subst (IsSnapshotLine layout names state cell) (line None this) (without_path held.pairs.items same.pairs (subst (IsPathOf state cell) this path))
    look (Some way) this =
        subst (IsSnapshotLine layout names state cell) (line (Some way) this)
        (with_path held.pairs.items way.root way.first way.others same.pairs (subst (IsPathOf state cell) this path))

-- the line of a cell that is kept
cell_line_is : (kept : Retention) (names : List (List ℕ)) (cell : ℕ) → HasShortestPaths kept → is_kept kept.contents cell ≡ true → IsLineIn kept.contents names cell (line_at names kept cell)
cell_line_is kept names cell shortest is = look (held_at kept.contents cell) refl
  where
    look : (o : Option Held) → held_at kept.contents cell ≡ o → IsLineIn kept.contents names cell (line_from names kept cell o)
    look None at = (let none = ap is_some at in absurd (cc))
    look (Some held) at = line_is kept names cell held shortest at

-- all lines that are written are those of the state
pub all_lines_are : (kept : Retention) (names : List (List ℕ)) → HasShortestPaths kept → AreLinesIn kept.contents names (lines_text names kept)
all_lines_are kept names shortest layout state is = record {
  line = line_at names kept;
  of_live = λ cell alive.
      let (held, at) = live_is_held layout state kept.contents is cell alive in
      cell_line_is kept names cell shortest (ap is_some at) layout state is;
  of_others = λ cell dead. none cell dead (held_at kept.contents cell) refl;
  in_order = ap (λ (n : ℕ). flat_map (line_at names kept) (up_to n)) is.counted;
}
  where
    none : (cell : ℕ) → (state.cells cell).status ≢ live → (o : Option Held) → held_at kept.contents cell ≡ o → line_from names kept cell o ≡ []
    none cell dead None at = refl
    none cell dead (Some held) at = absurd (dead (same_held layout state kept.contents is cell held at).is_live)

module _ (kept : Retention) (contents : Contents) (names keys : List (List ℕ)) (shortest : HasShortestPaths kept) (of : kept.contents ≡ contents) (named : names ≡ keys) where
  -- what is written of a cell that is kept, under the names of the workload
  told : (cell : ℕ) → is_kept contents cell ≡ true → IsLineIn contents keys cell (line_at names kept cell)
  told cell is =
      subst (λ (k : List (List ℕ)). IsLineIn contents k cell (line_at names kept cell)) named
      (subst (λ (c : Contents). IsLineIn c names cell (line_at names kept cell)) of
      (cell_line_is kept names cell shortest (subst (λ (c : Contents). is_kept c cell ≡ true) (sym of) is)))

  -- and of all of them
  all_told : AreLinesIn contents keys (lines_text names kept)
  all_told =
      subst (λ (k : List (List ℕ)). AreLinesIn contents k (lines_text names kept)) named
      (subst (λ (c : Contents). AreLinesIn c names (lines_text names kept)) of (all_lines_are kept names shortest))

  pub line_written : {T E : Type 0} (cell : ℕ) (a b : Option (List ℕ)) (result : Result T E) → is_kept contents cell ≡ true → OnOk result (Appends a b (line_at names kept cell)) →
      OnOk result ((text : List ℕ) × IsLineIn contents keys cell text × Appends a b text)
  line_written cell a b (Ok value) is written = (line_at names kept cell, told cell is, written)
  line_written cell a b (Err error) is written = tt

  pub line_failed : {T E : Type 0} (cell : ℕ) (a b : Option (List ℕ)) (result : Result T E) → is_kept contents cell ≡ true → OnErr result (AppendsPart a b (line_at names kept cell)) →
      OnErr result ((text : List ℕ) × IsLineIn contents keys cell text × AppendsPart a b text)
  line_failed cell a b (Ok value) is part = tt
  line_failed cell a b (Err error) is part = (line_at names kept cell, told cell is, part)

  pub lines_written : {T E : Type 0} (a b : Option (List ℕ)) (result : Result T E) → OnOk result (Appends a b (lines_text names kept)) →
      OnOk result ((text : List ℕ) × AreLinesIn contents keys text × Appends a b text)
  lines_written a b (Ok value) written = (lines_text names kept, all_told, written)
  lines_written a b (Err error) written = tt

  pub lines_failed : {T E : Type 0} (a b : Option (List ℕ)) (result : Result T E) → OnErr result (AppendsPart a b (lines_text names kept)) →
      OnErr result ((text : List ℕ) × AreLinesIn contents keys text × AppendsPart a b text)
  lines_failed a b (Ok value) part = tt
  lines_failed a b (Err error) part = (lines_text names kept, all_told, part)
