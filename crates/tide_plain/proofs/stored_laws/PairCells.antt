-- What a table is where one of its places has changed, and whether it has room.
use Rattle.std.proofs.Common.{ℕ, ◌≡◌, ◌<◌, refl, sym, ◌∙◌, ap, subst, arith, Bool, true, false, List, length, get_or, Option, None, Some}
use Rattle.std.proofs.lemmas.Bool.{lt-leb, le-leb}
use Rattle.std.specs.Prelude.{◌&&◌, nat_le, not, slice_set, is_some, All}
use Rattle.tide_model.specs.declared.val.Val.{Val}
use Rattle.tide_model.specs.Applied.{put_cell, put_pair}
use Rattle.tide_model.specs.Layout.{cell_count}
use Rattle.tide_model.specs.Numbers.{put_at, count_where}
use Rattle.tide_model.specs.References.{IsLive}
use Rattle.tide_model.specs.Refused.{has_pair, pair_count}
use Rattle.tide_model.specs.State.{CellState}
use Rattle.tide_plain.specs.stored.Stored.{Stored}
use Rattle.tide_plain.specs.declared.parts.stored_cell.Pair.{Pair}
use Rattle.tide_plain.specs.declared.parts.stored_cell.StoredCell.{StoredCell}
use Rattle.tide_plain.specs.stored.Contents.{state_of, stored_at, IsSound, IsStored}
use Rattle.tide_plain.specs.parts.Pairs.{IsSeat}
use Rattle.tide_plain.specs.parts.Pairs.{pairs_of, IsDistinctPairs}
use Rattle.tide_plain.proofs.stored_laws.CellLaws.{live_below}
use Rattle.tide_plain.proofs.parts_laws.PairLaws.{occupied, occupied-full, occupied-room, pair_count-occupied, pairs_of-there}
use Rattle.tide_plain.proofs.stored_laws.StoredCellLaws.{live_is-stored, state_of-cell}
use Rattle.tide_plain.proofs.stored_laws.StoredLaws.{MayStand, MayStand-stored, IsStored-cell}

-- other places are stored for a live cell
pub state_of-places : (contents : Stored) (table : ℕ) (stored : StoredCell) (places : List (Option Pair)) → stored ≡ stored_at contents table → table < length contents.cells →
    IsLive (state_of contents) table →
    state_of (record contents { cells = slice_set contents.cells table (record stored { pairs = places }) })
    ≡ put_cell (state_of contents) table (record ((state_of contents).cells table) { pairs = pairs_of places })
state_of-places contents table stored places is_stored within is_live =
    ap (λ (s : StoredCell). state_of (record contents { cells = slice_set contents.cells table (record s { pairs = places }) })) is_stored
    ∙ state_of-cell contents table (record (stored_at contents table) { pairs = places }) within is_live
    ∙ ap (λ (c : CellState). put_cell (state_of contents) table (record c { pairs = pairs_of places })) (sym (live_is-stored contents table is_live))

pub IsStored-places : (contents : Stored) (table : ℕ) (stored : StoredCell) (places : List (Option Pair)) → stored ≡ stored_at contents table → table < length contents.cells →
    IsLive (state_of contents) table → IsDistinctPairs places → IsStored contents →
    IsStored (record contents { cells = slice_set contents.cells table (record stored { pairs = places }) })
IsStored-places contents table stored places is_stored within is_live distinct old =
    let may = subst (MayStand contents) (sym is_stored) (MayStand-stored contents table old is_live) in
    IsStored-cell contents table (record stored { pairs = places }) contents.are_live contents.statuses contents.elements within refl refl refl (λ other away. refl)
    (record { shape = may.shape; array = may.array; pairs = distinct }) old

-- the pairs of a live cell are those of the places that are stored for it
pub pairs_are-stored : (contents : Stored) (table : ℕ) (stored : StoredCell) → IsLive (state_of contents) table → stored ≡ stored_at contents table →
    ((state_of contents).cells table).pairs ≡ pairs_of stored.pairs
pairs_are-stored contents table stored is_live is_stored =
    ap (λ (c : CellState). c.pairs) (live_is-stored contents table is_live) ∙ ap (λ (s : StoredCell). pairs_of s.pairs) (sym is_stored)

-- a table has as many pairs as places with one
pub pair_count-stored : (contents : Stored) (table : ℕ) (stored : StoredCell) → IsSound contents → IsLive (state_of contents) table → stored ≡ stored_at contents table →
    pair_count contents.layout (state_of contents) table ≡ occupied stored.pairs
pair_count-stored contents table stored sound is_live is_stored =
    ap (λ (pairs : ℕ → Option Val). count_where (λ key. is_some (pairs key)) (cell_count contents.layout)) (pairs_are-stored contents table stored is_live is_stored)
    ∙ pair_count-occupied stored.pairs (cell_count contents.layout)
    (subst (λ (s : StoredCell). IsDistinctPairs s.pairs) (sym is_stored) (sound.stored.pairs table is_live))
    (λ place pair at. below (pairs_of stored.pairs pair.key) refl pair.key (pairs_of-there stored.pairs place pair at))
  where
    below : (o : Option Val) → o ≡ o → (key : ℕ) → is_some (pairs_of stored.pairs key) ≡ true → key < cell_count contents.layout
    below o same key there = step (pairs_of stored.pairs key) refl there
      where
        step : (held : Option Val) → pairs_of stored.pairs key ≡ held → is_some held ≡ true → key < cell_count contents.layout
        step None is none = absurd (cc)
        step (Some value) is some =
            live_below contents key sound.stored
            (sound.references.keys_of_pairs table key value is_live (ap (λ (pairs : ℕ → Option Val). pairs key) (pairs_are-stored contents table stored is_live is_stored) ∙ is))

-- there is room for a pair where there is a place for it
pub room_for-seat : (contents : Stored) (table key place : ℕ) (stored : StoredCell) → IsSound contents → IsLive (state_of contents) table → stored ≡ stored_at contents table →
    length stored.pairs ≡ 8 → IsSeat stored.pairs key place →
    (not (has_pair (state_of contents) table key) && nat_le 8 (pair_count contents.layout (state_of contents) table)) ≡ false
room_for-seat contents table key place stored sound is_live is_stored eight seat = step (get_or stored.pairs place None) refl
  where
    there : (b : Bool) → has_pair (state_of contents) table key ≡ true →
        (not (has_pair (state_of contents) table key) && b) ≡ false
    there b has = ap (λ (h : Bool). not h && b) has

    fewer : (b : Bool) → (b && false) ≡ false
    fewer true = refl
    fewer false = refl

    step : (held : Option Pair) → get_or stored.pairs place None ≡ held →
        (not (has_pair (state_of contents) table key) && nat_le 8 (pair_count contents.layout (state_of contents) table)) ≡ false
    step (Some pair) is =
        there (nat_le 8 (pair_count contents.layout (state_of contents) table))
        (ap (λ (pairs : ℕ → Option Val). is_some (pairs key)) (pairs_are-stored contents table stored is_live is_stored)
        ∙ ap (λ (k : ℕ). is_some (pairs_of stored.pairs k)) (sym (seat.own pair is)) ∙ pairs_of-there stored.pairs place pair is)
    step None is =
        let few = occupied-room stored.pairs place seat.within is in
        let count = pair_count-stored contents table stored sound is_live is_stored in
        let less : nat_le 8 (pair_count contents.layout (state_of contents) table) ≡ false = lt-leb 8 (pair_count contents.layout (state_of contents) table) (omega (arith, few, count, eight)) in
        ap (λ (b : Bool). not (has_pair (state_of contents) table key) && b) less
        ∙ fewer (not (has_pair (state_of contents) table key))

-- and none where each place has a pair of another key
pub full-seatless : (contents : Stored) (table key : ℕ) (stored : StoredCell) → IsSound contents → IsLive (state_of contents) table → stored ≡ stored_at contents table →
    length stored.pairs ≡ 8 → pairs_of stored.pairs key ≡ None → All (λ place. is_some place ≡ true) stored.pairs →
    (not (has_pair (state_of contents) table key) && nat_le 8 (pair_count contents.layout (state_of contents) table)) ≡ true
full-seatless contents table key stored sound is_live is_stored eight absent taken =
    let lacks : has_pair (state_of contents) table key ≡ false =
    ap (λ (pairs : ℕ → Option Val). is_some (pairs key)) (pairs_are-stored contents table stored is_live is_stored) ∙ ap is_some absent in
    let count = pair_count-stored contents table stored sound is_live is_stored in
    let all = occupied-full stored.pairs taken in
    let most : nat_le 8 (pair_count contents.layout (state_of contents) table) ≡ true = le-leb 8 (pair_count contents.layout (state_of contents) table) (omega (arith, all, count, eight)) in
    (λ i. not (lacks i) && most i)

-- a place for a key was set: what is left
pub state_of-pair : (contents : Stored) (table key : ℕ) (stored : StoredCell) (places : List (Option Pair)) (held : Option Val) → IsLive (state_of contents) table → stored ≡ stored_at contents table →
    ((k : ℕ) → pairs_of places k ≡ put_at (pairs_of stored.pairs) key held k) →
    put_cell (state_of contents) table (record ((state_of contents).cells table) { pairs = pairs_of places }) ≡ put_pair (state_of contents) table key held
state_of-pair contents table key stored places held is_live is_stored put =
    (λ i. put_cell (state_of contents) table (record ((state_of contents).cells table) { pairs = λ k. put k i }))
    ∙ ap (λ (pairs : ℕ → Option Val). put_cell (state_of contents) table (record ((state_of contents).cells table) { pairs = put_at pairs key held })) (sym (pairs_are-stored contents table stored is_live is_stored))
