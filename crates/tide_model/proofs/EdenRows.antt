-- An Eden cycle keeps an old cell that nothing holds any more, and so what that cell holds; a full one frees both.
use Rattle.std.specs.Prelude.{ℕ, ◌≡◌, ◌==◌, ◌⊎◌, ◌<◌, ◌≤◌, ◌+◌, ◌&&◌, refl, Bool, true, false, not, if◌then◌else◌, List, [], ◌∷◌, ◌++◌, length, slice_index, take, None, Some}
use Rattle.std.proofs.Common.{arith, ap, inl, inr, lit<, lit≤, subst, sym, ◌∙◌, true≢false}
use Rattle.std.proofs.lemmas.Bool.{cases_eq, ne_eqb}
use Rattle.tide_model.specs.declared.val.Val.{Val}
use Rattle.tide_model.specs.declared.val.Val.TheVariants.{Empty, Cell}
use Rattle.tide_model.specs.declared.op.Op.TheVariants.{Alloc, Put, Drop, WeakSet}
use Rattle.tide_model.specs.declared.op.Reply.TheVariants.{Done, Born}
use Rattle.tide_model.specs.declared.entry.Entry.TheVariants.{Call, Begin, Pause, End}
use Rattle.tide_model.specs.declared.entry.Event.{Event}
use Rattle.tide_model.specs.Graph.{is_root, IsRoot, in_register, claimed, in_handle, IsLink, in_slot, in_property, IsTriple, AreGroupMates, IsRetained, IsClosed, graph_of, is_further, by_link, no_cell, retained_in_closed}
use Rattle.tide_model.specs.History.{after_end, plain, state_after, state_at}
use Rattle.tide_model.specs.Cycle.{StandsBegin, StandsEnd, StaysLive, begin_count, cycle_span}
use Rattle.tide_model.specs.Lawful.{IsLawful}
use Rattle.tide_model.specs.Layout.{IsBlockOf}
use Rattle.tide_model.specs.Numbers.{is_among}
use Rattle.tide_model.specs.Old.{IsOld, IsSpared, is_full, is_old, last_full, spared_count}
use Rattle.tide_model.specs.Periods.{EndsInTime}
use Rattle.tide_model.specs.References.{IsLive}
use Rattle.tide_model.specs.Refused.{no_shapes}
use Rattle.tide_model.specs.Rows.{small}
use Rattle.tide_model.specs.State.{CellState, State, Status, blank_cell, dead, free, idle, is_live, live, marking}
use Rattle.tide_model.proofs.DanglingRows.{calls}
use Rattle.tide_model.proofs.Histories.{IsLawful-nil, IsLawful-push}
use Rattle.tide_model.proofs.LawfulReferences.{RefsAreLive-lawful}
use Rattle.tide_model.proofs.NumberLaws.{put_at_elim}
use Rattle.tide_model.proofs.OldLaws.{old_stays_live}
use Rattle.tide_model.proofs.PeriodTests.{EndsInTime-tested, IsSwept-tested, is_any_dead}
use Rattle.tide_model.proofs.Retained.{IsClosed-all_kept}

-- the first cycle keeps cell 0, which is old from then on; a weak handle names it
abbrev pub one_old : List Event
one_old =
    plain (Call 0 (Alloc 0 0) (Born 0)) ∷ plain (Call 0 (WeakSet 0 0) Done)
    ∷ plain (Begin 1 false) ∷ plain (Pause 1) ∷ plain (End 1 []) ∷ []

-- the old cell holds a new one, and then nothing holds the old cell any more
abbrev pub old_garbage : List Event
old_garbage =
    one_old ++ plain (Call 0 (Alloc 1 0) (Born 1)) ∷ plain (Call 0 (Put 0 0 1) Done)
    ∷ plain (Call 0 (Drop 0) Done) ∷ plain (Call 0 (Drop 1) Done) ∷ []

-- an Eden cycle is about to end, and a full one
abbrev pub in_eden : List Event
in_eden = old_garbage ++ plain (Begin 2 false) ∷ plain (Pause 1) ∷ []

abbrev pub in_full : List Event
in_full = old_garbage ++ plain (Begin 2 true) ∷ plain (Pause 1) ∷ []

-- an Eden cycle is about to end that made no cell black
abbrev in_idle_eden : List Event
in_idle_eden = old_garbage ++ plain (Begin 2 false) ∷ plain (Pause 0) ∷ []

-- after three Eden cycles, which keep both, the fourth is an Eden cycle too, or a full one
abbrev three_kept : List Event
three_kept = in_eden ++ plain (End 2 []) ∷ plain (Begin 3 false) ∷ plain (Pause 0) ∷ plain (End 3 []) ∷ []

abbrev pub in_fourth_eden : List Event
in_fourth_eden = three_kept ++ plain (Begin 4 false) ∷ plain (Pause 0) ∷ []

abbrev pub in_fourth_full : List Event
in_fourth_full = three_kept ++ plain (Begin 4 true) ∷ plain (Pause 0) ∷ []

-- which cycle is full, and how many cells it spares
pub kinds_of_cycles :
    (is_full one_old ≡ false) × (is_full in_eden ≡ false) × (is_full in_full ≡ true)
    × (is_full in_fourth_eden ≡ false) × (is_full in_fourth_full ≡ true)
    × (spared_count small one_old ≡ 1) × (spared_count small in_eden ≡ 1) × (spared_count small in_full ≡ 0)
    × (spared_count small in_fourth_eden ≡ 2) × (spared_count small in_fourth_full ≡ 0)
kinds_of_cycles = (refl, refl, refl, refl, refl, refl, refl, refl, refl, refl)

-- which full cycle began last: none, the second, or the fourth, which stays the last one while an Eden cycle follows
last_full_cycles :
    (last_full [] ≡ 1) × (last_full one_old ≡ 1) × (last_full in_full ≡ 2) × (last_full in_fourth_eden ≡ 1)
    × (last_full in_fourth_full ≡ 4) × (last_full (in_fourth_full ++ plain (End 4 []) ∷ plain (Begin 5 false) ∷ []) ≡ 4)
last_full_cycles = (refl, refl, refl, refl, refl, refl)

-- cell 0 is old in both, and cell 1 once an end has kept it
pub old_cells :
    IsOld small one_old 0 × IsOld small in_eden 0 × IsOld small in_full 0 × (IsOld small in_eden 1 → ⊥)
    × IsOld small in_fourth_full 1
old_cells = (refl, refl, refl, (λ old. let e : false ≡ true = old in absurd (cc)), refl)

-- before the first end no cell is old
pub none_is_old_at_first : IsOld small (plain (Call 0 (Alloc 0 0) (Born 0)) ∷ plain (Begin 1 false) ∷ []) 0 → ⊥
none_is_old_at_first old = let e : false ≡ true = old in absurd (cc)

-- the Eden cycle may not free the old cell, nor what it holds
pub old_is_not_freed : StandsEnd small in_eden 2 (0 ∷ 1 ∷ []) → ⊥
old_is_not_freed stands = stands.frees 0 refl (is_further 0 refl)

pub held_by_old_is_not_freed : StandsEnd small in_eden 2 (1 ∷ []) → ⊥
held_by_old_is_not_freed stands =
    (stands.closed.links 0 1 (record { is_live = refl; not_freed = λ among. absurd (cc) }) (in_slot 0 refl refl)).not_freed refl

-- what a cell holds, where none has keys, pairs or a group: cell 1 at most
record HoldsSecond (held : CellState) : Type 0 where
  pub slots : (slot cell : ℕ) → held.slots slot ≡ Cell cell → cell ≡ 1
  pub keys : held.keys ≡ []
  pub pairs : (key : ℕ) → held.pairs key ≡ None
  pub group : held.group ≡ 0

-- nothing is a root, cells 0 and 1 alone are live, and what a cell holds is cell 1
record AreLeft (state : State) : Type 0 where
  pub roots : (cell : ℕ) → IsRoot state cell → ⊥
  pub are_live : (cell : ℕ) → IsLive state cell → (cell ≡ 0) ⊎ (cell ≡ 1)
  pub first : IsLive state 0
  pub second : IsLive state 1
  pub holds : (cell : ℕ) → HoldsSecond (state.cells cell)

module _ (state : State) (left : AreLeft state) where
  -- so a link leads to cell 1, and neither pairs nor groups hold anything
  link_to_second : (source cell : ℕ) → IsLink state source cell → cell ≡ 1
  link_to_second source cell (in_slot slot alive is) = (left.holds source).slots slot cell is
  link_to_second source cell (in_property place alive within is) =
      let none = ap (λ (keys : List ℕ). length keys) (left.holds source).keys in absurd (omega (arith, within, none))

  no_pair : (table key cell : ℕ) → IsTriple state table key cell → ⊥
  no_pair table key cell triple =
      let e : None ≡ Some (Cell cell) = sym ((left.holds table).pairs key) ∙ triple.has_pair in cc

  no_group_mate : (one other : ℕ) → AreGroupMates state one other → ⊥
  no_group_mate one other group_mates = group_mates.in_a_group (left.holds one).group

  is_live_one : (cell : ℕ) → (cell ≡ 0) ⊎ (cell ≡ 1) → IsLive state cell
  is_live_one cell (inl is) = subst (IsLive state) (sym is) left.first
  is_live_one cell (inr is) = subst (IsLive state) (sym is) left.second

  -- what both hold is kept where nothing is freed
  closed_with_both : (further : ℕ → Type 0) → ((cell : ℕ) → further cell → (cell ≡ 0) ⊎ (cell ≡ 1)) →
      IsClosed (graph_of state) further (StaysLive state [])
  closed_with_both further old = record {
    roots = λ cell root. absurd (left.roots cell root);
    further_cells = λ cell more. record { is_live = is_live_one cell (old cell more); not_freed = λ among. absurd (cc) };
    links = λ source cell kept link. record {
      is_live = is_live_one cell (inr (link_to_second source cell link));
      not_freed = λ among. absurd (cc);
    };
    pairs = λ table key cell kept_table kept_key triple. absurd (no_pair table key cell triple);
    group_mates = λ one other kept group_mate. absurd (no_group_mate one other group_mate);
  }

  both_are_among : (cell : ℕ) → (cell ≡ 0) ⊎ (cell ≡ 1) → is_among (0 ∷ 1 ∷ []) cell ≡ true
  both_are_among cell (inl is) = subst (λ (n : ℕ). is_among (0 ∷ 1 ∷ []) n ≡ true) (sym is) refl
  both_are_among cell (inr is) = subst (λ (n : ℕ). is_among (0 ∷ 1 ∷ []) n ≡ true) (sym is) refl

  among_both : (cell : ℕ) → is_among (0 ∷ 1 ∷ []) cell ≡ true → (cell ≡ 0) ⊎ (cell ≡ 1)
  among_both cell among = elim (cases_eq cell 0) [
    | inl is ↦ inl is
    | inr isnt ↦ elim (cases_eq cell 1) [
      | inl is ↦ inr is
      | inr other ↦ absurd (let a = ne_eqb cell 0 isnt in let b = ne_eqb cell 1 other in cc)
    ]
  ]

  -- and where both are freed, nothing is left
  none_stays : (cell : ℕ) → StaysLive state (0 ∷ 1 ∷ []) cell → ⊥
  none_stays cell stays = stays.not_freed (both_are_among cell (left.are_live cell stays.is_live))

  closed_without_both : (further : ℕ → Type 0) → ((cell : ℕ) → further cell → ⊥) →
      (member : ℕ → Type 0) → ((cell : ℕ) → member cell → ⊥) → IsClosed (graph_of state) further member
  closed_without_both further none member empty = record {
    roots = λ cell root. absurd (left.roots cell root);
    further_cells = λ cell more. absurd (none cell more);
    links = λ source cell kept link. absurd (empty source kept);
    pairs = λ table key cell kept_table kept_key triple. absurd (empty table kept_table);
    group_mates = λ one other kept group_mate. absurd (empty one kept);
  }

  nothing_is_retained : (cell : ℕ) → IsRetained (graph_of state) no_cell cell → ⊥
  nothing_is_retained = retained_in_closed (graph_of state) no_cell (λ cell. ⊥)
      (closed_without_both no_cell (λ cell none. none) (λ cell. ⊥) (λ cell none. none))

-- an end of a full cycle frees both
frees_both : (history : List Event) (cycle : ℕ) → AreLeft (state_after small history) → is_full history ≡ true →
    (state_after small history).phase ≡ marking cycle → StandsEnd small history cycle (0 ∷ 1 ∷ [])
frees_both history cycle left full marks = record {
  marks = marks;
  rising = λ k below. (let first : k ≡ 0 = omega (arith, below) in
      subst (λ (n : ℕ). slice_index (0 ∷ 1 ∷ []) n < slice_index (0 ∷ 1 ∷ []) (n + 1)) (sym first) (lit< tt));
  were_live = λ cell among. is_live_one (state_after small history) left cell (among_both (state_after small history) left cell among);
  frees = λ cell among kept. retained_in_closed (graph_of (state_after small history)) (IsSpared small history) (λ c. ⊥)
      (closed_without_both (state_after small history) left (IsSpared small history) spared (λ c. ⊥) (λ c none. none)) cell kept;
  keeps = λ cell alive stays. absurd (stays (both_are_among (state_after small history) left cell (left.are_live cell alive)));
  closed = closed_without_both (state_after small history) left (IsSpared small history) spared
      (StaysLive (state_after small history) (0 ∷ 1 ∷ [])) (none_stays (state_after small history) left);
}
  where
    spared : (cell : ℕ) → IsSpared small history cell → ⊥
    spared cell is = true≢false (sym is ∙ ap (λ (b : Bool). not b && is_old small history cell) full)

-- the states of all these cycles are such ones
abbrev now : State
now = state_after small in_eden

abbrev with_second : State
with_second = state_after small (one_old ++ plain (Call 0 (Alloc 1 0) (Born 1)) ∷ [])

blank_holds : (status : Status) → HoldsSecond (blank_cell status)
blank_holds status = record {
  slots = λ slot cell is. absurd (let e : Empty ≡ Cell cell = is in cc);
  keys = refl;
  pairs = λ key. refl;
  group = refl;
}

first_holds : HoldsSecond (now.cells 0)
first_holds = record {
  slots = λ slot cell is. put_at_elim (λ (n : ℕ) (value : Val). value ≡ Cell cell → cell ≡ 1) (λ _. Empty) 0 (Cell 1)
      (λ same. (let e : Cell 1 ≡ Cell cell = same in cc)) (λ n apart same. absurd (let e : Empty ≡ Cell cell = same in cc)) slot is;
  keys = refl;
  pairs = λ key. refl;
  group = refl;
}

abbrev IsOneOfBoth : ℕ → CellState → Type 0
IsOneOfBoth n held = (held.status ≡ live → (n ≡ 0) ⊎ (n ≡ 1)) × HoldsSecond held

cells_are : (cell : ℕ) → IsOneOfBoth cell (now.cells cell)
cells_are = put_at_elim IsOneOfBoth with_second.cells 0 (now.cells 0) ((λ is. inl refl), first_holds)
    (λ n apart. put_at_elim IsOneOfBoth (state_after small one_old).cells 1 (blank_cell live) ((λ is. inr refl), blank_holds live)
    (λ m other. put_at_elim IsOneOfBoth (λ _. blank_cell free) 0 (blank_cell live) ((λ is. inl refl), blank_holds live)
    (λ k none. ((λ is. absurd (let e : free ≡ live = is in cc)), blank_holds free)) m) n)

no_register : (who register cell : ℕ) → now.registers who register ≡ Cell cell → ⊥
no_register who register cell is =
    by_who (who == 0) (λ n. if n == 0 then Empty else if n == 1 then Cell 1 else if n == 0 then Cell 0 else Empty)
    (λ n. if n == 1 then Cell 1 else if n == 0 then Cell 0 else Empty) (λ n. if n == 0 then Cell 0 else Empty) is
  where
    empty : (one none : Bool) →
        (if one then Empty else if none then Empty else if one then Cell 1 else if none then Cell 0 else Empty) ≡ Cell cell → ⊥
    empty true none h = let e : Empty ≡ Cell cell = h in cc
    empty false true h = let e : Empty ≡ Cell cell = h in cc
    empty false false h = let e : Empty ≡ Cell cell = h in cc

    by_who : (first : Bool) (b c d : ℕ → Val) →
        if◌then◌else◌ {A = ℕ → Val} first (λ n. if n == 1 then Empty else if n == 0 then Empty else if n == 1 then Cell 1 else if n == 0 then Cell 0 else Empty)
        (if◌then◌else◌ {A = ℕ → Val} first b (if◌then◌else◌ {A = ℕ → Val} first c (if◌then◌else◌ {A = ℕ → Val} first d (λ _. Empty)))) register ≡ Cell cell → ⊥
    by_who true b c d h = empty (register == 1) (register == 0) h
    by_who false b c d h = let e : Empty ≡ Cell cell = h in cc

eden_are_left : AreLeft now
eden_are_left = record {
  roots = no_root;
  are_live = λ cell. (cells_are cell).0;
  first = refl;
  second = refl;
  holds = λ cell. (cells_are cell).1;
}
  where
    no_root : (cell : ℕ) → IsRoot now cell → ⊥
    no_root cell (in_register who register active is) = no_register who register cell is
    no_root cell (claimed who has) = absurd (omega (arith, has.1))
    no_root cell (in_handle handle is) = let e : Empty ≡ Cell cell = is in cc

fourth_are_left : AreLeft (state_after small in_fourth_full)
fourth_are_left = record {
  roots = no_root;
  are_live = λ cell. (cells_are cell).0;
  first = refl;
  second = refl;
  holds = λ cell. (cells_are cell).1;
}
  where
    no_root : (cell : ℕ) → IsRoot (state_after small in_fourth_full) cell → ⊥
    no_root cell (in_register who register active is) = no_register who register cell is
    no_root cell (claimed who has) = absurd (omega (arith, has.1))
    no_root cell (in_handle handle is) = let e : Empty ≡ Cell cell = is in cc

-- the Eden cycle may keep both: the one is old, and holds the other
pub old_and_held_are_kept : StandsEnd small in_eden 2 []
old_and_held_are_kept = record {
  marks = refl;
  rising = λ k below. absurd (omega (arith, below));
  were_live = λ cell among. absurd (let e : false ≡ true = among in cc);
  frees = λ cell among kept. absurd (let e : false ≡ true = among in cc);
  keeps = λ cell alive stays. kept cell ((cells_are cell).0 alive);
  closed = closed_with_both now eden_are_left (IsSpared small in_eden) old;
}
  where
    kept : (cell : ℕ) → (cell ≡ 0) ⊎ (cell ≡ 1) → IsRetained (cycle_span small in_eden) (IsSpared small in_eden) cell
    kept cell (inl is) = subst (IsRetained (cycle_span small in_eden) (IsSpared small in_eden)) (sym is) (is_further 0 refl)
    kept cell (inr is) = subst (IsRetained (cycle_span small in_eden) (IsSpared small in_eden)) (sym is)
        (by_link 0 1 (is_further 0 refl) (10, lit≤ tt, lit≤ tt, in_slot 0 refl refl))

    old : (cell : ℕ) → IsSpared small in_eden cell → (cell ≡ 0) ⊎ (cell ≡ 1)
    old = put_at_elim (λ (n : ℕ) (held : CellState). is_live held.status ≡ true → (n ≡ 0) ⊎ (n ≡ 1)) (λ _. blank_cell free) 0
        (blank_cell live) (λ is. inl refl) (λ n apart is. absurd (let e : false ≡ true = is in cc))

-- a full cycle frees both, also after three Eden ones, where both are old
pub full_end_frees_both : StandsEnd small in_full 2 (0 ∷ 1 ∷ [])
full_end_frees_both = frees_both in_full 2 eden_are_left refl refl

pub fourth_end_frees_both : StandsEnd small in_fourth_full 4 (0 ∷ 1 ∷ [])
fourth_end_frees_both = frees_both in_fourth_full 4 fourth_are_left refl refl

-- a fourth Eden cycle may not
pub fourth_eden_frees_none : StandsEnd small in_fourth_eden 4 (0 ∷ 1 ∷ []) → ⊥
fourth_eden_frees_none stands = stands.frees 1 refl (is_further 1 refl)

-- an Eden cycle that made one cell black may keep an old one beside it; one that made none black, or a full one, may
-- not
pub eden_end_in_time : EndsInTime small in_eden (plain (End 2 []))
eden_end_in_time = EndsInTime-tested small in_eden (plain (End 2 [])) refl

pub eden_end_keeps_too_many : EndsInTime small in_idle_eden (plain (End 2 [])) → ⊥
eden_end_keeps_too_many stands = let few = stands.kept 2 [] refl in omega (arith, few)

pub full_end_keeps_too_many : EndsInTime small in_full (plain (End 2 [])) → ⊥
full_end_keeps_too_many stands = let few = stands.kept 2 [] refl in omega (arith, few)

-- Nothing retains cell 1, and it isn't old: an Eden end that freed it would leave the weak handle leading to the old
-- cell, and the old cell to a dead one.
pub nothing_retains_it : (cell : ℕ) → IsRetained (graph_of now) no_cell cell → ⊥
nothing_retains_it = nothing_is_retained now eden_are_left

pub reference_would_dangle :
    ((after_end now (1 ∷ [])).weak 0 ≡ Cell 0)
    × (((after_end now (1 ∷ [])).cells 0).status ≡ live)
    × (((after_end now (1 ∷ [])).cells 0).slots 0 ≡ Cell 1)
    × (((after_end now (1 ∷ [])).cells 1).status ≡ dead)
reference_would_dangle = (refl, refl, refl, refl)

-- the old cell is garbage, and beside it lies a young one that nothing ever held, while an Eden cycle marks
abbrev with_young : List Event
with_young =
    one_old ++ plain (Call 0 (Alloc 1 0) (Born 1)) ∷ plain (Call 0 (Drop 0) Done) ∷ plain (Call 0 (Drop 1) Done)
    ∷ plain (Begin 2 false) ∷ plain (Pause 0) ∷ []

abbrev young_now : State
young_now = state_after small with_young

-- a cell holds nothing
record HoldsNothing (held : CellState) : Type 0 where
  pub slots : (slot cell : ℕ) → held.slots slot ≡ Cell cell → ⊥
  pub keys : held.keys ≡ []
  pub pairs : (key : ℕ) → held.pairs key ≡ None
  pub group : held.group ≡ 0

-- neither roots nor cells hold anything
record NothingIsHeld (state : State) : Type 0 where
  pub roots : (cell : ℕ) → IsRoot state cell → ⊥
  pub holds : (cell : ℕ) → HoldsNothing (state.cells cell)

module _ (state : State) (held : NothingIsHeld state) where
  no_link_at_all : (source cell : ℕ) → IsLink state source cell → ⊥
  no_link_at_all source cell (in_slot slot alive is) = (held.holds source).slots slot cell is
  no_link_at_all source cell (in_property place alive within is) =
      let none = ap (λ (keys : List ℕ). length keys) (held.holds source).keys in omega (arith, within, none)

  no_pair_at_all : (table key cell : ℕ) → IsTriple state table key cell → ⊥
  no_pair_at_all table key cell triple =
      let e : None ≡ Some (Cell cell) = sym ((held.holds table).pairs key) ∙ triple.has_pair in cc

  no_group_mate_at_all : (one other : ℕ) → AreGroupMates state one other → ⊥
  no_group_mate_at_all one other group_mates = group_mates.in_a_group (held.holds one).group

  -- so what is kept needs only to have the cells that retain as roots do
  closed_where_nothing_is_held : (further member : ℕ → Type 0) → ((cell : ℕ) → further cell → member cell) →
      IsClosed (graph_of state) further member
  closed_where_nothing_is_held further member have = record {
    roots = λ cell root. absurd (held.roots cell root);
    further_cells = have;
    links = λ source cell kept link. absurd (no_link_at_all source cell link);
    pairs = λ table key cell kept_table kept_key triple. absurd (no_pair_at_all table key cell triple);
    group_mates = λ one other kept group_mate. absurd (no_group_mate_at_all one other group_mate);
  }

abbrev IsFirstOrSecond : ℕ → CellState → Type 0
IsFirstOrSecond n held = (held.status ≡ live → (n ≡ 0) ⊎ (n ≡ 1)) × HoldsNothing held

blank_holds_nothing : (status : Status) → HoldsNothing (blank_cell status)
blank_holds_nothing status = record {
  slots = λ slot cell is. (let e : Empty ≡ Cell cell = is in cc);
  keys = refl;
  pairs = λ key. refl;
  group = refl;
}

young_cells_are : (cell : ℕ) → IsFirstOrSecond cell (young_now.cells cell)
young_cells_are = put_at_elim IsFirstOrSecond (state_after small one_old).cells 1 (blank_cell live)
    ((λ is. inr refl), blank_holds_nothing live)
    (λ m other. put_at_elim IsFirstOrSecond (λ _. blank_cell free) 0 (blank_cell live)
    ((λ is. inl refl), blank_holds_nothing live)
    (λ k none. ((λ is. absurd (let e : free ≡ live = is in cc)), blank_holds_nothing free)) m)

young_is_held_by_none : NothingIsHeld young_now
young_is_held_by_none = record { roots = no_root; holds = λ cell. (young_cells_are cell).1 }
  where
    no_root : (cell : ℕ) → IsRoot young_now cell → ⊥
    no_root cell (in_register who register active is) = no_register who register cell is
    no_root cell (claimed who has) = absurd (omega (arith, has.1))
    no_root cell (in_handle handle is) = let e : Empty ≡ Cell cell = is in cc

first_is_spared : (cell : ℕ) → IsSpared small with_young cell → cell ≡ 0
first_is_spared = put_at_elim (λ (n : ℕ) (held : CellState). is_live held.status ≡ true → n ≡ 0) (λ _. blank_cell free) 0
    (blank_cell live) (λ is. refl) (λ n apart is. absurd (let e : false ≡ true = is in cc))

second_is_among : (cell : ℕ) → is_among (1 ∷ []) cell ≡ true → cell ≡ 1
second_is_among cell among = elim (cases_eq cell 1) [
  | inl is ↦ is
  | inr other ↦ absurd (let b = ne_eqb cell 1 other in cc)
]

-- the Eden cycle frees the young one, and keeps the old one beside it
pub young_is_freed : StandsEnd small with_young 2 (1 ∷ [])
young_is_freed = record {
  marks = refl;
  rising = λ k below. absurd (omega (arith, below));
  were_live = λ cell among. subst (IsLive young_now) (sym (second_is_among cell among)) refl;
  frees = λ cell among kept. (
      let old : cell ≡ 0 = first_is_spared cell (retained_in_closed (graph_of young_now) (IsSpared small with_young)
      (IsSpared small with_young) (closed_where_nothing_is_held young_now young_is_held_by_none (IsSpared small with_young)
      (IsSpared small with_young) (λ c spared. spared)) cell kept) in
      let young = second_is_among cell among in omega (arith, old, young));
  keeps = λ cell alive stays. kept cell ((young_cells_are cell).0 alive) stays;
  closed = closed_where_nothing_is_held young_now young_is_held_by_none (IsSpared small with_young)
      (StaysLive young_now (1 ∷ [])) (λ cell spared. old_stays cell (first_is_spared cell spared));
}
  where
    Kept : ℕ → Type 0
    Kept = IsRetained (cycle_span small with_young) (IsSpared small with_young)

    kept : (cell : ℕ) → (cell ≡ 0) ⊎ (cell ≡ 1) → (is_among (1 ∷ []) cell ≡ true → ⊥) → Kept cell
    kept cell (inl is) stays = subst Kept (sym is) (is_further 0 refl)
    kept cell (inr is) stays = absurd (stays (subst (λ (n : ℕ). is_among (1 ∷ []) n ≡ true) (sym is) refl))

    old_stays : (cell : ℕ) → cell ≡ 0 → StaysLive young_now (1 ∷ []) cell
    old_stays cell is = subst (StaysLive young_now (1 ∷ [])) (sym is) (record { is_live = refl; not_freed = λ among. absurd (cc) })

-- it may not keep the young one: nothing held it while it marked
pub young_garbage_is_not_kept : StandsEnd small with_young 2 [] → ⊥
young_garbage_is_not_kept stands =
    let old : 1 ≡ 0 = retained_in_closed (cycle_span small with_young) (IsSpared small with_young) (λ cell. cell ≡ 0)
    none_in_span 1 (stands.keeps 1 refl (λ among. (let e : false ≡ true = among in cc))) in omega (arith, old)
  where
    at_each : (moment : ℕ) → 9 ≤ moment → moment ≤ 10 → NothingIsHeld (state_at small with_young moment)
    at_each moment early late = elim (cases_eq moment 10) [
      | inl is ↦ subst (λ (m : ℕ). NothingIsHeld (state_at small with_young m)) (sym is) young_is_held_by_none
      | inr other ↦ (let is : moment ≡ 9 = omega (arith, early, late, other) in
          subst (λ (m : ℕ). NothingIsHeld (state_at small with_young m)) (sym is) young_is_held_by_none)
    ]

    none_in_span : IsClosed (cycle_span small with_young) (IsSpared small with_young) (λ cell. cell ≡ 0)
    none_in_span = record {
      roots = λ cell root. absurd ((at_each root.0 root.1 root.2).roots cell root.3);
      further_cells = first_is_spared;
      links = λ source cell kept link.
          absurd (no_link_at_all (state_at small with_young link.0) (at_each link.0 link.1 link.2) source cell link.3);
      pairs = λ table key cell kept_table kept_key triple. absurd (no_pair_at_all
          (state_at small with_young triple.0) (at_each triple.0 triple.1 triple.2) table key cell triple.3);
      group_mates = λ one other kept group_mate.
          absurd (no_group_mate_at_all (state_at small with_young group_mate.0) (at_each group_mate.0 group_mate.1 group_mate.2) one other group_mate.3);
    }

-- an end that frees nothing stands where all that lives was retained, or is spared
keeps_all : (history : List Event) (cycle : ℕ) → IsLawful small no_shapes history →
    (state_after small history).phase ≡ marking cycle →
    ((cell : ℕ) → IsLive (state_after small history) cell → IsRetained (cycle_span small history) (IsSpared small history) cell) →
    ((cell : ℕ) → IsSpared small history cell → IsLive (state_after small history) cell) → StandsEnd small history cycle []
keeps_all history cycle lawful marks retained spared = record {
  marks = marks;
  rising = λ k below. absurd (omega (arith, below));
  were_live = λ cell among. absurd (let e : false ≡ true = among in cc);
  frees = λ cell among kept. absurd (let e : false ≡ true = among in cc);
  keeps = λ cell alive stays. retained cell alive;
  closed = IsClosed-all_kept (state_after small history) (IsSpared small history)
      (RefsAreLive-lawful small no_shapes history lawful) spared;
}

-- the history with three Eden cycles is lawful
pub three_kept_is_lawful : IsLawful small no_shapes three_kept
three_kept_is_lawful =
    let none = IsLawful-nil small no_shapes in
    let born = calls (before 0) (Alloc 0 0) (Born 0) none refl (lit< tt, lit< tt) (refl, record { of_class = in_block; is_free = refl }) (λ class is. cc) in
    let named = calls (before 1) (WeakSet 0 0) Done born refl (lit< tt, lit< tt) refl (λ class is. cc) in
    let begun = IsLawful-push small no_shapes (before 2) (plain (Begin 1 false)) named (refl, begins 2 1 refl refl refl) in
    let paused = IsLawful-push small no_shapes (before 3) (plain (Pause 1)) begun refl in
    let ended = IsLawful-push small no_shapes (before 4) (plain (End 1 [])) paused (refl, keeps_all (before 4) 1 paused refl root (λ cell spared. absurd (let e : false ≡ true = spared in cc))) in
    let second = calls (before 5) (Alloc 1 0) (Born 1) ended refl (lit< tt, lit< tt) (refl, record { of_class = in_block; is_free = refl }) (λ class is. cc) in
    let holds = calls (before 6) (Put 0 0 1) Done second refl (lit< tt, lit< tt) refl (λ class is. cc) in
    let dropped = calls (before 7) (Drop 0) Done holds refl (lit< tt) refl (λ class is. cc) in
    let all_dropped = calls (before 8) (Drop 1) Done dropped refl (lit< tt) refl (λ class is. cc) in
    let begun_again = IsLawful-push small no_shapes (before 9) (plain (Begin 2 false)) all_dropped (refl, begins 9 2 refl refl refl) in
    let paused_again = IsLawful-push small no_shapes (before 10) (plain (Pause 1)) begun_again refl in
    let ended_again = IsLawful-push small no_shapes (before 11) (plain (End 2 [])) paused_again (refl, old_and_held_are_kept) in
    let third = IsLawful-push small no_shapes (before 12) (plain (Begin 3 false)) ended_again (refl, begins 12 3 refl refl refl) in
    let paused_third = IsLawful-push small no_shapes (before 13) (plain (Pause 0)) third refl in
    IsLawful-push small no_shapes (before 14) (plain (End 3 [])) paused_third (
      refl,
      keeps_all (before 14) 3 paused_third refl
          (λ cell alive. is_further cell (ap is_live alive)) (old_stays_live small no_shapes (before 14) paused_third),
    )
  where
    before : ℕ → List Event
    before n = take n three_kept

    in_block : IsBlockOf small 0 0
    in_block = record { from = lit≤ tt; below = lit< tt }

    begins : (n cycle : ℕ) → (state_after small (before n)).phase ≡ idle → is_any_dead small (state_after small (before n)) ≡ false →
        cycle ≡ begin_count (before n) + 1 → StandsBegin small (before n) cycle
    begins n cycle idles swept next = record { is_idle = idles; is_swept = IsSwept-tested small (before n) swept; is_next = next }

    root : (cell : ℕ) → IsLive (state_after small (before 4)) cell → IsRetained (cycle_span small (before 4)) (IsSpared small (before 4)) cell
    root = put_at_elim
        (λ (n : ℕ) (held : CellState). held.status ≡ live → IsRetained (cycle_span small (before 4)) (IsSpared small (before 4)) n)
        (λ _. blank_cell free) 0 (blank_cell live) (λ is. is_root 0 (3, lit≤ tt, lit≤ tt, in_register 0 0 refl refl))
        (λ n apart is. absurd (let e : free ≡ live = is in cc))
