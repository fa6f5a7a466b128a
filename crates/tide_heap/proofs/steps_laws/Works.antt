-- What a participant's work between its beginning and its stop leaves of its view.
use Rattle.std.proofs.Common.{ℕ, ◌+◌, ◌≡◌, refl, ap, Bool, true, false, List, [], ◌∷◌, ◌++◌, length, Option, None, Some}
use Rattle.std.specs.Prelude.{if◌then◌else◌, ◌==◌, ◌||◌, ◌*◌}
use Rattle.std.specs.Int.{bit_at}
use Rattle.tide_core.specs.tide_layout.Slots.{index_of_element}
use Rattle.tide_core.specs.tide_layout.declared.region.Region.{Region}
use Rattle.tide_core.specs.tide_layout.declared.region.Region.TheVariants.{Elements}
use Rattle.tide_core.specs.machine.Kind.{Kind, Retire, LoadRegister, StoreRegister, LoadCall, StoreCall, LoadStrong, StoreStrong, LoadWeak, StoreWeak, LoadLink, StoreLink, LoadColour, Regrey, PushBit, LoadFree, TakeFree, StoreBorn, LoadPair, StorePair, StoreGroup, LoadClaim, TakeClaim, Release, LoadElement, StoreElement, TakeArray, Nuke, LoadOwnArray, StoreArray, LoadOwnStructure, StoreStructure, SwapGrey, Blacken, LoadStructure, LoadArray, LoadSlot, LoadElementOf, LoadAgain, LoadTarget, Mark, UnBlacken, PushRace, Publish, ClaimBlock, LoadDead, ZeroWord, GiveBits, Finish}
use Rattle.tide_core.specs.machine.May.{called}
use Rattle.tide_core.specs.machine.Duties.{is_growing}
use Rattle.tide_core.specs.machine.Owed.{owed_register, filled_register, owed_word}
use Rattle.tide_core.specs.machine.Scanning.{rests_now}
use Rattle.tide_core.specs.machine.Words.{cell_named, cells_in}
use Rattle.tide_core.specs.machine.Views.{changed, with_entry, with_own}
use Rattle.tide_core.specs.declared.machine.view.Duty.TheVariants as duty
use Rattle.tide_core.specs.declared.machine.view.Role.{Role}
use Rattle.tide_core.specs.declared.machine.view.View.{View}
use Rattle.tide_core.specs.machine.kinds.LoadFree.{looked_view}
use Rattle.tide_core.specs.machine.kinds.StorePrivateElement.{element_view, stored_element_view}
use Rattle.tide_core.specs.machine.kinds.StoreStructure.{structured_view}
use Rattle.tide_core.specs.machine.kinds.SwapGrey.{swapped_view}
use Rattle.tide_core.specs.machine.kinds.Sweep.{claimed_view, cleared_from, dead_view, saw_word, with_swept}
use Rattle.tide_core.specs.machine.kinds.TakeArray.{array_view, array_at, grown_view}
use Rattle.tide_core.specs.tide_sweep.declared.port.Took.TheVariants.{Clean, Mine, Other}
use Rattle.tide_model.specs.History.{state_after}
use Rattle.tide_model.specs.Layout.{Layout}
use Rattle.tide_model.specs.Refused.{ShapeLists}
use Rattle.tide_model.specs.declared.entry.Event.{Event}
use Rattle.tide_model.specs.State.{State}
use Rattle.tide_model.specs.declared.op.Op.{Op}
use Rattle.tide_model.specs.declared.op.Op.TheVariants.{Add, SetProp}
use Rattle.tide_model.specs.declared.val.Val.TheVariants.{Cell}
use Rattle.tide_heap.specs.steps.Follows.{with_found}
use Rattle.tide_heap.specs.steps.Works.{is_work, born_after, visits_after, is_leave}

-- of a view what no work but an entry changes
pub record Core : Type 0 where
  pub role : Role
  pub who : ℕ
  pub seen : List Event
  pub mine : List Event
  pub period : ℕ
  pub ticket : ℕ
  pub run : ℕ
  pub marks : Bool
  pub cycle : ℕ
  pub mark_version : ℕ
  pub earlier : List Event
  pub told : List Event
  pub runs : Bool
  pub begun : ℕ
  pub visits : ℕ
  pub born : ℕ
  pub left : Bool

abbrev pub core : View → Core
core v = record {
  role = v.role;
  who = v.who;
  seen = v.seen;
  mine = v.mine;
  period = v.period;
  ticket = v.ticket;
  run = v.run;
  marks = v.marks;
  cycle = v.cycle;
  mark_version = v.mark_version;
  earlier = v.earlier;
  told = v.told;
  runs = v.runs;
  begun = v.begun;
  visits = v.visits;
  born = v.born;
  left = v.left;
}

-- of that a work changes the number of cells born, that of visits, and whether its participant has left
abbrev pub worked : Kind → ℕ → Core → Core
worked kind read c = record c {
  born = born_after kind read c.born;
  visits = visits_after kind c.visits;
  left = is_leave kind || c.left;
}

-- what a participant has seen, and made, after a step that makes an entry or none
abbrev pub seen_after : List Event → List Event → Option Event → List Event
seen_after log seen None = seen
seen_after log seen (Some event) = log ++ event ∷ []

abbrev pub mine_after : List Event → Option Event → List Event
mine_after mine None = mine
mine_after mine (Some event) = with_own mine event

looked : (log : List Event) (block read : ℕ) (v : View) → core (looked_view log block read v) ≡ core v
looked log block read v = refl

born_more : (layout : Layout) (log : List Event) (me block k : ℕ) (op : Op) (read : ℕ) (v : View) (b : Bool) →
    core (if b then record (called (owed_register layout me (filled_register op) (Cell (64 * block + k))) v) {
      duty = duty.Born (64 * block + k);
      born = v.born + 1;
    } else looked_view log block read v)
    ≡ record (core v) { born = if b then v.born + 1 else v.born }
born_more layout log me block k op read v true = refl
born_more layout log me block k op read v false = looked log block read v

array_born : (layout : Layout) (log : List Event) (me block k old next : ℕ) (op : Op) (read : ℕ) (v : View) →
    core (array_view layout log (state_after layout log) me block k old next (Some op) read v) ≡ core v
array_born layout log me block k old next (Add src key val) read v = by_test (bit_at read k == 1)
  where
    by_test : (b : Bool) → core (if b then
        grown_view layout (state_after layout log) (cell_named ((state_after layout log).registers me src))
        (array_at layout block k) ((state_after layout log).registers me val) old next v
        else looked_view log block read v) ≡ core v
    by_test true = refl
    by_test false = looked log block read v
array_born layout log me block k old next _ read v = refl

element_seen : (layout : Layout) (me array place read : ℕ) (v : View) →
    core (element_view layout me array place read None v) ≡ core v
element_seen layout me array place read v = by_test (is_growing v.growth)
  where
    by_test : (b : Bool) → core (if b then v else record v {
      known = owed_word Elements (index_of_element layout array place) read ∷ v.known;
    }) ≡ core v
    by_test true = refl
    by_test false = refl

element_stored : (layout : Layout) (state : State) (me array place word : ℕ) (op : Op) (v : View) →
    core (stored_element_view layout state me array place word (Some op) v) ≡ core v
element_stored layout state me array place word (SetProp src key val) v = refl
element_stored layout state me array place word _ v = refl

structured : (state : State) (me cell : ℕ) (op : Op) (v : View) → core (structured_view state me cell (Some op) v) ≡ core v
structured state me cell (Add src key val) v = refl
structured state me cell _ v = refl

swapped : (grey : Region) (block read : ℕ) (v : View) → core (swapped_view grey block read v) ≡ core v
swapped grey block read v = by_test (read == 0)
  where
    by_test : (b : Bool) → core (if b then record v {
      round = if rests_now v then record { region = grey; block = block } ∷ v.round else v.round;
    } else record v { held = v.held ++ cells_in block read; round = [] }) ≡ core v
    by_test true = refl
    by_test false = refl

dead_seen : (log : List Event) (block read : ℕ) (v : View) → core (dead_view log block read v) ≡ core v
dead_seen log block read v = by_test (read == 0)
  where
    by_test : (b : Bool) → core (if b then cleared_from Clean (length log) block v
        else record v { saw = Some (record { block = block; word = read; swept = None }) }) ≡ core v
    by_test true = refl
    by_test false = refl

claimed : (log : List Event) (block old cycle read : ℕ) (v : View) →
    core (claimed_view log block old cycle read v) ≡ core v
claimed log block old cycle read v = by_test (read == old) (read == cycle)
  where
    by_test : (took last : Bool) → core (if took then record (cleared_from Mine (length log + 1) block v) {
      sweeping = Some (record { block = block; dead = saw_word v.saw; given = false; zeroed = [] });
    } else if last then cleared_from Other (length log) block v else record v { saw = with_swept read v.saw }) ≡ core v
    by_test true last = refl
    by_test false true = refl
    by_test false false = refl

pub core_kept : (layout : Layout) (shapes : ShapeLists) (log : List Event) (me : ℕ) (kind : Kind) (read : ℕ)
    (v : View) → is_work kind ≡ true → core (changed layout shapes log me kind read v) ≡ worked kind read (core v)
core_kept layout shapes log me (Retire made) read v is = refl
core_kept layout shapes log me (LoadRegister register) read v is = refl
core_kept layout shapes log me (StoreRegister register word None) read v is = refl
core_kept layout shapes log me (StoreRegister register word (Some op)) read v is = refl
core_kept layout shapes log me LoadCall read v is = refl
core_kept layout shapes log me (StoreCall word None) read v is = refl
core_kept layout shapes log me (StoreCall word (Some op)) read v is = refl
core_kept layout shapes log me (LoadStrong handle None) read v is = refl
core_kept layout shapes log me (LoadStrong handle (Some op)) read v is = refl
core_kept layout shapes log me (StoreStrong handle word made) read v is = refl
core_kept layout shapes log me (LoadWeak handle None) read v is = refl
core_kept layout shapes log me (LoadWeak handle (Some op)) read v is = refl
core_kept layout shapes log me (StoreWeak handle word made) read v is = refl
core_kept layout shapes log me (LoadLink cell slot None) read v is = refl
core_kept layout shapes log me (LoadLink cell slot (Some op)) read v is = refl
core_kept layout shapes log me (StoreLink cell slot word made) read v is = refl
core_kept layout shapes log me (LoadColour cell) read v is = refl
core_kept layout shapes log me (Regrey cell old cycle) read v is = refl
core_kept layout shapes log me (PushBit cell) read v is = refl
core_kept layout shapes log me (LoadFree block) read v is = looked log block read v
core_kept layout shapes log me (TakeFree block k None) read v is = refl
core_kept layout shapes log me (TakeFree block k (Some op)) read v is =
    born_more layout log me block k op read v (bit_at read k == 1)
core_kept layout shapes log me (StoreBorn cell word) read v is = refl
core_kept layout shapes log me (LoadPair table place None) read v is = refl
core_kept layout shapes log me (LoadPair table place (Some op)) read v is = refl
core_kept layout shapes log me (StorePair table place word made) read v is = refl
core_kept layout shapes log me (StoreGroup cell word made) read v is = refl
core_kept layout shapes log me (LoadClaim cell None) read v is = refl
core_kept layout shapes log me (LoadClaim cell (Some op)) read v is = refl
core_kept layout shapes log me (TakeClaim cell holder made) read v is = refl
core_kept layout shapes log me (Release cell made) read v is = refl
core_kept layout shapes log me (LoadElement array place None) read v is = element_seen layout me array place read v
core_kept layout shapes log me (LoadElement array place (Some op)) read v is = refl
core_kept layout shapes log me (StoreElement array place word None) read v is = refl
core_kept layout shapes log me (StoreElement array place word (Some op)) read v is =
    element_stored layout (state_after layout log) me array place word op v
core_kept layout shapes log me (TakeArray block k old next None) read v is = refl
core_kept layout shapes log me (TakeArray block k old next (Some op)) read v is =
    array_born layout log me block k old next op read v
core_kept layout shapes log me (Nuke cell word) read v is = refl
core_kept layout shapes log me (LoadOwnArray cell) read v is = refl
core_kept layout shapes log me (StoreArray cell array) read v is = refl
core_kept layout shapes log me (LoadOwnStructure cell) read v is = refl
core_kept layout shapes log me (StoreStructure cell word None) read v is = refl
core_kept layout shapes log me (StoreStructure cell word (Some op)) read v is =
    structured (state_after layout log) me cell op v
core_kept layout shapes log me (SwapGrey grey block) read v is = swapped grey block read v
core_kept layout shapes log me (Blacken cell cycle) read v is = refl
core_kept layout shapes log me (LoadStructure cell) read v is = refl
core_kept layout shapes log me (LoadArray cell) read v is = refl
core_kept layout shapes log me (LoadSlot cell slot) read v is = refl
core_kept layout shapes log me (LoadElementOf array place) read v is = refl
core_kept layout shapes log me (LoadAgain cell) read v is = refl
core_kept layout shapes log me (LoadTarget cell) read v is = refl
core_kept layout shapes log me (Mark cell old cycle) read v is = refl
core_kept layout shapes log me (UnBlacken cell cycle) read v is = refl
core_kept layout shapes log me (PushRace cell) read v is = refl
core_kept layout shapes log me (Publish block mask) read v is = refl
core_kept layout shapes log me (ClaimBlock block old cycle) read v is = claimed log block old cycle read v
core_kept layout shapes log me (LoadDead block) read v is = dead_seen log block read v
core_kept layout shapes log me (ZeroWord at index) read v is = refl
core_kept layout shapes log me (GiveBits block bits) read v is = refl
core_kept layout shapes log me (Finish block) read v is = refl
core_kept layout shapes log me kind read v is = absurd (cc)

-- the word that a step found is no part of it
pub core_found : (kind : Kind) (read : ℕ) (v : View) → core (with_found kind read v) ≡ core v
core_found (LoadRegister register) read v = refl
core_found LoadCall read v = refl
core_found _ read v = refl

-- the whole view after a work, with the entry that it makes or none
pub worked_view : (layout : Layout) (shapes : ShapeLists) (log : List Event) (kind : Kind) (read : ℕ) (v : View) →
    is_work kind ≡ true → (event : Option Event) →
    core (with_entry log event (changed layout shapes log v.who kind read v))
    ≡ record (worked kind read (core v)) { seen = seen_after log v.seen event; mine = mine_after v.mine event }
worked_view layout shapes log kind read v is None = core_kept layout shapes log v.who kind read v is
worked_view layout shapes log kind read v is (Some event) =
    ap (λ (c : Core). record c { seen = log ++ event ∷ []; mine = with_own c.mine event })
    (core_kept layout shapes log v.who kind read v is)
