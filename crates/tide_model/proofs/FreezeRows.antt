-- What a freeze may do, and its wrong neighbours.
use Rattle.std.specs.Prelude.{ℕ, zero, suc, ◌≡◌, ◌<◌, ◌≤◌, refl, true, false, List, [], ◌∷◌, ◌++◌, length, sum, slice_index_or, None, Some}
use Rattle.std.proofs.Common.{arith, ap, lit<, lit≤, ◌∙◌}
use Rattle.tide_model.specs.declared.op.Op.{Op}
use Rattle.tide_model.specs.declared.op.Op.TheVariants.{Alloc, Drop, Collect, Retire}
use Rattle.tide_model.specs.declared.op.Reply.{Reply}
use Rattle.tide_model.specs.declared.op.Reply.TheVariants.{Done, Born, Asked, Refused}
use Rattle.tide_model.specs.declared.op.Refusal.TheVariants.{Full}
use Rattle.tide_model.specs.declared.entry.Entry.{Entry}
use Rattle.tide_model.specs.declared.entry.Entry.TheVariants.{Call, Begin, Pause, Visits, End, Open}
use Rattle.tide_model.specs.declared.entry.Event.{Event}
use Rattle.tide_model.specs.Freeze.{IsFreeze, GoesOn, IsPause, is_due, visits_entries, pause_entries, begins_full}
use Rattle.tide_model.specs.History.{plain}
use Rattle.tide_model.specs.Layout.{Layout}
use Rattle.tide_model.specs.Pace.{Pace}
use Rattle.tide_model.specs.Periods.{is_forced}
use Rattle.tide_model.specs.Rows.{small}

-- a period of 8, a cycle by itself after four births, and room for many
abbrev pub pace : Pace
pace = record { calls = 8; visits = 8; headroom = 100; trigger = 4 }

-- the same store with a visitor and a second mutator
abbrev pub visited : Layout
visited = record small { visitors = 1; mutators = 2 }

-- a call of the first mutator, and one of the second
abbrev pub first_calls : Op → Reply → Event
first_calls op reply = plain (Call 0 op reply)

abbrev pub second_calls : Op → Reply → Event
second_calls op reply = plain (Call 1 op reply)

-- a pause after which its cycle has to end
pub ends_its_cycle : (budget visits : ℕ) (freed : List ℕ) →
    IsPause true budget (record { visits = visits; freed = Some freed })
ends_its_cycle budget visits freed = record {
  ends = λ must. refl;
  at_most = λ may. absurd (cc);
  all = λ may. absurd (cc);
}

-- a pause outside a forced freeze makes its budget black, no more and no less where the cycle goes on
pub pause_over_its_share : IsPause false 2 (record { visits = 3; freed = Some [] }) → ⊥
pause_over_its_share pause = let few = pause.at_most refl in omega (arith, few)

pub pause_under_its_share : IsPause false 2 (record { visits = 1; freed = None }) → ⊥
pause_under_its_share pause = let same = pause.all refl refl in omega (arith, same)

-- a pause of a forced freeze ends its cycle
pub must_pause_goes_on : IsPause true 2 (record { visits = 2; freed = None }) → ⊥
must_pause_goes_on pause = let e : false ≡ true = pause.ends refl in cc

-- one cell was born, and no cycle marks
abbrev pub one_born : List Event
one_born = plain (Open 1 8) ∷ first_calls (Alloc 0 0) (Born 0) ∷ []

-- a forced freeze runs a whole cycle, and one that isn't forced runs none where none is due
pub must_cycle_runs : IsFreeze pace small one_born 8 true (Begin 1 true ∷ Pause 1 ∷ End 1 [] ∷ [])
must_cycle_runs = record {
  old = [];
  new = Begin 1 true ∷ Pause 1 ∷ End 1 [] ∷ [];
  are = refl;
  goes_on = λ marks. absurd (cc);
  rests = λ rests. refl;
  begins = λ must. record {
    paused = record { visits = 1; freed = Some [] };
    are = refl;
    pause = ends_its_cycle 2 1 [];
  };
  stays = λ may. absurd (cc);
}

pub idle_freeze_rests : IsFreeze pace small one_born 8 false []
idle_freeze_rests = record {
  old = [];
  new = [];
  are = refl;
  goes_on = λ marks. absurd (cc);
  rests = λ rests. refl;
  begins = λ due. absurd (cc);
  stays = λ may. refl;
}

pub must_cycle_has_to_run : IsFreeze pace small one_born 8 true [] → ⊥
must_cycle_has_to_run freeze =
    let begins = freeze.begins refl in
    let none : [] ≡ freeze.new = freeze.are ∙ ap (λ (old : List Entry). old ++ freeze.new) (freeze.rests refl) in
    let some : [] ≡ Begin 1 true ∷ pause_entries 1 begins.paused = none ∙ begins.are in
    cc

pub no_cycle_without_cause : IsFreeze pace small one_born 8 false (Begin 1 true ∷ Pause 1 ∷ End 1 [] ∷ []) → ⊥
no_cycle_without_cause freeze =
    let some : Begin 1 true ∷ Pause 1 ∷ End 1 [] ∷ [] ≡ freeze.new =
    freeze.are ∙ ap (λ (old : List Entry). old ++ freeze.new) (freeze.rests refl) in
    let none : Begin 1 true ∷ Pause 1 ∷ End 1 [] ∷ [] ≡ [] = some ∙ freeze.stays refl in
    cc

-- eight calls with four births, after which a cycle began by itself and marks
abbrev pub four_born : List Event
four_born =
    first_calls (Alloc 0 0) (Born 0) ∷ first_calls (Alloc 1 0) (Born 1)
    ∷ first_calls (Alloc 2 0) (Born 2) ∷ first_calls (Alloc 3 0) (Born 3) ∷ []

abbrev pub marked : List Event
marked = four_born ++ plain (Begin 1 false) ∷ plain (Pause 2) ∷ []

pub dues :
    (is_due pace small one_born ≡ false) × (is_due pace small four_born ≡ true)
    × (is_due pace small marked ≡ false) × (is_due (record pace { trigger = 0 }) small four_born ≡ false)
dues = (refl, refl, refl, refl)

-- a cycle is full that has to be over in its freeze, and each whose number is a multiple of four
pub full_ones :
    (begins_full true 1 ≡ true) × (begins_full true 4 ≡ true) × (begins_full false 4 ≡ true)
    × (begins_full false 8 ≡ true) × (begins_full false 1 ≡ false) × (begins_full false 6 ≡ false)
full_ones = (refl, refl, refl, refl, refl, refl)

pub must_cycle_is_no_eden_cycle : IsFreeze pace small one_born 8 true (Begin 1 false ∷ Pause 1 ∷ End 1 [] ∷ []) → ⊥
must_cycle_is_no_eden_cycle freeze =
    let begins = freeze.begins refl in
    let same : Begin 1 false ∷ Pause 1 ∷ End 1 [] ∷ [] ≡ Begin 1 true ∷ pause_entries 1 begins.paused =
    freeze.are ∙ ap (λ (old : List Entry). old ++ freeze.new) (freeze.rests refl) ∙ begins.are in
    let first : Begin 1 false ≡ Begin 1 true = cc in
    cc

-- the first one that begins by itself is an Eden cycle
pub due_cycle_is_no_full_cycle : IsFreeze pace small four_born 8 false (Begin 1 true ∷ Pause 2 ∷ []) → ⊥
due_cycle_is_no_full_cycle freeze =
    let begins = freeze.begins refl in
    let same : Begin 1 true ∷ Pause 2 ∷ [] ≡ Begin 1 false ∷ pause_entries 1 begins.paused =
    freeze.are ∙ ap (λ (old : List Entry). old ++ freeze.new) (freeze.rests refl) ∙ begins.are in
    let first : Begin 1 true ≡ Begin 1 false = cc in
    cc

-- the visitor tells what it made black before the pause
pub visits_come_first : GoesOn pace visited marked 6 true (Visits 0 3 ∷ Pause 1 ∷ End 1 [] ∷ [])
visits_come_first = record {
  visits = 3 ∷ [];
  paused = record { visits = 1; freed = Some [] };
  are = refl;
  one_each = refl;
  at_most = three;
  some = λ visitors. lit< tt;
  pause = ends_its_cycle 2 1 [];
}
  where
    three : (k : ℕ) (d : ℕ) → k < 1 → slice_index_or (3 ∷ []) k d ≤ 6
    three zero d below = lit≤ tt
    three (suc k) d below = absurd (omega (arith, below))

-- not where it made none black
pub nobody_visited : GoesOn pace visited marked 6 true (Visits 0 0 ∷ Pause 1 ∷ End 1 [] ∷ []) → ⊥
nobody_visited goes = by_visits goes.visits goes.one_each goes.are (goes.some (λ none. absurd (cc)))
  where
    by_visits : (visits : List ℕ) → length visits ≡ 1 →
        Visits 0 0 ∷ Pause 1 ∷ End 1 [] ∷ [] ≡ visits_entries 0 visits ++ pause_entries 1 goes.paused →
        0 < sum visits → ⊥
    by_visits [] one are many = absurd (cc)
    by_visits (k ∷ []) one are many =
        let first : Visits 0 0 ≡ Visits 0 k = cc in
        let none : 0 ≡ k = cc in
        omega (arith, none, many)
    by_visits (k ∷ l ∷ rest) one are many = omega (arith, one)

-- the second mutator is refused for room
abbrev second_refused : List Event
second_refused = second_calls (Alloc 0 1) (Refused (Full 1)) ∷ []

-- a freeze is forced where some mutator's last call ended its share, and where none is active
pub musts :
    (is_forced visited [] (first_calls (Drop 0) Done ∷ second_calls Collect Asked ∷ []) ≡ true)
    × (is_forced visited [] (second_calls Collect Asked ∷ second_calls (Drop 0) Done ∷ []) ≡ false)
    × (is_forced visited [] second_refused ≡ true)
    × (is_forced visited second_refused second_refused ≡ false)
    × (is_forced visited [] (first_calls Retire Done ∷ []) ≡ false)
    × (is_forced visited [] (first_calls Retire Done ∷ second_calls Retire Done ∷ []) ≡ true)
musts = (refl, refl, refl, refl, refl, refl)
