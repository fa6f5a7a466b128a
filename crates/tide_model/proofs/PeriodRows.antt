-- Histories in their periods, worked out by hand, and what the schedule refuses beside them.
use Rattle.std.specs.Prelude.{◌≡◌, refl, true, false, List, [], ◌∷◌, ◌++◌, take, None, Some}
use Rattle.std.proofs.Common.{arith, lit≤, ap, inl, inr}
use Rattle.std.proofs.lemmas.List.Sums.{AllPass-from_list_all}
use Rattle.tide_model.specs.declared.val.Val.TheVariants.{Cell}
use Rattle.tide_model.specs.declared.op.Op.TheVariants.{Alloc, Set, Drop, WeakSet, WeakGet, Collect, Retire}
use Rattle.tide_model.specs.declared.op.Reply.TheVariants.{Done, Born, Seen, Asked, Refused}
use Rattle.tide_model.specs.declared.op.Refusal.TheVariants.{Full}
use Rattle.tide_model.specs.declared.entry.Entry.TheVariants.{Begin, Pause, End, Sweep, Open}
use Rattle.tide_model.specs.declared.entry.Event.{Event}
use Rattle.tide_model.specs.Freeze.{IsFreeze}
use Rattle.tide_model.specs.History.{plain}
use Rattle.tide_model.specs.Layout.{Layout}
use Rattle.tide_model.specs.Pace.{mark_budget, call_quota}
use Rattle.tide_model.specs.Periods.{Period, StandsPeriod, ArePeriods, no_period, one_more, IsScheduled, EndsInTime, after_period, next_run}
use Rattle.tide_model.specs.Rows.{small, kept_then_freed}
use Rattle.tide_model.specs.Since.{is_call, is_of_part}
use Rattle.tide_model.proofs.DeadLaws.{SweptWereTaken-calls, TakenAreSwept-none}
use Rattle.tide_model.proofs.FreezeRows.{pace, first_calls, second_calls, ends_its_cycle}
use Rattle.tide_model.proofs.PeriodLaws.{first_opens}
use Rattle.tide_model.proofs.PeriodTests.{Each-tested, EndsInTime-tested, IsSwept-tested, ends_in_time, shares-tested}

-- the shares of a period of 16 calls and a headroom of 32, once 0, 8, 16, 31, 32 and 40 cells were born
pub shares_of_sixteen :
    (mark_budget (record { calls = 16; visits = 16; headroom = 32; trigger = 0 }) 0 ≡ 4)
    × (call_quota (record { calls = 16; visits = 16; headroom = 32; trigger = 0 }) 8 ≡ 12)
    × (mark_budget (record { calls = 16; visits = 16; headroom = 32; trigger = 0 }) 16 ≡ 8)
    × (mark_budget (record { calls = 16; visits = 16; headroom = 32; trigger = 0 }) 31 ≡ 16)
    × (call_quota (record { calls = 16; visits = 16; headroom = 32; trigger = 0 }) 31 ≡ 0)
    × (mark_budget (record { calls = 16; visits = 16; headroom = 32; trigger = 0 }) 40 ≡ 16)
shares_of_sixteen = (refl, refl, refl, refl, refl, refl)

-- eight calls, and a cycle that begins by itself
abbrev first : Period
first = record {
  part =
      first_calls (Alloc 0 0) (Born 0) ∷ first_calls (Alloc 1 0) (Born 1)
      ∷ first_calls (Alloc 2 0) (Born 2) ∷ first_calls (Alloc 3 0) (Born 3)
      ∷ first_calls (WeakSet 0 3) Done ∷ first_calls (Drop 3) Done
      ∷ first_calls (Set 3 5) Done ∷ first_calls (Set 3 6) Done ∷ [];
  freeze = plain (Begin 1 false) ∷ plain (Pause 2) ∷ [];
}

-- the weak handle is read, and a cycle is asked for
abbrev second : Period
second = record {
  part = first_calls (WeakGet 3 0) (Seen (Cell 3)) ∷ first_calls Collect Asked ∷ [];
  freeze = plain (Pause 2) ∷ plain (End 1 []) ∷ plain (Begin 2 true) ∷ plain (Pause 4) ∷ plain (End 2 []) ∷ [];
}

-- the mutator retires
abbrev third : Period
third = record {
  part = first_calls Retire Done ∷ [];
  freeze = plain (Begin 3 true) ∷ plain (Pause 0) ∷ plain (End 3 (0 ∷ 1 ∷ 2 ∷ 3 ∷ [])) ∷ plain (Sweep 0) ∷ [];
}

abbrev after_first : List Event
after_first = plain (Open 1 8) ∷ first.part ++ first.freeze

abbrev after_second : List Event
after_second = after_first ++ plain (Open 2 6) ∷ second.part ++ second.freeze

-- a weak handle is read while a cycle marks
abbrev whole : List Event
whole = after_second ++ plain (Open 3 8) ∷ third.part ++ third.freeze

-- the definitions open parts with these numbers, and with 8 calls when idle and 6 when a cycle marks
numbers :
    (after_period pace small [] first ≡ after_first)
    × (after_period pace small after_first second ≡ after_second)
    × (after_period pace small after_second third ≡ whole)
numbers = (refl, refl, refl)

pub runs : (next_run pace small [] ≡ 8) × (next_run pace small after_first ≡ 6) × (next_run pace small after_second ≡ 8)
runs = (refl, refl, refl)

first_freeze : IsFreeze pace small (plain (Open 1 8) ∷ first.part) 8 false (Begin 1 false ∷ Pause 2 ∷ [])
first_freeze = record {
  old = [];
  new = Begin 1 false ∷ Pause 2 ∷ [];
  are = refl;
  goes_on = λ marks. absurd (cc);
  rests = λ rests. refl;
  begins = λ due. record {
    paused = record { visits = 2; freed = None };
    are = refl;
    pause = record { ends = λ must. absurd (cc); at_most = λ may. lit≤ tt; all = λ may goes_on. refl };
  };
  stays = λ not_due. absurd (cc);
}

second_freeze :
    IsFreeze pace small (after_first ++ plain (Open 2 6) ∷ second.part) 6 true
    (Pause 2 ∷ End 1 [] ∷ Begin 2 true ∷ Pause 4 ∷ End 2 [] ∷ [])
second_freeze = record {
  old = Pause 2 ∷ End 1 [] ∷ [];
  new = Begin 2 true ∷ Pause 4 ∷ End 2 [] ∷ [];
  are = refl;
  goes_on = λ marks. record {
    visits = [];
    paused = record { visits = 2; freed = Some [] };
    are = refl;
    one_each = refl;
    at_most = λ k d below. absurd (omega (arith, below));
    some = λ visitors. absurd (visitors refl);
    pause = ends_its_cycle 2 2 [];
  };
  rests = λ rests. absurd (cc);
  begins = λ must. record {
    paused = record { visits = 4; freed = Some [] };
    are = refl;
    pause = ends_its_cycle 2 4 [];
  };
  stays = λ not_due. absurd (cc);
}

third_freeze :
    IsFreeze pace small (after_second ++ plain (Open 3 8) ∷ third.part) 8 true
    (Begin 3 true ∷ Pause 0 ∷ End 3 (0 ∷ 1 ∷ 2 ∷ 3 ∷ []) ∷ [])
third_freeze = record {
  old = [];
  new = Begin 3 true ∷ Pause 0 ∷ End 3 (0 ∷ 1 ∷ 2 ∷ 3 ∷ []) ∷ [];
  are = refl;
  goes_on = λ marks. absurd (cc);
  rests = λ rests. refl;
  begins = λ must. record {
    paused = record { visits = 0; freed = Some (0 ∷ 1 ∷ 2 ∷ 3 ∷ []) };
    are = refl;
    pause = ends_its_cycle 2 0 (0 ∷ 1 ∷ 2 ∷ 3 ∷ []);
  };
  stays = λ not_due. absurd (cc);
}

-- each period stands behind those before it
first_stands : StandsPeriod pace small [] first
first_stands = record {
  goes_on = refl;
  entries = AllPass-from_list_all (λ event. is_of_part event.entry) first.part refl;
  calls = λ marks. AllPass-from_list_all (λ event. is_call event.entry) first.part refl;
  taken = TakenAreSwept-none first.part refl;
  swept_taken = SweptWereTaken-calls first.part refl;
  shares = shares-tested pace small [] first refl;
  freeze = first_freeze;
  swept = λ must. IsSwept-tested small after_first refl;
}

second_stands : StandsPeriod pace small after_first second
second_stands = record {
  goes_on = refl;
  entries = AllPass-from_list_all (λ event. is_of_part event.entry) second.part refl;
  calls = λ marks. AllPass-from_list_all (λ event. is_call event.entry) second.part refl;
  taken = TakenAreSwept-none second.part refl;
  swept_taken = SweptWereTaken-calls second.part refl;
  shares = shares-tested pace small after_first second refl;
  freeze = second_freeze;
  swept = λ must. IsSwept-tested small after_second refl;
}

third_stands : StandsPeriod pace small after_second third
third_stands = record {
  goes_on = refl;
  entries = AllPass-from_list_all (λ event. is_of_part event.entry) third.part refl;
  calls = λ marks. AllPass-from_list_all (λ event. is_call event.entry) third.part refl;
  taken = TakenAreSwept-none third.part refl;
  swept_taken = SweptWereTaken-calls third.part refl;
  shares = shares-tested pace small after_second third refl;
  freeze = third_freeze;
  swept = λ must. IsSwept-tested small whole refl;
}

periods : ArePeriods pace small whole
periods =
    one_more after_second third
    (one_more after_first second (one_more [] first no_period first_stands) second_stands) third_stands

-- a schedule with a cycle that marks while its mutator runs, a forced freeze that ends it and runs a whole one, and a
-- last freeze
pub whole_is_scheduled : IsScheduled pace small whole
whole_is_scheduled = record {
  periods = periods;
  ends = Each-tested (EndsInTime small) (ends_in_time small) (EndsInTime-tested small) whole refl;
  over = refl;
}

-- the first part has number 1, and all calls of a period, since no cycle marks
pub first_number_is_one : ArePeriods pace small (plain (Open 2 8) ∷ []) → ⊥
first_number_is_one are = elim (first_opens pace small (plain (Open 2 8) ∷ []) are) [
  | inl none ↦ cc
  | inr opens ↦
      let first : plain (Open 2 8) ≡ plain (Open 1 8) = cc in
      let same : Open 2 8 ≡ Open 1 8 = ap (λ (event : Event). event.entry) first in
      cc
]

pub first_run_is_whole : ArePeriods pace small (plain (Open 1 7) ∷ []) → ⊥
first_run_is_whole are = elim (first_opens pace small (plain (Open 1 7) ∷ []) are) [
  | inl none ↦ cc
  | inr opens ↦
      let first : plain (Open 1 7) ≡ plain (Open 1 8) = cc in
      let same : Open 1 7 ≡ Open 1 8 = ap (λ (event : Event). event.entry) first in
      cc
]

-- a cycle that is marked whole in its first pause may not report that pause's budget alone
pub ends_too_early : EndsInTime small (take 11 whole) (plain (End 1 [])) → ⊥
ends_too_early stands = let few = stands.kept 1 [] refl in omega (arith, few)

-- a pause may not report fewer cells than the end keeps that were there when the cycle began
pub pause_reports_enough : EndsInTime small (take 4 kept_then_freed) (plain (End 1 []))
pause_reports_enough = EndsInTime-tested small (take 4 kept_then_freed) (plain (End 1 [])) refl

pub pause_reports_too_few : EndsInTime small (take 3 kept_then_freed ++ plain (Pause 0) ∷ []) (plain (End 1 [])) → ⊥
pause_reports_too_few stands = let few = stands.kept 1 [] refl in omega (arith, few)

-- two mutators: the first is refused for room a first time and stops, the second makes all its calls, and a cycle runs
abbrev pub pair : Layout
pair = record small { mutators = 2 }

abbrev pub refused_and_busy : Period
refused_and_busy = record {
  part =
      first_calls (Alloc 0 1) (Refused (Full 1))
      ∷ second_calls (Set 0 1) Done ∷ second_calls (Set 0 2) Done
      ∷ second_calls (Set 0 3) Done ∷ second_calls (Set 0 4) Done
      ∷ second_calls (Set 0 5) Done ∷ second_calls (Set 0 6) Done
      ∷ second_calls (Set 0 7) Done ∷ second_calls (Set 0 8) Done ∷ [];
  freeze = plain (Begin 1 true) ∷ plain (Pause 0) ∷ plain (End 1 []) ∷ [];
}

refused_freeze :
    IsFreeze pace pair (plain (Open 1 8) ∷ refused_and_busy.part) 8 true (Begin 1 true ∷ Pause 0 ∷ End 1 [] ∷ [])
refused_freeze = record {
  old = [];
  new = Begin 1 true ∷ Pause 0 ∷ End 1 [] ∷ [];
  are = refl;
  goes_on = λ marks. absurd (cc);
  rests = λ rests. refl;
  begins = λ must. record {
    paused = record { visits = 0; freed = Some [] };
    are = refl;
    pause = ends_its_cycle 2 0 [];
  };
  stays = λ not_due. absurd (cc);
}

pub one_is_refused : StandsPeriod pace pair [] refused_and_busy
one_is_refused = record {
  goes_on = refl;
  entries = AllPass-from_list_all (λ event. is_of_part event.entry) refused_and_busy.part refl;
  calls = λ marks. AllPass-from_list_all (λ event. is_call event.entry) refused_and_busy.part refl;
  taken = TakenAreSwept-none refused_and_busy.part refl;
  swept_taken = SweptWereTaken-calls refused_and_busy.part refl;
  shares = shares-tested pace pair [] refused_and_busy refl;
  freeze = refused_freeze;
  swept = λ must. IsSwept-tested pair (after_period pace pair [] refused_and_busy) refl;
}
