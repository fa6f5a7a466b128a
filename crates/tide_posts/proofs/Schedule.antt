-- A schedule in which mutators may stop early: with nobody who does it is the schedule, a period more goes on with it,
-- and who stopped early is told by the history alone.
use Rattle.std.proofs.Common.{ℕ, zero, suc, ◌≡◌, ◌+◌, ◌<◌, ◌≤◌, refl, sym, ◌∙◌, ap, subst, arith, Bool, true, false, true≢false, List, [], ◌∷◌, ◌++◌, length, set, get_or, get_or-set_same, get_or-set_other, inl, inr}
use Rattle.std.specs.Prelude.{◌⊎◌, ◌↔◌, ◌||◌, Option}
use Rattle.std.specs.List.{AllPass}
use Rattle.std.proofs.lemmas.Bool.{cases_eq, or_from, or_parts}
use Rattle.tide_heap.proofs.tide_freeze.FreezeLaws.{IsFreeze-by}
use Rattle.tide_heap.specs.tide_freeze.Freezing.{HasFrozenWhole}
use Rattle.tide_model.proofs.NumberLaws.{any_below-false}
use Rattle.tide_model.specs.declared.op.Op.{Op}
use Rattle.tide_model.specs.declared.op.Reply.{Reply}
use Rattle.tide_model.specs.declared.entry.Event.{Event}
use Rattle.tide_model.specs.Cycle.{IsSwept}
use Rattle.tide_model.specs.Freeze.{marks_after}
use Rattle.tide_model.specs.History.{state_after}
use Rattle.tide_model.specs.Layout.{Layout}
use Rattle.tide_model.specs.Numbers.{any_below}
use Rattle.tide_model.specs.Pace.{Pace}
use Rattle.tide_model.specs.Periods.{ArePeriods, IsLegal, Period, StandsPeriod, after_part, is_forced, is_over, next_run, opened}
use Rattle.tide_model.specs.Periods as periods
use Rattle.tide_model.specs.Refused.{ShapeLists}
use Rattle.tide_model.specs.Script.{calls_of, retry_of}
use Rattle.tide_model.specs.Share.{IsShare, has_ended}
use Rattle.tide_model.specs.Since.{SweptWereTaken, TakenAreSwept, is_call, is_of_part}
use Rattle.tide_posts.specs.Schedule.{ArePeriodsWhere, IsLegalWhere, IsShareWhere, StandsPeriodWhere, has_stop, have_stops}
use Rattle.tide_posts.specs.Schedule as where_early

module _ (run : ℕ) (retry : Option Op) (active : Bool) (calls : List (Op × Reply)) where
  -- who didn't stop early made its share
  pub IsShare-where : (early : Bool) → early ≡ false → IsShareWhere run retry active early calls → IsShare run retry active calls
  IsShare-where early none share = record {
    each = share.each;
    fewer = λ few. elim (share.fewer few) [
      | inl ended ↦ ended
      | inr is ↦ absurd (true≢false (sym is ∙ none))
    ];
  }

  pub IsShareWhere-share : (early : Bool) → early ≡ false → IsShare run retry active calls → IsShareWhere run retry active early calls
  IsShareWhere-share early none share = record {
    each = share.each;
    fewer = λ few. inl (share.fewer few);
    early = λ is. absurd (true≢false (sym is ∙ none));
  }

  -- whether one did is told by its calls
  pub one_early : (early other : Bool) → IsShareWhere run retry active early calls → IsShareWhere run retry active other calls →
      early ≡ other
  one_early true other share alike = sym (is_early other refl)
    where
      is_early : (b : Bool) → other ≡ b → b ≡ true
      is_early true is = refl
      is_early false is = elim (alike.fewer (share.early refl).0) [
        | inl ended ↦ elim ended [
          | inl gone ↦ absurd (true≢false (sym (share.early refl).1 ∙ gone))
          | inr last ↦ absurd (true≢false (sym last ∙ (share.early refl).2))
        ]
        | inr told ↦ absurd (true≢false (sym told ∙ is))
      ]
  one_early false other share alike = none other refl
    where
      none : (b : Bool) → other ≡ b → false ≡ b
      none false is = refl
      none true is = elim (share.fewer (alike.early is).0) [
        | inl ended ↦ elim ended [
          | inl gone ↦ absurd (true≢false (sym (alike.early is).1 ∙ gone))
          | inr last ↦ absurd (true≢false (sym last ∙ (alike.early is).2))
        ]
        | inr told ↦ absurd (cc)
      ]

-- a share of equal things
pub IsShareWhere-by : (run : ℕ) (early : Bool) (retry retry' : Option Op) (active active' : Bool) (calls calls' : List (Op × Reply)) →
    retry ≡ retry' → active ≡ active' → calls ≡ calls' → IsShareWhere run retry active early calls →
    IsShareWhere run retry' active' early calls'
IsShareWhere-by run early retry retry' active active' calls calls' e1 e2 e3 share =
    subst (λ (r : Option Op). IsShareWhere run r active' early calls') e1
    (subst (λ (a : Bool). IsShareWhere run retry a early calls') e2 (subst (IsShareWhere run retry active early) e3 share))

-- a part with nobody who stopped early stands as any
StandsPeriod-where : (pace : Pace) (layout : Layout) (early : List Bool) (before : List Event) (period : Period) →
    ((who : ℕ) → who < layout.mutators → get_or early who false ≡ false) →
    StandsPeriodWhere pace layout early before period → StandsPeriod pace layout before period
StandsPeriod-where pace layout early before period none stands = record {
  goes_on = stands.goes_on;
  entries = stands.entries;
  calls = stands.calls;
  taken = stands.taken;
  swept_taken = stands.swept_taken;
  shares = λ who below. IsShare-where (next_run pace layout before) (retry_of who before)
      ((state_after layout (after_part pace layout before period)).active who) (calls_of who period.part)
      (get_or early who false) (none who below) (stands.shares who below);
  freeze = stands.freeze;
  swept = stands.swept;
}

StandsPeriodWhere-nobody : (pace : Pace) (layout : Layout) (before : List Event) (period : Period) →
    StandsPeriod pace layout before period → StandsPeriodWhere pace layout [] before period
StandsPeriodWhere-nobody pace layout before period stands = record {
  goes_on = stands.goes_on;
  entries = stands.entries;
  calls = stands.calls;
  taken = stands.taken;
  swept_taken = stands.swept_taken;
  shares = λ who below. IsShareWhere-share (next_run pace layout before) (retry_of who before)
      ((state_after layout (after_part pace layout before period)).active who) (calls_of who period.part)
      false refl (stands.shares who below);
  freeze = stands.freeze;
  swept = stands.swept;
}

or_assoc : (a b c : Bool) → (a || (b || c)) ≡ ((a || b) || c)
or_assoc true b c = refl
or_assoc false b c = refl

or_none : (a : Bool) → (a || false) ≡ a
or_none true = refl
or_none false = refl

or_swap : (a b c : Bool) → ((a || b) || c) ≡ ((a || c) || b)
or_swap true b c = refl
or_swap false true true = refl
or_swap false true false = refl
or_swap false false true = refl
or_swap false false false = refl

-- whether some mutator stopped early, with one part more
pub have_stops-push : (layout : Layout) (stops : List (List Bool)) (early : List Bool) →
    have_stops layout (stops ++ early ∷ []) ≡ (have_stops layout stops || has_stop layout early)
have_stops-push layout [] early = or_none (has_stop layout early)
have_stops-push layout (one ∷ stops) early =
    ap (λ (b : Bool). has_stop layout one || b) (have_stops-push layout stops early)
    ∙ or_assoc (has_stop layout one) (have_stops layout stops) (has_stop layout early)

-- none below a bound passes a test that nobody passes
none_below : (test : ℕ → Bool) (bound : ℕ) → ((n : ℕ) → test n ≡ false) → any_below test bound ≡ false
none_below test zero none = refl
none_below test (suc bound) none = or_from (any_below test bound) (test bound) (none_below test bound none) (none bound)

pub has_stop-nobody : (layout : Layout) (early : List Bool) → ((who : ℕ) → get_or early who false ≡ false) →
    has_stop layout early ≡ false
has_stop-nobody layout early nobody = none_below (λ who. get_or early who false) layout.mutators nobody

-- with one place set of which the list told nothing, one of the others or that one
any_below-set : (early : List Bool) (place : ℕ) (is : Bool) (bound : ℕ) → place < length early → get_or early place false ≡ false →
    place < bound → any_below (λ who. get_or (set early place is) who false) bound
    ≡ (any_below (λ who. get_or early who false) bound || is)
any_below-set early place is zero within none below = absurd (omega (arith, below))
any_below-set early place is (suc bound) within none below = elim (cases_eq place bound) [
  | inl same ↦ (λ i. (any_others bound (omega (arith, same)) i) || (here bound (sym same) i))
      ∙ ap (λ (b : Bool). b || is) (sym (or_none (any_below (λ who. get_or early who false) bound))
      ∙ ap (λ (b : Bool). any_below (λ who. get_or early who false) bound || b) (sym (ap (λ (n : ℕ). get_or early n false) (sym same) ∙ none)))
  | inr apart ↦ (λ i. (any_below-set early place is bound within none (omega (arith, below, apart)) i)
      || (get_or-set_other early place bound is false (λ e. apart (sym e)) i))
      ∙ or_swap (any_below (λ who. get_or early who false) bound) is (get_or early bound false)
]
  where
    any_others : (n : ℕ) → n ≤ place → any_below (λ who. get_or (set early place is) who false) n ≡ any_below (λ who. get_or early who false) n
    any_others zero few = refl
    any_others (suc n) few = λ i. (any_others n (omega (arith, few)) i) || (get_or-set_other early place n is false (λ e. omega (arith, e, few)) i)

    here : (n : ℕ) → n ≡ place → get_or (set early place is) n false ≡ is
    here n same = ap (λ (m : ℕ). get_or (set early place is) m false) same ∙ get_or-set_same early place is false within

pub has_stop-set : (layout : Layout) (early : List Bool) (place : ℕ) (is : Bool) → place < length early →
    get_or early place false ≡ false → place < layout.mutators →
    has_stop layout (set early place is) ≡ (has_stop layout early || is)
has_stop-set layout early place is within none below = any_below-set early place is layout.mutators within none below

-- so are periods
pub ArePeriods-where : (pace : Pace) (layout : Layout) (stops : List (List Bool)) (history : List Event) →
    have_stops layout stops ≡ false → ArePeriodsWhere pace layout stops history → ArePeriods pace layout history
ArePeriods-where pace layout _ _ none where_early.no_period = periods.no_period
ArePeriods-where pace layout _ _ none (where_early.one_more stops early before period are stands) =
    let parts = or_parts (have_stops layout stops) (has_stop layout early) (sym (have_stops-push layout stops early) ∙ none) in
    periods.one_more before period (ArePeriods-where pace layout stops before parts.0 are)
    (StandsPeriod-where pace layout early before period
    (λ who below. any_below-false (λ who. get_or early who false) layout.mutators who parts.1 below) stands)

pub ArePeriodsWhere-nobody : (pace : Pace) (layout : Layout) (history : List Event) → ArePeriods pace layout history →
    (stops : List (List Bool)) × (have_stops layout stops ≡ false) × ArePeriodsWhere pace layout stops history
ArePeriodsWhere-nobody pace layout _ periods.no_period = ([], refl, where_early.no_period)
ArePeriodsWhere-nobody pace layout _ (periods.one_more before period are stands) =
    let earlier = ArePeriodsWhere-nobody pace layout before are in (
      earlier.0 ++ [] ∷ [],
      have_stops-push layout earlier.0 [] ∙ or_from (have_stops layout earlier.0) (has_stop layout []) earlier.1
          (has_stop-nobody layout [] (λ who. refl)),
      where_early.one_more earlier.0 [] before period earlier.2 (StandsPeriodWhere-nobody pace layout before period stands),
    )

-- A history is legal just where it is legal with some stops of which there are none.
pub legal_where_none : (pace : Pace) (layout : Layout) (shapes : ShapeLists) (history : List Event) →
    IsLegal pace layout shapes history
    ↔ ((stops : List (List Bool)) × (have_stops layout stops ≡ false) × IsLegalWhere pace layout shapes stops history)
legal_where_none pace layout shapes history = (there, back)
  where
    there : IsLegal pace layout shapes history →
        (stops : List (List Bool)) × (have_stops layout stops ≡ false) × IsLegalWhere pace layout shapes stops history
    there legal =
        let are = ArePeriodsWhere-nobody pace layout history legal.scheduled.periods in (
          are.0,
          are.1,
          record {
            lawful = legal.lawful;
            periods = are.2;
            ends = legal.scheduled.ends;
            over = legal.scheduled.over;
          },
        )

    back : (stops : List (List Bool)) × (have_stops layout stops ≡ false) × IsLegalWhere pace layout shapes stops history →
        IsLegal pace layout shapes history
    back found = record {
      lawful = found.2.lawful;
      scheduled = record {
        periods = ArePeriods-where pace layout found.0 history found.1 found.2.periods;
        ends = found.2.ends;
        over = found.2.over;
      };
    }

-- A history of periods with some stops was opened for one more part, in which some stopped early, and then came a whole
-- freeze: it is periods again, with those stops besides.
pub periods_go_on_where : (pace : Pace) (layout : Layout) (stops : List (List Bool)) (early : List Bool) (before part after : List Event) →
    ArePeriodsWhere pace layout stops before → is_over layout before ≡ false → AllPass (λ event. is_of_part event.entry) part →
    (marks_after layout (opened pace layout before) ≡ true → AllPass (λ event. is_call event.entry) part) →
    TakenAreSwept part → SweptWereTaken part →
    ((who : ℕ) → who < layout.mutators → IsShareWhere (next_run pace layout before) (retry_of who before)
    ((state_after layout (opened pace layout before ++ part)).active who) (get_or early who false) (calls_of who part)) →
    HasFrozenWhole pace layout (next_run pace layout before) (opened pace layout before ++ part) after
    (is_forced layout (opened pace layout before) part) →
    ArePeriodsWhere pace layout (stops ++ early ∷ []) after
periods_go_on_where pace layout stops early before part after are goes_on entries calls taken swept_taken shares frozen =
    subst (ArePeriodsWhere pace layout (stops ++ early ∷ [])) (sym frozen.entered)
    (where_early.one_more stops early before (record { part = part; freeze = frozen.events }) are (record {
      goes_on = goes_on;
      entries = entries;
      calls = calls;
      taken = taken;
      swept_taken = swept_taken;
      shares = shares;
      freeze = IsFreeze-by pace layout (opened pace layout before ++ part) (next_run pace layout before)
          (is_forced layout (opened pace layout before) part) frozen.events frozen.freezes;
      swept = λ forced. subst (IsSwept layout) frozen.entered (frozen.clean forced);
    }))
