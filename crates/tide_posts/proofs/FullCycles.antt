-- Behind each call that ends its mutator's share a full cycle runs: the freeze after its part is forced.
use Rattle.std.proofs.Common.{ℕ, ◌≡◌, ◌+◌, ◌<◌, refl, sym, ◌∙◌, ap, subst, arith, Bool, true, false, true≢false, List, [], ◌∷◌, ◌++◌, append_assoc, length, inl, inr}
use Rattle.std.proofs.lemmas.Bool.{cases_Bool}
use Rattle.std.proofs.lemmas.List.{append_cancel_left}
use Rattle.std.specs.Prelude.{◌||◌, Option, Some, slice_get, take}
use Rattle.tide_model.proofs.Cycles.{take-all}
use Rattle.tide_model.proofs.Histories.{calls_of-append, take-append-short}
use Rattle.tide_model.proofs.NumberLaws.{any_below-false}
use Rattle.tide_model.proofs.OwnCalls.{called, calls_of-called, retry_of-events}
use Rattle.tide_model.proofs.PeriodLaws.{has_ended-push, marks_of-append, open_count-prefix}
use Rattle.tide_model.proofs.Prefixes.{prefix_before, prefix_of_prefix}
use Rattle.tide_model.proofs.SinceLaws.{count-push}
use Rattle.tide_model.specs.Each.{Each}
use Rattle.tide_model.specs.Freeze.{IsFreeze, marks_of}
use Rattle.tide_model.specs.History.{is_open, plain}
use Rattle.tide_model.specs.Layout.{Layout}
use Rattle.tide_model.specs.Numbers.{any_below}
use Rattle.tide_model.specs.Pace.{Pace}
use Rattle.tide_model.specs.Periods.{Period, after_part, after_period, is_forced, is_over, next_run, open_count, opened}
use Rattle.tide_model.specs.Prefix.{IsPrefix, prefix_refl, prefix_trans}
use Rattle.tide_model.specs.Script.{calls_of, retry_after_all, retry_of}
use Rattle.tide_model.specs.Share.{HasCallLeft, ends_share, has_ended}
use Rattle.tide_model.specs.Since.{is_call}
use Rattle.tide_model.specs.declared.entry.Entry.TheVariants.{Open}
use Rattle.tide_model.specs.declared.entry.Event.{Event}
use Rattle.tide_model.specs.declared.op.Op.{Op}
use Rattle.tide_model.specs.declared.op.Reply.{Reply}
use Rattle.tide_posts.proofs.ForcedCycles.{forced_cycle, has_no_call, no_calls, no_calls-freeze}
use Rattle.tide_posts.specs.FullCycles.{RanFullCycle}
use Rattle.tide_posts.specs.Schedule.{ArePeriodsWhere, OpensLater, StandsPeriodWhere, no_period, one_more}

get_at : {X : Type 0} (xs : List X) (x : X) (rest : List X) → slice_get (xs ++ x ∷ rest) (length xs) ≡ Some x
get_at [] x rest = refl
get_at (y ∷ xs) x rest = get_at xs x rest

-- of a mutator's calls in a part, one that ends its share is the last
last_ends : (run : ℕ) (retry : Option Op) (calls more : List (Op × Reply)) (call : Op × Reply) →
    Each (HasCallLeft run retry) (calls ++ call ∷ more) → ends_share (retry_after_all retry calls) call ≡ true →
    has_ended retry (calls ++ call ∷ more) ≡ true
last_ends run retry calls [] call each ends = has_ended-push false retry calls call ∙ ends
last_ends run retry calls (next ∷ more) call each ends =
    absurd (true≢false (sym (has_ended-push false retry calls call ∙ ends) ∙ goes_on))
  where
    so_far : List (Op × Reply)
    so_far = calls ++ call ∷ []

    stands : HasCallLeft run retry (take (length so_far) (so_far ++ next ∷ more)) next
    stands = subst (Each (HasCallLeft run retry)) (sym (append_assoc calls (call ∷ []) (next ∷ more))) each (length so_far)
        next (get_at so_far next more)

    goes_on : has_ended retry so_far ≡ false
    goes_on = ap (has_ended retry)
        (sym (take-append-short so_far (next ∷ more) (length so_far) (omega arith) ∙ take-all so_far)) ∙ stands.goes_on

any_there : (test : ℕ → Bool) (bound n : ℕ) → test n ≡ true → n < bound → any_below test bound ≡ true
any_there test bound n passes below = elim (cases_Bool (any_below test bound)) [
  | inl is ↦ is
  | inr none ↦ absurd (true≢false (sym passes ∙ any_below-false test bound n none below))
]

-- whether a history ends with a call
abbrev ends_with_call : List Event → Bool
ends_with_call [] = false
ends_with_call (event ∷ []) = is_call event.entry
ends_with_call (event ∷ (next ∷ events)) = ends_with_call (next ∷ events)

ends_with_call-push : (xs : List Event) (x : Event) → ends_with_call (xs ++ x ∷ []) ≡ is_call x.entry
ends_with_call-push [] x = refl
ends_with_call-push (y ∷ []) x = refl
ends_with_call-push (y ∷ (z ∷ xs)) x = ends_with_call-push (z ∷ xs) x

-- A mutator makes a call that ends its share. Below, `before` is the history up to it.
module _ (pace : Pace) (layout : Layout) (before : List Event) (who : ℕ) (op : Op) (reply : Reply) (took : Option ℕ)
    (below : who < layout.mutators) (ends : ends_share (retry_of who before) (op, reply) ≡ true) where
  abbrev call : Event
  call = called who op reply took

  abbrev made : List Event
  made = before ++ call ∷ []

  module _ (early : List Bool) (earlier : List Event) (period : Period)
      (stands : StandsPeriodWhere pace layout early earlier period) where
    abbrev start : List Event
    start = opened pace layout earlier

    abbrev part_over : List Event
    part_over = after_part pace layout earlier period

    abbrev whole : List Event
    whole = after_period pace layout earlier period

    -- where it stands in the part of a period, the freeze behind that is forced
    in_part : (first later : List Event) → before ≡ start ++ first → period.part ≡ first ++ call ∷ later →
        RanFullCycle part_over whole
    in_part first later here is = forced_cycle pace layout part_over period.freeze run
        (subst (λ (b : Bool). IsFreeze pace layout part_over run b (marks_of period.freeze)) forced stands.freeze)
      where
        run : ℕ
        run = next_run pace layout earlier

        calls : calls_of who period.part ≡ calls_of who first ++ (op, reply) ∷ calls_of who later
        calls = ap (calls_of who) is ∙ calls_of-append who first (call ∷ later)
            ∙ ap (λ (more : List (Op × Reply)). calls_of who first ++ more) (calls_of-append who (call ∷ []) later
            ∙ ap (λ (one : List (Op × Reply)). one ++ calls_of who later) (calls_of-called who op reply took))

        still : retry_of who start ≡ retry_of who earlier
        still = retry_of-events who earlier (plain (Open (open_count earlier + 1) run) ∷ [])

        pending : retry_of who before ≡ retry_after_all (retry_of who earlier) (calls_of who first)
        pending = ap (retry_of who) here ∙ retry_of-events who start first
            ∙ ap (λ (r : Option Op). retry_after_all r (calls_of who first)) still

        ended : has_ended (retry_of who start) (calls_of who period.part) ≡ true
        ended = ap (λ (r : Option Op). has_ended r (calls_of who period.part)) still
            ∙ ap (has_ended (retry_of who earlier)) calls
            ∙ last_ends run (retry_of who earlier) (calls_of who first) (calls_of who later) (op, reply)
            (subst (Each (HasCallLeft run (retry_of who earlier))) calls (stands.shares who below).each)
            (ap (λ (r : Option Op). ends_share r (op, reply)) (sym pending) ∙ ends)

        forced : is_forced layout start period.part ≡ true
        forced = ap (λ (b : Bool). b || is_over layout (start ++ period.part))
            (any_there (λ w. has_ended (retry_of w start) (calls_of w period.part)) layout.mutators who ended below)

    is_no_opening : (xs : List Event) (number run : ℕ) → made ≡ xs ++ plain (Open number run) ∷ [] → ⊥
    is_no_opening xs number run same = true≢false (sym (ends_with_call-push before call)
        ∙ ap ends_with_call same ∙ ends_with_call-push xs (plain (Open number run)))

    in_freeze : (first later : List Event) → period.freeze ≡ first ++ call ∷ later → ⊥
    in_freeze first later is = has_no_call (marks_of first) (marks_of later) who op reply
        (ap no_calls (sym (ap marks_of is ∙ marks_of-append first (call ∷ later)))
        ∙ no_calls-freeze pace layout part_over (next_run pace layout earlier) (is_forced layout start period.part)
        (marks_of period.freeze) stands.freeze)

    -- so where it stands in the history with one more period, a full cycle ran, if one did where it stands before that
    one_period : (IsPrefix made earlier → RanFullCycle made earlier) → IsPrefix made whole → RanFullCycle made whole
    one_period ran prefix = elim (prefix_of_prefix made part_over whole prefix (record { rest = period.freeze; joins = refl })) [
      | inl inside ↦ in_parts inside
      | inr around ↦ elim (prefix_before part_over before call around) [
        | inl less ↦ absurd (in_freeze less.rest prefix.rest (append_cancel_left part_over period.freeze
            (less.rest ++ call ∷ prefix.rest) (sym (split part_over whole less prefix))))
        | inr same ↦ in_parts (subst (λ (l : List Event). IsPrefix l part_over) same (prefix_refl part_over))
      ]
    ]
      where
        -- what is behind the call, from a beginning of what is before it on
        split : (xs ys : List Event) (less : IsPrefix xs before) (inside : IsPrefix made ys) →
            xs ++ (less.rest ++ call ∷ inside.rest) ≡ ys
        split xs ys less inside = sym (append_assoc xs less.rest (call ∷ inside.rest))
            ∙ ap (λ (l : List Event). l ++ call ∷ inside.rest) less.joins
            ∙ sym (append_assoc before (call ∷ []) inside.rest) ∙ inside.joins

        earlier_whole : IsPrefix earlier whole
        earlier_whole = prefix_trans earlier start whole (record { rest = _; joins = refl })
            (prefix_trans start part_over whole (record { rest = period.part; joins = refl })
            (record { rest = period.freeze; joins = refl }))

        longer : RanFullCycle made earlier → RanFullCycle made whole
        longer found = record {
          cycle = found.cycle;
          freed = found.freed;
          begin = found.begin;
          end = found.end;
          begins = found.begins;
          ends = found.ends;
          before = found.before;
          within = found.within;
          behind = found.behind;
          goes_on = found.goes_on;
          over = prefix_trans (found.within ++ found.end ∷ []) earlier whole found.over earlier_whole;
        }

        sooner : IsPrefix made part_over → RanFullCycle part_over whole → RanFullCycle made whole
        sooner inside found = record {
          cycle = found.cycle;
          freed = found.freed;
          begin = found.begin;
          end = found.end;
          begins = found.begins;
          ends = found.ends;
          before = found.before;
          within = found.within;
          behind = prefix_trans made part_over found.before inside found.behind;
          goes_on = found.goes_on;
          over = found.over;
        }

        before_start : IsPrefix made start → RanFullCycle made whole
        before_start inside = elim (prefix_before made earlier
            (plain (Open (open_count earlier + 1) (next_run pace layout earlier))) inside) [
              | inl less ↦ longer (ran less)
              | inr same ↦ absurd (is_no_opening earlier (open_count earlier + 1) (next_run pace layout earlier) same)
            ]

        in_parts : IsPrefix made part_over → RanFullCycle made whole
        in_parts inside = elim (prefix_of_prefix made start part_over inside (record { rest = period.part; joins = refl })) [
          | inl short ↦ before_start short
          | inr around ↦ elim (prefix_before start before call around) [
            | inl less ↦ sooner inside (in_part less.rest inside.rest (sym less.joins)
                (append_cancel_left start period.part (less.rest ++ call ∷ inside.rest)
                (sym (split start part_over less inside))))
            | inr same ↦ before_start (subst (λ (l : List Event). IsPrefix l start) same (prefix_refl start))
          ]
        ]

  full_cycle : (stops : List (List Bool)) (history : List Event) → ArePeriodsWhere pace layout stops history →
      IsPrefix made history → RanFullCycle made history
  full_cycle _ _ no_period prefix = absurd (none before prefix)
    where
      none : (xs : List Event) → IsPrefix (xs ++ call ∷ []) [] → ⊥
      none [] inside = let e = inside.joins in absurd (cc)
      none (x ∷ xs) inside = let e = inside.joins in absurd (cc)
  full_cycle _ _ (one_more stops early earlier period are stands) prefix =
      one_period early earlier period stands (full_cycle stops earlier are) prefix

-- Behind a call that asked for a cycle, or was refused for room a first time, a full cycle ran in each history of whole
-- periods that goes on with it.
pub full_cycle_ran : (pace : Pace) (layout : Layout) (stops : List (List Bool)) (history before : List Event) (who : ℕ)
    (op : Op) (reply : Reply) (took : Option ℕ) → ArePeriodsWhere pace layout stops history → who < layout.mutators →
    ends_share (retry_of who before) (op, reply) ≡ true → IsPrefix (before ++ called who op reply took ∷ []) history →
    RanFullCycle (before ++ called who op reply took ∷ []) history
full_cycle_ran pace layout stops history before who op reply took are below ends prefix =
    full_cycle pace layout before who op reply took below ends stops history are prefix

module _ (layout : Layout) (old new : List Event) (later : OpensLater layout old new) where
  -- so a full cycle ran where a later part is opened than the one in which such a call stands
  pub full_cycle_between : (before : List Event) (who : ℕ) (op : Op) (reply : Reply) (took : Option ℕ) → who < layout.mutators →
      ends_share (retry_of who before) (op, reply) ≡ true → old ≡ before ++ called who op reply took ∷ [] →
      RanFullCycle old new
  full_cycle_between before who op reply took below ends is =
      let found = subst (λ (l : List Event). RanFullCycle l later.before) (sym is)
      (full_cycle_ran later.pace layout later.stops later.before before who op reply took later.periods below ends
      (subst (λ (l : List Event). IsPrefix l later.before) is later.had)) in record {
        cycle = found.cycle;
        freed = found.freed;
        begin = found.begin;
        end = found.end;
        begins = found.begins;
        ends = found.ends;
        before = found.before;
        within = found.within;
        behind = found.behind;
        goes_on = found.goes_on;
        over = prefix_trans (found.within ++ found.end ∷ []) later.before new found.over
            (prefix_trans later.before (opened later.pace layout later.before) new (record { rest = _; joins = refl })
            later.opens);
      }

  -- the part has a higher number
  pub later_number : open_count old < open_count new
  later_number =
      let few = open_count-prefix old later.before later.had in
      let one = count-push (λ (e : Event). is_open e.entry) later.before
      (plain (Open (open_count later.before + 1) (next_run later.pace layout later.before))) in
      let more = open_count-prefix (opened later.pace layout later.before) new later.opens in
      omega (arith, few, one, more)

  -- and it is a later one in each history that goes on
  pub OpensLater-more : (longer : List Event) → IsPrefix new longer → OpensLater layout old longer
  OpensLater-more longer more = record {
    pace = later.pace;
    stops = later.stops;
    before = later.before;
    periods = later.periods;
    had = later.had;
    opens = prefix_trans (opened later.pace layout later.before) new longer later.opens more;
  }
