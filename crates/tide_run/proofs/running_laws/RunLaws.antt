-- A run over periods is a run of its workload.
use Rattle.std.proofs.Common.{ℕ, ◌≡◌, ◌<◌, ◌≤◌, refl, sym, ◌∙◌, ap, subst, arith, List, Vec, Global, [], ◌∷◌, length, get_or}
use Rattle.std.proofs.lemmas.List.{length-map}
use Rattle.std.proofs.lemmas.List.Elements.{All-cons, All-get_or, All-head, All-nil, All-tail, All-weaker}
use Rattle.std.proofs.lemmas.Option.{slice_get_within, slice_get-get_or}
use Rattle.std.specs.Prelude.{All, is_some, map, slice_get, Some, true}
use Rattle.tide_model.specs.declared.op.Op.{Op}
use Rattle.tide_model.specs.declared.op.Op.TheVariants.{Alloc, Table, Get, Put, Move, Set, Drop, Claim, Release, Unclaim, Add, GetProp, SetProp, StrongSet, StrongGet, WeakSet, WeakGet, PairSet, PairGet, PairDel, Group, Collect, Retire}
use Rattle.tide_model.specs.declared.entry.Event.{Event}
use Rattle.tide_model.specs.Layout.{Layout}
use Rattle.tide_model.specs.Pace.{Pace}
use Rattle.tide_model.specs.Periods.{IsLegal}
use Rattle.tide_model.specs.Refused.{ShapeLists}
use Rattle.tide_model.specs.Whole.{IsWhole}
use Rattle.tide_periods.specs.declared.answered.Answered.{Answered}
use Rattle.tide_periods.specs.Asking.{IsAskable, IsAskedBy, of_script, asks_unclaim, asks_retire}
use Rattle.tide_sched.specs.Paces.{pace_of}
use Rattle.tide_periods.specs.Run.{HasRun}
use Rattle.tide_sched.specs.declared.pacing.Pacing.{Pacing}
use Rattle.tide_periods.specs.declared.run.Finished.{Finished}
use Rattle.tide_periods.specs.Store.{Setting}
use Rattle.tide_report.specs.Reports.{Reported}
use Rattle.tide_periods.specs.Answered.{pair_of}
use Rattle.tide_shape.specs.Shapes.{shapes_of_paths}
use Rattle.tide_threads.specs.tide_statistics.Statistics.{Logged, statistics_in}
use Rattle.tide_workload.specs.Words.{HasText, IsOperation, Settings, Work, limits_of, limits_with}
use Rattle.tide_run.specs.declared.running.outcome.Kept.{Kept}
use Rattle.tide_run.specs.running.Outcome.{HasLeft, IsOutcome, heap_of_kept, history_of}
use Rattle.tide_run.proofs.running_laws.Outsiders.{none_above}
use Rattle.tide_run.specs.running.Runs.{AreScripts, IsRunOf, Ran, layout_of_work, layout_with, pace_of_work, setting_of_work}

-- a workload's operation may be asked for
IsAskable-operation : (settings : Settings) (keys : List (List ℕ)) (mutators visitors : ℕ) (op : Op) → IsOperation (limits_with settings keys) op →
    IsAskable (layout_with settings mutators visitors) op
IsAskable-operation settings keys mutators visitors (Alloc dst class) is = record { fits = is; goes_on = refl }
IsAskable-operation settings keys mutators visitors (Table dst) is = record { fits = is; goes_on = refl }
IsAskable-operation settings keys mutators visitors (Get dst src slot) is = record { fits = (is.0, is.1); goes_on = refl }
IsAskable-operation settings keys mutators visitors (Put src slot val) is = record { fits = (is.0, is.2); goes_on = refl }
IsAskable-operation settings keys mutators visitors (Move dst src) is = record { fits = is; goes_on = refl }
IsAskable-operation settings keys mutators visitors (Set dst n) is = record { fits = is; goes_on = refl }
IsAskable-operation settings keys mutators visitors (Drop dst) is = record { fits = is; goes_on = refl }
IsAskable-operation settings keys mutators visitors (Claim src) is = record { fits = is; goes_on = refl }
IsAskable-operation settings keys mutators visitors (Release src) is = record { fits = is; goes_on = refl }
IsAskable-operation settings keys mutators visitors Unclaim is = record { fits = tt; goes_on = refl }
IsAskable-operation settings keys mutators visitors (Add src key val) is = record { fits = (is.0, is.2); goes_on = refl }
IsAskable-operation settings keys mutators visitors (GetProp dst src key) is = record { fits = (is.0, is.1); goes_on = refl }
IsAskable-operation settings keys mutators visitors (SetProp src key val) is = record { fits = (is.0, is.2); goes_on = refl }
IsAskable-operation settings keys mutators visitors (StrongSet at val) is = record { fits = is; goes_on = refl }
IsAskable-operation settings keys mutators visitors (StrongGet dst at) is = record { fits = is; goes_on = refl }
IsAskable-operation settings keys mutators visitors (WeakSet at val) is = record { fits = is; goes_on = refl }
IsAskable-operation settings keys mutators visitors (WeakGet dst at) is = record { fits = is; goes_on = refl }
IsAskable-operation settings keys mutators visitors (PairSet src key val) is = record { fits = is; goes_on = refl }
IsAskable-operation settings keys mutators visitors (PairGet dst src key) is = record { fits = is; goes_on = refl }
IsAskable-operation settings keys mutators visitors (PairDel src key) is = record { fits = is; goes_on = refl }
IsAskable-operation settings keys mutators visitors (Group src n) is = record { fits = is; goes_on = refl }
IsAskable-operation settings keys mutators visitors Collect is = record { fits = tt; goes_on = refl }
IsAskable-operation settings keys mutators visitors Retire is = absurd is

-- a workload's operation has a text
HasText-operation : (settings : Settings) (keys : List (List ℕ)) (op : Op) → IsOperation (limits_with settings keys) op → HasText keys op
HasText-operation settings keys (Alloc dst class) is = tt
HasText-operation settings keys (Table dst) is = tt
HasText-operation settings keys (Get dst src slot) is = tt
HasText-operation settings keys (Put src slot val) is = tt
HasText-operation settings keys (Move dst src) is = tt
HasText-operation settings keys (Set dst n) is = tt
HasText-operation settings keys (Drop dst) is = tt
HasText-operation settings keys (Claim src) is = tt
HasText-operation settings keys (Release src) is = tt
HasText-operation settings keys Unclaim is = tt
HasText-operation settings keys (Add src key val) is = is.1
HasText-operation settings keys (GetProp dst src key) is = is.2
HasText-operation settings keys (SetProp src key val) is = is.1
HasText-operation settings keys (StrongSet at val) is = tt
HasText-operation settings keys (StrongGet dst at) is = tt
HasText-operation settings keys (WeakSet at val) is = tt
HasText-operation settings keys (WeakGet dst at) is = tt
HasText-operation settings keys (PairSet src key val) is = tt
HasText-operation settings keys (PairGet dst src key) is = tt
HasText-operation settings keys (PairDel src key) is = tt
HasText-operation settings keys (Group src n) is = tt
HasText-operation settings keys Collect is = tt
HasText-operation settings keys Retire is = absurd is

-- the operations of all scripts may be asked for
pub AreAskable : (work : Work) (mutators visitors : ℕ) (scripts : List (List Op)) → All (All (IsOperation (limits_of work))) scripts →
    All (All (IsAskable (layout_with work.settings mutators visitors))) scripts
AreAskable work mutators visitors scripts within =
    All-weaker (All (IsOperation (limits_of work))) (All (IsAskable (layout_with work.settings mutators visitors)))
    (λ ops. All-weaker (IsOperation (limits_of work)) (IsAskable (layout_with work.settings mutators visitors)) (IsAskable-operation work.settings work.keys mutators visitors) ops) scripts within

-- what a mutator asks for has a text
HasText-asked : (keys : List (List ℕ)) (ops : List Op) (op : Op) → All (HasText keys) ops → IsAskedBy ops op → HasText keys op
HasText-asked keys ops op texts (of_script place op' is) =
    let within = slice_get_within ops place op' is in
    let both : Some (get_or ops place op') ≡ Some op' = sym (slice_get-get_or ops place op' within) ∙ is in
    let one : get_or ops place op' ≡ op' = cc in
    subst (HasText keys) one (texts place op' within)
HasText-asked keys ops op texts asks_unclaim = tt
HasText-asked keys ops op texts asks_retire = tt

-- what holds of each element once it is mapped
All-before : {X Y : Type 0} (f : X → Y) (P : Y → Type 0) (xs : List X) → All P (map f xs) → All (λ x. P (f x)) xs
All-before f P [] all = All-nil (λ x. P (f x))
All-before f P (x ∷ xs) all = All-cons (λ y. P (f y)) x xs (All-head P (f x) (map f xs) all) (All-before f P xs (All-tail P (f x) (map f xs) all))

-- what a run left is an outcome
pub IsOutcome-ran : (work : Work) (layout : Layout) (keys : List (List ℕ)) (setting : Setting) (pace : Pace) (scripts : List (List Op)) (kept : Kept) (report : Reported)
    (calls : List (List Answered)) (live : ℕ) (log : Logged) (deferred : ℕ) → HasRun setting pace scripts (history_of kept) report calls live → setting.layout ≡ layout → keys ≡ work.keys →
    length scripts ≡ layout.mutators → All (All (IsOperation (limits_of work))) scripts →
    (is_some (heap_of_kept kept) ≡ true → log.ended ≡ statistics_in (history_of kept)) →
    (layout.visitors ≡ 0 → deferred ≡ 0) → IsOutcome layout keys kept calls live report log deferred
IsOutcome-ran work layout keys setting pace scripts kept report calls live log deferred ran same names one_each within logged none_met =
    subst (λ (l : Layout). IsOutcome l keys kept calls live report log deferred) same (record {
      one_each = ran.one_each;
      calls_are = ran.calls_are;
      no_others = none_above setting.layout setting.shapes (history_of kept) ran.legal.lawful;
      texts = λ who own found.
          let here = slice_get_within calls who own found in
          let count = ran.one_each in
          let shorter = ap (λ (l : Layout). l.mutators) same in
          let below : who < length scripts = omega (arith, here, count, shorter, one_each) in
          let ops = get_or scripts who [] in
          let texts = subst (λ (k : List (List ℕ)). All (HasText k) ops) (sym names)
          (All-weaker (IsOperation (limits_of work)) (HasText work.keys) (HasText-operation work.settings work.keys) ops
          (All-get_or (All (IsOperation (limits_of work))) scripts who [] below within)) in
          let asked = subst (All (λ call. IsAskedBy ops call.0)) (sym (ran.calls_are who own found)) (ran.asked who ops (slice_get-get_or scripts who [] below)) in
          All-weaker (λ (call : Answered). IsAskedBy ops call.op) (λ call. HasText keys call.op) (λ call. HasText-asked keys ops call.op texts) own
          (All-before pair_of (λ call. IsAskedBy ops call.0) own asked);
      living = ran.living;
      told = ran.told;
      logged = logged;
      none_met = λ none. none_met (ap (λ (l : Layout). l.visitors) (sym same) ∙ none);
    })

-- what a run left is a run of the workload
pub IsRunOf-ran : (work : Work) (trigger visitors : ℕ) (result : Ran) (setting : Setting) (pace : Pace) (scripts : List (List Op)) (events : List Event) (report : Reported) (calls : List (List Answered)) (live : ℕ) →
    HasRun setting pace scripts events report calls live → pace ≡ pace_of_work work trigger → setting.layout ≡ layout_of_work work visitors → setting.shapes ≡ shapes_of_paths work.paths →
    scripts ≡ work.scripts → result.layout ≡ layout_of_work work visitors → result.keys ≡ work.keys → result.history ≡ events → IsRunOf work trigger visitors result
IsRunOf-ran work trigger visitors result setting pace scripts events report calls live ran paced same shaped own layout keys history = record {
  layout = layout;
  keys = keys;
  legal = subst (IsLegal (pace_of_work work trigger) (layout_of_work work visitors) (shapes_of_paths work.paths)) (sym history)
      (subst (λ (p : Pace). IsLegal p (layout_of_work work visitors) (shapes_of_paths work.paths) events) paced
      (subst (λ (l : Layout). IsLegal pace l (shapes_of_paths work.paths) events) same
      (subst (λ (s : ShapeLists). IsLegal pace setting.layout s events) shaped ran.legal)));
  whole = λ mutator ops found.
      subst (λ (h : List Event). IsWhole (layout_of_work work visitors) h mutator ops) (sym history)
      (subst (λ (l : Layout). IsWhole l events mutator ops) same
      (ran.whole mutator ops (ap (λ (lists : List (List Op)). slice_get lists mutator) own ∙ found)));
}

-- a workload has few scripts
pub few_of : (work : Work) (scripts : List (Vec Op Global)) → AreScripts work (map (λ ops. ops.items) scripts) → length scripts ≤ 16
few_of work scripts are =
    let count = sym (length-map scripts (λ (ops : Vec Op Global). ops.items)) ∙ ap length are.are in
    let few : length work.scripts ≤ 16 = are.few in omega (arith, count, few)

-- the numbers of a workload's periods
pace_of-work : (work : Work) (pacing : Pacing) → pacing.calls ≡ work.settings.period → pacing.visits ≡ work.settings.period →
    pacing.headroom ≡ work.settings.headroom → pace_of pacing ≡ pace_of_work work pacing.trigger
pace_of-work work pacing calls visits headroom =
    λ i. record { calls = calls i; visits = visits i; headroom = headroom i; trigger = pacing.trigger }

-- a run with a workload's numbers of a store of its layout and shapes is one of the workload
pub HasLeft-ran : (work : Work) (pacing : Pacing) (visitors : ℕ) (ran : Finished Kept) (setting : Setting) (scripts : List (List Op)) →
    HasRun setting (pace_of pacing) scripts (history_of ran.kept) ran.report (map (λ own. own.items) ran.calls.items) ran.live →
    setting ≡ setting_of_work work visitors → AreScripts work scripts → pacing.calls ≡ work.settings.period → pacing.visits ≡ work.settings.period →
    pacing.headroom ≡ work.settings.headroom → HasLeft work pacing.trigger visitors ran
HasLeft-ran work pacing visitors ran setting scripts has_run same are calls visits headroom =
    let Has : Setting → Pace → List (List Op) → Type 0 =
    λ (s : Setting) (p : Pace) (l : List (List Op)). HasRun s p l (history_of ran.kept) ran.report (map (λ own. own.items) ran.calls.items) ran.live in
    record {
      within = subst (All (All (IsOperation (limits_of work)))) are.are are.within;
      has_run = subst (λ (s : Setting). Has s (pace_of_work work pacing.trigger) work.scripts) same
          (subst (λ (p : Pace). Has setting p work.scripts) (pace_of-work work pacing calls visits headroom)
          (subst (λ (l : List (List Op)). Has setting (pace_of pacing) l) are.are has_run));
    }
