-- How what a recorder knows grows by one entry.
use Rattle.std.proofs.Common.{ℕ, ◌≡◌, ◌+◌, refl, sym, ◌∙◌, ap, subst, List, [], ◌∷◌, ◌++◌, add-zero, zero, suc, Bool, true, false, drop}
use Rattle.std.specs.Prelude.{Option, if◌then◌else◌, not, ◌&&◌}
use Rattle.std.proofs.lemmas.Bool.{and_from, and_parts}
use Rattle.std.proofs.lemmas.List.Folds.{list_all-append}
use Rattle.std.specs.List.{list_all}
use Rattle.tide_model.proofs.DeadLaws.{TakenAreSwept-none}
use Rattle.tide_model.specs.Since.{is_taken, since}
use Rattle.tide_model.specs.declared.op.Op.{Op}
use Rattle.tide_model.specs.declared.op.Reply.{Reply}
use Rattle.tide_model.specs.declared.op.Reply.TheVariants.{Refused}
use Rattle.tide_model.specs.declared.op.Refusal.TheVariants.{Full}
use Rattle.tide_model.specs.declared.entry.Entry.TheVariants.{Open}
use Rattle.tide_model.specs.declared.entry.Event.{Event}
use Rattle.tide_model.specs.Answer.{IsAnswer}
use Rattle.tide_model.specs.Applied.{after_call}
use Rattle.tide_model.specs.Cycle.{HasDead, dead_cell, dead_array, begin_count, IsSwept}
use Rattle.tide_model.specs.History.{after_event, is_begin, is_open, moment_after_last, plain, state_after}
use Rattle.tide_model.specs.Lawful.{IsLawful, Stands}
use Rattle.tide_model.specs.Layout.{Layout, IsBlockOf}
use Rattle.tide_model.specs.Periods.{EndsInTime, open_count}
use Rattle.tide_model.specs.Room.{IsFullBlock, StandsRefused}
use Rattle.tide_model.specs.Each.{Each}
use Rattle.tide_model.specs.State.{State}
use Rattle.tide_model.proofs.Histories.{IsLawful-push, push_cases, state_after-push}
use Rattle.tide_model.proofs.SinceLaws.{count-push}
use Rattle.tide_periods.specs.Store.{Setting, blocks_in}
use Rattle.tide_report.specs.Ends.{TellsEnds}
use Rattle.tide_report.specs.Reports.{Reported}
use Rattle.tide_report.proofs.EndLaws.{TellsEnds-other, TellsEnds-part}
use Rattle.tide_periods.specs.Recorded.{IsSettled, MadeCall, MayAsk, OpenedPart, Recorded, StandsIdle, TookNone}
use Rattle.tide_model.proofs.PhaseLaws.{phase_after-call}
use Rattle.tide_model.proofs.Windows.{StandsFull-now}
use Rattle.tide_model.proofs.CallKeeps.{HasFewClaims, HasFewClaims-call, HasNoNewDead, HasNoNewDead-call}
use Rattle.tide_model.proofs.OwnCalls.{called}

-- what contracts see of a store and of its history
abbrev pub recorded_of : Setting → State → List Event → ℕ → ℕ → ℕ → Recorded
recorded_of setting state history cycles parts blocks = record {
  setting = setting;
  state = state;
  history = history;
  cycles = cycles;
  parts = parts;
  blocks = blocks;
}

-- nothing is dead where nothing dead is new
IsSwept-grown : (layout : Layout) (one other : State) → HasNoNewDead one other → ((block : ℕ) → HasDead layout one block → ⊥) → (block : ℕ) → HasDead layout other block → ⊥
IsSwept-grown layout one other none clean block (dead_cell cell within at is) = clean block (dead_cell cell within at (none.cells cell is))
IsSwept-grown layout one other none clean block (dead_array array within at is) = clean block (dead_array array within at (none.arrays array is))

-- an entry that takes no block
pub TookNone-push : (history : List Event) (event : Event) → is_taken event.entry ≡ false → TookNone history → TookNone (history ++ event ∷ [])
TookNone-push history event takes_none untaken =
    list_all-append (λ (e : Event). not (is_taken e.entry)) history (event ∷ [])
    ∙ and_from (list_all (λ (e : Event). not (is_taken e.entry)) history) (not (is_taken event.entry) && true) untaken
    (ap (λ (b : Bool). not b && true) takes_none)

-- what holds of all events holds of the last ones
drop_all : (test : Event → Bool) (n : ℕ) (events : List Event) → list_all test events ≡ true → list_all test (drop n events) ≡ true
drop_all test zero events all = all
drop_all test (suc n) [] all = refl
drop_all test (suc n) (event ∷ events) all = drop_all test n events (and_parts (test event) (list_all test events) all).1

-- where nothing is dead and no block was taken, a refusal for room stands if each block of the class is full
pub StandsRefused-settled : (layout : Layout) (history : List Event) (who class : ℕ) → IsSwept layout history → TookNone history →
    ((block : ℕ) → IsBlockOf layout class block → IsFullBlock layout (state_after layout history) block) →
    StandsRefused layout history who class
StandsRefused-settled layout history who class swept untaken full = record {
  full = StandsFull-now layout history who class full (λ block of has. absurd (swept block has));
  alone = λ other_none. TakenAreSwept-none (since is_open history)
      (drop_all (λ e. not (is_taken e.entry)) (moment_after_last (λ e. is_open e.entry) history) history untaken);
}

-- one entry more
pub IsSettled-event : (old new : Recorded) (event : Event) → IsSettled old → new.setting ≡ old.setting → new.history ≡ old.history ++ event ∷ [] →
    new.state ≡ after_event old.setting.layout old.state event → new.cycles ≡ old.cycles + (if is_begin event.entry then 1 else 0) → new.parts ≡ old.parts + (if is_open event.entry then 1 else 0) →
    new.blocks ≡ old.blocks → Stands old.setting.layout old.setting.shapes old.history event → EndsInTime old.setting.layout old.history event →
    HasFewClaims new.state → IsSettled new
IsSettled-event old new event recorded same history state cycles parts blocks stands ends few = record {
  lawful = subst (λ (s : Setting). IsLawful s.layout s.shapes new.history) (sym same)
      (subst (IsLawful layout old.setting.shapes) (sym history) (IsLawful-push layout old.setting.shapes old.history event recorded.lawful stands));
  ends = subst (λ (s : Setting). Each (EndsInTime s.layout) new.history) (sym same)
      (subst (Each (EndsInTime layout)) (sym history) (push_cases (EndsInTime layout) old.history event recorded.ends ends));
  leaves = leaves;
  begun = ap begin_count history ∙ count-push (λ e. is_begin e.entry) old.history event ∙ ap (λ (n : ℕ). n + (if is_begin event.entry then 1 else 0)) recorded.begun ∙ sym cycles;
  opens = ap open_count history ∙ count-push (λ e. is_open e.entry) old.history event ∙ ap (λ (n : ℕ). n + (if is_open event.entry then 1 else 0)) recorded.opens ∙ sym parts;
  few = few;
  blocks = blocks ∙ recorded.blocks ∙ ap blocks_in (sym same);
}
  where
    layout : Layout
    layout = old.setting.layout

    leaves_here : state_after layout new.history ≡ new.state
    leaves_here = ap (state_after layout) history ∙ state_after-push layout old.history event ∙ ap (λ (s : State). after_event layout s event) recorded.leaves ∙ sym state

    leaves : state_after new.setting.layout new.history ≡ new.state
    leaves = ap (λ (s : Setting). state_after s.layout new.history) same ∙ leaves_here

-- a call was made and recorded, where nothing is dead and no block was taken
pub MadeCall-did : (old new : Recorded) (who : ℕ) (op : Op) (reply : Reply) (took : Option ℕ) → IsSettled old →
    ((block : ℕ) → HasDead old.setting.layout old.state block → ⊥) → TookNone old.history → MayAsk old who op →
    IsAnswer old.setting.layout old.setting.shapes old.state who op reply took → new.state ≡ after_call old.state who op reply took →
    ((class : ℕ) → reply ≡ Refused (Full class) → (block : ℕ) → IsBlockOf old.setting.layout class block → IsFullBlock old.setting.layout old.state block) →
    new.setting ≡ old.setting → new.history ≡ old.history ++ called who op reply took ∷ [] → new.cycles ≡ old.cycles → new.parts ≡ old.parts → new.blocks ≡ old.blocks →
    MadeCall old new who op reply
MadeCall-did old new who op reply took recorded clean untaken may answers state room same history cycles parts blocks = record {
  settled = IsSettled-event old new (called who op reply took) recorded same history state (cycles ∙ sym (add-zero old.cycles)) (parts ∙ sym (add-zero old.parts)) blocks (record {
    is_mutator = may.is_mutator;
    is_active = ap (λ (s : State). s.active who) recorded.leaves ∙ may.is_active;
    fits = may.fits;
    answers = subst (λ (s : State). IsAnswer old.setting.layout old.setting.shapes s who op reply took) (sym recorded.leaves) answers;
    room = λ class is. StandsRefused-settled old.setting.layout old.history who class
        (subst (λ (s : State). (block : ℕ) → HasDead old.setting.layout s block → ⊥) (sym recorded.leaves) clean) untaken
        (λ block of_class. subst (λ (s : State). IsFullBlock old.setting.layout s block) (sym recorded.leaves) (room class is block of_class));
  })
      (record { kept = λ cycle freed is. absurd (cc) })
      (subst HasFewClaims (sym state) (HasFewClaims-call old.setting.layout old.setting.shapes old.state who op reply took recorded.few answers));
  same = same;
  counts = record { cycles = cycles; parts = parts };
  took = took;
  answers = answers;
  history = history;
}

-- a part was opened and recorded
pub OpenedPart-did : (old new : Recorded) (run number : ℕ) → IsSettled old → number ≡ old.parts + 1 → new.state ≡ old.state → new.setting ≡ old.setting →
    new.history ≡ old.history ++ plain (Open number run) ∷ [] → new.cycles ≡ old.cycles → new.parts ≡ old.parts + 1 → new.blocks ≡ old.blocks → OpenedPart old new run
OpenedPart-did old new run number recorded numbered state same history cycles parts blocks = record {
  settled = IsSettled-event old new (plain (Open number run)) recorded same history state (cycles ∙ sym (add-zero old.cycles)) parts blocks refl
      (record { kept = λ cycle freed is. absurd (cc) }) (subst HasFewClaims (sym state) recorded.few);
  same = same;
  state = state;
  cycles = cycles;
  parts = parts;
  history = history ∙ ap (λ (n : ℕ). old.history ++ plain (Open n run) ∷ []) (numbered ∙ ap (λ (n : ℕ). n + 1) (sym recorded.opens));
}

-- a call, or an opened part, leaves what holds beside what is recorded
pub StandsIdle-called : (layout layout_now : Layout) (state state_now : State) (history more : List Event) (report : Reported) (who : ℕ) (op : Op) (reply : Reply) (took : Option ℕ) →
    StandsIdle layout state history report → layout_now ≡ layout → state_now ≡ after_call state who op reply took →
    more ≡ history ++ called who op reply took ∷ [] → StandsIdle layout_now state_now more report
StandsIdle-called layout layout_now state state_now history more report who op reply took stands same is is_more = record {
  rests = ap (λ (s : State). s.phase) is ∙ phase_after-call state who op reply took ∙ stands.rests;
  clean = subst (λ (l : Layout). (block : ℕ) → HasDead l state_now block → ⊥) (sym same)
      (subst (λ (s : State). (block : ℕ) → HasDead layout s block → ⊥) (sym is)
      (IsSwept-grown layout state (after_call state who op reply took) (HasNoNewDead-call state who op reply took) stands.clean));
  untaken = subst TookNone (sym is_more) (TookNone-push history (called who op reply took) refl stands.untaken);
  told = subst (λ (l : Layout). TellsEnds l more report) (sym same)
      (subst (λ (h : List Event). TellsEnds layout h report) (sym is_more)
      (TellsEnds-part layout history (called who op reply took ∷ []) report refl stands.told));
}

pub StandsIdle-opened : (layout : Layout) (state : State) (history more : List Event) (report : Reported) (number run : ℕ) →
    StandsIdle layout state history report → more ≡ history ++ plain (Open number run) ∷ [] → StandsIdle layout state more report
StandsIdle-opened layout state history more report number run stands is_more = record {
  rests = stands.rests;
  clean = stands.clean;
  untaken = subst TookNone (sym is_more) (TookNone-push history (plain (Open number run)) refl stands.untaken);
  told = subst (λ (h : List Event). TellsEnds layout h report) (sym is_more)
      (TellsEnds-other layout history (Open number run) report refl stands.told);
}
