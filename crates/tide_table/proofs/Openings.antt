-- That a freeze leaves what the next opening asks.
use Rattle.std.proofs.Common.{ℕ, ◌≡◌, sym, ◌∙◌, subst, Bool, true, List}
use Rattle.std.proofs.lemmas.List.Sums.{AllPass-from_list_all}
use Rattle.std.specs.List.{list_all}
use Rattle.std.specs.Prelude.{Contains}
use Rattle.tide_heap.specs.tide_core.wave.FrozenWave.{FrozenWave}
use Rattle.tide_heap.proofs.tide_freeze.FrozenLaws.{marks-same}
use Rattle.tide_heap.proofs.tide_freeze.QuietLaws.{HasFrozen-quiet}
use Rattle.tide_heap.specs.tide_freeze.Freezing.{HasFrozen, SharesGreys}
use Rattle.tide_heap.specs.tide_freeze.Participants.{LeavesParticipants}
use Rattle.tide_heap.proofs.tide_core.machine_laws.freezes.RestingSweeps.{sweeps_rest}
use Rattle.tide_heap.specs.tide_core.machine.Frozen.{FrozenWith}
use Rattle.tide_heap.specs.tide_core.machine.points.Sweeps.{SweptAreTold, TakenAreClean}
use Rattle.tide_model.specs.History.{state_after}
use Rattle.tide_model.specs.Lawful.{IsLawful}
use Rattle.tide_model.specs.Layout.{Layout}
use Rattle.tide_model.specs.Pace.{Pace}
use Rattle.tide_model.specs.Periods.{next_run}
use Rattle.tide_model.specs.Refused.{ShapeLists}
use Rattle.tide_model.specs.Since.{is_of_freeze}
use Rattle.tide_model.specs.declared.entry.Event.{Event}
use Rattle.tide_table.specs.Openings.{MayFollow}
use Rattle.tide_heap.specs.tide_words.heap.Heap.{heap_of}

-- each entry of a freeze is one that it may have
all_of_freeze : (events : List Event) → list_all (λ e. is_of_freeze e.entry) events ≡ true → (event : Event) →
    Contains events event → is_of_freeze event.entry ≡ true
all_of_freeze events all event (k, below, is) = subst (λ (e : Event). is_of_freeze e.entry ≡ true) is
    (AllPass-from_list_all (λ e. is_of_freeze e.entry) events all k event below)

pub leads_to_opening : (pace : Pace) (layout : Layout) (shapes : ShapeLists) (words words_now : List ℕ)
    (here after : List Event) (unentered : ℕ) (is_forced : Bool) →
    FrozenWith layout shapes (heap_of layout words) here unentered →
    FrozenWave layout shapes (heap_of layout words_now) after → IsLawful layout shapes after →
    HasFrozen pace layout here after is_forced →
    LeavesParticipants layout (heap_of layout words) (heap_of layout words_now) →
    SharesGreys layout words_now after → MayFollow layout shapes words_now after (next_run pace layout after)
leads_to_opening pace layout shapes words words_now here after unentered is_forced f wave lawful has left shared =
    let swept = sweeps_rest layout shapes (heap_of layout words) (heap_of layout words_now) here has.events unentered f
    (subst (FrozenWave layout shapes (heap_of layout words_now)) has.entered wave)
    (subst (IsLawful layout shapes) has.entered lawful)
    (all_of_freeze has.events (HasFrozen-quiet pace layout here after is_forced has)) left.swept in
    record {
      wave = wave;
      swept = swept.0;
      told = subst (SweptAreTold layout (heap_of layout words_now)) (sym has.entered) swept.2;
      clean = subst (λ (h : List Event). TakenAreClean layout (heap_of layout words_now) (state_after layout h))
          (sym has.entered) swept.1;
      may = λ marks visitors. (
        has.calls,
        shared (marks-same layout shapes (heap_of layout words_now) after wave ∙ marks),
      );
    }
