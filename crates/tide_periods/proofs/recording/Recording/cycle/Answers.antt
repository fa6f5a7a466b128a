-- Answers to the goals of recording::Recording::cycle.
use Rattle.std.proofs.Common.{ℕ, ◌∙◌, ◌+◌, ◌++◌, ap, refl, List, ◌∷◌, [], length, Bool, false, slice_index_or}
use Rattle.std.specs.Prelude.{map}
use Rattle.tide_model.specs.declared.entry.Entry.TheVariants.{Pause, End, Sweep}
use Rattle.tide_model.specs.declared.entry.Event.{Event}
use Rattle.tide_model.specs.Cycle.{live_count}
use Rattle.tide_model.specs.History.{plain}
use Rattle.tide_model.specs.Numbers.{numbers_where}
use Rattle.tide_report.specs.declared.report.CycleLine.{CycleLine}
use Rattle.tide_periods.specs.Recorded.{Recorded}
use Rattle.tide_periods.specs.Store.{Setting, blocks_in}
use Rattle.tide_periods.proofs.RecordedLaws.{recorded_of}
use Rattle.tide_periods.proofs.CycleLaws.{IsCollected, RanCycle-did}
use Rattle.tide_periods.proofs.recording.Recording.cycle.Goals as goal

pub returns : goal.returns
returns g c =
    let self = c.args.self.now in
    let store = c.collect.new.self in
    let old : Recorded = recorded_of (g.S.Store.setting self.store) (g.S.Store.state self.store) self.events.items self.cycles self.parts self.blocks in
    let new : Recorded = recorded_of (g.S.Store.setting store) (g.S.Store.state store) c.enter_sweeps.new.events.items (self.cycles + 1) self.parts self.blocks in
    let freed : List ℕ = c.in_ok-freed.freed.items in
    let kept = c.live-kept.result in
    let is_swept : ℕ → Bool = λ (block : ℕ). slice_index_or (g.S.Store.sweeps store) block false in
    let collected : IsCollected old.setting.layout old.state freed is_swept kept = record {
      is_freed = c.in_ok-freed.ensures.freed;
      within = c.in_ok-freed.ensures.within;
      swept = c.in_ok-freed.ensures.swept;
      is_kept = c.live-kept.ensures ∙ ap (λ (s : Setting). live_count s.layout new.state) c.collect.ensures.setting ∙ ap (live_count old.setting.layout) c.in_ok-freed.ensures.leaves;
    } in
    let sweeps : ℕ → List Event = λ (count : ℕ). map (λ (b : ℕ). plain (Sweep b)) (numbers_where is_swept count) in
    let line : List ℕ → CycleLine = λ (f : List ℕ). record { number = self.cycles + 1; kept = kept; first = length self.report.ids; freed = length f } in
    let did = RanCycle-did old new self.report c.push.new.self freed kept is_swept c.requires.settled c.requires.stands collected c.in_ok-freed.ensures.leaves c.collect.ensures.setting refl refl refl
    (c.in_ok-enter_sweeps.ensures
    ∙ ap (λ (n : ℕ). c.enter-3.new.events.items ++ sweeps n) c.requires.settled.blocks
    ∙ ap (λ (events : List Event). events ++ sweeps (blocks_in old.setting)) (c.in_ok-enter-3.ensures
    ∙ ap (λ (f : List ℕ). c.enter-2.new.events.items ++ plain (End (self.cycles + 1) f) ∷ []) c.new-freed.ensures
    ∙ ap (λ (events : List Event). events ++ plain (End (self.cycles + 1) freed) ∷ []) (c.in_ok-enter-2.ensures
    ∙ ap (λ (events : List Event). events ++ plain (Pause kept) ∷ []) c.in_ok-enter.ensures)))
    (c.in_ok-push.ensures.cycles ∙ ap (λ (f : List ℕ). self.report.cycles ++ line f ∷ []) c.as_slice.ensures.value)
    (c.in_ok-push.ensures.ids ∙ ap (λ (f : List ℕ). self.report.ids ++ f) c.as_slice.ensures.value) in
    record {
      ran = did.0;
      stands = did.1;
    }
