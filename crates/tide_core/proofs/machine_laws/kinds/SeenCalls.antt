-- A load that a call sees keeps the wave: what a register is owed is the value that was seen.
use Rattle.std.proofs.Common.{ℕ, ◌≡◌, ◌<◌, refl, sym, ◌∙◌, ap, subst, Option, Some, None, inl, inr}
use Rattle.std.proofs.lemmas.Bool.{cases_lt}
use Rattle.tide_words.specs.tide_layout.declared.region.Region.TheVariants as region
use Rattle.tide_core.proofs.machine_laws.kinds.LoadingSeen.{load_seen}
use Rattle.tide_core.proofs.machine_laws.steps.Loads.{load_same}
use Rattle.tide_core.specs.machine.Kind.{LoadStrong, LoadWeak, LoadLink}
use Rattle.tide_core.specs.machine.Machine.{found, stepped}
use Rattle.tide_core.specs.machine.RunningWave.{RunningWave}
use Rattle.tide_core.specs.machine.Scanning.{slot}
use Rattle.tide_core.specs.machine.Words.{value_of}
use Rattle.tide_core.specs.machine.World.{World, parties}
use Rattle.tide_core.specs.machine.kinds.LoadLink.{MayLoadLink}
use Rattle.tide_core.specs.machine.kinds.StoreRootWord.{MayLoadStrong, MayLoadWeak}
use Rattle.tide_model.specs.Answer.{IsAnswerUnless, IsGranted}
use Rattle.tide_model.specs.Applied.{slot_of}
use Rattle.tide_model.specs.History.{state_after}
use Rattle.tide_model.specs.Layout.{Layout, class_of, slots_of, cell_count}
use Rattle.tide_model.specs.References.{IsLive}
use Rattle.tide_model.specs.Refused.{refusal_of, ShapeLists}
use Rattle.tide_model.specs.State.{State, is_free}
use Rattle.tide_model.specs.declared.op.Op.{Op}
use Rattle.tide_model.specs.declared.op.Op.TheVariants.{Get, StrongGet, WeakGet}
use Rattle.tide_model.specs.declared.op.Refusal.{Refusal}
use Rattle.tide_model.specs.declared.op.Reply.TheVariants.{Seen}
use Rattle.tide_model.specs.declared.val.Val.{Val}
use Rattle.tide_words.proofs.heap_laws.ReadingLaws.{live_within}
use Rattle.tide_words.specs.forms.ValueWord.{HasU32}

-- a call that saw something met no refusal
pub seen_granted : (layout : Layout) (state : State) (who : ℕ) (op : Op) (value : Val) (took : Option ℕ)
    (refused : Option Refusal) →
    IsAnswerUnless refused layout state who op (Seen value) took → IsGranted layout state who op (Seen value) took
seen_granted layout state who op value took (Some refusal) (none, is) = absurd (cc)
seen_granted layout state who op value took None granted = granted

module _ (layout : Layout) (shapes : ShapeLists) (w : World) (me : ℕ) (inside : me < parties)
    (wave : RunningWave layout shapes w) where
  abbrev state : State
  state = state_after layout w.log

  pub load_strong : (handle : ℕ) (op : Op) → MayLoadStrong layout shapes w me handle (w.heap region.Strong handle)
      (Some op) →
      RunningWave layout shapes (stepped layout shapes w me (LoadStrong handle (Some op)))
  load_strong handle (StrongGet dst at) (here, may) = load_same layout shapes w.heap region.Strong handle _ _
      (load_seen layout shapes w me inside wave may.runner.runs may.between.duty may.between.owed may.between.growth
      (StrongGet dst at) dst
      (value_of (w.heap region.Strong handle)) may.stands (λ s. refl) may.stands.fits.0
      (subst HasU32 (sym may.stands.answers.1) (wave.words.reads.roots.strong at may.stands.fits.1).number)
      (λ p c apart h is. h.strong at (sym may.stands.answers.1 ∙ is)))
  load_strong handle _ none = absurd none

  pub load_weak : (handle : ℕ) (op : Op) → MayLoadWeak layout shapes w me handle (w.heap region.Weak handle) (Some op) →
      RunningWave layout shapes (stepped layout shapes w me (LoadWeak handle (Some op)))
  load_weak handle (WeakGet dst at) (here, may) = load_same layout shapes w.heap region.Weak handle _ _
      (load_seen layout shapes w me inside wave may.runner.runs may.between.duty may.between.owed may.between.growth
      (WeakGet dst at) dst
      (value_of (w.heap region.Weak handle)) may.stands (λ s. refl) may.stands.fits.0
      (subst HasU32 (sym may.stands.answers.1) (wave.words.reads.roots.weak at may.stands.fits.1).number)
      (λ p c apart h is. h.weak at (sym may.stands.answers.1 ∙ is)))
  load_weak handle _ none = absurd none

  pub load_link : (cell n : ℕ) (op : Op) →
      MayLoadLink layout shapes w me cell n (found layout w me (LoadLink cell n (Some op))) (Some op) →
      RunningWave layout shapes (stepped layout shapes w me (LoadLink cell n (Some op)))
  load_link cell n (Get dst src m) (here, source, may) = load_same layout shapes w.heap region.Slots _ _ _
      (load_seen layout shapes w me inside wave may.runner.runs may.between.duty may.between.owed may.between.growth
      (Get dst src m) dst
      value may.stands (λ s. refl) may.stands.fits.0 (subst HasU32 (sym is) number) (λ p c apart h at.
      h.linked cell (slot m) (alive, sym is ∙ at)))
    where
      value : Val
      value = value_of (found layout w me (LoadLink cell n (Some (Get dst src m))))

      alive : IsLive state cell
      alive = wave.refs.in_registers me src cell may.stands.is_active source

      is : value ≡ (state.cells cell).slots m
      is = (seen_granted layout state me (Get dst src m) value None (refusal_of layout shapes state me (Get dst src m))
          may.stands.answers).1
          ∙ ap (λ (v : Val). slot_of state v m) source

      within : cell < cell_count layout
      within = live_within layout shapes wave.words.settled state cell wave.words.reads alive

      number : HasU32 ((state.cells cell).slots m)
      number =
          let taken = (wave.words.reads.parts.cells cell within).taken (ap is_free alive) in
          elim (cases_lt m (slots_of (class_of layout cell))) [
            | inl below ↦ (taken.slots m below).number
            | inr past ↦ subst HasU32 (sym (taken.past_slots m past)) tt
          ]
  load_link cell n _ none = absurd none
