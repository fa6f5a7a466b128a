-- Each kind on slots, each of the barrier and the colour of a new cell keeps the wave.
use Rattle.std.proofs.Common.{ℕ, ◌≡◌, ◌<◌, refl, sym, ◌∙◌, ap, subst, Bool, true, false, Some, None, [], inl, inr}
use Rattle.std.proofs.lemmas.Bool.{cases_Bool}
use Rattle.std.specs.Int.{bit_at}
use Rattle.std.specs.Prelude.{if◌then◌else◌, slice_get, ◌==◌}
use Rattle.tide_words.specs.tide_layout.Limits.{IsWithinLimits}
use Rattle.tide_core.proofs.machine_laws.kinds.BornColours.{born_black, born_white}
use Rattle.tide_core.proofs.machine_laws.kinds.Regreying.{regrey, push_bit, load_colour}
use Rattle.tide_core.proofs.machine_laws.kinds.Searches.{load_free, lost}
use Rattle.tide_core.proofs.machine_laws.kinds.SeenCalls.{load_link}
use Rattle.tide_core.proofs.machine_laws.kinds.StoringLinks.{store_link}
use Rattle.tide_core.proofs.machine_laws.kinds.Takes.{take}
use Rattle.tide_core.proofs.machine_laws.steps.Loads.{load_nothing}
use Rattle.tide_core.specs.machine.Groups.{is_of_second_group}
use Rattle.tide_core.specs.machine.Kind.{Kind, LoadLink, StoreLink, LoadColour, Regrey, PushBit, StoreBorn, LoadFree, TakeFree}
use Rattle.tide_core.specs.machine.Machine.{IsAllowed, stepped}
use Rattle.tide_core.specs.machine.RunningWave.{RunningWave}
use Rattle.tide_core.specs.machine.World.{World, parties}
use Rattle.tide_core.specs.machine.kinds.LoadColour.{MayLoadColour}
use Rattle.tide_core.specs.machine.kinds.PushBit.{MayPushBit}
use Rattle.tide_core.specs.machine.kinds.Regrey.{MayRegrey}
use Rattle.tide_core.specs.machine.kinds.StoreBorn.{MayStoreBorn}
use Rattle.tide_core.specs.machine.kinds.StoreLink.{MayStoreLink}
use Rattle.tide_model.specs.Layout.{Layout, class_of, slots_of}
use Rattle.tide_model.specs.Refused.{ShapeLists}
use Rattle.tide_model.specs.declared.op.Op.{Op}
use Rattle.tide_model.specs.declared.op.Op.TheVariants.{Put}
use Rattle.tide_words.specs.declared.forms.colours.Colour.TheVariants.{Black, White}
use Rattle.tide_words.specs.marking.Marked.{base_cycle}
use Rattle.tide_words.specs.forms.ColourWord.{is_black_in, colour_word}
use Rattle.tide_words.specs.marking.Colours.{running_cycle, is_marking}
use Rattle.tide_words.specs.tide_layout.declared.region.Region.TheVariants as region

-- a slot is stored by Put
pub put : (layout : Layout) (shapes : ShapeLists) (w : World) (me : ℕ) → me < parties → RunningWave layout shapes w →
    (cell n word : ℕ) (o : Op) → MayStoreLink layout shapes w me cell n word (Some o) →
    RunningWave layout shapes (stepped layout shapes w me (StoreLink cell n word (Some o)))
put layout shapes w me inside wave cell n word (Put src m val) (here, fits, source, is, may) =
    subst (λ (k : ℕ). RunningWave layout shapes
    (stepped layout shapes w me (StoreLink cell k word (Some (Put src m val))))) here
    (store_link layout shapes w me inside wave may.runner.runs may.between.duty may.between.owed may.between.growth src
    m val cell word may.stands source is
    (subst (λ (k : ℕ). k < slots_of (class_of layout cell)) (sym here) fits))
put layout shapes w me inside wave cell n word _ none = absurd none

pub colour_loaded : (layout : Layout) (shapes : ShapeLists) (w : World) (me : ℕ) → me < parties →
    RunningWave layout shapes w →
    (cell : ℕ) → MayLoadColour layout w me cell →
    RunningWave layout shapes (stepped layout shapes w me (LoadColour cell))
colour_loaded layout shapes w me inside wave cell may =
    load_colour layout shapes w me inside wave may.runner.runs cell may.owed may.grown

pub regreyed_or_left : (layout : Layout) (shapes : ShapeLists) (w : World) (me : ℕ) → me < parties →
    RunningWave layout shapes w →
    (cell old cycle : ℕ) → MayRegrey layout w me cell old cycle →
    RunningWave layout shapes (stepped layout shapes w me (Regrey cell old cycle))
regreyed_or_left layout shapes w me inside wave cell old cycle may =
    subst (λ (c : ℕ). RunningWave layout shapes (stepped layout shapes w me (Regrey cell old c))) (sym may.in_cycle)
    (regrey layout shapes w me inside wave may.runner.runs cell old may.owed may.within
    (subst (λ (b : ℕ). is_black_in b old ≡ true) (wave.numbers.told me may.runner.runs).3 may.black))

pub bit_pushed_once : (layout : Layout) (shapes : ShapeLists) (w : World) (me : ℕ) → me < parties →
    RunningWave layout shapes w →
    (cell : ℕ) → MayPushBit layout w me cell → RunningWave layout shapes (stepped layout shapes w me (PushBit cell))
bit_pushed_once layout shapes w me inside wave cell may =
    push_bit layout shapes w me inside wave may.runner.runs cell may.owed

-- a new cell is coloured black while a cycle marks, and else white
pub born_coloured : (layout : Layout) (shapes : ShapeLists) (w : World) (me : ℕ) → me < parties →
    RunningWave layout shapes w →
    (cell word : ℕ) → MayStoreBorn layout w me cell word →
    RunningWave layout shapes (stepped layout shapes w me (StoreBorn cell word))
born_coloured layout shapes w me inside wave cell word may =
    subst (λ (x : ℕ). RunningWave layout shapes (stepped layout shapes w me (StoreBorn cell x)))
    (sym (may.is_word ∙ ap (λ (c : ℕ). colour_word c (if (w.part me).marks then Black else White)) told.1
    ∙ ap (λ (b : Bool). colour_word (running_cycle w.heap) (if b then Black else White)) told.0))
    (by (is_marking w.heap) refl)
  where
    told : ((w.part me).marks ≡ is_marking w.heap) × ((w.part me).cycle ≡ running_cycle w.heap) ×
        ((w.part me).begun ≡ w.heap region.Period 0) × ((w.part me).mark_version ≡ base_cycle w.heap)
    told = wave.numbers.told me may.runner.runs

    by : (marks : Bool) → is_marking w.heap ≡ marks →
        RunningWave layout shapes (stepped layout shapes w me
        (StoreBorn cell (colour_word (running_cycle w.heap) (if marks then Black else White))))
    by true marks = born_black layout shapes w me inside wave may.runner.runs cell may.owed marks
    by false idle = born_white layout shapes w me inside wave may.runner.runs cell may.owed idle

-- each of these kinds
pub second_group : (layout : Layout) (shapes : ShapeLists) → IsWithinLimits layout → slice_get shapes 0 ≡ Some [] →
    (w : World) (me : ℕ) → me < parties → RunningWave layout shapes w →
    (kind : Kind) → is_of_second_group kind ≡ true → IsAllowed layout shapes w me kind →
    RunningWave layout shapes (stepped layout shapes w me kind)
second_group layout shapes limits empty_shape w me inside wave (LoadLink cell n None) is may =
    load_nothing layout shapes w me wave region.Slots _
second_group layout shapes limits empty_shape w me inside wave (LoadLink cell n (Some o)) is may =
    load_link layout shapes w me inside wave cell n o may
second_group layout shapes limits empty_shape w me inside wave (StoreLink cell n word None) is may = absurd may
second_group layout shapes limits empty_shape w me inside wave (StoreLink cell n word (Some o)) is may =
    put layout shapes w me inside wave cell n word o may
second_group layout shapes limits empty_shape w me inside wave (LoadColour cell) is may =
    colour_loaded layout shapes w me inside wave cell may
second_group layout shapes limits empty_shape w me inside wave (Regrey cell old cycle) is may =
    regreyed_or_left layout shapes w me inside wave cell old cycle may
second_group layout shapes limits empty_shape w me inside wave (PushBit cell) is may =
    bit_pushed_once layout shapes w me inside wave cell may
second_group layout shapes limits empty_shape w me inside wave (LoadFree block) is may =
    load_free layout shapes w me inside wave may.0.runs block
second_group layout shapes limits empty_shape w me inside wave (TakeFree block k None) is may = absurd may
second_group layout shapes limits empty_shape w me inside wave (TakeFree block k (Some o)) is may =
    elim (cases_Bool (bit_at (w.heap region.Free block) k == 1)) [
      | inl set ↦ take layout shapes limits empty_shape w me inside wave block k may.2 may.3 o may set
      | inr clear ↦ lost layout shapes w me inside wave may.0.runs block k may.2 o clear
    ]
second_group layout shapes limits empty_shape w me inside wave (StoreBorn cell word) is may =
    born_coloured layout shapes w me inside wave cell word may
second_group layout shapes limits empty_shape w me inside wave _ is may = absurd (cc)
