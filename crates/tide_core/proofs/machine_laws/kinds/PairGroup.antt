-- Each kind on groups and pairs keeps the wave.
use Rattle.std.proofs.Common.{ℕ, ◌≡◌, ◌<◌, refl, true, [], Some, None}
use Rattle.std.specs.Prelude.{slice_get}
use Rattle.tide_words.specs.tide_layout.Limits.{IsWithinLimits}
use Rattle.tide_words.specs.tide_layout.Slots.{index_of_slot}
use Rattle.tide_words.specs.tide_layout.declared.region.Region.TheVariants as region
use Rattle.tide_core.proofs.machine_laws.kinds.KnownLoads.{known_load}
use Rattle.tide_core.proofs.machine_laws.kinds.Pairs.{store_pair, see_pair}
use Rattle.tide_core.proofs.machine_laws.kinds.StoringGroups.{store_group}
use Rattle.tide_core.specs.machine.Groups.{is_of_pairs}
use Rattle.tide_core.specs.machine.Kind.{Kind, LoadPair, StorePair, StoreGroup}
use Rattle.tide_core.specs.machine.Machine.{IsAllowed, stepped}
use Rattle.tide_core.specs.machine.Owed.{own_pair}
use Rattle.tide_core.specs.machine.RunningWave.{RunningWave}
use Rattle.tide_core.specs.machine.World.{World, parties}
use Rattle.tide_model.specs.Layout.{Layout}
use Rattle.tide_model.specs.Refused.{ShapeLists}

pub pairs_kept : (layout : Layout) (shapes : ShapeLists) → IsWithinLimits layout → slice_get shapes 0 ≡ Some [] →
    (w : World) (me : ℕ) → me < parties → RunningWave layout shapes w →
    (kind : Kind) → is_of_pairs kind ≡ true → IsAllowed layout shapes w me kind →
    RunningWave layout shapes (stepped layout shapes w me kind)
pairs_kept layout shapes limits empty_shape w me inside wave (LoadPair table place None) is may =
    known_load layout shapes w me inside wave may.0.runs may.2 region.Slots (index_of_slot layout table place) refl
    (own_pair table place may.1.claimed may.1.is_one may.1.has)
pairs_kept layout shapes limits empty_shape w me inside wave (LoadPair table place (Some op)) is may =
    see_pair layout shapes limits empty_shape w me inside wave table place op may
pairs_kept layout shapes limits empty_shape w me inside wave (StorePair table place word None) is may = absurd may
pairs_kept layout shapes limits empty_shape w me inside wave (StorePair table place word (Some op)) is may =
    store_pair layout shapes limits empty_shape w me inside wave table place word op may
pairs_kept layout shapes limits empty_shape w me inside wave (StoreGroup cell word None) is may = absurd may
pairs_kept layout shapes limits empty_shape w me inside wave (StoreGroup cell word (Some op)) is may =
    store_group layout shapes limits empty_shape w me inside wave cell word op may
pairs_kept layout shapes limits empty_shape w me inside wave _ is may = absurd (cc)
