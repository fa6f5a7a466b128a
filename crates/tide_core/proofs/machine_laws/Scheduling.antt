-- The wave holds wherever the machine may come, if each of the kinds that step keeps it.
use Rattle.std.proofs.Common.{ℕ, ◌≡◌, ◌<◌, Bool, true, inl, inr, [], Some}
use Rattle.std.proofs.lemmas.Bool.{or_cases}
use Rattle.std.specs.Prelude.{slice_get, ◌||◌}
use Rattle.tide_words.specs.tide_layout.Limits.{IsWithinLimits}
use Rattle.tide_core.proofs.machine_laws.freezes.Entering.{FrozenMachine-entered}
use Rattle.tide_core.proofs.machine_laws.freezes.Freezing.{FrozenMachine-first, FrozenMachine-running}
use Rattle.tide_core.proofs.machine_laws.freezes.OpeningParts.{RunningWave-opened}
use Rattle.tide_core.proofs.machine_laws.kinds.Claims.{claims_kept}
use Rattle.tide_core.proofs.machine_laws.kinds.FirstGroup.{first_group}
use Rattle.tide_core.proofs.machine_laws.kinds.PairGroup.{pairs_kept}
use Rattle.tide_core.proofs.machine_laws.kinds.PropertyGroup.{properties_kept}
use Rattle.tide_core.proofs.machine_laws.kinds.SecondGroup.{second_group}
use Rattle.tide_core.proofs.machine_laws.kinds.Sweeping.{sweeps_kept_wave}
use Rattle.tide_core.proofs.machine_laws.kinds.Visits.{visits_kept}
use Rattle.tide_core.specs.machine.Groups.{is_of_first_group, has_law, is_of_second_group, is_of_claims, is_of_visits, is_of_pairs, is_of_properties, is_of_sweeps}
use Rattle.tide_core.specs.machine.Kind.{Kind}
use Rattle.tide_core.specs.machine.Machine.{IsAllowed, stepped}
use Rattle.tide_core.specs.machine.RunningWave.{RunningWave}
use Rattle.tide_core.specs.machine.Schedule.{Mode, running, frozen, Comes, at_first, steps, freezes, enters, opens, WaveIn}
use Rattle.tide_core.specs.machine.World.{World, parties}
use Rattle.tide_model.specs.Lawful.{IsLawful}
use Rattle.tide_model.specs.Layout.{Layout}
use Rattle.tide_model.specs.Refused.{ShapeLists}

-- whoever steps when
pub whoever_steps : (layout : Layout) (shapes : ShapeLists) (test : Kind → Bool) →
    ((w : World) (me : ℕ) → me < parties → RunningWave layout shapes w → (kind : Kind) → test kind ≡ true →
    IsAllowed layout shapes w me kind → RunningWave layout shapes (stepped layout shapes w me kind)) →
    (mode : Mode) (w : World) → Comes layout shapes test mode w → WaveIn layout shapes mode w
whoever_steps layout shapes test keeps _ _ at_first = FrozenMachine-first layout shapes
whoever_steps layout shapes test keeps _ _ (steps w me kind came inside is may) =
    keeps w me inside (whoever_steps layout shapes test keeps running w came) kind is may
whoever_steps layout shapes test keeps _ _ (freezes w came stopped) =
    FrozenMachine-running layout shapes w (whoever_steps layout shapes test keeps running w came) stopped
whoever_steps layout shapes test keeps _ _ (enters w before after heap log came entry) =
    FrozenMachine-entered layout shapes w before after heap log
    (whoever_steps layout shapes test keeps (frozen before) w came) entry
whoever_steps layout shapes test keeps _ _ (opens w run came may) =
    RunningWave-opened layout shapes w run (whoever_steps layout shapes test keeps (frozen 0) w came) may

-- each step whose law is proved keeps the wave
pub step_keeps : (layout : Layout) (shapes : ShapeLists) → IsWithinLimits layout → slice_get shapes 0 ≡ Some [] →
    (w : World) (me : ℕ) → me < parties → RunningWave layout shapes w → (kind : Kind) → has_law kind ≡ true →
    IsAllowed layout shapes w me kind → RunningWave layout shapes (stepped layout shapes w me kind)
step_keeps layout shapes limits empty_shape w me inside wave kind is may =
    elim (or_cases (is_of_first_group kind) (is_of_second_group kind || (is_of_claims kind || (is_of_visits kind ||
    (is_of_pairs kind || (is_of_properties kind || is_of_sweeps kind))))) is) [
      | inl first ↦ first_group layout shapes w me inside wave kind first may
      | inr rest ↦ elim (or_cases (is_of_second_group kind) (is_of_claims kind || (is_of_visits kind ||
          (is_of_pairs kind || (is_of_properties kind || is_of_sweeps kind)))) rest) [
            | inl second ↦ second_group layout shapes limits empty_shape w me inside wave kind second may
            | inr more ↦ elim (or_cases (is_of_claims kind) (is_of_visits kind ||
                (is_of_pairs kind || (is_of_properties kind || is_of_sweeps kind))) more) [
                  | inl claims ↦ claims_kept layout shapes limits empty_shape w me inside wave kind claims may
                  | inr left ↦ elim (or_cases (is_of_visits kind) (is_of_pairs kind || (is_of_properties kind || is_of_sweeps kind)) left) [
                    | inl visits ↦ visits_kept layout shapes w me inside wave kind visits may
                    | inr more ↦ elim (or_cases (is_of_pairs kind) (is_of_properties kind || is_of_sweeps kind) more) [
                      | inl pairs ↦ pairs_kept layout shapes limits empty_shape w me inside wave kind pairs may
                      | inr last ↦ elim (or_cases (is_of_properties kind) (is_of_sweeps kind) last) [
                        | inl properties ↦
                            properties_kept layout shapes limits empty_shape w me inside wave kind properties may
                        | inr sweeps ↦ sweeps_kept_wave layout shapes w me inside wave kind sweeps may
                      ]
                    ]
                  ]
                ]
          ]
    ]

-- so the wave holds in all schedules of such steps
pub all_schedules : (layout : Layout) (shapes : ShapeLists) → IsWithinLimits layout → slice_get shapes 0 ≡ Some [] →
    (mode : Mode) (w : World) → Comes layout shapes has_law mode w → WaveIn layout shapes mode w
all_schedules layout shapes limits empty_shape =
    whoever_steps layout shapes has_law (step_keeps layout shapes limits empty_shape)

-- and the history is lawful
pub all_lawful : (layout : Layout) (shapes : ShapeLists) → IsWithinLimits layout → slice_get shapes 0 ≡ Some [] →
    (mode : Mode) (w : World) → Comes layout shapes has_law mode w → IsLawful layout shapes w.log
all_lawful layout shapes limits empty_shape running w came =
    (all_schedules layout shapes limits empty_shape running w came).lawful
all_lawful layout shapes limits empty_shape (frozen unentered) w came =
    (all_schedules layout shapes limits empty_shape (frozen unentered) w came).wave.lawful
