-- Each kind of the first group keeps the wave.
use Rattle.std.proofs.Common.{ℕ, ◌≡◌, ◌<◌, refl, sym, subst, true, false, Some, None, inl, inr}
use Rattle.tide_words.specs.tide_layout.declared.region.Region.TheVariants as region
use Rattle.tide_core.proofs.machine_laws.kinds.Activating.{begin}
use Rattle.tide_core.proofs.machine_laws.kinds.CallWords.{store_call_word}
use Rattle.tide_core.proofs.machine_laws.kinds.PayingRegisters.{pay_register}
use Rattle.tide_core.proofs.machine_laws.kinds.Refusals.{store_call}
use Rattle.tide_core.proofs.machine_laws.kinds.Resting.{rest_step, stop}
use Rattle.tide_core.proofs.machine_laws.kinds.SeenCalls.{load_strong, load_weak}
use Rattle.tide_core.proofs.machine_laws.kinds.StoringRoots.{store_register, store_strong, store_weak, retire}
use Rattle.tide_core.proofs.machine_laws.steps.Loads.{load_same, load_nothing}
use Rattle.tide_core.specs.machine.Groups.{is_of_first_group}
use Rattle.tide_core.specs.machine.Kind.{Kind, Split, Join, Activate, StoreStopped, Retire, LoadRegister, StoreRegister, LoadCall, StoreCall, LoadStrong, StoreStrong, LoadWeak, StoreWeak, Ticket, index_of_stopped}
use Rattle.tide_core.specs.machine.Machine.{IsAllowed, stepped}
use Rattle.tide_core.specs.machine.May.{Rests}
use Rattle.tide_core.specs.machine.RunningWave.{RunningWave}
use Rattle.tide_core.specs.machine.World.{World, parties}
use Rattle.tide_core.specs.machine.kinds.Activate.{MayActivate}
use Rattle.tide_core.specs.machine.kinds.Join.{MayJoin}
use Rattle.tide_core.specs.machine.kinds.Split.{MaySplit}
use Rattle.tide_core.specs.machine.kinds.StoreStopped.{MayStoreStopped, stopped_view}
use Rattle.tide_model.specs.Layout.{Layout}
use Rattle.tide_model.specs.Numbers.{put_at}
use Rattle.tide_model.specs.Refused.{ShapeLists}
use Rattle.tide_words.specs.heap.Heap.{write}

-- one that doesn't run rests
pub parked_rests : (layout : Layout) (shapes : ShapeLists) (w : World) (me : ℕ) → RunningWave layout shapes w →
    (w.part me).runs ≡ false → Rests (w.part me)
parked_rests layout shapes w me wave parked = record {
  held = wave.parked.held me parked;
  scan = wave.parked.scan me parked;
  between = record {
    owed = wave.parked.owed me parked;
    duty = wave.parked.duty me parked;
    growth = wave.parked.growth me parked;
    sweeping = wave.parked.sweeping me parked;
    calls = wave.parked.calls me parked;
  };
}

pub split : (layout : Layout) (shapes : ShapeLists) (w : World) (me : ℕ) → me < parties → RunningWave layout shapes w →
    MaySplit w me → RunningWave layout shapes (stepped layout shapes w me Split)
split layout shapes w me inside wave may =
    let v = w.part me in
    load_same layout shapes w.heap region.Period 0 _ w.log
    (rest_step layout shapes w.heap w.part w.log me inside wave (parked_rests layout shapes w me wave may.stopped)
    v.seen v.earlier v.told v.ticket v.ticket v.run v.cycle v.mark_version v.marks (inl refl))

pub join : (layout : Layout) (shapes : ShapeLists) (w : World) (me : ℕ) → me < parties → RunningWave layout shapes w →
    (t : Ticket) → MayJoin w me t → RunningWave layout shapes (stepped layout shapes w me (Join t))
join layout shapes w me inside wave t may =
    load_same layout shapes w.heap region.Period 0 _ w.log
    (rest_step layout shapes w.heap w.part w.log me inside wave (parked_rests layout shapes w me wave may.rests)
    t.seen (w.part me).seen t.told (w.part me).period t.period t.run t.cycle t.base t.marks (inr (may.told, may.own)))

pub activate : (layout : Layout) (shapes : ShapeLists) (w : World) (me : ℕ) → me < parties →
    RunningWave layout shapes w →
    MayActivate w me → RunningWave layout shapes (stepped layout shapes w me Activate)
activate layout shapes w me inside wave may =
    load_same layout shapes w.heap region.Period 0 _ w.log
    (begin layout shapes w me inside wave may.rests may.of_part may.marks may.cycle may.based)

pub store_stopped : (layout : Layout) (shapes : ShapeLists) (w : World) (me : ℕ) → me < parties →
    RunningWave layout shapes w →
    (period : ℕ) → MayStoreStopped layout w me period →
    RunningWave layout shapes (stepped layout shapes w me (StoreStopped period))
store_stopped layout shapes w me inside wave period may =
    subst (λ (n : ℕ). RunningWave layout shapes (record {
      heap = write w.heap region.Stopped (index_of_stopped layout me) n;
      part = put_at w.part me (stopped_view (w.part me));
      log = w.log;
    })) (sym may.of_part)
    (stop layout shapes w.heap w.part w.log me inside may.party wave may.runs may.rests (w.part me).ticket)

-- each kind of the first group
pub first_group : (layout : Layout) (shapes : ShapeLists) (w : World) (me : ℕ) → me < parties →
    RunningWave layout shapes w →
    (kind : Kind) → is_of_first_group kind ≡ true → IsAllowed layout shapes w me kind →
    RunningWave layout shapes (stepped layout shapes w me kind)
first_group layout shapes w me inside wave Split is may = split layout shapes w me inside wave may
first_group layout shapes w me inside wave (Join ticket) is may = join layout shapes w me inside wave ticket may
first_group layout shapes w me inside wave Activate is may = activate layout shapes w me inside wave may
first_group layout shapes w me inside wave (StoreStopped period) is may =
    store_stopped layout shapes w me inside wave period may
first_group layout shapes w me inside wave (Retire (Some o)) is may = retire layout shapes w me inside wave o may
first_group layout shapes w me inside wave (Retire None) is may = absurd may
first_group layout shapes w me inside wave (LoadRegister register) is may =
    load_nothing layout shapes w me wave region.Registers _
first_group layout shapes w me inside wave (StoreRegister register word None) is may =
    pay_register layout shapes w me inside wave may.0.runs register word may.1
first_group layout shapes w me inside wave (StoreRegister register word (Some o)) is may =
    store_register layout shapes w me inside wave register word o may
first_group layout shapes w me inside wave LoadCall is may = load_nothing layout shapes w me wave region.Call _
first_group layout shapes w me inside wave (StoreCall word None) is may =
    store_call_word layout shapes w me inside wave word may
first_group layout shapes w me inside wave (StoreCall word (Some o)) is may =
    store_call layout shapes w me inside wave word o may
first_group layout shapes w me inside wave (LoadStrong handle None) is may =
    load_nothing layout shapes w me wave region.Strong _
first_group layout shapes w me inside wave (LoadStrong handle (Some o)) is may =
    load_strong layout shapes w me inside wave handle o may
first_group layout shapes w me inside wave (StoreStrong handle word None) is may = absurd may
first_group layout shapes w me inside wave (StoreStrong handle word (Some o)) is may =
    store_strong layout shapes w me inside wave handle word o may
first_group layout shapes w me inside wave (LoadWeak handle None) is may =
    load_nothing layout shapes w me wave region.Weak _
first_group layout shapes w me inside wave (LoadWeak handle (Some o)) is may =
    load_weak layout shapes w me inside wave handle o may
first_group layout shapes w me inside wave (StoreWeak handle word None) is may = absurd may
first_group layout shapes w me inside wave (StoreWeak handle word (Some o)) is may =
    store_weak layout shapes w me inside wave handle word o may
first_group layout shapes w me inside wave _ is may = absurd (cc)
