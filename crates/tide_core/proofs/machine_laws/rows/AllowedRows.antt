-- Steps near to allowed ones, which are not allowed.
use Rattle.std.proofs.Common.{ap, arith, Some, None, ℕ, ◌≡◌, ◌∙◌, sym, refl, true, [], ◌∷◌}
use Rattle.tide_words.specs.tide_layout.declared.region.Region.TheVariants as region
use Rattle.tide_core.proofs.machine_laws.rows.BusyRow.{busy, loaded, taken, linked}
use Rattle.tide_core.proofs.machine_laws.steps.Lists.{in_one, nothing_in, is_in_one}
use Rattle.tide_core.specs.machine.Frozen.{newcomer}
use Rattle.tide_core.specs.machine.Kind.{StoreRegister, StoreStopped, Regrey, StoreBorn, StoreCall, StoreStrong, Blacken, LoadClaim, LoadArray, LoadAgain, Mark, UnBlacken, Publish, Nuke, StoreArray, StoreStructure}
use Rattle.tide_core.specs.machine.Machine.{IsAllowed}
use Rattle.tide_core.specs.machine.Owed.{owed_word}
use Rattle.tide_core.specs.machine.Scanning.{scan_of}
use Rattle.tide_core.specs.machine.World.{World}
use Rattle.tide_core.specs.declared.machine.view.Duty.{Duty}
use Rattle.tide_core.specs.declared.machine.view.Duty.TheVariants as duty
use Rattle.tide_core.specs.declared.machine.view.Growth.TheVariants as growth
use Rattle.tide_core.specs.declared.machine.view.Owed.{Owed}
use Rattle.tide_core.specs.declared.machine.view.Scan.{Scan}
use Rattle.tide_core.specs.declared.machine.view.View.{View}
use Rattle.tide_model.specs.Numbers.{put_at, is_among}
use Rattle.tide_model.specs.Refused.{no_shapes}
use Rattle.tide_model.specs.Rows.{small}
use Rattle.tide_model.specs.declared.op.Op.TheVariants.{Claim, Move}

-- a register's word that nobody owes
unowed-register : IsAllowed small no_shapes taken 0 (StoreRegister 0 6 None) → ⊥
unowed-register may =
    (let same = ap (λ (o : Owed). o.word)
    (in_one (owed_word region.Registers 0 2) (owed_word region.Registers 0 6) may.1) in
    absurd (omega (arith, same)))

-- a stop while a barrier is owed
owing-stop : IsAllowed small no_shapes busy 0 (StoreStopped 1) → ⊥
owing-stop may = (let none = may.rests.between.duty in absurd (cc))

-- a stop that tells another part than that of its ticket
other-stop : IsAllowed small no_shapes busy 0 (StoreStopped 2) → ⊥
other-stop may = (let part = may.of_part in absurd (omega (arith, part)))

-- a call in the midst of another
hasty-call : IsAllowed small no_shapes busy 0 (StoreRegister 1 2 (Some (Move 1 0))) → ⊥
hasty-call may = (let none = may.0.between.duty in absurd (cc))

-- a store of a handle that makes no call
silent-handle : IsAllowed small no_shapes busy 0 (StoreStrong 0 2 None) → ⊥
silent-handle may = may

-- a claim that is refused at a load, of a mutator that has room for it
roomy-claim : IsAllowed small no_shapes busy 0 (LoadClaim 0 (Some (Claim 0))) → ⊥
roomy-claim may = (let full = may.1 in absurd (omega (arith, full)))

-- a cell made grey before its colour was loaded
early-regrey : IsAllowed small no_shapes linked 0 (Regrey 0 4 1) → ⊥
early-regrey may = (let owed = may.owed in absurd (cc))

-- or over a word that isn't that of a black cell
white-regrey : IsAllowed small no_shapes (record loaded { part = put_at newcomer 0 (record (loaded.part 0) { duty = duty.Regrey 0 5 }) }) 0
    (Regrey 0 5 1) → ⊥
white-regrey may = (let black = may.black in absurd (cc))

-- or over another than the one that was loaded
other-regrey : IsAllowed small no_shapes loaded 0 (Regrey 0 8 1) → ⊥
other-regrey may = (let owed = may.owed in absurd (omega (arith, ap owed_word_of owed)))
  where
    owed_word_of : Duty → ℕ
    owed_word_of (duty.Regrey cell word) = word
    owed_word_of _ = 0

-- a new cell that is coloured white while a cycle marks
white-born : IsAllowed small no_shapes taken 0 (StoreBorn 0 5) → ⊥
white-born may = (let word = may.is_word in absurd (omega (arith, word)))

-- a call word that lacks a call
short-call_word : IsAllowed small no_shapes busy 0 (StoreCall 2 None) → ⊥
short-call_word may = (let word = may.1 in absurd (omega (arith, word)))

-- one view of a visitor or a mutator, in a world that is otherwise the busy one
abbrev with_view : ℕ → View → World
with_view who v = record busy { part = put_at newcomer who v }

abbrev visitor : View
visitor = record (newcomer 16) { runs = true; marks = true; cycle = 1; mark_version = 1; begun = 1; ticket = 1; run = 16 }

-- a cell made black that isn't held
blacken-unheld : IsAllowed small no_shapes (with_view 16 visitor) 16 (Blacken 0 1) → ⊥
blacken-unheld may = nothing_in 0 may.has

-- another one while a scan is open
blacken-scanning : IsAllowed small no_shapes
    (with_view 16 (record visitor { held = 0 ∷ []; scan = Some (scan_of 1) })) 16 (Blacken 0 1) → ⊥
blacken-scanning may = (let none = may.scans_not in absurd (cc))

-- an array loaded before the structure
early-array : IsAllowed small no_shapes (with_view 16 (record visitor { scan = Some (scan_of 0) })) 16 (LoadArray 0) → ⊥
early-array may = may.read (ap (λ (s : Scan). s.first) (sym (let is = may.is in
    let same : scan_of 0 ≡ may.scan = cc in same)))

-- a structure loaded again while a place is unread
early-again : IsAllowed small no_shapes
    (with_view 16 (record visitor { scan = Some record (scan_of 0) { first = Some 0; array = Some 0 } })) 16
    (LoadAgain 0) → ⊥
early-again may =
    let is = may.is in
    let same : record (scan_of 0) { first = Some 0; array = Some 0 } ≡ may.scan = cc in
    let read = ap (λ (s : Scan). is_among s.slots 0) same ∙ may.slots 0 (omega arith) in
    absurd (cc)

-- a mark of a scan whose readings haven't agreed
early-mark : IsAllowed small no_shapes
    (with_view 16 (record visitor { scan = Some record (scan_of 0) { buffer = 1 ∷ [] } })) 16 (Mark 1 0 1) → ⊥
early-mark may =
    let is = may.is in
    let same : record (scan_of 0) { buffer = 1 ∷ [] } ≡ may.scan = cc in
    let agreed = ap (λ (s : Scan). s.agreed) same ∙ may.agreed in
    absurd (cc)

-- a cell made grey again by a scan that met no race
raceless-un_blacken : IsAllowed small no_shapes (with_view 16 (record visitor { scan = Some (scan_of 0) })) 16
    (UnBlacken 0 1) → ⊥
raceless-un_blacken may =
    let is = may.is in
    let same : scan_of 0 ≡ may.scan = cc in
    let raced = ap (λ (s : Scan). s.raced) same ∙ may.raced in
    absurd (cc)

-- a cell given back that isn't held
publish-unheld : IsAllowed small no_shapes (with_view 16 visitor) 16 (Publish 0 1) → ⊥
publish-unheld may = nothing_in 0 (may.held 0 (omega arith) refl)

-- a structure nuked while an element is owed
early-nuke : IsAllowed small no_shapes
    (with_view 0 (record (newcomer 0) {
      runs = true;
      growth = growth.Filling 0 0 0 2;
      owed = owed_word region.Elements 0 1 ∷ [];
    })) 0 (Nuke 0 1) → ⊥
early-nuke may = may.filled 0 1 (is_in_one (owed_word region.Elements 0 1))

-- an array stored before the structure is nuked, and a structure before the array
early-store_array : IsAllowed small no_shapes
    (with_view 0 (record (newcomer 0) { runs = true; growth = growth.Filling 0 0 0 2 })) 0 (StoreArray 0 0) → ⊥
early-store_array may = (let stage = may.stage in absurd (cc))

early-store_structure : IsAllowed small no_shapes
    (with_view 0 (record (newcomer 0) { runs = true; growth = growth.Nuked 0 0 0 2 })) 0 (StoreStructure 0 2 None) → ⊥
early-store_structure may = (let stage = may.stage in absurd (cc))
