-- The births that a step of a kind makes, and whose entry it makes.
use Rattle.std.proofs.Common.{ℕ, ◌≡◌, ◌+◌, refl, ap, arith, Bool, true, false, Option, None, Some}
use Rattle.std.proofs.lemmas.Bool.{eq-eqb}
use Rattle.std.specs.Int.{bit_at}
use Rattle.std.specs.Prelude.{◌*◌, ◌-◌, ◌==◌, if◌then◌else◌}
use Rattle.tide_core.specs.machine.Entries.{call_of, entry_of, reply_of_call, refused_or_full, class_taken}
use Rattle.tide_core.specs.machine.Kind.{Kind, Retire, StoreRegister, StoreCall, LoadStrong, StoreStrong, LoadWeak, StoreWeak, LoadLink, StoreLink, TakeFree, LoadPair, StorePair, StoreGroup, LoadClaim, TakeClaim, Release, LoadElement, StoreElement, TakeArray, StoreStructure, ClaimBlock, GiveBits}
use Rattle.tide_model.specs.History.{plain}
use Rattle.tide_model.specs.Layout.{Layout}
use Rattle.tide_model.specs.Refused.{ShapeLists, refusal_of}
use Rattle.tide_model.specs.Since.{is_born_reply}
use Rattle.tide_model.specs.State.{State}
use Rattle.tide_model.specs.declared.entry.Entry.TheVariants.{Taken}
use Rattle.tide_model.specs.declared.op.Op.{Op}
use Rattle.tide_model.specs.declared.op.Op.TheVariants as op
use Rattle.tide_model.specs.declared.op.Refusal.{Refusal}
use Rattle.tide_model.specs.declared.op.Reply.TheVariants.{Born, Done}
use Rattle.tide_core.specs.tide_layout.Region.{cell_block_count}
use Rattle.tide_heap.specs.steps.Works.{born_after, is_work}
use Rattle.tide_heap.proofs.Births.{IsOwnEntry, births_at, still}

-- each entry of a work is a call of the one that steps, or has a block taken or swept
pub entry_own : (layout : Layout) (shapes : ShapeLists) (state : State) (who : ℕ) (kind : Kind) (read : ℕ) →
    is_work kind ≡ true → IsOwnEntry who (entry_of layout shapes state who kind read)
entry_own layout shapes state who (Retire (Some o)) read works = eq-eqb who who refl
entry_own layout shapes state who (StoreRegister register word (Some o)) read works = eq-eqb who who refl
entry_own layout shapes state who (StoreCall word (Some o)) read works = eq-eqb who who refl
entry_own layout shapes state who (LoadStrong handle (Some o)) read works = eq-eqb who who refl
entry_own layout shapes state who (StoreStrong handle word (Some o)) read works = eq-eqb who who refl
entry_own layout shapes state who (LoadWeak handle (Some o)) read works = eq-eqb who who refl
entry_own layout shapes state who (StoreWeak handle word (Some o)) read works = eq-eqb who who refl
entry_own layout shapes state who (LoadLink cell slot (Some o)) read works = eq-eqb who who refl
entry_own layout shapes state who (StoreLink cell slot word (Some o)) read works = eq-eqb who who refl
entry_own layout shapes state who (TakeFree block k (Some o)) read works = by_test (bit_at read k == 1)
  where
    by_test : (b : Bool) → IsOwnEntry who (if b then Some (call_of who o
        (Born (64 * block + k)) None) else None)
    by_test true = eq-eqb who who refl
    by_test false = tt
entry_own layout shapes state who (LoadPair table place (Some o)) read works = eq-eqb who who refl
entry_own layout shapes state who (StorePair table place word (Some o)) read works = eq-eqb who who refl
entry_own layout shapes state who (StoreGroup cell word (Some o)) read works = eq-eqb who who refl
entry_own layout shapes state who (LoadClaim cell (Some o)) read works = eq-eqb who who refl
entry_own layout shapes state who (TakeClaim cell holder (Some o)) read works = eq-eqb who who refl
entry_own layout shapes state who (Release cell (Some o)) read works = eq-eqb who who refl
entry_own layout shapes state who (LoadElement array place (Some o)) read works = eq-eqb who who refl
entry_own layout shapes state who (StoreElement array place word (Some o)) read works = eq-eqb who who refl
entry_own layout shapes state who (TakeArray block k old next (Some o)) read works = by_test (bit_at read k == 1)
  where
    by_test : (b : Bool) → IsOwnEntry who (if b then Some (call_of who o
        Done
        (Some (64 * (block - cell_block_count layout) + k))) else None)
    by_test true = eq-eqb who who refl
    by_test false = tt
entry_own layout shapes state who (StoreStructure cell word (Some o)) read works = eq-eqb who who refl
entry_own layout shapes state who (ClaimBlock block old cycle) read works = by_test (read == old)
  where
    by_test : (b : Bool) → IsOwnEntry who (if b then Some (plain (Taken block)) else None)
    by_test true = refl
    by_test false = tt
entry_own layout shapes state who (GiveBits block bits) read works = refl
entry_own layout shapes state who kind read works = tt

none_more : (n : ℕ) (b : Bool) → b ≡ false → n ≡ n + (if b then 1 else 0)
none_more n b none = (let zero_more = ap {B = ℕ} (λ (x : Bool). if x then 1 else 0) none in omega (arith, zero_more))

refused_unborn : (refusal : Option Refusal) (class : ℕ) → is_born_reply (refused_or_full refusal class) ≡ false
refused_unborn None class = refl
refused_unborn (Some refusal) class = refl

call_unborn : (layout : Layout) (shapes : ShapeLists) (state : State) (who : ℕ) (o : Op) →
    is_born_reply (reply_of_call layout shapes state who o) ≡ false
call_unborn layout shapes state who op.Collect = refl
call_unborn layout shapes state who o =
    refused_unborn (refusal_of layout shapes state who o) (class_taken state who o)

-- a step counts a birth just where its entry is one
pub entry_born : (layout : Layout) (shapes : ShapeLists) (state : State) (who : ℕ) (kind : Kind) (read n : ℕ) →
    born_after kind read n ≡ n + births_at (entry_of layout shapes state who kind read)
entry_born layout shapes state who (Retire (Some o)) read n = still n
entry_born layout shapes state who (StoreRegister register word (Some o)) read n = still n
entry_born layout shapes state who (StoreCall word (Some o)) read n =
    none_more n (is_born_reply (reply_of_call layout shapes state who o)) (call_unborn layout shapes state who o)
entry_born layout shapes state who (LoadStrong handle (Some o)) read n = still n
entry_born layout shapes state who (StoreStrong handle word (Some o)) read n = still n
entry_born layout shapes state who (LoadWeak handle (Some o)) read n = still n
entry_born layout shapes state who (StoreWeak handle word (Some o)) read n = still n
entry_born layout shapes state who (LoadLink cell slot (Some o)) read n = still n
entry_born layout shapes state who (StoreLink cell slot word (Some o)) read n = still n
entry_born layout shapes state who (TakeFree block k (Some o)) read n = by_test (bit_at read k == 1)
  where
    by_test : (b : Bool) → (if b then n + 1 else n)
        ≡ n + births_at (if b then Some (call_of who o
        (Born (64 * block + k)) None) else None)
    by_test true = refl
    by_test false = still n
entry_born layout shapes state who (LoadPair table place (Some o)) read n = still n
entry_born layout shapes state who (StorePair table place word (Some o)) read n = still n
entry_born layout shapes state who (StoreGroup cell word (Some o)) read n = still n
entry_born layout shapes state who (LoadClaim cell (Some o)) read n =
    none_more n (is_born_reply (reply_of_call layout shapes state who o)) (call_unborn layout shapes state who o)
entry_born layout shapes state who (TakeClaim cell holder (Some o)) read n = by_test (read == 0)
  where
    by_test : (b : Bool) → n ≡ n + (if is_born_reply (if b then Done
        else reply_of_call layout shapes state who o) then 1 else 0)
    by_test true = still n
    by_test false =
        none_more n (is_born_reply (reply_of_call layout shapes state who o)) (call_unborn layout shapes state who o)
entry_born layout shapes state who (Release cell (Some o)) read n = still n
entry_born layout shapes state who (LoadElement array place (Some o)) read n = still n
entry_born layout shapes state who (StoreElement array place word (Some o)) read n = still n
entry_born layout shapes state who (TakeArray block k old next (Some o)) read n = by_test (bit_at read k == 1)
  where
    by_test : (b : Bool) → n ≡ n + births_at (if b then Some (call_of who o
        Done
        (Some (64 * (block - cell_block_count layout) + k))) else None)
    by_test true = still n
    by_test false = still n
entry_born layout shapes state who (StoreStructure cell word (Some o)) read n = still n
entry_born layout shapes state who (ClaimBlock block old cycle) read n = by_test (read == old)
  where
    by_test : (b : Bool) → n ≡ n + births_at (if b then Some (plain (Taken block)) else None)
    by_test true = still n
    by_test false = still n
entry_born layout shapes state who kind read n = still n
