-- Claim: a mutator loads a claim word, or exchanges it for its own.
use Rattle.std.specs.Prelude.{ℕ, ◌≡◌, ◌≤◌, [], length, ◌==◌, if◌then◌else◌, Option, None, Some}
use Rattle.tide_core.specs.machine.Entries.{reply_of_call}
use Rattle.tide_core.specs.machine.May.{RunsAsMutator, MayCall, called}
use Rattle.tide_core.specs.machine.World.{World}
use Rattle.tide_core.specs.declared.machine.view.View.{View}
use Rattle.tide_model.specs.History.{state_after}
use Rattle.tide_model.specs.Layout.{Layout}
use Rattle.tide_model.specs.Refused.{ShapeLists, claims_most}
use Rattle.tide_model.specs.State.{State}
use Rattle.tide_model.specs.declared.op.Op.{Op}
use Rattle.tide_model.specs.declared.op.Op.TheVariants.{Claim}
use Rattle.tide_model.specs.declared.op.Reply.TheVariants.{Done}
use Rattle.tide_model.specs.declared.val.Val.TheVariants.{Cell}

-- a claim word that was loaded refuses the call, or says nothing
abbrev pub claim_view : Option Op → View → View
claim_view None v = v
claim_view (Some op) v = called [] v

-- the mutator claims as many cells as one may
abbrev pub HasNoRoom : State → ℕ → Type 0
HasNoRoom state me = claims_most ≤ length (state.claims me)

-- a claim word is loaded; a call is refused so whose mutator has no room for one more claim
abbrev pub MayLoadClaim : Layout → ShapeLists → World → ℕ → ℕ → Option Op → Type 0
MayLoadClaim layout shapes w me cell None = RunsAsMutator layout w me
MayLoadClaim layout shapes w me cell (Some (Claim src)) =
    ((state_after layout w.log).registers me src ≡ Cell cell)
    × HasNoRoom (state_after layout w.log) me
    × MayCall layout shapes w me (Claim src)
    (reply_of_call layout shapes (state_after layout w.log) me (Claim src)) None
MayLoadClaim layout shapes w me cell (Some _) = ⊥

-- a claim word is exchanged for the mutator's own by Claim
abbrev pub MayTakeClaim : Layout → ShapeLists → World → ℕ → ℕ → ℕ → ℕ → Option Op → Type 0
MayTakeClaim layout shapes w me cell holder read (Some (Claim src)) =
    (holder ≡ me) × ((state_after layout w.log).registers me src ≡ Cell cell)
    × MayCall layout shapes w me (Claim src)
    (if read == 0 then Done else reply_of_call layout shapes (state_after layout w.log) me (Claim src)) None
MayTakeClaim layout shapes w me cell holder read _ = ⊥
