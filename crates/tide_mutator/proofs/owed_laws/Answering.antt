-- What a call's action tells of it, and how the pass that made it tells the call.
use Rattle.std.proofs.Common.{ℕ, ◌≡◌, ◌<◌, sym, ◌∙◌, subst, [], length, None, Some}
use Rattle.std.specs.Prelude.{◌%◌, ◌^◌}
use Rattle.tide_heap.specs.declared.heap.Heap.{Heap}
use Rattle.tide_heap.specs.declared.steps.pass.Pass.{Pass}
use Rattle.tide_heap.specs.steps.Calls.{CanStep, HasStored}
use Rattle.tide_heap.specs.steps.Follows.{FollowsSome, MayStep}
use Rattle.tide_heap.specs.tide_call.declared.action.Action.{Action}
use Rattle.tide_heap.specs.tide_core.declared.machine.view.Duty.{Duty}
use Rattle.tide_heap.specs.tide_core.declared.machine.view.Duty.TheVariants.{Nothing}
use Rattle.tide_heap.specs.tide_core.declared.machine.view.View.{View}
use Rattle.tide_heap.specs.tide_core.machine.Kind.{Kind, StoreCall}
use Rattle.tide_heap.specs.tide_core.machine.Owed.{owed_register}
use Rattle.tide_model.specs.Refused.{ShapeLists}
use Rattle.tide_model.specs.declared.op.Reply.{Reply}
use Rattle.tide_model.specs.declared.val.Val.{Val}
use Rattle.tide_mutator.proofs.owed_laws.Paying.{done_paid, owes_register}
use Rattle.tide_mutator.proofs.owed_laws.Shading.{made_shaded, owing_made}
use Rattle.tide_mutator.proofs.owed_laws.Telling.{done_by, may_tell, still_mutator, still_runs, told_count}
use Rattle.tide_mutator.specs.declared.owed.call.Call.{Call}
use Rattle.tide_mutator.specs.owed.Acting.{HasAnswered, MayAct}
use Rattle.tide_mutator.specs.owed.Made.{HasMade, IsMade, shown}
use Rattle.tide_mutator.specs.owed.Paying.{HasPaid, OwesRegister}
use Rattle.tide_mutator.specs.owed.Shading.{HasShaded, Owing}

-- an action may be carried out, and has been answered, by any other name of it
module _ {S : Type 0} {lists : S → ShapeLists} {heap : Heap S} {pass : Pass} {call : Call} {does other : Action}
    (is : does ≡ other) where
  pub may_as : MayAct lists heap pass call does → MayAct lists heap pass call other
  may_as may = subst (MayAct lists heap pass call) is may

  module _ {reply : Reply} {last : Pass} where
    pub answered_as : HasAnswered lists heap call other reply pass last → HasAnswered lists heap call does reply pass last
    answered_as answered = subst (λ (one : Action). HasAnswered lists heap call one reply pass last) (sym is) answered

-- and by any other name of its reply
module _ {S : Type 0} {lists : S → ShapeLists} {heap : Heap S} {pass last : Pass} {call : Call} {does : Action}
    {told reply : Reply} (is : told ≡ reply) where
  pub replied_as : HasAnswered lists heap call does reply pass last → HasAnswered lists heap call does told pass last
  replied_as answered = subst (λ (one : Reply). HasAnswered lists heap call does one pass last) (sym is) answered

module _ {S : Type 0} {lists : S → ShapeLists} {heap : Heap S} {pass : Pass} {call : Call} {does : Action}
    (may : MayAct lists heap pass call does) where
  -- its pass can make each step that it may make
  pub enters : (kind : Kind) → MayStep heap.key.layout (lists heap.key.shapes) pass.seat.me.0 kind →
      CanStep lists heap pass kind
  enters kind step = record { own = may.own; runs = may.calling.runs; may = step }

  -- once the call has its entry, its number tells it
  module _ {reply : Reply} (next : Pass)
      (made : IsMade heap.key.layout (lists heap.key.shapes) call.op does reply pass.seat.me.0
      (shown next.seat.me.0))
    where
      pub teller : next.seat.me.0.who < heap.key.layout.mutators
      teller = still_mutator heap.key.layout (lists heap.key.shapes) call.op does reply pass.seat.me.0 next.seat.me.0
          may.calling made

      pub tells : next.seat.table_id ≡ pass.seat.table_id → CanStep lists heap next (StoreCall call.number None)
      tells same = record {
        own = same ∙ may.own;
        runs = still_runs heap.key.layout (lists heap.key.shapes) call.op does reply pass.seat.me.0 next.seat.me.0
            may.calling made;
        may = may_tell heap.key.layout (lists heap.key.shapes) call.op does reply pass.seat.me.0 next.seat.me.0
            may.calling made call.number may.counts;
      }

      -- and then it is answered
      module _ {last : Pass} where
        pub answered_by : (next.seat.table_id ≡ pass.seat.table_id) × (next.seat.id ≡ pass.seat.id) →
            HasStored lists heap (StoreCall call.number None) next last → next.seat.me.0.owed ≡ [] →
            next.seat.me.0.duty ≡ Nothing → HasAnswered lists heap call does reply pass last
        answered_by same told owed duty = record {
          same_pass = (told.1.table ∙ same.0, told.1.seat ∙ same.1);
          done = done_by heap.key.layout (lists heap.key.shapes) call.op does reply pass.seat.me.0 next.seat.me.0
              may.calling made call.number last.seat.me.0 (told.0, told.1.follows) owed duty;
        }

  -- A step made the call's entry, and nothing more is owed. Its number tells it then, and so it is answered.
  module _ {kind : Kind} {reply : Reply} {next : Pass}
      (makes : (u : View) → FollowsSome heap.key.layout (lists heap.key.shapes) kind pass.seat.me.0 u →
      HasMade heap.key.layout (lists heap.key.shapes) call.op does reply pass.seat.me.0 u [] Nothing)
      (stored : HasStored lists heap kind pass next) where
    made : HasMade heap.key.layout (lists heap.key.shapes) call.op does reply pass.seat.me.0 next.seat.me.0 [] Nothing
    made = makes next.seat.me.0 (stored.0, stored.1.follows)

    pub stored_teller : next.seat.me.0.who < heap.key.layout.mutators
    stored_teller = teller next made.made

    pub stored_tells : CanStep lists heap next (StoreCall call.number None)
    stored_tells = tells next made.made stored.1.table

    module _ {last : Pass} where
      pub stored_answered : HasStored lists heap (StoreCall call.number None) next last →
          HasAnswered lists heap call does reply pass last
      stored_answered told = answered_by next made.made (stored.1.table, stored.1.seat) told made.owed made.duty

  -- A step made the call's entry, and the call owes a barrier, and nothing else. The barrier is paid then.
  module _ {kind : Kind} {reply : Reply} {next : Pass} {due : Duty}
      (makes : (u : View) → FollowsSome heap.key.layout (lists heap.key.shapes) kind pass.seat.me.0 u →
      HasMade heap.key.layout (lists heap.key.shapes) call.op does reply pass.seat.me.0 u [] due)
      (stored : HasStored lists heap kind pass next) where
    linked : HasMade heap.key.layout (lists heap.key.shapes) call.op does reply pass.seat.me.0 next.seat.me.0 [] due
    linked = makes next.seat.me.0 (stored.0, stored.1.follows)

    pub linked_owing : Owing heap.key.layout next.seat.me.0 due
    linked_owing = owing_made heap.key.layout (lists heap.key.shapes) call.op does reply pass.seat.me.0
        next.seat.me.0 due may.calling linked

    module _ (then : Pass) (same : (then.seat.table_id ≡ next.seat.table_id) × (then.seat.id ≡ next.seat.id))
        (shaded : HasShaded next.seat.me.0 then.seat.me.0) where
      shaded_made : IsMade heap.key.layout (lists heap.key.shapes) call.op does reply pass.seat.me.0
          (shown then.seat.me.0)
      shaded_made = made_shaded heap.key.layout (lists heap.key.shapes) call.op does reply pass.seat.me.0
          next.seat.me.0 then.seat.me.0 linked.made shaded

      pub shaded_teller : then.seat.me.0.who < heap.key.layout.mutators
      shaded_teller = teller then shaded_made

      pub shaded_tells : CanStep lists heap then (StoreCall call.number None)
      shaded_tells = tells then shaded_made (same.0 ∙ stored.1.table)

      module _ {last : Pass} where
        pub shaded_answered : HasStored lists heap (StoreCall call.number None) then last →
            HasAnswered lists heap call does reply pass last
        shaded_answered told = answered_by then shaded_made (same.0 ∙ stored.1.table, same.1 ∙ stored.1.seat) told
            (shaded.owed ∙ linked.owed) shaded.duty

  -- A step made the call's entry, and the call owes the value of its register, and nothing else. The register is paid
  -- then, and so the call is answered.
  module _ {reply : Reply} (next : Pass) (dst : ℕ) (value : Val)
      (made : HasMade heap.key.layout (lists heap.key.shapes) call.op does reply pass.seat.me.0 next.seat.me.0
      (owed_register heap.key.layout pass.seat.me.0.who (Some dst) value) Nothing)
    where
      pub owes : OwesRegister heap.key.layout next.seat.me.0 dst value
      owes = owes_register heap.key.layout (lists heap.key.shapes) call.op does reply pass.seat.me.0 next.seat.me.0
          may.calling dst value made

      pub counts : call.number ≡ length next.seat.me.0.mine % 2 ^ 64
      counts = told_count heap.key.layout (lists heap.key.shapes) call.op does reply pass.seat.me.0 next.seat.me.0
          may.calling made.made call.number may.counts

      module _ {last : Pass} where
        pub paid_answered : (next.seat.table_id ≡ pass.seat.table_id) × (next.seat.id ≡ pass.seat.id) →
            (last.seat.table_id ≡ next.seat.table_id) × (last.seat.id ≡ next.seat.id) →
            HasPaid next.seat.me.0 last.seat.me.0 → HasAnswered lists heap call does reply pass last
        paid_answered same then paid = record {
          same_pass = (then.0 ∙ same.0, then.1 ∙ same.1);
          done = done_paid heap.key.layout (lists heap.key.shapes) call.op does reply pass.seat.me.0 next.seat.me.0
              may.calling made.made last.seat.me.0 paid;
        }
