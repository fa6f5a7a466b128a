-- A push that doesn't set its register.
use Rattle.std.proofs.Common.{ℕ, ◌≡◌, subst, sym, ◌∙◌, ap}
use Rattle.std.specs.Prelude.{Err, Ok, Result}
use Rattle.tide.specs.Stacks.{HasPushed}
use Rattle.tide.specs.Threads.{Calling, HasDone, calling_of, op_of, stack_of}
use Rattle.tide.specs.declared.stop.Src.{Src}
use Rattle.tide.specs.declared.stop.Stop.{Stop}
use Rattle.tide.specs.declared.stop.Stop.TheVariants as stop
use Rattle.tide.specs.declared.thread.Thread.{Thread}
use Rattle.tide_server.specs.tide_model.declared.op.Op.{Op}

-- why something stopped, where it did
abbrev stop_of : Result ℕ Stop → Stop
stop_of (Ok at) = stop.Unfit
stop_of (Err why) = why

-- no call is refused since the stack is deep
pub is_not_deep : (old new : Calling) (op : Op) (result : Result ℕ Stop) (why : Stop) → result ≡ Err why →
    HasDone old new op (Err why) → result ≡ Err stop.Deep → ⊥
is_not_deep old new op result why is done deep =
    subst (λ (other : Stop). HasDone old new op (Err other)) (ap stop_of (sym is ∙ deep)) done

module _ (old new : Thread) (val : Src) where
  by_stop : (why : Stop) → HasDone (calling_of old) (calling_of new) (op_of old.top val) (Err why) →
      stack_of new ≡ stack_of old → HasPushed old new val (Err why)
  by_stop (stop.Full class) done same = (done, same)
  by_stop (stop.Refused refusal) done same = (done, same)
  by_stop stop.Deep done same = absurd done
  by_stop stop.Unfit done same = (done, same)

  -- where the register isn't set the stack is as it was
  pub pushes_nothing : (result : Result ℕ Stop) (why : Stop) → result ≡ Err why →
      HasDone (calling_of old) (calling_of new) (op_of old.top val) (Err why) → stack_of new ≡ stack_of old →
      HasPushed old new val result
  pushes_nothing result why is done same =
      subst (λ (r : Result ℕ Stop). HasPushed old new val r) (sym is) (by_stop why done same)
