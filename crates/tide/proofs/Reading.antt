-- What a read answers by what its calls are answered.
use Rattle.std.proofs.Common.{ℕ, ◌≡◌, refl, sym, subst}
use Rattle.std.specs.Prelude.{Err, None, Ok, Option, Result, Some}
use Rattle.tide.specs.Keyed.{Calls, HasDoneUnderClaim, HasMoved, HasRead, by_reply, place_of, read_by}
use Rattle.tide.specs.Threads.{Calling}
use Rattle.tide.specs.declared.stop.Stop.{Stop}
use Rattle.tide_server.specs.tide_model.declared.op.Op.{Op}
use Rattle.tide_server.specs.tide_model.declared.op.Reply.{Reply}
use Rattle.tide_server.specs.tide_model.declared.val.Val.{Val}

module _ (op : ℕ → Op) (old read : Calling) (base dst src place : ℕ) (is : place ≡ place_of base dst src) where
  -- what was read is moved
  pub reads : (new : Calling) (reply : Reply) (val : Option Val) (result : Result (Option Val) Stop) →
      HasDoneUnderClaim (Calls (op place)) old read base src (Ok reply) → read_by reply ≡ Ok val →
      HasMoved read new dst place (Ok val) result → HasRead op old new base dst src result
  reads new reply val result done told moved = record {
    answer = Ok reply;
    read = read;
    reads = subst (λ (k : ℕ). HasDoneUnderClaim (Calls (op k)) old read base src (Ok reply)) is done;
    moves = subst (λ (r : Result (Option Val) Stop). HasMoved read new dst (place_of base dst src) r result) (sym told)
        (subst (λ (k : ℕ). HasMoved read new dst k (Ok val) result) is moved);
  }

  -- what wasn't read isn't
  pub reads_nothing : (answer : Result Reply Stop) (why : Stop) →
      HasDoneUnderClaim (Calls (op place)) old read base src answer → by_reply read_by answer ≡ Err why →
      HasRead op old read base dst src (Err why)
  reads_nothing answer why done told = record {
    answer = answer;
    read = read;
    reads = subst (λ (k : ℕ). HasDoneUnderClaim (Calls (op k)) old read base src answer) is done;
    moves = subst (λ (r : Result (Option Val) Stop). HasMoved read read dst (place_of base dst src) r (Err why))
        (sym told) (refl, refl);
  }

-- where nothing was read nothing is moved
pub nothing_moves : (same : Calling) (dst place : ℕ) (read : Option Val) → ((val : Val) → read ≡ Some val → ⊥) →
    HasMoved same same dst place (Ok read) (Ok None)
nothing_moves same dst place (Some val) other = absurd (other val refl)
nothing_moves same dst place None other = (refl, refl)
