-- What `?` passes on, and what an answer is.
use Rattle.std.proofs.Common.{◌≡◌, ap}
use Rattle.std.specs.Prelude.{Err, IsErrAnd, Ok, Result}
use Rattle.tide.specs.declared.stop.Stop.{Stop}
use Rattle.tide_server.specs.tide_model.declared.op.Reply.{Reply}
use Rattle.tide_server.specs.tide_model.declared.op.Reply.TheVariants.{Asked}

-- a stop that is passed on is the same
pub same_stop : {X : Type 0} (result : Result X Stop) (why : Stop) → IsErrAnd result (λ other. other ≡ why) →
    result ≡ Err why
same_stop (Ok x) why passed = absurd passed
same_stop (Err other) why passed = ap (λ (stop : Stop). Err stop) passed

-- the reply of an answer, where it has one
abbrev reply_of : Result Reply Stop → Reply
reply_of (Ok reply) = reply
reply_of (Err why) = Asked

-- two answers that are the same have the same reply
pub same_reply : (reply other : Reply) → ◌≡◌ {A = Result Reply Stop} (Ok reply) (Ok other) → reply ≡ other
same_reply reply other is = ap reply_of is
