-- What a call is told, and what it answers and leaves.
use Rattle.std.specs.Prelude.{ℕ, ◌≡◌, ◌<◌, true, Option}
use Rattle.tide_model.specs.declared.op.Op.{Op}
use Rattle.tide_model.specs.declared.op.Reply.{Reply}
use Rattle.tide_model.specs.declared.op.Reply.TheVariants.{Refused}
use Rattle.tide_model.specs.declared.op.Refusal.TheVariants.{Full}
use Rattle.tide_model.specs.Answer.{IsAnswer}
use Rattle.tide_model.specs.Applied.{after_call}
use Rattle.tide_model.specs.Layout.{IsBlockOf}
use Rattle.tide_model.specs.References.{RefsAreLive}
use Rattle.tide_model.specs.Room.{IsFullBlock}
use Rattle.tide_plain.specs.stored.Contents.{state_of}
use Rattle.tide_plain.specs.stored.Stored.{Stored}

-- no reference names a cell that isn't live, and the caller is one of the layout and active
pub record MayCallStore (contents : Stored) (who : ℕ) : Type 0 where
  pub references : RefsAreLive (state_of contents)
  pub is_mutator : who < contents.layout.mutators
  pub is_active : (state_of contents).active who ≡ true

-- What a call answers, the state that it leaves, and the array that it took. It is refused for room only where nothing
-- of the class is free.
pub record IsCall (old new : Stored) (who : ℕ) (op : Op) (reply : Reply) (took : Option ℕ) : Type 0 where
  pub answers : IsAnswer old.layout old.shapes (state_of old) who op reply took
  pub leaves : state_of new ≡ after_call (state_of old) who op reply took
  pub room : (class : ℕ) → reply ≡ Refused (Full class) → (block : ℕ) → IsBlockOf old.layout class block → IsFullBlock old.layout (state_of old) block
  pub layout : new.layout ≡ old.layout
  pub shapes : new.shapes ≡ old.shapes
