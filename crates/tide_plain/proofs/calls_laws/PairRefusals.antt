-- What refuses an operation on pairs.
use Rattle.std.proofs.Common.{ℕ, ◌≡◌, refl, sym, ◌∙◌, ap, subst, Bool, true, false, [], ◌∷◌, Option, None, Some}
use Rattle.std.specs.Prelude.{not}
use Rattle.tide_model.specs.declared.val.Val.{Val}
use Rattle.tide_model.specs.declared.val.Val.TheVariants.{Empty, Int, Cell}
use Rattle.tide_model.specs.declared.op.Op.{Op}
use Rattle.tide_model.specs.declared.op.Reply.TheVariants.{Refused}
use Rattle.tide_model.specs.declared.op.Refusal.{Refusal}
use Rattle.tide_model.specs.declared.op.Refusal.TheVariants.{NotTable, NotHeld, Full}
use Rattle.tide_model.specs.Answer.{IsAnswerUnless}
use Rattle.tide_model.specs.Layout.{Layout}
use Rattle.tide_model.specs.Refused.{first_of, holds, is_table, pair_refusal, refusal_at, refusal_of, refuse_if}
use Rattle.tide_model.specs.State.{State}
use Rattle.tide_model.proofs.ReferenceLaws.{after_call-refused}
use Rattle.tide_plain.specs.stored.Contents.{state_of}
use Rattle.tide_plain.specs.stored.Stored.{Stored}
use Rattle.tide_plain.specs.calls.Calls.{IsCall}

-- a refusal that isn't for want of room
pub IsCall-refusal : (contents : Stored) (who : ℕ) (op : Op) (refusal : Refusal) → refusal_of contents.layout contents.shapes (state_of contents) who op ≡ Some refusal →
    ((class : ℕ) → refusal ≡ Full class → ⊥) → IsCall contents contents who op (Refused refusal) None
IsCall-refusal contents who op refusal refused other = record {
  answers = subst (λ (r : Option Refusal). IsAnswerUnless r contents.layout (state_of contents) who op (Refused refusal) None) (sym refused) (refl, refl);
  leaves = sym (after_call-refused (state_of contents) who op refusal None);
  room = λ class full. absurd (other class (cc (full)));
  layout = refl;
  shapes = refl;
}

-- the first refusals of an operation on a pair are never for want of room
pub pair_refusal-other : (layout : Layout) (state : State) (who src key : ℕ) (refusal : Refusal) →
    ((further : ℕ → ℕ → Option Refusal) → pair_refusal layout state who src key further ≡ Some refusal) → (class : ℕ) → refusal ≡ Full class → ⊥
pair_refusal-other layout state who src key refusal refused class full =
    step (state.registers who src) (state.registers who key) (λ table. not (is_table layout table)) (λ table. not (holds state who table)) (refused (λ table cell. None) ∙ ap Some full)
  where
    tests : (a b : Bool) → first_of (refuse_if a NotTable ∷ refuse_if b NotHeld ∷ None ∷ []) ≡ Some (Full class) → ⊥
    tests true b e = cc
    tests false true e = cc
    tests false false e = cc

    step : (v w : Val) (a b : ℕ → Bool) →
        refusal_at v src (λ table. refusal_at w key (λ cell. first_of (refuse_if (a table) NotTable ∷ refuse_if (b table) NotHeld ∷ None ∷ []))) ≡ Some (Full class) → ⊥
    step Empty w a b e = cc
    step (Int n) w a b e = cc
    step (Cell table) Empty a b e = cc
    step (Cell table) (Int n) a b e = cc
    step (Cell table) (Cell cell) a b e = tests (a table) (b table) e
