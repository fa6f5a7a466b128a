-- What a call that adds a property answers and leaves.
use Rattle.std.proofs.Common.{ℕ, ◌≡◌, refl, sym, ◌∙◌, ap, subst, Bool, true, false, List, [], ◌∷◌, Option, None, Some}
use Rattle.std.specs.Prelude.{not}
use Rattle.tide_model.specs.declared.val.Val.{Val}
use Rattle.tide_model.specs.declared.val.Val.TheVariants.{Empty, Int, Cell}
use Rattle.tide_model.specs.declared.op.Op.TheVariants.{Add}
use Rattle.tide_model.specs.declared.op.Reply.TheVariants.{Done, Refused}
use Rattle.tide_model.specs.declared.op.Refusal.{Refusal}
use Rattle.tide_model.specs.declared.op.Refusal.TheVariants.{IsTable, NotHeld, Present, NoShape, Full}
use Rattle.tide_model.specs.Answer.{next_array_class, AtCell, IsAnswerUnless, IsTakenFor}
use Rattle.tide_model.specs.Applied.{add_property, at_cell, is_array_full}
use Rattle.tide_model.specs.Layout.{Layout, IsBlockOf}
use Rattle.tide_model.specs.Refused.{ShapeLists, first_of, has_key, holder_refusal, may_add, refusal_at, refusal_of, refuse_if}
use Rattle.tide_model.specs.Room.{IsFullBlock}
use Rattle.tide_model.specs.State.{State}
use Rattle.tide_plain.specs.stored.Contents.{state_of, Leaves}
use Rattle.tide_plain.specs.stored.Stored.{Stored}
use Rattle.tide_plain.specs.calls.Calls.{IsCall}

-- the refusals that are an addition's own
abbrev pub addition_refusals : ShapeLists → State → ℕ → ℕ → List (Option Refusal)
addition_refusals shapes state key cell = refuse_if (has_key state cell key) Present ∷ refuse_if (not (may_add shapes state cell key)) NoShape ∷ []

-- the refusal of an addition, where its tests are known
pub refusal_of-add : (layout : Layout) (shapes : ShapeLists) (state : State) (who src key val cell : ℕ) (known new : Bool) → has_key state cell key ≡ known → may_add shapes state cell key ≡ new →
    holder_refusal layout state who src (addition_refusals shapes state key) ≡ first_of (addition_refusals shapes state key cell) →
    refusal_of layout shapes state who (Add src key val) ≡ first_of (refuse_if known Present ∷ refuse_if (not new) NoShape ∷ [])
refusal_of-add layout shapes state who src key val cell known new is_known is_new granted =
    granted ∙ (λ i. first_of (refuse_if (is_known i) Present ∷ refuse_if (not (is_new i)) NoShape ∷ []))

-- an addition's own refusals are never for want of room
not_full : (holding : Val) (register : ℕ) (table free present missing : ℕ → Bool) (class : ℕ) →
    refusal_at holding register (λ cell. first_of (refuse_if (table cell) IsTable ∷ refuse_if (free cell) NotHeld ∷ refuse_if (present cell) Present ∷ refuse_if (missing cell) NoShape ∷ [])) ≡ Some (Full class) → ⊥
not_full Empty register table free present missing class is = cc
not_full (Int n) register table free present missing class is = cc
not_full (Cell cell) register table free present missing class is = step (table cell) (free cell) (present cell) (missing cell) is
  where
    step : (a b c d : Bool) → first_of (refuse_if a IsTable ∷ refuse_if b NotHeld ∷ refuse_if c Present ∷ refuse_if d NoShape ∷ []) ≡ Some (Full class) → ⊥
    step true b c d e = cc
    step false true c d e = cc
    step false false true d e = cc
    step false false false true e = cc
    step false false false false e = cc

pub IsCall-add_refused : (contents : Stored) (who src key val : ℕ) (refusal : Refusal) → refusal_of contents.layout contents.shapes (state_of contents) who (Add src key val) ≡ Some refusal →
    IsCall contents contents who (Add src key val) (Refused refusal) None
IsCall-add_refused contents who src key val refusal refused = record {
  answers = subst (λ (r : Option Refusal). IsAnswerUnless r contents.layout (state_of contents) who (Add src key val) (Refused refusal) None) (sym refused) (refl, refl);
  leaves = refl;
  room = λ class full.
      let same : refusal ≡ Full class = cc (full) in
      absurd (not_full ((state_of contents).registers who src) src _ _ _ _ class (refused ∙ ap Some same));
  layout = refl;
  shapes = refl;
}

-- no array of the next class is free
pub IsCall-add_full : (contents new : Stored) (who src key val cell class : ℕ) → class ≡ next_array_class (state_of contents) cell →
    refusal_of contents.layout contents.shapes (state_of contents) who (Add src key val) ≡ None → (state_of contents).registers who src ≡ Cell cell →
    is_array_full ((state_of contents).cells cell) ≡ true →
    ((block : ℕ) → IsBlockOf contents.layout class block → IsFullBlock contents.layout (state_of contents) block) →
    new ≡ contents → IsCall contents new who (Add src key val) (Refused (Full class)) None
IsCall-add_full contents new who src key val cell class is_next granted holder full room unchanged =
    subst (λ (c : Stored). IsCall contents c who (Add src key val) (Refused (Full class)) None) (sym unchanged) (record {
      answers = subst (λ (r : Option Refusal). IsAnswerUnless r contents.layout (state_of contents) who (Add src key val) (Refused (Full class)) None) (sym granted)
          (refl, subst (λ (v : Val). AtCell v (λ c. (is_array_full ((state_of contents).cells c) ≡ true) × (class ≡ next_array_class (state_of contents) c))) (sym holder) (full, is_next));
      leaves = refl;
      room = λ other is.
          let same : class ≡ other = cc (is) in
          subst (λ (k : ℕ). (block : ℕ) → IsBlockOf contents.layout k block → IsFullBlock contents.layout (state_of contents) block) same room;
      layout = refl;
      shapes = refl;
    })

-- the property was added, in an array that was taken or in the old one
pub IsCall-add : (contents new : Stored) (who src key val cell : ℕ) (value : Val) (took : Option ℕ) →
    refusal_of contents.layout contents.shapes (state_of contents) who (Add src key val) ≡ None → (state_of contents).registers who src ≡ Cell cell →
    value ≡ (state_of contents).registers who val → IsTakenFor contents.layout (state_of contents) cell took →
    Leaves contents new (add_property (state_of contents) cell key value took) → IsCall contents new who (Add src key val) Done took
IsCall-add contents new who src key val cell value took granted holder is_value taken added = record {
  answers = subst (λ (r : Option Refusal). IsAnswerUnless r contents.layout (state_of contents) who (Add src key val) Done took) (sym granted)
      (subst (λ (v : Val). AtCell v (λ c. IsTakenFor contents.layout (state_of contents) c took)) (sym holder) taken);
  leaves = added.state
      ∙ ap (λ (v : Val). add_property (state_of contents) cell key v took) is_value
      ∙ ap (λ (v : Val). at_cell (state_of contents) v (λ c. add_property (state_of contents) c key ((state_of contents).registers who val) took)) (sym holder);
  room = λ class full. absurd (cc);
  layout = added.layout;
  shapes = added.shapes;
}
