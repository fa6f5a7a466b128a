-- Who makes no call in a history has none in it.
use Rattle.std.proofs.Common.{ℕ, suc, ◌≡◌, ◌≤◌, ◌∙◌, refl, ap, arith, Bool, true, false, List, [], ◌∷◌, ◌++◌, take}
use Rattle.std.proofs.lemmas.Bool.{eqb-true}
use Rattle.std.specs.Prelude.{◌==◌, Option, slice_get, Some, if◌then◌else◌}
use Rattle.tide_model.specs.declared.entry.Entry.{Entry}
use Rattle.tide_model.specs.declared.entry.Entry.TheVariants.{Call, Begin, Pause, Visits, End, Taken, Sweep, Open}
use Rattle.tide_model.specs.declared.entry.Event.{Event}
use Rattle.tide_model.specs.declared.op.Op.{Op}
use Rattle.tide_model.specs.declared.op.Reply.{Reply}
use Rattle.tide_model.specs.Layout.{Layout}
use Rattle.tide_model.specs.Lawful.{IsLawful, StandsEntry}
use Rattle.tide_model.specs.Refused.{ShapeLists}
use Rattle.tide_model.specs.Script.{calls_of, own_calls}

-- of a call that another makes, a mutator has none
pub own_calls-other : (who w : ℕ) (op : Op) (reply : Reply) → (w == who) ≡ false → own_calls who (Call w op reply) ≡ []
own_calls-other who w op reply apart = ap (λ (b : Bool). if b then (op, reply) ∷ [] else []) apart

-- what stands at no place of a history is no call of it
calls_of-none : (who : ℕ) (history : List Event) → ((place : ℕ) (event : Event) → slice_get history place ≡ Some event → own_calls who event.entry ≡ []) →
    calls_of who history ≡ []
calls_of-none who [] none = refl
calls_of-none who (event ∷ events) none =
    ap (λ (calls : List (Op × Reply)). calls ++ calls_of who events) (none 0 event refl)
    ∙ calls_of-none who events (λ place one at. none (suc place) one at)

-- nobody but the layout's mutators makes a call in a lawful history
pub none_above : (layout : Layout) (shapes : ShapeLists) (history : List Event) → IsLawful layout shapes history → (who : ℕ) → layout.mutators ≤ who → calls_of who history ≡ []
none_above layout shapes history lawful who past = calls_of-none who history (λ place event at. one (take place history) event.entry event.took (lawful place event at))
  where
    one : (before : List Event) (entry : Entry) (took : Option ℕ) → StandsEntry layout shapes before entry took → own_calls who entry ≡ []
    one before (Call w op reply) took stands = step (w == who) refl
      where
        step : (same : Bool) → (w == who) ≡ same → own_calls who (Call w op reply) ≡ []
        step true e = (let is = eqb-true w who e in let below = stands.is_mutator in absurd (omega (arith, is, below, past)))
        step false e = own_calls-other who w op reply e
    one before (Begin cycle full) took stands = refl
    one before (Pause visits) took stands = refl
    one before (Visits w visits) took stands = refl
    one before (End cycle freed) took stands = refl
    one before (Taken block) took stands = refl
    one before (Sweep block) took stands = refl
    one before (Open number run) took stands = refl
