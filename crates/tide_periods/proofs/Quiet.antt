-- What others do leaves a mutator as far as it was.
use Rattle.std.proofs.Common.{ℕ, ◌≡◌, ◌≢◌, refl, sym, ◌∙◌, ap, subst, arith, Bool, true, false, List, [], ◌∷◌, ◌++◌, length, drop, append-nil, All}
use Rattle.std.proofs.lemmas.Bool.{eqb-true, eqb-false}
use Rattle.std.proofs.lemmas.List.{length-append}
use Rattle.std.proofs.lemmas.List.Elements.{All-head, All-tail}
use Rattle.std.specs.Prelude.{Option, None, Some, is_some, filter, not, ◌==◌, if◌then◌else◌}
use Rattle.tide_model.specs.declared.val.Val.{Val}
use Rattle.tide_model.specs.declared.val.Val.TheVariants.{Empty, Int, Cell}
use Rattle.tide_model.specs.declared.op.Op.{Op}
use Rattle.tide_model.specs.declared.op.Op.TheVariants.{Put, Claim, Release, Unclaim, Add, SetProp, PairSet, PairDel, Group, Retire}
use Rattle.tide_model.specs.declared.op.Reply.{Reply}
use Rattle.tide_model.specs.declared.op.Reply.TheVariants.{Done, Born, Seen, Asked, Refused}
use Rattle.tide_model.specs.declared.entry.Entry.{Entry}
use Rattle.tide_model.specs.declared.entry.Entry.TheVariants.{Call, Begin, Pause, Visits, End, Taken, Sweep, Open}
use Rattle.tide_model.specs.declared.entry.Event.{Event}
use Rattle.tide_model.specs.Applied.{after_call, at_cell, add_property, put_cell, put_claims, put_pair, put_property, put_slot}
use Rattle.tide_model.specs.History.{after_entry, after_event, is_call_of, state_after, state_from}
use Rattle.tide_model.specs.Layout.{Layout}
use Rattle.tide_model.specs.Script.{is_retire}
use Rattle.tide_model.specs.Script.{calls_of, own_calls, retry_after_all, script_from, script_of}
use Rattle.tide_model.specs.State.{State}
use Rattle.tide_model.proofs.ActiveLaws.{active_after-call}
use Rattle.tide_model.proofs.Histories.{calls_of-append, state_after-append, take-append-short}
use Rattle.tide_model.proofs.ReferenceLaws.{after_call-refused}
use Rattle.tide_periods.specs.Asking.{IsAt, IsMutatorAt, Standing, claims_after}
use Rattle.tide_periods.specs.Store.{Setting}
use Rattle.tide_model.proofs.Prefixes.{none_joins}
use Rattle.tide_model.proofs.OwnCalls.{own_calls-other}

claims_at-cell : (state : State) (who : ℕ) (value : Val) (change : ℕ → State) → ((cell : ℕ) → (change cell).claims who ≡ state.claims who) → (at_cell state value change).claims who ≡ state.claims who
claims_at-cell state who Empty change same = refl
claims_at-cell state who (Int n) change same = refl
claims_at-cell state who (Cell cell) change same = same cell

claims_put-slot : (state : State) (who : ℕ) (source : Val) (slot : ℕ) (value : Val) → (put_slot state source slot value).claims who ≡ state.claims who
claims_put-slot state who Empty slot value = refl
claims_put-slot state who (Int n) slot value = refl
claims_put-slot state who (Cell cell) slot value = refl

put_claims-others : (state : State) (who other : ℕ) (claims : List ℕ) → who ≢ other → (put_claims state other claims).claims who ≡ state.claims who
put_claims-others state who other claims apart = step (who == other) refl
  where
    step : (b : Bool) → (who == other) ≡ b → (if b then claims else state.claims who) ≡ state.claims who
    step true e = absurd (apart (eqb-true who other e))
    step false e = refl

-- a call leaves what others claim
claims-others : (state : State) (who other : ℕ) (op : Op) (reply : Reply) (took : Option ℕ) → who ≢ other → (after_call state other op reply took).claims who ≡ state.claims who
claims-others state who other Retire Done took apart = refl
claims-others state who other op (Refused refusal) took apart = ap (λ (s : State). s.claims who) (after_call-refused state other op refusal took)
claims-others state who other (Put src slot val) Done took apart = claims_put-slot state who (state.registers other src) slot (state.registers other val)
claims-others state who other (Claim src) Done took apart =
    claims_at-cell state who (state.registers other src) (λ cell. put_claims state other (state.claims other ++ cell ∷ []))
    (λ cell. put_claims-others state who other (state.claims other ++ cell ∷ []) apart)
claims-others state who other (Release src) Done took apart =
    claims_at-cell state who (state.registers other src) (λ cell. put_claims state other (filter (λ claimed. not (claimed == cell)) (state.claims other)))
    (λ cell. put_claims-others state who other (filter (λ claimed. not (claimed == cell)) (state.claims other)) apart)
claims-others state who other Unclaim Done took apart = put_claims-others state who other (drop 1 (state.claims other)) apart
claims-others state who other (Add src key val) Done took apart =
    claims_at-cell state who (state.registers other src) (λ cell. add_property state cell key (state.registers other val) took) (λ cell. refl)
claims-others state who other (SetProp src key val) Done took apart =
    claims_at-cell state who (state.registers other src) (λ cell. put_property state cell key (state.registers other val)) (λ cell. refl)
claims-others state who other (PairSet src key val) Done took apart =
    claims_at-cell state who (state.registers other src) (λ table. at_cell state (state.registers other key) (λ cell. put_pair state table cell (Some (state.registers other val))))
    (λ table. claims_at-cell state who (state.registers other key) (λ cell. put_pair state table cell (Some (state.registers other val))) (λ cell. refl))
claims-others state who other (PairDel src key) Done took apart =
    claims_at-cell state who (state.registers other src) (λ table. at_cell state (state.registers other key) (λ cell. put_pair state table cell None))
    (λ table. claims_at-cell state who (state.registers other key) (λ cell. put_pair state table cell None) (λ cell. refl))
claims-others state who other (Group src n) Done took apart =
    claims_at-cell state who (state.registers other src) (λ cell. put_cell state cell (record (state.cells cell) { group = n })) (λ cell. refl)
claims-others state who other op reply took apart = refl

-- a call leaves who else is active
active-others : (state : State) (who other : ℕ) (op : Op) (reply : Reply) (took : Option ℕ) → who ≢ other → (after_call state other op reply took).active who ≡ state.active who
active-others state who other op reply took apart = step (is_retire op) refl
  where
    retire_from_test : (o : Op) → is_retire o ≡ true → o ≡ Retire
    retire_from_test Retire h = refl
    retire_from_test o h = absurd (cc)

    retiring : (r : Reply) → (after_call state other Retire r took).active who ≡ state.active who
    retiring Done = same (who == other) refl
      where
        same : (b : Bool) → (who == other) ≡ b → (if b then false else state.active who) ≡ state.active who
        same true e = absurd (apart (eqb-true who other e))
        same false e = refl
    retiring (Born cell) = refl
    retiring (Seen value) = refl
    retiring Asked = refl
    retiring (Refused refusal) = refl

    step : (b : Bool) → is_retire op ≡ b → (after_call state other op reply took).active who ≡ state.active who
    step true e = ap (λ (o : Op). (after_call state other o reply took).active who) (retire_from_test op e) ∙ retiring reply
    step false e = ap (λ (a : ℕ → Bool). a who) (active_after-call state other op reply took e)

is_other-no_calls : (who : ℕ) (entry : Entry) → own_calls who entry ≡ [] → is_call_of who entry ≡ false
is_other-no_calls who (Call w op reply) none = step (w == who) refl none
  where
    step : (b : Bool) → (w == who) ≡ b → if◌then◌else◌ {A = List (Op × Reply)} b ((op, reply) ∷ []) [] ≡ [] → (w == who) ≡ false
    step true e clash = absurd (cc)
    step false e none' = e
is_other-no_calls who (Begin cycle full) none = refl
is_other-no_calls who (Pause visits) none = refl
is_other-no_calls who (Visits w visits) none = refl
is_other-no_calls who (End cycle freed) none = refl
is_other-no_calls who (Taken block) none = refl
is_other-no_calls who (Sweep block) none = refl
is_other-no_calls who (Open number run) none = refl

-- another mutator's call is none of this one's
other-call : (who other : ℕ) (entry : Entry) → who ≢ other → is_call_of other entry ≡ true → is_call_of who entry ≡ false
other-call who other (Call w op reply) apart of = step (w == who) refl
  where
    step : (b : Bool) → (w == who) ≡ b → (w == who) ≡ false
    step true e = absurd (apart (sym (eqb-true w who e) ∙ eqb-true w other of))
    step false e = e
other-call who other (Begin cycle full) apart of = refl
other-call who other (Pause visits) apart of = refl
other-call who other (Visits w visits) apart of = refl
other-call who other (End cycle freed) apart of = refl
other-call who other (Taken block) apart of = refl
other-call who other (Sweep block) apart of = refl
other-call who other (Open number run) apart of = refl

-- so where each event is one of another's calls, there is none of this one's
pub calls_of-others : (who other : ℕ) (events : List Event) → who ≢ other → All (λ event. is_call_of other event.entry ≡ true) events → calls_of who events ≡ []
calls_of-others who other [] apart all = refl
calls_of-others who other (event ∷ events) apart all =
    ap (λ (mine : List (Op × Reply)). mine ++ calls_of who events)
    (own_calls-other who event.entry (other-call who other event.entry apart (All-head (λ e. is_call_of other e.entry ≡ true) event events all)))
    ∙ calls_of-others who other events apart (All-tail (λ e. is_call_of other e.entry ≡ true) event events all)

-- events without a call of a mutator leave what each entry leaves that isn't its call
from-quiet : {X : Type 0} (part : State → X) (who : ℕ) →
    ((layout : Layout) (before : State) (entry : Entry) (took : Option ℕ) → is_call_of who entry ≡ false → part (after_entry layout before entry took) ≡ part before) →
    (layout : Layout) (state : State) (events : List Event) → calls_of who events ≡ [] → part (state_from layout state events) ≡ part state
from-quiet {X} part who keeps layout state [] quiet = refl
from-quiet {X} part who keeps layout state (event ∷ events) quiet =
    let none = none_joins (own_calls who event.entry) (calls_of who events) quiet in
    from-quiet part who keeps layout (after_event layout state event) events none.1
    ∙ keeps layout state event.entry event.took (is_other-no_calls who event.entry none.0)

claims-entry : (who : ℕ) (layout : Layout) (before : State) (entry : Entry) (took : Option ℕ) → is_call_of who entry ≡ false → (after_entry layout before entry took).claims who ≡ before.claims who
claims-entry who layout before (Call w op reply) took other = claims-others before who w op reply took (λ same. eqb-false w who other (sym same))
claims-entry who layout before (Begin cycle full) took other = refl
claims-entry who layout before (Pause visits) took other = refl
claims-entry who layout before (Visits w visits) took other = refl
claims-entry who layout before (End cycle freed) took other = refl
claims-entry who layout before (Taken block) took other = refl
claims-entry who layout before (Sweep block) took other = refl
claims-entry who layout before (Open number run) took other = refl

active-entry : (who : ℕ) (layout : Layout) (before : State) (entry : Entry) (took : Option ℕ) → is_call_of who entry ≡ false → (after_entry layout before entry took).active who ≡ before.active who
active-entry who layout before (Call w op reply) took other = active-others before who w op reply took (λ same. eqb-false w who other (sym same))
active-entry who layout before (Begin cycle full) took other = refl
active-entry who layout before (Pause visits) took other = refl
active-entry who layout before (Visits w visits) took other = refl
active-entry who layout before (End cycle freed) took other = refl
active-entry who layout before (Taken block) took other = refl
active-entry who layout before (Sweep block) took other = refl
active-entry who layout before (Open number run) took other = refl

-- what a mutator claims, and whether it is active, after events without a call of its
pub claims_after-quiet : (layout : Layout) (history events : List Event) (who : ℕ) → calls_of who events ≡ [] →
    (state_after layout (history ++ events)).claims who ≡ (state_after layout history).claims who
claims_after-quiet layout history events who quiet =
    ap (λ (s : State). s.claims who) (state_after-append layout history events)
    ∙ from-quiet (λ (s : State). s.claims who) who (claims-entry who) layout (state_after layout history) events quiet

pub active_after-quiet : (layout : Layout) (history events : List Event) (who : ℕ) → calls_of who events ≡ [] →
    (state_after layout (history ++ events)).active who ≡ (state_after layout history).active who
active_after-quiet layout history events who quiet =
    ap (λ (s : State). s.active who) (state_after-append layout history events)
    ∙ from-quiet (λ (s : State). s.active who) who (active-entry who) layout (state_after layout history) events quiet

-- a mutator is as far as it was where it made no call
pub IsMutatorAt-quiet : (setting : Setting) (history events : List Event) (who : ℕ) (ops : List Op) (standing : Standing) (calls : List (Op × Reply)) → calls_of who events ≡ [] →
    IsMutatorAt setting history who ops standing calls → IsMutatorAt setting (history ++ events) who ops standing calls
IsMutatorAt-quiet setting history events who ops standing calls quiet at = record {
  is_mutator = at.is_mutator;
  askable = at.askable;
  asked = at.asked;
  total = at.total;
  moment = at.moment;
  in_history = (let sum = length-append history events in let le = at.in_history in omega (arith, sum, le));
  was_done = λ done.
      let was = at.was_done done in
      let until = take-append-short history events at.moment at.in_history in
      record { script = ap (script_of who) until ∙ was.script; claims = ap (λ (h : List Event). claims_after setting.layout h who) until ∙ was.claims };
  at = subst (IsAt ops standing (script_of who (history ++ events)) at.total) (sym held)
      (subst (λ (s : List Op). IsAt ops standing s at.total (claims_after setting.layout history who)) (ap (script_from None) (sym own)) at.at);
  retry = at.retry ∙ ap (λ (c : List (Op × Reply)). is_some (retry_after_all None c)) (sym own);
  retries = λ op pending. at.retries op (ap (retry_after_all None) (sym own) ∙ pending);
  active = active_after-quiet setting.layout history events who quiet ∙ at.active;
  are = own ∙ at.are;
}
  where
    own : calls_of who (history ++ events) ≡ calls_of who history
    own = calls_of-append who history events ∙ ap (λ (more : List (Op × Reply)). calls_of who history ++ more) quiet ∙ append-nil (calls_of who history)

    held : claims_after setting.layout (history ++ events) who ≡ claims_after setting.layout history who
    held = ap (λ (c : List ℕ). length c) (claims_after-quiet setting.layout history events who quiet)
