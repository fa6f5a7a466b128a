-- How a mutator's share grows by a call where others make theirs meanwhile.
use Rattle.std.proofs.Common.{ℕ, zero, suc, ◌≡◌, ◌+◌, ◌<◌, ◌≤◌, refl, sym, ◌∙◌, ap, subst, arith, Bool, true, false, List, [], ◌∷◌, ◌++◌, length, append_assoc, append-nil, inl, inr, eq-eqb}
use Rattle.std.proofs.lemmas.List.{append_cancel_right, length-append}
use Rattle.std.proofs.lemmas.List.Elements.{All-nil, All-push, filter-append}
use Rattle.std.specs.Prelude.{Option, None, filter, is_some, not, ◌&&◌, ◌||◌, map, if◌then◌else◌}
use Rattle.tide_model.specs.declared.op.Op.{Op}
use Rattle.tide_model.specs.declared.op.Reply.{Reply}
use Rattle.tide_model.specs.declared.entry.Entry.{Entry}
use Rattle.tide_model.specs.declared.entry.Entry.TheVariants.{Call, Begin, Pause, Visits, End, Taken, Sweep, Open}
use Rattle.tide_model.specs.declared.entry.Event.{Event}
use Rattle.tide_model.specs.Answer.{IsAnswer}
use Rattle.tide_model.specs.Caller.{IsOwn, MakesCall}
use Rattle.tide_model.specs.History.{after_entry, is_call_of, state_after}
use Rattle.tide_model.specs.Lawful.{IsLawful, Stands, StandsEntry}
use Rattle.tide_model.specs.Layout.{Layout}
use Rattle.tide_model.specs.Prefix.{IsPrefix, prefix_refl, prefix_trans}
use Rattle.tide_model.specs.Refused.{ShapeLists}
use Rattle.tide_model.specs.Script.{calls_of, is_full_reply, retry_after_all, retry_of}
use Rattle.tide_model.specs.Share.{HasCallLeft, ends_share, has_ended, is_asked}
use Rattle.tide_model.specs.Each.{Each}
use Rattle.tide_model.proofs.CallKeeps.{HasFewClaims, HasFewClaims-call}
use Rattle.tide_model.proofs.Histories.{IsLawful-elim, push_cases, state_after-push}
use Rattle.tide_model.proofs.PeriodLaws.{Each-nil, has_ended-push}
use Rattle.tide_periods.specs.declared.cursor.ScriptCursor.{ScriptCursor}
use Rattle.tide_periods.specs.Asking.{IsCursorAt, TookReply, claims_after, next_of, op_or_leave, standing_of}
use Rattle.tide_periods.specs.Answered.{pair_of}
use Rattle.tide_periods.specs.Left.{left_at, left_of}
use Rattle.tide_periods.specs.Own.{AreClaims, IsCursorWithin, RanOwnShare, left_within}
use Rattle.tide_periods.specs.Store.{Setting}
use Rattle.tide_periods.proofs.LeftLaws.{left-none, left-some, left-taken}
use Rattle.tide_model.proofs.Prefixes.{filter-rest, prefix_before}
use Rattle.tide_periods.proofs.PartLoops.{IsSharingOwn}
use Rattle.tide_periods.proofs.Quiet.{IsMutatorAt-quiet, claims_after-quiet}
use Rattle.tide_periods.proofs.Sharing.{IsCursorAt-took}
use Rattle.tide_model.proofs.OwnCalls.{called, calls_of-mine, calls_of-own, calls_of-push, is_own, is_some-flag, retry_after-flag, retry_of-events, stands_last}

-- no call of a mutator comes after a beginning that has all of them
pub quiet-rest : (who : ℕ) (known history mine : List Event) (prefix : IsPrefix known history) → IsOwn who known mine → IsOwn who history mine → calls_of who prefix.rest ≡ []
quiet-rest who known history mine prefix own all =
    sym (calls_of-own who prefix.rest) ∙ ap (calls_of who) (filter-rest (is_own who) known history prefix (sym own ∙ all))

-- so its cursor stands at the longer history as it stands at the beginning
pub IsCursorAt-longer : (setting : Setting) (known history mine : List Event) (cursor : ScriptCursor) (prefix : IsPrefix known history) → IsOwn cursor.who known mine → IsOwn cursor.who history mine →
    IsCursorAt setting known cursor → IsCursorAt setting history cursor
IsCursorAt-longer setting known history mine cursor prefix own all at =
    subst (λ (h : List Event). IsCursorAt setting h cursor) prefix.joins
    (IsMutatorAt-quiet setting known prefix.rest cursor.who cursor.ops.items (standing_of cursor) (map pair_of cursor.calls.items)
    (quiet-rest cursor.who known history mine prefix own all) at)

pub claims-longer : (layout : Layout) (who : ℕ) (known history mine : List Event) (prefix : IsPrefix known history) → IsOwn who known mine → IsOwn who history mine →
    (state_after layout history).claims who ≡ (state_after layout known).claims who
claims-longer layout who known history mine prefix own all =
    ap (λ (h : List Event). (state_after layout h).claims who) (sym prefix.joins)
    ∙ claims_after-quiet layout known prefix.rest who (quiet-rest who known history mine prefix own all)

-- after a lawful history nobody claims more than 8 cells
pub few_claims : (layout : Layout) (shapes : ShapeLists) (history : List Event) → IsLawful layout shapes history → HasFewClaims (state_after layout history)
few_claims layout shapes history lawful =
    IsLawful-elim layout shapes (λ h. HasFewClaims (state_after layout h)) (λ who. omega arith) one_more history lawful
  where
    one_more : (before : List Event) (event : Event) → HasFewClaims (state_after layout before) → Stands layout shapes before event → HasFewClaims (state_after layout (before ++ event ∷ []))
    one_more before event few stands =
        subst HasFewClaims (sym (state_after-push layout before event)) (step event.entry event.took stands)
      where
        step : (entry : Entry) (took : Option ℕ) → StandsEntry layout shapes before entry took → HasFewClaims (after_entry layout (state_after layout before) entry took)
        step (Call who op reply) took stands' = HasFewClaims-call layout shapes (state_after layout before) who op reply took few stands'.answers
        step (Begin cycle full) took stands' = few
        step (Pause visits) took stands' = few
        step (Visits who visits) took stands' = few
        step (End cycle freed) took stands' = few
        step (Taken block) took stands' = few
        step (Sweep block) took stands' = few
        step (Open number run) took stands' = few

-- what a call was made of: a history between, which has all that its cursor had made before
pub record HasBetween (setting : Setting) (who : ℕ) (op : Op) (reply : Reply) (took : Option ℕ) (known between seen mine mine_now : List Event) : Type 0 where
  pub prefix : IsPrefix known between
  pub own : IsOwn who between mine
  pub answers : IsAnswer setting.layout setting.shapes (state_after setting.layout between) who op reply took
  pub few : claims_after setting.layout (between ++ called who op reply took ∷ []) who ≤ 8

pub between_of : (setting : Setting) (who : ℕ) (op : Op) (reply : Reply) (known seen seen_now mine mine_now : List Event) → IsPrefix known seen → IsOwn who known mine →
    (makes : MakesCall setting.layout setting.shapes who op reply seen seen_now mine mine_now) → HasBetween setting who op reply makes.took known makes.between seen_now mine mine_now
between_of setting who op reply known seen seen_now mine mine_now earlier knows makes = record {
  prefix = elim (prefix_before known makes.between event (subst (IsPrefix known) makes.ends (prefix_trans known seen seen_now earlier makes.seen))) [
    | inl shorter ↦ shorter
    | inr whole ↦
        let same : mine ≡ mine_now = knows ∙ ap (filter (is_own who)) (whole ∙ sym makes.ends) ∙ sym makes.are_own in
        let longer = ap (λ (l : List Event). length l) (same ∙ makes.adds) in
        let counted = length-append mine (event ∷ []) in
        absurd (omega (arith, longer, counted))
  ];
  own = append_cancel_right mine (filter (is_own who) makes.between) (event ∷ [])
      (sym makes.adds ∙ makes.are_own ∙ ap (filter (is_own who)) makes.ends ∙ filter-append (is_own who) makes.between (event ∷ [])
      ∙ ap (λ (b : Bool). filter (is_own who) makes.between ++ (if b then event ∷ [] else [])) (eq-eqb who who refl));
  answers = (stands_last setting.layout setting.shapes makes.between event lawful).answers;
  few = few_claims setting.layout setting.shapes (makes.between ++ event ∷ []) lawful who;
}
  where
    event : Event
    event = called who op reply makes.took

    lawful : IsLawful setting.layout setting.shapes (makes.between ++ event ∷ [])
    lawful = subst (IsLawful setting.layout setting.shapes) makes.ends makes.lawful

-- no call was made yet
pub IsSharingOwn-nothing : (setting : Setting) (run : ℕ) (seen mine : List Event) (cursor : ScriptCursor) → IsCursorWithin setting seen mine cursor → IsSharingOwn setting run seen seen mine mine cursor cursor 0 false
IsSharingOwn-nothing setting run seen mine cursor within = record {
  grows = prefix_refl seen;
  more = [];
  adds = sym (append-nil mine);
  own = All-nil (λ event. is_call_of cursor.who event.entry ≡ true);
  each = Each-nil (HasCallLeft run (retry_of cursor.who mine));
  count = refl;
  stops = refl;
  who = refl;
  ops = refl;
  before = within;
  after = within;
  left = omega arith;
}

-- one call more
pub IsSharingOwn-called : (setting : Setting) (run made : ℕ) (seen seen_then seen_now mine mine_then mine_now : List Event) (old cursor taken : ScriptCursor) (claims : List ℕ) (op : Op) (reply : Reply) →
    IsSharingOwn setting run seen seen_then mine mine_then old cursor made false → made < run → cursor.retired ≡ false →
    AreClaims setting.layout cursor.who mine_then claims → op ≡ next_of cursor.ops.items (standing_of cursor) (length claims) →
    MakesCall setting.layout setting.shapes cursor.who op reply seen_then seen_now mine_then mine_now → TookReply cursor taken op reply →
    IsSharingOwn setting run seen seen_now mine mine_now old taken (made + 1) (is_asked reply || (not cursor.retry && is_full_reply reply))
IsSharingOwn-called setting run made seen seen_then seen_now mine mine_then mine_now old cursor taken claims op reply sharing below stays are is makes record' = record {
  grows = prefix_trans seen seen_then seen_now sharing.grows makes.seen;
  more = sharing.more ++ event ∷ [];
  adds = makes.adds ∙ ap (λ (l : List Event). l ++ event ∷ []) sharing.adds ∙ append_assoc mine sharing.more (event ∷ []);
  own = All-push (λ e. is_call_of old.who e.entry ≡ true) sharing.more event sharing.own (eq-eqb cursor.who old.who sharing.who);
  each = subst (Each (HasCallLeft run retry)) (sym grown)
      (push_cases (HasCallLeft run retry) own (op, reply) sharing.each (record {
        left = let count = sharing.count in omega (arith, count, below);
        goes_on = sharing.stops;
        retries = λ o pending. is ∙ ap (λ (x : Option Op). op_or_leave x (length claims)) (at.retries o (still ∙ pending));
      }));
  count = ap length grown ∙ length-append own ((op, reply) ∷ []) ∙ ap (λ (n : ℕ). n + 1) sharing.count;
  stops = ap (has_ended retry) grown ∙ has_ended-push false retry own (op, reply)
      ∙ ap (λ (o : Option Op). ends_share o (op, reply)) (sym still)
      ∙ ap (λ (o : Option Op). is_asked reply || is_some o) (retry_after-flag (retry_of cursor.who known) cursor.retry op reply at.retry)
      ∙ ap (λ (b : Bool). is_asked reply || b) (is_some-flag (not cursor.retry && is_full_reply reply) op);
  who = record'.who ∙ sharing.who;
  ops = record'.ops ∙ sharing.ops;
  before = sharing.before;
  after = record {
    known = seen_now;
    earlier = prefix_refl seen_now;
    lawful = makes.lawful;
    own = subst (λ (w : ℕ). IsOwn w seen_now mine_now) (sym record'.who) makes.are_own;
    at = subst (λ (h : List Event). IsCursorAt setting h taken) (sym makes.ends)
        (IsCursorAt-took setting makes.between cursor taken op reply makes.took at_between stays next between.answers record');
  };
  left = (let fewer = subst (λ (h : List Event). left_of (state_after setting.layout h).claims taken + 1 ≤ left_of (state_after setting.layout makes.between).claims cursor) (sym makes.ends)
      (left-taken setting makes.between cursor taken op reply makes.took at_between stays next between.answers between.few record') in
      let so_far = sharing.left in omega (arith, fewer, so_far, same_left));
}
  where
    event : Event
    event = called cursor.who op reply makes.took

    known : List Event
    known = sharing.after.known

    at : IsCursorAt setting known cursor
    at = sharing.after.at

    retry : Option Op
    retry = retry_of old.who mine

    own : List (Op × Reply)
    own = calls_of old.who sharing.more

    grown : calls_of old.who (sharing.more ++ event ∷ []) ≡ own ++ (op, reply) ∷ []
    grown = ap (λ (w : ℕ). calls_of old.who (sharing.more ++ called w op reply makes.took ∷ [])) sharing.who ∙ calls_of-push old.who sharing.more op reply makes.took

    still : retry_of cursor.who known ≡ retry_after_all retry own
    still = ap (retry_after_all None) (sym (calls_of-mine cursor.who known mine_then sharing.after.own))
        ∙ ap (λ (w : ℕ). retry_of w mine_then) sharing.who ∙ ap (retry_of old.who) sharing.adds ∙ retry_of-events old.who mine sharing.more

    between : HasBetween setting cursor.who op reply makes.took known makes.between seen_now mine_then mine_now
    between = between_of setting cursor.who op reply known seen_then seen_now mine_then mine_now sharing.after.earlier sharing.after.own makes

    at_between : IsCursorAt setting makes.between cursor
    at_between = IsCursorAt-longer setting known makes.between mine_then cursor between.prefix sharing.after.own between.own at

    next : op ≡ next_of cursor.ops.items (standing_of cursor) (claims_after setting.layout makes.between cursor.who)
    next = is ∙ ap (λ (l : List ℕ). next_of cursor.ops.items (standing_of cursor) (length l)) (are makes.between between.own)

    same_left : left_of (state_after setting.layout makes.between).claims cursor ≡ left_within sharing.after
    same_left = ap (λ (l : List ℕ). left_at cursor.ops.items (standing_of cursor) (length l))
        (claims-longer setting.layout cursor.who known makes.between mine_then between.prefix sharing.after.own between.own)

-- all calls were made, or the mutator has retired
pub RanOwnShare-over : (setting : Setting) (run made : ℕ) (seen seen_now mine mine_now : List Event) (old new : ScriptCursor) → IsSharingOwn setting run seen seen_now mine mine_now old new made false →
    (made < run → new.retired ≡ true) → RanOwnShare setting run seen seen_now mine mine_now old new false
RanOwnShare-over setting run made seen seen_now mine mine_now old new sharing retires = record {
  grows = sharing.grows;
  more = sharing.more;
  adds = sharing.adds;
  own = sharing.own;
  share = record { each = sharing.each; fewer = λ few. inl (ap not (retires (let count = sharing.count in omega (arith, count, few)))) };
  stops = sym sharing.stops;
  who = sharing.who;
  ops = sharing.ops;
  before = sharing.before;
  after = sharing.after;
  left = (let left = sharing.left in omega (arith, left));
  fewer = fewer made refl;
}
  where
    fewer : (n : ℕ) → made ≡ n → 0 < run → old.retired ≡ false → left_within sharing.after < left_within sharing.before
    fewer zero none some stays =
        let over = left-none (state_after setting.layout sharing.after.known).claims new (retires (omega (arith, none, some))) in
        let had = left-some old.ops.items (standing_of old) (length ((state_after setting.layout sharing.before.known).claims old.who)) stays in
        omega (arith, over, had)
    fewer (suc n) is some stays = (let left = sharing.left in omega (arith, left, is))

-- the last call ended the share
pub RanOwnShare-stops : (setting : Setting) (run made : ℕ) (seen seen_now mine mine_now : List Event) (old new : ScriptCursor) → IsSharingOwn setting run seen seen_now mine mine_now old new (made + 1) true →
    RanOwnShare setting run seen seen_now mine mine_now old new true
RanOwnShare-stops setting run made seen seen_now mine mine_now old new sharing = record {
  grows = sharing.grows;
  more = sharing.more;
  adds = sharing.adds;
  own = sharing.own;
  share = record { each = sharing.each; fewer = λ few. inr sharing.stops };
  stops = sym sharing.stops;
  who = sharing.who;
  ops = sharing.ops;
  before = sharing.before;
  after = sharing.after;
  left = (let left = sharing.left in omega (arith, left));
  fewer = λ some stays. (let left = sharing.left in omega (arith, left));
}
