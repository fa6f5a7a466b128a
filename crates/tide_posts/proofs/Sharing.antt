-- How a mutator's share grows by its calls, as far as its own view tells.
use Rattle.std.proofs.Common.{ℕ, ◌≡◌, ◌+◌, ◌≤◌, ◌<◌, refl, sym, ◌∙◌, ap, subst, arith, Bool, true, false, List, [], ◌∷◌, ◌++◌, append_assoc, append-nil, length, inl, inr}
use Rattle.std.proofs.lemmas.List.{length-append}
use Rattle.std.specs.Prelude.{Option, None, Some, filter, nat_lt, if◌then◌else◌}
use Rattle.tide_heap.proofs.Leaving.{inactive-retired}
use Rattle.tide_heap.specs.Parties.{longer}
use Rattle.tide_model.proofs.Histories.{push_cases}
use Rattle.tide_model.proofs.PeriodLaws.{Each-nil, has_ended-push, open_count-prefix}
use Rattle.tide_model.specs.Caller.{IsOwn, MakesCall}
use Rattle.tide_model.specs.Each.{Each}
use Rattle.tide_model.specs.History.{is_call_of, state_after}
use Rattle.tide_model.specs.Layout.{Layout}
use Rattle.tide_model.specs.Periods.{open_count}
use Rattle.tide_model.specs.Prefix.{IsPrefix, prefix_refl, prefix_trans}
use Rattle.tide_model.specs.Refused.{ShapeLists}
use Rattle.tide_model.specs.Script.{calls_of, retry_after_all, retry_of}
use Rattle.tide_model.specs.Share.{HasCallLeft, ends_share, has_ended}
use Rattle.tide_model.specs.declared.op.Op.{Op}
use Rattle.tide_model.specs.declared.op.Op.TheVariants.{Retire}
use Rattle.tide_model.specs.declared.op.Reply.{Reply}
use Rattle.tide_model.specs.declared.op.Reply.TheVariants.{Done}
use Rattle.tide_model.specs.declared.entry.Event.{Event}
use Rattle.tide_model.proofs.OwnCalls.{called, calls_of-own, calls_of-push, retry_of-events}
use Rattle.tide_posts.specs.Openings.{IsOpening}
use Rattle.tide_posts.specs.Shares.{HasShared, IsSharing}

-- A mutator that had stopped before the part of its ticket was opened has seen just what the ticket told, once it has
-- begun: of what it had seen and what the ticket told one is a beginning of the other, and the ticket tells of more
-- openings.
pub seen_of_ticket : (number run period : ℕ) (earlier told seen : List Event) → IsOpening number run told →
    open_count earlier ≤ period → period < number → seen ≡ longer earlier told → IsPrefix told seen → seen ≡ told
seen_of_ticket number run period earlier told seen opens few later is prefix =
    by_test (nat_lt (length earlier) (length told)) is
  where
    by_test : (b : Bool) → seen ≡ (if b then told else earlier) → seen ≡ told
    by_test true same = same
    by_test false same =
        let more = open_count-prefix told earlier (subst (IsPrefix told) same prefix) in
        let count = opens.count in
        absurd (omega (arith, more, count, few, later))

-- no call was made yet
pub IsSharing-nothing : (who number run : ℕ) (told seen mine : List Event) → IsOpening number run told → seen ≡ told →
    IsOwn who seen mine → IsSharing who number run seen mine 0 false
IsSharing-nothing who number run told seen mine opens same own = record {
  told = told;
  opening = opens;
  grows = subst (IsPrefix told) (sym same) (prefix_refl told);
  more = [];
  adds = own ∙ ap (filter (λ event. is_call_of who event.entry)) same
      ∙ sym (append-nil (filter (λ event. is_call_of who event.entry) told));
  each = Each-nil (HasCallLeft run (retry_of who told));
  count = refl;
  stops = refl;
  own = own;
}

-- one call more
pub IsSharing-more : (layout : Layout) (shapes : ShapeLists) (who number run made : ℕ) (op : Op) (reply : Reply)
    (seen seen_now mine mine_now : List Event) → IsSharing who number run seen mine made false → made < run →
    ((o : Op) → retry_of who mine ≡ Some o → op ≡ o) →
    (makes : MakesCall layout shapes who op reply seen seen_now mine mine_now) →
    IsSharing who number run seen_now mine_now (made + 1) (ends_share (retry_of who mine) (op, reply))
IsSharing-more layout shapes who number run made op reply seen seen_now mine mine_now sharing below same makes = record {
  told = sharing.told;
  opening = sharing.opening;
  grows = prefix_trans sharing.told seen seen_now sharing.grows makes.seen;
  more = sharing.more ++ event ∷ [];
  adds = makes.adds ∙ ap (λ (l : List Event). l ++ event ∷ []) sharing.adds ∙ append_assoc before sharing.more (event ∷ []);
  each = subst (Each (HasCallLeft run retry)) (sym grown)
      (push_cases (HasCallLeft run retry) so_far (op, reply) sharing.each (record {
        left = let count = sharing.count in omega (arith, count, below);
        goes_on = sharing.stops;
        retries = λ o pending. same o (still ∙ pending);
      }));
  count = ap (λ (l : List (Op × Reply)). length l) grown ∙ length-append so_far ((op, reply) ∷ []) ∙ ap (λ (n : ℕ). n + 1) sharing.count;
  stops = ap (has_ended retry) grown ∙ has_ended-push false retry so_far (op, reply)
      ∙ ap (λ (r : Option Op). ends_share r (op, reply)) (sym still);
  own = makes.are_own;
}
  where
    event : Event
    event = called who op reply makes.took

    retry : Option Op
    retry = retry_of who sharing.told

    before : List Event
    before = filter (λ event. is_call_of who event.entry) sharing.told

    so_far : List (Op × Reply)
    so_far = calls_of who sharing.more

    grown : calls_of who (sharing.more ++ event ∷ []) ≡ so_far ++ (op, reply) ∷ []
    grown = calls_of-push who sharing.more op reply makes.took

    still : retry_of who mine ≡ retry_after_all retry so_far
    still = ap (retry_of who) sharing.adds ∙ retry_of-events who before sharing.more
        ∙ ap (λ (calls : List (Op × Reply)). retry_after_all (retry_after_all None calls) so_far) (calls_of-own who sharing.told)

-- the share is made: all calls, or the last one ended it
pub HasShared-over : (who number run made : ℕ) (seen mine : List Event) (ended : Bool) →
    IsSharing who number run seen mine made ended → (made < run → ended ≡ true) →
    HasShared who number run seen mine false ended false
HasShared-over who number run made seen mine ended sharing over = record {
  told = sharing.told;
  opening = sharing.opening;
  grows = sharing.grows;
  more = sharing.more;
  adds = sharing.adds;
  share = record {
    each = sharing.each;
    fewer = λ few. inl (inr (sharing.stops ∙ over (let count = sharing.count in omega (arith, count, few))));
    early = λ is. absurd (cc);
  };
  stops = sym sharing.stops;
  retired = λ is. absurd (cc);
}

-- or the mutator stops early: it has calls left, and the last one let it go on
pub HasShared-early : (who number run made : ℕ) (seen mine : List Event) → IsSharing who number run seen mine made false →
    made < run → HasShared who number run seen mine false false true
HasShared-early who number run made seen mine sharing below = record {
  told = sharing.told;
  opening = sharing.opening;
  grows = sharing.grows;
  more = sharing.more;
  adds = sharing.adds;
  share = record {
    each = sharing.each;
    fewer = λ few. inr refl;
    early = λ is. (let count = sharing.count in omega (arith, count, below), refl, sharing.stops);
  };
  stops = sym sharing.stops;
  retired = λ is. absurd (cc);
}

-- or the mutator has retired with its last call
pub HasShared-retired : (layout : Layout) (shapes : ShapeLists) (who number run made : ℕ)
    (seen seen_now mine mine_now : List Event) (ended : Bool) → IsSharing who number run seen_now mine_now made ended →
    MakesCall layout shapes who Retire Done seen seen_now mine mine_now →
    HasShared who number run seen_now mine_now true ended false
HasShared-retired layout shapes who number run made seen seen_now mine mine_now ended sharing makes = record {
  told = sharing.told;
  opening = sharing.opening;
  grows = sharing.grows;
  more = sharing.more;
  adds = sharing.adds;
  share = record { each = sharing.each; fewer = λ few. inl (inl refl); early = λ is. absurd (cc) };
  stops = sym sharing.stops;
  retired = λ is l. ap (λ (h : List Event). (state_after l h).active who) makes.ends ∙ inactive-retired l makes.between who makes.took;
}
