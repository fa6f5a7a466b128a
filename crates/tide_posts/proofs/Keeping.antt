-- What the notes of a part, with what a freeze tells, say of the part.
use Rattle.std.proofs.Common.{ℕ, ◌≡◌, ◌+◌, ◌≤◌, refl, sym, ◌∙◌, ap, subst, Bool, true, false, not, List, [], ◌∷◌, ◌++◌, append_assoc, append-nil, true≢false}
use Rattle.std.proofs.lemmas.Bool.{eqb-true}
use Rattle.std.proofs.lemmas.List.{append_cancel_left}
use Rattle.std.proofs.lemmas.List.Elements.{filter-append}
use Rattle.std.specs.Prelude.{Option, filter, if◌then◌else◌}
use Rattle.tide_heap.proofs.Leaving.{inactive-push}
use Rattle.tide_model.proofs.Histories.{IsLawful-prefix}
use Rattle.tide_model.specs.Caller.{IsOwn}
use Rattle.tide_model.specs.Freeze.{marks_after}
use Rattle.tide_model.specs.History.{is_call_of, state_after}
use Rattle.tide_model.specs.Lawful.{IsLawful, Stands, StandsEntry}
use Rattle.tide_model.specs.Layout.{Layout}
use Rattle.tide_model.specs.Prefix.{IsPrefix, prefix_trans}
use Rattle.tide_model.specs.Refused.{ShapeLists}
use Rattle.tide_model.specs.Script.{calls_of, retry_of}
use Rattle.tide_model.specs.Share.{has_ended}
use Rattle.tide_model.specs.declared.op.Op.{Op}
use Rattle.tide_model.specs.declared.op.Reply.{Reply}
use Rattle.tide_model.specs.declared.entry.Entry.{Entry}
use Rattle.tide_model.specs.declared.entry.Entry.TheVariants.{Call, Begin, Pause, Visits, End, Taken, Sweep, Open}
use Rattle.tide_model.specs.declared.entry.Event.{Event}
use Rattle.tide_model.proofs.OwnCalls.{calls_of-own, own_calls-other, stands_last}
use Rattle.tide_posts.proofs.Openings.{one_opening, one_run}
use Rattle.tide_posts.proofs.Schedule.{IsShareWhere-by}
use Rattle.tide_posts.specs.Openings.{IsOpening}
use Rattle.tide_posts.specs.Schedule.{IsShareWhere}
use Rattle.tide_posts.specs.Shares.{HasMarked, HasShared}

-- who isn't active stays so in all that follows
pub inactive-more : (layout : Layout) (who : ℕ) (before more : List Event) → (state_after layout before).active who ≡ false →
    (state_after layout (before ++ more)).active who ≡ false
inactive-more layout who before [] gone = subst (λ (h : List Event). (state_after layout h).active who ≡ false) (sym (append-nil before)) gone
inactive-more layout who before (event ∷ more) gone =
    subst (λ (h : List Event). (state_after layout h).active who ≡ false) (append_assoc before (event ∷ []) more)
    (inactive-more layout who (before ++ event ∷ []) more (inactive-push layout before event who gone))

pub inactive-prefix : (layout : Layout) (who : ℕ) (before whole : List Event) → IsPrefix before whole →
    (state_after layout before).active who ≡ false → (state_after layout whole).active who ≡ false
inactive-prefix layout who before whole prefix gone =
    subst (λ (h : List Event). (state_after layout h).active who ≡ false) prefix.joins
    (inactive-more layout who before prefix.rest gone)

-- and makes no call in a lawful history
pub none_of_inactive : (layout : Layout) (shapes : ShapeLists) (who : ℕ) (before more : List Event) →
    IsLawful layout shapes (before ++ more) → (state_after layout before).active who ≡ false → calls_of who more ≡ []
none_of_inactive layout shapes who before [] lawful gone = refl
none_of_inactive layout shapes who before (event ∷ more) lawful gone =
    ap (λ (own : List (Op × Reply)). own ++ calls_of who more) (own_calls-other who event.entry (no_call (is_call_of who event.entry) refl))
    ∙ none_of_inactive layout shapes who (before ++ event ∷ []) more
    (subst (IsLawful layout shapes) (sym (append_assoc before (event ∷ []) more)) lawful) (inactive-push layout before event who gone)
  where
    stands : Stands layout shapes before event
    stands = stands_last layout shapes before event
        (IsLawful-prefix layout shapes (before ++ event ∷ []) (before ++ event ∷ more)
        (record { rest = more; joins = append_assoc before (event ∷ []) more }) lawful)

    calls : (entry : Entry) (took : Option ℕ) → StandsEntry layout shapes before entry took → is_call_of who entry ≡ true → (state_after layout before).active who ≡ true
    calls (Call by op reply) took s is = subst (λ (n : ℕ). (state_after layout before).active n ≡ true) (eqb-true by who is) s.is_active
    calls (Begin cycle full) took s is = absurd (cc)
    calls (Pause visits) took s is = absurd (cc)
    calls (Visits by visits) took s is = absurd (cc)
    calls (End cycle freed) took s is = absurd (cc)
    calls (Taken block) took s is = absurd (cc)
    calls (Sweep block) took s is = absurd (cc)
    calls (Open n k) took s is = absurd (cc)

    no_call : (b : Bool) → is_call_of who event.entry ≡ b → is_call_of who event.entry ≡ false
    no_call true is = absurd (true≢false (sym (calls event.entry event.took stands is) ∙ gone))
    no_call false is = is

-- Below, a part was opened with `start`, and `part` came in it. A mutator's note of that part tells what it has seen
-- and its own calls, of which the whole history has no others.
module _ (layout : Layout) (who number run run' : ℕ) (start part seen mine : List Event) (left ended early : Bool)
    (opening : IsOpening number run' start) (did : HasShared who number run seen mine left ended early)
    (heard : IsPrefix seen (start ++ part)) (own : IsOwn who (start ++ part) mine) where
  same_start : did.told ≡ start
  same_start = one_opening number run run' did.told start (start ++ part) did.opening opening
      (prefix_trans did.told seen (start ++ part) did.grows heard) (record { rest = part; joins = refl })

  pub shared_run : run ≡ run'
  shared_run = one_run number run run' start (subst (IsOpening number run) same_start did.opening) opening

  abbrev test : Event → Bool
  test event = is_call_of who event.entry

  -- its calls of the part are those that it made
  shared_calls : calls_of who did.more ≡ calls_of who part
  shared_calls = ap (calls_of who) (append_cancel_left (filter test start) did.more (filter test part)
      (ap (λ (h : List Event). filter test h ++ did.more) (sym same_start) ∙ sym did.adds ∙ own ∙ filter-append test start part))
      ∙ calls_of-own who part

  pub shared_share : (left ≡ false → (state_after layout (start ++ part)).active who ≡ true) →
      IsShareWhere run' (retry_of who start) ((state_after layout (start ++ part)).active who) early (calls_of who part)
  shared_share stays =
      subst (λ (n : ℕ). IsShareWhere n (retry_of who start) ((state_after layout (start ++ part)).active who) early (calls_of who part)) shared_run
      (IsShareWhere-by run early (retry_of who did.told) (retry_of who start) (not left) ((state_after layout (start ++ part)).active who)
      (calls_of who did.more) (calls_of who part) (ap (retry_of who) same_start) (sym (active left refl)) shared_calls did.share)
    where
      active : (b : Bool) → left ≡ b → (state_after layout (start ++ part)).active who ≡ not left
      active true is = inactive-prefix layout who seen (start ++ part) heard (did.retired is layout) ∙ sym (ap not is)
      active false is = stays is ∙ sym (ap not is)

  pub shared_ended : has_ended (retry_of who start) (calls_of who part) ≡ ended
  shared_ended = ap (λ (h : List Event). has_ended (retry_of who h) (calls_of who part)) (sym same_start)
      ∙ ap (has_ended (retry_of who did.told)) (sym shared_calls) ∙ sym did.stops

-- A visitor's note tells no more visits than a mutator had calls, if a cycle marks.
module _ (layout : Layout) (number run run' visits : ℕ) (marks : Bool) (start part seen : List Event)
    (opening : IsOpening number run' start) (did : HasMarked layout number run marks seen visits)
    (heard : IsPrefix seen (start ++ part)) where
  pub marked_most : visits ≤ (if marks_after layout start then run' else 0)
  marked_most =
      subst (λ (b : Bool). visits ≤ (if b then run' else 0)) (did.marking ∙ ap (marks_after layout) same)
      (subst (λ (n : ℕ). visits ≤ (if marks then n else 0)) (one_run number run run' start (subst (IsOpening number run) same did.opening) opening) did.most)
    where
      same : did.told ≡ start
      same = one_opening number run run' did.told start (start ++ part) did.opening opening
          (prefix_trans did.told seen (start ++ part) did.grows heard) (record { rest = part; joins = refl })
