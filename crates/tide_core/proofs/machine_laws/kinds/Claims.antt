-- The kinds on claim words keep the wave: a claim is taken, is found to be another's, or is given back.
use Rattle.std.proofs.Common.{ℕ, zero, ◌≡◌, ◌≢◌, ◌<◌, ◌==◌, refl, sym, ◌∙◌, ap, subst, arith, Bool, true, false, List, [], ◌∷◌, ◌++◌, inl, inr, Some, None}
use Rattle.std.proofs.lemmas.List.Elements.{Contains-append_cases, Contains-append_right}
use Rattle.std.specs.Prelude.{Contains, if◌then◌else◌, filter, drop, not, slice_get}
use Rattle.tide_call.proofs.reading_laws.CallReading.{calls_read_back}
use Rattle.tide_call.specs.CallWords.{CallWords}
use Rattle.tide_words.specs.tide_layout.Limits.{IsWithinLimits}
use Rattle.tide_words.specs.tide_layout.Region.{tag}
use Rattle.tide_words.specs.tide_layout.declared.region.Region.{Region}
use Rattle.tide_words.specs.tide_layout.declared.region.Region.TheVariants as region
use Rattle.tide_core.proofs.machine_laws.kinds.Refusals.{leaves_all, leaves_store}
use Rattle.tide_core.proofs.machine_laws.steps.Frames.{calls_view}
use Rattle.tide_core.proofs.machine_laws.steps.Lists.{in_one}
use Rattle.tide_core.proofs.machine_laws.steps.Loads.{load_same, load_nothing}
use Rattle.tide_core.proofs.machine_laws.steps.Paying.{filter_was}
use Rattle.tide_core.proofs.machine_laws.steps.PlainWords.{plain_word}
use Rattle.tide_core.proofs.machine_laws.steps.SettledNow.{claim_now}
use Rattle.tide_core.specs.machine.Entries.{reply_of_call, call_of, added}
use Rattle.tide_core.specs.machine.Groups.{is_of_claims}
use Rattle.tide_core.specs.machine.Kind.{Kind, LoadClaim, TakeClaim, Release}
use Rattle.tide_core.specs.machine.Machine.{IsAllowed, stepped}
use Rattle.tide_core.specs.machine.May.{MayCall, called}
use Rattle.tide_core.specs.machine.Owed.{IsOwnWord, own_register, own_structure, own_array, own_pair, own_element}
use Rattle.tide_core.specs.machine.RunningWave.{RunningWave}
use Rattle.tide_core.specs.machine.Views.{with_entry}
use Rattle.tide_core.specs.machine.World.{World, parties}
use Rattle.tide_core.specs.machine.kinds.ClaimCell.{MayLoadClaim, MayTakeClaim}
use Rattle.tide_core.specs.machine.kinds.ReleaseCell.{MayRelease}
use Rattle.tide_core.specs.machine.points.Births.{IsHidden}
use Rattle.tide_model.proofs.ClaimLaws.{ClaimsAreOwn-lawful}
use Rattle.tide_model.proofs.ReferenceLaws.{put_at_elim}
use Rattle.tide_model.specs.Applied.{after_call, at_cell, put_claims}
use Rattle.tide_model.specs.History.{state_after}
use Rattle.tide_model.specs.Layout.{Layout}
use Rattle.tide_model.specs.Numbers.{put_at}
use Rattle.tide_model.specs.References.{IsLive}
use Rattle.tide_model.specs.Refused.{ShapeLists}
use Rattle.tide_model.specs.State.{State}
use Rattle.tide_model.specs.declared.op.Op.{Op}
use Rattle.tide_model.specs.declared.op.Op.TheVariants as op
use Rattle.tide_model.specs.declared.op.Reply.{Reply}
use Rattle.tide_model.specs.declared.op.Reply.TheVariants.{Done}
use Rattle.tide_model.specs.declared.val.Val.{Val}
use Rattle.tide_model.specs.declared.val.Val.TheVariants.{Cell}
use Rattle.tide_words.specs.forms.Reference.{claim_word}
use Rattle.tide_words.specs.heap.Heap.{write}
use Rattle.tide_words.specs.heap.Reading.{ReadsAs}

module _ (layout : Layout) (shapes : ShapeLists) (limits : IsWithinLimits layout)
    (empty_shape : slice_get shapes 0 ≡ Some [])
    (w : World) (me : ℕ) (inside : me < parties) (wave : RunningWave layout shapes w) where
  abbrev state : State
  state = state_after layout w.log

  -- a claim word is nobody's own
  not_own : (p cell : ℕ) → IsOwnWord layout state p region.Claim cell → ⊥
  not_own p cell own = by region.Claim cell own refl
    where
      by : (at : Region) (i : ℕ) → IsOwnWord layout state p at i → tag at ≡ tag region.Claim → ⊥
      by _ _ (own_register r a b) e = omega (arith, e)
      by _ _ (own_structure c at) e = omega (arith, e)
      by _ _ (own_array c at) e = omega (arith, e)
      by _ _ (own_pair t k at one has) e = omega (arith, e)
      by _ _ (own_element c a k at is has) e = omega (arith, e)

  -- a call writes one claim word, and changes the claims of its mutator
  pub changes_claim : (o : Op) (cell word : ℕ) (claims : List ℕ) → IsLive state cell → MayCall layout shapes w me o Done None →
      after_call state me o Done None ≡ put_claims state me claims →
      CallWords layout shapes wave.words.settled state me o Done None (write wave.words.settled region.Claim cell word)
      →
      ((p c : ℕ) → p ≢ me → IsHidden state p c → Contains claims c → ⊥) →
      RunningWave layout shapes (record {
        heap = write w.heap region.Claim cell word;
        part = put_at w.part me (with_entry w.log (Some (call_of me o Done None)) (called [] (w.part me)));
        log = added w.log (Some (call_of me o Done None));
      })
  changes_claim o cell word claims alive may becomes words unknown =
      plain_word layout shapes w me inside wave may.runner.runs may.between.duty may.between.owed may.between.growth
      o Done (λ c. refl) may.stands state.active state.registers (put_at state.claims me claims) state.strong state.weak
      (w.part me).left region.Claim cell word record {
        changes = refl;
        no_call = refl;
        settled = claim_now layout shapes w wave cell (λ is. absurd (cc));
        becomes = becomes;
        reads = subst (ReadsAs layout shapes (write wave.words.settled region.Claim cell word)) becomes
            (calls_read_back layout shapes wave.words.settled (write wave.words.settled region.Claim cell word) state me
            o Done None
            (record {
              limits = limits;
              empty_shape = empty_shape;
              is_mutator = may.stands.is_mutator;
              is_active =
                  may.stands.is_active;
              fits = may.stands.fits;
              answers = may.stands.answers;
              claims =
                  ClaimsAreOwn-lawful layout shapes w.log wave.lawful;
            }) wave.refs words wave.words.reads);
        alone = λ p apart own. not_own p cell own;
        claims_else = λ p apart. else_claims p apart;
        active_else = λ p apart. refl;
        left_is = wave.left me;
        leaves = inl refl;
        hidden = λ p c apart alive h. (
          h.registers,
          h.strong,
          h.weak,
          put_at_elim (λ who (own : List ℕ). Contains own c → ⊥) state.claims me claims (unknown p c apart h)
              (λ who other. h.claims who),
        );
      }
    where
      else_claims : (p : ℕ) → p ≢ me → put_at state.claims me claims p ≡ state.claims p
      else_claims = put_at_elim (λ p (own : List ℕ). p ≢ me → own ≡ state.claims p) state.claims me claims (λ apart.
          absurd (apart refl)) (λ p other apart. refl)

  -- what refuses a claim leaves all words
  pub refuses : (o : Op) → MayCall layout shapes w me o (reply_of_call layout shapes state me o) None → (cell : ℕ) →
      RunningWave layout shapes (record {
        heap = write w.heap region.Claim cell (w.heap region.Claim cell);
        part = put_at w.part me (with_entry w.log (Some (call_of me o (reply_of_call layout shapes state me o) None))
            (called [] (w.part me)));
        log = added w.log (Some (call_of me o (reply_of_call layout shapes state me o) None));
      })
  refuses o may cell =
      let leaves = leaves_store layout shapes state me o in
      load_same layout shapes w.heap region.Claim cell _ _
      (leaves_all layout shapes w me inside wave o (reply_of_call layout shapes state me o) may leaves.1 leaves.0
      (w.part me).calls
      w.heap (λ at index is_read. refl) (λ at index isnt. refl) (calls_view layout w.heap w.heap w.part me _ refl (λ p.
      refl) wave.calls))

  pub load_claim : (cell : ℕ) (o : Op) → MayLoadClaim layout shapes w me cell (Some o) →
      RunningWave layout shapes (stepped layout shapes w me (LoadClaim cell (Some o)))
  load_claim cell (op.Claim src) (source, full, may) = refuses (op.Claim src) may cell
  load_claim cell _ none = absurd none

  pub take_claim : (cell holder : ℕ) (o : Op) → MayTakeClaim layout shapes w me cell holder (w.heap region.Claim cell)
      (Some o) →
      RunningWave layout shapes (stepped layout shapes w me (TakeClaim cell holder (Some o)))
  take_claim cell holder (op.Claim src) (mine, source, may) =
      subst (λ (h : ℕ). RunningWave layout shapes (stepped layout shapes w me (TakeClaim cell h (Some (op.Claim src)))))
      (sym mine)
      (by (w.heap region.Claim cell == 0) may)
    where
      answer : Bool → Reply
      answer b = if b then Done else reply_of_call layout shapes state me (op.Claim src)

      by : (b : Bool) → MayCall layout shapes w me (op.Claim src)
          (if b then Done else reply_of_call layout shapes state me (op.Claim src)) None →
          RunningWave layout shapes (record {
            heap = write w.heap region.Claim cell (if b then claim_word (Some me) else w.heap region.Claim cell);
            part = put_at w.part me (with_entry w.log
                (Some (call_of me (op.Claim src) (if b then Done else reply_of_call layout shapes state me
                (op.Claim src)) None)) (called [] (w.part me)));
            log = added w.log (Some (call_of me (op.Claim src) (if b then Done else reply_of_call layout shapes state me
                (op.Claim src)) None));
          })
      by true call = changes_claim (op.Claim src) cell (claim_word (Some me)) (state.claims me ++ cell ∷ [])
          (wave.refs.in_registers me src cell call.stands.is_active source) call
          (ap (λ (x : Val). at_cell state x (λ c. put_claims state me (state.claims me ++ c ∷ []))) source)
          (cell, source, λ other index below. refl)
          (λ p c apart h at. elim (Contains-append_cases (state.claims me) (cell ∷ []) c at) [
            | inl before ↦ h.claims me before
            | inr now ↦ h.registers me src (λ e. apart (sym e)) call.stands.is_active (source ∙
                ap Cell (in_one cell c now))
          ])
      by false call = refuses (op.Claim src) call cell
  take_claim cell holder _ none = absurd none

  pub release : (cell : ℕ) (o : Op) → MayRelease layout shapes w me cell (Some o) →
      RunningWave layout shapes (stepped layout shapes w me (Release cell (Some o)))
  release cell (op.Release src) (source, may) =
      changes_claim (op.Release src) cell (claim_word None)
      (filter (λ claimed. not (claimed == cell)) (state.claims me))
      (wave.refs.in_registers me src cell may.stands.is_active source) may
      (ap (λ (x : Val). at_cell state x (λ c.
      put_claims state me (filter (λ claimed. not (claimed == c)) (state.claims me)))) source)
      (cell, source, λ other index below. refl)
      (λ p c apart h at. h.claims me (filter_was (λ (claimed : ℕ). not (claimed == cell)) (state.claims me) c at).0)
  release cell op.Unclaim ((others, is), may) =
      changes_claim op.Unclaim cell (claim_word None) others
      (wave.refs.claimed me cell (subst (λ (l : List ℕ). Contains l cell) (sym is) (zero, omega arith, refl))) may
      (ap (λ (l : List ℕ). put_claims state me (drop 1 l)) is)
      (cell, others, is, λ other index below. refl)
      (λ p c apart h at. h.claims me (subst (λ (l : List ℕ). Contains l c) (sym is)
      (Contains-append_right (cell ∷ []) others c at)))
  release cell _ none = absurd none

  -- each of these kinds
  pub claims_kept : (kind : Kind) → is_of_claims kind ≡ true → IsAllowed layout shapes w me kind →
      RunningWave layout shapes (stepped layout shapes w me kind)
  claims_kept (LoadClaim cell None) is may = load_nothing layout shapes w me wave region.Claim cell
  claims_kept (LoadClaim cell (Some o)) is may = load_claim cell o may
  claims_kept (TakeClaim cell holder None) is may = absurd may
  claims_kept (TakeClaim cell holder (Some o)) is may = take_claim cell holder o may
  claims_kept (Release cell None) is may = absurd may
  claims_kept (Release cell (Some o)) is may = release cell o may
  claims_kept _ is may = absurd (cc)
