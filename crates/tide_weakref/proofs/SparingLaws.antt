-- What a call of its mutator that spares a realm's register and handles leaves of it.
use Rattle.std.proofs.Common.{ℕ, ◌≡◌, arith, refl, sym, ◌∙◌, ap, subst, Bool, true, false, List, [], ◌∷◌}
use Rattle.std.specs.Prelude.{◌++◌, ◌==◌, Option, filter, if◌then◌else◌, not}
use Rattle.tide_heap.specs.Turns.{heard_view}
use Rattle.tide_heap.proofs.tide_core.machine_laws.steps.OwnState.{own_after, own_call}
use Rattle.tide_heap.specs.tide_core.machine.Own.{Own, own_of}
use Rattle.tide_heap.specs.tide_core.declared.machine.view.View.{View}
use Rattle.tide_heap.specs.tide_core.machine.kinds.Activate.{begun_view}
use Rattle.tide_model.proofs.PhaseLaws.{at_cell_keeps}
use Rattle.tide_model.specs.Applied.{after_call, put_claims}
use Rattle.tide_model.specs.Caller.{IsOwn, MakesCall}
use Rattle.tide_model.specs.History.{state_after}
use Rattle.tide_model.specs.Layout.{Layout}
use Rattle.tide_model.specs.Prefix.{IsPrefix, prefix_refl, prefix_trans}
use Rattle.tide_model.specs.Refused.{ShapeLists}
use Rattle.tide_model.specs.State.{State}
use Rattle.tide_model.specs.declared.entry.Event.{Event}
use Rattle.tide_model.specs.declared.op.Op.{Op}
use Rattle.tide_model.specs.declared.op.Op.TheVariants.{Alloc, Table, Get, Move, Set, Drop, Claim, Release, Unclaim, GetProp, StrongGet, WeakGet, PairGet, Retire}
use Rattle.tide_model.specs.declared.op.Reply.{Reply}
use Rattle.tide_model.specs.declared.op.Reply.TheVariants.{Done, Born, Seen}
use Rattle.tide_model.specs.declared.val.Val.TheVariants.{Empty, Int, Cell}
use Rattle.tide_weakref.proofs.CallLaws.{after, own_before}
use Rattle.tide_weakref.proofs.OperationLaws.{put_elsewhere}
use Rattle.tide_weakref.proofs.StandingLaws.{spares_leave}
use Rattle.tide_weakref.proofs.StepLaws.{adv, held_kept, scratch_kept, step_holds}
use Rattle.tide_weakref.specs.Jobs.{HasKeptJobs, IsOfLayout, Jobs, KeepsJobs, Spares}
use Rattle.tide_weakref.specs.Stepping.{held_in}
use Rattle.tide_weakref.specs.declared.range.Range16.{Range16}

-- the operation takes a claim, or ends one of a cell
abbrev is_claim : Op → Bool
is_claim (Claim src) = true
is_claim (Release src) = true
is_claim _ = false

-- a register that the operation doesn't name stays
spared : (scratch : ℕ) (strong weak : Range16) (op : Op) → is_claim op ≡ false → Spares scratch strong weak op → (o : Own) (reply : Reply) →
    (own_after o op reply).registers scratch ≡ o.registers scratch
spared scratch strong weak (Alloc dst class) claims spares o (Born cell) = put_elsewhere o.registers dst scratch (Cell cell) (λ e. spares (sym e))
spared scratch strong weak (Table dst) claims spares o (Born cell) = put_elsewhere o.registers dst scratch (Cell cell) (λ e. spares (sym e))
spared scratch strong weak (Get dst src slot) claims spares o (Seen value) = put_elsewhere o.registers dst scratch value (λ e. spares.0 (sym e))
spared scratch strong weak (Move dst src) claims spares o Done = put_elsewhere o.registers dst scratch (o.registers src) (λ e. spares.0 (sym e))
spared scratch strong weak (Set dst n) claims spares o Done = put_elsewhere o.registers dst scratch (Int n) (λ e. spares (sym e))
spared scratch strong weak (Drop dst) claims spares o Done = put_elsewhere o.registers dst scratch Empty (λ e. spares (sym e))
spared scratch strong weak (Claim src) claims spares o reply = absurd (let e : true ≡ false = claims in cc)
spared scratch strong weak (Release src) claims spares o reply = absurd (let e : true ≡ false = claims in cc)
spared scratch strong weak (GetProp dst src key) claims spares o (Seen value) = put_elsewhere o.registers dst scratch value (λ e. spares.0 (sym e))
spared scratch strong weak (StrongGet dst at) claims spares o (Seen value) = put_elsewhere o.registers dst scratch value (λ e. spares.0 (sym e))
spared scratch strong weak (WeakGet dst at) claims spares o (Seen value) = put_elsewhere o.registers dst scratch value (λ e. spares.0 (sym e))
spared scratch strong weak (PairGet dst src key) claims spares o (Seen value) = put_elsewhere o.registers dst scratch value (λ e. spares.0 (sym e))
spared scratch strong weak Unclaim claims spares o Done = refl
spared scratch strong weak Retire claims spares o Done = refl
spared scratch strong weak op claims spares o reply = refl

spared_call : (scratch : ℕ) (strong weak : Range16) (op : Op) → Spares scratch strong weak op → (state : State) (who : ℕ)
    (reply : Reply) (took : Option ℕ) → (after_call state who op reply took).registers who scratch ≡ state.registers who scratch
spared_call scratch strong weak (Claim src) spares state who Done took =
    at_cell_keeps (λ s. s.registers who scratch ≡ state.registers who scratch) state (state.registers who src)
    (λ cell. put_claims state who (state.claims who ++ cell ∷ [])) refl (λ cell. refl)
spared_call scratch strong weak (Claim src) spares state who reply took = refl
spared_call scratch strong weak (Release src) spares state who Done took =
    at_cell_keeps (λ s. s.registers who scratch ≡ state.registers who scratch) state (state.registers who src)
    (λ cell. put_claims state who (filter (λ claimed. not (claimed == cell)) (state.claims who))) refl (λ cell. refl)
spared_call scratch strong weak (Release src) spares state who reply took = refl
spared_call scratch strong weak op spares state who reply took =
    ap (λ (o : Own). o.registers scratch) (own_call who state op reply took)
    ∙ spared scratch strong weak op refl spares (own_of who state) reply

-- a call that spares the realm's register and handles: it keeps its jobs
pub spares_keep : (layout : Layout) (shapes : ShapeLists) (v u : View) (op : Op) (reply : Reply) (same : u.who ≡ v.who)
    (jobs : Jobs) → HasKeptJobs layout v jobs → Spares jobs.scratch jobs.strong jobs.weak op →
    MakesCall layout shapes v.who op reply v.seen u.seen v.mine u.mine → KeepsJobs layout u.who jobs u.seen u.mine
spares_keep layout shapes v u op reply same jobs kept spares makes = record {
  holds = step_holds layout shapes v u op reply same makes jobs (held_kept layout v jobs kept)
      (spares_leave jobs op kept.keeps.holds.within spares);
  scratch = ap (λ (w : ℕ). (state_after layout u.seen).registers w jobs.scratch) same
      ∙ ap (λ (s : State). s.registers v.who jobs.scratch)
      (sym (after layout shapes v.who op reply v.seen u.seen v.mine (adv layout shapes v u op reply same makes)))
      ∙ spared_call jobs.scratch jobs.strong jobs.weak op spares
      (state_after layout (v.seen ++ (adv layout shapes v u op reply same makes).rest)) v.who reply
      (adv layout shapes v u op reply same makes).took
      ∙ ap (λ (o : Own). o.registers jobs.scratch) (own_before layout shapes v.who op reply v.seen u.seen v.mine
      (adv layout shapes v u op reply same makes) makes.were_own)
      ∙ scratch_kept layout v jobs kept makes.were_own;
}

-- one that begins is the same mutator, runs, and has retired if it had
abbrev begun_after : View → Bool → View
begun_after x b =
    if b then record x { runs = true; round = []; full = []; known = [] }
    else record x { runs = true; begun = x.ticket; born = 0; visits = 0; races = 0; round = []; full = []; known = [] }

pub begun_same : (x : View) → ((begun_view x).who ≡ x.who) × (((begun_view x).runs ≡ true) × ((begun_view x).left ≡ x.left))
begun_same x = by_test (x.begun == x.ticket)
  where
    by_test : (b : Bool) → ((begun_after x b).who ≡ x.who) × (((begun_after x b).runs ≡ true) × ((begun_after x b).left ≡ x.left))
    by_test true = (refl, (refl, refl))
    by_test false = (refl, (refl, refl))

pub begun_keeps : (layout : Layout) (v t u : View) (jobs : Jobs) → u ≡ begun_view (heard_view v t) → IsPrefix v.seen u.seen →
    u.mine ≡ v.mine → HasKeptJobs layout v jobs → HasKeptJobs layout u jobs
begun_keeps layout v t u jobs is earlier mine kept = record {
  at = kept.at;
  earlier = prefix_trans kept.at v.seen u.seen kept.earlier earlier;
  keeps = subst (λ (m : List Event). KeepsJobs layout u.who jobs kept.at m) (sym mine)
      (subst (λ (w : ℕ). KeepsJobs layout w jobs kept.at v.mine) (sym (ap (λ (x : View). x.who) is ∙ (begun_same (heard_view v t)).0)) kept.keeps);
}

-- a realm that has nothing yet
pub fresh_keeps : (layout : Layout) (v : View) (scratch : ℕ) (strong weak : Range16) →
    IsOfLayout layout (record { scratch = scratch; strong = strong; weak = weak; uses = []; cells = [] }) →
    IsOwn v.who v.seen v.mine → held_in layout v scratch ≡ Empty →
    HasKeptJobs layout v (record { scratch = scratch; strong = strong; weak = weak; uses = []; cells = [] })
fresh_keeps layout v scratch strong weak of own empty = record {
  at = v.seen;
  earlier = prefix_refl v.seen;
  keeps = record {
    holds = record {
      of_layout = of;
      within = record { uses = λ k d below. absurd (omega (arith, below)); cells = omega arith };
      own = own;
      stands = λ spare. record {
        uses = λ k d below. absurd (omega (arith, below));
        cells = λ place below. absurd (omega (arith, below));
      };
    };
    scratch = empty;
  };
}
