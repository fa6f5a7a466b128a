-- What a realm has stands after a call, and after it has something more or less.
use Rattle.std.proofs.Common.{ℕ, zero, suc, ◌≡◌, ◌≢◌, ◌+◌, ◌<◌, arith, refl, sym, ◌∙◌, ap, subst, Bool, false, List, [], ◌∷◌, ◌++◌, length, inl, inr, length-append}
use Rattle.std.proofs.lemmas.Bool.{ne_eqb}
use Rattle.std.proofs.lemmas.List.{get_or_append_left, get_or_push}
use Rattle.std.proofs.lemmas.List.Elements.{All-append, All-drop, All-filter, All-push, All-take, Contains-append_cases, Contains-append_left, Contains-append_right, Contains-get_or, Contains-push_cases}
use Rattle.std.proofs.lemmas.Bool.Decides.{leb_tells}
use Rattle.std.specs.List.{remove}
use Rattle.std.specs.Prelude.{All, Contains, Some, drop, filter, not, slice_get, slice_index, slice_index_or, take}
use Rattle.tide_heap.proofs.tide_core.machine_laws.steps.Paying.{in_filter}
use Rattle.tide_heap.specs.tide_core.declared.machine.view.View.{View}
use Rattle.tide_model.specs.Caller.{MakesCall}
use Rattle.tide_model.specs.Layout.{Layout}
use Rattle.tide_model.specs.Prefix.{IsPrefix}
use Rattle.tide_model.specs.Refused.{ShapeLists}
use Rattle.tide_model.specs.declared.entry.Event.{Event}
use Rattle.tide_model.specs.declared.op.Op.{Op}
use Rattle.tide_model.specs.declared.op.Op.TheVariants.{StrongSet, WeakSet}
use Rattle.tide_model.specs.declared.op.Reply.{Reply}
use Rattle.tide_weakref.proofs.Advances.{advances}
use Rattle.tide_weakref.proofs.CallLaws.{OthersLeave-prefix, advanced_prefix, strong_stays, weak_stays}
use Rattle.tide_weakref.specs.Handles.{IsIn, StrongKeeps, WeakStands, op_sets_strong, op_sets_weak}
use Rattle.tide_weakref.specs.Uses.{GoesOn, IsReference, reference, using}
use Rattle.tide_weakref.specs.declared.weak.Role.TheVariants.{Reference, Registration}
use Rattle.tide_weakref.specs.Jobs.{AreWithin, HasKeptJobs, HoldsJobs, Jobs, OthersSpare, Spares, handle_of}
use Rattle.tide_weakref.specs.declared.weak.Weak.{Weak}

-- an operation that sets no handle in use
pub record LeavesJobs (jobs : Jobs) (op : Op) : Type 0 where
  pub uses : All (λ one. op_sets_weak (handle_of jobs one) op ≡ false) jobs.uses
  pub cells : (place : ℕ) → place < length jobs.cells → op_sets_strong (jobs.strong.first + place) op ≡ false

-- the handles in use are the realm's
use_is_own : (jobs : Jobs) → AreWithin jobs → All (λ one. IsIn jobs.weak (handle_of jobs one)) jobs.uses
use_is_own jobs within = λ k d below. let h = within.uses k d below in (omega arith, omega (arith, h))

cell_is_own : (jobs : Jobs) → AreWithin jobs → (place : ℕ) → place < length jobs.cells → IsIn jobs.strong (jobs.strong.first + place)
cell_is_own jobs within place below = let h = within.cells in (omega arith, omega (arith, h, below))

module _ (layout : Layout) (shapes : ShapeLists) (who : ℕ) (op : Op) (reply : Reply) (jobs : Jobs)
    (at old_seen new_seen old_mine new_mine : List Event) where
  -- a call that sets none of them leaves all of it
  pub holds_called : IsPrefix at old_seen → HoldsJobs layout who jobs at old_mine → LeavesJobs jobs op →
      MakesCall layout shapes who op reply old_seen new_seen old_mine new_mine → HoldsJobs layout who jobs new_seen new_mine
  holds_called earlier holds leaves makes =
      let adv = advances layout shapes who op reply at old_seen new_seen old_mine new_mine earlier holds.own makes in
      record {
        of_layout = holds.of_layout;
        within = holds.within;
        own = makes.are_own;
        stands = λ spare.
            let before = holds.stands (OthersLeave-prefix who jobs.strong jobs.weak at new_seen
            (advanced_prefix layout shapes who op reply at new_seen old_mine adv) spare) in
            record {
              uses = λ k d below. weak_stays layout shapes who op reply at new_seen old_mine adv jobs.strong jobs.weak
                  (handle_of jobs (slice_index_or jobs.uses k d)) (slice_index_or jobs.uses k d).target spare
                  (use_is_own jobs holds.within k d below) (leaves.uses k d below) (before.uses k d below);
              cells = λ place below. strong_stays layout shapes who op reply at new_seen old_mine adv jobs.strong jobs.weak
                  (jobs.strong.first + place) (slice_index jobs.cells place) spare (cell_is_own jobs holds.within place below)
                  (leaves.cells place below) (before.cells place below);
            };
      }

-- an operation that spares the realm's handles sets none of those in use
sets_no_weak : (scratch : ℕ) (jobs : Jobs) (op : Op) → Spares scratch jobs.strong jobs.weak op → (handle : ℕ) →
    IsIn jobs.weak handle → op_sets_weak handle op ≡ false
sets_no_weak scratch jobs (WeakSet at val) spares handle within =
    ne_eqb at handle (λ same. spares.0 (subst (IsIn jobs.weak) (sym same) within))
sets_no_weak scratch jobs op spares handle within = refl

sets_no_strong : (scratch : ℕ) (jobs : Jobs) (op : Op) → Spares scratch jobs.strong jobs.weak op → (handle : ℕ) →
    IsIn jobs.strong handle → op_sets_strong handle op ≡ false
sets_no_strong scratch jobs (StrongSet at val) spares handle within =
    ne_eqb at handle (λ same. spares.0 (subst (IsIn jobs.strong) (sym same) within))
sets_no_strong scratch jobs op spares handle within = refl

pub spares_leave : (jobs : Jobs) (op : Op) → AreWithin jobs → Spares jobs.scratch jobs.strong jobs.weak op → LeavesJobs jobs op
spares_leave jobs op within spares = record {
  uses = λ k d below. sets_no_weak jobs.scratch jobs op spares (handle_of jobs (slice_index_or jobs.uses k d)) (use_is_own jobs within k d below);
  cells = λ place below. sets_no_strong jobs.scratch jobs op spares (jobs.strong.first + place) (cell_is_own jobs within place below);
}

-- nor does one that sets a weak handle that isn't in use, or the next strong one
pub apart_leaves : (jobs : Jobs) (handle src : ℕ) → ((one : Weak) → Contains jobs.uses one → handle_of jobs one ≢ handle) →
    LeavesJobs jobs (WeakSet handle src)
apart_leaves jobs handle src apart = record {
  uses = λ k d below. ne_eqb handle (handle_of jobs (slice_index_or jobs.uses k d))
      (λ same. apart (slice_index_or jobs.uses k d) (Contains-get_or jobs.uses k d below) (sym same));
  cells = λ place below. refl;
}

pub keep_leaves : (jobs : Jobs) (src : ℕ) → LeavesJobs jobs (StrongSet (jobs.strong.first + length jobs.cells) src)
keep_leaves jobs src = record {
  uses = λ k d below. refl;
  cells = λ place below. ne_eqb (jobs.strong.first + length jobs.cells) (jobs.strong.first + place) (λ same. (let h = below in omega (arith, same, h)));
}

-- a weak handle more, or one less
pub holds_using : (layout : Layout) (who : ℕ) (jobs : Jobs) (one : Weak) (seen mine : List Event) →
    HoldsJobs layout who jobs seen mine → one.at < jobs.weak.count →
    (OthersSpare who jobs seen → WeakStands layout seen (handle_of jobs one) one.target) →
    HoldsJobs layout who (using jobs one) seen mine
holds_using layout who jobs one seen mine holds below stands = record {
  of_layout = record { scratch = holds.of_layout.scratch; strong = holds.of_layout.strong; weak = holds.of_layout.weak };
  within = record {
    uses = All-push (λ (o : Weak). o.at < jobs.weak.count) jobs.uses one holds.within.uses below;
    cells = holds.within.cells;
  };
  own = holds.own;
  stands = λ spare. let had = holds.stands spare in record {
    uses = All-push (λ (o : Weak). WeakStands layout seen (handle_of jobs o) o.target) jobs.uses one had.uses (stands spare);
    cells = had.cells;
  };
}

pub holds_fewer : (layout : Layout) (who : ℕ) (jobs : Jobs) (uses : List Weak) (seen mine : List Event) →
    ((P : Weak → Type 0) → All P jobs.uses → All P uses) →
    HoldsJobs layout who jobs seen mine → HoldsJobs layout who (record jobs { uses = uses }) seen mine
holds_fewer layout who jobs uses seen mine fewer holds = record {
  of_layout = record { scratch = holds.of_layout.scratch; strong = holds.of_layout.strong; weak = holds.of_layout.weak };
  within = record { uses = fewer (λ (o : Weak). o.at < jobs.weak.count) holds.within.uses; cells = holds.within.cells };
  own = holds.own;
  stands = λ spare. let had = holds.stands spare in record {
    uses = fewer (λ (o : Weak). WeakStands layout seen (handle_of jobs o) o.target) had.uses;
    cells = had.cells;
  };
}

-- what is said of all weak handles is said of those left once one was taken out, or some
pub all_removed : (uses : List Weak) (place : ℕ) (P : Weak → Type 0) → All P uses → All P (remove uses place)
all_removed uses place P all =
    All-append P (take place uses) (drop (suc place) uses) (All-take P place uses all) (All-drop P (suc place) uses all)

pub kept_fewer : (layout : Layout) (v : View) (jobs : Jobs) (test : Weak → Bool) → HasKeptJobs layout v jobs →
    HasKeptJobs layout v (record jobs { uses = filter test jobs.uses })
kept_fewer layout v jobs test kept = record {
  at = kept.at;
  earlier = kept.earlier;
  keeps = record {
    holds = holds_fewer layout v.who jobs (filter test jobs.uses) kept.at v.mine (λ P all. All-filter test P jobs.uses all) kept.keeps.holds;
    scratch = kept.keeps.scratch;
  };
}

-- a kept cell more, or none any more
pub holds_keeping : (layout : Layout) (who : ℕ) (jobs : Jobs) (cell : ℕ) (seen mine : List Event) →
    HoldsJobs layout who jobs seen mine → length jobs.cells < jobs.strong.count →
    (OthersSpare who jobs seen → StrongKeeps layout seen (jobs.strong.first + length jobs.cells) cell) →
    HoldsJobs layout who (record jobs { cells = jobs.cells ++ cell ∷ [] }) seen mine
holds_keeping layout who jobs cell seen mine holds room keeps = record {
  of_layout = record { scratch = holds.of_layout.scratch; strong = holds.of_layout.strong; weak = holds.of_layout.weak };
  within = record {
    uses = holds.within.uses;
    cells = (let n = length-append jobs.cells (cell ∷ []) in omega (arith, n, room));
  };
  own = holds.own;
  stands = λ spare. let had = holds.stands spare in record {
    uses = had.uses;
    cells = λ place below. (elim (leb_tells (length jobs.cells) place) [
      | inl past ↦
          let n = length-append jobs.cells (cell ∷ []) in
          let same : place ≡ length jobs.cells = omega (arith, n, below, past.1) in
          let value : slice_index (jobs.cells ++ cell ∷ []) place ≡ cell =
          ap (λ (k : ℕ). slice_index (jobs.cells ++ cell ∷ []) k) same ∙ get_or_push jobs.cells cell 0 (length jobs.cells) refl in
          subst (λ (k : ℕ). StrongKeeps layout seen (jobs.strong.first + k) (slice_index (jobs.cells ++ cell ∷ []) place)) (sym same)
          (subst (StrongKeeps layout seen (jobs.strong.first + length jobs.cells)) (sym value) (keeps spare))
      | inr short ↦
          subst (StrongKeeps layout seen (jobs.strong.first + place)) (sym (get_or_append_left jobs.cells (cell ∷ []) 0 place short.1))
          (had.cells place short.1)
    ]);
  };
}

pub holds_nothing : (layout : Layout) (who : ℕ) (jobs : Jobs) (seen mine : List Event) →
    HoldsJobs layout who jobs seen mine → HoldsJobs layout who (record jobs { cells = [] }) seen mine
holds_nothing layout who jobs seen mine holds = record {
  of_layout = record { scratch = holds.of_layout.scratch; strong = holds.of_layout.strong; weak = holds.of_layout.weak };
  within = record { uses = holds.within.uses; cells = omega arith };
  own = holds.own;
  stands = λ spare. let had = holds.stands spare in record {
    uses = had.uses;
    cells = λ place below. absurd (omega (arith, below));
  };
}

-- what a realm has goes on where nothing changed
pub goes_same : (jobs : Jobs) → GoesOn jobs jobs
goes_same jobs = record { scratch = refl; strong = refl; weak = refl; references = λ number is. is }

-- where other cells are kept, or one weak handle more is in use
pub goes_keeping : (jobs : Jobs) (cells : List ℕ) → GoesOn jobs (record jobs { cells = cells })
goes_keeping jobs cells = record { scratch = refl; strong = refl; weak = refl; references = λ number is. is }

pub goes_using : (jobs : Jobs) (one : Weak) → GoesOn jobs (using jobs one)
goes_using jobs one = record {
  scratch = refl;
  strong = refl;
  weak = refl;
  references = λ number is. (is.0, Contains-append_left jobs.uses (one ∷ []) (reference number is.0) is.1);
}

pub goes_then : (jobs mid now : Jobs) → GoesOn jobs mid → GoesOn mid now → GoesOn jobs now
goes_then jobs mid now first second = record {
  scratch = second.scratch ∙ first.scratch;
  strong = second.strong ∙ first.strong;
  weak = second.weak ∙ first.weak;
  references = λ number is. second.references number (first.references number is);
}

-- where a registration is taken out
removed_others : (xs : List Weak) (place : ℕ) (x y : Weak) → slice_get xs place ≡ Some x → (y ≡ x → ⊥) → Contains xs y →
    Contains (remove xs place) y
removed_others [] place x y got apart has = absurd (let below = has.1 in omega (arith, below))
removed_others (z ∷ xs) zero x y got apart has = elim (Contains-append_cases (z ∷ []) xs y has) [
  | inl here ↦ elim (Contains-push_cases [] z y here) [
    | inl none ↦ absurd (let below = none.1 in omega (arith, below))
    | inr same ↦ absurd (let first : z ≡ x = cc in apart (sym same ∙ first))
  ]
  | inr later ↦ later
]
removed_others (z ∷ xs) (suc place) x y got apart has = elim (Contains-append_cases (z ∷ []) xs y has) [
  | inl here ↦ Contains-append_left (z ∷ []) (remove xs place) y here
  | inr later ↦ Contains-append_right (z ∷ []) (remove xs place) y (removed_others xs place x y got apart later)
]

-- a reference is no registration
reference_is_none : (one : Weak) (number target held token : ℕ) → one.role ≡ Registration held token →
    reference number target ≡ one → ⊥
reference_is_none one number target held token is same =
    let role : Reference ≡ Registration held token = ap (λ (o : Weak). o.role) same ∙ is in (cc)

pub goes_removed : (jobs : Jobs) (place : ℕ) (one : Weak) (held token : ℕ) → slice_get jobs.uses place ≡ Some one →
    one.role ≡ Registration held token → GoesOn jobs (record jobs { uses = remove jobs.uses place })
goes_removed jobs place one held token at is = record {
  scratch = refl;
  strong = refl;
  weak = refl;
  references = λ number has. (
    has.0,
    removed_others jobs.uses place one (reference number has.0) at (reference_is_none one number has.0 held token is) has.1,
  );
}

-- where those that pass a test are taken out, a reference that doesn't pass it stays one
pub stays_reference : (jobs : Jobs) (test : Weak → Bool) (number : ℕ) → ((target : ℕ) → test (reference number target) ≡ false) →
    IsReference jobs number → IsReference (record jobs { uses = filter (λ one. not (test one)) jobs.uses }) number
stays_reference jobs test number fails is =
    (is.0, in_filter (λ one. not (test one)) jobs.uses (reference number is.0) (ap not (fails is.0)) is.1)
