-- What a mutator knows of words, and found last, tells nothing of its calls.
use Rattle.std.proofs.Common.{ℕ, ◌≡◌, ◌<◌, ◌≤◌, ◌+◌, sym, ◌∙◌, ap, subst, length}
use Rattle.std.specs.Prelude.{◌%◌, ◌^◌}
use Rattle.tide_heap.specs.tide_core.machine.May.{IsBetweenCalls, Rests}
use Rattle.tide_heap.specs.tide_core.declared.machine.view.View.{View}
use Rattle.tide_model.specs.Caller.{IsOwn, MakesCall}
use Rattle.tide_model.specs.Layout.{Layout}
use Rattle.tide_model.specs.Refused.{ShapeLists}
use Rattle.tide_model.specs.declared.op.Op.{Op}
use Rattle.tide_model.specs.declared.op.Reply.{Reply}
use Rattle.tide_mutator.proofs.calls_laws.Planning.{IsCalm}
use Rattle.tide_mutator.specs.owed.Calling.{IsCalling, kept}
use Rattle.tide_mutator.specs.calls.Called.{HasCalled}
use Rattle.tide_mutator.specs.owed.Standing.{caller_of, claims_of}
use Rattle.tide_mutator.specs.calls.Owning.{unread}

module _ (v u : View) (same : unread u ≡ unread v) where
  between_unread : IsBetweenCalls v → IsBetweenCalls u
  between_unread b = record {
    owed = ap (λ (x : View). x.owed) same ∙ b.owed;
    duty = ap (λ (x : View). x.duty) same ∙ b.duty;
    growth = ap (λ (x : View). x.growth) same ∙ b.growth;
    sweeping = ap (λ (x : View). x.sweeping) same ∙ b.sweeping;
    calls = ap (λ (x : View). x.calls) same ∙ b.calls ∙ ap (λ (x : View). length x.mine) (sym same);
  }

  pub rests_unread : Rests v → Rests u
  rests_unread r = record {
    held = ap (λ (x : View). x.held) same ∙ r.held;
    scan = ap (λ (x : View). x.scan) same ∙ r.scan;
    between = between_unread r.between;
  }

  pub calm_unread : IsCalm v → IsCalm u
  calm_unread c = record {
    runs = ap (λ (x : View). x.runs) same ∙ c.runs;
    stays = ap (λ (x : View). x.left) same ∙ c.stays;
    owed = ap (λ (x : View). x.owed) same ∙ c.owed;
    growth = ap (λ (x : View). x.growth) same ∙ c.growth;
  }

  pub below_unread : (layout : Layout) → v.who < layout.mutators → u.who < layout.mutators
  below_unread layout below = subst (λ (x : View). x.who < layout.mutators) (sym same) below

  pub caller_unread : (layout : Layout) (shapes : ShapeLists) → caller_of layout shapes u ≡ caller_of layout shapes v
  caller_unread layout shapes = ap (caller_of layout shapes) same

  pub claims_unread : claims_of u ≡ claims_of v
  claims_unread = ap claims_of same

  pub counts_unread : (calls : ℕ) → calls ≡ (length v.mine + 1) % 2 ^ 64 → calls ≡ (length u.mine + 1) % 2 ^ 64
  counts_unread calls counts = counts ∙ ap (λ (x : View). (length x.mine + 1) % 2 ^ 64) (sym same)

  pub calling_unread : (layout : Layout) (op : Op) → IsCalling layout v op → IsCalling layout u op
  calling_unread layout op c = record {
    limits = c.limits;
    is_mutator = below_unread layout c.is_mutator;
    runs = ap (λ (x : View). x.runs) same ∙ c.runs;
    stays = ap (λ (x : View). x.left) same ∙ c.stays;
    between = between_unread c.between;
    own = subst (λ (x : View). IsOwn x.who x.seen x.mine) (sym same) c.own;
    fits = c.fits;
    bare = λ is. claims_unread ∙ c.bare is;
  }

  -- what it called after it had read words, it called
  pub called_unread : (layout : Layout) (shapes : ShapeLists) (op : Op) (reply : Reply) (after : View) →
      HasCalled layout shapes op reply u after → HasCalled layout shapes op reply v after
  called_unread layout shapes op reply after h = record {
    makes = subst (λ (x : View). MakesCall layout shapes x.who op reply x.seen after.seen x.mine after.mine) same h.makes;
    kept = h.kept ∙ ap kept same;
    between = h.between;
    left = λ is. h.left is ∙ ap (λ (x : View). x.left) same;
    gone = h.gone;
    born = subst (λ (x : View). after.born ≤ x.born + 1) same h.born;
    none_born = λ takes_none. h.none_born takes_none ∙ ap (λ (x : View). x.born) same;
    claims = λ other. h.claims other ∙ claims_unread;
  }
