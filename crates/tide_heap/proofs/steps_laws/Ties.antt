-- The numbers of a pass stay those of its view.
use Rattle.std.proofs.Common.{ℕ, ◌≡◌, refl, sym, ◌∙◌, ap, subst, Bool, true, false, Option}
use Rattle.std.specs.Prelude.{◌||◌, ◌+◌, if◌then◌else◌}
use Rattle.tide_core.specs.machine.Entries.{entry_of}
use Rattle.tide_core.specs.machine.Kind.{Kind, Retire, TakeFree, Blacken}
use Rattle.tide_core.specs.declared.machine.act.Act.{Act}
use Rattle.tide_core.specs.declared.machine.act.Act.TheVariants.{Load, Store, Swap, And, Or, Exchange}
use Rattle.tide_core.specs.declared.machine.view.Role.TheVariants.{Member}
use Rattle.tide_core.specs.declared.machine.view.View.{View}
use Rattle.tide_model.specs.History.{state_after}
use Rattle.tide_model.specs.Layout.{Layout}
use Rattle.tide_model.specs.Refused.{ShapeLists}
use Rattle.tide_model.specs.declared.entry.Event.{Event}
use Rattle.tide_core.specs.machine.Views.{view_after}
use Rattle.tide_heap.proofs.steps_laws.Works.{Core, core, core_found, worked, worked_view, seen_after, mine_after}
use Rattle.tide_heap.specs.declared.heap.Heap.{Heap}
use Rattle.tide_heap.specs.steps.Calls.{HasActed}
use Rattle.tide_heap.specs.steps.Follows.{Follows, FollowsSome, Tells}
use Rattle.tide_heap.specs.steps.Numbers.{AreOf}
use Rattle.tide_heap.specs.steps.Works.{is_work, is_leave, is_visit, is_plain, born_after, visits_after}
use Rattle.tide_heap.specs.declared.steps.pass.Numbers.{Numbers}
use Rattle.tide_heap.specs.declared.steps.pass.Pass.{Pass}

-- the kind changes none of the numbers of a pass
pub record IsPlain (kind : Kind) : Type 0 where
  pub births : (read born : ℕ) → born_after kind read born ≡ born
  pub sees : is_visit kind ≡ false
  pub stays : is_leave kind ≡ false

pub plain_of : (kind : Kind) → is_plain kind ≡ true → IsPlain kind
plain_of (Retire made) is = absurd (cc)
plain_of (TakeFree block k made) is = absurd (cc)
plain_of (Blacken cell cycle) is = absurd (cc)
plain_of _ is = record { births = λ r b. refl; sees = refl; stays = refl }

pub works_of : (kind : Kind) → is_plain kind ≡ true → is_work kind ≡ true
works_of (Retire made) is = refl
works_of (TakeFree block k made) is = refl
works_of (Blacken cell cycle) is = refl
works_of _ is = is

-- whatever the operation, the step took place
pub some_follow : (act : Act) (layout : Layout) (shapes : ShapeLists) (kind : Kind) (v : View) (read : ℕ) (u : View) →
    Tells act layout shapes kind v read u → FollowsSome layout shapes kind v u
some_follow Load layout shapes kind v read u f = (read, f)
some_follow (Store word) layout shapes kind v read u f = f
some_follow Swap layout shapes kind v read u f = (read, f)
some_follow (And mask) layout shapes kind v read u f = (read, f)
some_follow (Or mask) layout shapes kind v read u f = (read, f)
some_follow (Exchange old new) layout shapes kind v read u f = (read, f)

-- whatever the operation, the pass has made the step
pub has_acted : {S : Type 0} (lists : S → ShapeLists) (act : Act) (heap : Heap S) (kind : Kind) (old : Pass) (read : ℕ)
    (new : Pass) → new.seat.table_id ≡ old.seat.table_id → new.seat.id ≡ old.seat.id →
    Tells act heap.key.layout (lists heap.key.shapes) kind old.seat.me.0 read new.seat.me.0 →
    HasActed lists act heap kind old read new
has_acted lists Load heap kind old read new table seat f = record { table = table; seat = seat; follows = f }
has_acted lists (Store word) heap kind old read new table seat f =
    (f.0, record { table = table; seat = seat; follows = f.1 })
has_acted lists Swap heap kind old read new table seat f = record { table = table; seat = seat; follows = f }
has_acted lists (And mask) heap kind old read new table seat f = record { table = table; seat = seat; follows = f }
has_acted lists (Or mask) heap kind old read new table seat f = record { table = table; seat = seat; follows = f }
has_acted lists (Exchange before after) heap kind old read new table seat f =
    record { table = table; seat = seat; follows = f }

module _ (layout : Layout) (shapes : ShapeLists) (kind : Kind) (v u : View) (read : ℕ)
    (f : Follows layout shapes kind v read u) (works : is_work kind ≡ true) where
  abbrev event_of : Option Event
  event_of = entry_of layout shapes (state_after layout f.log) v.who kind read

  followed : core u ≡ record (worked kind read (core v)) {
    seen = seen_after f.log v.seen event_of;
    mine = mine_after v.mine event_of;
  }
  followed = ap core f.view ∙ core_found kind read (view_after layout shapes f.log v.who kind read v)
      ∙ worked_view layout shapes f.log kind read v works event_of

  pub role_kept : v.role ≡ Member → u.role ≡ Member
  role_kept is = ap (λ (c : Core). c.role) followed ∙ is

  -- with the births, the visits and the leaving that the kind has
  pub are_of : (n : Numbers) → AreOf n v → (m : Numbers) →
      m ≡ record n {
        born = born_after kind read n.born;
        visits = visits_after kind n.visits;
        left = is_leave kind || n.left;
      } → AreOf m u
  are_of n a m same = subst (λ (x : Numbers). AreOf x u) (sym same) record {
    who = a.who ∙ sym (ap (λ (c : Core). c.who) followed);
    part = a.part ∙ sym (ap (λ (c : Core). c.ticket) followed);
    run = a.run ∙ sym (ap (λ (c : Core). c.run) followed);
    marking = a.marking ∙ sym (ap (λ (c : Core). c.marks) followed);
    cycle = a.cycle ∙ sym (ap (λ (c : Core). c.cycle) followed);
    base = a.base ∙ sym (ap (λ (c : Core). c.mark_version) followed);
    few_cycles = a.few_cycles;
    begun = a.begun ∙ sym (ap (λ (c : Core). c.begun) followed);
    born = ap (born_after kind read) a.born ∙ sym (ap (λ (c : Core). c.born) followed);
    visits = ap (visits_after kind) a.visits ∙ sym (ap (λ (c : Core). c.visits) followed);
    left = ap (λ (b : Bool). is_leave kind || b) a.left ∙ sym (ap (λ (c : Core). c.left) followed);
  }

  -- a plain kind leaves all numbers
  pub are_kept : IsPlain kind → (n : Numbers) → AreOf n v → AreOf n u
  are_kept plain n a = are_of n a n
      (λ i. record n {
        born = (sym (plain.births read n.born)) i;
        visits = (sym (ap (λ (b : Bool). if b then n.visits + 1 else n.visits) plain.sees)) i;
        left = (sym (ap (λ (b : Bool). b || n.left) plain.stays)) i;
      })
