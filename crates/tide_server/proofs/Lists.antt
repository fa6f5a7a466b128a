-- Members and helpers are seated one after another.
use Rattle.std.proofs.Common.{ℕ, suc, ◌≡◌, ◌+◌, ◌-◌, ◌<◌, ◌≤◌, ◌∙◌, arith, ap, refl, subst, sym, Bool, false, List, [], ◌∷◌, ◌++◌, length, le-ltb}
use Rattle.std.specs.Prelude.{MatchBool, if◌then◌else◌}
use Rattle.atomic_table.specs.Seated.{TableId}
use Rattle.tide_model.specs.Layout.{Layout, cell_count}
use Rattle.tide_mutator.specs.calls.Viewed.{table_of, view_of}
use Rattle.tide_posts.specs.tide_heap.tide_core.declared.machine.view.View.{View}
use Rattle.tide_posts.specs.tide_heap.tide_core.machine.Frozen.{newcomer}
use Rattle.tide_posts.specs.tide_heap.tide_core.machine.World.{first_visitor}
use Rattle.tide_server.specs.AtWork.{IsAtWork, IsParked}
use Rattle.tide_server.specs.Helpers.{IsHelperOf}
use Rattle.tide_server.specs.Members.{IsMemberOf}
use Rattle.tide_server.specs.Opened.{AreHelpers, AreMembers}
use Rattle.tide_server.specs.declared.helper.Helper.{Helper}
use Rattle.tide_server.specs.declared.member.Member.{Member}
use Rattle.tide_visitor.specs.Viewed as visiting

-- who knows nothing yet stands still
IsParked-newcomer : (who : ℕ) → IsParked (newcomer who)
IsParked-newcomer who = record {
  rests = refl;
  begun = (let e : 0 ≤ 0 = omega arith in e);
  own = refl;
  opens = (let e : 0 ≤ 0 = omega arith in e);
}

module _ (layout : Layout) (heap hands : TableId) where
  -- a mutator that has made no call is a member
  pub IsMemberOf-newcomer : (m : Member) (who : ℕ) → table_of m.mutator ≡ heap → m.seat.seat.table_id ≡ hands →
      m.seat.seat.me.0.name ≡ record { layout = layout; table_id = heap } → view_of m.mutator ≡ newcomer who →
      m.works ≡ false → who < layout.mutators → IsMemberOf layout heap hands m
  IsMemberOf-newcomer m who table seated named new rests below = record {
    table = table;
    seated = seated;
    named = named;
    is_mutator = subst (λ (v : View). v.who < layout.mutators) (sym new) below;
    stands = subst (λ (b : Bool). MatchBool b (IsAtWork (view_of m.mutator) m.left m.ended) (IsParked (view_of m.mutator)))
        (sym rests) (subst IsParked (sym new) (IsParked-newcomer who));
  }

  -- a visitor that has made no visit is a helper
  pub IsHelperOf-newcomer : (h : Helper) (n : ℕ) → visiting.table_of h.visitor ≡ heap → h.seat.seat.table_id ≡ hands →
      h.seat.seat.me.0.name ≡ record { layout = layout; table_id = heap } →
      visiting.view_of h.visitor ≡ newcomer (first_visitor + n) → n < layout.visitors →
      h.seat.place ≡ layout.mutators + n → cell_count layout ≤ visiting.stack_room_of h.visitor →
      IsHelperOf layout heap hands h
  IsHelperOf-newcomer h n table seated named new below at room = record {
    table = table;
    seated = seated;
    named = named;
    is_visitor = record {
      is_visitor = (let who = number in omega (arith, who));
      within = (let who = number in omega (arith, who, below));
    };
    behind = behind;
    who = number ∙ (let e : first_visitor + n ≡ first_visitor + (h.seat.place - layout.mutators) = omega (arith, at) in e)
        ∙ sym (ap (λ (b : Bool). if b then h.seat.place else first_visitor + (h.seat.place - layout.mutators))
        (le-ltb h.seat.place layout.mutators behind));
    room = room;
  }
    where
      number : (visiting.view_of h.visitor).who ≡ first_visitor + n
      number = ap (λ (v : View). v.who) new

      behind : layout.mutators ≤ h.seat.place
      behind = omega (arith, at)

  pub AreMembers-push : (first : ℕ) (ms : List Member) (m : Member) → AreMembers layout heap hands first ms →
      IsMemberOf layout heap hands m → view_of m.mutator ≡ newcomer (first + length ms) →
      AreMembers layout heap hands first (ms ++ m ∷ [])
  AreMembers-push first [] m are is new = (is, new ∙ ap newcomer (let e : first + 0 ≡ first = omega arith in e), tt)
  AreMembers-push first (n ∷ ms) m are is new = (
    are.0,
    are.1,
    AreMembers-push (suc first) ms m are.2 is
        (new ∙ ap newcomer (let e : first + suc (length ms) ≡ suc first + length ms = omega arith in e)),
  )

  pub AreHelpers-push : (first : ℕ) (hs : List Helper) (h : Helper) → AreHelpers layout heap hands first hs →
      IsHelperOf layout heap hands h → visiting.view_of h.visitor ≡ newcomer (first + length hs) →
      AreHelpers layout heap hands first (hs ++ h ∷ [])
  AreHelpers-push first [] h are is new = (is, new ∙ ap newcomer (let e : first + 0 ≡ first = omega arith in e), tt)
  AreHelpers-push first (n ∷ hs) h are is new = (
    are.0,
    are.1,
    AreHelpers-push (suc first) hs h are.2 is
        (new ∙ ap newcomer (let e : first + suc (length hs) ≡ suc first + length hs = omega arith in e)),
  )
