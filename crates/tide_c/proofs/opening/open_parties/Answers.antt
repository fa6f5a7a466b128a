-- A heap is open, and each of its parties is in its box.
use Rattle.std.proofs.Common.{◌≡◌, ◌∙◌, ◌<◌, ap, arith, refl, sym, subst}
use Rattle.std.specs.Arc.{arc_value}
use Rattle.tide.specs.atomic_table.Seated.{TableId}
use Rattle.tide.specs.tide_model.Layout.{Layout}
use Rattle.tide.specs.tide_sched.Paces.{pace_of}
use Rattle.tide.specs.tide_server.Keepers.{KeeperStands}
use Rattle.tide.specs.tide_server.Opened.{AreHelpers, AreMembers}
use Rattle.tide_c.specs.Opened.{layout_of}
use Rattle.tide_c.specs.declared.party.KeeperParty.{KeeperParty}
use Rattle.tide_c.specs.declared.party.Phase.TheVariants.{Open}
use Rattle.tide_c.proofs.opening.open_parties.Goals as goal

-- what holds of a layout and two tables holds of what is the same
moved : (P : Layout → TableId → TableId → Type 0) (l m : Layout) (a b c d : TableId) → l ≡ m → a ≡ b → c ≡ d → P m b d → P l a c
moved P l m a b c d same_layout same_heap same_hands p =
    subst (λ (x : Layout). P x a c) (sym same_layout) (subst (λ (x : TableId). P m x c) (sym same_heap) (subst (P m b) (sym same_hands) p))

pub returns : goal.returns
returns c =
    let heap = c.in_ok-start.start.heap in let made = c.in_ok-standing.field-0 in let standing = made.standing in
    let value = arc_value c.in_ok-shared.shared in let told = c.in_ok-standing.ensures in
    let same : value ≡ standing = c.in_ok-shared.ensures.ok in
    let its_layout : value.heap.key.layout ≡ heap.key.layout = (λ j. (same j).heap.key.layout) ∙ (λ j. (told.heap j).key.layout) in
    let its_heap : value.heap.table.shared.table_id ≡ heap.table.shared.table_id =
    (λ j. (same j).heap.table.shared.table_id) ∙ (λ j. (told.heap j).table.shared.table_id) in
    let its_hands : value.hands.shared.table_id ≡ standing.hands.shared.table_id = λ j. (same j).hands.shared.table_id in
    let layout : heap.key.layout ≡ layout_of c.args.sizes.now c.args.members c.args.helpers = c.in_ok-start.ensures.made.0 ∙ c.layout.ensures in
    let within = c.requires.within.some in
    let some : 0 < heap.key.layout.mutators = subst (λ (l : Layout). 0 < l.mutators) (sym layout) (omega (arith, within)) in
    let first : KeeperParty = record {
      shared = c.in_ok-shared.shared;
      keeper = made.keeper;
      report = c.in_ok-new.field-0;
      figures = c.new-7.result;
      phase = Open;
    } in
    record {
      opened = record {
        first = first;
        is = c.in_ok-new-2.ensures.ok;
        layout = its_layout ∙ layout;
        stands = record {
          turns = λ opened. moved (λ l a b. KeeperStands l a b made.keeper) _ _ _ _ _ _ its_layout its_heap its_hands (told.stands some);
          empty = ((λ j. (c.in_ok-new.ensures j).cycles), (λ j. (c.in_ok-new.ensures j).ids));
        };
        begins = refl;
        figures = c.new-7.ensures;
        pace = ap pace_of told.pacing ∙ c.pacing.ensures.pace;
        seats = made.members.items;
        each_member = told.members.0 ∙ ap (λ (l : Layout). l.mutators) layout;
        are = moved (λ l a b. AreMembers l a b 0 made.members.items) _ _ _ _ _ _ its_layout its_heap its_hands told.members.1;
        seated = c.in_ok-members.ensures.boxed;
        places = made.helpers.items;
        each_helper = told.helpers.0 ∙ ap (λ (l : Layout). l.visitors) layout;
        work = moved (λ l a b. AreHelpers l a b 16 made.helpers.items) _ _ _ _ _ _ its_layout its_heap its_hands told.helpers.1;
        placed = c.in_ok-helpers.ensures.boxed;
      };
    }
