-- Who was just opened stands on its heap, and is behind its handle.
use Rattle.std.proofs.Common.{ℕ, ◌≡◌, ◌∙◌, ◌-◌, List, ap, length, map, subst, sym}
use Rattle.std.proofs.lemmas.List.{length-map}
use Rattle.std.specs.Arc.{arc_value}
use Rattle.std.specs.Prelude.{All, Option, Some}
use Rattle.tide_c.proofs.Lists.{AllZip-length}
use Rattle.tide_c.proofs.Seats.{places_stand, seats_stand}
use Rattle.tide_c.specs.Handles.{IsOpen, values}
use Rattle.tide_c.specs.Opened.{HasOpened, parties_in}
use Rattle.tide_c.specs.Parties.{PartyStands}
use Rattle.std.specs.declared.alloc.Global.{Global}
use Rattle.std.specs.declared.boxed.Box.{Box}
use Rattle.tide_c.specs.declared.handle.Handle.{Handle}
use Rattle.tide_c.specs.declared.opening.Sizes.{Sizes}
use Rattle.tide_c.specs.declared.party.Party.{Party}
use Rattle.tide_c.proofs.exports.tide_open.Goals as goal

members_stand : (sizes : Sizes) (members helpers : ℕ) (keeper : Party) (ms hs : List Party) →
    HasOpened sizes members helpers keeper ms hs → All PartyStands ms
members_stand sizes members helpers keeper ms hs opened =
    seats_stand (arc_value opened.first.shared).heap.key.layout (arc_value opened.first.shared).heap.table.shared.table_id
    (arc_value opened.first.shared).hands.shared.table_id (sizes.registers - sizes.stack) 0 opened.seats ms opened.are opened.seated

helpers_stand : (sizes : Sizes) (members helpers : ℕ) (keeper : Party) (ms hs : List Party) →
    HasOpened sizes members helpers keeper ms hs → All PartyStands hs
helpers_stand sizes members helpers keeper ms hs opened =
    places_stand (arc_value opened.first.shared).heap.key.layout (arc_value opened.first.shared).heap.table.shared.table_id
    (arc_value opened.first.shared).hands.shared.table_id 16 opened.places hs opened.work opened.placed

members_many : (sizes : Sizes) (members helpers : ℕ) (keeper : Party) (ms hs : List Party) →
    HasOpened sizes members helpers keeper ms hs → length ms ≡ members
members_many sizes members helpers keeper ms hs opened = sym (AllZip-length _ opened.seats ms opened.seated) ∙ opened.each_member

helpers_many : (sizes : Sizes) (members helpers : ℕ) (keeper : Party) (ms hs : List Party) →
    HasOpened sizes members helpers keeper ms hs → length hs ≡ helpers
helpers_many sizes members helpers keeper ms hs opened = sym (AllZip-length _ opened.places hs opened.placed) ∙ opened.each_helper

same_length : (old new : List Handle) → values new ≡ values old → length old ≡ length new
same_length old new same =
    sym (length-map old (λ (h : Handle). h.value)) ∙ sym (ap length same) ∙ length-map new (λ (h : Handle). h.value)

is_open : (sizes : Sizes) (members helpers : ℕ) (keeper : Option Party) (first : Party) (ms hs : List Party)
    (behind_members behind_helpers : List (Option Party)) → keeper ≡ Some first → behind_members ≡ map Some ms →
    behind_helpers ≡ map Some hs → HasOpened sizes members helpers first ms hs → IsOpen sizes keeper behind_members behind_helpers
is_open sizes members helpers keeper first ms hs behind_members behind_helpers is_keeper are_members are_helpers opened = record {
  first = first;
  ms = ms;
  hs = hs;
  has_keeper = is_keeper;
  has_members = are_members;
  has_helpers = are_helpers;
  opened = subst (λ (n : ℕ). HasOpened sizes n (length behind_helpers) first ms hs)
      (sym (ap length are_members ∙ length-map ms Some ∙ members_many sizes members helpers first ms hs opened))
      (subst (λ (n : ℕ). HasOpened sizes members n first ms hs)
      (sym (ap length are_helpers ∙ length-map hs Some ∙ helpers_many sizes members helpers first ms hs opened)) opened);
}

pub put_all-requires-clause-stand : goal.put_all-requires-clause-stand
put_all-requires-clause-stand c =
    members_stand c.args.sizes.now _ _ c.in-Ok.parties.keeper.value _ (parties_in c.in-Ok.parties.helpers.items) c.in-Ok.ensures.opened

pub put_all-requires-clause-many : goal.put_all-requires-clause-many
put_all-requires-clause-many c =
    sym (length-map c.in-Ok.parties.members.items (λ (b : Box Party Global). b.value))
    ∙ members_many c.args.sizes.now _ _ c.in-Ok.parties.keeper.value _ (parties_in c.in-Ok.parties.helpers.items) c.in-Ok.ensures.opened
    ∙ same_length c.args.members.now c.are_empty.new.handles c.are_empty.ensures.same

pub put_all-requires-2-clause-stand : goal.put_all-requires-2-clause-stand
put_all-requires-2-clause-stand c =
    helpers_stand c.args.sizes.now _ _ c.in-Ok.parties.keeper.value (parties_in c.in-Ok.parties.members.items) _ c.in-Ok.ensures.opened

pub put_all-requires-2-clause-many : goal.put_all-requires-2-clause-many
put_all-requires-2-clause-many c =
    sym (length-map c.in-Ok.parties.helpers.items (λ (b : Box Party Global). b.value))
    ∙ helpers_many c.args.sizes.now _ _ c.in-Ok.parties.keeper.value (parties_in c.in-Ok.parties.members.items) _ c.in-Ok.ensures.opened
    ∙ same_length c.args.helpers.now c.are_empty-else-not-are_empty.new.handles c.are_empty-else-not-are_empty.ensures.same

pub returns-clause-opened : goal.returns-clause-opened
returns-clause-opened c done =
    is_open c.args.sizes.now _ _ c.put.new.handle.value c.in-Ok.parties.keeper.value (parties_in c.in-Ok.parties.members.items)
    (parties_in c.in-Ok.parties.helpers.items) (values c.put_all.new.handles) (values c.put_all-2.new.handles)
    c.put.ensures c.put_all.ensures c.put_all-2.ensures c.in-Ok.ensures.opened
