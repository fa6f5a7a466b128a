-- One more is in its box, on the heap that all share.
use Rattle.std.proofs.Common.{List, [], ◌∷◌, ◌++◌, false, refl, sym, subst}
use Rattle.std.proofs.lemmas.List.{map-append}
use Rattle.std.specs.Arc.{arc_value}
use Rattle.std.specs.List.{AllZip}
use Rattle.std.specs.declared.alloc.Global.{Global}
use Rattle.std.specs.declared.boxed.Box.{Box}
use Rattle.tide_c.proofs.Lists.{AllZip-push}
use Rattle.tide_c.specs.Opened.{HasSeat, parties_in}
use Rattle.tide_c.specs.declared.party.Party.{Party}
use Rattle.tide_c.proofs.opening.box_members.Goals as goal

pub loop-member-preserved : goal.loop-member-preserved
loop-member-preserved c =
    let m = c.in-Some.member in let boxed = c.in_ok-new.field-0 in let its = c.in_ok-try_clone.ensures in
    let shared = arc_value c.args.shared.now in
    let R = HasSeat shared.heap.key.layout shared.heap.table.shared.table_id shared.hands.shared.table_id c.args.base in
    let seated : R m boxed.value = record {
      party = record { shared = c.in_ok-try_clone.field-0; member = m; has_left = false; base = c.args.base; top = c.args.base };
      is = c.in_ok-new.ensures.ok;
      its_layout = λ j. (its j).heap.key.layout;
      its_heap = λ j. (its j).heap.table.shared.table_id;
      its_hands = λ j. (its j).hands.shared.table_id;
      is_member = refl;
      stays = refl;
      begins = refl;
      empty = refl;
    } in
    subst (λ (boxes : List (Box Party Global)). AllZip R (c.loop-member.yielded ++ m ∷ []) (parties_in boxes)) (sym c.in_ok-push.ensures.items)
    (subst (AllZip R (c.loop-member.yielded ++ m ∷ [])) (sym (map-append (λ (b : Box Party Global). b.value) c.loop-member.boxes.items (boxed ∷ [])))
    (AllZip-push R c.loop-member.yielded (parties_in c.loop-member.boxes.items) m boxed.value c.loop-member.invariant seated))
