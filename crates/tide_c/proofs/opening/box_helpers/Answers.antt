-- One more is in its box, on the heap that all share.
use Rattle.std.proofs.Common.{List, [], ◌∷◌, ◌++◌, refl, sym, subst}
use Rattle.std.proofs.lemmas.List.{map-append}
use Rattle.std.specs.Arc.{arc_value}
use Rattle.std.specs.List.{AllZip}
use Rattle.std.specs.declared.alloc.Global.{Global}
use Rattle.std.specs.declared.boxed.Box.{Box}
use Rattle.tide_c.proofs.Lists.{AllZip-push}
use Rattle.tide_c.specs.Opened.{HasPlace, parties_in}
use Rattle.tide_c.specs.declared.party.Party.{Party}
use Rattle.tide_c.proofs.opening.box_helpers.Goals as goal

pub loop-helper-preserved : goal.loop-helper-preserved
loop-helper-preserved c =
    let m = c.in-Some.helper in let boxed = c.in_ok-new.field-0 in let its = c.in_ok-try_clone.ensures in
    let shared = arc_value c.args.shared.now in
    let R = HasPlace shared.heap.key.layout shared.heap.table.shared.table_id shared.hands.shared.table_id in
    let seated : R m boxed.value = record {
      party = record { shared = c.in_ok-try_clone.field-0; helper = m };
      is = c.in_ok-new.ensures.ok;
      its_layout = λ j. (its j).heap.key.layout;
      its_heap = λ j. (its j).heap.table.shared.table_id;
      its_hands = λ j. (its j).hands.shared.table_id;
      is_helper = refl;
    } in
    subst (λ (boxes : List (Box Party Global)). AllZip R (c.loop-helper.yielded ++ m ∷ []) (parties_in boxes)) (sym c.in_ok-push.ensures.items)
    (subst (AllZip R (c.loop-helper.yielded ++ m ∷ [])) (sym (map-append (λ (b : Box Party Global). b.value) c.loop-helper.boxes.items (boxed ∷ [])))
    (AllZip-push R c.loop-helper.yielded (parties_in c.loop-helper.boxes.items) m boxed.value c.loop-helper.invariant seated))
