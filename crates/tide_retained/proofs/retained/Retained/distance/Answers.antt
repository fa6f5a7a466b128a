-- How far it was found is how far it is.
use Rattle.std.proofs.Common.{◌<◌, ◌≤◌, List, Option, None, Some, length, arith, subst, sym, ap, ◌∙◌}
use Rattle.tide_retained.specs.declared.search.Found.{Found}
use Rattle.tide_retained.specs.Retention.{Retention}
use Rattle.tide_retained.specs.Searching.{FindsAll, found_in}
use Rattle.tide_retained.proofs.RetentionLaws.{distance_is}
use Rattle.tide_retained.proofs.retained.Retained.distance.Goals as goal

pub returns-in-Some : goal.returns-in-Some
returns-in-Some c = λ layout state is.
    let found = c.self.inside.found.items in
    let all = subst (λ (kept : Retention). length kept.contents.cells.items ≤ length found) c.self.view_is c.self.invariant.finds.wide in
    let within : c.args.cell < length found = (let few = c.requires in let least = c.self.invariant.least in omega (arith, few, least, all)) in
    distance_is layout state c.args.self.now.contents found is (subst (λ (kept : Retention). FindsAll kept.contents found) c.self.view_is c.self.invariant.finds) c.args.cell (Some c.in-Some.place) within
    (sym (ap (λ (list : List (Option Found)). found_in list c.args.cell) c.as_slice.ensures.value) ∙ sym c.place_of.ensures ∙ c.in-Some.is)

pub returns-in-None : goal.returns-in-None
returns-in-None c = λ layout state is.
    let found = c.self.inside.found.items in
    let all = subst (λ (kept : Retention). length kept.contents.cells.items ≤ length found) c.self.view_is c.self.invariant.finds.wide in
    let within : c.args.cell < length found = (let few = c.requires in let least = c.self.invariant.least in omega (arith, few, least, all)) in
    distance_is layout state c.args.self.now.contents found is (subst (λ (kept : Retention). FindsAll kept.contents found) c.self.view_is c.self.invariant.finds) c.args.cell None within
    (sym (ap (λ (list : List (Option Found)). found_in list c.args.cell) c.as_slice.ensures.value) ∙ sym c.place_of.ensures ∙ c.in-None.is)
