-- What stands so far along the way stands there on the path.
use Rattle.std.proofs.Common.{◌≡◌, ◌+◌, ◌<◌, ◌≤◌, List, Option, length, get_or, ap, subst, sym}
use Rattle.tide_retained.specs.declared.search.Found.{Found}
use Rattle.tide_retained.specs.Retention.{Path, Retention, cells_on, path_of, path_to, AreFrom}
use Rattle.tide_retained.specs.Trail.{distance_of, AreOnWay, AreSkips, IsWay}
use Rattle.tide_retained.proofs.RetentionLaws.{cell_there, steps_within}
use Rattle.tide_retained.proofs.TrailLaws.{way_found}
use Rattle.tide_retained.proofs.retained.Retained.cells_on_way.Goals as goal

pub note_way-requires-clause-way : goal.note_way-requires-clause-way
note_way-requires-clause-way c = subst IsWay (sym c.as_slice-found.ensures.value) (way_found c.self.inside.contents c.self.inside.found.items c.self.invariant.finds.placed)

pub note_way-requires-clause-skips : goal.note_way-requires-clause-skips
note_way-requires-clause-skips c =
    subst (AreSkips c.as_slice-found.result.now) (sym c.as_slice-skips.ensures.value)
    (subst (λ (found : List (Option Found)). AreSkips found c.self.inside.skips.items) (sym c.as_slice-found.ensures.value) c.self.invariant.skips_lead)

pub note_way-requires-clause-within : goal.note_way-requires-clause-within
note_way-requires-clause-within c =
    let found = c.self.inside.found.items in
    let same : path_to found c.args.cell ≡ path_of c.args.self.now c.args.cell = ap (λ (kept : Retention). path_of kept c.args.cell) c.self.view_is in
    let few = steps_within found c.args.cell c.args.steps (subst (λ (o : Option Path). c.args.steps < length (cells_on o)) (sym same) c.requires) in
    subst (λ (list : List (Option Found)). c.args.steps ≤ distance_of list c.args.cell) (sym c.as_slice-found.ensures.value) few

pub returns-clause-each : goal.returns-clause-each
returns-clause-each c =
    let found = c.self.inside.found.items in
    let same : path_to found c.args.cell ≡ path_of c.args.self.now c.args.cell = ap (λ (kept : Retention). path_of kept c.args.cell) c.self.view_is in
    subst (λ (o : Option Path). AreFrom (cells_on o) c.args.steps c.note_way.new.cells) same
    (λ k noted within. cell_there found c.args.cell (c.args.steps + k) (get_or c.note_way.new.cells k 0) within
    (subst (λ (list : List (Option Found)). AreOnWay list c.args.cell c.args.steps c.note_way.new.cells) c.as_slice-found.ensures.value c.note_way.ensures.each k noted
    (steps_within found c.args.cell (c.args.steps + k) within)))
