-- The cells that were found are visited one after another, until none is left.
use Rattle.std.proofs.Common.{ℕ, ◌<◌, ◌≤◌, sym, ◌∙◌, ap, subst, arith, List, length, Option}
use Rattle.tide_retained.specs.Searching.{FindsAll, HasKeysBelow, Search, roots_entered, unsearched}
use Rattle.tide_retained.specs.declared.search.Found.{Found}
use Rattle.tide_retained.proofs.LevelLaws.{all_found, begun_size, levelling_begins, one_levelling, sound_flags}
use Rattle.tide_retained.proofs.RetainLaws.{ordered_found, visit_size}
use Rattle.tide_retained.proofs.phases.found.Goals as goal

pub loop-at-init : goal.loop-at-init
loop-at-init c =
    let flags = c.args.retained.items in
    let contents = c.args.contents.now in
    let wide : length contents.cells.items ≤ length flags = c.requires.cells in
    let same = c.in_ok-enter_roots.ensures ∙ ap (λ (s : Search). roots_entered s c.as_slice.result.now) c.in_ok-search.ensures ∙ ap (roots_entered (unsearched flags)) c.as_slice.ensures.value in
    record {
      levelling = levelling_begins contents flags c.enter_roots.new.self wide c.requires.retained same;
      sized = begun_size contents flags c.enter_roots.new.self wide (sound_flags contents flags c.requires.retained) same;
    }

pub visit-requires : goal.visit-requires
visit-requires c =
    let within : c.loop-at.at < length c.loop-at.search.order = (let test = c.loop-at-test.true in let len = c.len.ensures in omega (arith, test, len)) in
    record {
      search = c.loop-at.invariant.levelling.stands;
      found = ordered_found c.args.contents.now c.loop-at.search c.loop-at.at c.cell_at-cell.result c.loop-at.invariant.levelling.stands within c.cell_at-cell.ensures;
      groups = c.requires.groups;
    }

pub loop-at-preserved : goal.loop-at-preserved
loop-at-preserved c =
    let contents = c.args.contents.now in
    let search = c.loop-at.search in
    let cell = c.cell_at-cell.result in
    let within : c.loop-at.at < length search.order = (let test = c.loop-at-test.true in let len = c.len.ensures in omega (arith, test, len)) in
    let found = ordered_found contents search c.loop-at.at cell c.loop-at.invariant.levelling.stands within c.cell_at-cell.ensures in
    let few = subst (λ (n : ℕ). HasKeysBelow n contents) (sym c.loop-at.invariant.sized) c.requires.few in
    record {
      levelling = one_levelling contents search c.visit.new.self c.loop-at.at cell c.loop-at.invariant.levelling few within (sym c.cell_at-cell.ensures) c.in_ok-visit.ensures;
      sized = visit_size contents search c.visit.new.self cell found c.in_ok-visit.ensures ∙ c.loop-at.invariant.sized;
    }

pub returns : goal.returns
returns c =
    let search = c.loop-at.search in
    let done : length search.order ≤ c.loop-at.at = (let test = c.loop-at-test.false in let len = c.len.ensures in omega (arith, test, len)) in
    record {
      sized = ap {A = List (Option Found)} length c.into_found.ensures.found ∙ c.loop-at.invariant.sized;
      found = subst (FindsAll c.args.contents.now) (sym c.into_found.ensures.found) (all_found c.args.contents.now search c.loop-at.at c.loop-at.invariant.levelling done);
    }
