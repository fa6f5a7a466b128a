-- The cells that were found are visited one after another, until none is left.
use Rattle.std.proofs.Common.{ℕ, ◌≡◌, ◌<◌, ◌≤◌, sym, ◌∙◌, ap, subst, arith, Bool, false, List, length, get_or}
use Rattle.std.proofs.lemmas.List.{length-replicate}
use Rattle.tide_retained.specs.Searching.{AreRetained, HasKeysBelow, Search, roots_entered, unsearched}
use Rattle.tide_retained.proofs.LevelLaws.{begun_size, none_mated, retaining_begins}
use Rattle.tide_retained.proofs.RetainLaws.{all_retained, one_retaining, ordered_found, visit_size}
use Rattle.tide_retained.proofs.phases.retained.Goals as goal

pub loop-at-init : goal.loop-at-init
loop-at-init c =
    let flags = c.in_ok-none.none.items in
    let contents = c.args.contents.now in
    let counted : length flags ≡ c.args.cells = ap {A = List Bool} length c.in_ok-none.ensures ∙ length-replicate c.args.cells false in
    let wide : length contents.cells.items ≤ length flags = (let few = c.requires.cells in omega (arith, few, counted)) in
    let none : (cell : ℕ) → get_or flags cell false ≡ false = λ cell. ap (λ (l : List Bool). get_or l cell false) c.in_ok-none.ensures ∙ none_mated c.args.cells cell in
    let same = c.in_ok-enter_roots.ensures ∙ ap (λ (s : Search). roots_entered s c.as_slice.result.now) c.in_ok-search.ensures ∙ ap (roots_entered (unsearched flags)) c.as_slice.ensures.value in
    record {
      retaining = retaining_begins contents flags c.enter_roots.new.self wide none same;
      sized = begun_size contents flags c.enter_roots.new.self wide (λ cell set. (let not = none cell in absurd (cc))) same ∙ counted;
    }

pub visit-requires : goal.visit-requires
visit-requires c =
    let within : c.loop-at.at < length c.loop-at.search.order = (let test = c.loop-at-test.true in let len = c.len.ensures in omega (arith, test, len)) in
    record {
      search = c.loop-at.invariant.retaining.stands;
      found = ordered_found c.args.contents.now c.loop-at.search c.loop-at.at c.cell_at-cell.result c.loop-at.invariant.retaining.stands within c.cell_at-cell.ensures;
      groups = c.requires.groups;
    }

pub loop-at-preserved : goal.loop-at-preserved
loop-at-preserved c =
    let contents = c.args.contents.now in
    let search = c.loop-at.search in
    let cell = c.cell_at-cell.result in
    let within : c.loop-at.at < length search.order = (let test = c.loop-at-test.true in let len = c.len.ensures in omega (arith, test, len)) in
    let found = ordered_found contents search c.loop-at.at cell c.loop-at.invariant.retaining.stands within c.cell_at-cell.ensures in
    record {
      retaining = one_retaining contents search c.visit.new.self c.visit_key.new.self c.loop-at.at cell c.loop-at.invariant.retaining within (sym c.cell_at-cell.ensures)
          c.in_ok-visit.ensures c.in_ok-visit_key.ensures;
      sized = c.in_ok-visit_key.ensures.extends.same_size ∙ visit_size contents search c.visit.new.self cell found c.in_ok-visit.ensures ∙ c.loop-at.invariant.sized;
    }

pub returns : goal.returns
returns c =
    let search = c.loop-at.search in
    let done : length search.order ≤ c.loop-at.at = (let test = c.loop-at-test.false in let len = c.len.ensures in omega (arith, test, len)) in
    let few = subst (λ (n : ℕ). HasKeysBelow n c.args.contents.now) (sym c.loop-at.invariant.sized) c.requires.few in
    record {
      sized = ap {A = List Bool} length c.into_retained.ensures ∙ c.loop-at.invariant.retaining.stands.sized ∙ c.loop-at.invariant.sized;
      retained = subst (AreRetained c.args.contents.now) (sym c.into_retained.ensures) (all_retained c.args.contents.now search c.loop-at.at c.loop-at.invariant.retaining done few);
    }
