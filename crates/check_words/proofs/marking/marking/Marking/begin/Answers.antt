use Rattle.std.proofs.Common.{ℕ, ◌≡◌, sym, ◌∙◌, ap, subst, List, []}
use Rattle.std.specs.Prelude.{slice_set}
use Rattle.tide_layout.specs.declared.region.Region.TheVariants.{Phase}
use Rattle.tide_words.specs.marking.Greys.{Greys}
use Rattle.tide_layout.specs.Region.{place_in}
use Rattle.tide_solver.specs.Traced.{IsUnderway}
use Rattle.check_words.proofs.marking_laws.Beginning.{IsUnderway-first}
use Rattle.check_words.proofs.marking.marking.Marking.begin.Goals as goal

pub invariant_of-result : goal.invariant_of-result
invariant_of-result c =
    let layout = c.args.heap.layout in
    let words = c.args.heap.words in
    let stored = c.store.ensures.stored ∙ ap (slice_set words c.place.result) c.phase_word.ensures ∙ ap (λ (place : ℕ). slice_set words place 3) c.place.ensures.place in
    let list : c.in-Ok.list ≡ _ = c.in-Ok.ensures ∙ ap {B = Greys} (λ (cap : ℕ). record { cells = []; cap = cap }) c.cells.ensures.count in
    subst (λ (ws : List ℕ). IsUnderway layout ws c.in-Ok.list) (sym stored)
    (subst (λ (greys : Greys). IsUnderway layout (slice_set words (place_in layout Phase 0) 3) greys) (sym list) (IsUnderway-first layout words c.args.heap.all_words))
