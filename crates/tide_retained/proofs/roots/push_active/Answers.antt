-- The word of the mutator tells whether it is active.
use Rattle.std.proofs.Common.{ℕ, ◌≡◌, List, ap, arith, sym, ◌∙◌, subst}
use Rattle.std.specs.Prelude.{slice_index}
use Rattle.tide_words.specs.tide_layout.declared.region.Region.TheVariants.{Active}
use Rattle.tide_words.specs.tide_layout.Region.{place_in}
use Rattle.tide_words.specs.heap.Heap.{heap_of}
use Rattle.tide_words.specs.heap.Reading.{ReadsAs}
use Rattle.tide_retained.proofs.OkLaws.{on_ok}
use Rattle.tide_retained.proofs.RootLaws.{active_one}
use Rattle.tide_retained.proofs.roots.push_active.Goals as goal

pub returns-clause-registers : goal.returns-clause-registers
returns-clause-registers g c = on_ok c.push_registers.result (λ adds shapes state reads.
    let layout = c.args.layout.now in
    let words = g.W.Words.words c.args.words.now in
    let one : c.load.result ≡ 1 = (let test = c.if-load-ne1.false in omega (arith, test)) in
    let place : c.place.result ≡ place_in layout Active c.args.who = c.place.ensures.place ∙ ap (place_in layout Active) c.from.ensures in
    let word : heap_of layout words Active c.args.who ≡ 1 = sym (ap (slice_index words) place) ∙ sym c.load.ensures.word ∙ one in
    active_one layout shapes (heap_of layout words) state c.args.who c.args.roots.now.items c.push_registers.new.roots.items reads c.requires.of_layout word
    (adds shapes state (subst (λ (list : List ℕ). ReadsAs layout shapes (heap_of layout list) state) (sym c.load.ensures.same) reads))) c.push_registers.ensures.registers
