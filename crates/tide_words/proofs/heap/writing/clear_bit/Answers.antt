-- Why `clear_bit` meets its contract.
use Rattle.std.proofs.Common.{ℕ, ◌≡◌, ◌∙◌, ap, subst, List}
use Rattle.std.specs.Prelude.{slice_index}
use Rattle.tide_block.specs.Bits.{IsWithBit}
use Rattle.tide_words.specs.heap.Heap.{heap_of}
use Rattle.tide_words.specs.heap.Written.{IsWritten}
use Rattle.tide_words.proofs.heap_laws.WriteLaws.{IsBitPut-written}
use Rattle.tide_words.proofs.heap.writing.clear_bit.Goals as goal

pub returns-clause-put : goal.returns-clause-put
returns-clause-put g c =
    let layout = c.args.layout.now in
    let words = g.W.Words.words c.args.words.now in
    let new = heap_of layout (g.W.Words.words c.store_word.new.words) in
    let word : c.load-word.result ≡ heap_of layout words c.args.region c.args.index =
    c.load-word.ensures.word ∙ ap (slice_index words) c.place.ensures.place in
    IsBitPut-written layout (heap_of layout words) new c.args.region c.args.index c.args.bit 0 c.without_bit.result c.requires.of_region
    (subst (λ (w : ℕ). IsWithBit w c.without_bit.result c.args.bit 0) word c.without_bit.ensures)
    (subst (λ (list : List ℕ). IsWritten layout (heap_of layout list) new c.args.region c.args.index c.without_bit.result) c.load-word.ensures.same c.store_word.ensures.written)
