-- One more place was read.
use Rattle.std.proofs.Common.{ℕ, ◌≡◌, ◌<◌, List, ap, arith, subst, ◌∙◌}
use Rattle.std.specs.Prelude.{slice_index}
use Rattle.tide_words.specs.heap.Heap.{heap_of}
use Rattle.tide_words.specs.heap.Reading.{slot_word}
use Rattle.tide_retained.specs.Holding.{ArePairsBefore, PutsPair}
use Rattle.tide_retained.proofs.ReadLaws.{all_pairs, keys_are_few, more_pairs}
use Rattle.tide_retained.proofs.reading.read_pairs.Goals as goal

pub loop-place-preserved : goal.loop-place-preserved
loop-place-preserved g c =
    let layout = c.args.layout.now in
    let heap = heap_of layout (g.W.Words.words c.args.words.now) in
    let table = c.args.table in
    let place = c.loop-place.place in
    let below : place < 8 = (let test = c.loop-place-test.true in omega (arith, test)) in
    let word : c.load-word.result ≡ slot_word layout heap table place =
    c.load-word.ensures.word ∙ ap (slice_index (g.W.Words.words c.loop-place.words)) c.slot.ensures.place
    ∙ ap (λ (words : List ℕ). slot_word layout (heap_of layout words) table place) c.loop-place.invariant.same in
    record {
      read = more_pairs layout heap table place c.loop-place.pairs.items c.push_pair.new.pairs.items c.requires.of_layout c.requires.table below c.loop-place.invariant.read
          (subst (λ (w : ℕ). PutsPair w c.loop-place.pairs.items c.push_pair.new.pairs.items) word c.in_ok-push_pair.ensures);
      same = c.load-word.ensures.same ∙ c.loop-place.invariant.same;
      same_rest = c.load-word.ensures.same_rest ∙ c.loop-place.invariant.same_rest;
    }

pub returns-clause-pairs : goal.returns-clause-pairs
returns-clause-pairs g c = λ pairs is.
    let layout = c.args.layout.now in
    let heap = heap_of layout (g.W.Words.words c.args.words.now) in
    let all : c.loop-place.place ≡ 8 = (let test = c.loop-place-test.false in let most = c.loop-place.auto.place-end in omega (arith, test, most)) in
    all_pairs layout heap c.args.table c.loop-place.pairs.items pairs c.requires.of_layout c.requires.table
    (subst (λ (count : ℕ). ArePairsBefore layout heap c.args.table count c.loop-place.pairs.items) all c.loop-place.invariant.read) is

pub returns-clause-few : goal.returns-clause-few
returns-clause-few g c =
    keys_are_few c.args.layout.now (heap_of c.args.layout.now (g.W.Words.words c.args.words.now)) c.args.table c.loop-place.place c.loop-place.pairs.items c.loop-place.invariant.read
