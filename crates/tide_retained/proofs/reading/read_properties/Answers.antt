-- One more property was read.
use Rattle.std.proofs.Common.{ℕ, ◌≡◌, ◌+◌, ◌<◌, List, length, arith, subst, sym, ◌∙◌}
use Rattle.std.specs.Prelude.{IfNone, IfSome, Some}
use Rattle.tide_words.specs.tide_layout.declared.region.Region.TheVariants.{Array}
use Rattle.tide_model.specs.Layout.{array_count}
use Rattle.tide_shape.specs.ShapeTable.{keys_of}
use Rattle.tide_words.specs.forms.Reference.{array_word}
use Rattle.tide_words.specs.heap.Heap.{heap_of}
use Rattle.tide_words.specs.heap.Reading.{IsValueOf, element_word}
use Rattle.tide_retained.specs.Contents.{AreKeysOf}
use Rattle.tide_retained.specs.Holding.{ArePropertiesRead}
use Rattle.tide_retained.proofs.ReadLaws.{one_more_key, one_more_property, property_is}
use Rattle.tide_retained.proofs.reading.read_properties.Goals as goal

pub loop-place-preserved : goal.loop-place-preserved
loop-place-preserved g c =
    let layout = c.args.layout.now in
    let shapes = g.S.ShapeTable.lists c.args.shapes.now in
    let heap = heap_of layout (g.W.Words.words c.args.words.now) in
    let cell = c.args.cell in
    let place = c.loop-place.place in
    let shape = c.read_shape-shape.result in
    let property = c.read_property-property.result in
    let within : place < length (keys_of shapes shape) = (let test = c.loop-place-test.true in let count = c.count-place-end.ensures in omega (arith, test, count)) in
    let some = subst (λ (words : List ℕ). IfSome c.array_of-array.result (λ a. heap_of layout words Array cell ≡ array_word (Some a))) c.read_shape-shape.ensures.same c.array_of-array.ensures.some in
    let none = subst (λ (words : List ℕ). IfNone c.array_of-array.result ((a : ℕ) → a < array_count layout → heap_of layout words Array cell ≡ array_word (Some a) → ⊥))
    c.read_shape-shape.ensures.same c.array_of-array.ensures.none in
    record {
      read = subst (ArePropertiesRead layout shapes heap cell (place + 1)) (sym c.in_ok-push.ensures.items)
          (one_more_property layout shapes heap cell place c.loop-place.list.items property c.loop-place.invariant.read (λ held reads.
          property_is layout shapes heap cell held shape place c.array_of-array.result property reads (c.read_shape-shape.ensures.shape held reads) within
          c.read_property-property.ensures.key some none
          (λ there value is has stands. c.read_property-property.ensures.value there value is has
          (subst (λ (words : List ℕ). IsValueOf value (element_word layout (heap_of layout words) there place)) (sym c.loop-place.invariant.same) stands))));
      keys = subst (AreKeysOf shapes) (sym c.in_ok-push.ensures.items)
          (one_more_key shapes shape place c.loop-place.list.items property c.read_shape-shape.ensures.of_table c.loop-place.invariant.keys c.read_property-property.ensures.key);
      same = c.read_property-property.ensures.same ∙ c.loop-place.invariant.same;
      same_rest = c.read_property-property.ensures.same_rest ∙ c.loop-place.invariant.same_rest;
    }
