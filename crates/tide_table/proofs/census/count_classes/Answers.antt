-- Why the cells of each class that live are counted.
use Rattle.std.proofs.Common.{ℕ, ◌≡◌, ◌+◌, ◌*◌, ◌∙◌, refl, ap, subst, arith, inl, inr, List, length, length-set, get_or-set_other, get_or-set_same, slice_index, slice_set}
use Rattle.std.proofs.lemmas.Bool.{cases_lt}
use Rattle.tide_heap.proofs.tide_block.BlockLaws.{first_block_of-next}
use Rattle.tide_heap.specs.tide_words.heap.Heap.{heap_of}
use Rattle.tide_heap.specs.tide_words.heap.Live.{is_live_at}
use Rattle.tide_model.specs.Numbers.{count_where}
use Rattle.tide_table.proofs.ClassCounts.{blocks_within, counted-class}
use Rattle.tide_table.specs.Census.{count_in_class}
use Rattle.tide_table.proofs.census.count_classes.Goals as goal

pub loop-class-init : goal.loop-class-init
loop-class-init g c = record {
  from = refl;
  few = omega arith;
  long = refl;
  count = λ k below. absurd (omega (arith, below));
  same = refl;
  rest = refl;
}

pub overflow_add-to : goal.overflow_add-to
overflow_add-to g c =
    let few = c.loop-class.invariant.few in
    let more = c.blocks-in-loop-class.ensures.few in
    let below = c.loop-class-test.true in
    omega (arith, few, more, below)

pub count_over-requires : goal.count_over-requires
count_over-requires g c =
    let class = c.loop-class.class in
    let few = c.loop-class.invariant.few in
    let more = c.blocks-in-loop-class.ensures.few in
    let below = c.loop-class-test.true in
    let first = c.loop-class.invariant.from in
    let blocks = c.blocks-in-loop-class.ensures.count in
    let within = blocks_within c.args.layout.now class c.blocks-in-loop-class.ensures.limits.five_cell_classes below in record {
      all_words = ap {A = List ℕ} length c.loop-class.invariant.same ∙ c.requires;
      rising = omega arith;
      of_layout = omega (arith, within, first, blocks);
      few = omega (arith, few, more, below);
    }

pub loop-class-preserved : goal.loop-class-preserved
loop-class-preserved g c =
    let layout = c.args.layout.now in
    let class = c.loop-class.class in
    let counts = c.loop-class.counts in
    let from = c.loop-class.from in
    let blocks = c.blocks-in-loop-class.result in
    let result = c.count_over.result in
    let live = is_live_at (heap_of layout (g.W.Words.words c.args.words.now)) in
    let at : c.from.result ≡ class = c.from.ensures in
    let first = c.loop-class.invariant.from in
    let many = c.blocks-in-loop-class.ensures.count in
    let next = first_block_of-next layout class in
    let few = c.loop-class.invariant.few in
    let most = c.blocks-in-loop-class.ensures.few in
    let long = c.loop-class.invariant.long in
    let stands = c.loop-class-test.true in
    let counted : result ≡ count_in_class live layout class = counted-class live layout class from blocks result first many
    (subst (λ (l : List ℕ). count_where (is_live_at (heap_of layout l)) (64 * from) + result
    ≡ count_where (is_live_at (heap_of layout l)) (64 * (from + blocks))) c.loop-class.invariant.same c.count_over.ensures.count) in
    record {
      from = omega (arith, first, many, next);
      few = omega (arith, few, most);
      long = length-set counts c.from.result result ∙ long;
      count = λ k below. elim (cases_lt k class) [
        | inl earlier ↦
            get_or-set_other counts c.from.result k result 0 (λ same. omega (arith, same, at, earlier))
            ∙ c.loop-class.invariant.count k earlier
        | inr late ↦
            let here : k ≡ c.from.result = omega (arith, at, late, below) in
            let is : class ≡ k = omega (arith, late, below) in
            ap (slice_index (slice_set counts c.from.result result)) here
            ∙ get_or-set_same counts c.from.result result 0 (omega (arith, at, long, stands))
            ∙ counted ∙ ap (count_in_class live layout) is
      ];
      same = c.count_over.ensures.same ∙ c.loop-class.invariant.same;
      rest = c.count_over.ensures.same_rest ∙ c.loop-class.invariant.rest;
    }

pub returns-clause-count : goal.returns-clause-count
returns-clause-count g c class below =
    let stop = c.loop-class-test.false in
    c.loop-class.invariant.count class (omega (arith, stop, below))
