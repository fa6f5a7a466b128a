-- Why `firsts_of` meets its contract.
use Rattle.std.proofs.Common.{ℕ, sym, ◌∙◌, ap, arith, length-set, inl, inr}
use Rattle.std.proofs.lemmas.Bool.{cases_eq}
use Rattle.std.proofs.lemmas.Grind.{get_or-set_at}
use Rattle.std.proofs.lemmas.List.{get_or-set_other}
use Rattle.std.proofs.lemmas.List.Sums.{sum_by-take-le, sum_by_more}
use Rattle.tide_layout.specs.Firsts.{first_id}
use Rattle.tide_layout.specs.Slots.{words_among}
use Rattle.tide_layout.proofs.FirstsLaws.{firsts_of-is}
use Rattle.tide_layout.proofs.LimitLaws.{few_in_all}
use Rattle.tide_layout.proofs.firsts.firsts_of.Goals as goal

pub loop-class-preserved : goal.loop-class-preserved
loop-class-preserved c =
    let blocks = c.args.blocks.now in
    let class = c.loop-class.class in
    let next = c.loop-class.next in
    let is = c.loop-class.invariant.next in
    let five_ids = c.loop-class.invariant.five_ids in
    let five_words = c.loop-class.invariant.five_words in
    let test = c.loop-class-test.true in
    let more = sum_by_more (λ (x : ℕ). x) blocks class 0 (omega (arith, test)) in
    let words = c.words_among.result in
    record {
      five_ids = length-set c.loop-class.ids class next ∙ five_ids;
      five_words = length-set c.loop-class.words class words ∙ five_words;
      next = omega (arith, is, more);
      ids = λ k before. elim (cases_eq k class) [
        | inl here ↦ get_or-set_at c.loop-class.ids class k next 0 here (omega (arith, five_ids, test)) ∙ is ∙ ap (first_id blocks) (sym here)
        | inr other ↦ get_or-set_other c.loop-class.ids class k next 0 other ∙ c.loop-class.invariant.ids k (omega (arith, before, other))
      ];
      words = λ k before. elim (cases_eq k class) [
        | inl here ↦ get_or-set_at c.loop-class.words class k words 0 here (omega (arith, five_words, test)) ∙ c.words_among.ensures.words
            ∙ ap (words_among blocks c.args.first) is ∙ ap (λ (n : ℕ). words_among blocks c.args.first (first_id blocks n)) (sym here)
        | inr other ↦ get_or-set_other c.loop-class.words class k words 0 other ∙ c.loop-class.invariant.words k (omega (arith, before, other))
      ];
    }

pub overflow_add-next : goal.overflow_add-next
overflow_add-next c =
    let blocks = c.args.blocks.now in
    let is = c.loop-class.invariant.next in
    let part = sum_by-take-le (λ (x : ℕ). x) blocks c.loop-class.class in
    let all = few_in_all blocks c.told-blocks c.requires.few_blocks in
    let one = c.requires.few_blocks c.loop-class.class in
    omega (arith, is, part, all, one)

pub returns : goal.returns
returns c =
    let all = c.loop-class-test.false in
    firsts_of-is c.args.blocks.now c.args.first c.loop-class.ids c.loop-class.words c.loop-class.invariant.five_ids
    c.loop-class.invariant.five_words (λ class few. c.loop-class.invariant.ids class (omega (arith, few, all)))
    (λ class few. c.loop-class.invariant.words class (omega (arith, few, all)))
