-- Why a new heap meets the rule.
use Rattle.std.proofs.Common.{◌≡◌, ℕ, List, subst, ◌∙◌, ap, replicate}
use Rattle.tide_heap.specs.tide_layout.Region.{block_count}
use Rattle.tide_heap.specs.tide_layout.declared.region.Region.TheVariants.{Active, Base, Free}
use Rattle.tide_heap.specs.tide_core.declared.machine.view.View.{View}
use Rattle.tide_table.proofs.Starting.{next_trans, started}
use Rattle.tide_table.proofs.Tabled.{opens_at}
use Rattle.tide_table.specs.Started.{HasFilled}
use Rattle.tide_heap.specs.Turns.{first_view}
use Rattle.tide_table.proofs.start.Start.new.Goals as goal

pub of_words-requires : goal.of_words-requires
of_words-requires g c =
    opens_at c.args.layout (g.S.ShapeTable.lists c.args.shapes) c.zeros.result.now c.mutators.ensures.limits
    ((g.met.S.ShapeTable g.world.𝓛 g.world.𝓜 g.world.𝓡 (λ s a. a, λ a. a, λ a. a, λ a. a)).is_table c.args.shapes).empty
    (c.zeros.ensures.zeros ∙ ap (λ (n : ℕ). replicate n 0) c.words-count.ensures.words)

pub zeros-requires : goal.zeros-requires
zeros-requires g c = record {
  enough = λ many.
      c.as_slice.ensures.value ∙ c.in-Ok.ensures.items_if_clones_equal (λ y e. e)
      ∙ ap (λ (n : ℕ). replicate n 0) (c.zeros_besides.ensures.enough many);
}

pub returns-clause-started : goal.returns-clause-started
returns-clause-started g c =
    let layout = c.args.layout in
    let seat = c.in-Ok-of_words.seat in
    let zero = c.fill.new.self.seat.me.0 in
    let one = c.fill-2.new.self.seat.me.0 in
    let two = c.fill-3.new.self.seat.me.0 in
    let made = c.in-Ok-of_words.ensures.4 in
    let first : seat.me.0 ≡ first_view layout = ap (λ (m : View × List (ℕ × Unit {0})). m.0) made in
    let mutators : c.from-mutators.result ≡ layout.mutators = cc in
    started layout (g.S.ShapeTable.lists c.args.shapes) zero one two c.seat_all-2.new.self.seat.me.0
    (subst (λ (x : View). HasFilled layout Base 1 1 x zero) first c.fill.ensures.filled)
    (subst (λ (n : ℕ). HasFilled layout Active 1 n zero one) mutators c.fill-2.ensures.filled)
    (subst (λ (n : ℕ). HasFilled layout Free 18446744073709551615 n one two)
    (c.block_count-blocks.ensures.count ∙ ap block_count c.layout.ensures)
    c.fill-3.ensures.filled)
    (next_trans two c.seat_all.new.self.seat.me.0 c.seat_all-2.new.self.seat.me.0 c.seat_all.ensures.seated.0
    c.seat_all-2.ensures.seated.0)
