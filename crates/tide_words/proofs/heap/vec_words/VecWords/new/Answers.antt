-- Why `new` meets its contract.
use Rattle.std.proofs.Common.{◌≡◌, ℕ, ◌∙◌, ap, subst, replicate}
use Rattle.tide_words.specs.heap.Filled.{IsFilledTo}
use Rattle.tide_layout.specs.Region.{word_count}
use Rattle.tide_layout.specs.declared.region.Region.TheVariants.{Active, Free}
use Rattle.tide_words.proofs.heap_laws.Filling.{Reads-empty}
use Rattle.tide_words.proofs.heap.vec_words.VecWords.new.Goals as goal

pub returns : goal.returns
returns c =
    let layout = c.args.layout.now in
    let zeros = c.in-Ok.words.items in
    let all_zero : zeros ≡ replicate (word_count layout) 0 = c.in-Ok.ensures.items_if_clones_equal (λ y e. e) ∙ ap (λ (n : ℕ). replicate n 0) c.words.ensures.words in
    let mutators : c.from.result ≡ layout.mutators = cc in
    let active = subst (λ (count : ℕ). IsFilledTo layout Active 1 count c.fill.new.self c.fill-2.new.self) mutators c.fill-2.ensures in
    let free = subst (λ (count : ℕ). IsFilledTo layout Free 18446744073709551615 count c.fill-2.new.self c.fill-3.new.self) c.block_count.ensures.count c.fill-3.ensures in
    Reads-empty layout zeros c.fill.new.self c.fill-2.new.self c.fill-3.new.self all_zero c.fill.ensures active free
