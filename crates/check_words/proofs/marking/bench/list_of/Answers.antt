-- Answers to the goals of bench::list_of: at most all cells aren't marked.
use Rattle.std.proofs.Common.{◌∙◌, ap, arith, length}
use Rattle.std.specs.Prelude.{not}
use Rattle.tide_model.specs.Layout.{cell_count}
use Rattle.tide_words.specs.marking.Greys.{Greys, pushed}
use Rattle.tide_words.specs.marking.Marked.{is_marked}
use Rattle.tide_layout.proofs.ClassWidths.{count_where-le}
use Rattle.check_words.proofs.marking.bench.list_of.Goals as goal

pub returns-in-Ok-clause-room : goal.returns-in-Ok-clause-room
returns-in-Ok-clause-room c heap =
    let is = c.push.ensures ∙ ap (λ (greys : Greys). pushed greys c.args.listed) c.in-Ok.ensures in
    let one = ap (λ (greys : Greys). length greys.cells) is in
    let cap = ap (λ (greys : Greys). greys.cap) is in
    let most = count_where-le (λ cell. not (is_marked heap cell)) (cell_count c.args.layout.now) in
    let all = c.cells.ensures.count in
    omega (arith, one, cap, most, all)
