-- A snapshot has lines under the names of the workload, and none has none.
use Rattle.std.proofs.Common.{ℕ, List, [], Option, refl, sym, subst}
use Rattle.tide_retained.specs.declared.contents.Contents.{Contents}
use Rattle.tide_run.specs.Printing.{AreShownLines}
use Rattle.tide_run.proofs.printing.has_lines.Goals as goal

pub returns-in-Some : goal.returns-in-Some
returns-in-Some c =
    subst (λ (o : Option Contents). (lines : List ℕ) × AreShownLines c.args.done.now.load.keys o lines) (sym c.in-Some.is) (c.has_lines.ensures c.args.done.now.load.keys)

pub returns-in-None : goal.returns-in-None
returns-in-None c = subst (λ (o : Option Contents). (lines : List ℕ) × AreShownLines c.args.done.now.load.keys o lines) (sym c.in-None.is) ([], refl)
