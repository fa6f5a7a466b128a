-- A part is open before each.
use Rattle.embed_heap.specs.visitor.Shares.{HasOpened}
use Rattle.embed_heap.proofs.large.filling.repeat.Given as goal

abbrev pub invariant-loop-part : goal.invariant-loop-part
invariant-loop-part g l = HasOpened l.shared
