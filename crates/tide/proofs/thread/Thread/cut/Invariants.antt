-- The registers from `top` on that were pushed to are emptied, and the root stack ends below them.
use Rattle.std.proofs.Common.{ℕ, ◌≡◌, ◌≤◌, ◌+◌}
use Rattle.tide.specs.Stacks.{HasEmptied, cut_to}
use Rattle.tide.specs.Threads.{calling_of, stack_of}
use Rattle.tide.proofs.thread.Thread.cut.Given as goal

abbrev pub invariant-loop-self : goal.invariant-loop-self
invariant-loop-self g l = record {
  count : ℕ;
  above : cut_to l.initial.self l.initial.height ≤ l.self.top;
  all : l.self.top + count ≡ l.initial.self.top;
  empties : HasEmptied (calling_of l.initial.self) (calling_of l.self) l.self.top count;
  stack : stack_of l.self ≡ record (stack_of l.initial.self) { top = l.self.top };
}

abbrev pub decreases-loop-self : goal.decreases-loop-self
decreases-loop-self g l = l.self.top
