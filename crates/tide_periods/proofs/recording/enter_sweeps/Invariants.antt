-- What the loop of recording::enter_sweeps keeps.
use Rattle.std.proofs.Common.{◌≡◌, ◌++◌, map, slice_index_or, false}
use Rattle.tide_model.specs.declared.entry.Entry.TheVariants.{Sweep}
use Rattle.tide_model.specs.History.{plain}
use Rattle.tide_model.specs.Numbers.{numbers_where}
use Rattle.tide_periods.proofs.recording.enter_sweeps.Given as goal

abbrev pub invariant-loop-block : goal.invariant-loop-block
invariant-loop-block g l =
    l.events.items ≡ l.initial.events.items ++ map (λ block. plain (Sweep block)) (numbers_where (λ block. slice_index_or (g.S.Store.sweeps l.store) block false) l.block)
