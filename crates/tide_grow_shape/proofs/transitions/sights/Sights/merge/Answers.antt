use native.Mathlib.Omega.{arith}
use Rattle.tide_grow_shape.specs.transitions.Cells.{name_of}
use Rattle.tide_grow_shape.proofs.transitions_laws.MergeLaws.{merges_all, merges_more}
use Rattle.tide_grow_shape.proofs.transitions.sights.Sights.merge.Goals as goal

pub loop-sight-preserved : goal.loop-sight-preserved
loop-sight-preserved c = merges_more (name_of c.args.cells.now) c.args.self.now c.loop-sight.self c.merge_one.new.self c.args.others.now c.loop-sight.sight-index c.sight-item.result
    c.loop-sight.invariant c.merge_one.ensures.sights c.merge_one.ensures.more c.sight-item.is c.in_ok-merge_one.ensures.merged

pub returns-clause-merged : goal.returns-clause-merged
returns-clause-merged c = merges_all (name_of c.args.cells.now) c.args.self.now c.loop-sight.self c.args.others.now c.loop-sight.sight-index c.loop-sight.invariant (omega arith)
