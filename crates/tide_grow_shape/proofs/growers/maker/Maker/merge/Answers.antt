use Rattle.std.proofs.Common.{List, inl, sym, subst}
use Rattle.tide_grow_shape.specs.transitions.Cells.{name_of}
use Rattle.tide_grow_shape.specs.transitions.Sights.{AreSights, edges_of}
use Rattle.tide_grow_shape.specs.transitions.Walks.{Includes}
use Rattle.tide_grow_shape.specs.declared.transitions.sight.Sight.{Sight}
use Rattle.tide_grow_shape.proofs.growers_laws.GrowingLaws.{Stands-more}
use Rattle.tide_grow_shape.proofs.growers_laws.TogetherLaws.{Stands-merged, all_merged, merged_on, kept_merged, only_merged}
use Rattle.tide_grow_shape.proofs.growers.maker.Maker.merge.Goals as goal

pub merge-requires-clause-theirs : goal.merge-requires-clause-theirs
merge-requires-clause-theirs c = subst (AreSights (name_of c.args.cells.now)) (sym c.as_slice.ensures) c.requires.theirs.seen

pub returns-in_err-merge-clause-stands : goal.returns-in_err-merge-clause-stands
returns-in_err-merge-clause-stands c = Stands-more (name_of c.args.cells.now) c.args.self.now.sights c.merge.new.self c.args.self.now.known c.requires.mine c.merge.ensures.sights c.merge.ensures.more

pub returns-in_err-merge-clause-only : goal.returns-in_err-merge-clause-only
returns-in_err-merge-clause-only c = λ shape keys knows. inl knows

pub returns-clause-stands : goal.returns-clause-stands
returns-clause-stands c = Stands-merged (name_of c.args.cells.now) c.args.self.now.sights c.merge.new.self c.args.other.now.sights c.args.self.now.known c.learn_all.new.self c.args.other.now.known
    c.requires.mine c.requires.theirs c.merge.ensures.sights c.merge.ensures.more c.learn_all.ensures.kept c.learn_all.ensures.among
    (subst (λ (ss : List Sight). Includes (edges_of ss) (edges_of c.merge.new.self)) c.as_slice.ensures c.in_ok-merge.ensures.merged)

pub returns-clause-kept : goal.returns-clause-kept
returns-clause-kept c = kept_merged (name_of c.args.cells.now) c.args.self.now.sights c.merge.new.self c.args.other.now.sights c.args.self.now.known c.learn_all.new.self c.args.other.now.known
    c.requires.mine c.requires.theirs c.merge.ensures.sights c.merge.ensures.more c.learn_all.ensures.kept c.learn_all.ensures.among
    (subst (λ (ss : List Sight). Includes (edges_of ss) (edges_of c.merge.new.self)) c.as_slice.ensures c.in_ok-merge.ensures.merged)

pub returns-clause-merged : goal.returns-clause-merged
returns-clause-merged c = merged_on c.learn_all.result c.learn_all.ensures.merged (all_merged (name_of c.args.cells.now) c.args.self.now.sights c.merge.new.self c.args.other.now.sights c.args.self.now.known c.learn_all.new.self c.args.other.now.known
    c.requires.mine c.requires.theirs c.merge.ensures.sights c.merge.ensures.more c.learn_all.ensures.kept c.learn_all.ensures.among
    (subst (λ (ss : List Sight). Includes (edges_of ss) (edges_of c.merge.new.self)) c.as_slice.ensures c.in_ok-merge.ensures.merged))

pub returns-clause-only : goal.returns-clause-only
returns-clause-only c = only_merged (name_of c.args.cells.now) c.args.self.now.sights c.merge.new.self c.args.other.now.sights c.args.self.now.known c.learn_all.new.self c.args.other.now.known
    c.requires.mine c.requires.theirs c.merge.ensures.sights c.merge.ensures.more c.learn_all.ensures.kept c.learn_all.ensures.among
    (subst (λ (ss : List Sight). Includes (edges_of ss) (edges_of c.merge.new.self)) c.as_slice.ensures c.in_ok-merge.ensures.merged)
