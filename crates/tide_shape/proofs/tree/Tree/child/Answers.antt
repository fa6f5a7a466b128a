-- The walk begins at the newest child, stands still where it finds the key, and goes on to an older sibling.
use Rattle.std.proofs.Common.{suc, ◌<◌, length, sym, ◌∙◌, subst}
use Rattle.std.specs.Option.{option_map_or}
use Rattle.tide_shape.specs.Tree.{links_of}
use Rattle.tide_shape.proofs.WalkLaws.{IsAt, IsAt-newest, IsAt-older, walk_ends, walk_finds, shape_there, newest_read, older_read, last_read}
use Rattle.tide_shape.proofs.tree.Tree.child.Goals as goal

pub loop-at-init : goal.loop-at-init
loop-at-init c =
    let shapes = c.self.inside.shapes.items in
    let within = shape_there shapes c.args.self.now c.args.shape c.self.view_is c.requires in
    subst (λ at. IsAt (length shapes) (links_of shapes) c.args.shape c.args.key at)
    (newest_read shapes c.args.shape c.index.result.now within c.index.ensures)
    (IsAt-newest (length shapes) (links_of shapes) c.args.shape c.args.key c.self.invariant within)

pub returns-then-other-key-clause-added : goal.returns-then-other-key-clause-added
returns-then-other-key-clause-added c =
    let shapes = c.self.inside.shapes.items in
    let at = subst (λ at. IsAt (length shapes) (links_of shapes) c.args.shape c.args.key at) c.in-Some.is c.loop-at.invariant in
    walk_finds shapes c.args.self.now c.args.shape c.args.key c.in-Some.child c.self.view_is at
    (last_read shapes c.in-Some.child c.index-other.result.now at.child.0 c.index-other.ensures ∙ c.if-other-key.true)

pub loop-at-smaller : goal.loop-at-smaller
loop-at-smaller c =
    let shapes = c.self.inside.shapes.items in
    let at = subst (λ at. IsAt (length shapes) (links_of shapes) c.args.shape c.args.key at) c.in-Some.is c.loop-at.invariant in
    subst (λ at. option_map_or suc c.index-other.result.now.older_sibling 0 < option_map_or suc at 0) (sym c.in-Some.is)
    (subst (λ older. option_map_or suc older 0 < suc c.in-Some.child)
    (older_read shapes c.in-Some.child c.index-other.result.now at.child.0 c.index-other.ensures)
    (walk_ends (length shapes) (links_of shapes) c.in-Some.child c.self.invariant at.child.0))

pub loop-at-preserved : goal.loop-at-preserved
loop-at-preserved c =
    let shapes = c.self.inside.shapes.items in
    let at = subst (λ at. IsAt (length shapes) (links_of shapes) c.args.shape c.args.key at) c.in-Some.is c.loop-at.invariant in
    subst (λ older. IsAt (length shapes) (links_of shapes) c.args.shape c.args.key older)
    (older_read shapes c.in-Some.child c.index-other.result.now at.child.0 c.index-other.ensures)
    (IsAt-older (length shapes) (links_of shapes) c.args.shape c.args.key c.in-Some.child c.self.invariant at
    (λ same. c.if-other-key.false (sym (last_read shapes c.in-Some.child c.index-other.result.now at.child.0 c.index-other.ensures) ∙ same)))
