use Rattle.tide_grow_shape.proofs.growers_laws.NumberedLaws.{lists_all}
use Rattle.tide_grow_shape.proofs.growers.numbered.Numbered.new.Goals as goal

pub invariant_of-result : goal.invariant_of-result
invariant_of-result c = record {
  grower = c.args.all.now;
  holds = c.holds_together.ensures;
  by_number = lists_all c.args.all.now _ c.in_ok-lists.ensures.listed c.in_ok-lists.ensures.all c.in_ok-lists.ensures.last;
  by_parent = c.in_ok-children.ensures;
}

pub returns : goal.returns
returns c = lists_all c.args.all.now _ c.in_ok-lists.ensures.listed c.in_ok-lists.ensures.all c.in_ok-lists.ensures.last
