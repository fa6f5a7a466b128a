-- What is meant was taken out of what was passed.
use Rattle.std.proofs.Common.{◌≡◌, ◌-◌, length}
use Rattle.tide_weakref.proofs.WeakLaws.{Passed}
use Rattle.tide_weakref.specs.Roles.{is_chosen}
use Rattle.tide_weakref.proofs.weaks.Weaks.give_up.Given as goal

abbrev pub invariant-passing : goal.invariant-passing
invariant-passing l = record {
  passed : Passed (is_chosen l.chosen) l.fn.self.uses.items l.self.uses.items l.place l.count;
  handles : l.self.handles ≡ l.fn.self.handles;
}

abbrev pub decreases-passing : goal.decreases-passing
decreases-passing l = length l.self.uses.items - l.place
