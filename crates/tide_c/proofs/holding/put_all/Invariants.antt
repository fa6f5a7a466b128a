-- The parties that came so far are behind the first handles.
use Rattle.std.proofs.Common.{◌≡◌, ◌++◌, length, map, take}
use Rattle.std.specs.Prelude.{All, Some}
use Rattle.std.specs.Vec.Iter.{into_iter_items}
use Rattle.tide_c.specs.Handles.{values}
use Rattle.tide_c.specs.Opened.{parties_in}
use Rattle.tide_c.specs.Parties.{PartyStands}
use Rattle.tide_c.proofs.holding.put_all.Given as goal

abbrev pub invariant-loop-party : goal.invariant-loop-party
invariant-loop-party l = record {
  counted : l.at ≡ length l.yielded;
  long : length l.handles ≡ length l.fn.handles;
  all : l.yielded ++ into_iter_items l.party-iterator ≡ l.fn.parties.items;
  stand : All PartyStands (parties_in (into_iter_items l.party-iterator));
  put : take l.at (values l.handles) ≡ map Some (parties_in l.yielded);
}
