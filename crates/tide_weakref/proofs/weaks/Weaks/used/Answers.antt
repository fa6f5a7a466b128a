-- A handle in use is one of the range.
use Rattle.tide_weakref.proofs.WeakLaws.{contains_got, got_index, used_is_below}
use Rattle.tide_weakref.proofs.weaks.Weaks.used.Goals as goal

pub returns-clause-is : goal.returns-clause-is
returns-clause-is c = got_index c.args.self.now.uses.items c.args.place c.index.result.now c.requires c.index.ensures

pub returns-clause-within : goal.returns-clause-within
returns-clause-within c =
    let self = c.args.self.now in
    let one = c.index.result.now in
    let got = contains_got self.uses.items c.args.place one
    (got_index self.uses.items c.args.place one c.requires c.index.ensures) in
    used_is_below self.handles.count self.uses.items self.unused.items one (self.each one.at) (c.args.place, got.0, got.1)
