-- Its part is open still, and who rests may wake.
use Rattle.std.proofs.Common.{rules}
use Rattle.embed_standing.proofs.resting.keep_until_it_wakes.Goals as goal

pub join-kept-requires-after_bounds : goal.join-kept-requires-after_bounds
join-kept-requires-after_bounds g c κs within =
    let attended = c.keep_beside-attended.ensures in
    ((search rules, attended.stands c.if-not-is_open.false), (c.requires.room, attended.may))
