use Rattle.std.proofs.Common.{ℕ, ◌≡◌, None, Some, sym, Option}
use Rattle.std.specs.Prelude.{IfNone}
use Rattle.tide_plain.specs.parts.Pairs.{pairs_of}
use Rattle.tide_plain.proofs.parts_laws.PairLaws.{pairs_of-lacks, lacks-position, IsSeat-position, IsSeat-empty, taken-position}
use Rattle.tide_plain.proofs.parts.pairs.seat.Goals as goal

pub returns-in-Some-clause-seat : goal.returns-in-Some-clause-seat
returns-in-Some-clause-seat c = IsSeat-position c.args.places.now c.args.key c.in-Some.place c.requires (sym c.in-Some.ensures.first)

pub returns-in-None-clause-seat : goal.returns-in-None-clause-seat
returns-in-None-clause-seat c = IsSeat-empty c.args.places.now c.args.key c.empty_place.result (sym c.in-None.ensures.first) c.empty_place.ensures.first

pub returns-in-None-clause-absent : goal.returns-in-None-clause-absent
returns-in-None-clause-absent c = step c.empty_place.result
  where
    step : (o : Option ℕ) → IfNone o (pairs_of c.args.places.now c.args.key ≡ None)
    step None = pairs_of-lacks c.args.places.now c.args.key (lacks-position c.args.places.now c.args.key (sym c.in-None.ensures.first))
    step (Some place) = tt

pub returns-in-None-clause-full : goal.returns-in-None-clause-full
returns-in-None-clause-full c = taken-position c.args.places.now c.empty_place.result c.empty_place.ensures.first
