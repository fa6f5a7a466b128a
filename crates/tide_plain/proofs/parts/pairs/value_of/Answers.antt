use Rattle.std.proofs.Common.{sym, ◌∙◌, ap}
use Rattle.tide_plain.proofs.parts_laws.PairLaws.{pairs_of-lacks, lacks-position, pairs_of-position, held_value}
use Rattle.tide_plain.proofs.parts.pairs.value_of.Goals as goal

pub returns-in_err-place : goal.returns-in_err-place
returns-in_err-place c = rw c.from_residual.ensures (sym (pairs_of-lacks c.args.places.now c.args.key (lacks-position c.args.places.now c.args.key (sym c.in_err-place.ensures.first))))

pub returns-in_err-pair : goal.returns-in_err-pair
returns-in_err-pair c =
    rw c.from_residual-in_err-pair.ensures
    (sym (pairs_of-position c.args.places.now c.args.key c.in_ok-place.place (sym c.in_ok-place.ensures.first) ∙ ap held_value c.in_err-pair.was))

pub returns : goal.returns
returns c = sym (pairs_of-position c.args.places.now c.args.key c.in_ok-place.place (sym c.in_ok-place.ensures.first) ∙ ap held_value c.in_ok-pair.was)
