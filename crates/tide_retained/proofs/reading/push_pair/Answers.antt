-- The word is one pair's, or none's.
use Rattle.tide_retained.proofs.OkLaws.{on_ok_both}
use Rattle.tide_retained.proofs.ReadLaws.{puts_none, puts_one}
use Rattle.tide_retained.proofs.reading.push_pair.Goals as goal

pub returns-in-Some : goal.returns-in-Some
returns-in-Some c = on_ok_both c.insert_pair.result (puts_one c.in-Some.key c.in-Some.value c.args.word c.args.pairs.now.items c.insert_pair.new.pairs.items (record { few = c.in-Some.ensures.key; number = c.in-Some.ensures.value; is_word = c.in-Some.ensures.pair }))
    c.insert_pair.ensures.rising c.insert_pair.ensures.each

pub returns-in-None : goal.returns-in-None
returns-in-None c = puts_none c.args.word c.args.pairs.now.items c.in-None.ensures.none
