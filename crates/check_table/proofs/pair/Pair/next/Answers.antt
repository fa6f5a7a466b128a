-- Both notes are those of all, and nobody has left.
use Rattle.std.proofs.Common.{refl, ◌∙◌, ap}
use Rattle.tide_table.proofs.Telling.{VisitsAreIn-none}
use Rattle.check_table.proofs.Pairing.{all_in, opened_both}
use Rattle.check_table.specs.Pairs.{gone_if}
use Rattle.check_table.proofs.pair.Pair.next.Goals as goal

pub go_on-requires : goal.go_on-requires
go_on-requires c = (let p = c.args.self.now in let s = c.requires.stopped in record {
  own = p.own;
  part = s.part.part;
  all = all_in p.heap.key.layout p.collector.seat.me.0.notes p.collector.seat.me.0.gone p.small s.notes;
  visits = VisitsAreIn-none p.heap.key.layout p.collector.seat.me.0 p.small.no_visitors s.part.unvisited;
})

pub returns-clause-opened : goal.returns-clause-opened
returns-clause-opened c =
    let p = c.args.self.now in
    let s = c.requires.stopped in
    opened_both _ p.collector.seat.me.0 s.one s.other c.requires.stay (s.alike ∙ c.requires.stay)
    (s.gone ∙ ap gone_if c.requires.stay) c.in_ok-go_on.ensures.next

pub returns-clause-calls : goal.returns-clause-calls
returns-clause-calls c = record { one = refl; other = refl; left = refl }
