-- Why the heap that was started has all that two mutators step on.
use Rattle.std.proofs.Common.{◌∙◌, lit<, sym, subst}
use Rattle.check_table.specs.Working.{IsSmall}
use Rattle.check_table.proofs.starting.start_pair.Goals as goal

pub pair_of-requires-clause-small : goal.pair_of-requires-clause-small
pair_of-requires-clause-small c =
    subst IsSmall (sym (c.in_ok-start.ensures.layout ∙ c.new-layout.ensures.layout)) (record {
      two = λ _. 2;
      no_visitors = λ _. 0;
      has = record {
        registers = lit< tt;
        strong = lit< tt;
        weak = lit< tt;
        slot = record { cell_within = lit< tt; slot_within = lit< tt };
      };
    })
