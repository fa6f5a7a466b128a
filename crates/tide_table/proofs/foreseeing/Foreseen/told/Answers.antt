-- Why that is what the freeze did.
use Rattle.std.proofs.Common.{◌∙◌}
use Rattle.tide_table.proofs.foreseeing.Foreseen.told.Goals as goal
use Rattle.tide_table.specs.Foreseen.{told_of}

pub returns : goal.returns
returns g c =
    let e = c.is_marking-marks.ensures in
    let self = c.args.self in
    record {
      own = e.own;
      same = e.same;
      is = c.told_of.ensures.is ∙ (λ i. told_of self.marked self.begun (c.pauses-pauses.ensures i) (e.marks i));
      few = c.told_of.ensures.few;
    }
