-- Answers to the goals of starting::shapes_from.
use Rattle.std.proofs.Common.{◌≡◌, ◌∙◌, None, Some, ap, sym, Err}
use Rattle.tide_run.proofs.running.starting.shapes_from.Goals as goal

pub unreachable-requires : goal.unreachable-requires
unreachable-requires c =
    let clash : None ≡ Some c.in-Err-DoubleKey.field-0-0 =
    sym c.requires.distinct ∙ (c.new.ensures.double c.in-Err-DoubleKey.field-0-0).0 (c.in-Err-DoubleKey.is ∙ ap Err c.in-Err-DoubleKey.field-0-is) in
    absurd (cc)
