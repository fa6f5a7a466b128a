use Rattle.std.proofs.Common.{◌∙◌, ap}
use Rattle.tide_model.specs.Applied.{put_register}
use Rattle.tide_model.specs.State.{State}
use Rattle.tide_model.specs.declared.val.Val.TheVariants.{Cell}
use Rattle.tide_plain.proofs.calls.allocation.bear.Goals as goal

pub returns : goal.returns
returns c = record {
  state = c.fill.ensures.state ∙ ap (λ (s : State). put_register s c.args.who c.args.dst (Cell c.args.cell)) c.bear.ensures.state;
  layout = c.fill.ensures.layout ∙ c.bear.ensures.layout;
  shapes = c.fill.ensures.shapes ∙ c.bear.ensures.shapes;
}
