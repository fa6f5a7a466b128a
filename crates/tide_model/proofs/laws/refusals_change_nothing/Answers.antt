use Rattle.std.proofs.Common.{◌∙◌, ap}
use Rattle.tide_model.proofs.Histories.{state_after-push}
use Rattle.tide_model.proofs.ReferenceLaws.{after_call-refused}
use Rattle.tide_model.specs.History.{state_after}
use Rattle.tide_model.specs.declared.entry.Entry.TheVariants.{Call}
use Rattle.tide_model.specs.declared.op.Reply.TheVariants.{Refused}
use Rattle.tide_model.proofs.laws.refusals_change_nothing.Goals as goal

pub returns : goal.returns
returns c = record {
  unchanged = λ layout shapes who op refusal old_seen new_seen old_mine new_mine made.
      ap (state_after layout) made.ends
      ∙ state_after-push layout made.between (record { entry = Call who op (Refused refusal); took = made.took })
      ∙ after_call-refused (state_after layout made.between) who op refusal made.took;
}
