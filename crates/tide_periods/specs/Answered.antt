-- What a mutator asked for and was answered.
use Rattle.tide_model.specs.declared.op.Op.{Op}
use Rattle.tide_model.specs.declared.op.Reply.{Reply}
use Rattle.tide_periods.specs.declared.answered.Answered.{Answered}

-- an operation with its reply
abbrev pub pair_of : Answered → Op × Reply
pair_of answered = (answered.op, answered.reply)
