use Rattle.tide_call.proofs.reading_laws.CallReading.{calls_read_back, histories_read_back}
use Rattle.tide_call.proofs.laws.calls_read_back.Goals as goal

pub returns : goal.returns
returns c = record { reading = calls_read_back; history = histories_read_back }
