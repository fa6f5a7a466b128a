use Rattle.tide_text.proofs.ReadBackLaws.{texts_read_back}
use Rattle.tide_text.proofs.read_back.texts_read_back.Goals as goal

pub returns : goal.returns
returns c = texts_read_back
