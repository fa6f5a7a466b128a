use Rattle.std.proofs.Common.{refl}
use Rattle.tide_grow_shape.proofs.growers.maker.Maker.refuse.Goals as goal

pub returns-in-Many-clause-alone : goal.returns-in-Many-clause-alone
returns-in-Many-clause-alone c = λ other. absurd (other _ refl)
