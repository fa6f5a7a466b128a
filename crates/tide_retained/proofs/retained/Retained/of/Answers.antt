-- What is kept are the contents that were read, whose keys are those of shapes.
use Rattle.std.proofs.Common.{sym, subst}
use Rattle.std.proofs.lemmas.Result.{IfOk-weaker}
use Rattle.tide_retained.specs.Contents.{HasKeysOf}
use Rattle.tide_retained.proofs.retained.Retained.of.Goals as goal

pub returns-clause-keys : goal.returns-clause-keys
returns-clause-keys g c =
    IfOk-weaker c.retained_of.result _ _
    (λ kept same. subst (HasKeysOf (g.S.ShapeTable.lists c.args.shapes.now)) (sym same) c.in_ok-contents.ensures.keys) c.retained_of.ensures.contents
