-- A live cell's word is a structure's.
use Rattle.std.proofs.Common.{sym, ◌∙◌, ap, subst}
use Rattle.std.specs.Prelude.{slice_index}
use Rattle.tide_words.specs.forms.StructureWord.{IsStructureWord}
use Rattle.tide_retained.proofs.ReadLaws.{no_shape_is_read}
use Rattle.tide_retained.proofs.reading.read_shape.Goals as goal

pub returns-in-None-clause-shape : goal.returns-in-None-clause-shape
returns-in-None-clause-shape g c = λ held reads. absurd (c.in-None.ensures.none (subst IsStructureWord
    (sym (c.load.ensures.word ∙ ap (slice_index (g.W.Words.words c.args.words.now)) c.place.ensures.place)) (no_shape_is_read _ _ _ _ held reads)))
