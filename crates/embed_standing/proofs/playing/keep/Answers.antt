-- A keeper whose last turn answered that it is over has finished.
use Rattle.std.proofs.Common.{◌∙◌, Ok, ap, sym, true≢false}
use Rattle.embed_standing.proofs.playing.keep.Goals.{in-Over, in-Spent}
use Rattle.embed_standing.proofs.playing.keep.Goals as goal

pub returns-in-loop : goal.returns-in-loop
returns-in-loop g c =
    record {
      finished = λ is. elim c.match-turn.branch [
        | in-Over w ↦ c.next_turn.ensures.over (c.in-Ok.is ∙ ap Ok w.in-Over.is)
        | in-Spent w ↦ absurd (true≢false (sym is ∙ w.is_over-is))
      ];
    }

pub loop-preserved : goal.loop-preserved
loop-preserved g c = c.next_turn.ensures.opened (c.in-Ok.is ∙ ap Ok c.in-Opened.is)
