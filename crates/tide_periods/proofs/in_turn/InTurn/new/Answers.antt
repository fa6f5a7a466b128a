-- Answers to the goals of in_turn::InTurn::new.
use Rattle.std.proofs.Common.{◌≡◌, ◌∙◌, sym, ap, length, map}
use Rattle.std.proofs.lemmas.List.{length-map}
use Rattle.tide_periods.specs.declared.cursor.ScriptCursor.{ScriptCursor}
use Rattle.tide_periods.specs.Recorded.{Recorded}
use Rattle.tide_periods.proofs.Starting.{AreCursors-nothing}
use Rattle.tide_periods.proofs.in_turn.InTurn.new.Goals as goal

pub returns-clause-cursors : goal.returns-clause-cursors
returns-clause-cursors g c =
    let recorded : Recorded = g.T.Recorder.recorded c.args.recorder in
    let cursors = c.in_ok-cursors.cursors.items in
    let new = c.in_ok-cursors.ensures in
    let count : length cursors ≡ recorded.setting.layout.mutators =
    sym (length-map cursors (λ (c' : ScriptCursor). c'.ops.items)) ∙ ap length new.scripts_are ∙ length-map c.args.scripts.items (λ ops. ops.items) ∙ c.requires.mutators in
    AreCursors-nothing recorded cursors (map (λ ops. ops.items) c.args.scripts.items) c.requires.nothing new count c.requires.askable
