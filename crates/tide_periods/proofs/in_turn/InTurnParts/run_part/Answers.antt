-- Answers to the goals of in_turn::InTurnParts::run_part.
use Rattle.std.proofs.Common.{◌≡◌, ◌+◌, ◌∙◌, refl, sym, ap, subst, arith, List, [], ◌∷◌, length}
use Rattle.std.proofs.lemmas.List.{length-map, with_items_is}
use Rattle.std.specs.List.{list_all}
use Rattle.tide_model.specs.declared.op.Op.{Op}
use Rattle.tide_model.specs.declared.entry.Entry.TheVariants.{Open}
use Rattle.tide_model.specs.History.{plain}
use Rattle.tide_model.specs.Periods.{open_count}
use Rattle.tide_model.specs.State.{State}
use Rattle.tide_periods.specs.declared.cursor.ScriptCursor.{ScriptCursor}
use Rattle.tide_periods.specs.Asking.{scripts_of}
use Rattle.tide_periods.specs.Left.{total_by, total_left}
use Rattle.tide_periods.specs.Part.{AreCursors, RanPartBy}
use Rattle.tide_periods.proofs.Parting.{AreCursors-same}
use Rattle.tide_periods.proofs.in_turn.InTurnParts.run_part.Goals as goal

pub make_shares-requires-clause-cursors : goal.make_shares-requires-clause-cursors
make_shares-requires-clause-cursors g c =
    let old = g.T.Recorder.recorded c.args.self.now.recorder in
    let begun = g.T.Recorder.recorded c.open.new.self in
    let opens = c.in_ok-open.ensures.opened in
    subst (AreCursors begun) (sym c.as_mut_slice.ensures.value)
    (AreCursors-same old begun c.args.self.now.cursors.items (plain (Open (open_count old.history + 1) c.args.run) ∷ []) opens.same opens.history
    (λ who. refl) c.requires.cursors)

pub returns-clause-ran : goal.returns-clause-ran
returns-clause-ran g c =
    let old = g.T.Recorder.recorded c.args.self.now.recorder in
    let begun = g.T.Recorder.recorded c.open.new.self in
    let new = g.T.Recorder.recorded c.make_shares.new.recorder in
    let opens = c.in_ok-open.ensures.opened in
    let cursors = c.args.self.now.cursors in
    let made = c.make_shares.new.cursors in
    let ran = c.in_ok-ended.ensures in
    let value = c.as_mut_slice.ensures.value in
    let script : ScriptCursor → List Op = λ (x : ScriptCursor). x.ops.items in
    let as_many : length made ≡ length c.as_mut_slice.result.now = sym (length-map made script) ∙ ap length ran.scripts ∙ length-map c.as_mut_slice.result.now script in
    let whole = with_items_is cursors made (omega (arith, as_many, c.as_mut_slice.ensures.len)) in
    let had : total_left begun c.as_mut_slice.result.now ≡ total_left old cursors.items =
    ap (total_left begun) value ∙ ap (λ (s : State). total_by s.claims cursors.items) opens.state in
    subst (λ (l : List ScriptCursor). RanPartBy old new c.args.run cursors.items l c.in_ok-ended.ended) (sym whole) (record {
      ran = record { begun = begun; opened = opens; ran = ran.ran };
      cursors = ran.cursors;
      scripts = ran.scripts ∙ ap scripts_of value;
      left = (let left = ran.left in omega (arith, left, had));
      fewer = λ some not_all. (let fewer = ran.fewer some (ap (list_all (λ (x : ScriptCursor). x.retired)) value ∙ not_all) in omega (arith, fewer, had));
    })
