-- Answers to the goals of part::make_shares.
use Rattle.std.proofs.Common.{ℕ, ◌≡◌, ◌<◌, ◌+◌, ◌∙◌, refl, sym, ap, arith, subst, suc, get_or, length, ◌⊎◌, inl, inr, Bool, true, false, add-one}
use Rattle.std.proofs.lemmas.Bool.{eqb-true, eqb-false}
use Rattle.std.proofs.lemmas.Option.{slice_get-get_or, slice_get_within}
use Rattle.std.proofs.Math.Seq.{map-set_same}
use Rattle.std.specs.Prelude.{◌||◌, ◌==◌, Some, slice_get}
use Rattle.tide_periods.specs.declared.cursor.ScriptCursor.{ScriptCursor}
use Rattle.tide_periods.proofs.PartLoops.{IsPartway}
use Rattle.tide_periods.specs.Part.{RanShare}
use Rattle.tide_periods.proofs.Freezing.{one_fails}
use Rattle.tide_periods.proofs.LeftLaws.{claims_after-share, slice_get-set_other, total_by-share}
use Rattle.tide_periods.proofs.Parting.{AreCursors-share, IsPartway-nothing, IsPartway-share}
use Rattle.tide_periods.proofs.part.make_shares.Goals as goal
use Rattle.tide_periods.proofs.part.make_shares.Goals.{then-branch, else-branch}

pub run_share-requires-clause-cursor : goal.run_share-requires-clause-cursor
run_share-requires-clause-cursor g c =
    let at = c.loop-cursor.cursor-index in
    let cursors = c.loop-cursor.cursors in
    let below : at < length cursors = omega (arith, c.loop-cursor-test.true, c.loop-cursor.auto.cursors) in
    (c.loop-cursor.invariant.cursors.each at (get_or cursors at c.cursor-item.result) (slice_get-get_or cursors at c.cursor-item.result below)).1

pub loop-cursor-init : goal.loop-cursor-init
loop-cursor-init g c = record {
  way = IsPartway-nothing (g.T.Recorder.recorded c.args.recorder.now) c.args.run c.requires.settled;
  left = omega arith;
  fewer = λ some k x below found stays. absurd (omega (arith, below));
  later = λ k past. refl;
  stands = c.requires.stands;
  scripts = refl;
  cursors = c.requires.cursors;
}

pub loop-cursor-preserved : goal.loop-cursor-preserved
loop-cursor-preserved g c =
    let old = g.T.Recorder.recorded c.args.recorder.now in
    let now = g.T.Recorder.recorded c.loop-cursor.recorder in
    let new = g.T.Recorder.recorded c.run_share.new.recorder in
    let at = c.loop-cursor.cursor-index in
    let cursors = c.loop-cursor.cursors in
    let below : at < length cursors = omega (arith, c.loop-cursor-test.true, c.loop-cursor.auto.cursors) in
    let known = c.loop-cursor.invariant.cursors.each at (get_or cursors at c.cursor-item.result) (slice_get-get_or cursors at c.cursor-item.result below) in
    let stopped = c.in_ok-run_share.field-0 in
    let ran = subst (λ w. RanShare now new c.args.run w stopped) known.0 c.in_ok-run_share.ensures.ran in
    let ended : (c.loop-cursor.ended || stopped) ≡ c.if-branch.ended = elim c.if-branch.branch [
      | then-branch w ↦ ap (λ (b : Bool). c.loop-cursor.ended || b) w.if-branch.true ∙ or_true c.loop-cursor.ended ∙ sym w.ended-is
      | else-branch w ↦ ap (λ (b : Bool). c.loop-cursor.ended || b) w.if-branch.false ∙ or_false c.loop-cursor.ended ∙ sym w.ended-is
    ] in
    let sum = total_by-share now.state.claims new.state.claims cursors at c.run_share.new.cursor (get_or cursors at c.cursor-item.result)
    (slice_get-get_or cursors at c.cursor-item.result below)
    (λ k x apart found.
    let other = c.loop-cursor.invariant.cursors.each k x found in
    claims_after-share now new c.args.run x.who at stopped (λ same. apart (sym other.0 ∙ same)) c.loop-cursor.invariant.way.settled ran) in
    record {
      way = subst (λ (n : ℕ). IsPartway old new c.args.run n c.if-branch.ended) (sym (add-one at))
          (subst (IsPartway old new c.args.run (suc at)) ended
          (IsPartway-share old now new c.args.run at c.loop-cursor.ended stopped c.loop-cursor.invariant.way ran));
      left = (let changed = sum in let before = c.loop-cursor.invariant.left in let own = c.in_ok-run_share.ensures.left in omega (arith, changed, before, own));
      fewer = λ some k x below' found stays.
          let changed = sum in
          let own = c.in_ok-run_share.ensures.left in
          let kept = c.loop-cursor.invariant.left in
          elim (lt_cases k at below') [
            | inl earlier ↦ (let before = c.loop-cursor.invariant.fewer some k x earlier found stays in omega (arith, changed, before, own))
            | inr here ↦
                let both : Some (get_or cursors at c.cursor-item.result) ≡ Some x = sym (slice_get-get_or cursors at c.cursor-item.result below)
                ∙ c.loop-cursor.invariant.later at (omega arith) ∙ ap (slice_get c.args.cursors.now) (sym here) ∙ found in
                let one : get_or cursors at c.cursor-item.result ≡ x = cc in
                let less = c.in_ok-run_share.ensures.fewer some (ap (λ (y : ScriptCursor). y.retired) one ∙ stays) in
                omega (arith, changed, kept, less)
          ];
      later = λ k past.
          slice_get-set_other cursors at k c.run_share.new.cursor (λ same. omega (arith, same, past)) ∙ c.loop-cursor.invariant.later k (omega (arith, past));
      stands = c.in_ok-run_share.ensures.stands;
      scripts = map-set_same (λ (x : ScriptCursor). x.ops.items) cursors at c.run_share.new.cursor c.cursor-item.result (ap (λ ops. ops.items) c.in_ok-run_share.ensures.ops)
          ∙ c.loop-cursor.invariant.scripts;
      cursors = AreCursors-share now new cursors c.args.run at stopped c.run_share.new.cursor c.loop-cursor.invariant.cursors below ran
          (c.in_ok-run_share.ensures.who ∙ known.0) c.in_ok-run_share.ensures.cursor;
    }
  where
    or_true : (b : Bool) → (b || true) ≡ true
    or_true true = refl
    or_true false = refl

    or_false : (b : Bool) → (b || false) ≡ b
    or_false true = refl
    or_false false = refl

    lt_cases : (k at : ℕ) → k < at + 1 → (k < at) ⊎ (k ≡ at)
    lt_cases k at below = step (k == at) refl
      where
        step : (same : Bool) → (k == at) ≡ same → (k < at) ⊎ (k ≡ at)
        step true e = inr (eqb-true k at e)
        step false e = let apart = eqb-false k at e in inl (omega (arith, apart, below))

pub returns-clause-fewer : goal.returns-clause-fewer
returns-clause-fewer g c some not_all =
    let one = one_fails (λ (x : ScriptCursor). x.retired) c.args.cursors.now not_all in
    let within = slice_get_within c.args.cursors.now one.0 one.1 one.2 in
    c.loop-cursor.invariant.fewer some one.0 one.1 (omega (arith, within, c.loop-cursor.auto.cursor-index-end, c.loop-cursor-test.false)) one.2 one.3
