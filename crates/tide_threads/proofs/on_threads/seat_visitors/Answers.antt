-- Why there is a participant for each visitor's pass.
use Rattle.std.proofs.Common.{ℕ, suc, ◌≡◌, ◌+◌, ◌∙◌, refl, sym, ap, arith, subst, List, [], ◌∷◌, ◌++◌, append-nil, length, inl, inr}
use Rattle.std.specs.Prelude.{Option, slice_get}
use Rattle.std.specs.Vec.Iter.{into_iter_items}
use Rattle.crossbeam_utils.specs.Padded.{padded_value}
use Rattle.crossbeam_utils.specs.declared.cache_padded.CachePadded.{CachePadded}
use Rattle.tide_periods.specs.declared.cursor.ScriptCursor.{ScriptCursor}
use Rattle.tide_heap.specs.tide_words.marking.Greys.{Greys}
use Rattle.tide_table.specs.Started.{ArePasses}
use Rattle.tide_threads.proofs.Acting.{cursors_in-append}
use Rattle.tide_threads.proofs.Seating.{found_pushed, length_push}
use Rattle.tide_threads.specs.Acting.{before_all, cursor_of, cursors_in}
use Rattle.tide_threads.specs.Fresh.{IsFresh}
use Rattle.tide_threads.specs.declared.participant.Participant.{Participant}
use Rattle.tide_threads.proofs.on_threads.seat_visitors.Goals as goal

pub loop-pass-init : goal.loop-pass-init
loop-pass-init c = record {
  cursors = refl;
  seated = omega arith;
  left = λ id passes. subst (ArePasses id 16) (sym c.into_iter-pass-iterator.ensures.into_iter_gives.0) passes;
  fresh = λ id passes fresh. fresh;
}

pub of_visitor-participant-requires : goal.of_visitor-participant-requires
of_visitor-participant-requires c =
    let so = c.loop-pass.invariant in
    let yielded = c.loop-pass.yielded in
    let at = subst (ArePasses c.requires.passes.0 (16 + length yielded)) c.in-Some.ensures.steps.0 (so.left c.requires.passes.0 c.requires.passes.1) in
    record {
      newcomer = (16 + length yielded, at.1);
      empty = ap (λ (s : Greys). s.cells) c.in_ok-stack.ensures;
    }

pub loop-pass-preserved : goal.loop-pass-preserved
loop-pass-preserved c =
    let so = c.loop-pass.invariant in
    let yielded = c.loop-pass.yielded in
    let pass = c.in-Some.pass in
    let left = into_iter_items c.next.new.self in
    let items = c.loop-pass.participants.items in
    let before = length c.args.participants.now.items in
    let new = c.new.result in
    let one_more = length_push yielded pass in
    record {
      cursors = ap cursors_in c.in_ok-append.ensures ∙ cursors_in-append items (new ∷ [])
          ∙ ap (λ (p : Participant). cursors_in items ++ before_all (cursor_of p.worker) []) c.new.ensures
          ∙ ap (λ (o : Option ScriptCursor). cursors_in items ++ before_all o []) c.of_visitor-participant.ensures.no_cursor
          ∙ append-nil (cursors_in items) ∙ so.cursors;
      seated =
          let grown = ap length c.in_ok-append.ensures ∙ length_push items new in
          let seated = so.seated in
          omega (arith, grown, seated, one_more);
      left = λ id passes.
          let at = subst (ArePasses id (16 + length yielded)) c.in-Some.ensures.steps.0 (so.left id passes) in
          subst (λ (k : ℕ). ArePasses id k left) (let next : suc (16 + length yielded) ≡ 16 + length (yielded ++ pass ∷ []) =
          omega (arith, one_more) in next) at.2;
      fresh = λ id passes fresh at padded found.
          let pass_at = subst (ArePasses id (16 + length yielded)) c.in-Some.ensures.steps.0 (so.left id passes) in
          let made = c.of_visitor-participant.ensures.fresh before (length yielded) pass_at.1 in
          elim (found_pushed items new at padded
          (sym (ap (λ (l : List (CachePadded Participant)). slice_get l at) c.in_ok-append.ensures) ∙ found)) [
            | inl old ↦ so.fresh id passes fresh at padded old
            | inr last ↦
                subst (λ (p : CachePadded Participant). IsFresh id before c.args.cells at (padded_value p)) last.1
                (subst (λ (k : ℕ). IsFresh id before c.args.cells k (padded_value new)) (sym (last.0 ∙ so.seated))
                (subst (IsFresh id before c.args.cells (before + length yielded)) (sym c.new.ensures)
                (subst (λ (n : ℕ). IsFresh id before n (before + length yielded) c.of_visitor-participant.result)
                (ap (λ (s : Greys). s.cap) c.in_ok-stack.ensures)
                (subst (λ (i : _). IsFresh i before c.in_ok-stack.stack.cap (before + length yielded) c.of_visitor-participant.result)
                pass_at.0 made))))
          ];
    }
