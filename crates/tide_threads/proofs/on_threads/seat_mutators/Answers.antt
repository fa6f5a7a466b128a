-- Why there is a participant for each mutator's pass.
use Rattle.std.proofs.Common.{ℕ, suc, ◌≡◌, ◌+◌, ◌∙◌, sym, ap, arith, subst, List, [], ◌∷◌, ◌++◌, append_assoc, length, inl, inr}
use Rattle.std.proofs.lemmas.List.{length-append}
use Rattle.std.specs.Prelude.{None, Option, Some, slice_get}
use Rattle.std.specs.Vec.Iter.{into_iter_items}
use Rattle.crossbeam_utils.specs.Padded.{padded_value}
use Rattle.crossbeam_utils.specs.declared.cache_padded.CachePadded.{CachePadded}
use Rattle.tide_heap.specs.tide_core.machine.Frozen.{newcomer}
use Rattle.tide_periods.specs.declared.cursor.ScriptCursor.{ScriptCursor}
use Rattle.tide_table.specs.Started.{ArePasses}
use Rattle.tide_threads.proofs.Acting.{cursors_in-append}
use Rattle.tide_threads.proofs.Seating.{found_pushed, length_push, number_at}
use Rattle.tide_threads.specs.Acting.{before_all, cursor_of, cursors_in}
use Rattle.tide_threads.specs.Fresh.{IsFresh}
use Rattle.tide_threads.specs.declared.participant.Participant.{Participant}
use Rattle.tide_threads.proofs.on_threads.seat_mutators.Goals as goal

pub loop-cursor-init : goal.loop-cursor-init
loop-cursor-init c = record {
  cursors = ap cursors_in c.requires.none;
  seated = ap length c.requires.none;
  as_many = ap length c.into_iter-cursor-iterator.ensures.into_iter_gives.0 ∙ c.requires.as_many
      ∙ sym (ap length c.into_iter-rest.ensures.rest);
  counted = c.into_iter-rest.ensures.len ∙ c.args.passes.ok.0 ∙ sym (ap length c.into_iter-rest.ensures.rest);
  whole = c.into_iter-cursor-iterator.ensures.into_iter_gives.0;
  left = λ id passes. subst (ArePasses id 0) (sym c.into_iter-rest.ensures.rest) passes;
  fresh = λ id cells passes at padded found.
      let none : None ≡ Some padded =
      sym (ap (λ (l : List (CachePadded Participant)). slice_get l at) c.requires.none) ∙ found in
      absurd (cc);
}

pub of_mutator-participant-requires : goal.of_mutator-participant-requires
of_mutator-participant-requires c =
    let so = c.loop-cursor.invariant in
    let yielded = c.loop-cursor.yielded in
    let cursor = c.in-Some.cursor in
    let left = into_iter_items c.next.new.self in
    let whole : yielded ++ cursor ∷ left ≡ c.args.cursors.items =
    ap (λ (l : List ScriptCursor). yielded ++ l) (sym c.in-Some.ensures.steps.0) ∙ so.whole in
    let number = number_at c.args.cursors.items yielded left cursor c.requires.numbers whole in
    let at = subst (ArePasses c.requires.passes.0 (length yielded)) c.in-Some-next.ensures.items
    (so.left c.requires.passes.0 c.requires.passes.1) in
    record { newcomer = at.1 ∙ ap newcomer (sym number) }

pub loop-cursor-preserved : goal.loop-cursor-preserved
loop-cursor-preserved c =
    let so = c.loop-cursor.invariant in
    let yielded = c.loop-cursor.yielded in
    let cursor = c.in-Some.cursor in
    let left = into_iter_items c.next.new.self in
    let items = c.loop-cursor.participants.items in
    let new = c.new.result in
    let whole : yielded ++ cursor ∷ left ≡ c.args.cursors.items =
    ap (λ (l : List ScriptCursor). yielded ++ l) (sym c.in-Some.ensures.steps.0) ∙ so.whole in
    let number = number_at c.args.cursors.items yielded left cursor c.requires.numbers whole in
    let many : length c.args.cursors.items ≡ length yielded + suc (length left) =
    ap length (sym whole) ∙ length-append yielded (cursor ∷ left) in
    record {
      cursors = ap cursors_in c.in_ok-append.ensures ∙ cursors_in-append items (new ∷ [])
          ∙ ap (λ (p : Participant). cursors_in items ++ before_all (cursor_of p.worker) []) c.new.ensures
          ∙ ap (λ (o : Option ScriptCursor). cursors_in items ++ before_all o []) c.of_mutator-participant.ensures.cursor
          ∙ ap (λ (l : List ScriptCursor). l ++ cursor ∷ []) so.cursors;
      seated = ap length c.in_ok-append.ensures ∙ length_push items new ∙ ap suc so.seated ∙ sym (length_push yielded cursor);
      as_many =
          let so_many : suc (length left) ≡ suc (length (into_iter_items c.next-in-loop-cursor.new.self)) =
          sym (ap length c.in-Some.ensures.steps.0) ∙ so.as_many ∙ ap length c.in-Some-next.ensures.items in
          omega (arith, so_many);
      counted =
          let passes : length (into_iter_items c.loop-cursor.rest) ≡ suc (length (into_iter_items c.next-in-loop-cursor.new.self)) =
          ap length c.in-Some-next.ensures.items in
          let before = so.counted in
          let less = c.in-Some-next.ensures.len in
          omega (arith, passes, before, less);
      whole = append_assoc yielded (cursor ∷ []) left ∙ whole;
      left = λ id passes.
          let at = subst (ArePasses id (length yielded)) c.in-Some-next.ensures.items (so.left id passes) in
          subst (λ (k : ℕ). ArePasses id k (into_iter_items c.next-in-loop-cursor.new.self))
          (sym (length_push yielded cursor)) at.2;
      fresh = λ id cells passes at padded found.
          let pass = subst (ArePasses id (length yielded)) c.in-Some-next.ensures.items (so.left id passes) in
          let all = c.requires.as_many in
          let made = c.of_mutator-participant.ensures.fresh (length c.args.passes.items) cells
          (omega (arith, number, many, all)) in
          elim (found_pushed items new at padded
          (sym (ap (λ (l : List (CachePadded Participant)). slice_get l at) c.in_ok-append.ensures) ∙ found)) [
            | inl old ↦ so.fresh id cells passes at padded old
            | inr last ↦
                subst (λ (p : CachePadded Participant). IsFresh id (length c.args.passes.items) cells at (padded_value p)) last.1
                (subst (λ (k : ℕ). IsFresh id (length c.args.passes.items) cells k (padded_value new))
                (sym (last.0 ∙ so.seated ∙ sym number))
                (subst (IsFresh id (length c.args.passes.items) cells cursor.who) (sym c.new.ensures)
                (subst (λ (i : _). IsFresh i (length c.args.passes.items) cells cursor.who c.of_mutator-participant.result) pass.0 made)))
          ];
    }
