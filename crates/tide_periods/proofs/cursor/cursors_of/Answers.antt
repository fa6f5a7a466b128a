-- Answers to the goals of cursor::cursors_of.
use Rattle.std.proofs.Common.{◌+◌, ◌∙◌, refl, sym, ap, arith, subst, length, map, List, [], ◌∷◌, ◌++◌}
use Rattle.std.proofs.lemmas.List.{length-append, map-append}
use Rattle.tide_periods.specs.declared.cursor.ScriptCursor.{ScriptCursor}
use Rattle.tide_periods.specs.Asking.{AreNew}
use Rattle.tide_periods.proofs.Starting.{AreNew-push}
use Rattle.tide_periods.proofs.cursor.cursors_of.Goals as goal

pub loop-ops-preserved : goal.loop-ops-preserved
loop-ops-preserved c =
    let so = c.loop-ops.invariant in
    let longer = length-append c.loop-ops.yielded (c.in-Some.ops ∷ []) in
    record {
      are = subst (AreNew c.append.new.list.items) (sym (map-append (λ ops. ops.items) c.loop-ops.yielded (c.in-Some.ops ∷ [])))
          (subst (λ (cs : List ScriptCursor). AreNew cs (map (λ ops. ops.items) c.loop-ops.yielded ++ c.in-Some.ops.items ∷ [])) (sym c.in_ok-append.ensures)
          (AreNew-push c.loop-ops.cursors.items (map (λ ops. ops.items) c.loop-ops.yielded) _ c.in-Some.ops.items so.are
          (record { number = so.who ∙ sym so.count; standing = refl; no_calls = c.in_ok-calls.ensures }) refl));
      who = (let w = so.who in omega (arith, w, longer));
      count = ap length c.in_ok-append.ensures ∙ length-append c.loop-ops.cursors.items _ ∙ ap (λ n. n + 1) so.count ∙ sym longer;
    }
